-- What is read at the front of a text is what its first words write.
use Rattle.std.proofs.Common.{◌≡◌, ◌≢◌, ℕ, ◌+◌, ◌*◌, ◌-◌, ◌<◌, ◌≤◌, ◌==◌, Bool, true, false, cond, not, ◌&&◌, nat_le, List, [], ◌∷◌, ◌++◌, length, filter, take, get_or, append-nil, append_assoc, Some, None, refl, sym, ap, ◌∙◌, arith}
use Rattle.std.specs.List.{slice_split, onto_first, list_all, list_any}
use Rattle.std.proofs.lemmas.Bool.{le-leb, and_parts, and_from, leb-true, ne_eqb}
use Rattle.std.proofs.lemmas.List.{take_more}
use Rattle.std.proofs.lemmas.List.Folds.{list_all-append}
use Rattle.nc_types.specs.Masks.{network_of}
use Rattle.nc_lines.specs.Lines.{is_empty, is_gap, words_of}
use Rattle.nc_lines.specs.Numbers.{is_digit, value_after, is_plain, number_of, address_of, address_of_parts, around_of, around_of_parts}
use Rattle.nc_lines.proofs.NumberLemmas.{number_of-digits}
use Rattle.nc_lines.proofs.LineLemmas.{words_of-nil}
use Rattle.nc_read_policy.specs.Fronts.{IsFrontNumber, IsFrontPrefix, ends_word}
use Rattle.nc_read_policy.proofs.HeadLemmas.{words_append}

-- ---- digits

pub value_after-push : (n : ℕ) (digits : List ℕ) (digit : ℕ) → value_after n (digits ++ digit ∷ []) ≡ 10 * value_after n digits + (digit - 48)
value_after-push n [] digit = refl
value_after-push n (d ∷ digits) digit = value_after-push (10 * n + (d - 48)) digits digit

-- one more digit
pub value_more : (text : List ℕ) (i value : ℕ) → i < length text → value_after 0 (take i text) ≡ value → value_after 0 (take (i + 1) text) ≡ 10 * value + (get_or text i 0 - 48)
value_more text i value within is =
    ap (value_after 0) (take_more text i 0 within) ∙ value_after-push 0 (take i text) (get_or text i 0) ∙ ap (λ (n : ℕ). 10 * n + (get_or text i 0 - 48)) is

pub digits_more : (text : List ℕ) (i : ℕ) → i < length text → list_all is_digit (take i text) ≡ true → is_digit (get_or text i 0) ≡ true → list_all is_digit (take (i + 1) text) ≡ true
digits_more text i within are digit =
    ap (list_all is_digit) (take_more text i 0 within) ∙ list_all-append is_digit (take i text) (get_or text i 0 ∷ []) ∙ and_from (list_all is_digit (take i text)) _ are (and_from (is_digit (get_or text i 0)) true digit refl)

-- what writes a number has digits alone, and one at least
pub record IsOfDigits (word : List ℕ) : Type 0 where
  pub some : 0 < length word
  pub digits : list_all is_digit word ≡ true

plain_is : (word : List ℕ) → is_plain word ≡ true → IsOfDigits word
plain_is [] plain = absurd (cc)
plain_is (a ∷ []) plain = record { some = omega arith; digits = and_from (is_digit a) true plain refl }
plain_is (a ∷ b ∷ bs) plain = record { some = omega arith; digits = (and_parts _ (list_all is_digit (a ∷ b ∷ bs)) plain).1 }

pub of_digits : (most : ℕ) (word : List ℕ) (n : ℕ) → number_of most word ≡ Some n → IsOfDigits word
unfolding number_of
of_digits most word n is = on (is_plain word) refl (nat_le (value_after 0 word) most) is
  where
    on : (b : Bool) → is_plain word ≡ b → (c : Bool) → cond (b && c) (Some (value_after 0 word)) None ≡ Some n → IsOfDigits word
    on true plain c is = plain_is word plain
    on false plain c is = absurd (cc)

digit_is : (b : ℕ) → is_digit b ≡ true → (48 ≤ b) × (b ≤ 57)
digit_is b digit = let both = and_parts (nat_le 48 b) (nat_le b 57) digit in (leb-true 48 b both.0, leb-true b 57 both.1)

no_dot : (b : ℕ) → is_digit b ≡ true → (b == 46) ≡ false
no_dot b digit = let is = digit_is b digit in ne_eqb b 46 (λ same. absurd (omega (arith, is, same)))

no_slash : (b : ℕ) → is_digit b ≡ true → (b == 47) ≡ false
no_slash b digit = let is = digit_is b digit in ne_eqb b 47 (λ same. absurd (omega (arith, is, same)))

no_gap : (b : ℕ) → is_digit b ≡ true → is_gap b ≡ false
no_gap b digit =
    let is = digit_is b digit in
    let space : (b == 32) ≡ false = ne_eqb b 32 (λ same. absurd (omega (arith, is, same))) in
    let tab : (b == 9) ≡ false = ne_eqb b 9 (λ same. absurd (omega (arith, is, same))) in
    rw (space, tab) refl

-- a test that no digit passes
none_passes : (p : ℕ → Bool) → ((b : ℕ) → is_digit b ≡ true → p b ≡ false) → (word : List ℕ) → list_all is_digit word ≡ true → list_any p word ≡ false
none_passes p never [] are = refl
none_passes p never (b ∷ word) are =
    let both = and_parts (is_digit b) (list_all is_digit word) are in
    rw (never b both.0) (none_passes p never word both.1)

none_joined : (p : ℕ → Bool) (xs : List ℕ) (g : ℕ) (ys : List ℕ) → list_any p xs ≡ false → p g ≡ false → list_any p ys ≡ false → list_any p (xs ++ g ∷ ys) ≡ false
none_joined p [] g ys a b c = rw b c
none_joined p (x ∷ xs) g ys a b c = on (λ rest. none_joined p xs g ys rest b c) (p x) refl a
  where
    on : (list_any p xs ≡ false → list_any p (xs ++ g ∷ ys) ≡ false) → (t : Bool) → p x ≡ t → list_any p (x ∷ xs) ≡ false → list_any p (x ∷ (xs ++ g ∷ ys)) ≡ false
    on further true is a = absurd (let clash : list_any p (x ∷ xs) ≡ true = rw is refl in cc)
    on further false is a = let rest : list_any p xs ≡ false = rw is at a in rw is (further rest)

-- ---- numbers of few digits

is_front : (most : ℕ) (text word behind : List ℕ) (n : ℕ) → text ≡ word ++ behind → 0 < length word → (1 < length word → get_or word 0 0 ≢ 48) → list_all is_digit word ≡ true → value_after 0 word ≡ n → n ≤ most
    → IsFrontNumber most text n behind
is_front most text word behind n whole some first are value within =
    record { word = word; whole = whole; writes = number_of-digits most word some first are (omega (arith, value, within)) ∙ ap Some value }

a_digit : (a : ℕ) → a ≤ 9 → is_digit (a + 48) ≡ true
a_digit a le = and_from (nat_le 48 (a + 48)) _ (le-leb 48 (a + 48) (omega arith)) (le-leb (a + 48) 57 (omega arith))

pub one_digit : (most : ℕ) (text behind : List ℕ) (a : ℕ) → text ≡ (a + 48) ∷ behind → a ≤ 9 → a ≤ most → IsFrontNumber most text a behind
one_digit most text behind a whole le within =
    is_front most text ((a + 48) ∷ []) behind a whole (omega arith) (λ long. absurd (omega arith)) (and_from (is_digit (a + 48)) true (a_digit a le) refl) (omega arith) within

pub two_digits : (most : ℕ) (text rest behind : List ℕ) (a b n : ℕ) → text ≡ (a + 48) ∷ rest → rest ≡ (b + 48) ∷ behind → a ≤ 9 → b ≤ 9 → a ≢ 0 → n ≡ a * 10 + b → n ≤ most → IsFrontNumber most text n behind
two_digits most text rest behind a b n whole more la lb some is within =
    is_front most text ((a + 48) ∷ (b + 48) ∷ []) behind n (whole ∙ ap (λ (bs : List ℕ). (a + 48) ∷ bs) more) (omega arith) (λ long zero. some (omega arith))
    (and_from (is_digit (a + 48)) _ (a_digit a la) (and_from (is_digit (b + 48)) true (a_digit b lb) refl)) (omega arith) within

pub three_digits : (most : ℕ) (text rest last behind : List ℕ) (a b c n : ℕ) → text ≡ (a + 48) ∷ rest → rest ≡ (b + 48) ∷ last → last ≡ (c + 48) ∷ behind → a ≤ 9 → b ≤ 9 → c ≤ 9 → a ≢ 0 → n ≡ (a * 10 + b) * 10 + c → n ≤ most
    → IsFrontNumber most text n behind
three_digits most text rest last behind a b c n whole more yet la lb lc some is within =
    is_front most text ((a + 48) ∷ (b + 48) ∷ (c + 48) ∷ []) behind n (whole ∙ ap (λ (bs : List ℕ). (a + 48) ∷ bs) (more ∙ ap (λ (bs : List ℕ). (b + 48) ∷ bs) yet)) (omega arith) (λ long zero. some (omega arith))
    (and_from (is_digit (a + 48)) _ (a_digit a la) (and_from (is_digit (b + 48)) _ (a_digit b lb) (and_from (is_digit (c + 48)) true (a_digit c lc) refl))) (omega arith) within

-- ---- parts

split_none : (p : ℕ → Bool) (xs : List ℕ) → list_any p xs ≡ false → slice_split p xs ≡ xs ∷ []
split_none p [] none = refl
split_none p (x ∷ xs) none = on (split_none p xs) (p x) refl none
  where
    on : (list_any p xs ≡ false → slice_split p xs ≡ xs ∷ []) → (t : Bool) → p x ≡ t → list_any p (x ∷ xs) ≡ false → slice_split p (x ∷ xs) ≡ (x ∷ xs) ∷ []
    on further true is none = absurd (let clash : list_any p (x ∷ xs) ≡ true = rw is refl in cc)
    on further false is none = let rest : list_any p xs ≡ false = rw is at none in rw is (ap (onto_first x) (further rest))

split_first : (p : ℕ → Bool) (xs : List ℕ) (g : ℕ) (ys : List ℕ) → list_any p xs ≡ false → p g ≡ true → slice_split p (xs ++ g ∷ ys) ≡ xs ∷ slice_split p ys
split_first p [] g ys none mark = rw mark refl
split_first p (x ∷ xs) g ys none mark = on (λ rest. split_first p xs g ys rest mark) (p x) refl none
  where
    on : (list_any p xs ≡ false → slice_split p (xs ++ g ∷ ys) ≡ xs ∷ slice_split p ys) → (t : Bool) → p x ≡ t → list_any p (x ∷ xs) ≡ false → slice_split p (x ∷ (xs ++ g ∷ ys)) ≡ (x ∷ xs) ∷ slice_split p ys
    on further true is none = absurd (let clash : list_any p (x ∷ xs) ≡ true = rw is refl in cc)
    on further false is none = let rest : list_any p xs ≡ false = rw is at none in rw is (ap (onto_first x) (further rest))

-- ---- prefixes

-- the four octets of an address with dots between them
abbrev dotted : List ℕ → List ℕ → List ℕ → List ℕ → List ℕ
dotted a b c d = a ++ 46 ∷ (b ++ 46 ∷ (c ++ 46 ∷ d))

dotted_address : (a b c d : List ℕ) (w x y z : ℕ) → number_of 255 a ≡ Some w → number_of 255 b ≡ Some x → number_of 255 c ≡ Some y → number_of 255 d ≡ Some z
    → address_of (dotted a b c d) ≡ Some (((w * 256 + x) * 256 + y) * 256 + z)
unfolding address_of
dotted_address a b c d w x y z ea eb ec ed =
    let dot : ℕ → Bool = λ b. b == 46 in
    let clear : (word : List ℕ) (n : ℕ) → number_of 255 word ≡ Some n → list_any dot word ≡ false = λ word n e. none_passes dot no_dot word (of_digits 255 word n e).digits in
    let parts : slice_split dot (dotted a b c d) ≡ a ∷ b ∷ c ∷ d ∷ [] =
    split_first dot a 46 (b ++ 46 ∷ (c ++ 46 ∷ d)) (clear a w ea) refl
    ∙ ap (λ (ps : List (List ℕ)). a ∷ ps) (split_first dot b 46 (c ++ 46 ∷ d) (clear b x eb) refl
    ∙ ap (λ (ps : List (List ℕ)). b ∷ ps) (split_first dot c 46 d (clear c y ec) refl ∙ ap (λ (ps : List (List ℕ)). c ∷ ps) (split_none dot d (clear d z ed)))) in
    ap address_of_parts parts ∙ rw (ea, eb, ec, ed) refl

-- a test that neither digits nor dots pass
dotted_none : (p : ℕ → Bool) → ((b : ℕ) → is_digit b ≡ true → p b ≡ false) → p 46 ≡ false → (a b c d : List ℕ) → IsOfDigits a → IsOfDigits b → IsOfDigits c → IsOfDigits d
    → list_any p (dotted a b c d) ≡ false
dotted_none p never dot a b c d da db dc dd =
    none_joined p a 46 (b ++ 46 ∷ (c ++ 46 ∷ d)) (none_passes p never a da.digits) dot
    (none_joined p b 46 (c ++ 46 ∷ d) (none_passes p never b db.digits) dot
    (none_joined p c 46 d (none_passes p never c dc.digits) dot (none_passes p never d dd.digits)))

slashed_around : (address len : List ℕ) (base n : ℕ) → list_any (λ b. b == 47) address ≡ false → list_any (λ b. b == 47) len ≡ false → address_of address ≡ Some base → number_of 32 len ≡ Some n
    → around_of (address ++ 47 ∷ len) ≡ Some (record { base = network_of base n; len = n })
unfolding around_of
slashed_around address len base n clear short ea en =
    let slash : ℕ → Bool = λ b. b == 47 in
    let parts : slice_split slash (address ++ 47 ∷ len) ≡ address ∷ len ∷ [] =
    split_first slash address 47 len clear refl ∙ ap (λ (ps : List (List ℕ)). address ∷ ps) (split_none slash len short) in
    ap around_of_parts parts ∙ rw (ea, en) refl

some_joined : (xs : List ℕ) (g : ℕ) (ys : List ℕ) → 0 < length (xs ++ g ∷ ys)
some_joined [] g ys = omega arith
some_joined (x ∷ xs) g ys = omega arith

joined_whole : (a b c d l behind : List ℕ) → a ++ 46 ∷ (b ++ 46 ∷ (c ++ 46 ∷ (d ++ 47 ∷ (l ++ behind)))) ≡ (dotted a b c d ++ 47 ∷ l) ++ behind
joined_whole a b c d l behind = simp append_assoc refl

-- four octets and a length, one behind the other
pub front_prefix : (text r s t u behind : List ℕ) (w x y z n : ℕ) → IsFrontNumber 255 text w (46 ∷ r) → IsFrontNumber 255 r x (46 ∷ s) → IsFrontNumber 255 s y (46 ∷ t) → IsFrontNumber 255 t z (47 ∷ u) → IsFrontNumber 32 u n behind
    → IsFrontPrefix text (((w * 256 + x) * 256 + y) * 256 + z) n behind
front_prefix text r s t u behind w x y z n fa fb fc fd fl =
    let a = fa.word in
    let b = fb.word in
    let c = fc.word in
    let d = fd.word in
    let l = fl.word in
    let da = of_digits 255 a w fa.writes in
    let db = of_digits 255 b x fb.writes in
    let dc = of_digits 255 c y fc.writes in
    let dd = of_digits 255 d z fd.writes in
    let dl = of_digits 32 l n fl.writes in
    record {
      word = dotted a b c d ++ 47 ∷ l;
      whole = fa.whole ∙ ap (λ (bs : List ℕ). a ++ 46 ∷ bs) (fb.whole ∙ ap (λ (bs : List ℕ). b ++ 46 ∷ bs) (fc.whole ∙ ap (λ (bs : List ℕ). c ++ 46 ∷ bs) (fd.whole ∙ ap (λ (bs : List ℕ). d ++ 47 ∷ bs) fl.whole)))
          ∙ joined_whole a b c d l behind;
      some = some_joined (dotted a b c d) 47 l;
      no_gap = none_joined is_gap (dotted a b c d) 47 l (dotted_none is_gap no_gap refl a b c d da db dc dd) refl (none_passes is_gap no_gap l dl.digits);
      writes = slashed_around (dotted a b c d) l _ n (dotted_none (λ b. b == 47) no_slash refl a b c d da db dc dd) (none_passes (λ b. b == 47) no_slash l dl.digits)
          (dotted_address a b c d w x y z fa.writes fb.writes fc.writes fd.writes) fl.writes;
    }

-- ---- words

abbrev full : List (List ℕ) → List (List ℕ)
full parts = filter (λ (word : List ℕ). not (is_empty word)) parts

word_alone : (word : List ℕ) → 0 < length word → list_any is_gap word ≡ false → words_of word ≡ word ∷ []
unfolding words_of
word_alone [] some none = absurd (omega arith)
word_alone (b ∷ bs) some none = ap full (split_none is_gap (b ∷ bs) none)

-- a word at the front
pub first_word : (text word behind : List ℕ) → text ≡ word ++ behind → 0 < length word → list_any is_gap word ≡ false → ends_word behind ≡ true → words_of text ≡ word ∷ words_of behind
first_word text word [] whole some none ends = ap words_of (whole ∙ append-nil word) ∙ word_alone word some none ∙ ap (λ (ws : List (List ℕ)). word ∷ ws) (sym words_of-nil)
first_word text word (b ∷ behind) whole some none ends =
    ap words_of whole ∙ words_append word (b ∷ behind) ends ∙ ap (λ (ws : List (List ℕ)). ws ++ words_of (b ∷ behind)) (word_alone word some none)

pub first_number : (most : ℕ) (text : List ℕ) (n : ℕ) (behind : List ℕ) (f : IsFrontNumber most text n behind) → ends_word behind ≡ true → words_of text ≡ f.word ∷ words_of behind
first_number most text n behind f ends =
    let is = of_digits most f.word n f.writes in
    first_word text f.word behind f.whole is.some (none_passes is_gap no_gap f.word is.digits) ends

-- a gap at the front
pub behind_gap : (b : ℕ) (bs : List ℕ) → is_gap b ≡ true → words_of (b ∷ bs) ≡ words_of bs
unfolding words_of
behind_gap b bs gap = ap (λ (t : Bool). full (cond t ([] ∷ slice_split is_gap bs) (onto_first b (slice_split is_gap bs)))) gap
