-- Cutting a text into lines, and a line into words.
use Rattle.std.proofs.Common.{◌≡◌, ◌≢◌, ℕ, zero, suc, ◌+◌, ◌-◌, ◌<◌, ◌≤◌, Bool, true, false, not, cond, List, [], ◌∷◌, length, map, filter, get_or, take, drop, Some, None, refl, sym, ap, ◌∙◌, subst, arith, inl, inr}
use Rattle.std.specs.Prelude.{position, unwrap_or}
use Rattle.std.specs.List.{slice_split, onto_first, position_or_len, prefix_len}
use Rattle.std.proofs.lemmas.Bool.{cases_lt, eq-eqb, ne_eqb, ltb-true, le-ltb, lt-ltb, not-true}
use Rattle.std.proofs.lemmas.Option.{cond_some}
use Rattle.std.proofs.lemmas.List.{drop_more, drop_all, take_all, get_or-drop, length-drop}
use Rattle.std.proofs.lemmas.List.Sums.{passes_at_first}
use Rattle.std.proofs.lemmas.List.Splits.{slice_split_first}
use Rattle.nc_lines.specs.Lines.{is_empty, is_feed, is_gap, without_empty_last, without_return, lines_of, words_of}

-- ---- places

position_some : {X : Type 0} (p : X → Bool) (xs : List X) (i : ℕ) → position p xs ≡ Some i → (position_or_len p xs < length xs) × (position_or_len p xs ≡ i)
position_some p xs i e =
    let found = cond_some _ _ _ e in
    (ltb-true _ _ found.0, found.1)

position_none : {X : Type 0} (p : X → Bool) (xs : List X) → position p xs ≡ None → length xs ≤ position_or_len p xs
position_none p xs e =
    elim (cases_lt (position_or_len p xs) (length xs)) [
      | inl below ↦
          let test = lt-ltb _ _ below in
          let some : position p xs ≡ Some (position_or_len p xs) = rw test refl in
          absurd (let clash : Some (position_or_len p xs) ≡ None = sym some ∙ e in cc)
      | inr past ↦ past
    ]

-- ---- parts

onto_some : {X : Type 0} (x : X) (parts : List (List X)) → (q : List X) × ((qs : List (List X)) × (onto_first x parts ≡ q ∷ qs))
onto_some x [] = (x ∷ [], ([], refl))
onto_some x (part ∷ parts) = (x ∷ part, (parts, refl))

-- a cut has a part
split_some : {X : Type 0} (p : X → Bool) (xs : List X) → (q : List X) × ((qs : List (List X)) × (slice_split p xs ≡ q ∷ qs))
split_some {X} p [] = ([], ([], refl))
split_some {X} p (x ∷ xs) =
    elim (p x) as (λ (b : Bool). (q : List X) × ((qs : List (List X)) × (cond b ([] ∷ slice_split p xs) (onto_first x (slice_split p xs)) ≡ q ∷ qs))) [
      | true ↦ ([], (slice_split p xs, refl))
      | false ↦ onto_some x (slice_split p xs)
    ]

-- where nothing passes there is one part
pub split_whole : {X : Type 0} (p : X → Bool) (xs : List X) → length xs ≤ position_or_len p xs → slice_split p xs ≡ xs ∷ []
split_whole p [] past = refl
split_whole {X} p (x ∷ xs) past =
    let on : (b : Bool) → suc (length xs) ≤ cond (not b) (1 + position_or_len p xs) 0 → cond b ([] ∷ slice_split p xs) (onto_first x (slice_split p xs)) ≡ (x ∷ xs) ∷ [] =
    λ b. elim b as (λ (b : Bool). suc (length xs) ≤ cond (not b) (1 + position_or_len p xs) 0 → cond b ([] ∷ slice_split p xs) (onto_first x (slice_split p xs)) ≡ (x ∷ xs) ∷ []) [
      | true ↦ λ h. absurd (omega arith)
      | false ↦ λ h. let below : length xs ≤ position_or_len p xs = omega arith in ap (λ (ps : List (List X)). onto_first x ps) (split_whole p xs below)
    ] in
    on (p x) past

pub split_missed : {X : Type 0} (p : X → Bool) (xs : List X) → position p xs ≡ None → slice_split p xs ≡ xs ∷ []
split_missed p xs e = split_whole p xs (position_none p xs e)

pub split_found : {X : Type 0} (p : X → Bool) (xs : List X) (i : ℕ) → position p xs ≡ Some i → slice_split p xs ≡ take i xs ∷ slice_split p (drop (i + 1) xs)
split_found {X} p [] i e = absurd (let found = position_some p [] i e in omega arith)
split_found {X} p (x ∷ xs) i e =
    let found = position_some p (x ∷ xs) i e in
    subst (λ (k : ℕ). slice_split p (x ∷ xs) ≡ take k (x ∷ xs) ∷ slice_split p (drop (k + 1) (x ∷ xs))) found.1 (slice_split_first p (x ∷ xs) x found.0)

-- a cut into three parts or more is none into two
pub split_more : {X : Type 0} (p : X → Bool) (xs before behind second rest : List X) → slice_split p xs ≡ before ∷ slice_split p behind → slice_split p behind ≡ second ∷ slice_split p rest
    → (a b : List X) → slice_split p xs ≡ a ∷ b ∷ [] → ⊥
split_more {X} p xs before behind second rest e f a b two =
    let some = split_some p rest in
    let three : slice_split p xs ≡ before ∷ second ∷ some.0 ∷ some.1.0 = e ∙ ap (λ (ps : List (List X)). before ∷ ps) (f ∙ ap (λ (ps : List (List X)). second ∷ ps) some.1.1) in
    let clash : a ∷ b ∷ [] ≡ before ∷ second ∷ some.0 ∷ some.1.0 = sym two ∙ three in
    cc

-- ---- lines

pub lines_of-cut : (text line rest : List ℕ) → slice_split is_feed text ≡ line ∷ slice_split is_feed rest → lines_of text ≡ without_return line ∷ lines_of rest
unfolding lines_of
lines_of-cut text line rest e =
    let some = split_some is_feed rest in
    ap (λ (ps : List (List ℕ)). map without_return (without_empty_last ps)) (e ∙ ap (λ (ps : List (List ℕ)). line ∷ ps) some.1.1) ∙ sym (ap (λ (ps : List (List ℕ)). without_return line ∷ map without_return (without_empty_last ps)) some.1.1)

pub lines_of-nil : lines_of [] ≡ []
unfolding lines_of
lines_of-nil = refl

pub lines_of-last : (text : List ℕ) → slice_split is_feed text ≡ text ∷ [] → 0 < length text → lines_of text ≡ without_return text ∷ []
unfolding lines_of
lines_of-last [] e some = absurd (omega arith)
lines_of-last (b ∷ bs) e some = ap (λ (ps : List (List ℕ)). map without_return (without_empty_last ps)) e

pub without_return-cut : (xs : List ℕ) → 0 < length xs → get_or xs (length xs - 1) 0 ≡ 13 → without_return xs ≡ take (length xs - 1) xs
without_return-cut [] some e = absurd (omega arith)
without_return-cut (b ∷ []) some e = ap (λ (t : Bool). cond t [] (b ∷ [])) (eq-eqb b 13 e)
without_return-cut (b ∷ c ∷ xs) some e =
    let k : length (b ∷ c ∷ xs) - 1 ≡ suc (length (c ∷ xs) - 1) = omega arith in
    let last : get_or (c ∷ xs) (length (c ∷ xs) - 1) 0 ≡ 13 = sym (ap (λ (n : ℕ). get_or (b ∷ c ∷ xs) n 0) k) ∙ e in
    ap (λ (ys : List ℕ). b ∷ ys) (without_return-cut (c ∷ xs) (omega arith) last) ∙ sym (ap (λ (n : ℕ). take n (b ∷ c ∷ xs)) k)

pub without_return-keeps : (xs : List ℕ) → get_or xs (length xs - 1) 0 ≢ 13 → without_return xs ≡ xs
without_return-keeps [] e = refl
without_return-keeps (b ∷ []) e = ap (λ (t : Bool). cond t [] (b ∷ [])) (ne_eqb b 13 e)
without_return-keeps (b ∷ c ∷ xs) e =
    let k : length (b ∷ c ∷ xs) - 1 ≡ suc (length (c ∷ xs) - 1) = omega arith in
    ap (λ (ys : List ℕ). b ∷ ys) (without_return-keeps (c ∷ xs) (λ last. e (ap (λ (n : ℕ). get_or (b ∷ c ∷ xs) n 0) k ∙ last)))

-- ---- words

pub words_of-nil : words_of [] ≡ []
unfolding words_of
words_of-nil = refl

words_of-gap : (b : ℕ) (bs : List ℕ) → is_gap b ≡ true → words_of (b ∷ bs) ≡ words_of bs
unfolding words_of
words_of-gap b bs gap = ap (λ (t : Bool). filter (λ word. not (is_empty word)) (cond t ([] ∷ slice_split is_gap bs) (onto_first b (slice_split is_gap bs)))) gap

-- gaps at the front are passed over
words_of-skip : (bs : List ℕ) → words_of bs ≡ words_of (drop (position_or_len (λ b. not (is_gap b)) bs) bs)
words_of-skip [] = refl
words_of-skip (b ∷ bs) =
    let rest = position_or_len (λ b. not (is_gap b)) bs in
    let on : (t : Bool) → is_gap b ≡ t → words_of (b ∷ bs) ≡ words_of (drop (cond (not (not t)) (1 + rest) 0) (b ∷ bs)) =
    λ t. elim t as (λ (t : Bool). is_gap b ≡ t → words_of (b ∷ bs) ≡ words_of (drop (cond (not (not t)) (1 + rest) 0) (b ∷ bs))) [
      | true ↦ λ gap. let k : 1 + rest ≡ suc rest = omega arith in words_of-gap b bs gap ∙ words_of-skip bs ∙ sym (ap (λ (n : ℕ). words_of (drop n (b ∷ bs))) k)
      | false ↦ λ gap. refl
    ] in
    on (is_gap b) refl

pub words_of-none : (bs : List ℕ) → position (λ b. not (is_gap b)) bs ≡ None → words_of bs ≡ []
words_of-none bs e =
    let past = position_none (λ b. not (is_gap b)) bs e in
    words_of-skip bs ∙ ap words_of (drop_all _ bs past) ∙ words_of-nil

taken_some : (n : ℕ) (bs : List ℕ) → 0 < n → 0 < length bs → is_empty (take n bs) ≡ false
taken_some zero bs h some = absurd (omega arith)
taken_some (suc n) [] h some = absurd (omega arith)
taken_some (suc n) (b ∷ bs) h some = refl

front_some : (bs : List ℕ) → 0 < length bs → is_gap (get_or bs 0 0) ≡ false → 0 < position_or_len is_gap bs
front_some [] some word = absurd (omega arith)
front_some (b ∷ bs) some word =
    let is : position_or_len is_gap (b ∷ bs) ≡ 1 + position_or_len is_gap bs = ap (λ (t : Bool). cond (not t) (1 + position_or_len is_gap bs) 0) word in
    omega arith

-- a line that begins with a word
word_first : (bs : List ℕ) → 0 < length bs → is_gap (get_or bs 0 0) ≡ false
    → words_of bs ≡ take (position_or_len is_gap bs) bs ∷ words_of (drop (position_or_len is_gap bs) bs)
unfolding words_of
word_first bs some word =
    let end = position_or_len is_gap bs in
    let kept : is_empty (take end bs) ≡ false = taken_some end bs (front_some bs some word) some in
    elim (cases_lt end (length bs)) [
      | inl below ↦
          let cut = slice_split_first is_gap bs 0 below in
          let rest : drop end bs ≡ get_or bs end 0 ∷ drop (end + 1) bs = drop_more bs end 0 below in
          let gone : words_of (drop end bs) ≡ words_of (drop (end + 1) bs) = ap words_of rest ∙ words_of-gap (get_or bs end 0) (drop (end + 1) bs) (passes_at_first is_gap bs 0 below) in
          ap (filter (λ w. not (is_empty w))) cut ∙ ap (λ (t : Bool). cond (not t) (take end bs ∷ words_of (drop (end + 1) bs)) (words_of (drop (end + 1) bs))) kept ∙ ap (λ (ws : List (List ℕ)). take end bs ∷ ws) (sym gone)
      | inr past ↦
          let all : take end bs ≡ bs = take_all end bs past in
          let full : is_empty bs ≡ false = sym (ap is_empty all) ∙ kept in
          ap (filter (λ w. not (is_empty w))) (split_whole is_gap bs past) ∙ ap (λ (t : Bool). cond (not t) (bs ∷ []) []) full ∙ sym (ap (λ (w : List ℕ). w ∷ words_of (drop end bs)) all ∙ ap (λ (r : List ℕ). bs ∷ words_of r) (drop_all end bs past))
    ]

unwrapped : {X : Type 0} (p : X → Bool) (xs : List X) → position_or_len p xs ≤ length xs → unwrap_or (position p xs) (length xs) ≡ position_or_len p xs
unwrapped p xs within =
    elim (cases_lt (position_or_len p xs) (length xs)) [
      | inl below ↦ rw (lt-ltb _ _ below) refl
      | inr past ↦ rw (le-ltb _ _ past) (omega arith)
    ]

prefix_within : {X : Type 0} (p : X → Bool) (xs : List X) → prefix_len p xs ≤ length xs
prefix_within p [] = omega arith
prefix_within p (x ∷ xs) =
    elim (p x) as (λ (b : Bool). cond b (1 + prefix_len p xs) 0 ≤ suc (length xs)) [
      | true ↦ omega (arith, prefix_within p xs)
      | false ↦ omega arith
    ]

-- the first word of a line, between the gaps before and behind it
pub words_of-cut : (line from : List ℕ) (start end : ℕ) → position (λ b. not (is_gap b)) line ≡ Some start → from ≡ drop start line → end ≡ unwrap_or (position is_gap from) (length from)
    → words_of line ≡ take end from ∷ words_of (drop end from)
words_of-cut line from start end e from-is end-is =
    let found = position_some (λ b. not (is_gap b)) line start e in
    let word : not (is_gap (get_or line start 0)) ≡ true = subst (λ (k : ℕ). not (is_gap (get_or line k 0)) ≡ true) found.1 (passes_at_first (λ b. not (is_gap b)) line 0 found.0) in
    let head : get_or from 0 0 ≡ get_or line start 0 = ap (λ (bs : List ℕ). get_or bs 0 0) from-is ∙ get_or-drop start line 0 0 ∙ ap (λ (k : ℕ). get_or line k 0) (omega arith) in
    let some : 0 < length from = rw from-is (omega (arith, length-drop start line, found)) in
    let place : end ≡ position_or_len is_gap from = end-is ∙ unwrapped is_gap from (prefix_within (λ b. not (is_gap b)) from) in
    words_of-skip line ∙ ap (λ (k : ℕ). words_of (drop k line)) found.1 ∙ ap words_of (sym from-is) ∙ subst (λ (k : ℕ). words_of from ≡ take k from ∷ words_of (drop k from)) (sym place) (word_first from some (ap is_gap head ∙ not-true _ word))

-- a word has a byte
pub word_some : (line from : List ℕ) (start end : ℕ) → position (λ b. not (is_gap b)) line ≡ Some start → from ≡ drop start line → end ≡ unwrap_or (position is_gap from) (length from)
    → 0 < end
word_some line from start end e from-is end-is =
    let found = position_some (λ b. not (is_gap b)) line start e in
    let word : not (is_gap (get_or line start 0)) ≡ true = subst (λ (k : ℕ). not (is_gap (get_or line k 0)) ≡ true) found.1 (passes_at_first (λ b. not (is_gap b)) line 0 found.0) in
    let head : get_or from 0 0 ≡ get_or line start 0 = ap (λ (bs : List ℕ). get_or bs 0 0) from-is ∙ get_or-drop start line 0 0 ∙ ap (λ (k : ℕ). get_or line k 0) (omega arith) in
    let len : length from ≡ length line - start = ap length from-is ∙ length-drop start line in
    let some : 0 < length from = omega arith in
    let place : end ≡ position_or_len is_gap from = end-is ∙ unwrapped is_gap from (prefix_within (λ b. not (is_gap b)) from) in
    let moved : 0 < position_or_len is_gap from = front_some from some (ap is_gap head ∙ not-true _ word) in
    omega arith

-- a word is taken off
pub rest_shorter : (line from : List ℕ) (start end : ℕ) → position (λ b. not (is_gap b)) line ≡ Some start → from ≡ drop start line → end ≡ unwrap_or (position is_gap from) (length from)
    → length (drop end from) < length line
rest_shorter line from start end e from-is end-is =
    let found = position_some (λ b. not (is_gap b)) line start e in
    let len : length from ≡ length line - start = ap length from-is ∙ length-drop start line in
    omega (arith, found, length-drop end from, word_some line from start end e from-is end-is)
