-- The digits of a number, and of the next one.
use Rattle.std.proofs.Common.{◌≡◌, ℕ, suc, zero, ◌+◌, ◌-◌, ◌/◌, ◌%◌, ◌<◌, ◌≤◌, ◌^◌, inl, inr, List, [], ◌∷◌, ◌++◌, length, get_or, set, take, drop, replicate, refl, sym, ap, ◌∙◌, arith, lit<, append_assoc, length-append, length-drop}
use Rattle.std.specs.Fmt.{decimal}
use Rattle.std.specs.List.{insert}
use Rattle.std.proofs.lemmas.Bool.{cases_lt}
use Rattle.std.proofs.lemmas.Fmt.{decimal_digit, decimal_step, decimal_nonempty}
use Rattle.std.proofs.lemmas.List.{append_cancel_left, append_cancel_right, drop-drop, drop-set-add, drop-set-lt, drop_at, drop_more, get_or-drop, get_or_default, get_or-replicate, get_or-take, length-replicate, length-set, length-take-le, replicate_more, same_lists, set-append_left, take-append-drop, take-set-le, take-take, take_at}
use Rattle.nc_report.specs.Counters.{Numbered, HasDigits}

-- texts that end alike
snoc-same : (xs ys : List ℕ) (a b : ℕ) → xs ++ a ∷ [] ≡ ys ++ b ∷ [] → (a ≡ b) × (xs ≡ ys)
snoc-same xs ys a b e =
    let long : length ys ≡ length xs = omega (arith, ap length e, length-append xs (a ∷ []), length-append ys (b ∷ [])) in (
      ap (λ l. get_or l 0 0) (sym (drop_at xs (a ∷ []) (length xs) refl) ∙ ap (drop (length xs)) e ∙ drop_at ys (b ∷ []) (length xs) long),
      sym (take_at xs (a ∷ []) (length xs) refl) ∙ ap (take (length xs)) e ∙ take_at ys (b ∷ []) (length xs) long,
    )

-- one more of the same at the end
same-more : (ds : List ℕ) (x k y : ℕ) → (ds ++ x ∷ replicate k y) ++ y ∷ [] ≡ ds ++ x ∷ replicate (suc k) y
same-more ds x k y =
    let count : k + 1 ≡ suc k = omega arith in
    append_assoc ds (x ∷ replicate k y) (y ∷ []) ∙ ap (λ (t : List ℕ). ds ++ x ∷ t) (replicate_more k y ∙ ap (λ (m : ℕ). replicate m y) count)

-- a number of which the digits have one before the last
long-number : (n x : ℕ) (ds : List ℕ) → 0 < length ds → decimal n ≡ ds ++ x ∷ [] → 10 ≤ n
long-number n x ds some is = elim (cases_lt n 10) [
  | inl lt ↦ let l : length (ds ++ x ∷ []) ≡ 1 = ap length (sym is ∙ decimal_digit n lt) in absurd (omega (arith, length-append ds (x ∷ [])))
  | inr ge ↦ ge
]

-- the parts of such a number
number-parts : (n x : ℕ) (ds : List ℕ) → 10 ≤ n → n < 2 ^ 64 → decimal n ≡ ds ++ x ∷ [] → (x ≡ 48 + n % 10) × (ds ≡ decimal (n / 10))
number-parts n x ds big small is = snoc-same ds (decimal (n / 10)) x (48 + n % 10) (sym is ∙ decimal_step n big small)

less : (a b : ℕ) → a < b + 1 → (a ≡ b → ⊥) → a < b
less a b lt ne = elim (cases_lt a b) [
  | inl l ↦ l
  | inr g ↦ absurd (ne (omega arith))
]

-- the next number has one more where the digit before the nines is, and zeros behind it
pub next-digits : (k n x : ℕ) (ds : List ℕ) → (x ≡ 57 → ⊥) → n + 1 < 2 ^ 64 → decimal n ≡ ds ++ x ∷ replicate k 57 → (x ≤ 57) × (decimal (n + 1) ≡ ds ++ (x + 1) ∷ replicate k 48)
next-digits zero n x ds other small is = elim (cases_lt n 10) [
  | inl lt ↦
      let same : (x ≡ 48 + n) × (ds ≡ []) = snoc-same ds [] x (48 + n) (sym is ∙ decimal_digit n lt) in
      let few : n < 9 = less n 9 (omega arith) (λ e. other (omega (arith, same.0))) in (
        omega (arith, same.0),
        decimal_digit (n + 1) (omega arith) ∙ sym (ap (λ (l : List ℕ). l ++ (x + 1) ∷ []) same.1 ∙ ap (λ (y : ℕ). y ∷ []) (omega (arith, same.0))),
      )
  | inr ge ↦
      let parts : (x ≡ 48 + n % 10) × (ds ≡ decimal (n / 10)) = number-parts n x ds ge (omega arith) is in
      let few : n % 10 < 9 = less (n % 10) 9 (omega arith) (λ e. other (omega (arith, parts.0))) in
      let tens : (n + 1) / 10 ≡ n / 10 = omega arith in
      let ones : 48 + (n + 1) % 10 ≡ x + 1 = omega (arith, parts.0) in (
        omega (arith, parts.0),
        decimal_step (n + 1) (omega arith) small ∙ ap (λ (m : ℕ). decimal m ++ (48 + (n + 1) % 10) ∷ []) tens ∙ ap (λ (y : ℕ). decimal (n / 10) ++ y ∷ []) ones
            ∙ ap (λ (l : List ℕ). l ++ (x + 1) ∷ []) (sym parts.1),
      )
]
next-digits (suc k) n x ds other small is =
    let front : List ℕ = ds ++ x ∷ replicate k 57 in
    let whole : decimal n ≡ front ++ 57 ∷ [] = is ∙ sym (same-more ds x k 57) in
    let some : 0 < length front = omega (arith, length-append ds (x ∷ replicate k 57)) in
    let big : 10 ≤ n = long-number n 57 front some whole in
    let parts : (57 ≡ 48 + n % 10) × (front ≡ decimal (n / 10)) = number-parts n 57 front big (omega arith) whole in
    let before = next-digits k (n / 10) x ds other (omega arith) (sym parts.1) in
    let tens : (n + 1) / 10 ≡ n / 10 + 1 = omega (arith, parts.0) in
    let ones : 48 + (n + 1) % 10 ≡ 48 = omega (arith, parts.0) in (
      before.0,
      decimal_step (n + 1) (omega arith) small ∙ ap (λ (m : ℕ). decimal m ++ (48 + (n + 1) % 10) ∷ []) tens ∙ ap (λ (y : ℕ). decimal (n / 10 + 1) ++ y ∷ []) ones
          ∙ ap (λ (l : List ℕ). l ++ 48 ∷ []) before.1 ∙ same-more ds (x + 1) k 48,
    )

tens : (n : ℕ) → 48 + n ≡ 57 → (n + 1) / 10 ≡ 1
tens n nine = omega arith

-- behind a number of nines comes one of a digit more
pub next-nines : (k n : ℕ) → n + 1 < 2 ^ 64 → decimal n ≡ replicate (suc k) 57 → decimal (n + 1) ≡ 49 ∷ replicate (suc k) 48
next-nines zero n small is = elim (cases_lt n 10) [
  | inl lt ↦
      let nine : 48 + n ≡ 57 = ap (λ l. get_or l 0 0) (sym (decimal_digit n lt) ∙ is) in
      decimal_step (n + 1) (omega arith) small ∙ ap (λ (m : ℕ). decimal m ++ (48 + (n + 1) % 10) ∷ []) (tens n nine)
      ∙ ap (λ (l : List ℕ). l ++ (48 + (n + 1) % 10) ∷ []) (decimal_digit 1 (lit< tt)) ∙ ap (λ (y : ℕ). 49 ∷ y ∷ []) (omega arith)
  | inr ge ↦
      let parts : (57 ≡ 48 + n % 10) × ([] ≡ decimal (n / 10)) = number-parts n 57 [] ge (omega arith) is in
      absurd (omega (arith, decimal_nonempty (n / 10) (omega arith), ap length parts.1))
]
next-nines (suc k) n small is =
    let front : List ℕ = replicate (suc k) 57 in
    let whole : decimal n ≡ front ++ 57 ∷ [] = is ∙ sym (same-more [] 57 k 57) in
    let some : 0 < length front = omega (arith, length-replicate {A = ℕ} (suc k) 57) in
    let big : 10 ≤ n = long-number n 57 front some whole in
    let parts : (57 ≡ 48 + n % 10) × (front ≡ decimal (n / 10)) = number-parts n 57 front big (omega arith) whole in
    let before : decimal (n / 10 + 1) ≡ 49 ∷ replicate (suc k) 48 = next-nines k (n / 10) (omega arith) (sym parts.1) in
    let tens : (n + 1) / 10 ≡ n / 10 + 1 = omega (arith, parts.0) in
    let ones : 48 + (n + 1) % 10 ≡ 48 = omega (arith, parts.0) in
    decimal_step (n + 1) (omega arith) small ∙ ap (λ (m : ℕ). decimal m ++ (48 + (n + 1) % 10) ∷ []) tens ∙ ap (λ (y : ℕ). decimal (n / 10 + 1) ++ y ∷ []) ones
    ∙ ap (λ (l : List ℕ). l ++ 48 ∷ []) before ∙ same-more [] 49 (suc k) 48

-- ---- in a text

-- digits behind a head
pub has-digits : (head tail text : List ℕ) (start end number : ℕ) → length head ≡ start → end ≡ start + length (decimal number) → text ≡ head ++ (decimal number ++ tail)
    → HasDigits text start end number × (take start text ≡ head) × (drop end text ≡ tail)
has-digits head tail text start end number long ends is =
    let first : take start text ≡ head = ap (take start) is ∙ take_at head (decimal number ++ tail) start long in
    let behind : drop end text ≡ tail
    = ap (drop end) (is ∙ sym (append_assoc head (decimal number) tail)) ∙ drop_at (head ++ decimal number) tail end (omega (arith, length-append head (decimal number))) in (
      record {
        starts = omega (arith, ap length is, length-append head (decimal number ++ tail));
        ends = ends;
        is = is ∙ ap (λ (h : List ℕ). h ++ (decimal number ++ tail)) (sym first) ∙ ap (λ (t : List ℕ). take start text ++ (decimal number ++ t)) (sym behind);
      },
      first,
      behind,
    )

pub first-digit : (head tail text : List ℕ) → text ≡ (head ++ 49 ∷ []) ++ tail → HasDigits text (length head) (length head + 1) 1
first-digit head tail text is =
    let one : decimal 1 ≡ 49 ∷ [] = decimal_digit 1 (lit< tt) in
    (has-digits head tail text (length head) (length head + 1) 1 refl (omega (arith, ap length one)) (is ∙ append_assoc head (49 ∷ []) tail ∙ ap (λ (d : List ℕ). head ++ (d ++ tail)) (sym one))).0

module _ (text : List ℕ) (start end number : ℕ) (has : HasDigits text start end number) where
  pub ends-within : (start ≤ end) × (end ≤ length text)
  ends-within =
      let l = ap length has.is in
      let a = length-append (take start text) (decimal number ++ drop end text) in
      let b = length-append (decimal number) (drop end text) in
      let c = length-take-le start text has.starts in
      let d = length-drop end text in (omega (arith, has.ends), omega (arith, has.ends))

  -- the nines between two places
  nines-are : (place : ℕ) → place ≤ end → ((k : ℕ) → place ≤ k → k < end → get_or text k 0 ≡ 57) → drop place text ≡ replicate (end - place) 57 ++ drop end text
  nines-are place le nines =
      sym (take-append-drop (end - place) (drop place text)) ∙ ap (λ (t : List ℕ). t ++ drop (end - place) (drop place text)) same
      ∙ ap (λ (t : List ℕ). replicate (end - place) 57 ++ t) (drop-drop (end - place) place text ∙ ap (λ (m : ℕ). drop m text) (omega arith))
    where
      long : length (take (end - place) (drop place text)) ≡ end - place
      long = length-take-le (end - place) (drop place text) (omega (arith, length-drop place text, ends-within.1))

      same : take (end - place) (drop place text) ≡ replicate (end - place) 57
      same = same_lists (take (end - place) (drop place text)) (replicate (end - place) 57) (long ∙ sym (length-replicate (end - place) 57))
          (λ k d lt. get_or-take (end - place) (drop place text) k d (omega (arith, long)) ∙ get_or-drop place text k d
          ∙ (default (place + k) d (omega (arith, long, ends-within.1)) ∙ nines (place + k) (omega arith) (omega (arith, long))) ∙ sym (get_or-replicate (end - place) k 57 d (omega (arith, long))))
        where
          default : (i d : ℕ) → i < length text → get_or text i d ≡ get_or text i 0
          default i d lt = get_or_default text i d 0 lt

  -- the head, the digits before the nines and the digit before those, the nines and the tail
  nines-split : (place : ℕ) → start < place → place ≤ end → ((k : ℕ) → place ≤ k → k < end → get_or text k 0 ≡ 57)
      → decimal number ≡ drop start (take (place - 1) text) ++ get_or text (place - 1) 0 ∷ replicate (end - place) 57
  nines-split place above le nines =
      append_cancel_right (decimal number) (front ++ x ∷ replicate (end - place) 57) (drop end text)
      (append_cancel_left (take start text) (decimal number ++ drop end text) ((front ++ x ∷ replicate (end - place) 57) ++ drop end text) (sym has.is ∙ whole))
    where
      front : List ℕ
      front = drop start (take (place - 1) text)

      x : ℕ
      x = get_or text (place - 1) 0

      heads : take (place - 1) text ≡ take start text ++ front
      heads = sym (take-append-drop start (take (place - 1) text)) ∙ ap (λ (h : List ℕ). h ++ front) (take-take start (place - 1) text (omega arith))

      before-place : place - 1 + 1 ≡ place
      before-place = omega arith

      rest : drop (place - 1) text ≡ x ∷ (replicate (end - place) 57 ++ drop end text)
      rest = drop_more text (place - 1) 0 (omega (arith, ends-within.1)) ∙ ap (λ (m : ℕ). x ∷ drop m text) before-place ∙ ap (λ (t : List ℕ). x ∷ t) (nines-are place le nines)

      whole : text ≡ take start text ++ ((front ++ x ∷ replicate (end - place) 57) ++ drop end text)
      whole = sym (take-append-drop (place - 1) text) ∙ ap (λ (h : List ℕ). h ++ drop (place - 1) text) heads ∙ append_assoc (take start text) front (drop (place - 1) text)
          ∙ ap (λ (t : List ℕ). take start text ++ (front ++ t)) rest ∙ ap (λ (t : List ℕ). take start text ++ t) (sym (append_assoc front (x ∷ replicate (end - place) 57) (drop end text)))

  -- the text after a digit was made one more, and the nines behind it zeros
  pub carried : (place : ℕ) (next : List ℕ) → start < place → place ≤ end → ((k : ℕ) → place ≤ k → k < end → get_or text k 0 ≡ 57) → (get_or text (place - 1) 0 ≡ 57 → ⊥) → number + 1 < 2 ^ 64
      → next ≡ take (place - 1) text ++ (get_or text (place - 1) 0 + 1) ∷ (replicate (end - place) 48 ++ drop end text)
      → HasDigits next start end (number + 1) × (take start next ≡ take start text) × (drop end next ≡ drop end text)
  carried place next above le nines other small is =
      has-digits (take start text) (drop end text) next start end (number + 1) (length-take-le start text has.starts)
      (has.ends ∙ ap (λ (m : ℕ). start + m) (ap length split ∙ length-append front (x ∷ replicate (end - place) 57) ∙ ap (λ (m : ℕ). length front + suc m) (length-replicate (end - place) 57 ∙ sym (length-replicate (end - place) 48))
      ∙ sym (length-append front ((x + 1) ∷ replicate (end - place) 48)) ∙ sym (ap length after)))
      (is ∙ ap (λ (h : List ℕ). h ++ (x + 1) ∷ (replicate (end - place) 48 ++ drop end text)) heads ∙ append_assoc (take start text) front ((x + 1) ∷ (replicate (end - place) 48 ++ drop end text))
      ∙ ap (λ (t : List ℕ). take start text ++ t) (sym (append_assoc front ((x + 1) ∷ replicate (end - place) 48) (drop end text)) ∙ ap (λ (t : List ℕ). t ++ drop end text) (sym after)))
    where
      front : List ℕ
      front = drop start (take (place - 1) text)

      x : ℕ
      x = get_or text (place - 1) 0

      heads : take (place - 1) text ≡ take start text ++ front
      heads = sym (take-append-drop start (take (place - 1) text)) ∙ ap (λ (h : List ℕ). h ++ front) (take-take start (place - 1) text (omega arith))

      split : decimal number ≡ front ++ x ∷ replicate (end - place) 57
      split = nines-split place above le nines

      after : decimal (number + 1) ≡ front ++ (x + 1) ∷ replicate (end - place) 48
      after = (next-digits (end - place) number x front other small split).1

  -- the digit before the nines
  pub digit-small : (place : ℕ) → start < place → place ≤ end → ((k : ℕ) → place ≤ k → k < end → get_or text k 0 ≡ 57) → (get_or text (place - 1) 0 ≡ 57 → ⊥) → number + 1 < 2 ^ 64 → get_or text (place - 1) 0 ≤ 57
  digit-small place above le nines other small =
      (next-digits (end - place) number (get_or text (place - 1) 0) (drop start (take (place - 1) text)) other small (nines-split place above le nines)).0

  -- the text after a digit was put before nines, which were made zeros
  pub lengthened : (next : List ℕ) → ((k : ℕ) → start ≤ k → k < end → get_or text k 0 ≡ 57) → number + 1 < 2 ^ 64
      → next ≡ take (start + 1) (insert text start 49) ++ (replicate (end - start) 48 ++ drop (end + 1) (insert text start 49))
      → HasDigits next start (end + 1) (number + 1) × (take start next ≡ take start text) × (drop (end + 1) next ≡ drop end text)
  lengthened next nines small is =
      has-digits (take start text) (drop end text) next start (end + 1) (number + 1) long
      (omega (arith, has.ends, ap length nines-all, ap length after, length-replicate {A = ℕ} (end - start) 57, length-replicate {A = ℕ} (end - start) 48))
      (is ∙ ap (λ (h : List ℕ). h ++ (replicate (end - start) 48 ++ drop (end + 1) (insert text start 49))) front
      ∙ ap (λ (t : List ℕ). (take start text ++ 49 ∷ []) ++ (replicate (end - start) 48 ++ t)) behind ∙ append_assoc (take start text) (49 ∷ []) (replicate (end - start) 48 ++ drop end text)
      ∙ ap (λ (d : List ℕ). take start text ++ (d ++ drop end text)) (sym after))
    where
      long : length (take start text) ≡ start
      long = length-take-le start text has.starts

      nines-all : decimal number ≡ replicate (end - start) 57
      nines-all = append_cancel_right (decimal number) (replicate (end - start) 57) (drop end text)
          (append_cancel_left (take start text) (decimal number ++ drop end text) (replicate (end - start) 57 ++ drop end text)
          (sym has.is ∙ sym (take-append-drop start text) ∙ ap (λ (t : List ℕ). take start text ++ t) (nines-are start ends-within.0 nines)))

      after : decimal (number + 1) ≡ 49 ∷ replicate (end - start) 48
      after =
          let some : 0 < end - start = omega (arith, has.ends, decimal_nonempty number (omega arith)) in
          let count : suc (end - start - 1) ≡ end - start = omega arith in
          next-nines (end - start - 1) number small (nines-all ∙ ap (λ (m : ℕ). replicate m 57) (sym count)) ∙ ap (λ (m : ℕ). 49 ∷ replicate m 48) count

      parts : insert text start 49 ≡ (take start text ++ 49 ∷ []) ++ drop start text
      parts = sym (append_assoc (take start text) (49 ∷ []) (drop start text))

      longer : length (take start text ++ 49 ∷ []) ≡ start + 1
      longer = omega (arith, length-append (take start text) (49 ∷ []), long)

      front : take (start + 1) (insert text start 49) ≡ take start text ++ 49 ∷ []
      front = ap (take (start + 1)) parts ∙ take_at (take start text ++ 49 ∷ []) (drop start text) (start + 1) longer

      behind : drop (end + 1) (insert text start 49) ≡ drop end text
      behind = ap (λ (m : ℕ). drop m (insert text start 49)) (omega (arith, ends-within.0)) ∙ sym (drop-drop (end - start) (start + 1) (insert text start 49)) ∙ ap (drop (end - start)) (ap (drop (start + 1)) parts ∙ drop_at (take start text ++ 49 ∷ []) (drop start text) (start + 1) longer)
          ∙ drop-drop (end - start) start text ∙ ap (λ (m : ℕ). drop m text) (omega (arith, ends-within.0))

  -- another byte before the digits, and behind them
  pub put-before : (place byte : ℕ) → place < length (take start text)
      → ◌≡◌ {A = Numbered} (record { head = take start (set text place byte); number = number; tail = drop end (set text place byte) }) (record { head = set (take start text) place byte; number = number; tail = drop end text })
  put-before place byte lt =
      let long = length-take-le start text has.starts in
      let head : take start (set text place byte) ≡ set (take start text) place byte
      = ap (λ (l : List ℕ). take start (set l place byte)) (sym (take-append-drop start text)) ∙ ap (take start) (set-append_left (take start text) (drop start text) place byte lt)
      ∙ take_at (set (take start text) place byte) (drop start text) start (length-set (take start text) place byte ∙ long) in
      ap (λ (h : List ℕ). record { head = h; number = number; tail = drop end (set text place byte) }) head
      ∙ ap (λ (t : List ℕ). record { head = set (take start text) place byte; number = number; tail = t }) (drop-set-lt end text place byte (omega (arith, long, ends-within.0)))

  pub put-behind : (place byte : ℕ)
      → ◌≡◌ {A = Numbered} (record { head = take start (set text (end + place) byte); number = number; tail = drop end (set text (end + place) byte) })
      (record { head = take start text; number = number; tail = set (drop end text) place byte })
  put-behind place byte =
      ap (λ (h : List ℕ). record { head = h; number = number; tail = drop end (set text (end + place) byte) }) (take-set-le start text (end + place) byte (omega (arith, ends-within.0)))
      ∙ ap (λ (t : List ℕ). record { head = take start text; number = number; tail = t }) (drop-set-add end text place byte)

-- the text of the next number, as it is seen
pub next-view : (text next kept : List ℕ) (start end until number : ℕ) (now : Numbered) → kept ≡ next → take start next ≡ take start text → drop until next ≡ drop end text
    → ◌≡◌ {A = Numbered} (record { head = take start text; number = number; tail = drop end text }) now
    → ◌≡◌ {A = Numbered} (record { head = take start kept; number = number + 1; tail = drop until kept }) (record { head = now.head; number = now.number + 1; tail = now.tail })
next-view text next kept start end until number now is head tail view =
    ap (λ (t : List ℕ). record { head = take start t; number = number + 1; tail = drop until t }) is ∙ ap (λ (h : List ℕ). record { head = h; number = number + 1; tail = drop until next }) head
    ∙ ap (λ (t : List ℕ). record { head = take start text; number = number + 1; tail = t }) tail ∙ ap (λ (v : Numbered). record { head = v.head; number = v.number + 1; tail = v.tail }) view
