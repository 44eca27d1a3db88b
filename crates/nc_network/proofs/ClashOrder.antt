-- Clashes are in a linear order, so the earliest of several doesn't depend on how they are put together.
use Rattle.std.proofs.Common.{◌≡◌, ℕ, Bool, true, false, cond, Option, Some, None, refl, sym, ap, ◌∙◌, inl, inr, arith}
use Rattle.std.specs.Prelude.{nat_lt}
use Rattle.std.proofs.lemmas.Bool.{cases_Bool, both_ways}
use Rattle.std.proofs.lemmas.Bool.Decides.{nat_tests}
use Rattle.nc_types.specs.Joining.{Clash, before_or, is_before, earlier}
use Rattle.nc_network.specs.Steps.{merge}

-- ---- one number and what comes behind it

or_asym : (m n : ℕ) (p q : Bool) → (p ≡ true → q ≡ false) → before_or m n p ≡ true → before_or n m q ≡ false
or_asym m n true true h e = absurd (both_ways true (h refl) refl)
or_asym m n true false h e = grind (arith, nat_tests)
or_asym m n false q h e = grind (arith, nat_tests)

or_antisym : (m n : ℕ) (p q : Bool) → before_or m n p ≡ false → before_or n m q ≡ false → (m ≡ n) × (p ≡ false) × (q ≡ false)
or_antisym m n true true e f = grind (arith, nat_tests)
or_antisym m n true false e f = grind (arith, nat_tests)
or_antisym m n false true e f = grind (arith, nat_tests)
or_antisym m n false false e f = grind (arith, nat_tests)

or_trans : (m n o : ℕ) (p q r : Bool) → (p ≡ false → q ≡ false → r ≡ false) → before_or n m p ≡ false → before_or o n q ≡ false → before_or o m r ≡ false
or_trans m n o p q false h e f = grind (arith, nat_tests)
or_trans m n o true q true h e f = grind (arith, nat_tests)
or_trans m n o false true true h e f = grind (arith, nat_tests)
or_trans m n o false false true h e f = absurd (both_ways true (h refl refl) refl)

-- ---- clashes

abbrev lines_behind : Clash → Clash → Bool
lines_behind a b = nat_lt a.second_line b.second_line

abbrev seconds_behind : Clash → Clash → Bool
seconds_behind a b = before_or a.second b.second (lines_behind a b)

abbrev firsts_behind : Clash → Clash → Bool
firsts_behind a b = before_or a.first_line b.first_line (seconds_behind a b)

lt_asym : (m n : ℕ) → nat_lt m n ≡ true → nat_lt n m ≡ false
lt_asym m n e = grind (arith, nat_tests)

lt_antisym : (m n : ℕ) → nat_lt m n ≡ false → nat_lt n m ≡ false → m ≡ n
lt_antisym m n e f = grind (arith, nat_tests)

lt_trans : (m n o : ℕ) → nat_lt n m ≡ false → nat_lt o n ≡ false → nat_lt o m ≡ false
lt_trans m n o e f = grind (arith, nat_tests)

abbrev clash_at : ℕ → ℕ → ℕ → ℕ → Clash
clash_at first first_line second second_line = record { first = first; first_line = first_line; second = second; second_line = second_line }

same_clash : (a b : Clash) → a.first ≡ b.first → a.first_line ≡ b.first_line → a.second ≡ b.second → a.second_line ≡ b.second_line → a ≡ b
same_clash a b e1 e2 e3 e4 =
    ap (λ (n : ℕ). clash_at n a.first_line a.second a.second_line) e1 ∙ ap (λ (n : ℕ). clash_at b.first n a.second a.second_line) e2
    ∙ ap (λ (n : ℕ). clash_at b.first b.first_line n a.second_line) e3 ∙ ap (clash_at b.first b.first_line b.second) e4

pub before_asym : (a b : Clash) → is_before a b ≡ true → is_before b a ≡ false
before_asym a b e =
    or_asym a.first b.first (firsts_behind a b) (firsts_behind b a) (or_asym a.first_line b.first_line (seconds_behind a b) (seconds_behind b a) (or_asym a.second b.second (lines_behind a b) (lines_behind b a) (lt_asym a.second_line b.second_line))) e

pub before_antisym : (a b : Clash) → is_before a b ≡ false → is_before b a ≡ false → a ≡ b
before_antisym a b e f =
    let one = or_antisym a.first b.first (firsts_behind a b) (firsts_behind b a) e f in
    let two = or_antisym a.first_line b.first_line (seconds_behind a b) (seconds_behind b a) one.1 one.2 in
    let three = or_antisym a.second b.second (lines_behind a b) (lines_behind b a) two.1 two.2 in
    let four = lt_antisym a.second_line b.second_line three.1 three.2 in
    let e1 : a.first ≡ b.first = one.0 in
    let e2 : a.first_line ≡ b.first_line = two.0 in
    let e3 : a.second ≡ b.second = three.0 in
    same_clash a b e1 e2 e3 four

-- a is not behind b, nor b behind c, so a isn't behind c
pub not_before_trans : (a b c : Clash) → is_before b a ≡ false → is_before c b ≡ false → is_before c a ≡ false
not_before_trans a b c e f =
    or_trans a.first b.first c.first (firsts_behind b a) (firsts_behind c b) (firsts_behind c a)
    (or_trans a.first_line b.first_line c.first_line (seconds_behind b a) (seconds_behind c b) (seconds_behind c a)
    (or_trans a.second b.second c.second (lines_behind b a) (lines_behind c b) (lines_behind c a) (lt_trans a.second_line b.second_line c.second_line))) e f

before_trans : (a b c : Clash) → is_before b a ≡ true → is_before c b ≡ true → is_before c a ≡ true
before_trans a b c e f =
    elim (cases_Bool (is_before c a)) [
      | inl t ↦ t
      | inr u ↦ absurd (both_ways (is_before b a) (not_before_trans a c b u (before_asym c b f)) e)
    ]

-- ---- the earlier of two

pub earlier-second : (a b : Clash) → is_before b a ≡ true → earlier a b ≡ b
earlier-second a b e = ap (λ (t : Bool). cond t b a) e

pub earlier-first : (a b : Clash) → is_before b a ≡ false → earlier a b ≡ a
earlier-first a b e = ap (λ (t : Bool). cond t b a) e

pub earlier_comm : (a b : Clash) → earlier a b ≡ earlier b a
earlier_comm a b =
    elim (cases_Bool (is_before b a)) [
      | inl t ↦ earlier-second a b t ∙ sym (earlier-first b a (before_asym b a t))
      | inr u ↦ elim (cases_Bool (is_before a b)) [
        | inl t ↦ earlier-first a b u ∙ sym (earlier-second b a t)
        | inr w ↦ earlier-first a b u ∙ before_antisym a b w u ∙ sym (earlier-first b a w)
      ]
    ]

pub earlier_assoc : (a b c : Clash) → earlier (earlier a b) c ≡ earlier a (earlier b c)
earlier_assoc a b c =
    elim (cases_Bool (is_before b a)) [
      | inl x ↦ ap (λ (d : Clash). earlier d c) (earlier-second a b x) ∙ elim (cases_Bool (is_before c b)) [
        | inl y ↦ earlier-second b c y ∙ sym (ap (earlier a) (earlier-second b c y) ∙ earlier-second a c (before_trans a b c x y))
        | inr y ↦ earlier-first b c y ∙ sym (ap (earlier a) (earlier-first b c y) ∙ earlier-second a b x)
      ]
      | inr x ↦ ap (λ (d : Clash). earlier d c) (earlier-first a b x) ∙ elim (cases_Bool (is_before c b)) [
        | inl y ↦ ap (earlier a) (sym (earlier-second b c y))
        | inr y ↦ earlier-first a c (not_before_trans a b c x y) ∙ sym (ap (earlier a) (earlier-first b c y) ∙ earlier-first a b x)
      ]
    ]

-- ---- and of two that may be missing

pub merge-none : (o : Option Clash) → merge o None ≡ o
merge-none None = refl
merge-none (Some a) = refl

pub merge_comm : (o p : Option Clash) → merge o p ≡ merge p o
merge_comm None None = refl
merge_comm None (Some b) = refl
merge_comm (Some a) None = refl
merge_comm (Some a) (Some b) = ap (λ (d : Clash). Some d) (earlier_comm a b)

pub merge_assoc : (o p q : Option Clash) → merge (merge o p) q ≡ merge o (merge p q)
merge_assoc None p q = refl
merge_assoc (Some a) None q = refl
merge_assoc (Some a) (Some b) None = refl
merge_assoc (Some a) (Some b) (Some c) = ap (λ (d : Clash). Some d) (earlier_assoc a b c)

-- two pairs, put together crosswise
pub merge_cross : (o p q r : Option Clash) → merge (merge o p) (merge q r) ≡ merge (merge o q) (merge p r)
merge_cross o p q r =
    merge_assoc o p (merge q r) ∙ ap (merge o) (sym (merge_assoc p q r) ∙ ap (λ (s : Option Clash). merge s r) (merge_comm p q) ∙ merge_assoc q p r) ∙ sym (merge_assoc o q (merge p r))
