-- Counts to which marks are added, and from which they are taken.
use Rattle.std.proofs.Common.{◌≡◌, ℕ, ◌+◌, ◌<◌, ◌≤◌, ◌⊎◌, inl, inr, Bool, true, false, sym, ap, ◌∙◌, subst, refl, arith, nat_eq, nat_lt}
use Rattle.std.proofs.lemmas.Bool.{eq-eqb, ne_eqb, cases_eq, cases_order, lt-ltb, le-ltb}
use Rattle.nc_marks.specs.declared.mark.Mark.{Mark}
use Rattle.nc_marks.specs.declared.mark.Mark.TheVariants.{Strong, Weak, Uncovered, Outside}
use Rattle.nc_suite.specs.Counts.{Counts, counted, strong_count, covered_count, strong_by, covered_by, Adds, IsSpared, is_covered, over, marked_if}

none-by : (m : Mark) → is_covered m ≡ false → (strong_by m ≡ 0) × (covered_by m ≡ 0)
none-by Strong h = absurd (cc)
none-by Weak h = absurd (cc)
none-by Uncovered h = (refl, refl)
none-by Outside h = (refl, refl)

-- of two marks one at most counts
abbrev pub OneCounts : Mark → Mark → Type 0
OneCounts m n = (is_covered m ≡ false) ⊎ (is_covered n ≡ false)

strong-over : (m n : Mark) → OneCounts m n → strong_by (over m n) ≡ strong_by m + strong_by n
strong-over Strong n (inl h) = absurd (cc)
strong-over Strong n (inr h) = let z = (none-by n h).0 in omega arith
strong-over Weak n (inl h) = absurd (cc)
strong-over Weak n (inr h) = let z = (none-by n h).0 in omega arith
strong-over Uncovered n h = omega arith
strong-over Outside n h = omega arith

covered-over : (m n : Mark) → OneCounts m n → covered_by (over m n) ≡ covered_by m + covered_by n
covered-over Strong n (inl h) = absurd (cc)
covered-over Strong n (inr h) = let z = (none-by n h).1 in omega arith
covered-over Weak n (inl h) = absurd (cc)
covered-over Weak n (inr h) = let z = (none-by n h).1 in omega arith
covered-over Uncovered n h = omega arith
covered-over Outside n h = omega arith

-- the first mark adds no more than both
pub by-first : (m n : Mark) → (strong_by m ≤ strong_by (over m n)) × (covered_by m ≤ covered_by (over m n))
by-first Strong n = (omega arith, omega arith)
by-first Weak n = (omega arith, omega arith)
by-first Uncovered n = (omega arith, omega arith)
by-first Outside n = (omega arith, omega arith)

-- what one mark adds is what two others add
abbrev pub IsSum : Mark → Mark → Mark → Type 0
IsSum p m n = (strong_by p ≡ strong_by m + strong_by n) × (covered_by p ≡ covered_by m + covered_by n)

pub sum-over : (m n : Mark) → OneCounts m n → IsSum (over m n) m n
sum-over m n one = (strong-over m n one, covered-over m n one)

-- marks are added, and then others
pub adds-both : (M N P : ℕ → Mark) (a b c : Counts) → ((e : ℕ) → IsSum (P e) (M e) (N e)) → Adds M a b → Adds N b c → Adds P a c
adds-both M N P a b c sum first second = record {
  elements = second.elements ∙ first.elements;
  strong = λ e lt.
      let s = second.strong e (subst (λ n. e < n) (sym first.elements) lt) in
      let f = first.strong e lt in
      let o = (sum e).0 in
      omega arith;
  covered = λ e lt.
      let s = second.covered e (subst (λ n. e < n) (sym first.elements) lt) in
      let f = first.covered e lt in
      let o = (sum e).1 in
      omega arith;
}

-- in the other order
pub adds-other : (M N P : ℕ → Mark) (a b c : Counts) → ((e : ℕ) → IsSum (P e) (M e) (N e)) → Adds N a b → Adds M b c → Adds P a c
adds-other M N P a b c sum = adds-both N M P a b c (λ e. let s = sum e in (omega (arith, s.0), omega (arith, s.1)))

pub adds-same : (M N : ℕ → Mark) (a b : Counts) → ((e : ℕ) → e < counted a → M e ≡ N e) → Adds M a b → Adds N a b
adds-same M N a b same adds = record {
  elements = adds.elements;
  strong = λ e lt. adds.strong e lt ∙ ap (λ m. strong_count a e + strong_by m) (same e lt);
  covered = λ e lt. adds.covered e lt ∙ ap (λ m. covered_count a e + covered_by m) (same e lt);
}

-- one more element of those below a number
pub sum-below : (M : ℕ → Mark) (k e : ℕ) → IsSum (marked_if (nat_lt e (k + 1)) (M e)) (marked_if (nat_lt e k) (M e)) (marked_if (nat_eq e k) (M k))
sum-below M k e = elim (cases_order e k) [
  | inl s ↦ parts true false true (lt-ltb e (k + 1) (omega arith)) (le-ltb e k (omega arith)) (eq-eqb e k s) (subst (λ i. IsSum (M e) Uncovered (M i)) s (omega arith, omega arith))
  | inr other ↦ elim other [
    | inl low ↦ parts true true false (lt-ltb e (k + 1) (omega arith)) (lt-ltb e k low) (ne_eqb e k (λ s. omega arith)) (omega arith, omega arith)
    | inr high ↦ parts false false false (le-ltb e (k + 1) (omega arith)) (le-ltb e k (omega arith)) (ne_eqb e k (λ s. omega arith)) (refl, refl)
  ]
]
  where
    parts : (a b c : Bool) → nat_lt e (k + 1) ≡ a → nat_lt e k ≡ b → nat_eq e k ≡ c → IsSum (marked_if a (M e)) (marked_if b (M e)) (marked_if c (M k))
        → IsSum (marked_if (nat_lt e (k + 1)) (M e)) (marked_if (nat_lt e k) (M e)) (marked_if (nat_eq e k) (M k))
    parts a b c x y z is = rw x (rw y (rw z is))

-- no element is counted
pub adds-none : (M : ℕ → Mark) (a : Counts) → ((e : ℕ) → is_covered (M e) ≡ false) → Adds M a a
adds-none M a none = record {
  elements = refl;
  strong = λ e lt. let z = (none-by (M e) (none e)).0 in omega arith;
  covered = λ e lt. let z = (none-by (M e) (none e)).1 in omega arith;
}

-- one element is counted
pub adds-one : (a b : Counts) (element : ℕ) (m : Mark) → counted b ≡ counted a → strong_count b element ≡ strong_count a element + strong_by m → covered_count b element ≡ covered_count a element + covered_by m
    → ((e : ℕ) → (e ≡ element → ⊥) → (strong_count b e ≡ strong_count a e) × (covered_count b e ≡ covered_count a e)) → Adds (λ e. marked_if (nat_eq e element) m) a b
adds-one a b element m long strong covered others = record { elements = long; strong = strongs; covered = covereds }
  where
    strongs : (e : ℕ) → e < counted a → strong_count b e ≡ strong_count a e + strong_by (marked_if (nat_eq e element) m)
    strongs e lt = elim (cases_eq e element) [
      | inl s ↦ subst (λ i. strong_count b i ≡ strong_count a i + strong_by (marked_if (nat_eq i element) m)) (sym s)
          (strong ∙ ap (λ v. strong_count a element + strong_by (marked_if v m)) (sym (eq-eqb element element refl)))
      | inr ne ↦ let o = (others e ne).0 in let z = ap (λ v. strong_by (marked_if v m)) (ne_eqb e element ne) in omega arith
    ]

    covereds : (e : ℕ) → e < counted a → covered_count b e ≡ covered_count a e + covered_by (marked_if (nat_eq e element) m)
    covereds e lt = elim (cases_eq e element) [
      | inl s ↦ subst (λ i. covered_count b i ≡ covered_count a i + covered_by (marked_if (nat_eq i element) m)) (sym s)
          (covered ∙ ap (λ v. covered_count a element + covered_by (marked_if v m)) (sym (eq-eqb element element refl)))
      | inr ne ↦ let o = (others e ne).1 in let z = ap (λ v. covered_by (marked_if v m)) (ne_eqb e element ne) in omega arith
    ]

-- ---- spare marks

pub spared-over : (c : Counts) (e : ℕ) (m n : Mark) → IsSpared c e m → IsSpared c e n → IsSpared c e (over m n)
spared-over c e Strong n a b = a
spared-over c e Weak n a b = a
spared-over c e Uncovered n a b = b
spared-over c e Outside n a b = b

-- what isn't spared isn't with another mark behind it
pub spared-first : (c : Counts) (e : ℕ) (m n : Mark) → IsSpared c e (over m n) → IsSpared c e m
spared-first c e Strong n a = a
spared-first c e Weak n a = a
spared-first c e Uncovered n a = tt
spared-first c e Outside n a = tt
