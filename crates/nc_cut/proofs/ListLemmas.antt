-- Ascending variables, the set of all others, and which list is before which.
use Rattle.std.proofs.Common.{◌≡◌, ℕ, zero, suc, ◌+◌, ◌<◌, ◌≤◌, Bool, true, false, List, ◌∷◌, slice_index, Contains, refl, sym, arith}
use Rattle.std.specs.List.Sorted.{IsStrictlyIncreasing}
use Rattle.std.proofs.lemmas.Bool.{true_from_ne_false}
use Rattle.nc_diagram.specs.Sets.{has, all_but}
use Rattle.nc_diagram.proofs.AllButLemmas.{Ascends-increasing, Ascends-bound, all_but_lacks}
use Rattle.nc_diagram.proofs.CounterLemmas.{Ascends, IsStrictlyIncreasing-ascends}
use Rattle.nc_cut.specs.Cuts.{IsBefore}

-- strictly increasing variables ascend, and so do those behind the first
pub ascends : (vs : List ℕ) → IsStrictlyIncreasing vs → Ascends 0 vs
ascends vs up = Ascends-increasing 0 vs (λ _. omega arith) up

pub ascends_from : (from v : ℕ) (vs : List ℕ) → from ≤ v → IsStrictlyIncreasing (v ∷ vs) → Ascends from (v ∷ vs)
ascends_from from v vs le up = Ascends-increasing from (v ∷ vs) (λ _. le) up

pub ascends_behind : (v : ℕ) (vs : List ℕ) → IsStrictlyIncreasing (v ∷ vs) → Ascends (v + 1) vs
unfolding Ascends
ascends_behind v vs up = (ascends (v ∷ vs) up).1

pub increases_with : (v : ℕ) (vs : List ℕ) → Ascends (v + 1) vs → IsStrictlyIncreasing (v ∷ vs)
unfolding Ascends
increases_with v vs up = IsStrictlyIncreasing-ascends v (v ∷ vs) (omega arith, up)

pub ascends_first : (from v : ℕ) (vs : List ℕ) → Ascends from (v ∷ vs) → from ≤ v
unfolding Ascends
ascends_first from v vs up = up.0

-- a variable before those that are listed is a member of the set of all others
pub member_before : (v : ℕ) (vs : List ℕ) → Ascends (v + 1) vs → has (all_but vs) v ≡ true
member_before v vs up = true_from_ne_false (has (all_but vs) v) (λ out. (
    let c = (all_but_lacks vs v (IsStrictlyIncreasing-ascends (v + 1) vs up)).0 out in
    let bound = Ascends-bound (v + 1) vs v c.0 up c.1 c.2 in
    omega arith
    ))

-- the first of them is not
pub first_missing : (v : ℕ) (vs : List ℕ) → IsStrictlyIncreasing (v ∷ vs) → has (all_but (v ∷ vs)) v ≡ false
first_missing v vs up = (all_but_lacks (v ∷ vs) v up).1 (0, omega arith, refl)

-- without the first, the set of all others is the same but for that
pub agrees_behind : (v : ℕ) (vs : List ℕ) → IsStrictlyIncreasing (v ∷ vs) → (w : ℕ) → (w ≡ v → ⊥) → has (all_but vs) w ≡ has (all_but (v ∷ vs)) w
agrees_behind v vs up w other =
    let behind = all_but_lacks vs w (IsStrictlyIncreasing-ascends (v + 1) vs (ascends_behind v vs up)) in
    let whole = all_but_lacks (v ∷ vs) w up in
    same_bool (has (all_but vs) w) (has (all_but (v ∷ vs)) w) (λ out. whole.1 (later (behind.0 out))) (λ out. behind.1 (earlier (whole.0 out)))
  where
    later : Contains vs w → Contains (v ∷ vs) w
    later c = (suc c.0, omega (arith, c.1), c.2)

    earlier : Contains (v ∷ vs) w → Contains vs w
    earlier (zero, within, e) = absurd (other (sym e))
    earlier (suc k, within, e) = (k, omega arith, e)

    same_bool : (a b : Bool) → (a ≡ false → b ≡ false) → (b ≡ false → a ≡ false) → a ≡ b
    same_bool true true there back = refl
    same_bool true false there back = back refl
    same_bool false b there back = sym (there refl)

-- of two lists that begin alike the rests decide
pub before_behind : (v : ℕ) (one other : List ℕ) → IsBefore (v ∷ one) (v ∷ other) → IsBefore one other
before_behind v one other b = by b.place b.same_before b.lower
  where
    by : (place : ℕ) → ((k : ℕ) → k < place → slice_index (v ∷ one) k ≡ slice_index (v ∷ other) k) → slice_index (v ∷ one) place < slice_index (v ∷ other) place → IsBefore one other
    by zero same lower = absurd (omega arith)
    by (suc place) same lower = record { place = place; same_before = λ k lt. same (suc k) (omega arith); lower = lower }

-- a list that begins with a later variable is not before
pub later_not_before : (v j : ℕ) (vs js : List ℕ) → v < j → IsBefore (j ∷ js) (v ∷ vs) → ⊥
later_not_before v j vs js later b = by b.place b.same_before b.lower
  where
    by : (place : ℕ) → ((k : ℕ) → k < place → slice_index (j ∷ js) k ≡ slice_index (v ∷ vs) k) → slice_index (j ∷ js) place < slice_index (v ∷ vs) place → ⊥
    by zero same lower = omega arith
    by (suc place) same lower = (let e : j ≡ v = same 0 (omega arith) in omega arith)
