-- What the set of all variables but some lacks.
use Rattle.std.proofs.Common.{◌≡◌, ℕ, zero, suc, ◌+◌, ◌-◌, ◌<◌, ◌≤◌, ◌↔◌, true, false, List, [], ◌∷◌, ◌++◌, length, replicate, get_or, slice_index, Contains, sym, ap, subst, ◌∙◌, inl, inr, arith}
use Rattle.std.specs.List.Sorted.{IsStrictlyIncreasing}
use Rattle.std.proofs.lemmas.Bool.{cases_order, true≢false}
use Rattle.std.proofs.lemmas.List.{get_or-append_right, get_or_append_left, get_or-replicate, get_or_at, length-replicate}
use Rattle.nc_diagram.specs.Sets.{has, all_but, places_but}
use Rattle.nc_diagram.proofs.CounterLemmas.{Ascends}

-- strictly increasing numbers ascend from a number that is not above the first
pub Ascends-increasing : (from : ℕ) (vs : List ℕ) → (0 < length vs → from ≤ slice_index vs 0) → IsStrictlyIncreasing vs → Ascends from vs
unfolding Ascends
Ascends-increasing from [] head up = tt
Ascends-increasing from (v ∷ vs) head up = (
  head (omega arith),
  Ascends-increasing (v + 1) vs
      (λ some. let step : slice_index (v ∷ vs) 0 < slice_index (v ∷ vs) (0 + 1) = up 0 (omega arith) in omega arith)
      (λ k h. let e : suc k + 1 ≡ suc (k + 1) = omega arith in
      subst (λ j. slice_index vs k < slice_index (v ∷ vs) j) e (up (suc k) (omega arith))),
)

-- the listed variables are not below the first one
pub Ascends-bound : (from : ℕ) (vs : List ℕ) (w k : ℕ) → Ascends from vs → k < length vs → get_or vs k w ≡ w → from ≤ w
unfolding Ascends
Ascends-bound from [] w k a l e = absurd (omega arith)
Ascends-bound from (v ∷ vs) w zero a l e = omega (arith, a.0)
Ascends-bound from (v ∷ vs) w (suc k) a l e = omega (arith, a.0, Ascends-bound (v + 1) vs w k a.1 (omega arith) e)

places_lack : (from : ℕ) (vs : List ℕ) (w : ℕ) → Ascends from vs → from ≤ w → (get_or (places_but from vs) (w - from) true ≡ false) ↔ Contains vs w
unfolding Ascends
places_lack from [] w a l = (λ e. absurd (true≢false e), λ c. absurd (omega (arith, c.1)))
places_lack from (v ∷ vs) w a l =
    let front = replicate (v - from) true in
    let ones = length-replicate (v - from) true in
    elim (cases_order w v) [
      | inl e ↦
          (let out : get_or (front ++ false ∷ places_but (v + 1) vs) (w - from) true ≡ false = get_or_at front false (places_but (v + 1) vs) true (w - from) (omega (arith, a.0)) in
          (λ _. (0, omega arith, sym e), λ _. out))
      | inr either ↦
          elim either [
            | inl before ↦
                (let member : get_or (front ++ false ∷ places_but (v + 1) vs) (w - from) true ≡ true =
                get_or_append_left front (false ∷ places_but (v + 1) vs) true (w - from) (omega (arith, a.0)) ∙ get_or-replicate (v - from) (w - from) true true (omega (arith, a.0)) in (
                  λ e. absurd (true≢false (sym member ∙ e)),
                  λ c. absurd (earlier v vs w a.1 before c),
                ))
            | inr after ↦
                (let index : (w - from) - (v - from) ≡ suc (w - (v + 1)) = omega (arith, a.0) in
                let rest : get_or (front ++ false ∷ places_but (v + 1) vs) (w - from) true ≡ get_or (places_but (v + 1) vs) (w - (v + 1)) true =
                get_or-append_right front (false ∷ places_but (v + 1) vs) (v - from) (w - from) true ones (omega (arith, a.0))
                ∙ ap (λ i. get_or (false ∷ places_but (v + 1) vs) i true) index in
                let more = places_lack (v + 1) vs w a.1 (omega arith) in (
                  λ e. (let c = more.0 (sym rest ∙ e) in (suc c.0, omega (arith, c.1), c.2)),
                  λ c. rest ∙ more.1 (later v vs w after c),
                ))
          ]
    ]
  where
    earlier : (v : ℕ) (vs : List ℕ) (w : ℕ) → Ascends (v + 1) vs → w < v → Contains (v ∷ vs) w → ⊥
    earlier v vs w a l (zero, within, e) = omega arith
    earlier v vs w a l (suc k, within, e) = omega (arith, Ascends-bound (v + 1) vs w k a (omega arith) e)

    later : (v : ℕ) (vs : List ℕ) (w : ℕ) → v < w → Contains (v ∷ vs) w → Contains vs w
    later v vs w l (zero, within, e) = absurd (omega arith)
    later v vs w l (suc k, within, e) = (k, omega arith, e)

pub all_but_lacks : (missing : List ℕ) (v : ℕ) → IsStrictlyIncreasing missing → (has (all_but missing) v ≡ false) ↔ Contains missing v
unfolding all_but
all_but_lacks missing v up =
    let e : v - 0 ≡ v = omega arith in
    subst (λ k. (get_or (places_but 0 missing) k true ≡ false) ↔ Contains missing v) e
    (places_lack 0 missing v (Ascends-increasing 0 missing (λ _. omega arith) up) (omega arith))
