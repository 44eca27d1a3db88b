-- Walks over the ways that are left.
use Rattle.std.proofs.Common.{◌≡◌, ℕ, suc, ◌+◌, ◌-◌, ◌<◌, ◌≤◌, Bool, true, false, cond, List, [], ◌∷◌, ◌++◌, Option, Some, None, refl, sym, ap, ◌∙◌, arith}
use Rattle.std.specs.List.{cons_option, filter, flat_map, range_with_len}
use Rattle.nc_tables.specs.declared.longest.Rows.{Rows}
use Rattle.nc_tables.specs.Forwarding.{Alternative}
use Rattle.nc_tables.specs.State.{StateView}
use Rattle.nc_trace.specs.declared.left.Left.{Left}
use Rattle.nc_trace.specs.Left.{places, ways_at, hit_ways, left_ways}

-- numbers that follow one another: the first and the others, or none
pub range_first : (from to : ℕ) → from < to → range_with_len from (to - from) ≡ from ∷ range_with_len (from + 1) (to - (from + 1))
range_first from to lt = let more : to - from ≡ suc (to - (from + 1)) = omega arith in ap (range_with_len from) more

pub range_none : (from to : ℕ) → to ≤ from → range_with_len from (to - from) ≡ []
range_none from to le = let none : to - from ≡ 0 = omega arith in ap (range_with_len from) none

-- the first of those that pass a test
pub first_kept : (test : ℕ → Bool) (from to : ℕ) → from < to → test from ≡ true
    → filter test (range_with_len from (to - from)) ≡ from ∷ filter test (range_with_len (from + 1) (to - (from + 1)))
first_kept test from to lt passes =
    ap (filter test) (range_first from to lt)
    ∙ ap (λ (b : Bool). cond b (from ∷ filter test (range_with_len (from + 1) (to - (from + 1)))) (filter test (range_with_len (from + 1) (to - (from + 1))))) passes

pub first_dropped : (test : ℕ → Bool) (from to : ℕ) → from < to → test from ≡ false
    → filter test (range_with_len from (to - from)) ≡ filter test (range_with_len (from + 1) (to - (from + 1)))
first_dropped test from to lt fails =
    ap (filter test) (range_first from to lt)
    ∙ ap (λ (b : Bool). cond b (from ∷ filter test (range_with_len (from + 1) (to - (from + 1)))) (filter test (range_with_len (from + 1) (to - (from + 1))))) fails

-- ---- main rows

cons_append : {A : Type 0} (o : Option A) (xs ys : List A) → cons_option o xs ++ ys ≡ cons_option o (xs ++ ys)
cons_append None xs ys = refl
cons_append (Some x) xs ys = refl

-- where no base row is left, the ways of the first main row come next
pub after_row : (s : StateView) (router addr : ℕ) (left rest : Left) (way : Option Alternative) → left.mains.from < left.mains.to → hit_ways s router left ≡ []
    → ways_at s router addr left.mains.from ≡ cons_option way (hit_ways s router rest) → rest.mains ≡ record { from = left.mains.from + 1; to = left.mains.to }
    → left_ways s router addr left ≡ cons_option way (left_ways s router addr rest)
after_row s router addr left rest way lt none opened behind =
    ap (λ (xs : List Alternative). xs ++ flat_map (ways_at s router addr) (places left.mains)) none
    ∙ ap (flat_map (ways_at s router addr)) (range_first left.mains.from left.mains.to lt)
    ∙ ap (λ (xs : List Alternative). xs ++ flat_map (ways_at s router addr) (range_with_len (left.mains.from + 1) (left.mains.to - (left.mains.from + 1)))) opened
    ∙ cons_append way (hit_ways s router rest) (flat_map (ways_at s router addr) (range_with_len (left.mains.from + 1) (left.mains.to - (left.mains.from + 1))))
    ∙ ap (λ (m : Rows). cons_option way (hit_ways s router rest ++ flat_map (ways_at s router addr) (places m))) (sym behind)
