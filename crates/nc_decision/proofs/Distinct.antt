-- How many candidates are chosen.
use Rattle.std.proofs.Common.{ℕ, ◌≤◌, Bool, true, false, cond, List, [], ◌∷◌, filter, take, length, Option, Some, None, arith}
use Rattle.std.specs.List.{cons_option, filter_map}
use Rattle.std.proofs.lemmas.List.{length-map, length-take}
use Rattle.nc_tables.specs.declared.bgp.Chosen.{Chosen}
use Rattle.nc_tables.specs.Choice.{Ranked, by_preference, choose, is_equal_to, is_external, used_with}

used_few : (limit most : ℕ) (relax : Bool) (xs : List Ranked) → limit ≤ most → 1 ≤ most → length (used_with limit relax xs) ≤ most
used_few limit most relax [] few one = omega arith
used_few limit most relax (best ∷ others) few one = on (is_external best.candidate)
  where
    on : (b : Bool) → length (cond b (take limit (best ∷ filter (λ (x : Ranked). is_equal_to relax best.candidate x.candidate) others)) (best ∷ [])) ≤ most
    on true = omega (arith, length-take limit (best ∷ filter (λ (x : Ranked). is_equal_to relax best.candidate x.candidate) others))
    on false = omega arith

pub choose_few : (cs : List Chosen) (limit most : ℕ) (relax : Bool) → limit ≤ most → 1 ≤ most → length (choose cs limit relax) ≤ most
unfolding choose
choose_few cs limit most relax few one =
    let used : length (used_with limit relax (by_preference cs)) ≤ most = used_few limit most relax (by_preference cs) few one in
    omega (arith, length-map (used_with limit relax (by_preference cs)) (λ (x : Ranked). x.place))

-- no more are made of items than there are
pub made_few : {X Y : Type 0} (f : Y → Option X) (ys : List Y) → length (filter_map f ys) ≤ length ys
made_few f [] = omega arith
made_few {X} f (y ∷ ys) = on (f y) (made_few f ys)
  where
    on : (o : Option X) → length (filter_map f ys) ≤ length ys → length (cons_option o (filter_map f ys)) ≤ length (y ∷ ys)
    on None few = omega arith
    on (Some x) few = omega arith
