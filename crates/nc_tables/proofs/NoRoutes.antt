-- Tables in which no router has a route.
use Rattle.std.proofs.Common.{◌≡◌, suc, List, [], ◌∷◌, length, map, replicate, All, refl, ap, ◌∙◌, arith}
use Rattle.nc_types.specs.Config.{ConfigView}
use Rattle.nc_tables.specs.Rounds.{no_routes}

pub all_empty : {X A : Type 0} (f : X → List A) (xs : List X) → All (λ x. f x ≡ []) xs → map f xs ≡ replicate (length xs) []
all_empty f [] none = refl
all_empty f (x ∷ xs) none = ap (λ l. l ∷ map f xs) (none 0 x (omega arith)) ∙ ap (λ ls. [] ∷ ls) (all_empty f xs (λ k d lt. none (suc k) d (omega arith)))

pub no_routes_is : (routers : List ConfigView) → no_routes routers ≡ replicate (length routers) []
no_routes_is routers = all_empty (λ (c : ConfigView). []) routers (λ k d lt. refl)
