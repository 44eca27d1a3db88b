-- The first of a list.
use Rattle.std.proofs.Common.{◌≡◌, List, [], ◌∷◌, slice_get, refl}
use Rattle.nc_tables.specs.Sessions.{first_of}

pub first_is : {X : Type 0} (xs : List X) → first_of xs ≡ slice_get xs 0
first_is [] = refl
first_is (x ∷ xs) = refl
