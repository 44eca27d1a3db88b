-- The places of prefixes, put one after the other.
use Rattle.std.proofs.Common.{◌≡◌, Bool, true, false, cond, List, [], ◌∷◌, ◌++◌, Some, None, refl, arith}
use Rattle.std.specs.Option.{option_or}
use Rattle.std.proofs.lemmas.Bool.Decides.{nat_tests}
use Rattle.nc_types.specs.Cidr.{Cidr, same_prefix}
use Rattle.nc_policy.specs.Placing.{prefix_place_at}
use Rattle.nc_policy.specs.declared.prefix_places.PlacedPrefix.{PlacedPrefix}

-- what is found among items and one more
pub place_pushed : (items : List PlacedPrefix) (x : PlacedPrefix) (p : Cidr)
    → prefix_place_at p (items ++ x ∷ []) ≡ option_or (prefix_place_at p items) (cond (same_prefix p x.prefix) (Some x.place) None)
place_pushed [] x p = refl
place_pushed (y ∷ ys) x p = on (same_prefix p y.prefix) (place_pushed ys x p)
  where
    on : (b : Bool) → prefix_place_at p (ys ++ x ∷ []) ≡ option_or (prefix_place_at p ys) (cond (same_prefix p x.prefix) (Some x.place) None)
        → cond b (Some y.place) (prefix_place_at p (ys ++ x ∷ [])) ≡ option_or (cond b (Some y.place) (prefix_place_at p ys)) (cond (same_prefix p x.prefix) (Some x.place) None)
    on true rest = refl
    on false rest = rest

pub same_either : (p q : Cidr) → same_prefix p q ≡ same_prefix q p
same_either p q = grind (arith, nat_tests)
