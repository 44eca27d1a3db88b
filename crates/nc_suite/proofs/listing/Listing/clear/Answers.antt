use Rattle.std.proofs.Common.{◌∙◌, List, false, cond, get_or, subst, sym, ap}
use Rattle.nc_suite.specs.Counts.{IsListing, is_listed}
use Rattle.nc_suite.specs.declared.touch.Touch.{Touch}
use Rattle.nc_suite.proofs.TouchLemmas.{listing-cleared}
use Rattle.nc_suite.proofs.listing.Listing.clear.Goals as goal

pub invariant_of-self : goal.invariant_of-self
invariant_of-self c =
    subst (IsListing c.lower_flags.new.flags.items) (sym c.clear.ensures.items)
    (listing-cleared c.self.inside.flags.items c.self.inside.touches.items c.self.invariant c.lower_flags.new.flags.items c.lower_flags.ensures.len
    (λ e lt. c.lower_flags.ensures.flags e lt ∙ ap (λ (ts : List Touch). cond (is_listed ts e) false (get_or c.self.inside.flags.items e false)) c.deref.ensures.value))
