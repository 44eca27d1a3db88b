use Rattle.std.proofs.Common.{subst, sym}
use Rattle.nc_suite.specs.Counts.{IsListing}
use Rattle.nc_suite.proofs.TouchLemmas.{listing-none}
use Rattle.nc_suite.proofs.listing.Listing.new.Goals as goal

pub invariant_of-result : goal.invariant_of-result
invariant_of-result c =
    let flags = c.in_ok-flags.flags.items in
    subst (IsListing flags) (sym c.new-touches.ensures.items) (listing-none flags (λ e lt. c.in_ok-flags.ensures.lowered e))
