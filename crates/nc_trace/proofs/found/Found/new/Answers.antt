use Rattle.nc_trace.proofs.Finding.{no_span, none_found}
use Rattle.nc_trace.proofs.Listing.{none_kept}
use Rattle.nc_trace.proofs.found.Found.new.Goals as goal

pub invariant_of-result : goal.invariant_of-result
invariant_of-result c = none_kept c.new.result.items c.new-2.result.items c.new-3.result.items (no_span c.new.result.items c.new.ensures.items) c.new-3.ensures.items

pub returns : goal.returns
returns c router = none_found c.new.result.items c.new-2.result.items c.new.ensures.items router
