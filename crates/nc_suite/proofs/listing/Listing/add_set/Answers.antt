use Rattle.std.proofs.Common.{refl, sym}
use Rattle.nc_suite.proofs.TouchLemmas.{over-none}
use Rattle.nc_suite.proofs.listing.Listing.add_set.Goals as goal

pub elements-init : goal.elements-init
elements-init c = record { width = refl; marks = λ e lt. sym (over-none c.args.self.now.touches e) }
