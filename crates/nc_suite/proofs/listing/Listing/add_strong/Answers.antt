use Rattle.std.proofs.Common.{refl, sym}
use Rattle.nc_suite.proofs.TouchLemmas.{over-none}
use Rattle.nc_suite.proofs.listing.Listing.add_strong.Goals as goal

pub nodes-init : goal.nodes-init
nodes-init c = record { width = refl; marks = λ e lt. sym (over-none c.args.self.now.touches e) }
