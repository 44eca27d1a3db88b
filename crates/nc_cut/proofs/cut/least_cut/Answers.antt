use Rattle.std.proofs.Common.{is_some, sym, ap, ◌∙◌}
use Rattle.nc_cut.specs.Known.{known_in}
use Rattle.nc_cut.proofs.WalkLemmas.{entry_none}
use Rattle.nc_cut.proofs.cut.least_cut.Goals as goal

pub returns-then-is_none : goal.returns-then-is_none
returns-then-is_none c =
    entry_none c.args.store.now.nodes c.args.free.now c.args.r (known_in c.in_ok-sizes.sizes) c.in_ok-sizes.ensures.sizes c.args.r c.in_ok-sizes.ensures.known
    (ap is_some (sym c.size_at.ensures) ∙ c.if-is_none.ensures)
