use Rattle.std.proofs.Common.{length, ap, ◌∙◌}
use Rattle.nc_tables.specs.State.{StateView}
use Rattle.nc_tables.proofs.State.{base_count}
use Rattle.nc_tables.proofs.stable.Stable.base.Goals as goal

pub returns-clause-count : goal.returns-clause-count
returns-clause-count c =
    let fields = c.self.inside in
    base_count (record { routers = fields.network; base = fields.base; sessions = fields.sessions; bgp = fields.bgp; main = fields.main }) c.self.invariant
    ∙ ap (λ (s : StateView). length s.routers) c.self.view_is
