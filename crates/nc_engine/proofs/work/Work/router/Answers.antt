use Rattle.std.proofs.Common.{ℕ, List, ap, ◌∙◌}
use Rattle.nc_types.specs.Config.{ConfigView}
use Rattle.nc_types.specs.Network.{router_named}
use Rattle.nc_tables.specs.State.{StateView}
use Rattle.nc_rules.specs.Seen.{state_of}
use Rattle.nc_engine.proofs.work.Work.router.Goals as goal

pub returns : goal.returns
returns c =
    let s = state_of c.args.self.now.rules in
    c.router_named.ensures
    ∙ ap (λ (cs : List ConfigView). router_named cs c.bytes.result.now) (c.network.ensures.network ∙ ap (λ (s : StateView). s.routers) c.state.ensures)
    ∙ ap (λ (word : List ℕ). router_named s.routers word) c.bytes.ensures
