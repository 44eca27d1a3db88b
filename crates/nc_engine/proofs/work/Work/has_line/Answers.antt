use Rattle.std.proofs.Common.{List, is_some, sym, ap, ◌∙◌}
use Rattle.nc_types.proofs.Placing.{same_some}
use Rattle.nc_types.specs.Config.{ConfigView}
use Rattle.nc_types.specs.Network.{owner_at}
use Rattle.nc_types.specs.declared.command.TestCommand.{TestCommand}
use Rattle.nc_tables.specs.State.{StateView}
use Rattle.nc_rules.specs.Seen.{state_of}
use Rattle.nc_engine.specs.Session.{has_line}
use Rattle.nc_engine.proofs.work.Work.has_line.Goals as goal

pub returns-in-Element : goal.returns-in-Element
returns-in-Element c =
    c.is_some.ensures ∙ same_some (λ e. e.0) c.owner.result ∙ ap is_some c.owner.ensures
    ∙ ap (λ (cs : List ConfigView). is_some (owner_at cs c.args.router.0 c.in-Element.line)) (c.network.ensures.network ∙ ap (λ (s : StateView). s.routers) c.state.ensures)
    ∙ ap (λ (t : TestCommand). has_line (state_of c.args.self.now.rules) c.args.router.0 t) (sym c.in-Element.is)
