use Rattle.std.proofs.Common.{◌≡◌, ◌∙◌, sym, ap, false, not, List}
use Rattle.std.specs.List.{list_any}
use Rattle.std.specs.Option.{is_some}
use Rattle.nc_types.specs.declared.config.StaticRoute.{StaticRoute}
use Rattle.nc_types.specs.Joining.{interface_by}
use Rattle.nc_types.proofs.Options.{is_none}
use Rattle.nc_network.proofs.Undefined.{interfaces-unused}
use Rattle.nc_network.proofs.references.check_used_interfaces.Goals as goal

pub returns-then-not-leads_through : goal.returns-then-not-leads_through
returns-then-not-leads_through c =
    let unused : c.leads_through.result ≡ false = c.if-not-leads_through.true in
    interfaces-unused c.args.router c.args.config.now c.args.found (is_none c.args.config.now.process (c.is_none.ensures ∙ ap not c.if-is_none.true))
    (ap (λ (ss : List StaticRoute). list_any (λ s. is_some (interface_by s.via)) ss) (sym c.deref.ensures.value) ∙ sym c.leads_through.ensures ∙ unused)
