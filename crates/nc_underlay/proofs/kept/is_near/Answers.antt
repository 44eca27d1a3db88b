use Rattle.std.proofs.Common.{sym, ◌∙◌, arith}
use Rattle.std.proofs.lemmas.Bool.{eqb-true}
use Rattle.nc_underlay.proofs.Near.{owner_reaches, near_reaches}
use Rattle.nc_underlay.proofs.kept.is_near.Goals as goal

pub returns-then-eq : goal.returns-then-eq
returns-then-eq c told =
    owner_reaches c.args.network.now c.routers-routers.ensures.valid c.args.base.now c.args.addr.0 c.args.hops c.args.router.0 (record { router = c.in-Some.owner.0; place = c.in-Some.field-0-1.0 }) (sym c.in-Some.ensures)
    (eqb-true c.in-Some.owner.0 c.args.router.0 (sym c.eq.ensures ∙ c.if-eq.true))

pub returns-in-Some-leads_to : goal.returns-in-Some-leads_to
returns-in-Some-leads_to c told =
    near_reaches c.args.network.now c.routers-routers.ensures.valid c.args.base.now c.args.addr.0 c.args.hops c.args.router.0 (record { router = c.in-Some.owner.0; place = c.in-Some.field-0-1.0 }) (sym c.in-Some.ensures)
    c.longest-rows.result.from c.longest-rows.result.to (record { router = c.in-Some-leads_to.next.0; place = c.in-Some-leads_to.field-0-1.0 }) c.longest-rows.ensures.rows (omega arith) (omega arith)
    (sym c.in-Some-leads_to.ensures.leads) (eqb-true c.in-Some-leads_to.next.0 c.in-Some.owner.0 (sym c.eq-in-Some-leads_to.ensures ∙ told))
