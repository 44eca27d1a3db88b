use Rattle.std.proofs.Common.{◌-◌, Some, None, List, sym, ap, ◌∙◌, arith}
use Rattle.nc_types.specs.Config.{ConfigView}
use Rattle.nc_tables.specs.declared.base.BaseRow.{BaseRow}
use Rattle.nc_tables.specs.Reach.{leads_to, reaches}
use Rattle.nc_rules_route.proofs.Hops.{no_hop, too_many, by_row}
use Rattle.nc_rules_route.proofs.reach.leads_on.Goals as goal

pub returns-then-hops-eq0-clause-leads : goal.returns-then-hops-eq0-clause-leads
returns-then-hops-eq0-clause-leads c = no_hop c.args.state.now c.args.router c.args.addr c.args.row c.args.hops c.if-hops-eq0.true

pub returns-then-hops-gt-HOP_LIMIT-clause-leads : goal.returns-then-hops-gt-HOP_LIMIT-clause-leads
returns-then-hops-gt-HOP_LIMIT-clause-leads c = too_many c.args.state.now c.args.router c.args.addr c.args.row c.args.hops c.if-hops-gt-HOP_LIMIT.true

pub returns-in_ok-reaches-in-Some-clause-leads : goal.returns-in_ok-reaches-in-Some-clause-leads
returns-in_ok-reaches-in-Some-clause-leads c =
    let s = c.args.state.now in
    let base = c.base-base.result.now in
    let router = c.args.router.0 in
    let addr = c.args.addr.0 in
    let row = c.args.row in
    let next = c.in-Some.next.0 in
    let less = c.args.hops - 1 in
    c.in_ok-reaches-in-Some.ensures.reaches
    ∙ ap (λ (cs : List ConfigView). reaches cs base less next addr) c.network-network.ensures.network
    ∙ ap (λ (ts : List (List BaseRow)). reaches s.routers ts less next addr) c.base-base.ensures.base
    ∙ by_row s c.args.router c.args.addr row c.args.hops (Some (record { router = next; place = c.in-Some.field-0-1.0 })) (omega arith) c.if-hops-gt-HOP_LIMIT.false c.requires.longest (sym c.is_hit.ensures ∙ c.if-not-is_hit.false)
    (c.in-Some.ensures.leads
    ∙ ap (λ (cs : List ConfigView). leads_to cs base router addr row) c.network-network.ensures.network
    ∙ ap (λ (ts : List (List BaseRow)). leads_to s.routers ts router addr row) c.base-base.ensures.base)

pub returns-in-None-clause-leads : goal.returns-in-None-clause-leads
returns-in-None-clause-leads c =
    let s = c.args.state.now in
    let base = c.base-base.result.now in
    let router = c.args.router.0 in
    let addr = c.args.addr.0 in
    let row = c.args.row in
    by_row s c.args.router c.args.addr row c.args.hops None (omega arith) c.if-hops-gt-HOP_LIMIT.false c.requires.longest (sym c.is_hit.ensures ∙ c.if-not-is_hit.false)
    (c.in-None.ensures.leads
    ∙ ap (λ (cs : List ConfigView). leads_to cs base router addr row) c.network-network.ensures.network
    ∙ ap (λ (ts : List (List BaseRow)). leads_to s.routers ts router addr row) c.base-base.ensures.base)
