use Rattle.std.proofs.Common.{Bool, ◌&&◌, nat_le, length, sym, ap, ◌∙◌}
use Rattle.nc_tables.specs.Base.{base_tables}
use Rattle.nc_tables.specs.Reach.{reaches}
use Rattle.nc_types.specs.declared.TheConstants.{HOP_LIMIT}
use Rattle.nc_fact.proofs.Beyond.{beyond_by, not_reached}
use Rattle.nc_tables.specs.CaseRelations.{state_base}
use Rattle.nc_fact.proofs.Places.{above, and_false}
use Rattle.nc_fact.proofs.truth.reaches.Goals as goal
use Rattle.nc_fact.proofs.truth.reaches.Goals.{then-hops-gt-HOP_LIMIT-via-then-hops-gt-HOP_LIMIT, then-hops-gt-HOP_LIMIT-via-else-hops-gt-HOP_LIMIT+then-not-has_router}

pub returns-then-hops-gt-HOP_LIMIT : goal.returns-then-hops-gt-HOP_LIMIT
returns-then-hops-gt-HOP_LIMIT c =
    let s = c.args.state.now in
    let comes : Bool = reaches s.routers s.base c.args.hops c.args.router.0 c.args.addr.0 in
    elim c.then-hops-gt-HOP_LIMIT.branch [
      | then-hops-gt-HOP_LIMIT-via-then-hops-gt-HOP_LIMIT w ↦ sym (ap (λ b. b && comes) (above c.args.hops HOP_LIMIT w.if-hops-gt-HOP_LIMIT.true))
      | then-hops-gt-HOP_LIMIT-via-else-hops-gt-HOP_LIMIT+then-not-has_router w ↦
          sym (ap (λ b. nat_le c.args.hops HOP_LIMIT && b) (not_reached s w.has_router.ensures.state c.args.router.0
          (beyond_by w.has_router.result c.args.router.0 (length s.routers) w.has_router.ensures.within.1 w.if-not-has_router.true) c.args.addr.0 c.args.hops) ∙ and_false (nat_le c.args.hops HOP_LIMIT))
    ]

pub reaches-requires-clause-tables : goal.reaches-requires-clause-tables
reaches-requires-clause-tables c = c.base.ensures.base ∙ state_base c.args.state.now c.base.ensures.state ∙ ap base_tables (sym c.network.ensures.network)
