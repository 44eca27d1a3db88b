use Rattle.std.proofs.Common.{length, sym, subst}
use Rattle.nc_trace.specs.Found.{FoundWays, IsCoveredOrNone}
use Rattle.nc_trace.proofs.Growing.{still_included}
use Rattle.nc_trace.proofs.flow.FlowTo.find.Goals as goal

pub returns-clause-kept : goal.returns-clause-kept
returns-clause-kept c other is =
    let count = length c.args.state.now.routers in
    subst (λ (found : FoundWays). IsCoveredOrNone count found other) (sym c.count.ensures.found)
    (still_included count c.make_tables.new.self.found c.include.new.self c.in_ok-include.ensures.more other (subst (λ (found : FoundWays). IsCoveredOrNone count found other) (sym c.make_tables.ensures.found) is))
