use Rattle.std.proofs.Common.{length, sym, ap, subst}
use Rattle.nc_trace.specs.Found.{FoundWays, IsCoveredOrNone}
use Rattle.nc_trace.specs.Traced.{Traced}
use Rattle.nc_trace.proofs.Growing.{still_included}
use Rattle.nc_trace.proofs.traced.TracedTo.find.Goals as goal

pub returns-clause-kept : goal.returns-clause-kept
returns-clause-kept c other is =
    let count = length c.args.state.now.routers in
    subst (λ (found : FoundWays). IsCoveredOrNone count found other) (sym c.count.ensures.found)
    (still_included count c.self.inside.found c.include.new.self c.in_ok-include.ensures.more other (subst (λ (t : Traced). IsCoveredOrNone count t.found other) (sym c.self.view_is) is))
