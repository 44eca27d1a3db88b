use Rattle.std.proofs.Common.{Option, Some, refl, subst}
use Rattle.nc_types.specs.Config.{clause_view, config_view}
use Rattle.nc_policy.specs.declared.kept.Decided.{Decided}
use Rattle.nc_policy.specs.Kept.{IsDecided}
use Rattle.nc_policy.proofs.Permitting.{seen_at}
use Rattle.nc_policy.proofs.kept.candidate_of.Goals as goal

pub returns-clause-decides : goal.returns-clause-decides
returns-clause-decides c = λ name r is.
    let config = config_view c.args.config.now in
    let d = c.in_ok-decided.decided in
    let read = c.in_ok-clause.ensures.lookup in
    let at = seen_at clause_view c.args.config.now.clauses.items c.deref.result.now d.place c.in_ok-clause.clause.now c.deref.ensures.value read.3.0 read.1 in
    let known : IsDecided config name r (Some d) = subst (λ (o : Option Decided). IsDecided config name r o) c.in_ok-decided.was is in
    known.decides d refl (clause_view c.in_ok-clause.clause.now) at

pub returns-clause-candidate : goal.returns-clause-candidate
returns-clause-candidate c = λ name r is.
    let config = config_view c.args.config.now in
    let d = c.in_ok-decided.decided in
    let read = c.in_ok-clause.ensures.lookup in
    let at = seen_at clause_view c.args.config.now.clauses.items c.deref.result.now d.place c.in_ok-clause.clause.now c.deref.ensures.value read.3.0 read.1 in
    let known : IsDecided config name r (Some d) = subst (λ (o : Option Decided). IsDecided config name r o) c.in_ok-decided.was is in
    record { within = known.within d refl; own = at; names = known.names d refl (clause_view c.in_ok-clause.clause.now) at }
