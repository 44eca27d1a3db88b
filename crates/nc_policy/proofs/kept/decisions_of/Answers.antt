use Rattle.std.proofs.Common.{List, Option, subst}
use Rattle.nc_types.specs.Config.{config_view}
use Rattle.nc_policy.specs.Decisions.{AreDecisionsOf}
use Rattle.nc_policy.specs.declared.clauses.Candidate.{Candidate}
use Rattle.nc_policy.proofs.Tabling.{right_of}
use Rattle.nc_policy.proofs.kept.decisions_of.Goals as goal

pub returns : goal.returns
returns c = λ ps is.
    let best = c.in_ok-best.best.items in
    let table = c.in_ok-table.table in
    right_of (config_view c.args.config.now) c.args.name.now c.args.prefixes.now best table c.requires.unmet c.in_ok-best.ensures.count c.in_ok-best.ensures.best
    (subst (λ (bs : List (Option Candidate)). AreDecisionsOf bs table) c.deref.ensures.value c.in_ok-table.ensures) ps is
