use Rattle.std.proofs.Common.{◌≡◌, Some, map, sym, ap, subst}
use Rattle.std.proofs.lemmas.Option.{same_Some}
use Rattle.nc_tables.specs.State.{StateView}
use Rattle.nc_rules.specs.Seen.{state_of}
use Rattle.nc_engine.specs.declared.work.Work.{Work}
use Rattle.nc_report.specs.Views.{file_view}
use Rattle.nc_report.specs.Files.{AreFilesOf}
use Rattle.nc_engine.specs.Engine.{Progress}
use Rattle.nc_engine.specs.Work.{IsWork}
use Rattle.nc_engine.proofs.engine.Engine.begin.Goals as goal

pub invariant_of-result : goal.invariant_of-result
invariant_of-result c = λ x is.
    let files = map file_view c.args.files.items in
    let work = c.in_ok-work.work in
    let state : state_of work.rules ≡ c.args.settled.state = ap (λ (p : Progress). p.loaded.state) (c.in_ok-work.ensures.progress files) in
    subst (λ (w : Work). IsWork w × AreFilesOf (state_of w.rules).routers files) (same_Some work x is)
    (c.in_ok-work.ensures.work, subst (λ (s : StateView). AreFilesOf s.routers files) (sym state) c.requires.fit)

pub returns-clause-progress : goal.returns-clause-progress
returns-clause-progress c = ap Some (c.in_ok-work.ensures.progress (map file_view c.args.files.items))
