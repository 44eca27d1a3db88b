use Rattle.std.proofs.Common.{◌≡◌, ℕ, List, [], ◌++◌, map, refl, sym, ap, ◌∙◌, subst}
use Rattle.std.proofs.lemmas.Option.{same_Some}
use Rattle.std.specs.Option.{option_map}
use Rattle.nc_report.specs.Views.{file_view}
use Rattle.nc_report.specs.declared.file.LoadedFile.{LoadedFile}
use Rattle.nc_engine.specs.Work.{progress_of, with_lent}
use Rattle.nc_command.specs.Command.{command_of}
use Rattle.nc_engine.specs.Engine.{Progress, EngineView, Answered, HasDrawn, HasDrawnFor, HasReferences}
use Rattle.nc_engine.proofs.Drawing.{has-drawn, drawn-behind}
use Rattle.nc_engine.proofs.Lending.{handed, answered-behind}
use Rattle.nc_engine.proofs.engine.Engine.answer.Goals as goal

-- the line is answered in a buffer of its own, behind which lines may be lent, and that is handed on
pub returns-clause-turns : goal.returns-clause-turns
returns-clause-turns c =
    let files = map file_view c.self.inside.files.items in
    let line = c.args.line.now in
    let old = c.in-Some.work in
    let new = c.answer.new.self in
    let lends = c.in-Ok.answer.lends in
    let reply = c.answer.new.out.items in
    let all = with_lent lends new.shown reply in
    let cleared : c.clear.new.self.items ≡ [] = c.clear.ensures.items in
    let answered : Answered (progress_of files old) (progress_of files new) line [] all =
    subst (λ (fs : List LoadedFile). Answered (progress_of (map file_view fs) old) (progress_of (map file_view fs) new) line [] all) c.deref.ensures.value
    (subst (λ (before : List ℕ). Answered (progress_of (map file_view c.deref.result.now) old) (progress_of (map file_view c.deref.result.now) new) line before all) cleared c.in-Ok.ensures.answered) in
    record {
      from = progress_of files old;
      from_is = ap (λ (e : EngineView). e.progress) (sym c.self.view_is) ∙ ap (option_map (progress_of files)) c.in-Some.is;
      to = progress_of files new;
      to_is = refl;
      answered = answered-behind (progress_of files old) (progress_of files new) line c.args.out.now.items all (c.hand_on.new.out.items ++ with_lent lends new.shown [])
          (handed lends new.shown c.args.out.now.items reply c.hand_on.new.out.items c.in-Ok-hand_on.ensures.appended) answered;
    }

-- the tests of answered questions are drawn
pub returns-clause-drawn : goal.returns-clause-drawn
returns-clause-drawn c = λ x is.
    let files = map file_view c.self.inside.files.items in
    subst HasDrawn (same_Some (progress_of files c.answer.new.self) x is) (has-drawn files c.answer.new.self c.in-Ok.ensures.work)

-- and there are references of all that is
pub returns-clause-references : goal.returns-clause-references
returns-clause-references c = λ x is.
    let files = map file_view c.self.inside.files.items in
    subst HasReferences (same_Some (progress_of files c.answer.new.self) x is) (c.references_are_kept.ensures files)

-- and so is the test of a cut that is told drawn
pub returns-clause-drawn_for : goal.returns-clause-drawn_for
returns-clause-drawn_for c = λ x is.
    let files = map file_view c.self.inside.files.items in
    let line = command_of c.args.line.now in
    let from = c.args.out.now.items in
    let new = c.answer.new.self in
    let lends = c.in-Ok.answer.lends in
    let reply = c.answer.new.out.items in
    let all = with_lent lends new.shown reply in
    let to = c.hand_on.new.out.items ++ with_lent lends new.shown [] in
    let cleared : c.clear.new.self.items ≡ [] = c.clear.ensures.items in
    let told : HasDrawnFor (progress_of files new) line [] all =
    subst (λ (fs : List LoadedFile). HasDrawnFor (progress_of (map file_view fs) new) line [] all) c.deref.ensures.value
    (subst (λ (before : List ℕ). HasDrawnFor (progress_of (map file_view c.deref.result.now) new) line before all) cleared c.in-Ok.ensures.drawn) in
    subst (λ (p : Progress). HasDrawnFor p line from to) (same_Some (progress_of files new) x is)
    (drawn-behind (progress_of files new) line from all to (handed lends new.shown from reply c.hand_on.new.out.items c.in-Ok-hand_on.ensures.appended) told)
