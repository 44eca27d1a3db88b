use Rattle.std.proofs.Common.{ℕ, List, false, true, Some, Err, map, refl, ap, ◌∙◌, subst, inl, inr}
use Rattle.std.specs.Io.KnownBytes.{Appends}
use Rattle.nc_outside.specs.Memory.{PlainState}
use Rattle.nc_outside.specs.Counts.{Faults}
use Rattle.nc_report.specs.declared.file.LoadedFile.{LoadedFile}
use Rattle.nc_report.specs.Views.{FileView, file_view}
use Rattle.nc_session.specs.Generated.{heading_text}
use Rattle.nc_engine.specs.File.{LoadedView}
use Rattle.nc_session.specs.Serving.{AppendsFront}
use Rattle.nc_session.specs.Leaving.{told, failures, FailsAs, Leaves}
use Rattle.nc_session.proofs.GeneratedEnds.{begins_so, stop_rose}
use Rattle.nc_session.proofs.generated.serve_behind.Goals as goal

-- the sink failed within the heading
pub returns-in_default-write_all : goal.returns-in_default-write_all
returns-in_default-write_all g c =
    let loaded : LoadedView = record { state = c.args.loaded.settled.state; files = map file_view c.args.loaded.files.items; listed = false } in
    let heading = c.in-Ok.ensures ∙ ap (λ (files : List LoadedFile). heading_text c.args.pods (map (λ (file : FileView). file.lines) (map file_view files))) c.deref.ensures.value in
    let goes = c.sessions_go_on.ensures loaded c.network-state.ensures.state in
    inr (inl (
      refl,
      stop_rose _ _ c.in_default-write_all.field-0 c.in_default-write_all.ensures.cause (λ memory. c.in_default-write_all.ensures.no_memory (ap Err memory)),
      subst (AppendsFront (g.K.Sink.written c.args.output.now) (g.K.Sink.written c.write_all.new.output)) (c.deref-2.ensures.value ∙ heading) c.in_default-write_all.ensures.begun,
      begins_so loaded c.args.session.items goes,
    ))

pub returns : goal.returns
returns g c =
    let loaded : LoadedView = record { state = c.args.loaded.settled.state; files = map file_view c.args.loaded.files.items; listed = false } in
    let heading = c.in-Ok.ensures ∙ ap (λ (files : List LoadedFile). heading_text c.args.pods (map (λ (file : FileView). file.lines) (map file_view files))) c.deref.ensures.value in
    let old = g.K.Sink.written c.args.output.now in
    let middle = g.K.Sink.written c.write_all.new.output in
    let now = g.K.Sink.written c.serve.new.output in
    let own : Faults = record { count = 0; is_steady = true } in
    inr (inr (record {
      middle = middle;
      headed = subst (λ (text : List ℕ). Appends old middle text) (c.deref-2.ensures.value ∙ heading) c.in-Ok-write_all.ensures.written;
      left = Some c.serve.new.input.rest;
      leaves = subst (λ (rest : List ℕ). Leaves loaded (told (Some rest) middle) (told (Some c.serve.new.input.rest) now) c.serve.result)
          (ap (λ (s : PlainState). s.rest) c.new-input.ensures) c.serve.ensures.leaves;
      source = own;
      steady = refl;
      fails = subst (λ (faults : Faults). FailsAs (failures own faults) (failures own (g.K.Sink.faults c.serve.new.output)) c.serve.result) c.in-Ok-write_all.ensures.cause c.serve.ensures.fails;
    }))
