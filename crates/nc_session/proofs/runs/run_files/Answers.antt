use Rattle.std.proofs.Common.{◌≡◌, ◌⊎◌, ◌≤◌, true, refl, ap, sym, Err, subst, length, map, arith, ℕ}
use Rattle.std.proofs.lemmas.List.{length-map}
use Rattle.std.specs.String.{string_bytes}
use Rattle.nc_load.specs.Limits.{most_routers}
use Rattle.nc_load.specs.declared.refusal.LoadFault.TheVariants.{Over}
use Rattle.nc_load.specs.declared.refusal.Quantity.TheVariants.{Routers}
use Rattle.nc_report.specs.Views.{file_view}
use Rattle.nc_engine.specs.File.{LoadedView}
use Rattle.nc_words.specs.Words.{Files, RequestView, texts}
use Rattle.nc_session.specs.Leaving.{Told}
use Rattle.nc_session.specs.Causes.{IsEarly}
use Rattle.nc_session.specs.Ending.{Seen}
use Rattle.nc_session.proofs.WithFiles.{loaded_with, fault_with, cause_with}
use Rattle.nc_session.proofs.Ends.{refused_ends, files_ends, refused_early, refused_outside, served_late}
use Rattle.nc_session.proofs.runs.run_files.Goals as goal

pub returns-in-Ok-clause-ends : goal.returns-in-Ok-clause-ends
returns-in-Ok-clause-ends g c =
    let names = texts c.args.names.now in
    let before : Seen = record {
      files = g.F.Files.files c.args.files.now;
      faults = g.F.Files.faults c.args.files.now;
      told = record { rest = g.S.Source.rest c.args.input.now; written = g.K.Sink.written c.args.output.now };
      failures = record { source = g.S.Source.faults c.args.input.now; sink = g.K.Sink.faults c.args.output.now };
    } in
    let now : Seen = record {
      files = g.F.Files.files c.load.new.files;
      faults = g.F.Files.faults c.load.new.files;
      told = record { rest = g.S.Source.rest c.serve.new.input; written = g.K.Sink.written c.serve.new.output };
      failures = record { source = g.S.Source.faults c.serve.new.input; sink = g.K.Sink.faults c.serve.new.output };
    } in
    let few : length names ≤ most_routers = omega (arith, length-map c.args.names.now string_bytes, c.in-Ok.ensures.few) in
    let loaded : LoadedView = record { state = c.in-Ok.loaded.settled.state; files = map file_view c.in-Ok.loaded.files.items; listed = true } in
    files_ends c.args.rounds names before now few loaded c.in-Ok.ensures.cause
    (loaded_with true c.args.rounds names before.files loaded.state loaded.files c.in-Ok.ensures.loaded c.in-Ok.ensures.named) c.serve.result c.serve.ensures.leaves c.serve.ensures.fails

pub returns-in-Err-clause-ends : goal.returns-in-Err-clause-ends
returns-in-Err-clause-ends g c =
    let names = texts c.args.names.now in
    let request : RequestView = record { rounds = c.args.rounds; input = Files names } in
    let before : Seen = record {
      files = g.F.Files.files c.args.files.now;
      faults = g.F.Files.faults c.args.files.now;
      told = record { rest = g.S.Source.rest c.args.input.now; written = g.K.Sink.written c.args.output.now };
      failures = record { source = g.S.Source.faults c.args.input.now; sink = g.K.Sink.faults c.args.output.now };
    } in
    let now : Seen = record {
      files = g.F.Files.files c.load.new.files;
      faults = g.F.Files.faults c.load.new.files;
      told = record { rest = g.S.Source.rest c.args.input.now; written = g.K.Sink.written c.refuse.new.output };
      failures = record { source = g.S.Source.faults c.args.input.now; sink = g.K.Sink.faults c.refuse.new.output };
    } in
    let few = subst (λ (n : ℕ). (c.in-Err.fault ≡ Over Routers) ⊎ (n ≤ most_routers)) (sym (length-map c.args.names.now string_bytes)) c.in-Err.ensures.few in
    refused_ends request before now c.refuse.result c.in-Err.fault refl (fault_with true c.args.rounds names before.files c.in-Err.fault c.in-Err.ensures.loaded)
    (cause_with true c.args.rounds names before.files before.faults now.faults c.in-Err.fault c.in-Err.ensures.cause) few c.refuse.ensures

pub returns-in-Ok-clause-entered_last : goal.returns-in-Ok-clause-entered_last
returns-in-Ok-clause-entered_last g c is =
    let before : Told = record { rest = g.S.Source.rest c.args.input.now; written = g.K.Sink.written c.args.output.now } in
    let now : Told = record { rest = g.S.Source.rest c.serve.new.input; written = g.K.Sink.written c.serve.new.output } in
    absurd (served_late (record { state = c.in-Ok.loaded.settled.state; files = map file_view c.in-Ok.loaded.files.items; listed = true }) before now c.serve.result c.serve.ensures.leaves (subst IsEarly (sym is) tt))

pub returns-in-Ok-clause-session_unread : goal.returns-in-Ok-clause-session_unread
returns-in-Ok-clause-session_unread g c early =
    let before : Told = record { rest = g.S.Source.rest c.args.input.now; written = g.K.Sink.written c.args.output.now } in
    let now : Told = record { rest = g.S.Source.rest c.serve.new.input; written = g.K.Sink.written c.serve.new.output } in
    absurd (served_late (record { state = c.in-Ok.loaded.settled.state; files = map file_view c.in-Ok.loaded.files.items; listed = true }) before now c.serve.result c.serve.ensures.leaves early)

pub returns-in-Err-clause-entries_all : goal.returns-in-Err-clause-entries_all
returns-in-Err-clause-entries_all g c late = absurd (refused_early (texts c.args.names.now) c.in-Err.fault _ _ c.refuse.result c.refuse.ensures late)

pub returns-in-Err-clause-entered_last : goal.returns-in-Err-clause-entered_last
returns-in-Err-clause-entered_last g c is = c.in-Err.ensures.outside (ap Err (refused_outside (texts c.args.names.now) c.in-Err.fault _ _ c.refuse.result c.refuse.ensures is))
