use Rattle.std.proofs.Common.{true, refl}
use Rattle.nc_outside.specs.Counts.{Faults}
use Rattle.nc_outside.specs.Memory.{faults_of}
use Rattle.nc_words.specs.Words.{texts}
use Rattle.nc_session.specs.Load.{load}
use Rattle.nc_session.specs.Output.{session_of}
use Rattle.failing_runs.proofs.Unfailing.{ends_complete, ends_served}
use Rattle.failing_runs.proofs.steady.run_in_memory.Goals as goal

pub returns-clause-complete : goal.returns-clause-complete
returns-clause-complete c =
    let sink : Faults = record { count = 0; is_steady = true } in
    ends_complete (texts c.args.words.now) c.args.files.items c.args.session.items c.new.result.items c.new-3.result.items c.new.ensures.items c.new-3.ensures.items
    c.new-2.result.items c.new-files.result c.new-input.result (faults_of c.run.new.files.calls) (faults_of c.run.new.input.calls) sink sink c.run.result
    c.new-files.ensures c.new-input.ensures refl c.run.ensures.complete

pub returns-clause-served : goal.returns-clause-served
returns-clause-served c =
    ends_served (load (texts c.args.words.now) c.args.files.items) (session_of (texts c.args.words.now) c.args.session.items) c.run.result (returns-clause-complete c)
