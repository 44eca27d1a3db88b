use Rattle.nc_words.specs.Words.{request_of, texts}
use Rattle.nc_session.specs.Ending.{Seen}
use Rattle.nc_session.proofs.Completing.{answers, completes, many_ends}
use Rattle.nc_session.proofs.runs.run.Goals as goal

pub returns-clause-answer : goal.returns-clause-answer
returns-clause-answer g c =
    let before : Seen = record {
      files = g.F.Files.files c.args.files.now;
      faults = g.F.Files.faults c.args.files.now;
      told = record { rest = g.S.Source.rest c.args.input.now; written = g.K.Sink.written c.args.output.now };
      failures = record { source = g.S.Source.faults c.args.input.now; sink = g.K.Sink.faults c.args.output.now };
    } in
    let now : Seen = record {
      files = g.F.Files.files c.run_words.new.files;
      faults = g.F.Files.faults c.run_words.new.files;
      told = record { rest = g.S.Source.rest c.run_words.new.input; written = g.K.Sink.written c.run_words.new.output };
      failures = record { source = g.S.Source.faults c.run_words.new.input; sink = g.K.Sink.faults c.run_words.new.output };
    } in
    answers (request_of (texts c.args.words.now)) before now c.run_words.result c.run_words.ensures.ends

pub returns-clause-complete : goal.returns-clause-complete
returns-clause-complete g c =
    let before : Seen = record {
      files = g.F.Files.files c.args.files.now;
      faults = g.F.Files.faults c.args.files.now;
      told = record { rest = g.S.Source.rest c.args.input.now; written = g.K.Sink.written c.args.output.now };
      failures = record { source = g.S.Source.faults c.args.input.now; sink = g.K.Sink.faults c.args.output.now };
    } in
    let now : Seen = record {
      files = g.F.Files.files c.run_words.new.files;
      faults = g.F.Files.faults c.run_words.new.files;
      told = record { rest = g.S.Source.rest c.run_words.new.input; written = g.K.Sink.written c.run_words.new.output };
      failures = record { source = g.S.Source.faults c.run_words.new.input; sink = g.K.Sink.faults c.run_words.new.output };
    } in
    completes (request_of (texts c.args.words.now)) before now c.run_words.result c.run_words.ensures.ends

pub returns-clause-many : goal.returns-clause-many
returns-clause-many g c = many_ends (request_of (texts c.args.words.now)) _ _ c.run_words.result c.run_words.ensures.ends
