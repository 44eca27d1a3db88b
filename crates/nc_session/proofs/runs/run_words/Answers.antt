use Rattle.std.proofs.Common.{◌≡◌, Option, Some, None, sym, subst, refl, rules}
use Rattle.nc_words.specs.Words.{Generated, RequestView, request_of, texts}
use Rattle.nc_session.specs.Ending.{Seen, EndsAs}
use Rattle.nc_session.proofs.Ends.{usage_ends}
use Rattle.nc_session.proofs.runs.run_words.Goals as goal

pub returns-in-Ok-FatTree-clause-ends : goal.returns-in-Ok-FatTree-clause-ends
returns-in-Ok-FatTree-clause-ends g c =
    let before : Seen = record {
      files = g.F.Files.files c.args.files.now;
      faults = g.F.Files.faults c.args.files.now;
      told = record { rest = g.S.Source.rest c.args.input.now; written = g.K.Sink.written c.args.output.now };
      failures = record { source = g.S.Source.faults c.args.input.now; sink = g.K.Sink.faults c.args.output.now };
    } in
    let now : Seen = record {
      files = g.F.Files.files c.args.files.now;
      faults = g.F.Files.faults c.args.files.now;
      told = record { rest = g.S.Source.rest c.args.input.now; written = g.K.Sink.written c.run_fat_tree.new.output };
      failures = record { source = g.S.Source.faults c.args.input.now; sink = g.K.Sink.faults c.run_fat_tree.new.output };
    } in
    let named : request_of (texts c.args.words.now) ≡ Some (record { rounds = c.in-Ok-FatTree.field-0.rounds; input = Generated c.in-Ok-FatTree.pods }) = search rules in
    subst (λ (asked : Option RequestView). EndsAs asked before now c.run_fat_tree.result) (sym named)
    (c.run_fat_tree.ensures.ends before.files before.told.rest before.faults before.failures.source)

pub returns-in-Err-Usage-clause-ends : goal.returns-in-Err-Usage-clause-ends
returns-in-Err-Usage-clause-ends g c =
    let before : Seen = record {
      files = g.F.Files.files c.args.files.now;
      faults = g.F.Files.faults c.args.files.now;
      told = record { rest = g.S.Source.rest c.args.input.now; written = g.K.Sink.written c.args.output.now };
      failures = record { source = g.S.Source.faults c.args.input.now; sink = g.K.Sink.faults c.args.output.now };
    } in
    let now : Seen = record {
      files = g.F.Files.files c.args.files.now;
      faults = g.F.Files.faults c.args.files.now;
      told = record { rest = g.S.Source.rest c.args.input.now; written = g.K.Sink.written c.say.new.output };
      failures = record { source = g.S.Source.faults c.args.input.now; sink = g.K.Sink.faults c.say.new.output };
    } in
    let none : request_of (texts c.args.words.now) ≡ None = search rules in
    subst (λ (asked : Option RequestView). EndsAs asked before now c.say.result) (sym none) (usage_ends before now c.say.result refl refl c.say.ensures)
