use Rattle.std.proofs.Common.{arith, ◌<◌, List, if◌then◌else◌, [], length, nat_lt, sym, subst}
use Rattle.std.proofs.lemmas.Bool.{eqb-false}
use Rattle.nc_fact.specs.declared.fact.Fact.{Fact}
use Rattle.nc_rules.specs.Seen.{state_of, asked_of}
use Rattle.nc_command.specs.Command.{text_of}
use Rattle.nc_engine.specs.Limits.{most_tests}
use Rattle.nc_engine.specs.Session.{State, Tests}
use Rattle.nc_engine.specs.Engine.{Infers}
use Rattle.nc_engine.specs.Work.{tests_of, kept_of}
use Rattle.nc_engine.proofs.Answering.{tested}
use Rattle.nc_engine.proofs.work.Work.judge.Goals as goal

pub returns-clause-told : goal.returns-clause-told
returns-clause-told c =
    let old = c.args.self.now in
    let s = state_of old.rules in
    let new = c.count.new.self in
    let text = text_of c.args.test.now in
    let before : State = kept_of old in
    let after : State = kept_of new in
    let counted = c.in_ok-lends.ensures.counts in
    let facts = c.args.facts in
    let some : 0 < length facts.items = omega (arith, facts.ok.0, eqb-false facts.len 0 (sym c.if-is_empty.ensures)) in
    record {
      reply = counted.reply;
      answer = subst (λ (fs : List Fact). Tests s old.listed before fs text counted.reply after) c.requires.facts (tested s old.listed facts.items before text counted.reply after some counted.answer);
      text = counted.text;
      network = counted.network;
      infers = subst (λ (fs : List Fact). Infers s (tests_of old) (if nat_lt (length (tests_of old)) most_tests then fs else []) (asked_of old.rules) (asked_of new.rules)) c.requires.facts counted.infers;
      draws = counted.draws;
    }
