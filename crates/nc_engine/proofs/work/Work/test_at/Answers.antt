use Rattle.std.proofs.Common.{◌≡◌, List, false, codes, inl, refl, sym, ◌∙◌, subst}
use Rattle.nc_fact.specs.declared.fact.Fact.{Fact}
use Rattle.nc_rules.specs.Seen.{state_of, asked_of}
use Rattle.nc_engine.specs.Session.{State, has_line}
use Rattle.nc_report.specs.Texts.{line_of}
use Rattle.nc_engine.specs.Engine.{Infers}
use Rattle.nc_engine.specs.Work.{tests_of, kept_of, with_lent}
use Rattle.nc_engine.proofs.Asking.{told_before}
use Rattle.nc_engine.proofs.Answering.{lined, unlined, none-asked, none-lined}
use Rattle.nc_engine.proofs.work.Work.test_at.Goals as goal

pub returns-then-not-has_line-clause-tested : goal.returns-then-not-has_line-clause-tested
returns-then-not-has_line-clause-tested c =
    let old = c.args.self.now in
    let s = state_of old.rules in
    let tests = tests_of old in
    let test = c.args.test.now in
    let router = c.args.router.0 in
    let none : has_line s router test ≡ false = sym c.has_line.ensures ∙ c.if-not-has_line.true in
    let kept : State = kept_of old in
    record {
      reply = line_of (codes "refused line");
      answer = unlined s old.listed router test kept kept (line_of (codes "refused line")) none (refl, refl);
      text = c.in_ok-push_line.ensures;
      network = record { state = refl; listed = refl; dead = refl };
      infers = subst (λ (fs : List Fact). Infers s tests fs (asked_of old.rules) (asked_of old.rules)) (sym (none-asked s tests test (none-lined s router test c.requires.router none))) refl;
      draws = inl refl;
    }

pub returns-clause-tested : goal.returns-clause-tested
returns-clause-tested c =
    let old = c.args.self.now in
    let s = state_of old.rules in
    let kept = c.facts.ensures in
    let told = told_before old c.facts.new.self c.judge.new.self c.args.test.now c.args.out.now.items (with_lent c.in_ok-lends.lends c.judge.new.self.shown c.judge.new.out.items) kept.network kept.kept kept.asked kept.store c.in_ok-lends.ensures.told in
    record {
      reply = told.reply;
      answer = lined s old.listed c.args.router.0 c.args.test.now (kept_of old) (kept_of c.judge.new.self) told.reply (sym c.has_line.ensures ∙ c.if-not-has_line.false) told.answer;
      text = told.text;
      network = told.network;
      infers = told.infers;
      draws = told.draws;
    }
