use Rattle.std.proofs.Common.{◌≡◌, ℕ, List, ◌++◌, None, inl, refl, sym, ap, ◌∙◌, subst}
use Rattle.std.specs.Option.{option_map}
use Rattle.nc_types.specs.Network.{router_named}
use Rattle.nc_fact.specs.declared.fact.Fact.{Fact}
use Rattle.nc_rules.specs.Seen.{state_of, asked_of}
use Rattle.nc_engine.specs.Session.{router_of, unknown_of}
use Rattle.nc_report.specs.Texts.{line_of}
use Rattle.nc_engine.specs.Engine.{Infers}
use Rattle.nc_engine.specs.Work.{tests_of, kept_of}
use Rattle.nc_engine.proofs.Answering.{named, unknown, none-asked, none-named}
use Rattle.nc_engine.proofs.work.Work.test.Goals as goal

pub returns-in_default-clause-tests : goal.returns-in_default-clause-tests
returns-in_default-clause-tests c =
    let old = c.args.self.now in
    let s = state_of old.rules in
    let tests = tests_of old in
    let test = c.args.test.now in
    let none : router_named s.routers (router_of test) ≡ None = ap (router_named s.routers) (sym c.router_of-name.ensures) ∙ sym c.router.ensures ∙ ap (option_map (λ r. r.0)) c.in_default.is in
    record {
      reply = line_of (unknown_of (router_of test));
      answer = unknown s old.listed (kept_of old) test none;
      text = c.in_ok-push_unknown.ensures ∙ ap (λ (word : List ℕ). c.args.out.now.items ++ line_of (unknown_of word)) (c.bytes.ensures ∙ c.router_of-name.ensures);
      network = record { state = refl; listed = refl; dead = refl };
      infers = subst (λ (fs : List Fact). Infers s tests fs (asked_of old.rules) (asked_of old.rules)) (sym (none-asked s tests test (none-named s test none))) refl;
      draws = inl refl;
    }

pub returns-clause-tests : goal.returns-clause-tests
returns-clause-tests c =
    let old = c.args.self.now in
    let s = state_of old.rules in
    let at = c.in_ok-lends.ensures.tested in
    record {
      reply = at.reply;
      answer = named s old.listed c.in-Some.router.0 c.args.test.now (kept_of old) (kept_of c.test_at.new.self) at.reply (ap (router_named s.routers) (sym c.router_of-name.ensures) ∙ sym c.router.ensures ∙ ap (option_map (λ r. r.0)) c.in-Some.is) at.answer;
      text = at.text;
      network = at.network;
      infers = at.infers;
      draws = at.draws;
    }
