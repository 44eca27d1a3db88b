use Rattle.std.proofs.Common.{ℕ, List, [], ◌∷◌, All, sym, subst}
use Rattle.std.proofs.lemmas.List.Elements.{All-nil, All-cons, All-append}
use Rattle.nc_formula.specs.Session.{AreDrawn}
use Rattle.nc_rules.specs.Rules.{flow_of}
use Rattle.nc_rules.specs.Seen.{state_of}
use Rattle.nc_engine.specs.Session.{IsCrowded, posed_in}
use Rattle.nc_engine.specs.Work.{IsDrawnFor, kept_of, tests_of}
use Rattle.nc_engine.proofs.Crowding.{crowded-question}
use Rattle.nc_engine.proofs.work.Work.note.Goals as goal

pub returns-clause-work : goal.returns-clause-work
returns-clause-work c =
    let w = c.args.self.now in
    let s = state_of w.rules in
    let was = c.requires.work in
    record {
      state = was.state;
      marked = was.marked;
      nodes = was.nodes;
      drawn = subst (λ (pairs : List (ℕ × ℕ)). AreDrawn (flow_of s) (posed_in (record { tests = tests_of w; pairs = pairs })) w.graph w.store w.formulas) (sym c.in_ok-push.ensures.items)
          (c.drawn_with_a_question.ensures (flow_of s) (posed_in (kept_of w)) c.args.first c.args.second w.graph w.store w.formulas was.drawn);
      answered = subst (All (IsDrawnFor w.formulas w.tests.items)) (sym c.in_ok-push.ensures.items)
          (All-append (IsDrawnFor w.formulas w.tests.items) w.pairs.items ((c.args.first, c.args.second) ∷ []) was.answered
          (All-cons (IsDrawnFor w.formulas w.tests.items) (c.args.first, c.args.second) [] c.requires.drawn (All-nil (IsDrawnFor w.formulas w.tests.items))));
      room = was.room;
      shown = was.shown;
      few = was.few;
      dead = was.dead;
      crowded = λ place raised.
          subst (λ (pairs : List (ℕ × ℕ)). IsCrowded s (record { tests = tests_of w; pairs = pairs })) (sym c.in_ok-push.ensures.items)
          (crowded-question s (kept_of w) c.args.first c.args.second (was.crowded place raised));
    }
