use Rattle.std.proofs.Common.{inl, inr, refl, subst}
use Rattle.std.specs.Prelude.{MatchOption, codes}
use Rattle.nc_tables.specs.State.{StateView}
use Rattle.nc_rules.specs.Rules.{flow_of}
use Rattle.nc_rules.specs.Seen.{state_of}
use Rattle.nc_engine.specs.Cuts.{IsLeastCut, IsUncut, none_of}
use Rattle.nc_engine.specs.Session.{State, test_in}
use Rattle.nc_engine.specs.Work.{tests_of}
use Rattle.nc_engine.proofs.work.Work.cut_at.Goals as goal

pub returns-in-Err-Full-clause-drawn : goal.returns-in-Err-Full-clause-drawn
returns-in-Err-Full-clause-drawn c = inr (codes "limit diagrams", c.in_ok-push_line-in-Err-Full.ensures)

pub returns-in_default-clause-cut : goal.returns-in_default-clause-cut
returns-in_default-clause-cut c =
    let new = c.draw.new.self in
    let drawn = c.draw.ensures in
    let names = c.args.names.now in
    let facts = (test_in (tests_of new) c.args.place).facts in
    let now : IsUncut (flow_of (state_of new.rules)) (state_of new.rules).routers names facts =
    subst (λ o. MatchOption o (IsUncut (flow_of (state_of new.rules)) (state_of new.rules).routers names facts) (λ cut. IsLeastCut (flow_of (state_of new.rules)) (state_of new.rules).routers names facts cut.items))
    c.in_default.is c.in_ok-cut.ensures in
    let uncut = subst (λ (kept : State). IsUncut (flow_of (state_of c.args.self.now.rules)) (state_of c.args.self.now.rules).routers names (test_in kept.tests c.args.place).facts) drawn.kept
    (subst (λ (s : StateView). IsUncut (flow_of s) s.routers names facts) drawn.network.state now) in
    record {
      reply = none_of c.args.number;
      answer = inl (inl (uncut, refl), drawn.kept);
      text = c.in_ok-push_none.ensures;
      network = drawn.network;
      infers = drawn.asked;
      draws = inr drawn.draws;
    }

pub returns-then-is_refused-clause-drawn : goal.returns-then-is_refused-clause-drawn
returns-then-is_refused-clause-drawn c = inr (codes "limit diagrams", c.in_ok-push_line.ensures)
