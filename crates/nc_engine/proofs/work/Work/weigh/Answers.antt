use Rattle.std.proofs.Common.{[], ◌∷◌, inl, inr, refl, sym, ap, ◌∙◌, subst}
use Rattle.std.specs.Prelude.{codes}
use Rattle.nc_tables.specs.State.{StateView}
use Rattle.std.specs.List.Sorted.{IsStrictlyIncreasing}
use Rattle.std.proofs.lemmas.Option.{MatchOption-at_some}
use Rattle.nc_diagram.specs.Sets.{all_but}
use Rattle.nc_rules.specs.Rules.{flow_of}
use Rattle.nc_rules.specs.Seen.{state_of}
use Rattle.nc_engine.specs.Engine.{DrawsFor}
use Rattle.nc_engine.specs.Questions.{IsImplied, IsGreatestApart}
use Rattle.nc_engine.specs.Session.{State, IsCrowded, test_in, with_pair}
use Rattle.nc_engine.specs.Work.{kept_of, tests_of}
use Rattle.nc_report.specs.Texts.{line_of}
use Rattle.nc_engine.proofs.Comparing.{compared-no}
use Rattle.nc_engine.proofs.Crowding.{crowded-question}
use Rattle.nc_engine.proofs.work.Work.weigh.Goals as goal
use Rattle.nc_engine.proofs.work.Work.weigh.Goals.{then-is_refused-via-then-is_refused, then-is_refused-via-else-is_refused+then-is_refused-2}

pub returns-in-Ok-Some-clause-compared : goal.returns-in-Ok-Some-clause-compared
returns-in-Ok-Some-clause-compared c =
    let old = c.args.self.now in
    let i = c.args.places.0 in
    let j = c.args.places.1 in
    let compared = c.compare.ensures in
    let noted = c.note-in-Ok-Some.ensures in
    let state = noted.network.state ∙ compared.network.state in
    let missing = c.in-Ok-Some.missing.items in
    let g = flow_of (state_of old.rules) in
    let left = (test_in (tests_of old) i).facts in
    let right = (test_in (tests_of old) j).facts in
    let answer : IsStrictlyIncreasing missing × IsGreatestApart g left right (all_but missing) = MatchOption-at_some (IsImplied g left right) (λ missing. IsStrictlyIncreasing missing.items × IsGreatestApart g left right (all_but missing.items))
    c.in-Ok-Some.missing c.in-Ok-Some.field-0-is c.in-Ok-Some.ensures.answers in
    compared-no old c.note-in-Ok-Some.new.self (record { state = state; listed = noted.network.listed ∙ compared.network.listed; dead = noted.network.dead ∙ compared.network.dead }) (noted.asked ∙ compared.asked) i j c.args.first c.args.second
    (subst (DrawsFor (state_of old.rules) (left ∷ right ∷ []) old.store) (sym noted.store) compared.draws)
    (c.in_ok-note-in-Ok-Some.ensures.kept ∙ ap (λ (kept : State). with_pair kept i j) compared.kept) missing c.deref.result.now answer.0 answer.1 c.deref.ensures.value
    c.network-network.result.now (c.network-network.ensures.network ∙ ap (λ (s : StateView). s.routers) (c.state.ensures ∙ state)) c.args.out.now.items c.push_no.new.out.items c.in_ok-push_no-in-Ok-Some.ensures

pub returns-then-is_refused-clause-compared : goal.returns-then-is_refused-clause-compared
returns-then-is_refused-clause-compared c =
    let old = c.args.self.now in
    let s = state_of old.rules in
    let crowded : IsCrowded s (kept_of old) = elim c.then-is_refused.branch [
      | then-is_refused-via-then-is_refused w ↦ c.is_refused.ensures w.if-is_refused.true
      | then-is_refused-via-else-is_refused+then-is_refused-2 w ↦ w.is_refused-else-is_refused.ensures w.if-is_refused-2.true
    ] in
    record {
      reply = line_of (codes "refused limit diagrams");
      answer = inr (crowded-question s (kept_of old) c.args.places.0 c.args.places.1 crowded, (refl, refl));
      text = c.in_ok-push_line.ensures;
      network = record { state = refl; listed = refl; dead = refl };
      infers = refl;
      draws = inl refl;
    }
