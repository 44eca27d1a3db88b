use Rattle.std.proofs.Common.{◌+◌, ◌<◌, ◌≤◌, ◌∙◌, length, take, get_or, ap, sym, subst, arith}
use Rattle.std.proofs.lemmas.Bool.{lt-ltb}
use Rattle.std.proofs.lemmas.List.{length_push}
use Rattle.nc_graph.specs.Derivation.{strong}
use Rattle.nc_graph.specs.Nodes.{node_flow}
use Rattle.nc_graph.proofs.DerivationLaws.{parent_lower}
use Rattle.nc_marks.specs.Sets.{ArePlaced, IsAt}
use Rattle.nc_graph.proofs.Members.{all_from}
use Rattle.nc_marks.proofs.StrongLemmas.{place-more}
use Rattle.nc_marks.proofs.GrowthLemmas.{placed-on}
use Rattle.nc_marks.proofs.KeptLemmas.{placed-more, take-more, grows-on}
use Rattle.nc_marks.proofs.kept.add_places.Goals as goal

pub nodes-preserved : goal.nodes-preserved
nodes-preserved g c =
    let n = c.args.graph.now in
    let i = c.nodes.number in
    let here : i < length n.facts = omega (arith, c.nodes-test.true, c.nodes.auto.number-end, c.len-len.ensures.len) in
    let places = c.nodes.places.items in
    let pushed = c.in_ok-push.ensures.items in
    record {
      long = ap length pushed ∙ length_push places c.in_ok-place.place ∙ ap (λ m. m + 1) c.nodes.invariant.long;
      kept = take-more c.args.places.now.items places c.push.new.self.items c.in_ok-place.place pushed c.nodes.invariant.kept;
      gathered = c.place_of.ensures.width ∙ c.nodes.invariant.gathered;
      grows = grows-on c.args.sets.now c.nodes.sets c.place_of.new.sets c.nodes.invariant.grows c.place_of.ensures.grows;
      placed = placed-more c.nodes.sets c.place_of.new.sets places c.push.new.self.items c.in_ok-place.place c.place_of.ensures.grows pushed c.nodes.invariant.placed c.in_ok-place.ensures.placed;
      few = omega (arith, c.nodes.invariant.few, c.place_of.ensures.most);
      strong = λ before j lt. place-more (λ _. Unit {0}) (λ j e. strong (node_flow n) e j) c.nodes.sets c.place_of.new.sets places c.push.new.self.items c.in_ok-place.place i c.nodes.invariant.long c.place_of.ensures.grows pushed
          (λ j lt t. c.nodes.invariant.strong before j lt)
          (λ t. c.in_ok-place.ensures.strong (all_from (λ p. IsAt c.nodes.sets (get_or c.deref.result.now p 0) (λ e. strong (node_flow n) e p)) ((node_flow n).parents i)
          (λ p within. subst (λ ps. IsAt c.nodes.sets (get_or ps p 0) (λ e. strong (node_flow n) e p)) (sym c.deref.ensures.value)
          (c.nodes.invariant.strong before p (parent_lower (node_flow n) c.len-len.ensures.graph.flow i p (lt-ltb i (length n.facts) here) within))))) j lt tt;
    }

pub returns-in_err-place-clause-grows : goal.returns-in_err-place-clause-grows
returns-in_err-place-clause-grows g c =
    grows-on c.args.sets.now c.nodes.sets c.place_of.new.sets c.nodes.invariant.grows c.place_of.ensures.grows

pub returns-in_err-push-clause-grows : goal.returns-in_err-push-clause-grows
returns-in_err-push-clause-grows g c =
    grows-on c.args.sets.now c.nodes.sets c.place_of.new.sets c.nodes.invariant.grows c.place_of.ensures.grows

pub returns-in_err-place-clause-within : goal.returns-in_err-place-clause-within
returns-in_err-place-clause-within g c =
    placed-on c.nodes.sets c.place_of.new.sets c.nodes.places.items c.place_of.ensures.grows c.nodes.invariant.placed

pub returns-in_err-push-clause-within : goal.returns-in_err-push-clause-within
returns-in_err-push-clause-within g c =
    subst (ArePlaced c.place_of.new.sets) (sym c.in_err-push.ensures.items) (placed-on c.nodes.sets c.place_of.new.sets c.nodes.places.items c.place_of.ensures.grows c.nodes.invariant.placed)

pub returns-in_err-place-clause-kept : goal.returns-in_err-place-clause-kept
returns-in_err-place-clause-kept g c =
    c.nodes.invariant.kept

pub returns-in_err-push-clause-kept : goal.returns-in_err-push-clause-kept
returns-in_err-push-clause-kept g c =
    ap (take (length c.args.places.now.items)) c.in_err-push.ensures.items ∙ c.nodes.invariant.kept

pub returns-in_err-place-clause-width : goal.returns-in_err-place-clause-width
returns-in_err-place-clause-width g c =
    c.place_of.ensures.width ∙ c.nodes.invariant.gathered

pub returns-in_err-push-clause-width : goal.returns-in_err-push-clause-width
returns-in_err-push-clause-width g c =
    c.place_of.ensures.width ∙ c.nodes.invariant.gathered

pub returns-clause-grows : goal.returns-clause-grows
returns-clause-grows g c =
    c.nodes.invariant.grows

pub returns-clause-kept : goal.returns-clause-kept
returns-clause-kept g c =
    c.nodes.invariant.kept

pub returns-clause-width : goal.returns-clause-width
returns-clause-width g c =
    c.nodes.invariant.gathered

pub returns-clause-within : goal.returns-clause-within
returns-clause-within g c =
    c.nodes.invariant.placed

pub returns-clause-strong : goal.returns-clause-strong
returns-clause-strong g c =
    λ before i lt. c.nodes.invariant.strong before i (omega (arith, c.nodes-test.false, c.len-len.ensures.len))

pub returns-clause-few : goal.returns-clause-few
returns-clause-few g c =
    subst (λ n. length c.nodes.sets.sets ≤ n + 1) (sym c.nodes.invariant.long) c.nodes.invariant.few
