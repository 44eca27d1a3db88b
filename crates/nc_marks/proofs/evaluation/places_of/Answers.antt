use Rattle.std.proofs.Common.{◌≡◌, ◌∙◌, ◌<◌, ◌≤◌, ◌+◌, true, false, length, get_or, ap, sym, subst, arith}
use Rattle.std.proofs.lemmas.Bool.{lt-ltb}
use Rattle.std.proofs.lemmas.List.{length_push}
use Rattle.nc_graph.specs.Derivation.{strong}
use Rattle.nc_graph.specs.Nodes.{node_flow}
use Rattle.nc_graph.proofs.Members.{of_all, all_from}
use Rattle.nc_graph.proofs.DerivationLaws.{parent_lower}
use Rattle.nc_marks.specs.Sets.{flag, Grows, IsAt}
use Rattle.nc_marks.proofs.StrongLemmas.{place-more, at-grown, grows-none}
use Rattle.nc_marks.proofs.evaluation.places_of.Goals.{then-reached-number+in_ok-place, else-reached-number}
use Rattle.nc_marks.proofs.evaluation.places_of.Goals as goal

pub nodes-preserved : goal.nodes-preserved
nodes-preserved g c =
    let n = c.args.graph.now in
    let i = c.nodes.number in
    let old = c.nodes.sets in
    let next = c.if-reached-number.sets in
    let places = c.nodes.places.items in
    let here : i < length n.facts = omega (arith, c.nodes-test.true, c.nodes.auto.number-end, c.len-number-end.ensures.len) in
    let grows : Grows old next = elim c.if-reached-number.branch [
      | then-reached-number+in_ok-place w ↦ rw w.sets-is w.place_of.ensures.grows
      | else-reached-number w ↦ rw w.sets-is (grows-none old)
    ] in
    let most : length next.sets ≤ length old.sets + 1 = elim c.if-reached-number.branch [
      | then-reached-number+in_ok-place w ↦ rw w.sets-is w.place_of.ensures.most
      | else-reached-number w ↦ rw w.sets-is (omega arith)
    ] in
    let new : flag c.args.reached.now i ≡ true → IsAt next c.if-reached-number.place (λ e. strong (node_flow n) e i) = elim c.if-reached-number.branch [
      | then-reached-number+in_ok-place w ↦ λ f. rw (w.sets-is, w.place-is) (w.in_ok-place.ensures.strong
          (all_from (λ p. IsAt old (get_or w.deref.result.now p 0) (λ e. strong (node_flow n) e p)) ((node_flow n).parents i)
          (λ p within. subst (λ ps. IsAt old (get_or ps p 0) (λ e. strong (node_flow n) e p)) (sym w.deref.ensures.value)
          (c.nodes.invariant.placed p (parent_lower (node_flow n) c.len.ensures.graph.flow i p (lt-ltb i (length n.facts) here) within)
          (of_all (λ p. flag c.args.reached.now p ≡ true) ((node_flow n).parents i) p (c.requires.closed.each i (omega arith) f) within)))))
      | else-reached-number w ↦ λ f. absurd (cc)
    ] in
    record {
      long = ap length c.in_ok-push.ensures.items ∙ length_push places c.if-reached-number.place ∙ ap (λ m. m + 1) c.nodes.invariant.long;
      width = grows.width ∙ c.nodes.invariant.width;
      gathered = elim c.if-reached-number.branch [
        | then-reached-number+in_ok-place w ↦ rw w.gathered-is (w.place_of.ensures.width ∙ c.nodes.invariant.gathered ∙ sym grows.width)
        | else-reached-number w ↦ rw w.gathered-is (c.nodes.invariant.gathered ∙ sym grows.width)
      ];
      empty = at-grown old next 0 (λ _. false) grows c.nodes.invariant.empty;
      few = omega (arith, c.nodes.invariant.few);
      placed = place-more (λ j. flag c.args.reached.now j ≡ true) (λ j e. strong (node_flow n) e j) old next places c.push.new.self.items c.if-reached-number.place i c.nodes.invariant.long grows c.in_ok-push.ensures.items
          c.nodes.invariant.placed new;
    }
