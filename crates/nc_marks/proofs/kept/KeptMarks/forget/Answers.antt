use Rattle.std.proofs.Common.{◌≡◌, ◌<◌, ℕ, List, [], true, ◌∙◌, length, get_or, ap, sym, subst}
use Rattle.std.proofs.lemmas.List.{length-map}
use Rattle.std.proofs.lemmas.List.Elements.{All-map}
use Rattle.nc_graph.specs.Nodes.{node_flow}
use Rattle.nc_marks.specs.Kept.{Kept, AreKept, TouchesOnly, kept_nodes}
use Rattle.nc_marks.specs.Sets.{flag, in_some}
use Rattle.nc_marks.proofs.ForgetLemmas.{kept-others}
use Rattle.nc_marks.proofs.kept.KeptMarks.forget.Goals as goal

pub returns-clause-kept : goal.returns-clause-kept
returns-clause-kept g c = λ before elements are.
    let n = c.args.graph.now in
    let was = c.self.inside.nodes in
    let marks = c.self.inside.marks in
    let flags = c.in_ok-reached.reached.items in
    let width = c.width-elements.ensures in
    kept-others n c.reach.ensures.graph was.sets was.gathered was.places.items marks c.new-marks.result c.self.invariant.0 elements before c.args.live.now was.reached.items flags
    (subst (λ (k : Kept). AreKept (node_flow n) (length n.facts) before elements k) (sym c.self.view_is) are)
    c.requires.valid c.in_ok-reached.ensures.len
    (record {
      tops = All-map (λ i. flag flags i ≡ true) (λ p. p.0) c.args.live.now c.in_ok-reached.ensures.tested;
      closed = c.in_ok-reached.ensures.closed;
      within = c.in_ok-reached.ensures.within;
    })
    (ap (λ m. length m.strong) c.new-marks.ensures ∙ c.in_ok-strong.ensures.len)
    (λ e lt. ap (λ m. flag m.strong e) c.new-marks.ensures ∙ c.in_ok-strong.ensures.strong e lt
    ∙ ap (λ (ps : List ℕ). in_some was.sets ps c.args.live.now e) c.deref-2.ensures.value)
    (λ e lt. ap (λ m. flag m.some e) c.new-marks.ensures ∙ c.in_ok-some.ensures.some e (subst (λ m. e < m) (sym width) lt))

pub returns-clause-touched : goal.returns-clause-touched
returns-clause-touched g c =
    subst (λ (k : Kept). TouchesOnly c.in_ok-touched.touched.items k.marks c.new-marks.result) c.self.view_is c.in_ok-touched.ensures

pub returns-clause-elements : goal.returns-clause-elements
returns-clause-elements g c =
    ap (λ m. length m.strong) c.new-marks.ensures ∙ c.in_ok-strong.ensures.len ∙ sym c.self.invariant.0.marked ∙ ap (λ (k : Kept). length k.marks.strong) c.self.view_is

pub returns-clause-count : goal.returns-clause-count
returns-clause-count g c =
    ap (λ (k : Kept). kept_nodes k) c.self.view_is ∙ c.requires.all

pub changed-requires-clause-after : goal.changed-requires-clause-after
changed-requires-clause-after g c =
    ap (λ m. length m.strong) c.new-marks.ensures ∙ c.in_ok-strong.ensures.len ∙ sym c.width-elements.ensures

pub changed-requires-clause-before : goal.changed-requires-clause-before
changed-requires-clause-before g c =
    c.self.invariant.0.marked ∙ sym c.width-elements.ensures

pub invariant_of-self : goal.invariant_of-self
invariant_of-self g c =
    let t = c.self.inside.nodes in
    let table = c.self.invariant.0 in (
      record { empty = table.empty; gathering = table.gathering; marked = ap (λ m. length m.strong) c.new-marks.ensures ∙ c.in_ok-strong.ensures.len; placed = table.placed; few = table.few },
      c.in_ok-reached.ensures.len ∙ sym c.requires.all ∙ sym (ap (λ (k : Kept). kept_nodes k) c.self.view_is) ∙ length-map t.places.items (λ place. get_or t.sets.sets place []),
    )
