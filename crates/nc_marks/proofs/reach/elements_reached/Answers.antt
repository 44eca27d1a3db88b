use Rattle.std.proofs.Common.{◌≡◌, ◌<◌, ◌∙◌, length, true, map, drop, subst, sym}
use Rattle.std.proofs.lemmas.List.Elements.{All-map}
use Rattle.nc_marks.specs.Sets.{flag}
use Rattle.nc_marks.proofs.ReachLemmas.{tells-all, written}
use Rattle.nc_marks.proofs.reach.elements_reached.Goals as goal

pub returns-clause-some : goal.returns-clause-some
returns-clause-some g c = λ e lt.
    let long : length c.deref_mut.result.now ≡ c.args.elements = c.deref_mut.ensures.len ∙ c.in_ok-flags.ensures.len in
    let flags = c.flag_leaves.new.flags in
    written flags (drop (length flags) c.in_ok-flags.flags.items) c.in_ok-flags.flags.len e (c.flag_leaves.ensures.len ∙ c.deref_mut.ensures.len)
    ∙ tells-all c.args.graph.now c.flag_leaves.ensures.graph c.args.reached.now c.requires.closed e
    (map (λ p. p.0) c.args.tested.now)
    (All-map (λ i. i < length c.args.graph.now.facts) (λ p. p.0) c.args.tested.now c.requires.valid)
    (All-map (λ i. flag c.args.reached.now i ≡ true) (λ p. p.0) c.args.tested.now c.requires.tested)
    (c.requires.within e) (flag flags e) (c.flag_leaves.ensures.leaves e (subst (λ m. e < m) (sym long) lt))
