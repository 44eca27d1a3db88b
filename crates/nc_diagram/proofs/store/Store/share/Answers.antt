use Rattle.std.proofs.Common.{◌+◌, ◌<◌, ◌≤◌, length, reverse, sym, subst, arith}
use Rattle.std.proofs.lemmas.List.{length-reverse}
use Rattle.nc_diagram.specs.Diagrams.{Belongs, IsNode, level}
use Rattle.nc_diagram.specs.Places.{Makes}
use Rattle.nc_diagram.proofs.GrowthLemmas.{Keeps-makes}
use Rattle.nc_diagram.proofs.RecentLemmas.{AreKept-more}
use Rattle.nc_diagram.proofs.StoreLemmas.{IsStore-added, Makes-added, Makes-there, IsNode-unfound, node_at-keys}
use Rattle.nc_diagram.proofs.store.Store.share.Goals as goal

pub returns-in-Some-clause-made : goal.returns-in-Some-clause-made
returns-in-Some-clause-made c =
    let n = c.args.node in
    subst (λ d. Makes n.variable n.low n.high d d (c.in-Some.index + 2)) c.self.view_is
    (Makes-there (record { nodes = reverse c.self.inside.nodes; limit = c.self.inside.limit }) n (c.in-Some.index + 2) c.self.invariant.0.reduced
    (node_at-keys c.self.inside.nodes c.in-Some.index n c.in-Some.ensures.found))

pub returns-then-count-self-clause-full : goal.returns-then-count-self-clause-full
returns-then-count-self-clause-full c = λ _.
    let n = c.args.node in
    let ks = c.self.inside.nodes in
    let count = length-reverse ks in
    let many : c.self.inside.limit ≤ length (reverse ks) = omega arith in (
      subst (λ d. d.limit ≤ length d.nodes) c.self.view_is many,
      subst (λ d. IsNode d.nodes n) c.self.view_is
          (IsNode-unfound ks c.self.inside.limit n c.self.invariant.0
          (subst (λ d. Belongs d.nodes n.low) (sym c.self.view_is) c.requires.low_older)
          (subst (λ d. Belongs d.nodes n.high) (sym c.self.view_is) c.requires.high_older)
          (subst (λ d. n.variable < level d.nodes n.low) (sym c.self.view_is) c.requires.low_later)
          (subst (λ d. n.variable < level d.nodes n.high) (sym c.self.view_is) c.requires.high_later)
          c.requires.ends_differ
          c.in_default.ensures.none),
    )

pub invariant_of-self-2 : goal.invariant_of-self-2
invariant_of-self-2 c =
    let n = c.args.node in
    let ks = c.self.inside.nodes in
    let next = c.add.new.self in
    let low = subst (λ d. Belongs d.nodes n.low) (sym c.self.view_is) c.requires.low_older in
    let high = subst (λ d. Belongs d.nodes n.high) (sym c.self.view_is) c.requires.high_older in
    let low_later = subst (λ d. n.variable < level d.nodes n.low) (sym c.self.view_is) c.requires.low_later in
    let high_later = subst (λ d. n.variable < level d.nodes n.high) (sym c.self.view_is) c.requires.high_later in
    let none = c.in_default.ensures.none in
    let made = Makes-added ks c.self.inside.limit n c.self.invariant.0 low high low_later high_later c.requires.ends_differ none next c.in_ok-add.ensures.added in (
      IsStore-added ks c.self.inside.limit n c.self.invariant.0 low high low_later high_later c.requires.ends_differ none next c.in_ok-add.ensures.added
          (omega arith),
      AreKept-more (reverse ks) (reverse next) c.self.inside.recent c.self.inside.conjunctions.slots.items c.self.inside.disjunctions.slots.items
          (Keeps-makes n.variable n.low n.high (record { nodes = reverse ks; limit = c.self.inside.limit }) (record { nodes = reverse next; limit = c.self.inside.limit }) (length ks + 2) made)
          c.self.invariant.1,
    )

pub returns-clause-made : goal.returns-clause-made
returns-clause-made c =
    let n = c.args.node in
    subst (λ k. Makes n.variable n.low n.high c.args.self.now (record { nodes = reverse c.add.new.self; limit = c.self.inside.limit }) (k + 2)) (sym c.len-count.ensures)
    (subst (λ d. Makes n.variable n.low n.high d (record { nodes = reverse c.add.new.self; limit = c.self.inside.limit }) (length c.self.inside.nodes + 2)) c.self.view_is
    (Makes-added c.self.inside.nodes c.self.inside.limit n c.self.invariant.0
    (subst (λ d. Belongs d.nodes n.low) (sym c.self.view_is) c.requires.low_older)
    (subst (λ d. Belongs d.nodes n.high) (sym c.self.view_is) c.requires.high_older)
    (subst (λ d. n.variable < level d.nodes n.low) (sym c.self.view_is) c.requires.low_later)
    (subst (λ d. n.variable < level d.nodes n.high) (sym c.self.view_is) c.requires.high_later)
    c.requires.ends_differ c.in_default.ensures.none c.add.new.self c.in_ok-add.ensures.added))

pub invariant_of-self : goal.invariant_of-self
invariant_of-self c = rw c.in_err-add.ensures.err c.self.invariant
