use Rattle.std.proofs.Common.{◌≡◌, ◌+◌, ◌-◌, length, get_or, Some, sym, ap, subst, ◌∙◌, arith}
use Rattle.std.proofs.lemmas.Bool.{false≢true}
use Rattle.std.proofs.lemmas.List.{get_or_default}
use Rattle.std.proofs.lemmas.Option.{slice_get-get_or}
use Rattle.nc_diagram.specs.declared.node.Node.{Node}
use Rattle.nc_diagram.specs.Index.{next}
use Rattle.nc_diagram.proofs.IndexLemmas.{IsSought, IsSought-free, IsSought-next, node_eq, node_same, node_itself}
use Rattle.nc_diagram.proofs.nodes.index_of.Goals as goal

pub returns-in_err-index-clause-none : goal.returns-in_err-index-clause-none
returns-in_err-index-clause-none c =
    let slots = c.args.slots.now in
    rw c.from_residual.ensures (IsSought-free slots c.args.nodes.now c.args.node (length slots - c.slots._step) c.slots.at c.in_err-index.ensures.free c.slots.invariant)

pub returns-then-eq-clause-found : goal.returns-then-eq-clause-found
returns-then-eq-clause-found c =
    let nodes = c.args.nodes.now in
    let index = c.in_ok-index.index in
    let none : Node = record { variable = 0; low = 0; high = 0 } in
    slice_get-get_or nodes index none c.in_ok-index.ensures.within
    ∙ ap Some (node_same (get_or nodes index none) c.args.node (sym c.eq.ensures ∙ c.if-eq.true))

pub slots-preserved : goal.slots-preserved
slots-preserved c =
    let slots = c.args.slots.now in
    let nodes = c.args.nodes.now in
    let index = c.in_ok-index.index in
    let none : Node = record { variable = 0; low = 0; high = 0 } in
    let step : (length slots - c.slots._step) - 1 ≡ length slots - (c.slots._step + 1) = omega arith in
    let further =
    IsSought-next slots nodes c.args.node (length slots - c.slots._step) c.slots.at index c.in_ok-index.ensures.held
    (λ d e. false≢true (sym c.if-eq.false ∙ c.eq.ensures ∙ ap (λ m. node_eq m c.args.node) (get_or_default nodes index none d c.in_ok-index.ensures.within ∙ e) ∙ node_itself c.args.node))
    c.slots.invariant in
    subst (IsSought slots nodes c.args.node (length slots - (c.slots._step + 1))) (sym c.next-at.ensures)
    (subst (λ room. IsSought slots nodes c.args.node room (next (length slots) c.slots.at)) step further)
