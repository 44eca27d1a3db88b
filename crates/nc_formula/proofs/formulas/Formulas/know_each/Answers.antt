use Rattle.std.proofs.Common.{◌≡◌, ◌<◌, ℕ, List, ◌++◌, length, map, Err, refl, sym, ap, subst, ◌∙◌, arith}
use Rattle.std.proofs.lemmas.Bool.{ltb-true}
use Rattle.std.proofs.lemmas.Grind.{common_steps}
use Rattle.std.proofs.lemmas.List.{nil_from_length}
use Rattle.nc_graph.specs.Nodes.{node_flow}
use Rattle.nc_graph.specs.Walk.{Step, visit, number}
use Rattle.nc_graph.proofs.Weights.{weight, number-lighter}
use Rattle.nc_diagram.specs.declared.fault.StoreFault.TheVariants.{Full}
use Rattle.nc_formula.specs.declared.walk.Task.{Task}
use Rattle.nc_formula.specs.declared.walk.Task.TheVariants.{Need, Make}
use Rattle.nc_formula.specs.Parts.{IsBaseOf, IsBaseFrom}
use Rattle.nc_formula.specs.Formulas.{IsKnown}
use Rattle.nc_formula.proofs.GainLemmas.{Within, gains-none, gains-wider, gains-more, crowded-wider, crowded-before}
use Rattle.nc_graph.proofs.Members.{all_from}
use Rattle.nc_graph.proofs.Parents.{in-map}
use Rattle.nc_formula.proofs.WalkLemmas.{IsMaking, steps, steps-pop, begins, opened, parents-known, makes, ends, step-holds, roots-hold}
use Rattle.nc_formula.proofs.formulas.Formulas.know_each.Goals as goal

pub tasks-init : goal.tasks-init
tasks-init g c =
    let flow = node_flow c.args.graph.now in
    let roots = map (λ p. p.0) c.args.nodes.now in
    record {
      making = begins flow roots c.args.self.now c.args.nodes.now refl c.need_all.new.tasks.items
          (c.in_ok-need_all.ensures ∙ ap (λ ts. ts ++ map Need c.args.nodes.now) c.new-tasks.ensures.items);
      still = λ i r e. e;
      formulas = c.requires.formulas;
      gains = gains-none (IsBaseFrom flow roots) c.args.store.now;
    }

pub open-requires : goal.open-requires
open-requires g c =
    let n = c.args.graph.now in
    let flow = node_flow n in
    let roots = map (λ p. p.0) c.args.nodes.now in
    let top = steps-pop flow c.tasks.tasks.items c.pop.new.self.items c.in-Some.task (Need c.in-Need.node) c.in-Some.ensures.items c.in-Need.is in
    let m = subst (IsMaking flow roots c.tasks.self) top c.tasks.invariant.making in
    ltb-true c.in-Need.node.0 (length n.facts)
    (step-holds flow roots c.tasks.self c.len-nodes.ensures.graph.flow (roots-hold n c.args.nodes.now c.requires.valid) (visit c.in-Need.node.0) (steps flow c.pop.new.self.items) m)

pub tasks-smaller-in-Continue-branch-2 : goal.tasks-smaller-in-Continue-branch-2
tasks-smaller-in-Continue-branch-2 g c =
    let n = c.args.graph.now in
    let flow = node_flow n in
    let roots = map (λ p. p.0) c.args.nodes.now in
    let top = steps-pop flow c.tasks.tasks.items c.pop.new.self.items c.in-Some.task (Need c.in-Need.node) c.in-Some.ensures.items c.in-Need.is in
    let m = subst (IsMaking flow roots c.tasks.self) top c.tasks.invariant.making in
    subst (λ (st : List (Step ℕ)). weight flow (steps flow c.open.new.tasks.items) < weight flow st) (sym top)
    (opened n c.len-nodes.ensures.graph roots (roots-hold n c.args.nodes.now c.requires.valid) c.tasks.self c.in-Need.node c.pop.new.self.items c.open.new.tasks.items c.in_ok-open-in-Need.ensures m).1

pub tasks-preserved-in-Continue-branch-2 : goal.tasks-preserved-in-Continue-branch-2
tasks-preserved-in-Continue-branch-2 g c =
    let n = c.args.graph.now in
    let flow = node_flow n in
    let roots = map (λ p. p.0) c.args.nodes.now in
    let top = steps-pop flow c.tasks.tasks.items c.pop.new.self.items c.in-Some.task (Need c.in-Need.node) c.in-Some.ensures.items c.in-Need.is in
    let m = subst (IsMaking flow roots c.tasks.self) top c.tasks.invariant.making in
    record {
      making = (opened n c.len-nodes.ensures.graph roots (roots-hold n c.args.nodes.now c.requires.valid) c.tasks.self c.in-Need.node c.pop.new.self.items c.open.new.tasks.items c.in_ok-open-in-Need.ensures m).0;
      still = c.tasks.invariant.still;
      formulas = c.tasks.invariant.formulas;
      gains = c.tasks.invariant.gains;
    }

pub know-requires-clause-valid : goal.know-requires-clause-valid
know-requires-clause-valid g c =
    let n = c.args.graph.now in
    let flow = node_flow n in
    let roots = map (λ p. p.0) c.args.nodes.now in
    let i = c.in-Make.node.0 in
    let top = steps-pop flow c.tasks.tasks.items c.pop.new.self.items c.in-Some.task (Make c.in-Make.node) c.in-Some.ensures.items c.in-Make.is in
    let m = subst (IsMaking flow roots c.tasks.self) top c.tasks.invariant.making in
    ltb-true i (length n.facts)
    (step-holds flow roots c.tasks.self c.len-nodes.ensures.graph.flow (roots-hold n c.args.nodes.now c.requires.valid) (number i (flow.kind i) (flow.parents i)) (steps flow c.pop.new.self.items) m)

pub know-requires-clause-parents : goal.know-requires-clause-parents
know-requires-clause-parents g c =
    let flow = node_flow c.args.graph.now in
    let roots = map (λ p. p.0) c.args.nodes.now in
    let i = c.in-Make.node.0 in
    let top = steps-pop flow c.tasks.tasks.items c.pop.new.self.items c.in-Some.task (Make c.in-Make.node) c.in-Some.ensures.items c.in-Make.is in
    let m = subst (IsMaking flow roots c.tasks.self) top c.tasks.invariant.making in
    all_from (IsKnown c.tasks.self) (flow.parents i) (parents-known flow roots c.tasks.self i (steps flow c.pop.new.self.items) m)

pub tasks-smaller : goal.tasks-smaller
tasks-smaller g c =
    let flow = node_flow c.args.graph.now in
    let i = c.in-Make.node.0 in
    let rest = steps flow c.pop.new.self.items in
    let top = steps-pop flow c.tasks.tasks.items c.pop.new.self.items c.in-Some.task (Make c.in-Make.node) c.in-Some.ensures.items c.in-Make.is in
    subst (λ (st : List (Step ℕ)). weight flow rest < weight flow st) (sym top) (number-lighter flow i (flow.kind i) (flow.parents i) rest)

pub tasks-preserved : goal.tasks-preserved
tasks-preserved g c =
    let flow = node_flow c.args.graph.now in
    let roots = map (λ p. p.0) c.args.nodes.now in
    let i = c.in-Make.node.0 in
    let rest = steps flow c.pop.new.self.items in
    let top = steps-pop flow c.tasks.tasks.items c.pop.new.self.items c.in-Some.task (Make c.in-Make.node) c.in-Some.ensures.items c.in-Make.is in
    let m = subst (IsMaking flow roots c.tasks.self) top c.tasks.invariant.making in
    let within : Within (IsBaseOf flow i) (IsBaseFrom flow roots) = λ b w. (i, m.sound.0, w) in
    record {
      making = makes flow roots c.tasks.self c.know.new.self i rest c.know.ensures.still c.in-Ok.ensures.known m;
      still = λ j r e. c.know.ensures.still j r (c.tasks.invariant.still j r e);
      formulas = c.know.ensures.formulas;
      gains = gains-more (IsBaseFrom flow roots) c.args.store.now c.tasks.store c.know.new.store c.tasks.invariant.gains
          (gains-wider (IsBaseOf flow i) (IsBaseFrom flow roots) c.tasks.store c.know.new.store within c.know.ensures.gains);
    }

pub returns-in-Err-clause-gains : goal.returns-in-Err-clause-gains
returns-in-Err-clause-gains g c =
    let flow = node_flow c.args.graph.now in
    let roots = map (λ p. p.0) c.args.nodes.now in
    let i = c.in-Make.node.0 in
    let top = steps-pop flow c.tasks.tasks.items c.pop.new.self.items c.in-Some.task (Make c.in-Make.node) c.in-Some.ensures.items c.in-Make.is in
    let m = subst (IsMaking flow roots c.tasks.self) top c.tasks.invariant.making in
    let within : Within (IsBaseOf flow i) (IsBaseFrom flow roots) = λ b w. (i, m.sound.0, w) in
    gains-more (IsBaseFrom flow roots) c.args.store.now c.tasks.store c.know.new.store c.tasks.invariant.gains
    (gains-wider (IsBaseOf flow i) (IsBaseFrom flow roots) c.tasks.store c.know.new.store within c.know.ensures.gains)

pub returns-in-Err-clause-full : goal.returns-in-Err-clause-full
returns-in-Err-clause-full g c = λ full.
    let flow = node_flow c.args.graph.now in
    let roots = map (λ p. p.0) c.args.nodes.now in
    let i = c.in-Make.node.0 in
    let top = steps-pop flow c.tasks.tasks.items c.pop.new.self.items c.in-Some.task (Make c.in-Make.node) c.in-Some.ensures.items c.in-Make.is in
    let m = subst (IsMaking flow roots c.tasks.self) top c.tasks.invariant.making in
    let within : Within (IsBaseOf flow i) (IsBaseFrom flow roots) = λ b w. (i, m.sound.0, w) in
    let is : c.in-Err.fault ≡ Full = cc in
    crowded-before (IsBaseFrom flow roots) c.args.store.now c.tasks.store c.tasks.invariant.gains
    (crowded-wider (IsBaseOf flow i) (IsBaseFrom flow roots) c.tasks.store within (c.in-Err.ensures.full (ap Err is)))

pub returns-clause-known : goal.returns-clause-known
returns-clause-known g c =
    let flow = node_flow c.args.graph.now in
    let ids = c.args.nodes.now in
    let roots = map (λ p. p.0) ids in
    let none : length c.tasks.tasks.items ≡ 0 = grind (arith, common_steps) in
    let m = subst (λ (ts : List Task). IsMaking flow roots c.tasks.self (steps flow ts)) (nil_from_length c.tasks.tasks.items none) c.tasks.invariant.making in
    all_from (λ p. IsKnown c.tasks.self p.0) ids (λ p within. ends flow roots c.tasks.self m p.0 (in-map ids p within))

pub returns-in_err-need_all-clause-gains : goal.returns-in_err-need_all-clause-gains
returns-in_err-need_all-clause-gains g c =
    gains-none (IsBaseFrom (node_flow c.args.graph.now) (map (λ p. p.0) c.args.nodes.now)) c.args.store.now

pub returns-in_err-open-in-Need-clause-still : goal.returns-in_err-open-in-Need-clause-still
returns-in_err-open-in-Need-clause-still g c =
    c.tasks.invariant.still

pub returns-in_err-open-in-Need-clause-formulas : goal.returns-in_err-open-in-Need-clause-formulas
returns-in_err-open-in-Need-clause-formulas g c =
    c.tasks.invariant.formulas

pub returns-in_err-open-in-Need-clause-gains : goal.returns-in_err-open-in-Need-clause-gains
returns-in_err-open-in-Need-clause-gains g c =
    c.tasks.invariant.gains

pub returns-in-Err-clause-still : goal.returns-in-Err-clause-still
returns-in-Err-clause-still g c =
    λ j r e. c.know.ensures.still j r (c.tasks.invariant.still j r e)

pub returns-in-Err-clause-formulas : goal.returns-in-Err-clause-formulas
returns-in-Err-clause-formulas g c =
    c.know.ensures.formulas

pub know-requires-clause-formulas : goal.know-requires-clause-formulas
know-requires-clause-formulas g c =
    c.tasks.invariant.formulas

pub returns-clause-still : goal.returns-clause-still
returns-clause-still g c =
    c.tasks.invariant.still

pub returns-clause-formulas : goal.returns-clause-formulas
returns-clause-formulas g c =
    c.tasks.invariant.formulas

pub returns-clause-gains : goal.returns-clause-gains
returns-clause-gains g c =
    c.tasks.invariant.gains
