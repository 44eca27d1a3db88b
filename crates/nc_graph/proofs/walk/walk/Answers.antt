use Rattle.std.proofs.Common.{ℕ, ◌≡◌, ◌+◌, ◌<◌, ◌≤◌, ◌∷◌, [], List, reverse, sym, ap, ◌∙◌, subst, refl, arith}
use Rattle.nc_graph.specs.declared.node.NodeId.{NodeId}
use Rattle.nc_graph.specs.Flow.{raised}
use Rattle.nc_graph.specs.Nodes.{AreNodesOf}
use Rattle.nc_graph.specs.Tasks.{find, close, job_of, opened}
use Rattle.nc_graph.specs.Walk.{Step, visit, number, expanded}
use Rattle.nc_graph.proofs.StackLemmas.{steps, steps-opened, steps-found, AreCounted, counted-opened, counted-found}
use Rattle.nc_graph.proofs.WalkCounts.{count-least, count-most, more-least, more-most, count-full}
use Rattle.nc_graph.proofs.WalkLemmas.{absent-in, roots-hold}
use Rattle.nc_graph.proofs.WalkSteps.{Walk, step-holds, skip, infers, placeable, numbers, begins, exceeds, ends, counts, answers}
use Rattle.nc_graph.proofs.Weights.{weight, skip-lighter, number-lighter, infer-lighter}
use Rattle.nc_graph.proofs.walk.walk.Goals as goal

pub walking-init : goal.walking-init
walking-init g c =
    let rules = c.args.rules.now in
    let flow = g.I.Inference.flow rules in
    let law = g.met.I.Inference.lawful rules in
    let old = c.args.graph.now in
    let roots = c.args.facts.now in
    let hold = roots-hold flow old roots c.requires.holds c.requires.mirrors in
    let before = g.I.Inference.asked rules in
    let st = steps flow c.in_ok-tasks.tasks in
    let top = ap (steps flow) c.in_ok-tasks.ensures ∙ steps-found flow (reverse roots) in
    let w = begins flow law old roots before hold g.F.PartialEq.eq g.met.F.Eq.laws.refl _ top c.len-found.ensures.graph c.len-found.ensures.distinct c.requires.mirrors (g.met.I.Inference.counted rules) in
    record {
      same = refl;
      basis = refl;
      counts = subst (AreCounted flow) (sym c.in_ok-tasks.ensures) (counted-found flow (reverse roots));
      walk = subst (λ (ids : List NodeId). Walk flow old roots before old ids st c.len-found.result before) (sym c.in_ok-nodes.ensures.items)
          (subst (λ (m : ℕ). Walk flow old roots before old [] st m before) (sym c.len-found.ensures.len) w);
    }

pub walking-smaller-in-Some-find : goal.walking-smaller-in-Some-find
walking-smaller-in-Some-find g c =
    let rules = c.args.rules.now in
    let flow = g.I.Inference.flow rules in
    let law = g.met.I.Inference.lawful rules in
    let old = c.args.graph.now in
    let roots = c.args.facts.now in
    let hold = roots-hold flow old roots c.requires.holds c.requires.mirrors in
    let before = g.I.Inference.asked rules in
    let count = g.I.Inference.asked c.walking.rules in
    let n = c.walking.graph in
    let ids = c.walking.nodes.items in
    let found = c.walking.found in
    let f = c.in-Visit.fact in
    let js = c.pop.new.self in
    let rest = steps flow js in
    let next : c.walking.tasks ≡ find f ∷ js = c.in-Some.ensures ∙ ap (λ t. job_of t ∷ js) c.in-Visit.is in
    let counts = subst (AreCounted flow) next c.walking.invariant.counts in
    let top : steps flow c.walking.tasks ≡ visit f ∷ rest = ap (steps flow) next in
    let w = subst (λ (st : List (Step g.row.F.Denot)). Walk flow old roots before n ids st found count) top c.walking.invariant.walk in
    subst (λ (st : List (Step g.row.F.Denot)). weight flow rest < weight flow st) (sym top) (skip-lighter flow f rest)

pub walking-preserved-in-Some-find : goal.walking-preserved-in-Some-find
walking-preserved-in-Some-find g c =
    let rules = c.args.rules.now in
    let flow = g.I.Inference.flow rules in
    let law = g.met.I.Inference.lawful rules in
    let old = c.args.graph.now in
    let roots = c.args.facts.now in
    let hold = roots-hold flow old roots c.requires.holds c.requires.mirrors in
    let before = g.I.Inference.asked rules in
    let count = g.I.Inference.asked c.walking.rules in
    let n = c.walking.graph in
    let ids = c.walking.nodes.items in
    let found = c.walking.found in
    let f = c.in-Visit.fact in
    let js = c.pop.new.self in
    let rest = steps flow js in
    let next : c.walking.tasks ≡ find f ∷ js = c.in-Some.ensures ∙ ap (λ t. job_of t ∷ js) c.in-Visit.is in
    let counts = subst (AreCounted flow) next c.walking.invariant.counts in
    let top : steps flow c.walking.tasks ≡ visit f ∷ rest = ap (steps flow) next in
    let w = subst (λ (st : List (Step g.row.F.Denot)). Walk flow old roots before n ids st found count) top c.walking.invariant.walk in
    record {
      same = c.walking.invariant.same;
      basis = c.walking.invariant.basis;
      counts = counts;
      walk = subst (λ (ps : List NodeId). Walk flow old roots before n ps rest found count) (sym c.in_ok-push-in-Visit.ensures.items)
          (skip flow law old roots before hold f rest n ids found count w c.in-Some-find.node c.in-Some-find.ensures);
    }

pub returns-then-found-limit-clause-full : goal.returns-then-found-limit-clause-full
returns-then-found-limit-clause-full g c = λ _.
    let rules = c.args.rules.now in
    let flow = g.I.Inference.flow rules in
    let law = g.met.I.Inference.lawful rules in
    let old = c.args.graph.now in
    let roots = c.args.facts.now in
    let hold = roots-hold flow old roots c.requires.holds c.requires.mirrors in
    let before = g.I.Inference.asked rules in
    let count = g.I.Inference.asked c.walking.rules in
    let n = c.walking.graph in
    let ids = c.walking.nodes.items in
    let found = c.walking.found in
    let f = c.in-Visit.fact in
    let js = c.pop.new.self in
    let rest = steps flow js in
    let next : c.walking.tasks ≡ find f ∷ js = c.in-Some.ensures ∙ ap (λ t. job_of t ∷ js) c.in-Visit.is in
    let counts = subst (AreCounted flow) next c.walking.invariant.counts in
    let top : steps flow c.walking.tasks ≡ visit f ∷ rest = ap (steps flow) next in
    let w = subst (λ (st : List (Step g.row.F.Denot)). Walk flow old roots before n ids st found count) top c.walking.invariant.walk in
    let full : n.limit ≤ found = omega (arith, c.if-found-limit.true, c.limit.ensures) in
    exceeds flow law old roots before hold f rest n ids found count w
    (absent-in g.F.PartialEq.eq g.met.F.Eq.laws.refl n.facts f c.in_default-find.ensures) full

pub infer-requires : goal.infer-requires
infer-requires g c =
    let rules = c.args.rules.now in
    let flow = g.I.Inference.flow rules in
    let law = g.met.I.Inference.lawful rules in
    let old = c.args.graph.now in
    let roots = c.args.facts.now in
    let hold = roots-hold flow old roots c.requires.holds c.requires.mirrors in
    let before = g.I.Inference.asked rules in
    let count = g.I.Inference.asked c.walking.rules in
    let n = c.walking.graph in
    let ids = c.walking.nodes.items in
    let found = c.walking.found in
    let f = c.in-Visit.fact in
    let js = c.pop.new.self in
    let rest = steps flow js in
    let next : c.walking.tasks ≡ find f ∷ js = c.in-Some.ensures ∙ ap (λ t. job_of t ∷ js) c.in-Visit.is in
    let counts = subst (AreCounted flow) next c.walking.invariant.counts in
    let top : steps flow c.walking.tasks ≡ visit f ∷ rest = ap (steps flow) next in
    let w = subst (λ (st : List (Step g.row.F.Denot)). Walk flow old roots before n ids st found count) top c.walking.invariant.walk in
    ap (λ v. v.holds f) c.walking.invariant.same ∙ step-holds flow law old roots before hold (visit f) rest w.sound

pub walking-smaller-in-Visit : goal.walking-smaller-in-Visit
walking-smaller-in-Visit g c =
    let rules = c.args.rules.now in
    let flow = g.I.Inference.flow rules in
    let law = g.met.I.Inference.lawful rules in
    let old = c.args.graph.now in
    let roots = c.args.facts.now in
    let hold = roots-hold flow old roots c.requires.holds c.requires.mirrors in
    let before = g.I.Inference.asked rules in
    let count = g.I.Inference.asked c.walking.rules in
    let n = c.walking.graph in
    let ids = c.walking.nodes.items in
    let found = c.walking.found in
    let f = c.in-Visit.fact in
    let js = c.pop.new.self in
    let rest = steps flow js in
    let next : c.walking.tasks ≡ find f ∷ js = c.in-Some.ensures ∙ ap (λ t. job_of t ∷ js) c.in-Visit.is in
    let counts = subst (AreCounted flow) next c.walking.invariant.counts in
    let top : steps flow c.walking.tasks ≡ visit f ∷ rest = ap (steps flow) next in
    let w = subst (λ (st : List (Step g.row.F.Denot)). Walk flow old roots before n ids st found count) top c.walking.invariant.walk in
    let added : c.infer.new.self ≡ opened flow f js = c.in_ok-infer-in-Visit.ensures.ok ∙ ap (λ v. opened v f js) c.walking.invariant.same in
    let made : steps flow c.infer.new.self ≡ expanded flow f rest = ap (steps flow) added ∙ steps-opened flow f js in
    let lighter = infer-lighter flow law f rest (step-holds flow law old roots before hold (visit f) rest w.sound) in
    subst (λ (st : List (Step g.row.F.Denot)). weight flow (steps flow c.infer.new.self) < weight flow st) (sym top)
    (subst (λ (st : List (Step g.row.F.Denot)). weight flow st < weight flow (visit f ∷ rest)) (sym made) lighter)

pub walking-preserved-in-Visit : goal.walking-preserved-in-Visit
walking-preserved-in-Visit g c =
    let rules = c.args.rules.now in
    let flow = g.I.Inference.flow rules in
    let law = g.met.I.Inference.lawful rules in
    let old = c.args.graph.now in
    let roots = c.args.facts.now in
    let hold = roots-hold flow old roots c.requires.holds c.requires.mirrors in
    let before = g.I.Inference.asked rules in
    let count = g.I.Inference.asked c.walking.rules in
    let n = c.walking.graph in
    let ids = c.walking.nodes.items in
    let found = c.walking.found in
    let f = c.in-Visit.fact in
    let js = c.pop.new.self in
    let rest = steps flow js in
    let next : c.walking.tasks ≡ find f ∷ js = c.in-Some.ensures ∙ ap (λ t. job_of t ∷ js) c.in-Visit.is in
    let counts = subst (AreCounted flow) next c.walking.invariant.counts in
    let top : steps flow c.walking.tasks ≡ visit f ∷ rest = ap (steps flow) next in
    let w = subst (λ (st : List (Step g.row.F.Denot)). Walk flow old roots before n ids st found count) top c.walking.invariant.walk in
    let added : c.infer.new.self ≡ opened flow f js = c.in_ok-infer-in-Visit.ensures.ok ∙ ap (λ v. opened v f js) c.walking.invariant.same in
    let made : steps flow c.infer.new.self ≡ expanded flow f rest = ap (steps flow) added ∙ steps-opened flow f js in
    let is_room = w.room in
    let room : found < n.limit = omega (arith, is_room, c.if-found-limit.false, c.limit.ensures) in
    let next = infers flow law old roots before hold f rest n ids found count w
    (absent-in g.F.PartialEq.eq g.met.F.Eq.laws.refl n.facts f c.in_default-find.ensures) room in
    record {
      same = c.infer.ensures.flow ∙ c.walking.invariant.same;
      basis = c.infer.ensures.basis ∙ c.walking.invariant.basis;
      counts = subst (AreCounted flow) (sym added) (counted-opened flow f js counts);
      walk = subst (λ (st : List (Step g.row.F.Denot)). Walk flow old roots before n ids st (found + 1) (g.I.Inference.asked c.infer.new.rules)) (sym made)
          (subst (λ (m : ℕ). Walk flow old roots before n ids (expanded flow f rest) (found + 1) m) (sym c.infer.ensures.asked) next);
    }

pub number-requires-clause-enough : goal.number-requires-clause-enough
number-requires-clause-enough g c =
    let rules = c.args.rules.now in
    let flow = g.I.Inference.flow rules in
    let law = g.met.I.Inference.lawful rules in
    let old = c.args.graph.now in
    let roots = c.args.facts.now in
    let hold = roots-hold flow old roots c.requires.holds c.requires.mirrors in
    let before = g.I.Inference.asked rules in
    let count = g.I.Inference.asked c.walking.rules in
    let n = c.walking.graph in
    let ids = c.walking.nodes.items in
    let found = c.walking.found in
    let t = c.in-Number.inferred in
    let js = c.pop.new.self in
    let rest = steps flow js in
    let next : c.walking.tasks ≡ close t.fact t.kind t.parents ∷ js = c.in-Some.ensures ∙ ap (λ t. job_of t ∷ js) c.in-Number.is in
    let counts = subst (AreCounted flow) next c.walking.invariant.counts in
    let top : steps flow c.walking.tasks ≡ number t.fact t.kind (flow.parents t.fact) ∷ rest = ap (steps flow) next in
    let w = subst (λ (st : List (Step g.row.F.Denot)). Walk flow old roots before n ids st found count) top c.walking.invariant.walk in
    (placeable flow law old roots before hold g.F.PartialEq.eq g.met.I.Inference.exact t.fact t.kind (flow.parents t.fact) t.parents counts.0 rest n ids found count w).enough

pub number-requires-clause-shape : goal.number-requires-clause-shape
number-requires-clause-shape g c =
    let rules = c.args.rules.now in
    let flow = g.I.Inference.flow rules in
    let law = g.met.I.Inference.lawful rules in
    let old = c.args.graph.now in
    let roots = c.args.facts.now in
    let hold = roots-hold flow old roots c.requires.holds c.requires.mirrors in
    let before = g.I.Inference.asked rules in
    let count = g.I.Inference.asked c.walking.rules in
    let n = c.walking.graph in
    let ids = c.walking.nodes.items in
    let found = c.walking.found in
    let t = c.in-Number.inferred in
    let js = c.pop.new.self in
    let rest = steps flow js in
    let next : c.walking.tasks ≡ close t.fact t.kind t.parents ∷ js = c.in-Some.ensures ∙ ap (λ t. job_of t ∷ js) c.in-Number.is in
    let counts = subst (AreCounted flow) next c.walking.invariant.counts in
    let top : steps flow c.walking.tasks ≡ number t.fact t.kind (flow.parents t.fact) ∷ rest = ap (steps flow) next in
    let w = subst (λ (st : List (Step g.row.F.Denot)). Walk flow old roots before n ids st found count) top c.walking.invariant.walk in
    (placeable flow law old roots before hold g.F.PartialEq.eq g.met.I.Inference.exact t.fact t.kind (flow.parents t.fact) t.parents counts.0 rest n ids found count w).shape

pub number-requires-clause-within : goal.number-requires-clause-within
number-requires-clause-within g c =
    let rules = c.args.rules.now in
    let flow = g.I.Inference.flow rules in
    let law = g.met.I.Inference.lawful rules in
    let old = c.args.graph.now in
    let roots = c.args.facts.now in
    let hold = roots-hold flow old roots c.requires.holds c.requires.mirrors in
    let before = g.I.Inference.asked rules in
    let count = g.I.Inference.asked c.walking.rules in
    let n = c.walking.graph in
    let ids = c.walking.nodes.items in
    let found = c.walking.found in
    let t = c.in-Number.inferred in
    let js = c.pop.new.self in
    let rest = steps flow js in
    let next : c.walking.tasks ≡ close t.fact t.kind t.parents ∷ js = c.in-Some.ensures ∙ ap (λ t. job_of t ∷ js) c.in-Number.is in
    let counts = subst (AreCounted flow) next c.walking.invariant.counts in
    let top : steps flow c.walking.tasks ≡ number t.fact t.kind (flow.parents t.fact) ∷ rest = ap (steps flow) next in
    let w = subst (λ (st : List (Step g.row.F.Denot)). Walk flow old roots before n ids st found count) top c.walking.invariant.walk in
    (placeable flow law old roots before hold g.F.PartialEq.eq g.met.I.Inference.exact t.fact t.kind (flow.parents t.fact) t.parents counts.0 rest n ids found count w).within

pub number-requires-clause-new : goal.number-requires-clause-new
number-requires-clause-new g c =
    let rules = c.args.rules.now in
    let flow = g.I.Inference.flow rules in
    let law = g.met.I.Inference.lawful rules in
    let old = c.args.graph.now in
    let roots = c.args.facts.now in
    let hold = roots-hold flow old roots c.requires.holds c.requires.mirrors in
    let before = g.I.Inference.asked rules in
    let count = g.I.Inference.asked c.walking.rules in
    let n = c.walking.graph in
    let ids = c.walking.nodes.items in
    let found = c.walking.found in
    let t = c.in-Number.inferred in
    let js = c.pop.new.self in
    let rest = steps flow js in
    let next : c.walking.tasks ≡ close t.fact t.kind t.parents ∷ js = c.in-Some.ensures ∙ ap (λ t. job_of t ∷ js) c.in-Number.is in
    let counts = subst (AreCounted flow) next c.walking.invariant.counts in
    let top : steps flow c.walking.tasks ≡ number t.fact t.kind (flow.parents t.fact) ∷ rest = ap (steps flow) next in
    let w = subst (λ (st : List (Step g.row.F.Denot)). Walk flow old roots before n ids st found count) top c.walking.invariant.walk in
    (placeable flow law old roots before hold g.F.PartialEq.eq g.met.I.Inference.exact t.fact t.kind (flow.parents t.fact) t.parents counts.0 rest n ids found count w).new

pub walking-smaller : goal.walking-smaller
walking-smaller g c =
    let rules = c.args.rules.now in
    let flow = g.I.Inference.flow rules in
    let law = g.met.I.Inference.lawful rules in
    let old = c.args.graph.now in
    let roots = c.args.facts.now in
    let hold = roots-hold flow old roots c.requires.holds c.requires.mirrors in
    let before = g.I.Inference.asked rules in
    let count = g.I.Inference.asked c.walking.rules in
    let n = c.walking.graph in
    let ids = c.walking.nodes.items in
    let found = c.walking.found in
    let t = c.in-Number.inferred in
    let js = c.pop.new.self in
    let rest = steps flow js in
    let next : c.walking.tasks ≡ close t.fact t.kind t.parents ∷ js = c.in-Some.ensures ∙ ap (λ t. job_of t ∷ js) c.in-Number.is in
    let counts = subst (AreCounted flow) next c.walking.invariant.counts in
    let top : steps flow c.walking.tasks ≡ number t.fact t.kind (flow.parents t.fact) ∷ rest = ap (steps flow) next in
    let w = subst (λ (st : List (Step g.row.F.Denot)). Walk flow old roots before n ids st found count) top c.walking.invariant.walk in
    subst (λ (st : List (Step g.row.F.Denot)). weight flow rest < weight flow st) (sym top) (number-lighter flow t.fact t.kind (flow.parents t.fact) rest)

pub walking-preserved : goal.walking-preserved
walking-preserved g c =
    let rules = c.args.rules.now in
    let flow = g.I.Inference.flow rules in
    let law = g.met.I.Inference.lawful rules in
    let old = c.args.graph.now in
    let roots = c.args.facts.now in
    let hold = roots-hold flow old roots c.requires.holds c.requires.mirrors in
    let before = g.I.Inference.asked rules in
    let count = g.I.Inference.asked c.walking.rules in
    let n = c.walking.graph in
    let ids = c.walking.nodes.items in
    let found = c.walking.found in
    let t = c.in-Number.inferred in
    let js = c.pop.new.self in
    let rest = steps flow js in
    let next : c.walking.tasks ≡ close t.fact t.kind t.parents ∷ js = c.in-Some.ensures ∙ ap (λ t. job_of t ∷ js) c.in-Number.is in
    let counts = subst (AreCounted flow) next c.walking.invariant.counts in
    let top : steps flow c.walking.tasks ≡ number t.fact t.kind (flow.parents t.fact) ∷ rest = ap (steps flow) next in
    let w = subst (λ (st : List (Step g.row.F.Denot)). Walk flow old roots before n ids st found count) top c.walking.invariant.walk in
    record {
      same = c.walking.invariant.same;
      basis = c.walking.invariant.basis;
      counts = counts.1;
      walk = numbers flow law old roots before hold t.fact t.kind (flow.parents t.fact) t.parents counts.0 rest n c.number.new.graph ids c.number.new.nodes.items found count w c.in_ok-number-in-Number.ensures.graph c.in_ok-number-in-Number.ensures.nodes;
    }

pub returns-clause-closure : goal.returns-clause-closure
returns-clause-closure g c =
    let rules = c.args.rules.now in
    let flow = g.I.Inference.flow rules in
    let law = g.met.I.Inference.lawful rules in
    let old = c.args.graph.now in
    let roots = c.args.facts.now in
    let hold = roots-hold flow old roots c.requires.holds c.requires.mirrors in
    let before = g.I.Inference.asked rules in
    let count = g.I.Inference.asked c.walking.rules in
    let n = c.walking.graph in
    let ids = c.walking.nodes.items in
    let found = c.walking.found in
    let none : steps flow c.walking.tasks ≡ [] = ap (steps flow) c.in_default.ensures in
    let w = subst (λ (st : List (Step g.row.F.Denot)). Walk flow old roots before n ids st found count) none c.walking.invariant.walk in
    ends flow law old roots before hold n ids found count w

pub returns-clause-nodes : goal.returns-clause-nodes
returns-clause-nodes g c =
    let rules = c.args.rules.now in
    let flow = g.I.Inference.flow rules in
    let law = g.met.I.Inference.lawful rules in
    let old = c.args.graph.now in
    let roots = c.args.facts.now in
    let hold = roots-hold flow old roots c.requires.holds c.requires.mirrors in
    let before = g.I.Inference.asked rules in
    let count = g.I.Inference.asked c.walking.rules in
    let n = c.walking.graph in
    let ids = c.walking.nodes.items in
    let found = c.walking.found in
    let none : steps flow c.walking.tasks ≡ [] = ap (steps flow) c.in_default.ensures in
    let w = subst (λ (st : List (Step g.row.F.Denot)). Walk flow old roots before n ids st found count) none c.walking.invariant.walk in
    subst (λ (ps : List NodeId). AreNodesOf n ps roots) (sym (c.shrink_to_fit.ensures.items ∙ c.reverse.ensures.items)) (answers flow law old roots before hold n ids found count w)

pub returns-clause-asked_least : goal.returns-clause-asked_least
returns-clause-asked_least g c =
    count-least (g.I.Inference.flow c.args.rules.now) c.args.graph.now c.args.facts.now (g.I.Inference.asked c.args.rules.now) c.walking.graph c.walking.nodes.items (steps (g.I.Inference.flow c.args.rules.now) c.walking.tasks) c.walking.found (g.I.Inference.asked c.walking.rules) c.walking.invariant.walk (g.met.I.Inference.counted c.args.rules.now)

pub returns-clause-asked_most : goal.returns-clause-asked_most
returns-clause-asked_most g c =
    count-most (g.I.Inference.flow c.args.rules.now) c.args.graph.now c.args.facts.now (g.I.Inference.asked c.args.rules.now) c.walking.graph c.walking.nodes.items (steps (g.I.Inference.flow c.args.rules.now) c.walking.tasks) c.walking.found (g.I.Inference.asked c.walking.rules) c.walking.invariant.walk

pub returns-then-found-limit-clause-asked_least : goal.returns-then-found-limit-clause-asked_least
returns-then-found-limit-clause-asked_least g c =
    count-least (g.I.Inference.flow c.args.rules.now) c.args.graph.now c.args.facts.now (g.I.Inference.asked c.args.rules.now) c.walking.graph c.walking.nodes.items (steps (g.I.Inference.flow c.args.rules.now) c.walking.tasks) c.walking.found (g.I.Inference.asked c.walking.rules) c.walking.invariant.walk (g.met.I.Inference.counted c.args.rules.now)

pub returns-then-found-limit-clause-asked_most : goal.returns-then-found-limit-clause-asked_most
returns-then-found-limit-clause-asked_most g c =
    count-most (g.I.Inference.flow c.args.rules.now) c.args.graph.now c.args.facts.now (g.I.Inference.asked c.args.rules.now) c.walking.graph c.walking.nodes.items (steps (g.I.Inference.flow c.args.rules.now) c.walking.tasks) c.walking.found (g.I.Inference.asked c.walking.rules) c.walking.invariant.walk

pub returns-in_err-push-in-Visit-clause-asked_least : goal.returns-in_err-push-in-Visit-clause-asked_least
returns-in_err-push-in-Visit-clause-asked_least g c =
    count-least (g.I.Inference.flow c.args.rules.now) c.args.graph.now c.args.facts.now (g.I.Inference.asked c.args.rules.now) c.walking.graph c.walking.nodes.items (steps (g.I.Inference.flow c.args.rules.now) c.walking.tasks) c.walking.found (g.I.Inference.asked c.walking.rules) c.walking.invariant.walk (g.met.I.Inference.counted c.args.rules.now)

pub returns-in_err-push-in-Visit-clause-asked_most : goal.returns-in_err-push-in-Visit-clause-asked_most
returns-in_err-push-in-Visit-clause-asked_most g c =
    count-most (g.I.Inference.flow c.args.rules.now) c.args.graph.now c.args.facts.now (g.I.Inference.asked c.args.rules.now) c.walking.graph c.walking.nodes.items (steps (g.I.Inference.flow c.args.rules.now) c.walking.tasks) c.walking.found (g.I.Inference.asked c.walking.rules) c.walking.invariant.walk

pub returns-in_err-number-in-Number-clause-asked_least : goal.returns-in_err-number-in-Number-clause-asked_least
returns-in_err-number-in-Number-clause-asked_least g c =
    count-least (g.I.Inference.flow c.args.rules.now) c.args.graph.now c.args.facts.now (g.I.Inference.asked c.args.rules.now) c.walking.graph c.walking.nodes.items (steps (g.I.Inference.flow c.args.rules.now) c.walking.tasks) c.walking.found (g.I.Inference.asked c.walking.rules) c.walking.invariant.walk (g.met.I.Inference.counted c.args.rules.now)

pub returns-in_err-number-in-Number-clause-asked_most : goal.returns-in_err-number-in-Number-clause-asked_most
returns-in_err-number-in-Number-clause-asked_most g c =
    count-most (g.I.Inference.flow c.args.rules.now) c.args.graph.now c.args.facts.now (g.I.Inference.asked c.args.rules.now) c.walking.graph c.walking.nodes.items (steps (g.I.Inference.flow c.args.rules.now) c.walking.tasks) c.walking.found (g.I.Inference.asked c.walking.rules) c.walking.invariant.walk

pub returns-in_err-infer-in-Visit-clause-asked_least : goal.returns-in_err-infer-in-Visit-clause-asked_least
returns-in_err-infer-in-Visit-clause-asked_least g c =
    subst (λ (m : ℕ). g.I.Inference.asked c.args.rules.now ≤ m) (sym c.infer.ensures.asked) (more-least (g.I.Inference.flow c.args.rules.now) c.args.graph.now c.args.facts.now (g.I.Inference.asked c.args.rules.now) c.walking.graph c.walking.nodes.items (steps (g.I.Inference.flow c.args.rules.now) c.walking.tasks) c.walking.found (g.I.Inference.asked c.walking.rules) c.walking.invariant.walk (g.met.I.Inference.counted c.args.rules.now))

pub returns-in_err-infer-in-Visit-clause-asked_most : goal.returns-in_err-infer-in-Visit-clause-asked_most
returns-in_err-infer-in-Visit-clause-asked_most g c =
    subst (λ (m : ℕ). m ≤ raised (g.I.Inference.asked c.args.rules.now) (c.args.graph.now.limit + 1)) (sym c.infer.ensures.asked) (more-most (g.I.Inference.flow c.args.rules.now) c.args.graph.now c.args.facts.now (g.I.Inference.asked c.args.rules.now) c.walking.graph c.walking.nodes.items (steps (g.I.Inference.flow c.args.rules.now) c.walking.tasks) c.walking.found (g.I.Inference.asked c.walking.rules) c.walking.invariant.walk)

pub returns-then-found-limit-clause-asked_full : goal.returns-then-found-limit-clause-asked_full
returns-then-found-limit-clause-asked_full g c = λ _. count-full (g.I.Inference.flow c.args.rules.now) c.args.graph.now c.args.facts.now (g.I.Inference.asked c.args.rules.now) c.walking.graph c.walking.nodes.items (steps (g.I.Inference.flow c.args.rules.now) c.walking.tasks) c.walking.found (g.I.Inference.asked c.walking.rules) c.walking.invariant.walk (c.if-found-limit.true ∙ c.limit.ensures)

pub returns-clause-asked : goal.returns-clause-asked
returns-clause-asked g c =
    let rules = c.args.rules.now in
    let flow = g.I.Inference.flow rules in
    let law = g.met.I.Inference.lawful rules in
    let old = c.args.graph.now in
    let roots = c.args.facts.now in
    let hold = roots-hold flow old roots c.requires.holds c.requires.mirrors in
    let before = g.I.Inference.asked rules in
    let count = g.I.Inference.asked c.walking.rules in
    let n = c.walking.graph in
    let ids = c.walking.nodes.items in
    let found = c.walking.found in
    let none : steps flow c.walking.tasks ≡ [] = ap (steps flow) c.in_default.ensures in
    let w = subst (λ (st : List (Step g.row.F.Denot)). Walk flow old roots before n ids st found count) none c.walking.invariant.walk in
    counts flow law old roots before hold n ids found count w

pub number-requires-clause-room : goal.number-requires-clause-room
number-requires-clause-room g c =
    let rules = c.args.rules.now in
    let flow = g.I.Inference.flow rules in
    let law = g.met.I.Inference.lawful rules in
    let old = c.args.graph.now in
    let roots = c.args.facts.now in
    let hold = roots-hold flow old roots c.requires.holds c.requires.mirrors in
    let before = g.I.Inference.asked rules in
    let count = g.I.Inference.asked c.walking.rules in
    let n = c.walking.graph in
    let ids = c.walking.nodes.items in
    let found = c.walking.found in
    let t = c.in-Number.inferred in
    let js = c.pop.new.self in
    let rest = steps flow js in
    let next : c.walking.tasks ≡ close t.fact t.kind t.parents ∷ js = c.in-Some.ensures ∙ ap (λ t. job_of t ∷ js) c.in-Number.is in
    let counts = subst (AreCounted flow) next c.walking.invariant.counts in
    let top : steps flow c.walking.tasks ≡ number t.fact t.kind (flow.parents t.fact) ∷ rest = ap (steps flow) next in
    let w = subst (λ (st : List (Step g.row.F.Denot)). Walk flow old roots before n ids st found count) top c.walking.invariant.walk in
    (placeable flow law old roots before hold g.F.PartialEq.eq g.met.I.Inference.exact t.fact t.kind (flow.parents t.fact) t.parents counts.0 rest n ids found count w).room
