use Rattle.std.proofs.Common.{◌≡◌, ◌-◌, length, reverse, sym, ap, ◌∙◌, subst, refl, arith, length-append}
use Rattle.std.proofs.lemmas.Grind.{common_steps}
use Rattle.nc_graph.specs.declared.tasks.Inferred.{Inferred}
use Rattle.nc_graph.specs.Tasks.{AreBegins, jobs, opened}
use Rattle.nc_graph.proofs.StackLemmas.{newest, AreBegins-more, AreBegins-push, jobs-push}
use Rattle.nc_graph.proofs.tasks.Tasks.infer.Goals as goal

pub invariant_of-self : goal.invariant_of-self
invariant_of-self g c =
    subst (λ fs. AreBegins (length fs) c.self.inside.from (reverse c.self.inside.waiting.items)) (sym c.in_err-kind.ensures.parents) c.self.invariant

pub invariant_of-self-in_err-push : goal.invariant_of-self-in_err-push
invariant_of-self-in_err-push g c =
    let flow = g.I.Inference.flow c.args.rules.now in
    let same : c.push.new.self.items ≡ c.self.inside.waiting.items = grind (arith, common_steps) in
    subst (λ ts. AreBegins (length c.infer.new.into.items) c.self.inside.from (reverse ts)) (sym same)
    (AreBegins-more c.self.inside.facts.items (flow.parents c.args.fact) c.infer.new.into.items c.self.inside.from (reverse c.self.inside.waiting.items) c.in_ok-kind.ensures.parents c.self.invariant)

pub invariant_of-self-2 : goal.invariant_of-self-2
invariant_of-self-2 g c =
    let flow = g.I.Inference.flow c.args.rules.now in
    let fs = c.self.inside.facts.items in
    let ts = c.self.inside.waiting.items in
    let all = c.infer.new.into.items in
    let t : Inferred g.row.F.Denot = record { fact = c.args.fact; kind = c.in_ok-kind.kind; parents = c.len.result - c.len-from.result; before = c.self.inside.from } in
    let from : c.len-from.result ≡ length fs = omega (arith, c.len-from.ensures, c.self.inside.facts.ok.0) in
    let first = newest c.push.new.self.items ts t c.in_ok-push.ensures.items in
    subst (λ n. AreBegins (length all) n (reverse c.push.new.self.items)) (sym from)
    (subst (AreBegins (length all) (length fs)) (sym first) (AreBegins-push fs (flow.parents c.args.fact) all t (reverse ts) c.in_ok-kind.ensures.parents c.self.invariant))

pub returns-clause-ok : goal.returns-clause-ok
returns-clause-ok g c =
    let flow = g.I.Inference.flow c.args.rules.now in
    let fs = c.self.inside.facts.items in
    let ts = c.self.inside.waiting.items in
    let all = c.infer.new.into.items in
    let ps = flow.parents c.args.fact in
    let t : Inferred g.row.F.Denot = record { fact = c.args.fact; kind = c.in_ok-kind.kind; parents = c.len.result - c.len-from.result; before = c.self.inside.from } in
    let from : c.len-from.result ≡ length fs = omega (arith, c.len-from.ensures, c.self.inside.facts.ok.0) in
    let longer = ap length c.in_ok-kind.ensures.parents ∙ length-append fs ps in
    let count : c.len.result - c.len-from.result ≡ length ps = omega (arith, c.len.ensures, c.infer.new.into.ok.0, from, longer) in
    let first = newest c.push.new.self.items ts t c.in_ok-push.ensures.items in
    (λ i. jobs all (from i) (first i))
    ∙ jobs-push flow c.args.fact fs all t (reverse ts) c.in_ok-kind.ensures.parents refl c.in_ok-kind.ensures.kind count
    ∙ ap (opened flow c.args.fact) c.self.view_is
