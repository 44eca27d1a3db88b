use Rattle.std.proofs.Common.{◌≡◌, ◌<◌, ◌≤◌, length, reverse, sym, ◌∙◌, subst, arith}
use Rattle.std.proofs.lemmas.Grind.{common_steps}
use Rattle.std.proofs.lemmas.List.{append-nil}
use Rattle.nc_graph.specs.Tasks.{AreBegins}
use Rattle.nc_graph.proofs.StackEnds.{AreBegins-newest, jobs-newest, jobs-none}
use Rattle.nc_graph.proofs.StackLemmas.{AreBegins-pop, jobs-pop}
use Rattle.nc_graph.proofs.tasks.Tasks.pop.Goals as goal

pub invariant_of-self : goal.invariant_of-self
invariant_of-self g c =
    let all = c.self.inside.facts.items in
    let more : c.self.inside.from < length all = grind (arith, common_steps) in
    AreBegins-pop all c.pop.new.self.items c.in-Some.fact c.self.inside.from (reverse c.self.inside.waiting.items) c.in-Some.ensures.items more c.self.invariant

pub returns-in-Some : goal.returns-in-Some
returns-in-Some g c =
    let all = c.self.inside.facts.items in
    let more : c.self.inside.from < length all = grind (arith, common_steps) in
    sym c.self.view_is
    ∙ jobs-pop all c.pop.new.self.items c.in-Some.fact c.self.inside.from (reverse c.self.inside.waiting.items) c.in-Some.ensures.items more c.self.invariant

pub invariant_of-self-in-Some-pop : goal.invariant_of-self-in-Some-pop
invariant_of-self-in-Some-pop g c =
    let fs = c.self.inside.facts.items in
    let le : length fs ≤ c.self.inside.from = omega (arith, c.if-self-len.false, c.len.ensures, c.self.inside.facts.ok.0) in
    AreBegins-newest fs c.self.inside.from c.self.inside.waiting.items c.pop-else-self-len.new.self.items c.in-Some-pop.inferred c.in-Some-pop.ensures.items le c.self.invariant

pub returns-in-Some-pop : goal.returns-in-Some-pop
returns-in-Some-pop g c =
    let fs = c.self.inside.facts.items in
    let le : length fs ≤ c.self.inside.from = omega (arith, c.if-self-len.false, c.len.ensures, c.self.inside.facts.ok.0) in
    sym c.self.view_is ∙ jobs-newest fs c.self.inside.from c.self.inside.waiting.items c.pop-else-self-len.new.self.items c.in-Some-pop.inferred c.in-Some-pop.ensures.items le

pub invariant_of-self-in-None-pop : goal.invariant_of-self-in-None-pop
invariant_of-self-in-None-pop g c =
    let left = c.pop-else-self-len.new.self.items in
    subst (λ ts. AreBegins (length c.self.inside.facts.items) c.self.inside.from (reverse ts)) (c.in-None-pop.ensures.items ∙ append-nil left) c.self.invariant

pub returns-in-None-pop : goal.returns-in-None-pop
returns-in-None-pop g c =
    let fs = c.self.inside.facts.items in
    let le : length fs ≤ c.self.inside.from = omega (arith, c.if-self-len.false, c.len.ensures, c.self.inside.facts.ok.0) in
    let none : length c.self.inside.waiting.items ≡ 0 = omega (arith, c.in-None-pop.ensures.cases.0, c.self.inside.waiting.ok.0) in
    sym c.self.view_is ∙ jobs-none fs c.self.inside.from c.self.inside.waiting.items le none c.self.invariant
