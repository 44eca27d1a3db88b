use Rattle.std.proofs.Common.{◌≡◌, ◌≤◌, [], ◌∷◌, ◌++◌, length, sym, ap, ◌∙◌, subst, arith}
use Rattle.std.proofs.lemmas.Grind.{common_steps}
use Rattle.nc_marks.specs.Sets.{Table, followed, sets_from, AreParts}
use Rattle.nc_marks.proofs.PartLemmas.{sets_from-length, sets_from-push, same-table, AreParts-push}
use Rattle.nc_marks.proofs.sets.Sets.push.Goals as goal

pub invariant_of-self-2 : goal.invariant_of-self-2
invariant_of-self-2 c =
    let was = c.self-2.inside in
    let tails : c.push-2.new.self.items ≡ was.tails.items ++ c.args.tail ∷ [] = grind (arith, common_steps) in
    let owns : c.push.new.self ≡ was.owns ++ c.args.own.now ∷ [] = grind (arith, common_steps) in
    let long = sets_from-length [] was.tails.items was.owns c.self-2.invariant.len in
    let few = ap (λ (t : Table). length t.sets) c.self-2.view_is in
    let low : c.args.tail ≤ length was.tails.items = omega (arith, c.requires, long, few) in
    subst (λ ts. AreParts ts c.push.new.self) (sym tails) (subst (AreParts (was.tails.items ++ c.args.tail ∷ [])) (sym owns) (AreParts-push was.tails.items was.owns c.args.tail c.args.own.now c.self-2.invariant low))

pub returns-clause-ok : goal.returns-clause-ok
returns-clause-ok c =
    let was = c.self-2.inside in
    let tails : c.push-2.new.self.items ≡ was.tails.items ++ c.args.tail ∷ [] = grind (arith, common_steps) in
    let owns : c.push.new.self ≡ was.owns ++ c.args.own.now ∷ [] = grind (arith, common_steps) in
    same-table _ _ _ _
    (ap (λ ts. sets_from [] ts c.push.new.self) tails ∙ ap (sets_from [] (was.tails.items ++ c.args.tail ∷ [])) owns
    ∙ sets_from-push [] was.tails.items was.owns c.args.tail c.args.own.now c.self-2.invariant.len
    ∙ ap (λ (t : Table). t.sets ++ followed t.sets c.args.tail c.args.own.now ∷ []) c.self-2.view_is)
    (ap (λ (t : Table). t.width) c.self-2.view_is)
