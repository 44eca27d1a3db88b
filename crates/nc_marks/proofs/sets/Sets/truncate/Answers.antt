use Rattle.std.proofs.Common.{[], take, sym, ap, ◌∙◌, subst}
use Rattle.nc_marks.specs.Sets.{Table, sets_from, AreParts}
use Rattle.nc_marks.proofs.PartLemmas.{sets_from-take, same-table, AreParts-take}
use Rattle.nc_marks.proofs.sets.Sets.truncate.Goals as goal

pub invariant_of-self : goal.invariant_of-self
invariant_of-self c =
    let tails = c.self.inside.tails.items in
    let owns = c.self.inside.owns in
    subst (λ ts. AreParts ts c.truncate.new.self) (sym c.truncate-2.ensures.items)
    (subst (AreParts (take c.args.len tails)) (sym c.truncate.ensures) (AreParts-take c.args.len tails owns c.self.invariant))

pub returns : goal.returns
returns c =
    let tails = c.self.inside.tails.items in
    let owns = c.self.inside.owns in
    same-table _ _ _ _
    (ap (λ ts. sets_from [] ts c.truncate.new.self) c.truncate-2.ensures.items ∙ ap (sets_from [] (take c.args.len tails)) c.truncate.ensures
    ∙ sym (sets_from-take c.args.len [] tails owns) ∙ ap (λ (t : Table). take c.args.len t.sets) c.self.view_is)
    (ap (λ (t : Table). t.width) c.self.view_is)
