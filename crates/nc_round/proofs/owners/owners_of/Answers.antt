use Rattle.std.proofs.Common.{List, ◌+◌, take, sym, ap, subst, ◌++◌, ◌∷◌, [], ◌≡◌, ◌∙◌, arith}
use Rattle.std.proofs.lemmas.List.{take_all, take_more}
use Rattle.nc_round.specs.Keys.{Key}
use Rattle.nc_round.specs.Likeness.{AreOwners}
use Rattle.nc_round.proofs.owners.owners_of.Goals as goal

pub keys-preserved : goal.keys-preserved
keys-preserved c =
    let keys = c.args.keys.now in
    let index = c.keys.key-index in
    let k : Key = c.key-item.result in
    let next : take index keys ++ k ∷ [] ≡ take (index + 1) keys = ap (λ (q : Key). take index keys ++ q ∷ []) c.key-item.is ∙ sym (take_more keys index k (omega arith)) in
    record {
      count = c.note.ensures.count;
      owners = subst (λ (seen : List Key). AreOwners seen c.args.all.now c.note.new.owners.items) next (c.note.ensures.owners (take index keys) c.keys.invariant.owners);
    }

pub returns-clause-owners : goal.returns-clause-owners
returns-clause-owners c =
    let keys = c.args.keys.now in
    subst (λ (seen : List Key). AreOwners seen c.args.all.now c.keys.owners.items) (take_all c.keys.key-index keys (omega arith)) c.keys.invariant.owners
