use Rattle.std.proofs.Common.{◌≡◌, ◌<◌, ℕ, List, All, length, inl, sym, ap, subst, ◌∙◌}
use Rattle.nc_types.specs.Cidr.{Cidr}
use Rattle.nc_tables.specs.LocRibs.{Ascend}
use Rattle.nc_tables.specs.Rounds.{prefixes}
use Rattle.nc_round.proofs.BegunAlone.{sorted_is}
use Rattle.nc_round.proofs.NextRows.{prefixes_up}
use Rattle.nc_round.proofs.likeness.likeness_of.Goals as goal

pub returns-then-not-are_plain : goal.returns-then-not-are_plain
returns-then-not-are_plain c =
    let routers = c.args.inputs.now.network.now in
    let made = c.in_ok-likeness.likeness in
    let all_is : c.in_ok-all.all.items ≡ prefixes routers = sorted_is routers c.in_ok-all.all.items c.in_ok-prefixes_of.field-0.items c.deref.result.now c.in_ok-all.ensures c.in_ok-prefixes_of.ensures (c.deref.ensures.value ∙ c.in_ok-keys.ensures) in
    record {
      all = c.in_ok-likeness.ensures.all ∙ all_is;
      standing = subst Ascend (sym (c.in_ok-likeness.ensures.standing ∙ all_is)) (prefixes_up routers);
      count = c.in_ok-likeness.ensures.count ∙ ap (length {A = Cidr}) (sym c.in_ok-likeness.ensures.all);
      within = subst (λ (l : List Cidr). All (λ (place : ℕ). place < length l) made.places.items) (sym c.in_ok-likeness.ensures.standing) c.in_ok-likeness.ensures.within;
      like = inl (c.in_ok-likeness.ensures.standing ∙ sym c.in_ok-likeness.ensures.all);
    }

pub owners_of-requires : goal.owners_of-requires
owners_of-requires c =
    let routers = c.args.inputs.now.network.now in
    subst Ascend (sym (c.deref-2.ensures.value ∙ sorted_is routers c.in_ok-all.all.items c.in_ok-prefixes_of.field-0.items c.deref.result.now c.in_ok-all.ensures c.in_ok-prefixes_of.ensures (c.deref.ensures.value ∙ c.in_ok-keys.ensures))) (prefixes_up routers)

pub by_owner-requires-clause-all : goal.by_owner-requires-clause-all
by_owner-requires-clause-all c =
    sorted_is c.args.inputs.now.network.now c.in_ok-all.all.items c.in_ok-prefixes_of.field-0.items c.deref.result.now c.in_ok-all.ensures c.in_ok-prefixes_of.ensures (c.deref.ensures.value ∙ c.in_ok-keys.ensures)
