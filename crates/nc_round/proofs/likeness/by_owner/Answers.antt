use Rattle.std.proofs.Common.{◌≡◌, ◌+◌, ◌++◌, ◌∷◌, [], List, Some, IfSome, get_or, length, take, inr, sym, ap, subst, ◌∙◌, arith}
use Rattle.std.proofs.lemmas.List.{get_or_default, length-map, take_all, take_more}
use Rattle.std.proofs.lemmas.Option.{slice_get-get_or}
use Rattle.nc_types.specs.Cidr.{Cidr}
use Rattle.nc_types.specs.Config.{ConfigView, config_view}
use Rattle.nc_tables.specs.LocRibs.{Ascend}
use Rattle.nc_round.specs.Likeness.{BeginsAlone, IsDraft}
use Rattle.nc_round.proofs.Drafted.{up_to}
use Rattle.nc_round.proofs.NextRows.{prefixes_up}
use Rattle.nc_round.specs.declared.owners.Owner.TheVariants.{None as NoOwner}
use Rattle.nc_round.proofs.likeness.by_owner.Goals as goal

pub prefixes-init : goal.prefixes-init
prefixes-init c =
    let routers = c.args.inputs.now.network.now in
    record {
      draft = c.in_ok-draft.ensures.draft routers c.args.inputs.now.base.now;
      count = c.in_ok-draft.ensures.count ∙ sym (length-map c.routers.result.now config_view) ∙ ap (length {A = ConfigView}) c.routers.ensures.routers;
    }

pub sole_owner-owner-requires-clause-owner : goal.sole_owner-owner-requires-clause-owner
sole_owner-owner-requires-clause-owner c =
    let all = c.args.all.items in
    let owners = c.args.owners.now in
    let number = c.prefixes.number in
    let prefix : Cidr = c.index.result.now in
    c.requires.owners number prefix (get_or owners number NoOwner)
    (slice_get-get_or all number prefix (omega arith) ∙ ap Some (sym c.index.ensures))
    (slice_get-get_or owners number NoOwner (let same = c.requires.count in omega arith))

pub prefixes-preserved : goal.prefixes-preserved
prefixes-preserved c =
    let routers = c.args.inputs.now.network.now in
    let tables = c.args.inputs.now.base.now in
    let all = c.args.all.items in
    let number = c.prefixes.number in
    let prefix : Cidr = c.index-in-prefixes.result.now in
    let next : take (number + 1) all ≡ take number all ++ prefix ∷ [] = take_more all number prefix (omega arith) ∙ ap (λ (p : Cidr). take number all ++ p ∷ []) (sym c.index-in-prefixes.ensures) in
    let up : Ascend (take number all ++ prefix ∷ []) = subst Ascend next (up_to (number + 1) all (subst Ascend (sym c.requires.all) (prefixes_up routers))) in
    let first : c.index.result.now ≡ prefix = c.index.ensures ∙ get_or_default all number c.index.result.now prefix (omega arith) ∙ sym c.index-in-prefixes.ensures in
    let alone : IfSome c.sole_owner-owner.result (λ r. BeginsAlone routers tables prefix r.0) = subst (λ (p : Cidr). IfSome c.sole_owner-owner.result (λ r. BeginsAlone routers tables p r.0)) first c.sole_owner-owner.ensures.alone in
    record {
      draft = subst (λ (seen : List Cidr). IsDraft routers tables seen c.take.new.self) (sym next) (c.in_ok-take.ensures.draft routers tables (take number all) up alone c.prefixes.invariant.draft);
      count = c.in_ok-take.ensures.count ∙ c.prefixes.invariant.count;
    }

pub returns : goal.returns
returns c =
    let all = c.args.all.items in
    let routers = c.args.inputs.now.network.now in
    let tables = c.args.inputs.now.base.now in
    let draft : IsDraft routers tables all c.prefixes.draft = subst (λ (seen : List Cidr). IsDraft routers tables seen c.prefixes.draft) (take_all c.prefixes.number all (omega arith)) c.prefixes.invariant.draft in
    record {
      all = c.requires.all;
      standing = draft.standing;
      count = draft.count;
      within = draft.within;
      like = inr (c.requires.plain, λ q p s. draft.like s.number s.place q p s.here s.known s.there);
    }
