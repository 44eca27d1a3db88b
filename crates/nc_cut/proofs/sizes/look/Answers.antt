use Rattle.std.proofs.Common.{◌≡◌, ◌^◌, ◌<◌, Some, sym, ap, subst, ◌∙◌, arith, refl, ◌==◌}
use Rattle.nc_cut.specs.Known.{known_in}
use Rattle.std.specs.Bool.{then_some}
use Rattle.std.proofs.lemmas.Option.{IfSome_then}
use Rattle.nc_cut.specs.Cuts.{is_free}
use Rattle.nc_cut.specs.Sizes.{IsSize, joined}
use Rattle.nc_cut.proofs.SizeLemmas.{IsSize-constant, IsSize-joined}
use Rattle.nc_cut.proofs.KnownLemmas.{HasEnds-constant, HasEnds-parts}
use Rattle.nc_cut.proofs.sizes.look.Goals as goal
use Rattle.nc_cut.proofs.sizes.look.Goals.{In-Some-get, In-Some-get-2}

-- the sizes that were read are those of the ends
low_known : (c : In-Some-get) → known_in c.args.sizes.now c.in-Some.parts.low ≡ Some c.in-Some-get.low
low_known c = ap (known_in c.args.sizes.now) (sym c.place.ensures.place) ∙ sym c.in-Some-get.ensures

high_known : (c : In-Some-get-2) → known_in c.args.sizes.now c.in-Some.parts.high ≡ Some c.in-Some-get-2.high
high_known c = ap (known_in c.args.sizes.now) (sym c.place-2.ensures.place) ∙ sym c.in-Some-get-2.ensures

pub returns-in_default : goal.returns-in_default
returns-in_default c =
    let low = c.in_default.ensures.place.0 refl in
    let size : c.then_some.result ≡ then_some (c.args.r == 0) 0 = c.then_some.ensures ∙ ap (λ p. then_some (p == 0) 0) c.place-place.ensures.place in (
      subst (IsSize c.args.store.now.nodes c.args.free.now c.args.r) (sym size) (IsSize-constant c.args.store.now.nodes c.args.free.now c.args.r low),
      HasEnds-constant c.args.store.now.nodes (known_in c.args.sizes.now) c.args.r low,
    )

pub joined-requires : goal.joined-requires
joined-requires c =
    let at = goal.at.joined-requires c in
    let size = c.requires.sizes c.in-Some.parts.low c.in-Some-get.low (low_known at.In-Some-get) in
    IfSome_then c.in-Some-get.low size.0.within (λ n le. let place : c.place-place.result < 2 ^ 32 = c.place-place.type_inv in omega (arith, place, c.place-place.ensures.place, c.in-Some.ensures.splits.low_older))

pub returns : goal.returns
returns c =
    let at = goal.at.returns c in
    let nodes = c.args.store.now.nodes in
    let free = c.args.free.now in
    let parts = c.in-Some.parts in
    let low = low_known at.In-Some-get in
    let high = high_known at.In-Some-get-2 in
    let size : IsSize nodes free c.args.r (joined (is_free free parts.variable) c.in-Some-get.low c.in-Some-get-2.high) =
    IsSize-joined nodes free c.args.r parts c.in-Some-get.low c.in-Some-get-2.high c.in-Some.ensures.splits
    (c.requires.sizes parts.low c.in-Some-get.low low).0 (c.requires.sizes parts.high c.in-Some-get-2.high high).0 in (
      subst (IsSize nodes free c.args.r) (sym (c.joined.ensures ∙ ap (λ b. joined b c.in-Some-get.low c.in-Some-get-2.high) c.is_free.ensures)) size,
      HasEnds-parts nodes (known_in c.args.sizes.now) c.args.r parts c.in-Some.ensures.splits (c.in-Some-get.low, low) (c.in-Some-get-2.high, high),
    )
