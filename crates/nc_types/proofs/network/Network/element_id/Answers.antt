use Rattle.std.proofs.Common.{◌≡◌, ◌<◌, ◌∙◌, ℕ, List, length, map, take, ap, refl, arith, Some}
use Rattle.std.specs.List.{slice_get}
use Rattle.std.proofs.lemmas.Option.{get_or_from_slice_get}
use Rattle.nc_types.specs.Config.{ConfigView, config_view}
use Rattle.nc_types.specs.Network.{element_count, number_at}
use Rattle.nc_types.proofs.Offsets.{offset_at, length-offsets, number_within}
use Rattle.nc_types.proofs.Owning.{some_at}
use Rattle.nc_types.proofs.network.Network.element_id.Goals as goal

pub index-first-requires : goal.index-first-requires
index-first-requires c =
    let rs : List ConfigView = map config_view c.self.inside.routers.items in
    let count : length c.self.inside.tables.offsets.items ≡ length rs = ap length c.self.invariant.served.offsets ∙ length-offsets 0 rs in
    let routers : length rs ≡ length c.args.self.now = ap length c.self.view_is in
    omega (arith, c.requires.router)

pub returns-clause-number : goal.returns-clause-number
returns-clause-number c =
    let rs : List ConfigView = map config_view c.self.inside.routers.items in
    let within : c.args.router.0 < length rs = (let routers : length rs ≡ length c.args.self.now = ap length c.self.view_is in omega (arith, c.requires.router)) in
    let has : slice_get c.self.inside.tables.offsets.items c.args.router.0 ≡ Some (element_count (take c.args.router.0 rs)) =
    ap (λ (ks : List ℕ). slice_get ks c.args.router.0) c.self.invariant.served.offsets ∙ offset_at rs c.args.router.0 within in
    let first : c.index-first.result.now ≡ element_count (take c.args.router.0 rs) =
    c.index-first.ensures ∙ get_or_from_slice_get c.self.inside.tables.offsets.items c.args.router.0 (element_count (take c.args.router.0 rs)) c.index-first.result.now has in
    rw (first, c.self.view_is) refl

pub returns-clause-within : goal.returns-clause-within
returns-clause-within c =
    let r = some_at c.args.self.now c.args.router.0 c.requires.router in
    let below : number_at c.args.self.now c.args.router.0 c.args.place < element_count c.args.self.now = number_within c.args.self.now c.args.router.0 c.args.place r.0 r.1 (c.requires.place r.0 r.1) in
    let number = returns-clause-number c in
    omega arith

pub overflow_add-result : goal.overflow_add-result
overflow_add-result c =
    let rs : List ConfigView = map config_view c.self.inside.routers.items in
    let count : element_count rs ≡ element_count c.args.self.now = ap element_count c.self.view_is in
    let below = returns-clause-within c in
    omega (arith, c.self.invariant.few)
