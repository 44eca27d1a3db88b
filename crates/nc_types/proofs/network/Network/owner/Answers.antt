use Rattle.std.proofs.Common.{◌≡◌, ◌≤◌, ◌∙◌, length, map, arith, sym, ap, subst, Option, Some, None, List, ℕ}
use Rattle.std.specs.Global.{Vec}
use Rattle.nc_types.specs.Tables.{AreAllOwners}
use Rattle.std.specs.List.{slice_get}
use Rattle.std.specs.Option.{option_map}
use Rattle.std.proofs.lemmas.Grind.{common_steps}
use Rattle.std.proofs.lemmas.Option.{gets}
use Rattle.nc_types.specs.Config.{ConfigView, config_view}
use Rattle.nc_types.specs.Network.{number_at, owner_at}
use Rattle.nc_types.proofs.Owning.{owner_past, owner_found, place_found}
use Rattle.nc_types.proofs.network.Network.owner.Goals as goal

pub returns-in_err-owner : goal.returns-in_err-owner
returns-in_err-owner c =
    let rs : List ConfigView = map config_view c.self.inside.routers.items in
    let own : Vec (Option ℕ) = c.in_ok-owners.owners.now in
    let found : slice_get c.deref.result.now c.args.router.0 ≡ Some own = grind (arith, common_steps, gets) in
    let there : slice_get c.self.inside.tables.owners.items c.args.router.0 ≡ Some own = ap (λ (os : List (Vec (Option ℕ))). slice_get os c.args.router.0) (sym c.deref.ensures.value) ∙ found in
    let all : AreAllOwners rs (length rs) c.self.inside.tables.owners.items = c.self.invariant.served.owners in
    let past : length c.deref-2.result.now ≤ c.args.line = grind (arith, common_steps, gets) in
    let none : owner_at rs c.args.router.0 c.args.line ≡ None =
    owner_past rs c.self.inside.tables.owners.items all c.args.router.0 c.args.line own there c.self.invariant.valid (subst (λ (l : List (Option ℕ)). length l ≤ c.args.line) c.deref-2.ensures.value past) in
    rw (c.from_residual-in_err-owner.ensures, ← c.self.view_is) (sym none)

pub returns-in_err-place : goal.returns-in_err-place
returns-in_err-place c =
    let rs : List ConfigView = map config_view c.self.inside.routers.items in
    let own : Vec (Option ℕ) = c.in_ok-owners.owners.now in
    let found : slice_get c.deref.result.now c.args.router.0 ≡ Some own = grind (arith, common_steps, gets) in
    let there : slice_get c.self.inside.tables.owners.items c.args.router.0 ≡ Some own = ap (λ (os : List (Vec (Option ℕ))). slice_get os c.args.router.0) (sym c.deref.ensures.value) ∙ found in
    let all : AreAllOwners rs (length rs) c.self.inside.tables.owners.items = c.self.invariant.served.owners in
    let has : slice_get c.deref-2.result.now c.args.line ≡ Some c.in_ok-owner.field-0.now = grind (arith, common_steps, gets) in
    let none : c.in_ok-owner.field-0.now ≡ None = sym c.place.ensures ∙ c.in_err-place.was in
    let owner : option_map (number_at rs c.args.router.0) None ≡ owner_at rs c.args.router.0 c.args.line =
    owner_found rs c.self.inside.tables.owners.items all c.args.router.0 c.args.line own there None (ap (λ (l : List (Option ℕ)). slice_get l c.args.line) (sym c.deref-2.ensures.value) ∙ has ∙ ap Some none) in
    rw (c.from_residual-in_err-place.ensures, ← c.self.view_is) owner

pub element_id-requires-clause-place : goal.element_id-requires-clause-place
element_id-requires-clause-place c x at =
    let rs : List ConfigView = map config_view c.self.inside.routers.items in
    let own : Vec (Option ℕ) = c.in_ok-owners.owners.now in
    let found : slice_get c.deref.result.now c.args.router.0 ≡ Some own = grind (arith, common_steps, gets) in
    let there : slice_get c.self.inside.tables.owners.items c.args.router.0 ≡ Some own = ap (λ (os : List (Vec (Option ℕ))). slice_get os c.args.router.0) (sym c.deref.ensures.value) ∙ found in
    let all : AreAllOwners rs (length rs) c.self.inside.tables.owners.items = c.self.invariant.served.owners in
    let has : slice_get c.deref-2.result.now c.args.line ≡ Some c.in_ok-owner.field-0.now = grind (arith, common_steps, gets) in
    let some : c.in_ok-owner.field-0.now ≡ Some c.in_ok-place.place = sym c.place.ensures ∙ c.in_ok-place.was in
    place_found rs c.self.inside.tables.owners.items all c.args.router.0 c.args.line own there c.in_ok-place.place
    (ap (λ (l : List (Option ℕ)). slice_get l c.args.line) (sym c.deref-2.ensures.value) ∙ has ∙ ap Some some) x (ap (λ (cs : List ConfigView). slice_get cs c.args.router.0) c.self.view_is ∙ at)

pub returns : goal.returns
returns c =
    let rs : List ConfigView = map config_view c.self.inside.routers.items in
    let own : Vec (Option ℕ) = c.in_ok-owners.owners.now in
    let found : slice_get c.deref.result.now c.args.router.0 ≡ Some own = grind (arith, common_steps, gets) in
    let there : slice_get c.self.inside.tables.owners.items c.args.router.0 ≡ Some own = ap (λ (os : List (Vec (Option ℕ))). slice_get os c.args.router.0) (sym c.deref.ensures.value) ∙ found in
    let all : AreAllOwners rs (length rs) c.self.inside.tables.owners.items = c.self.invariant.served.owners in
    let has : slice_get c.deref-2.result.now c.args.line ≡ Some c.in_ok-owner.field-0.now = grind (arith, common_steps, gets) in
    let some : c.in_ok-owner.field-0.now ≡ Some c.in_ok-place.place = sym c.place.ensures ∙ c.in_ok-place.was in
    let owner : Some (number_at rs c.args.router.0 c.in_ok-place.place) ≡ owner_at rs c.args.router.0 c.args.line =
    owner_found rs c.self.inside.tables.owners.items all c.args.router.0 c.args.line own there (Some c.in_ok-place.place) (ap (λ (l : List (Option ℕ)). slice_get l c.args.line) (sym c.deref-2.ensures.value) ∙ has ∙ ap Some some) in
    ap Some c.element_id.ensures.number ∙ subst (λ (cs : List ConfigView). Some (number_at cs c.args.router.0 c.in_ok-place.place) ≡ owner_at cs c.args.router.0 c.args.line) c.self.view_is owner
