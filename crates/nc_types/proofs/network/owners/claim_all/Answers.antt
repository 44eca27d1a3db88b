use Rattle.std.proofs.Common.{◌≡◌, ℕ, ◌+◌, ◌∷◌, ◌++◌, [], length, map, take, Some, sym, ap, ◌∙◌, arith, refl, List}
use Rattle.std.proofs.lemmas.List.{take_more, map_push, length-map, length-take-le}
use Rattle.nc_types.specs.Config.{ElementView, element_view}
use Rattle.nc_types.specs.declared.config.Element.{Element}
use Rattle.nc_types.specs.Tables.{owner_in, claimed}
use Rattle.nc_types.proofs.Owning.{owner_in-push}
use Rattle.nc_types.proofs.network.owners.claim_all.Goals as goal

pub elements-preserved : goal.elements-preserved
elements-preserved c k lt =
    let es : List Element = c.args.elements.now in
    let place : ℕ = c.elements.place in
    let e : Element = c.index-elements-place.result in
    let before : List ElementView = map element_view (take place es) in
    let taken : take (place + 1) es ≡ take place es ++ e ∷ [] = take_more es place e c.elements-test.true ∙ ap (λ (x : Element). take place es ++ x ∷ []) (sym c.index-elements-place.is) in
    let more : map element_view (take (place + 1) es) ≡ before ++ element_view e ∷ [] = ap (map element_view) taken ∙ map_push element_view (take place es) e in
    let here : length before ≡ place = omega (arith, length-map (take place es) element_view, length-take-le place es (omega arith)) in
    let owned : owner_in (before ++ element_view e ∷ []) k ≡ claimed place e.lines k (Some (owner_in before k)) =
    owner_in-push before (element_view e) k ∙ ap (λ (p : ℕ). claimed p e.lines k (Some (owner_in before k))) here in
    rw (c.claim.ensures k (omega arith), c.as_slice.ensures, c.elements.invariant k lt, more, owned) refl
