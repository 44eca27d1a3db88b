-- The values of each group, and a write at one place of a list.
use Rattle.std.proofs.Common.{◌≡◌, ℕ, zero, suc, ◌<◌, Bool, true, false, List, [], ◌∷◌, ◌++◌, length, map, get_or, set, refl, ap, ◌∙◌, arith}
use Rattle.std.specs.Cmp.{IsEquivalence}
use Rattle.std.specs.List.{list_any, position_or_len}
use Rattle.std.proofs.lemmas.List.{map_push}
use Rattle.nc_lines.specs.Groups.{Keyed, Group, groups, changed_at}
use Rattle.nc_lines.proofs.GroupLemmas.{map-changed_at, keys_of, grown, groups-known, groups-new}
use Rattle.nc_reader.specs.Steps.{put_at}

-- a write at a place, seen through a view
pub map-set_changed : {X Y : Type 0} (view : X → Y) (f : Y → Y) (xs : List X) (place : ℕ) (x y : X) → place < length xs → x ≡ get_or xs place x → view y ≡ f (view x) → map view (set xs place y) ≡ changed_at f place (map view xs)
map-set_changed view f [] place x y within read change = absurd (omega arith)
map-set_changed {X} {Y} view f (a ∷ xs) zero x y within read change = ap (λ (w : Y). w ∷ map view xs) (change ∙ ap (λ (b : X). f (view b)) read)
map-set_changed {X} {Y} view f (a ∷ xs) (suc place) x y within read change = ap (λ (ws : List Y). view a ∷ ws) (map-set_changed view f xs place x y (omega arith) read change)

pub length-changed_at : {X : Type 0} (f : X → X) (place : ℕ) (xs : List X) → length (changed_at f place xs) ≡ length xs
length-changed_at f place [] = refl
length-changed_at f zero (x ∷ xs) = refl
length-changed_at f (suc place) (x ∷ xs) = ap suc (length-changed_at f place xs)

-- the values of each group
abbrev pub values_of : {K V : Type 0} → List (Group K V) → List (List V)
values_of gs = map (λ g. g.values) gs

values-more : {K V : Type 0} {same : K → K → Bool} → IsEquivalence same → (ps : List (Keyed K V)) (p : Keyed K V) (known : Bool) → list_any (same p.key) (keys_of same ps) ≡ known
    → values_of (groups same (ps ++ p ∷ [])) ≡ put_at known p.value (position_or_len (same p.key) (keys_of same ps)) (values_of (groups same ps))
values-more {K} {V} {same} law ps p true known =
    ap values_of (groups-known law ps p known)
    ∙ map-changed_at (λ (g : Group K V). g.values) (grown p.value) (λ (vs : List V). vs ++ p.value ∷ []) (λ g. refl) (position_or_len (same p.key) (keys_of same ps)) (groups same ps)
values-more {K} {V} {same} law ps p false new = ap values_of (groups-new law ps p new) ∙ map_push (λ (g : Group K V). g.values) (groups same ps) (record { key = p.key; values = p.value ∷ [] })

-- one more value changes the group of its key, or makes one at the end
pub groups-more : {K V : Type 0} {same : K → K → Bool} → IsEquivalence same → (ps : List (Keyed K V)) (p : Keyed K V)
    → values_of (groups same (ps ++ p ∷ [])) ≡ put_at (list_any (same p.key) (keys_of same ps)) p.value (position_or_len (same p.key) (keys_of same ps)) (values_of (groups same ps))
groups-more {K} {V} {same} law ps p = values-more law ps p (list_any (same p.key) (keys_of same ps)) refl
