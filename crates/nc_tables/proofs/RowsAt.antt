-- What holds of the rows of each router holds of those of one.
use Rattle.std.proofs.Common.{◌≡◌, ℕ, zero, suc, ◌<◌, List, [], ◌∷◌, refl, length, map, All, slice_index_or, ap, sym, subst, ◌∙◌}
use Rattle.std.proofs.lemmas.List.Elements.{All-map, All-get_or}

module _ {A T : Type 0} (P : List A → Type 0) (items : T → List A) where
  -- the rows that a call gave, of tables whose rows are these
  pub holds_at : (tables : List T) (view : List (List A)) (router : ℕ) (rows : List A) → map items tables ≡ view → router < length view → rows ≡ slice_index_or view router [] → All (λ t. P (items t)) tables → P rows
  holds_at tables view router rows same lt is all =
      subst P (ap (λ (v : List (List A)). slice_index_or v router []) same ∙ sym is) (All-get_or P (map items tables) router [] (subst (λ (v : List (List A)). router < length v) (sym same) lt) (All-map P items tables all))

-- the rows of one router, each seen by a view
pub map_at : {A B T : Type 0} (view : A → B) (items : T → List A) (tables : List T) (router : ℕ) → map view (slice_index_or (map items tables) router []) ≡ slice_index_or (map (λ t. map view (items t)) tables) router []
map_at view items [] router = refl
map_at view items (t ∷ ts) zero = refl
map_at view items (t ∷ ts) (suc router) = map_at view items ts router
