-- Values that are kept by their keys one by one are what the groups of their keys make.
use Rattle.std.proofs.Common.{◌≡◌, Bool, true, false, cond, ◌||◌, List, [], ◌∷◌, ◌++◌, map, refl, sym, ap, ◌∙◌, inl, inr}
use Rattle.std.specs.Cmp.{IsEquivalence}
use Rattle.std.specs.List.{fold, list_any, position_or_len}
use Rattle.std.proofs.lemmas.Bool.{cases_Bool, or_parts}
use Rattle.std.proofs.lemmas.List.{append-nil, append_assoc, map_push}
use Rattle.std.proofs.lemmas.List.Sums.{fold_push}
use Rattle.nc_lines.specs.Groups.{Keyed, Group, of_key, groups, changed_at}
use Rattle.nc_lines.proofs.GroupLemmas.{map-changed_at, place_here, place_later, keys_of, grown, groups-known, groups-new}
use Rattle.nc_read_bgp.specs.Kept.{put_in}
use Rattle.nc_read_bgp.specs.Processes.{things}

-- ---- a value that is changed by its key

module _ {K T : Type 0} (same : K → K → Bool) (key : K) (none : T) (f : T → T) where
  abbrev keys_kept : List (K × T) → List K
  keys_kept es = map (λ e. e.0) es

  abbrev changed : K × T → K × T
  changed e = (e.0, f e.1)

  put_known : (es : List (K × T)) → list_any (same key) (keys_kept es) ≡ true → put_in same key none f es ≡ changed_at changed (position_or_len (same key) (keys_kept es)) es
  put_known [] some = absurd cc
  put_known (e ∷ es) some =
      elim (cases_Bool (same key e.0)) [
        | inl here ↦
            ap (λ (b : Bool). cond b (changed e ∷ es) (e ∷ put_in same key none f es)) here
            ∙ ap (λ k. changed_at changed k (e ∷ es)) (sym (place_here same key e.0 (keys_kept es) here))
        | inr other ↦
            ap (λ (b : Bool). cond b (changed e ∷ es) (e ∷ put_in same key none f es)) other
            ∙ ap (λ (ds : List (K × T)). e ∷ ds) (put_known es (sym (ap (λ (b : Bool). b || list_any (same key) (keys_kept es)) other) ∙ some))
            ∙ ap (λ k. changed_at changed k (e ∷ es)) (sym (place_later same key e.0 (keys_kept es) other))
      ]

  put_new : (es : List (K × T)) → list_any (same key) (keys_kept es) ≡ false → put_in same key none f es ≡ es ++ (key, f none) ∷ []
  put_new [] new = refl
  put_new (e ∷ es) new =
      let parts = or_parts (same key e.0) (list_any (same key) (keys_kept es)) new in
      ap (λ (b : Bool). cond b (changed e ∷ es) (e ∷ put_in same key none f es)) parts.0 ∙ ap (λ (ds : List (K × T)). e ∷ ds) (put_new es parts.1)

-- ---- values kept one by one

module _ {K V T : Type 0} {same : K → K → Bool} (law : IsEquivalence same) (none : T) (step : T → V → T) where
  abbrev put : List (K × T) → Keyed K V → List (K × T)
  put es p = put_in same p.key none (λ t. step t p.value) es

  -- what a group makes step by step
  abbrev entry : Group K V → K × T
  entry g = (g.key, fold step none g.values)

  abbrev entries : List (Keyed K V) → List (K × T)
  entries ps = map entry (groups same ps)

  keys_shown : (ps : List (Keyed K V)) (keys : List K) → map (λ e. e.0) (map entry (map (λ key. record { key = key; values = of_key same key ps }) keys)) ≡ keys
  keys_shown ps [] = refl
  keys_shown ps (key ∷ keys) = ap (λ (ks : List K). key ∷ ks) (keys_shown ps keys)

  one_more : (ps : List (Keyed K V)) (p : Keyed K V) → put (entries ps) p ≡ entries (ps ++ p ∷ [])
  one_more ps p =
      elim (cases_Bool (list_any (same p.key) (keys_of same ps))) [
        | inl known ↦
            put_known same p.key none (λ t. step t p.value) (entries ps) (ap (list_any (same p.key)) (keys_shown ps (keys_of same ps)) ∙ known)
            ∙ ap (λ (ks : List K). changed_at changed (position_or_len (same p.key) ks) (entries ps)) (keys_shown ps (keys_of same ps))
            ∙ sym
            (ap (map entry) (groups-known law ps p known)
            ∙ map-changed_at entry (grown p.value) changed (λ g. ap (λ (t : T). (g.key, t)) (fold_push step none g.values p.value)) (position_or_len (same p.key) (keys_of same ps)) (groups same ps))
        | inr new ↦
            put_new same p.key none (λ t. step t p.value) (entries ps) (ap (list_any (same p.key)) (keys_shown ps (keys_of same ps)) ∙ new)
            ∙ sym (ap (map entry) (groups-new law ps p new) ∙ map_push entry (groups same ps) (record { key = p.key; values = p.value ∷ [] }))
      ]
    where
      changed : K × T → K × T
      changed e = (e.0, step e.1 p.value)

  behind : (before ps : List (Keyed K V)) → fold put (entries before) ps ≡ entries (before ++ ps)
  behind before [] = ap entries (sym (append-nil before))
  behind before (p ∷ ps) =
      ap (λ (es : List (K × T)). fold put es ps) (one_more before p) ∙ behind (before ++ p ∷ []) ps ∙ ap entries (append_assoc before (p ∷ []) ps)

  made_alike : (make : List V → T) → ((vs : List V) → fold step none vs ≡ make vs) → (gs : List (Group K V)) → map entry gs ≡ map (λ g. (g.key, make g.values)) gs
  made_alike make makes [] = refl
  made_alike make makes (g ∷ gs) =
      ap (λ (t : T). (g.key, t) ∷ map entry gs) (makes g.values) ∙ ap (λ (es : List (K × T)). (g.key, make g.values) ∷ es) (made_alike make makes gs)

  -- values that are kept one by one are the keys with what their own values make
  pub kept_is_things : (make : List V → T) → ((vs : List V) → fold step none vs ≡ make vs) → (ps : List (Keyed K V)) → fold put [] ps ≡ things same make ps
  kept_is_things make makes ps = behind [] ps ∙ made_alike make makes (groups same ps)
