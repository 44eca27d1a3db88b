-- A value of a map that is written, or added, seen through a view.
use Rattle.std.proofs.Common.{◌≡◌, Bool, cond, List, [], ◌∷◌, map, None, Some, sym, ap, ◌∙◌, inl, inr}
use Rattle.std.specs.Map.{lookup, set_value}
use Rattle.std.proofs.lemmas.Bool.{cases_Bool}
use Rattle.indexmap.specs.IndexMap.{insert_entry}
use Rattle.nc_read_bgp.specs.Kept.{put_in}

module _ {K D V : Type 0} (same : K → K → Bool) (view : D → V) (key : K) (none : V) (f : V → V) where
  abbrev seen : List (K × D) → List (K × V)
  seen es = map (λ e. (e.0, view e.1)) es

  -- a known key keeps its place
  pub put_known : (es : List (K × D)) (d w : D) → lookup (same key) es ≡ Some d → view w ≡ f (view d) → seen (set_value (same key) es w) ≡ put_in same key none f (seen es)
  put_known [] d w found changed = absurd cc
  put_known (e ∷ es) d w found changed =
      elim (cases_Bool (same key e.0)) [
        | inl here ↦
            let old : e.1 ≡ d = some_is _ _ (sym (ap (λ (b : Bool). cond b (Some e.1) (lookup (same key) es)) here) ∙ found) in
            ap (λ (b : Bool). seen (cond b ((e.0, w) ∷ es) (e ∷ set_value (same key) es w))) here
            ∙ ap (λ (v : V). (e.0, v) ∷ seen es) (changed ∙ ap (λ (d : D). f (view d)) (sym old))
            ∙ sym (ap (λ (b : Bool). cond b ((e.0, f (view e.1)) ∷ seen es) ((e.0, view e.1) ∷ put_in same key none f (seen es))) here)
        | inr other ↦
            let later = sym (ap (λ (b : Bool). cond b (Some e.1) (lookup (same key) es)) other) ∙ found in
            ap (λ (b : Bool). seen (cond b ((e.0, w) ∷ es) (e ∷ set_value (same key) es w))) other
            ∙ ap (λ (es : List (K × V)). (e.0, view e.1) ∷ es) (put_known es d w later changed)
            ∙ sym (ap (λ (b : Bool). cond b ((e.0, f (view e.1)) ∷ seen es) ((e.0, view e.1) ∷ put_in same key none f (seen es))) other)
      ]
    where
      some_is : (a b : D) → Some a ≡ Some b → a ≡ b
      some_is a b e = cc

  -- a new key goes to the end
  pub put_new : (es : List (K × D)) (w : D) → lookup (same key) es ≡ None → view w ≡ f none → seen (insert_entry same es key w) ≡ put_in same key none f (seen es)
  put_new [] w absent made = ap (λ (v : V). (key, v) ∷ []) made
  put_new (e ∷ es) w absent made =
      elim (cases_Bool (same key e.0)) [
        | inl here ↦
            let some : Some e.1 ≡ None = sym (ap (λ (b : Bool). cond b (Some e.1) (lookup (same key) es)) here) ∙ absent in
            absurd cc
        | inr other ↦
            let later = sym (ap (λ (b : Bool). cond b (Some e.1) (lookup (same key) es)) other) ∙ absent in
            ap (λ (b : Bool). seen (cond b ((e.0, w) ∷ es) (e ∷ insert_entry same es key w))) other
            ∙ ap (λ (es : List (K × V)). (e.0, view e.1) ∷ es) (put_new es w later made)
            ∙ sym (ap (λ (b : Bool). cond b ((e.0, f (view e.1)) ∷ seen es) ((e.0, view e.1) ∷ put_in same key none f (seen es))) other)
      ]
