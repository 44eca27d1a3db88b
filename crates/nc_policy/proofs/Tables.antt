-- Tables made one behind the other, each of what stands at its place.
use Rattle.std.proofs.Common.{◌≡◌, ℕ, ◌<◌, List, [], ◌∷◌, ◌++◌, length, map, get_or, Option, Some, None, refl, sym, ap, subst, ◌∙◌, arith, inl, inr}
use Rattle.std.specs.Prelude.{slice_get}
use Rattle.std.proofs.lemmas.Bool.{cases_eq}
use Rattle.std.proofs.lemmas.List.{length-map, length_push}
use Rattle.std.specs.Option.{option_map}
use Rattle.std.proofs.lemmas.Option.{slice_get-map, slice_get_within}
use Rattle.nc_types.specs.Config.{ConfigView, config_view}
use Rattle.nc_types.specs.declared.config.RouterConfig.{RouterConfig}
use Rattle.nc_types.proofs.Placing.{slice_get_left, slice_get_middle}
use Rattle.nc_policy.proofs.Permitting.{seen_at}

-- one table more
pub pushed : {A X : Type 0} (P : A → X → Type 0) (parts : List A) (xs ys : List X) (a : A) (y : X) → ys ≡ xs ++ y ∷ [] → slice_get parts (length xs) ≡ Some a → P a y
    → ((k : ℕ) (b : A) (x : X) → slice_get parts k ≡ Some b → slice_get xs k ≡ Some x → P b x)
    → (k : ℕ) (b : A) (x : X) → slice_get parts k ≡ Some b → slice_get ys k ≡ Some x → P b x
pushed {A} {X} P parts xs ys a y same at here before k b x got found =
    let all : slice_get (xs ++ y ∷ []) k ≡ Some x = ap (λ (zs : List X). slice_get zs k) (sym same) ∙ found in
    let within : k < length (xs ++ y ∷ []) = slice_get_within (xs ++ y ∷ []) k x all in
    elim (cases_eq k (length xs)) [
      | inl last ↦
          let one : Some a ≡ Some b = sym at ∙ ap (slice_get parts) (sym last) ∙ got in
          let other : Some y ≡ Some x = sym (slice_get_middle xs y []) ∙ ap (slice_get (xs ++ y ∷ [])) (sym last) ∙ all in
          let same_part : a ≡ b = cc in
          let same_table : y ≡ x = cc in
          subst (λ (c : A). P c x) same_part (subst (P a) same_table here)
      | inr earlier ↦
          let lt : k < length xs = omega (arith, length_push xs y) in
          before k b x got (sym (slice_get_left xs (y ∷ []) k lt) ∙ all)
    ]

-- each table as it is seen
pub each_seen : {A X T : Type 0} (P : A → T → Type 0) (view : X → T) (parts : List A) (xs : List X)
    → ((k : ℕ) (a : A) (x : X) → slice_get parts k ≡ Some a → slice_get xs k ≡ Some x → P a (view x))
    → (k : ℕ) (a : A) (t : T) → slice_get parts k ≡ Some a → slice_get (map view xs) k ≡ Some t → P a t
each_seen {A} {X} {T} P view parts xs each k a t at found = on (slice_get xs k) refl (sym (slice_get-map view xs k) ∙ found)
  where
    on : (o : Option X) → slice_get xs k ≡ o → option_map view o ≡ Some t → P a t
    on None is none = absurd (cc)
    on (Some x) is one = let same : view x ≡ t = cc in subst (P a) same (each k a x at is)

-- the configuration of the router of a number
pub config_at : (network : List ConfigView) (configs : List RouterConfig) (router : ℕ) (config : RouterConfig) → map config_view configs ≡ network → router < length network
    → config ≡ get_or configs router config → slice_get network router ≡ Some (config_view config)
config_at network configs router config same lt read =
    let within : router < length configs = omega (arith, lt, ap (length {A = ConfigView}) same, length-map configs config_view) in
    ap (λ (cs : List ConfigView). slice_get cs router) (sym same) ∙ seen_at config_view configs configs router config refl within read
