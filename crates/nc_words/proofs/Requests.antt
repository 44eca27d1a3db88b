-- What items ask for, by the values of the settings: nothing where one stands twice or is no number.
use Rattle.std.proofs.Common.{◌≡◌, ◌⊎◌, ◌∙◌, ◌+◌, ◌≤◌, ℕ, true, List, [], ◌∷◌, Option, Some, None, length, refl, sym, ap, inl, inr, arith}
use Rattle.std.specs.Prelude.{find, option_and_then, slice_get}
use Rattle.std.specs.Option.{option_map, option_map_or}
use Rattle.std.specs.Str.{bytes_eq}
use Rattle.std.proofs.lemmas.Bool.{cases_lt}
use Rattle.std.proofs.lemmas.Bool.Decides.{nat_tests}
use Rattle.clap.specs.Walk.{Row, first_of}
use Rattle.nc_lines.specs.Numbers.{number_of}
use Rattle.nc_words.specs.Words.{FatTree, Item, Names, Rounds, Sets, Setting, Word, at_most_once, is_dashed, pods_of, request_by, rounds_of, values_of}
use Rattle.nc_words.specs.Command.{number_in, request_from}
use Rattle.nc_words.proofs.Shapes.{id_of}
use Rattle.nc_words.proofs.Meeting.{HasDashed, faults, uses}
use Rattle.nc_words.proofs.Rows.{FILE, Fits, fits, fitting, got, got_names, got_values}

-- ---- nothing where a setting isn't right

no_rounds : (items : List Item) → at_most_once rounds_of (values_of Rounds items) ≡ None → request_by items ≡ None
no_rounds items e = rw e refl

no_pods : (items : List Item) → at_most_once pods_of (values_of FatTree items) ≡ None → request_by items ≡ None
no_pods items e = go (at_most_once rounds_of (values_of Rounds items)) refl
  where
    go : (o : Option (Option ℕ)) → at_most_once rounds_of (values_of Rounds items) ≡ o → request_by items ≡ None
    go None r = rw r refl
    go (Some n) r = rw (r, e) refl

-- ---- a value that begins with a dash

module _ (most c : ℕ) (cs : Word) where
  dash_is_none : number_of most (45 ∷ c ∷ cs) ≡ None
  unfolding number_of
  dash_is_none = refl

dashed_number : (most : ℕ) (value : Word) → is_dashed value ≡ true → number_of most value ≡ None
dashed_number most [] e = cc
dashed_number most (b ∷ []) e = cc
dashed_number most (b ∷ c ∷ cs) e =
    let first : b ≡ 45 = grind (arith, nat_tests) in
    ap (λ (n : ℕ). number_of most (n ∷ c ∷ cs)) first ∙ dash_is_none most c cs

dashed_rounds : (value : Word) → is_dashed value ≡ true → rounds_of value ≡ None
dashed_rounds value e = ap (option_and_then _) (dashed_number _ value e)

dashed_pods : (value : Word) → is_dashed value ≡ true → pods_of value ≡ None
dashed_pods value e = ap (option_and_then _) (dashed_number _ value e)

abbrev AmongDashed : List Word → Type 0
AmongDashed [] = ⊥
AmongDashed (value ∷ values) = (is_dashed value ≡ true) ⊎ AmongDashed values

dashed_once : (number : Word → Option ℕ) → ((value : Word) → is_dashed value ≡ true → number value ≡ None) → (values : List Word) → AmongDashed values → at_most_once number values ≡ None
dashed_once number none [] h = absurd h
dashed_once number none (value ∷ []) (inl e) = ap (option_map Some) (none value e)
dashed_once number none (value ∷ []) (inr h) = absurd h
dashed_once number none (value ∷ again ∷ values) h = refl

dashed_setting : (items : List Item) → HasDashed items → AmongDashed (values_of Rounds items) ⊎ AmongDashed (values_of FatTree items)
dashed_setting [] h = absurd h
dashed_setting (Sets Rounds value ∷ items) (inl e) = inl (inl e)
dashed_setting (Sets Rounds value ∷ items) (inr h) = elim (dashed_setting items h) [ inl a ↦ inl (inr a) | inr b ↦ inr b ]
dashed_setting (Sets FatTree value ∷ items) (inl e) = inr (inl e)
dashed_setting (Sets FatTree value ∷ items) (inr h) = elim (dashed_setting items h) [ inl a ↦ inl a | inr b ↦ inr (inr b) ]
dashed_setting (Names name ∷ items) h = dashed_setting items h

pub dashed_asks_nothing : (items : List Item) → HasDashed items → request_by items ≡ None
dashed_asks_nothing items h = elim (dashed_setting items h) [
  | inl a ↦ no_rounds items (dashed_once rounds_of dashed_rounds (values_of Rounds items) a)
  | inr b ↦ no_pods items (dashed_once pods_of dashed_pods (values_of FatTree items) b)
]

-- ---- a setting that stands twice

twice : (number : Word → Option ℕ) (values : List Word) → 2 ≤ length values → at_most_once number values ≡ None
twice number [] h = absurd (omega arith)
twice number (value ∷ []) h = absurd (omega arith)
twice number (value ∷ again ∷ values) h = refl

pub faulty_asks_nothing : (items : List Item) → (faults [] items ≡ [] → ⊥) → request_by items ≡ None
faulty_asks_nothing items fails = elim (cases_lt (length (values_of Rounds items)) 2) [
  | inr more ↦ no_rounds items (twice rounds_of (values_of Rounds items) more)
  | inl few ↦ elim (cases_lt (length (values_of FatTree items)) 2) [
    | inr more ↦ no_pods items (twice pods_of (values_of FatTree items) more)
    | inl less ↦
        let rounds : Fits Rounds [] items = omega arith in
        let pods : Fits FatTree [] items = omega arith in
        absurd (fails (fitting items [] rounds pods))
  ]
]

-- ---- and else what the values ask for

first_got : (id : Word) (rows : List Row) → first_of id rows ≡ slice_get (got id rows) 0
first_got id rows = go (find (λ (r : Row). bytes_eq r.id id) rows)
  where
    go : (o : Option Row) → option_and_then (λ (r : Row). slice_get r.values 0) o ≡ slice_get (option_map_or (λ (r : Row). r.values) o []) 0
    go None = refl
    go (Some r) = refl

once : (number : Word → Option ℕ) (values : List Word) → 0 + length values ≤ 1 → at_most_once number values ≡ number_in number (slice_get values 0)
once number [] h = refl
once number (value ∷ []) h = refl
once number (value ∷ again ∷ values) h = absurd (omega arith)

first_value : (setting : Setting) (items : List Item) → faults [] items ≡ [] → slice_get (values_of setting items) 0 ≡ first_of (id_of setting) (uses [] items)
first_value setting items none = ap (λ (l : List Word). slice_get l 0) (sym (got_values setting items [] none)) ∙ sym (first_got (id_of setting) (uses [] items))

pub asks : (items : List Item) → faults [] items ≡ [] → request_by items ≡ request_from (first_of (id_of Rounds) (uses [] items)) (first_of (id_of FatTree) (uses [] items)) (got FILE (uses [] items))
asks items none =
    rw (
      once rounds_of (values_of Rounds items) (fits Rounds items [] none),
      once pods_of (values_of FatTree items) (fits FatTree items [] none),
      first_value Rounds items none,
      first_value FatTree items none,
      ← got_names items [] none,
    )
    refl
