-- The table of the numbers of first elements.
use Rattle.std.proofs.Common.{◌≡◌, ℕ, zero, suc, ◌+◌, ◌<◌, List, [], ◌∷◌, length, map, take, drop, get_or, Some, refl, ap, ◌∙◌, arith}
use Rattle.std.specs.List.{slice_get}
use Rattle.std.proofs.lemmas.List.{length-map}
use Rattle.std.proofs.lemmas.List.Sums.{sum_by-cons}
use Rattle.nc_types.specs.declared.config.RouterConfig.{RouterConfig}
use Rattle.nc_types.specs.Config.{ConfigView, config_view, element_view}
use Rattle.nc_types.specs.Network.{element_count, number_at}
use Rattle.nc_types.specs.Tables.{offsets_from}
use Rattle.nc_types.proofs.Walks.{drop_view}

pub count_cons : (c : ConfigView) (cs : List ConfigView) → element_count (c ∷ cs) ≡ length c.elements + element_count cs
count_cons c cs = sum_by-cons (λ (x : ConfigView). length x.elements) c cs

-- the number of the first element of a router is how many elements the earlier ones have
from_first : (first : ℕ) (cs : List ConfigView) (k : ℕ) → k < length cs → slice_get (offsets_from first cs) k ≡ Some (first + element_count (take k cs))
from_first first [] k lt = absurd (omega arith)
from_first first (c ∷ cs) zero lt = ap Some (omega arith)
from_first first (c ∷ cs) (suc k) lt =
    let e : (first + length c.elements) + element_count (take k cs) ≡ first + element_count (c ∷ take k cs) = omega (arith, count_cons c (take k cs)) in
    from_first (first + length c.elements) cs k (omega arith) ∙ ap Some e

pub offset_at : (cs : List ConfigView) (k : ℕ) → k < length cs → slice_get (offsets_from 0 cs) k ≡ Some (element_count (take k cs))
offset_at cs k lt = let e : 0 + element_count (take k cs) ≡ element_count (take k cs) = omega arith in from_first 0 cs k lt ∙ ap Some e

pub length-offsets : (first : ℕ) (cs : List ConfigView) → length (offsets_from first cs) ≡ length cs
length-offsets first [] = refl
length-offsets first (c ∷ cs) = ap suc (length-offsets (first + length c.elements) cs)

-- a number of an element is below the count
pub number_within : (cs : List ConfigView) (router place : ℕ) (c : ConfigView) → slice_get cs router ≡ Some c → place < length c.elements → number_at cs router place < element_count cs
number_within [] router place c at lt = absurd cc
number_within (d ∷ cs) zero place c at lt =
    let same : d ≡ c = cc in
    let count : length d.elements ≡ length c.elements = ap (λ (x : ConfigView). length x.elements) same in
    omega (arith, count_cons d cs)
number_within (d ∷ cs) (suc router) place c at lt =
    let rest : number_at cs router place < element_count cs = number_within cs router place c at lt in
    omega (arith, count_cons d cs, count_cons d (take router cs))

-- ---- router by router

module _ (rs : List RouterConfig) (i : ℕ) (x : RouterConfig) (read : x ≡ get_or rs i x) (lt : i < length rs) where
  pub count_step : element_count (drop i (map config_view rs)) ≡ length x.elements.items + element_count (drop (i + 1) (map config_view rs))
  count_step =
      ap element_count (drop_view config_view rs i x read lt) ∙ count_cons (config_view x) (drop (i + 1) (map config_view rs))
      ∙ ap (λ (n : ℕ). n + element_count (drop (i + 1) (map config_view rs))) (length-map x.elements.items element_view)

  pub offsets_step : (first : ℕ) → offsets_from first (drop i (map config_view rs)) ≡ first ∷ offsets_from (first + length x.elements.items) (drop (i + 1) (map config_view rs))
  offsets_step first =
      ap (offsets_from first) (drop_view config_view rs i x read lt)
      ∙ ap (λ (n : ℕ). first ∷ offsets_from (first + n) (drop (i + 1) (map config_view rs))) (length-map x.elements.items element_view)
