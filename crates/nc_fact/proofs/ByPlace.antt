-- The facts of places that hold, one place after another.
use Rattle.std.proofs.Common.{◌≡◌, ℕ, suc, ◌+◌, Bool, cond, List, [], ◌∷◌, ◌++◌, map, filter, sym, ap, ◌∙◌, arith}
use Rattle.std.specs.List.{range_with_len}
use Rattle.std.proofs.lemmas.List.{map-append}
use Rattle.std.proofs.lemmas.List.Elements.{filter-append}
use Rattle.nc_types.proofs.Placing.{range_more}
use Rattle.nc_fact.specs.declared.fact.Fact.{Fact}

module _ (has : Fact → Bool) (make : ℕ → Fact) where
  -- those of the first places
  abbrev pub facts_below : ℕ → List Fact
  facts_below n = filter has (map make (range_with_len 0 n))

  one_fact : (place : ℕ) (b : Bool) → has (make place) ≡ b → filter has (make place ∷ []) ≡ cond b (make place ∷ []) []
  one_fact place b is = ap (λ (h : Bool). cond h (make place ∷ []) []) is

  -- one place more, of which it is known whether its fact holds
  pub one_more : (place : ℕ) (b : Bool) (facts : List Fact) → has (make place) ≡ b → facts ≡ facts_below place → facts ++ cond b (make place ∷ []) [] ≡ facts_below (place + 1)
  one_more place b facts is so_far =
      let next : 0 + place ≡ place = omega arith in
      let more : suc place ≡ place + 1 = omega arith in
      ap (λ (fs : List Fact). fs ++ cond b (make place ∷ []) []) so_far
      ∙ ap (λ (fs : List Fact). facts_below place ++ fs) (sym (one_fact place b is))
      ∙ ap (λ (k : ℕ). facts_below place ++ filter has (make k ∷ [])) (sym next)
      ∙ sym (filter-append has (map make (range_with_len 0 place)) (make (0 + place) ∷ []))
      ∙ ap (filter has) (sym (map-append make (range_with_len 0 place) ((0 + place) ∷ [])))
      ∙ ap (λ (ks : List ℕ). filter has (map make ks)) (sym (range_more 0 place))
      ∙ ap facts_below more
