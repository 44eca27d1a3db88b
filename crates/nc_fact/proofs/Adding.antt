-- The facts of a list, one item after another.
use Rattle.std.proofs.Common.{◌≡◌, ℕ, suc, ◌+◌, Bool, true, cond, List, [], ◌∷◌, ◌++◌, map, filter, sym, ap, ◌∙◌, append_assoc, arith}
use Rattle.std.specs.List.{flat_map, range_with_len}
use Rattle.std.proofs.lemmas.List.{flat_map_more, map_push}
use Rattle.nc_types.proofs.Placing.{range_more}
use Rattle.nc_fact.specs.declared.fact.Fact.{Fact}

-- one number more
range_next : (k : ℕ) → range_with_len 0 (k + 1) ≡ range_with_len 0 k ++ k ∷ []
range_next k =
    let next : k + 1 ≡ suc k = omega arith in
    let last : 0 + k ≡ k = omega arith in
    ap (range_with_len 0) next ∙ range_more 0 k ∙ ap (λ (n : ℕ). range_with_len 0 k ++ n ∷ []) last

pub number_more : (make : ℕ → Fact) (before facts : List Fact) (k : ℕ) → facts ≡ before ++ map make (range_with_len 0 k) → facts ++ make k ∷ [] ≡ before ++ map make (range_with_len 0 (k + 1))
number_more make before facts k so_far =
    ap (λ (fs : List Fact). fs ++ make k ∷ []) so_far
    ∙ append_assoc before (map make (range_with_len 0 k)) (make k ∷ [])
    ∙ ap (λ (fs : List Fact). before ++ fs) (sym (map_push make (range_with_len 0 k) k))
    ∙ ap (λ (ks : List ℕ). before ++ map make ks) (sym (range_next k))

pub numbered_part_more : (parts : ℕ → List Fact) (facts more : List Fact) (k : ℕ) → facts ≡ flat_map parts (range_with_len 0 k) → more ≡ facts ++ parts k → more ≡ flat_map parts (range_with_len 0 (k + 1))
numbered_part_more parts facts more k so_far added =
    added ∙ ap (λ (fs : List Fact). fs ++ parts k) so_far ∙ flat_map_more parts [] (range_with_len 0 k) k ∙ ap (flat_map parts) (sym (range_next k))

module _ {X : Type 0} (x : X) (left rest : List X) (first : left ≡ x ∷ rest) (before after : List Fact) where
  -- one part more
  pub part_more : (parts : X → List Fact) → after ≡ before ++ parts x → after ++ flat_map parts rest ≡ before ++ flat_map parts left
  part_more parts added =
      ap (λ (fs : List Fact). fs ++ flat_map parts rest) added
      ∙ append_assoc before (parts x) (flat_map parts rest)
      ∙ ap (λ (l : List X). before ++ flat_map parts l) (sym first)

  -- one fact more, as its item passes
  pub kept_more : (test : X → Bool) (make : X → Fact) → test x ≡ true → after ≡ before ++ make x ∷ [] → after ++ map make (filter test rest) ≡ before ++ map make (filter test left)
  kept_more test make passes added =
      ap (λ (fs : List Fact). fs ++ map make (filter test rest)) added
      ∙ append_assoc before (make x ∷ []) (map make (filter test rest))
      ∙ ap (λ (h : Bool). before ++ map make (cond h (x ∷ filter test rest) (filter test rest))) (sym passes)
      ∙ ap (λ (l : List X). before ++ map make (filter test l)) (sym first)
