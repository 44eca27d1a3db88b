-- The size of a node's least cut by those of its ends.
use Rattle.std.proofs.Common.{◌≡◌, ℕ, zero, suc, ◌+◌, ◌<◌, ◌≤◌, nat_lt, Bool, true, false, List, [], ◌∷◌, length, Option, Some, None, IfSome, refl, sym, ◌∙◌, arith, ◌==◌}
use Rattle.std.specs.Bool.{then_some}
use Rattle.std.proofs.lemmas.Bool.{true≢false, false≢true, ltb-true, ltb-false}
use Rattle.std.proofs.lemmas.List.Elements.{All-nil}
use Rattle.nc_diagram.specs.declared.node.Node.{Node}
use Rattle.nc_diagram.specs.declared.parts.Split.{Split}
use Rattle.nc_diagram.specs.Sets.{Members, Same, all_but}
use Rattle.nc_diagram.specs.Diagrams.{meaning}
use Rattle.nc_diagram.specs.Splits.{IsExpansion, Splits}
use Rattle.nc_diagram.proofs.DiagramLemmas.{meaning-true, meaning-false}
use Rattle.nc_cut.specs.Cuts.{IsCut, IsBefore, IsLeastCut, HasNoCut, is_free}
use Rattle.nc_cut.specs.Sizes.{HasSize, IsSize, begins, joined}
use Rattle.nc_cut.proofs.ExpansionLemmas.{none_of_both, least_low, least_high}

-- all least cuts have as many variables
same_length : (f : Members → Bool) (free : List Bool) (one other : List ℕ) → IsLeastCut f free one → IsLeastCut f free other → length one ≡ length other
same_length f free one other a b = omega (arith, a.fewest other b.is_cut, b.fewest one a.is_cut)

module _ (low high : Members → Bool) (free : List Bool) where
  -- where a least cut begins with the variable, that is free and the low part's has fewer than each cut of the high part
  pub low_fewer : (b : Bool) (l h : Option ℕ) → begins b l h ≡ true → HasSize low free l → HasSize high free h
      → (b ≡ true) × ((ks js : List ℕ) → IsLeastCut low free ks → IsCut high free js → length ks < length js)
  low_fewer false l h is sl sh = absurd (false≢true is)
  low_fewer true None h is sl sh = absurd (false≢true is)
  low_fewer true (Some n) None is sl sh = (refl, λ ks js least c. absurd (sh js c))
  low_fewer true (Some n) (Some m) is sl sh = (refl, λ ks js least c. omega (arith, ltb-true n m is, same_length low free ks sl.0 least sl.1, sl.2, sh.1.fewest js c, sh.2))

  -- where it does not, and the variable is free, no cut of the low part has fewer than the high part's least
  pub high_fewer : (b : Bool) (l h : Option ℕ) → begins b l h ≡ false → HasSize low free l → HasSize high free h → b ≡ true
      → (ks js : List ℕ) → IsLeastCut high free ks → IsCut low free js → length ks ≤ length js
  high_fewer false l h is sl sh free_v ks js least c = absurd (false≢true free_v)
  high_fewer true None h is sl sh free_v ks js least c = absurd (sl js c)
  high_fewer true (Some n) None is sl sh free_v ks js least c = absurd (true≢false is)
  high_fewer true (Some n) (Some m) is sl sh free_v ks js least c =
      omega (arith, ltb-false n m is, same_length high free ks sh.0 least sh.1, sh.2, sl.1.fewest js c, sl.2)

module _ (f low high : Members → Bool) (v : ℕ) (free : List Bool) (expansion : IsExpansion f v low high) where
  -- the size of the function
  size_by : (b : Bool) (l h : Option ℕ) → is_free free v ≡ b → HasSize low free l → HasSize high free h → HasSize f free (joined b l h)
  size_by false l None is sl sh = none_of_both f low high v free expansion (λ e. absurd (false≢true (sym is ∙ e))) sh
  size_by false l (Some m) is sl sh = (sh.0, least_high f low high v free expansion sh.0 sh.1 (λ e. absurd (false≢true (sym is ∙ e))), sh.2)
  size_by true None None is sl sh = none_of_both f low high v free expansion (λ _. sl) sh
  size_by true None (Some m) is sl sh = (sh.0, least_high f low high v free expansion sh.0 sh.1 (λ _ js c. absurd (sl js c)), sh.2)
  size_by true (Some n) None is sl sh = (v ∷ sl.0, least_low f low high v free expansion sl.0 is sl.1 (λ js c. absurd (sh js c)), omega (arith, sl.2))
  size_by true (Some n) (Some m) is sl sh = both (nat_lt n m) refl
    where
      both : (first : Bool) → nat_lt n m ≡ first → HasSize f free (joined true (Some n) (Some m))
      both true e =
          let begun : begins true (Some n) (Some m) ≡ true = e in
          let few = low_fewer low high free true (Some n) (Some m) begun sl sh in
          let size : HasSize f free (Some (n + 1)) = (v ∷ sl.0, least_low f low high v free expansion sl.0 is sl.1 (λ js c. few.1 sl.0 js sl.1 c), omega (arith, sl.2)) in
          rw e size
      both false e =
          let size : HasSize f free (Some m) = (sh.0, least_high f low high v free expansion sh.0 sh.1 (λ _ js c. high_fewer low high free true (Some n) (Some m) e sl sh refl sh.0 js sh.1 c), sh.2) in
          rw e size

  pub size_joined : (l h : Option ℕ) → HasSize low free l → HasSize high free h → HasSize f free (joined (is_free free v) l h)
  size_joined l h sl sh = size_by (is_free free v) l h refl sl sh

-- it is no greater than a place above those of the ends
within_joined : (b : Bool) (l h : Option ℕ) (p q r : ℕ) → p < r → q < r → IfSome l (λ n. n ≤ p) → IfSome h (λ n. n ≤ q) → IfSome (joined b l h) (λ n. n ≤ r)
within_joined false l None p q r lt lu wl wh = tt
within_joined false l (Some m) p q r lt lu wl wh = omega arith
within_joined true None None p q r lt lu wl wh = tt
within_joined true None (Some m) p q r lt lu wl wh = omega arith
within_joined true (Some n) None p q r lt lu wl wh = omega arith
within_joined true (Some n) (Some m) p q r lt lu wl wh = both (nat_lt n m) refl
  where
    both : (first : Bool) → nat_lt n m ≡ first → IfSome (joined true (Some n) (Some m)) (λ n. n ≤ r)
    both true e = (let size : n + 1 ≤ r = omega arith in rw e size)
    both false e = (let size : m ≤ r = omega arith in rw e size)

pub IsSize-joined : (nodes : List Node) (free : List Bool) (r : ℕ) (parts : Split) (l h : Option ℕ) → Splits nodes r parts → IsSize nodes free parts.low l → IsSize nodes free parts.high h
    → IsSize nodes free r (joined (is_free free parts.variable) l h)
IsSize-joined nodes free r parts l h splits sl sh = record {
  has_size = size_joined (meaning nodes r) (meaning nodes parts.low) (meaning nodes parts.high) parts.variable free splits.expansion l h sl.has_size sh.has_size;
  within = within_joined (is_free free parts.variable) l h parts.low parts.high r splits.low_older splits.high_older sl.within sh.within;
}

-- a function that is always false needs no variable cut, and one that is always true has no cut
pub least_never : (f : Members → Bool) (free : List Bool) → Same f (λ _. false) → IsLeastCut f free []
least_never f free same = record {
  is_cut = record { ascends = λ k lt. absurd (omega arith); allowed = All-nil (λ v. is_free free v ≡ true); never = same (all_but []) };
  fewest = λ other c. omega arith;
  first = λ other c none before. not_before other none before;
}
  where
    not_before : (other : List ℕ) → length other ≡ length {A = ℕ} [] → IsBefore other [] → ⊥
    not_before [] none before = omega (arith, before.lower)
    not_before (v ∷ vs) none before = omega arith

pub none_of_always : (f : Members → Bool) (free : List Bool) → Same f (λ _. true) → HasNoCut f free
none_of_always f free same cut c = true≢false (sym (same (all_but cut)) ∙ c.never)

pub IsSize-constant : (nodes : List Node) (free : List Bool) (r : ℕ) → r < 2 → IsSize nodes free r (then_some (r == 0) 0)
IsSize-constant nodes free zero low = record { has_size = ([], least_never (meaning nodes 0) free (meaning-false nodes), refl); within = omega arith }
IsSize-constant nodes free (suc zero) low = record { has_size = none_of_always (meaning nodes 1) free (meaning-true nodes); within = tt }
IsSize-constant nodes free (suc (suc r)) low = absurd (omega arith)
