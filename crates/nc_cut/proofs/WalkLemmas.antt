-- The walk from the top down: with each step a least cut of what is left stays one of the whole behind what is taken.
use Rattle.std.proofs.Common.{◌≡◌, ℕ, zero, suc, ◌<◌, Bool, true, false, List, [], ◌∷◌, ◌++◌, Option, Some, None, unwrap_or, is_some, refl, sym, ap, subst, ◌∙◌, arith, append_assoc}
use Rattle.std.proofs.lemmas.Bool.{true≢false, false≢true}
use Rattle.std.proofs.lemmas.List.{append-nil}
use Rattle.nc_diagram.specs.declared.node.Node.{Node}
use Rattle.nc_diagram.specs.declared.parts.Split.{Split}
use Rattle.nc_diagram.specs.Diagrams.{Belongs, meaning}
use Rattle.nc_diagram.specs.Splits.{Splits}
use Rattle.nc_diagram.proofs.DiagramLemmas.{meaning-true, meaning-false}
use Rattle.nc_cut.specs.Cuts.{IsLeastCut, HasNoCut, is_free}
use Rattle.nc_cut.specs.Sizes.{Known, IsKnown, entry, HasSize, AreSizes, begins}
use Rattle.nc_cut.proofs.ExpansionLemmas.{none_of_both, least_low, least_high}
use Rattle.nc_cut.proofs.SizeLemmas.{low_fewer, high_fewer, least_never, none_of_always}

-- what is taken on the way from r to a reference that has a cut
pub record IsWalk (nodes : List Node) (free : List Bool) (r : ℕ) (sizes : Known) (at : ℕ) (taken : List ℕ) : Type 0 where
  pub belongs : Belongs nodes at
  pub size : ℕ
  pub sized : sizes at ≡ Some (Some size)
  pub least : (cut : List ℕ) → IsLeastCut (meaning nodes at) free cut → IsLeastCut (meaning nodes r) free (taken ++ cut)

-- where a cut begins with the variable, the low part has one; where it does not, and the low part may be taken, the high part has one
low_some : (b : Bool) (l h : Option ℕ) → begins b l h ≡ true → (n : ℕ) × (l ≡ Some n)
low_some false l h is = absurd (false≢true is)
low_some true None h is = absurd (false≢true is)
low_some true (Some n) h is = (n, refl)

none_low : (b : Bool) (l : Option ℕ) → begins b l None ≡ false → b ≡ true → l ≡ None
none_low false l is free_v = absurd (false≢true free_v)
none_low true None is free_v = refl
none_low true (Some n) is free_v = absurd (true≢false is)

-- what the code reads is the rule, where its parts are
pub begins_read : (x b c : Bool) (l m h k : Option ℕ) → x ≡ begins b l h → b ≡ c → l ≡ m → h ≡ k → begins c m k ≡ x
begins_read x b c l m h k e f g i = sym (e ∙ ap (λ p. begins p l h) f ∙ ap (λ p. begins c p h) g ∙ ap (λ p. begins c m p) i)

module _ (nodes : List Node) (free : List Bool) (r : ℕ) (sizes : Known) (are : AreSizes nodes free sizes) where
  -- the size that is known
  known_entry : (p : ℕ) → IsKnown sizes p → sizes p ≡ Some (entry sizes p)
  known_entry p k = k.1 ∙ ap Some (sym (ap (λ (o : Option (Option ℕ)). unwrap_or o None) k.1))

  entry_size : (p : ℕ) → IsKnown sizes p → HasSize (meaning nodes p) free (entry sizes p)
  entry_size p k = (are p (entry sizes p) (known_entry p k)).0.has_size

  pub entry_none : (p : ℕ) → IsKnown sizes p → is_some (entry sizes p) ≡ false → HasNoCut (meaning nodes p) free
  entry_none p k none = by (entry sizes p) none (entry_size p k)
    where
      by : (size : Option ℕ) → is_some size ≡ false → HasSize (meaning nodes p) free size → HasNoCut (meaning nodes p) free
      by None e h = h
      by (Some n) e h = absurd (true≢false e)

  module _ (at : ℕ) (taken : List ℕ) (w : IsWalk nodes free r sizes at taken) (parts : Split) (splits : Splits nodes at parts) where
    ends : IsKnown sizes parts.low × IsKnown sizes parts.high
    ends = (are at (Some w.size) w.sized).1 parts splits

    -- a step to the low end
    pub walks_low : begins (is_free free parts.variable) (entry sizes parts.low) (entry sizes parts.high) ≡ true → IsWalk nodes free r sizes parts.low (taken ++ parts.variable ∷ [])
    walks_low is =
        let some = low_some (is_free free parts.variable) (entry sizes parts.low) (entry sizes parts.high) is in
        let few = low_fewer (meaning nodes parts.low) (meaning nodes parts.high) free (is_free free parts.variable) (entry sizes parts.low) (entry sizes parts.high) is
        (entry_size parts.low ends.0) (entry_size parts.high ends.1) in
        record {
          belongs = omega (arith, w.belongs, splits.low_older);
          size = some.0;
          sized = known_entry parts.low ends.0 ∙ ap Some some.1;
          least = λ cut least. subst (IsLeastCut (meaning nodes r) free) (sym (append_assoc taken (parts.variable ∷ []) cut))
              (w.least (parts.variable ∷ cut)
              (least_low (meaning nodes at) (meaning nodes parts.low) (meaning nodes parts.high) parts.variable free splits.expansion cut few.0 least (λ js c. few.1 cut js least c)));
        }

    -- a step to the high end
    pub walks_high : begins (is_free free parts.variable) (entry sizes parts.low) (entry sizes parts.high) ≡ false → IsWalk nodes free r sizes parts.high taken
    walks_high is = by (entry sizes parts.high) refl
      where
        by : (h : Option ℕ) → entry sizes parts.high ≡ h → IsWalk nodes free r sizes parts.high taken
        by None e =
            let cut = (are at (Some w.size) w.sized).0.has_size in
            let no_high : HasNoCut (meaning nodes parts.high) free = subst (HasSize (meaning nodes parts.high) free) e (entry_size parts.high ends.1) in
            let none : begins (is_free free parts.variable) (entry sizes parts.low) None ≡ false = ap (begins (is_free free parts.variable) (entry sizes parts.low)) (sym e) ∙ is in
            let no_low : is_free free parts.variable ≡ true → HasNoCut (meaning nodes parts.low) free =
            λ free_v. subst (HasSize (meaning nodes parts.low) free) (none_low (is_free free parts.variable) (entry sizes parts.low) none free_v) (entry_size parts.low ends.0) in
            absurd (none_of_both (meaning nodes at) (meaning nodes parts.low) (meaning nodes parts.high) parts.variable free splits.expansion no_low no_high cut.0 cut.1.is_cut)
        by (Some m) e = record {
          belongs = omega (arith, w.belongs, splits.high_older);
          size = m;
          sized = known_entry parts.high ends.1 ∙ ap Some e;
          least = λ cut least. w.least cut
              (least_high (meaning nodes at) (meaning nodes parts.low) (meaning nodes parts.high) parts.variable free splits.expansion cut least
              (λ free_v js c. high_fewer (meaning nodes parts.low) (meaning nodes parts.high) free (is_free free parts.variable) (entry sizes parts.low) (entry sizes parts.high) is
              (entry_size parts.low ends.0) (entry_size parts.high ends.1) free_v cut js least c));
        }

  -- at the end nothing is left to take
  pub walk_ends : (at : ℕ) (taken : List ℕ) → IsWalk nodes free r sizes at taken → at < 2 → IsLeastCut (meaning nodes r) free taken
  walk_ends zero taken w low = subst (IsLeastCut (meaning nodes r) free) (append-nil taken) (w.least [] (least_never (meaning nodes 0) free (meaning-false nodes)))
  walk_ends (suc zero) taken w low = (let cut = (are 1 (Some w.size) w.sized).0.has_size in absurd (none_of_always (meaning nodes 1) free (meaning-true nodes) cut.0 cut.1.is_cut))
  walk_ends (suc (suc at)) taken w low = absurd (omega arith)
