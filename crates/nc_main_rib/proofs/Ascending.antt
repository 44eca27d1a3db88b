-- The distinct prefixes of a list in order: those that are left when it is sorted and repeated neighbors are dropped.
use Rattle.std.proofs.Common.{◌≡◌, Bool, true, false, cond, List, [], ◌∷◌, refl, sym, ap, subst, ◌∙◌, inl, inr}
use Rattle.std.specs.Cmp.{IsEquivalence}
use Rattle.std.specs.List.{list_any, dedup}
use Rattle.std.specs.List.Sorted.{IsSorted, IsPermutation, IsStrictlySortedBy}
use Rattle.std.specs.Ordering.{is_eq}
use Rattle.std.specs.declared.cmp.Ordering.TheVariants.{Less, Equal}
use Rattle.std.proofs.lemmas.Cmp.{on_equiv, and_equiv, nat_eq_equiv}
use Rattle.std.proofs.lemmas.List.Kept.{Contains-dedup, Contains-from_dedup, IsStrictlySortedBy-dedup}
use Rattle.std.proofs.lemmas.List.Sorted.{Contains-permutation, IsPermutation-sym}
use Rattle.std.proofs.lemmas.Map.Keys.{Less-from_sorted}
use Rattle.nc_types.specs.Cidr.{Cidr}
use Rattle.nc_types.proofs.Members.{In, in_by_contains, contains_by_in, some_passes, passes_some}
use Rattle.nc_types.proofs.Sameness.{same_prefix_is}
use Rattle.nc_tables.specs.Base.{same_prefix, prefix_cmp}
use Rattle.nc_tables.specs.Order.{in_order}
use Rattle.nc_tables.specs.Rounds.{distinct}
use Rattle.nc_tables.proofs.Ordered.{in_by_order, in_its_order}
use Rattle.nc_tables.proofs.SideBySide.{prefix_total, same_by_cmp}
use Rattle.nc_base_rib.proofs.Members.{Rises, rises_by_pairs, Ascends, one_list, in_order_ascends}

-- ---- distinct prefixes

pub in_distinct : (ps : List Cidr) (z : Cidr) → In z ps → In z (distinct ps)
in_distinct [] z i = i
in_distinct (p ∷ ps) z i = on (list_any (same_prefix p) ps) refl (in_distinct ps z) i
  where
    on : (b : Bool) → list_any (same_prefix p) ps ≡ b → (In z ps → In z (distinct ps)) → In z (p ∷ ps) → In z (cond b (distinct ps) (p ∷ distinct ps))
    on true some rest (inl same) =
        let again = some_passes (same_prefix p) ps some in
        rest (subst (λ (y : Cidr). In y ps) (sym (same_prefix_is p again.0 again.2) ∙ same) again.1)
    on true some rest (inr j) = rest j
    on false none rest (inl same) = inl same
    on false none rest (inr j) = inr (rest j)

by_distinct : (ps : List Cidr) (z : Cidr) → In z (distinct ps) → In z ps
by_distinct [] z i = i
by_distinct (p ∷ ps) z i = on (list_any (same_prefix p) ps) (by_distinct ps z) i
  where
    on : (b : Bool) → (In z (distinct ps) → In z ps) → In z (cond b (distinct ps) (p ∷ distinct ps)) → In z (p ∷ ps)
    on true rest j = inr (rest j)
    on false rest (inl same) = inl same
    on false rest (inr j) = inr (rest j)

-- no two are one
abbrev Apart : List Cidr → Type 0
Apart ps = Rises (λ x z. prefix_cmp x z ≡ Equal → ⊥) ps

distinct_apart : (ps : List Cidr) → Apart (distinct ps)
distinct_apart [] = tt
distinct_apart (p ∷ ps) = on (list_any (same_prefix p) ps) refl (distinct_apart ps)
  where
    differs : list_any (same_prefix p) ps ≡ false → (z : Cidr) → In z (distinct ps) → prefix_cmp p z ≡ Equal → ⊥
    differs none z i e =
        let same : same_prefix p z ≡ true = same_by_cmp p z ∙ ap is_eq e in
        let some : list_any (same_prefix p) ps ≡ true = passes_some (same_prefix p) ps z (by_distinct ps z i) same in
        absurd cc

    on : (b : Bool) → list_any (same_prefix p) ps ≡ b → Apart (distinct ps) → Apart (cond b (distinct ps) (p ∷ distinct ps))
    on true some rest = rest
    on false none rest = (differs none, rest)

-- the distinct prefixes in order ascend
pub distinct_ascend : (ps : List Cidr) → Ascends prefix_cmp prefix_total (in_order prefix_cmp (distinct ps))
distinct_ascend ps = in_order_ascends prefix_cmp prefix_total (distinct ps) (distinct_apart ps)

-- and are those of the list
pub of_distinct : (ps : List Cidr) (z : Cidr) → In z (in_order prefix_cmp (distinct ps)) → In z ps
of_distinct ps z i = by_distinct ps z (in_by_order prefix_cmp (distinct ps) z i)

-- ---- sorted prefixes

same_equivalence : IsEquivalence same_prefix
same_equivalence = and_equiv (on_equiv (λ (p : Cidr). p.base) nat_eq_equiv) (on_equiv (λ (p : Cidr). p.len) nat_eq_equiv)

strict_ascends : (ps : List Cidr) → IsStrictlySortedBy prefix_cmp ps → Ascends prefix_cmp prefix_total ps
strict_ascends ps strict = rises_by_pairs (λ x z. prefix_cmp x z ≡ Less) ps (λ i j d less lt. Less-from_sorted prefix_cmp ps i j d strict less lt)

pub sorted_is : (ps sorted : List Cidr) → IsPermutation ps sorted → IsSorted prefix_cmp sorted → dedup same_prefix sorted ≡ in_order prefix_cmp (distinct ps)
sorted_is ps sorted moved ordered =
    one_list prefix_cmp prefix_total (dedup same_prefix sorted) (in_order prefix_cmp (distinct ps))
    (strict_ascends (dedup same_prefix sorted) (IsStrictlySortedBy-dedup prefix_total same_by_cmp sorted ordered))
    (distinct_ascend ps) to from
  where
    to : (z : Cidr) → In z (dedup same_prefix sorted) → In z (in_order prefix_cmp (distinct ps))
    to z i =
        let kept = Contains-from_dedup same_prefix sorted z (contains_by_in (dedup same_prefix sorted) z i) in
        let before = Contains-permutation sorted ps z (IsPermutation-sym ps sorted moved) kept in
        in_its_order prefix_cmp (distinct ps) z (in_distinct ps z (in_by_contains ps z before))

    from : (z : Cidr) → In z (in_order prefix_cmp (distinct ps)) → In z (dedup same_prefix sorted)
    from z i =
        let later = Contains-permutation ps sorted z moved (contains_by_in ps z (of_distinct ps z i)) in
        in_by_contains (dedup same_prefix sorted) z (Contains-dedup same_equivalence same_prefix_is sorted z later)
