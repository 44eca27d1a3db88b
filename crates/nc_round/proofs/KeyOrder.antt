-- The order of rows by router and prefix.
use Rattle.std.proofs.Common.{◌≡◌, ℕ, Bool, true, ◌&&◌, ◌==◌, List, Contains, refl, ap, ◌∙◌, arith}
use Rattle.std.specs.Cmp.{IsTotalOrder, IsEquivalence}
use Rattle.std.specs.List.{dedup}
use Rattle.std.specs.List.Sorted.{IsSorted, IsPermutation}
use Rattle.std.specs.Ordering.{is_eq}
use Rattle.std.proofs.lemmas.Bool.{and_parts, and_from, eqb-true, eq-eqb}
use Rattle.std.proofs.lemmas.Bool.Decides.{nat_tests}
use Rattle.std.proofs.lemmas.Cmp.{nat_cmp_total, on_total, then_total, on_equiv, and_equiv, nat_eq_equiv}
use Rattle.std.proofs.lemmas.List.Kept.{Contains-dedup, Contains-from_dedup, IsStrictlySortedBy-dedup}
use Rattle.std.proofs.lemmas.List.Sorted.{Contains-permutation, IsPermutation-sym}
use Rattle.std.proofs.lemmas.Map.Keys.{Less-from_sorted}
use Rattle.nc_types.specs.Cidr.{Cidr, same_prefix}
use Rattle.nc_types.proofs.Sameness.{same_prefix_is}
use Rattle.nc_tables.proofs.SideBySide.{prefix_total}
use Rattle.nc_tables.proofs.ByPrefix.{same_itself}
use Rattle.nc_round.specs.Keys.{Key, key, key_cmp, AreInOrder}

key_total : IsTotalOrder key_cmp
key_total = then_total (on_total (λ (k : Key). k.0.0) nat_cmp_total) (on_total (λ (k : Key). k.1) prefix_total)

-- two rows are one
abbrev pub same_key : Key → Key → Bool
same_key a b = (a.0.0 == b.0.0) && same_prefix a.1 b.1

prefix_equivalence : IsEquivalence same_prefix
prefix_equivalence = and_equiv (on_equiv (λ (p : Cidr). p.base) nat_eq_equiv) (on_equiv (λ (p : Cidr). p.len) nat_eq_equiv)

key_equivalence : IsEquivalence same_key
key_equivalence = and_equiv (on_equiv (λ (k : Key). k.0.0) nat_eq_equiv) (on_equiv (λ (k : Key). k.1) prefix_equivalence)

key_is : (a b : Key) → (a.0.0 ≡ b.0.0) → (a.1 ≡ b.1) → a ≡ b
key_is a b e f = ap (λ (n : ℕ). key n a.1) e ∙ ap (λ (p : Cidr). key b.0.0 p) f

pub same_key_is : (a b : Key) → same_key a b ≡ true → a ≡ b
same_key_is a b e = let parts = and_parts (a.0.0 == b.0.0) (same_prefix a.1 b.1) e in key_is a b (eqb-true a.0.0 b.0.0 parts.0) (same_prefix_is a.1 b.1 parts.1)

pub key_itself : (k : Key) → same_key k k ≡ true
key_itself k = and_from (k.0.0 == k.0.0) (same_prefix k.1 k.1) (eq-eqb k.0.0 k.0.0 refl) (same_itself k.1)

ties : (a b : Key) → same_key a b ≡ is_eq (key_cmp a b)
ties a b = grind (arith, nat_tests)

-- sorted rows of which neighbors that repeat are dropped: in order, and the same
pub sorted_in_order : (sorted : List Key) → IsSorted key_cmp sorted → AreInOrder (dedup same_key sorted)
sorted_in_order sorted up i j d less lt = Less-from_sorted key_cmp (dedup same_key sorted) i j d (IsStrictlySortedBy-dedup key_total ties sorted up) less lt

pub sorted_contains : (keys sorted : List Key) → IsPermutation keys sorted → (k : Key) → Contains keys k → Contains (dedup same_key sorted) k
sorted_contains keys sorted moved k c = Contains-dedup key_equivalence same_key_is sorted k (Contains-permutation keys sorted k moved c)

pub contains_sorted : (keys sorted : List Key) → IsPermutation keys sorted → (k : Key) → Contains (dedup same_key sorted) k → Contains keys k
contains_sorted keys sorted moved k c = Contains-permutation sorted keys k (IsPermutation-sym keys sorted moved) (Contains-from_dedup same_key sorted k c)
