-- Rows that are made prefix by prefix, the prefixes ascending, stand in order of prefix.
use Rattle.std.proofs.Common.{◌≡◌, ◌⊎◌, ℕ, zero, suc, ◌+◌, ◌<◌, ◌++◌, false, List, [], ◌∷◌, length, get_or, All, refl, sym, ap, subst, ◌∙◌, arith, inl, inr}
use Rattle.std.specs.List.{flat_map}
use Rattle.std.specs.List.Sorted.{IsSortedByKey}
use Rattle.std.specs.Ordering.{is_gt, is_lt, ordering_reverse}
use Rattle.std.specs.declared.cmp.Ordering.{Ordering}
use Rattle.std.specs.declared.cmp.Ordering.TheVariants.{Less, Equal, Greater}
use Rattle.std.proofs.lemmas.Cmp.{tied_itself}
use Rattle.nc_types.specs.Cidr.{Cidr, IsCidr}
use Rattle.nc_types.proofs.Members.{In, in_at, in_either, in_by_flat_map, all_in, all_by_in}
use Rattle.nc_tables.specs.declared.bgp.MainRow.{MainRow}
use Rattle.nc_tables.specs.Base.{prefix_cmp}
use Rattle.nc_tables.specs.Longest.{AreByPrefix}
use Rattle.nc_tables.proofs.SideBySide.{prefix_total}
use Rattle.nc_base_rib.proofs.Members.{Rises, Ascends}

-- ---- rows in order of prefix

abbrev Upto : MainRow → MainRow → Type 0
Upto a b = is_gt (prefix_cmp a.prefix b.prefix) ≡ false

upto_same : (p : Cidr) (a b : MainRow) → a.prefix ≡ p → b.prefix ≡ p → Upto a b
upto_same p a b here there =
    ap (λ (q : Cidr). is_gt (prefix_cmp q b.prefix)) here ∙ ap (λ (q : Cidr). is_gt (prefix_cmp p q)) there ∙ ap is_gt (tied_itself prefix_total p)

upto_less : (p : Cidr) (a b : MainRow) → a.prefix ≡ p → prefix_cmp p b.prefix ≡ Less → Upto a b
upto_less p a b here less = ap (λ (q : Cidr). is_gt (prefix_cmp q b.prefix)) here ∙ ap is_gt less

-- rows of one prefix, then rows of higher ones
one_then_higher : (p : Cidr) (rows others : List MainRow) → ((z : MainRow) → In z rows → z.prefix ≡ p) → ((z : MainRow) → In z others → prefix_cmp p z.prefix ≡ Less) → Rises Upto others → Rises Upto (rows ++ others)
one_then_higher p [] others own higher r = r
one_then_higher p (row ∷ rows) others own higher r =
    ((λ z i. on z (in_either rows others z i)), one_then_higher p rows others (λ z i. own z (inr i)) higher r)
  where
    on : (z : MainRow) → In z rows ⊎ In z others → Upto row z
    on z (inl i) = upto_same p row z (own row (inl refl)) (own z (inr i))
    on z (inr j) = upto_less p row z (own row (inl refl)) (higher z j)

no_lower : (a b : MainRow) → Upto a b → is_lt (prefix_cmp b.prefix a.prefix) ≡ false
no_lower a b up = ap is_lt (prefix_total.antisymm b.prefix a.prefix) ∙ on (prefix_cmp a.prefix b.prefix) up
  where
    on : (o : Ordering) → is_gt o ≡ false → is_lt (ordering_reverse o) ≡ false
    on Less e = refl
    on Equal e = refl
    on Greater e = absurd cc

in_turn : (rows : List MainRow) → Rises Upto rows → IsSortedByKey (λ (row : MainRow). row.prefix) prefix_cmp rows
in_turn rows r k d lo hi = at rows r k d hi
  where
    at : (xs : List MainRow) → Rises Upto xs → (k : ℕ) (d : MainRow) → k + 1 < length xs → is_lt (prefix_cmp (get_or xs (k + 1) d).prefix (get_or xs k d).prefix) ≡ false
    at [] r k d lt = absurd (omega arith)
    at (x ∷ xs) r zero d lt = no_lower x (get_or xs 0 d) (r.0 (get_or xs 0 d) (in_at xs 0 d (omega arith)))
    at (x ∷ xs) r (suc k) d lt =
        let e : suc k + 1 ≡ suc (k + 1) = omega arith in
        subst (λ (n : ℕ). is_lt (prefix_cmp (get_or (x ∷ xs) n d).prefix (get_or (x ∷ xs) (suc k) d).prefix) ≡ false) (sym e) (at xs r.1 k d (omega arith))

module _ (rows_of : Cidr → List MainRow) (own : (p : Cidr) (z : MainRow) → In z (rows_of p) → z.prefix ≡ p) where
  flat_rises : (ps : List Cidr) → Ascends prefix_cmp prefix_total ps → Rises Upto (flat_map rows_of ps)
  flat_rises [] r = tt
  flat_rises (p ∷ ps) r =
      one_then_higher p (rows_of p) (flat_map rows_of ps) (own p)
      (λ z i. let from = in_by_flat_map rows_of ps z i in subst (λ (q : Cidr). prefix_cmp p q ≡ Less) (sym (own from.0 z from.2)) (r.0 from.0 from.1))
      (flat_rises ps r.1)

  flat_valid : (ps : List Cidr) → All (λ (p : Cidr). IsCidr p.base p.len) ps → All (λ (row : MainRow). IsCidr row.prefix.base row.prefix.len) (flat_map rows_of ps)
  flat_valid ps valid =
      all_by_in (λ (row : MainRow). IsCidr row.prefix.base row.prefix.len) (flat_map rows_of ps)
      (λ z i. let from = in_by_flat_map rows_of ps z i in
      subst (λ (p : Cidr). IsCidr p.base p.len) (sym (own from.0 z from.2)) (all_in (λ (p : Cidr). IsCidr p.base p.len) ps valid from.0 from.1))

  pub flat_by_prefix : (ps : List Cidr) → Ascends prefix_cmp prefix_total ps → All (λ (p : Cidr). IsCidr p.base p.len) ps → AreByPrefix (λ (row : MainRow). row.prefix) (flat_map rows_of ps)
  flat_by_prefix ps r valid = record { ordered = in_turn (flat_map rows_of ps) (flat_rises ps r); valid = flat_valid ps valid }
