-- By which routers prefixes are begun: what one more row tells of them.
use Rattle.std.proofs.Common.{◌≡◌, ◌⊎◌, ℕ, zero, suc, ◌+◌, ◌<◌, ◌≤◌, ◌==◌, Bool, true, false, cond, List, [], ◌∷◌, ◌++◌, get_or, set, Contains, Some, slice_get, refl, sym, ap, subst, ◌∙◌, arith, inl, inr}
use Rattle.std.specs.List.Sorted.{IsNonDecreasingBy}
use Rattle.std.specs.Ordering.{is_lt, ordering_index, ordering_reverse}
use Rattle.std.specs.declared.cmp.Ordering.TheVariants.{Less}
use Rattle.std.proofs.lemmas.Bool.{cases_lt, eqb-true}
use Rattle.std.proofs.lemmas.List.Elements.{Contains-push_cases}
use Rattle.std.proofs.lemmas.Option.{get_or_from_slice_get, slice_get_within, same_Some}
use Rattle.nc_types.specs.Cidr.{Cidr}
use Rattle.nc_types.specs.declared.config.RouterId.{RouterId}
use Rattle.nc_types.proofs.Members.{in_by_get, contains_by_in}
use Rattle.nc_tables.specs.Base.{prefix_cmp}
use Rattle.nc_tables.specs.LocRibs.{Ascend}
use Rattle.nc_tables.proofs.ByPrefix.{less_differs, same_itself}
use Rattle.nc_tables.proofs.SideBySide.{prefix_total}
use Rattle.nc_round.specs.declared.owners.Owner.{Owner}
use Rattle.nc_round.specs.declared.owners.Owner.TheVariants.{None as NoOwner, One, Several}
use Rattle.nc_round.specs.Keys.{Key}
use Rattle.nc_round.specs.Likeness.{owner_with, IsOwnerIn, AreOwners}

-- what is at a place after one was set: it, at its place, or what was there, elsewhere
pub set_cases : {X : Type 0} (xs : List X) (i j : ℕ) (y z : X) → slice_get (set xs i y) j ≡ Some z → ((j ≡ i) × (y ≡ z)) ⊎ ((j ≡ i → ⊥) × (slice_get xs j ≡ Some z))
set_cases [] i j y z e = absurd cc
set_cases (x ∷ xs) zero zero y z e = inl (refl, cc)
set_cases (x ∷ xs) zero (suc j) y z e = inr ((λ s. let t : suc j ≡ 0 = s in omega arith), e)
set_cases (x ∷ xs) (suc i) zero y z e = inr ((λ s. let t : 0 ≡ suc i = s in omega arith), e)
set_cases {X} (x ∷ xs) (suc i) (suc j) y z e = on (set_cases xs i j y z e)
  where
    on : ((j ≡ i) × (y ≡ z)) ⊎ ((j ≡ i → ⊥) × (slice_get xs j ≡ Some z)) → ((suc j ≡ suc i) × (y ≡ z)) ⊎ ((suc j ≡ suc i → ⊥) × (slice_get xs j ≡ Some z))
    on (inl h) = inl (ap suc h.0, h.1)
    on (inr h) = inr ((λ s. let t : suc j ≡ suc i = s in h.0 (omega arith)), h.1)

-- a prefix stands at one place
pub one_place : (ps : List Cidr) (p : Cidr) (i j : ℕ) → Ascend ps → slice_get ps i ≡ Some p → slice_get ps j ≡ Some p → i ≡ j
one_place ps p i j up e f = on (cases_lt i j) (cases_lt j i)
  where
    never : (a b : ℕ) → slice_get ps a ≡ Some p → slice_get ps b ≡ Some p → a < b → ⊥
    never a b g h lt =
        let less : prefix_cmp p p ≡ Less =
        subst (λ (q : Cidr). prefix_cmp p q ≡ Less) (get_or_from_slice_get ps b p p h)
        (subst (λ (q : Cidr). prefix_cmp q (get_or ps b p) ≡ Less) (get_or_from_slice_get ps a p p g) (up a b p lt (slice_get_within ps b p h))) in
        let same = same_itself p in
        let other = less_differs p p less in
        absurd cc

    on : (i < j) ⊎ (j ≤ i) → (j < i) ⊎ (i ≤ j) → i ≡ j
    on (inl lt) c = absurd (never i j e f lt)
    on (inr ge) (inl lt) = absurd (never j i f e lt)
    on (inr ge) (inr le) = omega arith

module _ (seen : List Key) (k : Key) where
  -- one more row of a prefix
  more_of : (p : Cidr) (owner : Owner) → IsOwnerIn seen p owner → IsOwnerIn (seen ++ k ∷ []) p (owner_with owner k.0)
  more_of p NoOwner known = λ q some is. on q is (Contains-push_cases seen k q some)
    where
      on : (q : Key) → q.1 ≡ p → Contains seen q ⊎ (k ≡ q) → q.0 ≡ k.0
      on q is (inl old) = absurd (known q old is)
      on q is (inr new) = sym (ap (λ (z : Key). z.0) new)
  more_of p (One own) known = by (own.0 == k.0.0) refl
    where
      router_is : own.0 ≡ k.0.0 → k.0 ≡ own
      router_is e = let same : ℕ → RouterId = λ n. record { 0 = n } in ap same (sym e)

      on : own.0 ≡ k.0.0 → (q : Key) → q.1 ≡ p → Contains seen q ⊎ (k ≡ q) → q.0 ≡ own
      on e q is (inl old) = known q old is
      on e q is (inr new) = sym (ap (λ (z : Key). z.0) new) ∙ router_is e

      by : (b : Bool) → (own.0 == k.0.0) ≡ b → IsOwnerIn (seen ++ k ∷ []) p (cond b (One own) Several)
      by true e = λ q some is. on (eqb-true own.0 k.0.0 e) q is (Contains-push_cases seen k q some)
      by false e = tt
  more_of p Several known = tt

  -- one more row of another prefix
  more_other : (p : Cidr) (owner : Owner) → (k.1 ≡ p → ⊥) → IsOwnerIn seen p owner → IsOwnerIn (seen ++ k ∷ []) p owner
  more_other p owner other known = by owner known
    where
      old : (q : Key) → q.1 ≡ p → Contains seen q ⊎ (k ≡ q) → Contains seen q
      old q is (inl some) = some
      old q is (inr new) = absurd (other (ap (λ (z : Key). z.1) new ∙ is))

      by : (o : Owner) → IsOwnerIn seen p o → IsOwnerIn (seen ++ k ∷ []) p o
      by NoOwner h = λ q some is. h q (old q is (Contains-push_cases seen k q some)) is
      by (One own) h = λ q some is. h q (old q is (Contains-push_cases seen k q some)) is
      by Several h = tt

  module _ (all : List Cidr) (owners : List Owner) (are : AreOwners seen all owners) where
    pub noted : (at : ℕ) (old : Owner) → Ascend all → slice_get all at ≡ Some k.1 → slice_get owners at ≡ Some old → AreOwners (seen ++ k ∷ []) all (set owners at (owner_with old k.0))
    noted at old up here own number p owner there known = on (set_cases owners at number (owner_with old k.0) owner known)
      where
        same : number ≡ at → k.1 ≡ p
        same e = same_Some k.1 p (sym here ∙ ap (slice_get all) (sym e) ∙ there)

        on : ((number ≡ at) × (owner_with old k.0 ≡ owner)) ⊎ ((number ≡ at → ⊥) × (slice_get owners number ≡ Some owner)) → IsOwnerIn (seen ++ k ∷ []) p owner
        on (inl h) =
            subst (IsOwnerIn (seen ++ k ∷ []) p) h.1 (more_of p old (are at p old (here ∙ ap Some (same h.0)) own))
        on (inr h) = more_other p owner (λ is. h.0 (one_place all p number at up there (here ∙ ap Some is))) (are number p owner there h.1)

    pub unnoted : (Contains all k.1 → ⊥) → AreOwners (seen ++ k ∷ []) all owners
    unnoted none number p owner there known =
        more_other p owner (λ is. none (contains_by_in all k.1 (in_by_get all number k.1 (there ∙ ap Some (sym is))))) (are number p owner there known)
