-- What stands for prefixes while they are gone through: what one more prefix changes of it.
use Rattle.std.proofs.Common.{◌≡◌, ◌⊎◌, ℕ, zero, suc, ◌+◌, ◌<◌, List, [], ◌∷◌, ◌++◌, length, get_or, set, take, All, Contains, Option, Some, slice_get, refl, sym, ap, subst, ◌∙◌, arith, inl, inr}
use Rattle.std.specs.declared.cmp.Ordering.TheVariants.{Less}
use Rattle.std.proofs.lemmas.List.{length_push, get_or_push, get_or_append_left, get_or-take, length-take}
use Rattle.std.proofs.lemmas.List.Elements.{All-push, Contains-append_left, Contains-push}
use Rattle.std.proofs.lemmas.List.Quantifiers.{all_pairs_push}
use Rattle.std.proofs.lemmas.Option.{slice_get_within, same_Some}
use Rattle.nc_types.specs.Cidr.{Cidr}
use Rattle.nc_types.specs.Config.{ConfigView}
use Rattle.nc_types.proofs.Members.{in_at, in_by_get, all_in, all_by_in}
use Rattle.nc_tables.specs.declared.base.BaseRow.{BaseRow}
use Rattle.nc_tables.specs.Base.{prefix_cmp}
use Rattle.nc_tables.specs.LocRibs.{Ascend}
use Rattle.nc_round.specs.declared.likeness.Draft.{Draft}
use Rattle.nc_round.specs.Likeness.{begins, AreAlike, BeginsAlone, IsDraft}
use Rattle.nc_round.proofs.Owned.{set_cases}

-- what is at a place of a list with one more: what was there, or the last one
pushed : {X : Type 0} (xs : List X) (y : X) (n : ℕ) (z : X) → slice_get (xs ++ y ∷ []) n ≡ Some z → (slice_get xs n ≡ Some z) ⊎ ((n ≡ length xs) × (y ≡ z))
pushed [] y zero z e = inr (refl, cc)
pushed [] y (suc n) z e = absurd cc
pushed (x ∷ xs) y zero z e = inl e
pushed (x ∷ xs) y (suc n) z e = on (pushed xs y n z e)
  where
    on : (slice_get xs n ≡ Some z) ⊎ ((n ≡ length xs) × (y ≡ z)) → (slice_get xs n ≡ Some z) ⊎ ((suc n ≡ suc (length xs)) × (y ≡ z))
    on (inl h) = inl h
    on (inr h) = inr (ap suc h.0, h.1)

-- one behind all
behind : (seen : List Cidr) (p q : Cidr) → Ascend (seen ++ p ∷ []) → Contains seen q → prefix_cmp q p ≡ Less
behind seen p q up some =
    let less = up some.0 (length seen) q some.1 (let more = length_push seen p in omega arith) in
    subst (λ (r : Cidr). prefix_cmp q r ≡ Less) (get_or_push seen p q (length seen) refl)
    (subst (λ (r : Cidr). prefix_cmp r (get_or (seen ++ p ∷ []) (length seen) q) ≡ Less) (get_or_append_left seen (p ∷ []) q some.0 some.1 ∙ some.2) less)

module _ (routers : List ConfigView) (tables : List (List BaseRow)) (seen : List Cidr) (p : Cidr) (d after : Draft) (draft : IsDraft routers tables seen d) where
  place_within : (number place : ℕ) → slice_get d.places.items number ≡ Some place → place < length d.standing.items
  place_within number place known = all_in (λ (k : ℕ). k < length d.standing.items) d.places.items draft.within place (in_by_get d.places.items number place known)

  kept : All (Contains (seen ++ p ∷ [])) d.standing.items
  kept = all_by_in (Contains (seen ++ p ∷ [])) d.standing.items (λ q i. Contains-append_left seen (p ∷ []) q (all_in (Contains seen) d.standing.items draft.from q i))

  -- the places of the prefixes with one more
  module _ (last : ℕ) (places : after.places.items ≡ d.places.items ++ last ∷ []) where
    more_count : length after.places.items ≡ length (seen ++ p ∷ [])
    more_count = ap length places ∙ length_push d.places.items last ∙ (let same = draft.count in let more = length_push seen p in omega arith)

    -- of a prefix before the last one all is as it was, and the last one has the last place
    known_cases : (number place : ℕ) (q : Cidr) → slice_get (seen ++ p ∷ []) number ≡ Some q → slice_get after.places.items number ≡ Some place
        → ((slice_get seen number ≡ Some q) × (slice_get d.places.items number ≡ Some place)) ⊎ ((p ≡ q) × (last ≡ place))
    known_cases number place q here known = on (pushed seen p number q here) (pushed d.places.items last number place (ap (λ (l : List ℕ). slice_get l number) (sym places) ∙ known))
      where
        on : (slice_get seen number ≡ Some q) ⊎ ((number ≡ length seen) × (p ≡ q)) → (slice_get d.places.items number ≡ Some place) ⊎ ((number ≡ length d.places.items) × (last ≡ place))
            → ((slice_get seen number ≡ Some q) × (slice_get d.places.items number ≡ Some place)) ⊎ ((p ≡ q) × (last ≡ place))
        on (inl h) (inl k) = inl (h, k)
        on (inl h) (inr k) = let lt = slice_get_within seen number q h in let at : number ≡ length d.places.items = k.0 in let same = draft.count in absurd (omega arith)
        on (inr h) (inl k) = let lt = slice_get_within d.places.items number place k in let at : number ≡ length seen = h.0 in let same = draft.count in absurd (omega arith)
        on (inr h) (inr k) = inr (h.1, k.1)

  -- a prefix that stands for itself
  pub stood : Ascend (seen ++ p ∷ []) → after.standing.items ≡ d.standing.items ++ p ∷ [] → after.places.items ≡ d.places.items ++ length d.standing.items ∷ [] → after.firsts.items ≡ d.firsts.items
      → IsDraft routers tables (seen ++ p ∷ []) after
  stood up standing places firsts = record {
    standing = subst Ascend (sym standing) (all_pairs_push (λ (q r : Cidr). prefix_cmp q r ≡ Less) d.standing.items p draft.standing
        (λ k e lt. behind seen p (get_or d.standing.items k e) up (all_in (Contains seen) d.standing.items draft.from (get_or d.standing.items k e) (in_at d.standing.items k e lt))));
    from = subst (All (Contains (seen ++ p ∷ []))) (sym standing) (All-push (Contains (seen ++ p ∷ [])) d.standing.items p kept (Contains-push seen p));
    count = more_count (length d.standing.items) places;
    within = subst (All (λ (k : ℕ). k < length after.standing.items)) (sym places) (All-push (λ (k : ℕ). k < length after.standing.items) d.places.items (length d.standing.items)
        (all_by_in (λ (k : ℕ). k < length after.standing.items) d.places.items (λ k i. let lt : k < length d.standing.items = all_in (λ (n : ℕ). n < length d.standing.items) d.places.items draft.within k i in let m = more in omega arith))
        (let m = more in omega arith));
    like = λ number place q r here known there. by_place number place q r (known_cases (length d.standing.items) places number place q here known) (at place r there);
    firsts = λ router place e. let lt = first router place e in let m = more in omega arith;
    alone = λ router place r e there. by_first router place r (ap (λ (l : List (Option ℕ)). slice_get l router) (sym firsts) ∙ e) (at place r there);
  }
    where
      more : length after.standing.items ≡ length d.standing.items + 1
      more = ap length standing ∙ length_push d.standing.items p

      at : (place : ℕ) (r : Cidr) → slice_get after.standing.items place ≡ Some r → (slice_get d.standing.items place ≡ Some r) ⊎ ((place ≡ length d.standing.items) × (p ≡ r))
      at place r there = pushed d.standing.items p place r (ap (λ (l : List Cidr). slice_get l place) (sym standing) ∙ there)

      first : (router place : ℕ) → slice_get after.firsts.items router ≡ Some (Some place) → place < length d.standing.items
      first router place e = draft.firsts router place (ap (λ (l : List (Option ℕ)). slice_get l router) (sym firsts) ∙ e)

      by_place : (number place : ℕ) (q r : Cidr) → ((slice_get seen number ≡ Some q) × (slice_get d.places.items number ≡ Some place)) ⊎ ((p ≡ q) × (length d.standing.items ≡ place))
          → (slice_get d.standing.items place ≡ Some r) ⊎ ((place ≡ length d.standing.items) × (p ≡ r)) → AreAlike routers tables r q
      by_place number place q r (inl h) (inl there) = draft.like number place q r h.0 h.1 there
      by_place number place q r (inl h) (inr t) = let lt = place_within number place h.1 in let same : place ≡ length d.standing.items = t.0 in absurd (omega arith)
      by_place number place q r (inr h) (inl there) = let lt = slice_get_within d.standing.items place r there in let same : length d.standing.items ≡ place = h.1 in absurd (omega arith)
      by_place number place q r (inr h) (inr t) = λ router. ap (begins routers tables router) (sym t.1 ∙ h.0)

      by_first : (router place : ℕ) (r : Cidr) → slice_get d.firsts.items router ≡ Some (Some place) → (slice_get d.standing.items place ≡ Some r) ⊎ ((place ≡ length d.standing.items) × (p ≡ r)) → BeginsAlone routers tables r router
      by_first router place r e (inl there) = draft.alone router place r e there
      by_first router place r e (inr t) = let lt = draft.firsts router place e in let same : place ≡ length d.standing.items = t.0 in absurd (omega arith)

  -- a prefix for which the first one stands that the same router begins alone
  pub joined : (router place : ℕ) → BeginsAlone routers tables p router → slice_get d.firsts.items router ≡ Some (Some place) → after.standing.items ≡ d.standing.items → after.places.items ≡ d.places.items ++ place ∷ [] → after.firsts.items ≡ d.firsts.items
      → IsDraft routers tables (seen ++ p ∷ []) after
  joined router place alone first standing places firsts = record {
    standing = subst Ascend (sym standing) draft.standing;
    from = subst (All (Contains (seen ++ p ∷ []))) (sym standing) kept;
    count = more_count place places;
    within = subst (λ (l : List Cidr). All (λ (k : ℕ). k < length l) after.places.items) (sym standing) (subst (All (λ (k : ℕ). k < length d.standing.items)) (sym places)
        (All-push (λ (k : ℕ). k < length d.standing.items) d.places.items place draft.within (draft.firsts router place first)));
    like = λ number own q r here known there. by_place number own q r (ap (λ (l : List Cidr). slice_get l own) (sym standing) ∙ there) (known_cases place places number own q here known);
    firsts = λ r own e. subst (λ (l : List Cidr). own < length l) (sym standing) (draft.firsts r own (ap (λ (l : List (Option ℕ)). slice_get l r) (sym firsts) ∙ e));
    alone = λ r own q e there. draft.alone r own q (ap (λ (l : List (Option ℕ)). slice_get l r) (sym firsts) ∙ e) (ap (λ (l : List Cidr). slice_get l own) (sym standing) ∙ there);
  }
    where
      by_place : (number own : ℕ) (q r : Cidr) → slice_get d.standing.items own ≡ Some r → ((slice_get seen number ≡ Some q) × (slice_get d.places.items number ≡ Some own)) ⊎ ((p ≡ q) × (place ≡ own)) → AreAlike routers tables r q
      by_place number own q r there (inl h) = draft.like number own q r h.0 h.1 there
      by_place number own q r there (inr h) = λ x.
          draft.alone router place r first (ap (slice_get d.standing.items) h.1 ∙ there) x ∙ sym (alone x) ∙ ap (begins routers tables x) h.0

-- from now on a prefix that a router begins alone stands for those that it begins alone
pub noted_first : (routers : List ConfigView) (tables : List (List BaseRow)) (seen : List Cidr) (p : Cidr) (d after : Draft) (router place : ℕ) → IsDraft routers tables seen d → BeginsAlone routers tables p router → slice_get d.standing.items place ≡ Some p
    → after.standing.items ≡ d.standing.items → after.places.items ≡ d.places.items → after.firsts.items ≡ set d.firsts.items router (Some place) → IsDraft routers tables seen after
noted_first routers tables seen p d after router place draft alone here standing places firsts = record {
  standing = subst Ascend (sym standing) draft.standing;
  from = subst (All (Contains seen)) (sym standing) draft.from;
  count = ap length places ∙ draft.count;
  within = subst (λ (l : List Cidr). All (λ (k : ℕ). k < length l) after.places.items) (sym standing) (subst (All (λ (k : ℕ). k < length d.standing.items)) (sym places) draft.within);
  like = λ number own q r seen_at known there. draft.like number own q r seen_at (ap (λ (l : List ℕ). slice_get l number) (sym places) ∙ known) (ap (λ (l : List Cidr). slice_get l own) (sym standing) ∙ there);
  firsts = λ r own e. subst (λ (l : List Cidr). own < length l) (sym standing) (within r own (cases r own e));
  alone = λ r own q e there. by_first r own q (ap (λ (l : List Cidr). slice_get l own) (sym standing) ∙ there) (cases r own e);
}
  where
    cases : (r own : ℕ) → slice_get after.firsts.items r ≡ Some (Some own) → ((r ≡ router) × (Some place ≡ Some own)) ⊎ ((r ≡ router → ⊥) × (slice_get d.firsts.items r ≡ Some (Some own)))
    cases r own e = set_cases d.firsts.items router r (Some place) (Some own) (ap (λ (l : List (Option ℕ)). slice_get l r) (sym firsts) ∙ e)

    within : (r own : ℕ) → ((r ≡ router) × (Some place ≡ Some own)) ⊎ ((r ≡ router → ⊥) × (slice_get d.firsts.items r ≡ Some (Some own))) → own < length d.standing.items
    within r own (inl h) = subst (λ (k : ℕ). k < length d.standing.items) (same_Some place own h.1) (slice_get_within d.standing.items place p here)
    within r own (inr h) = draft.firsts r own h.1

    by_first : (r own : ℕ) (q : Cidr) → slice_get d.standing.items own ≡ Some q → ((r ≡ router) × (Some place ≡ Some own)) ⊎ ((r ≡ router → ⊥) × (slice_get d.firsts.items r ≡ Some (Some own))) → BeginsAlone routers tables q r
    by_first r own q there (inl h) =
        let same : p ≡ q = same_Some p q (sym here ∙ ap (slice_get d.standing.items) (same_Some place own h.1) ∙ there) in
        subst (BeginsAlone routers tables q) (sym h.0) (subst (λ (x : Cidr). BeginsAlone routers tables x router) same alone)
    by_first r own q there (inr h) = draft.alone r own q h.1 there

-- the last of a list with one more
pub last_is : (xs : List Cidr) (y : Cidr) → slice_get (xs ++ y ∷ []) (length xs) ≡ Some y
last_is [] y = refl
last_is (x ∷ xs) y = last_is xs y

-- the first ones of prefixes in order are in order
pub up_to : (n : ℕ) (ps : List Cidr) → Ascend ps → Ascend (take n ps)
up_to n ps up i j d less lt =
    let long = length-take n ps in
    let first : get_or (take n ps) i d ≡ get_or ps i d = get_or-take n ps i d (omega arith) in
    let second : get_or (take n ps) j d ≡ get_or ps j d = get_or-take n ps j d (omega arith) in
    rw (first, second) (up i j d less (omega arith))
