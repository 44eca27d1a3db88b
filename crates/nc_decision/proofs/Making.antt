-- What is made of items one by one.
use Rattle.std.proofs.Common.{◌≡◌, ◌≢◌, ℕ, suc, ◌+◌, ◌<◌, ◌≤◌, ◌++◌, Bool, true, false, cond, ◌&&◌, List, [], ◌∷◌, drop, length, get_or, All, Option, Some, None, refl, sym, ap, subst, ◌∙◌, arith, add-one, append_assoc, inl, inr}
use Rattle.std.specs.Prelude.{position}
use Rattle.std.specs.List.{AllPairs, position_from}
use Rattle.std.specs.Option.{option_map_or}
use Rattle.std.proofs.lemmas.Iterator.Adapters.{position_from-zero}
use Rattle.std.proofs.lemmas.List.Elements.{All-nil, All-cons}
use Rattle.std.proofs.lemmas.Option.{slice_get_cases}
use Rattle.nc_types.specs.Cidr.{Cidr}
use Rattle.nc_types.specs.declared.config.AggregateStatement.{AggregateStatement}
use Rattle.nc_types.proofs.Members.{In, contains_by_in}
use Rattle.nc_types.proofs.Sameness.{same_prefix_is}
use Rattle.nc_types.proofs.Walks.{drop_read}
use Rattle.nc_tables.specs.Base.{same_prefix}
use Rattle.nc_tables.specs.declared.bgp.BgpFrom.TheVariants.{Aggregate}
use Rattle.nc_tables.specs.Rounds.{BgpRowView, begun, has_longer, made_from}

-- an item within a list
pub read_within : {Y : Type 0} (ys : List Y) (k : ℕ) → k < length ys → (y : Y) × (y ≡ get_or ys k y)
read_within ys k lt = elim (slice_get_cases ys k).1 [
  | inl r ↦ (r.0, sym r.3)
  | inr r ↦ let past : length ys ≤ k = r.0 in absurd (omega arith)
]

module _ {X Y : Type 0} (make : ℕ → Y → Option X) where
  -- what the rest makes, one item on
  pub one_on : (ys : List Y) (k : ℕ) (y : Y) → y ≡ get_or ys k y → k < length ys
      → made_from make k (drop k ys) ≡ option_map_or (λ x. x ∷ made_from make (k + 1) (drop (k + 1) ys)) (make k y) (made_from make (k + 1) (drop (k + 1) ys))
  one_on ys k y read lt =
      ap (made_from make k) (drop_read ys k y read lt)
      ∙ ap (λ (n : ℕ). option_map_or (λ x. x ∷ made_from make n (drop (k + 1) ys)) (make k y) (made_from make n (drop (k + 1) ys))) (sym (add-one k))

  module _ (ys : List Y) (k : ℕ) (y : Y) (read : y ≡ get_or ys k y) (lt : k < length ys) (items total : List X) (so_far : items ++ made_from make k (drop k ys) ≡ total) where
    -- an item makes one
    pub makes_one : (x : X) (pushed : List X) → make k y ≡ Some x → pushed ≡ items ++ x ∷ [] → pushed ++ made_from make (k + 1) (drop (k + 1) ys) ≡ total
    makes_one x pushed makes push =
        let rest = made_from make (k + 1) (drop (k + 1) ys) in
        ap (λ (l : List X). l ++ rest) push ∙ append_assoc items (x ∷ []) rest
        ∙ ap (λ (l : List X). items ++ l) (sym (one_on ys k y read lt ∙ ap (λ (o : Option X). option_map_or (λ x. x ∷ rest) o rest) makes)) ∙ so_far

    -- or none
    pub makes_none : make k y ≡ None → items ++ made_from make (k + 1) (drop (k + 1) ys) ≡ total
    makes_none makes =
        let rest = made_from make (k + 1) (drop (k + 1) ys) in
        ap (λ (l : List X). items ++ l) (sym (one_on ys k y read lt ∙ ap (λ (o : Option X). option_map_or (λ x. x ∷ rest) o rest) makes)) ∙ so_far

-- ---- of items of which one at most passes

module _ {X Y : Type 0} (test : Y → Bool) (holds : Bool) (f : ℕ → X) where
  abbrev of_passing : ℕ → Y → Option X
  of_passing place y = cond (test y && holds) (Some (f place)) None

  of_none : (k : ℕ) (ys : List Y) → ((z : Y) → In z ys → test z ≡ false) → made_from of_passing k ys ≡ []
  of_none k [] none = refl
  of_none k (y ∷ ys) none =
      ap (λ (b : Bool). option_map_or (λ x. x ∷ made_from of_passing (suc k) ys) (cond (b && holds) (Some (f k)) None) (made_from of_passing (suc k) ys)) (none y (inl refl))
      ∙ of_none (suc k) ys (λ z i. none z (inr i))

  -- what the first that passes makes
  abbrev of_first : Option ℕ → List X
  of_first o = option_map_or (λ k. cond holds (f k ∷ []) []) o []

  single_from : (k : ℕ) (ys : List Y) → AllPairs (λ y z. test y ≡ true → test z ≡ false) ys → made_from of_passing k ys ≡ of_first (position_from test k ys)
  single_from k [] single = refl
  single_from k (y ∷ ys) single = on (test y) refl (single_from (suc k) ys (λ i j d lt within. single (suc i) (suc j) d (omega arith) (omega arith)))
    where
      later : test y ≡ true → (z : Y) → In z ys → test z ≡ false
      later is z i =
          let at = contains_by_in ys z i in
          ap test (sym at.2) ∙ single 0 (suc at.0) z (omega arith) (let lt : at.0 < length ys = at.1 in omega arith) is

      one : (h : Bool) (rest : List X) → rest ≡ [] → option_map_or (λ x. x ∷ rest) (cond h (Some (f k)) None) rest ≡ cond h (f k ∷ []) []
      one true rest none = ap (λ (l : List X). f k ∷ l) none
      one false rest none = none

      on : (b : Bool) → test y ≡ b → made_from of_passing (suc k) ys ≡ of_first (position_from test (suc k) ys)
          → option_map_or (λ x. x ∷ made_from of_passing (suc k) ys) (cond (b && holds) (Some (f k)) None) (made_from of_passing (suc k) ys) ≡ of_first (cond b (Some k) (position_from test (k + 1) ys))
      on true is rest = one holds (made_from of_passing (suc k) ys) (of_none (suc k) ys (later is))
      on false is rest = rest ∙ ap (λ (n : ℕ). of_first (position_from test n ys)) (sym (add-one k))

  pub single_made : (ys : List Y) → AllPairs (λ y z. test y ≡ true → test z ≡ false) ys → made_from of_passing 0 ys ≡ of_first (position test ys)
  single_made ys single = single_from 0 ys single ∙ sym (ap of_first (position_from-zero test ys))

-- ---- how many, and what holds of each

pub made_fewer : {X Y : Type 0} (make : ℕ → Y → Option X) (k : ℕ) (ys : List Y) → length (made_from make k ys) ≤ length ys
made_fewer make k [] = omega arith
made_fewer {X} make k (y ∷ ys) = on (make k y) (made_fewer make (suc k) ys)
  where
    on : (o : Option X) → length (made_from make (suc k) ys) ≤ length ys → length (option_map_or (λ x. x ∷ made_from make (suc k) ys) o (made_from make (suc k) ys)) ≤ length (y ∷ ys)
    on None few = omega arith
    on (Some x) few = omega arith

pub made_all : {X Y : Type 0} (P : X → Type 0) (make : ℕ → Y → Option X) → ((k : ℕ) (y : Y) (x : X) → make k y ≡ Some x → P x) → (k : ℕ) (ys : List Y) → All P (made_from make k ys)
made_all P make each k [] = All-nil P
made_all {X} P make each k (y ∷ ys) = on (make k y) refl (made_all P make each (suc k) ys)
  where
    on : (o : Option X) → make k y ≡ o → All P (made_from make (suc k) ys) → All P (option_map_or (λ x. x ∷ made_from make (suc k) ys) o (made_from make (suc k) ys))
    on None is rest = rest
    on (Some x) is rest = All-cons P x (made_from make (suc k) ys) (each k y x is) rest

-- the same is made by two that agree
pub made_alike : {X Y : Type 0} (make other : ℕ → Y → Option X) → ((k : ℕ) (y : Y) → make k y ≡ other k y) → (k : ℕ) (ys : List Y) → made_from make k ys ≡ made_from other k ys
made_alike make other same k [] = refl
made_alike {X} make other same k (y ∷ ys) =
    ap (λ (o : Option X). option_map_or (λ x. x ∷ made_from make (suc k) ys) o (made_from make (suc k) ys)) (same k y)
    ∙ ap (λ (l : List X). option_map_or (λ x. x ∷ l) (other k y) l) (made_alike make other same (suc k) ys)

pub kept_all : {X Y : Type 0} (P : X → Type 0) (test : Y → Bool) (holds : Bool) (f : ℕ → X) → ((k : ℕ) → P (f k)) → (ys : List Y) → All P (made_from (λ k y. cond (test y && holds) (Some (f k)) None) 0 ys)
kept_all {X} {Y} P test holds f each ys = made_all P (λ k y. cond (test y && holds) (Some (f k)) None) (λ k y x. on (test y && holds) k x) 0 ys
  where
    on : (b : Bool) (k : ℕ) (x : X) → cond b (Some (f k)) None ≡ Some x → P x
    on true k x e = let same : f k ≡ x = cc in subst P same (each k)
    on false k x e = absurd cc

-- items of distinct prefixes: one at most has a prefix
pub one_has : {Y : Type 0} (prefix_of : Y → Cidr) (p : Cidr) (ys : List Y) → AllPairs (λ y z. prefix_of y ≢ prefix_of z) ys → AllPairs (λ y z. same_prefix (prefix_of y) p ≡ true → same_prefix (prefix_of z) p ≡ false) ys
one_has {Y} prefix_of p ys apart i j d lt within is = on (same_prefix (prefix_of (get_or ys j d)) p) refl
  where
    on : (b : Bool) → same_prefix (prefix_of (get_or ys j d)) p ≡ b → b ≡ false
    on true too = absurd (apart i j d lt within (same_prefix_is (prefix_of (get_or ys i d)) p is ∙ sym (same_prefix_is (prefix_of (get_or ys j d)) p too)))
    on false no_other = refl

-- an aggregate of a prefix is active where a longer prefix inside it has something chosen
pub active_alike : (rows : List BgpRowView) (p : Cidr) (place : ℕ) (a : AggregateStatement)
    → cond (same_prefix a.prefix p && has_longer rows p) (Some (begun p (Aggregate place))) None ≡ cond (same_prefix a.prefix p && has_longer rows a.prefix) (Some (begun p (Aggregate place))) None
active_alike rows p place a = on (same_prefix a.prefix p) refl
  where
    on : (b : Bool) → same_prefix a.prefix p ≡ b → cond (b && has_longer rows p) (Some (begun p (Aggregate place))) None ≡ cond (b && has_longer rows a.prefix) (Some (begun p (Aggregate place))) None
    on true is = ap (λ (q : Cidr). cond (has_longer rows q) (Some (begun p (Aggregate place))) None) (sym (same_prefix_is a.prefix p is))
    on false is = refl
