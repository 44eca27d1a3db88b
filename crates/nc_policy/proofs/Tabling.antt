-- What is kept of maps and prefixes one by one is what the decisions of each map have.
use Rattle.std.proofs.Common.{◌≡◌, ℕ, zero, suc, ◌+◌, ◌<◌, Bool, true, false, cond, nat_eq, ◌&&◌, List, [], ◌∷◌, ◌++◌, length, set, get_or, Option, Some, None, IfSome, refl, sym, ap, subst, ◌∙◌, arith, inl, inr}
use Rattle.std.specs.Prelude.{position, slice_get, option_and_then}
use Rattle.std.specs.Map.{lookup}
use Rattle.std.specs.Option.{option_map, option_map_or, option_or}
use Rattle.std.proofs.lemmas.Bool.{cases_eq}
use Rattle.std.proofs.lemmas.Bool.Decides.{nat_tests}
use Rattle.std.proofs.lemmas.List.{get_or_append_left, get_or_push}
use Rattle.std.proofs.lemmas.List.Quantifiers.{position-Some}
use Rattle.std.proofs.lemmas.Option.{same_Some, slice_get-get_or, slice_get_cases, slice_get_within}
use Rattle.nc_types.specs.Cidr.{Cidr, same_prefix}
use Rattle.nc_types.specs.Config.{ConfigView}
use Rattle.nc_types.proofs.Sameness.{same_prefix_is}
use Rattle.nc_policy.specs.Best.{AreBest}
use Rattle.nc_policy.specs.Decisions.{decided_by, decision_or, decisions_on, kept_from, table_in, AreDecisionsOf, AreRight}
use Rattle.nc_policy.specs.Indexes.{placed_in, IsPrefixTable}
use Rattle.nc_policy.specs.Kept.{kept_at, same_asking, AreKept, IsDecided, IsUnmet}
use Rattle.nc_policy.specs.Views.{asked, map_names}
use Rattle.nc_policy.specs.declared.clauses.Candidate.{Candidate}
use Rattle.nc_policy.specs.declared.decisions.Decisions.{Decisions}
use Rattle.nc_policy.specs.declared.kept.Asked.{Asked}
use Rattle.nc_policy.specs.declared.kept.Asking.{Asking}
use Rattle.nc_policy.specs.declared.kept.Decided.{Decided}
use Rattle.nc_policy.proofs.Asking.{set_same, set_other}
use Rattle.nc_policy.proofs.Keeping.{decided_alike, is_decided, unmet_alike}

-- ---- one map

on_map : (ps : List (Cidr × ℕ)) (m : ℕ) (t : Decisions) (p : Cidr) → kept_at (decisions_on ps m t) m p ≡ option_map (decision_or t) (placed_in ps p)
on_map [] m t p = refl
on_map (e ∷ es) m t p =
    let own : nat_eq m m ≡ true = grind (arith, nat_tests) in
    ap (λ (b : Bool). cond (b && same_prefix p e.0) (Some (decision_or t e.1)) (kept_at (decisions_on es m t) m p)) own
    ∙ on (same_prefix p e.0) (on_map es m t p)
  where
    on : (b : Bool) → kept_at (decisions_on es m t) m p ≡ option_map (decision_or t) (placed_in es p)
        → cond b (Some (decision_or t e.1)) (kept_at (decisions_on es m t) m p) ≡ option_map (decision_or t) (cond b (Some e.1) (placed_in es p))
    on true rest = refl
    on false rest = rest

on_other : (ps : List (Cidr × ℕ)) (m n : ℕ) (t : Decisions) (p : Cidr) → nat_eq m n ≡ false → kept_at (decisions_on ps n t) m p ≡ None
on_other [] m n t p apart = refl
on_other (e ∷ es) m n t p apart =
    ap (λ (b : Bool). cond (b && same_prefix p e.0) (Some (decision_or t e.1)) (kept_at (decisions_on es n t) m p)) apart ∙ on_other es m n t p apart

-- ---- one map behind the other

joined : {K X : Type 0} (test : K → Bool) (xs ys : List (K × X)) → lookup test (xs ++ ys) ≡ option_or (lookup test xs) (lookup test ys)
joined test [] ys = refl
joined test (x ∷ xs) ys = on (test x.0) (joined test xs ys)
  where
    on : (b : Bool) → lookup test (xs ++ ys) ≡ option_or (lookup test xs) (lookup test ys) → cond b (Some x.1) (lookup test (xs ++ ys)) ≡ option_or (cond b (Some x.1) (lookup test xs)) (lookup test ys)
    on true rest = refl
    on false rest = rest

or_none : {X : Type 0} (o : Option X) → option_or o None ≡ o
or_none None = refl
or_none (Some x) = refl

-- what the decisions of a map say of a prefix
abbrev pub answer : List (Cidr × ℕ) → Cidr → Option Decisions → Option (Option Decided)
answer ps p table = option_and_then (λ t. option_map (decision_or t) (placed_in ps p)) table

abbrev of_one : List (Cidr × ℕ) → ℕ → Option Decisions → List (Asking × Option Decided)
of_one ps m table = option_map_or (decisions_on ps m) table []

one_is : (ps : List (Cidr × ℕ)) (m : ℕ) (p : Cidr) (table : Option Decisions) → kept_at (of_one ps m table) m p ≡ answer ps p table
one_is ps m p None = refl
one_is ps m p (Some t) = on_map ps m t p

other_is : (ps : List (Cidr × ℕ)) (m n : ℕ) (p : Cidr) (table : Option Decisions) → nat_eq m n ≡ false → kept_at (of_one ps n table) m p ≡ None
other_is ps m n p None apart = refl
other_is ps m n p (Some t) apart = on_other ps m n t p apart

-- a map is passed over at the places of others
passed : (ps : List (Cidr × ℕ)) (m n : ℕ) (p : Cidr) (a : Option Asked) (rest : List (Option Asked)) → nat_eq m n ≡ false → kept_at (kept_from ps n (a ∷ rest)) m p ≡ kept_at (kept_from ps (n + 1) rest) m p
passed ps m n p a rest apart =
    joined (same_asking (record { map = m; prefix = p })) (of_one ps n (table_in a)) (kept_from ps (n + 1) rest)
    ∙ ap (λ (o : Option (Option Decided)). option_or o (kept_at (kept_from ps (n + 1) rest) m p)) (other_is ps m n p (table_in a) apart)

none_before : (ps : List (Cidr × ℕ)) (maps : List (Option Asked)) (m n : ℕ) (p : Cidr) → m < n → kept_at (kept_from ps n maps) m p ≡ None
none_before ps [] m n p lt = refl
none_before ps (a ∷ rest) m n p lt =
    let apart : nat_eq m n ≡ false = grind (arith, nat_tests) in
    passed ps m n p a rest apart ∙ none_before ps rest m (n + 1) p (omega arith)

pub kept_is : (ps : List (Cidr × ℕ)) (maps : List (Option Asked)) (from j n : ℕ) (p : Cidr) → n ≡ from + j → kept_at (kept_from ps from maps) n p ≡ answer ps p (option_and_then table_in (slice_get maps j))
kept_is ps [] from j n p e = refl
kept_is ps (a ∷ rest) from zero n p e =
    let here : n ≡ from = omega arith in
    ap (λ (k : ℕ). kept_at (kept_from ps from (a ∷ rest)) k p) here
    ∙ joined (same_asking (record { map = from; prefix = p })) (of_one ps from (table_in a)) (kept_from ps (from + 1) rest)
    ∙ ap (option_or (kept_at (of_one ps from (table_in a)) from p)) (none_before ps rest from (from + 1) p (omega arith))
    ∙ or_none (kept_at (of_one ps from (table_in a)) from p)
    ∙ one_is ps from p (table_in a)
kept_is ps (a ∷ rest) from (suc j) n p e =
    let apart : nat_eq n from ≡ false = (let more : from < n = omega arith in grind (arith, nat_tests)) in
    passed ps n from p a rest apart ∙ kept_is ps rest (from + 1) j n p (omega arith)

-- of maps of which nothing is known nothing is kept
pub none_kept : (ps : List (Cidr × ℕ)) (maps : List (Option Asked)) (from : ℕ) → ((k : ℕ) (x : Option Asked) → slice_get maps k ≡ Some x → x ≡ None) → kept_from ps from maps ≡ []
none_kept ps [] from none = refl
none_kept ps (a ∷ rest) from none =
    ap (λ (x : Option Asked). of_one ps from (table_in x) ++ kept_from ps (from + 1) rest) (none 0 a refl)
    ∙ none_kept ps rest (from + 1) (λ k x at. none (suc k) x at)

-- ---- what is kept is right

module _ (c : ConfigView) (ps : List (Cidr × ℕ)) where
  -- one map more
  pub kept_more : (maps : List (Option Asked)) (m : ℕ) (x : Option Asked) (mine : List ℕ) → m < length maps → slice_get (map_names c) m ≡ Some mine → IfSome (table_in x) (AreRight c mine ps)
      → AreKept c (kept_from ps 0 maps) → AreKept c (kept_from ps 0 (set maps m x))
  kept_more maps m x mine lt own right before = record {
    right = λ n name p d at found held unmet. elim (cases_eq n m) [
      | inl same ↦
          let one : mine ≡ name = same_Some mine name (sym own ∙ ap (slice_get (map_names c)) (sym same) ∙ at) in
          let there : answer ps p (table_in x) ≡ Some d =
          sym (kept_is ps (set maps m x) 0 n n p (omega arith) ∙ ap (λ (o : Option (Option Asked)). answer ps p (option_and_then table_in o)) (ap (slice_get (set maps m x)) same ∙ set_same maps m x lt)) ∙ found in
          subst (λ (q : List ℕ). IsUnmet c q held → IsDecided c q (asked p held) d) one (by_table p d held (table_in x) right there) unmet
      | inr other ↦
          before.right n name p d at
          (kept_is ps maps 0 n n p (omega arith) ∙ ap (λ (o : Option (Option Asked)). answer ps p (option_and_then table_in o)) (sym (set_other maps m n x other)) ∙ sym (kept_is ps (set maps m x) 0 n n p (omega arith)) ∙ found)
          held unmet
    ];
  }
    where
      by_place : (p : Cidr) (d : Option Decided) (held : List ℕ) (t : Decisions) → AreRight c mine ps t → (o : Option ℕ) → placed_in ps p ≡ o → option_map (decision_or t) o ≡ Some d → IsUnmet c mine held → IsDecided c mine (asked p held) d
      by_place p d held t right None is e = absurd (cc)
      by_place p d held t right (Some number) is e = λ unmet. subst (λ (y : Option Decided). IsDecided c mine (asked p held) y) (same_Some (decision_or t number) d e) (right p number is held unmet)

      by_table : (p : Cidr) (d : Option Decided) (held : List ℕ) (o : Option Decisions) → IfSome o (AreRight c mine ps) → answer ps p o ≡ Some d → IsUnmet c mine held → IsDecided c mine (asked p held) d
      by_table p d held None right e = absurd (cc)
      by_table p d held (Some t) right e = by_place p d held t right (placed_in ps p) refl e

  -- what the decisions of a map say is right
  pub answer_right : (maps : List (Option Asked)) (m : ℕ) (name : List ℕ) (a : Option Asked) (t : Decisions) (p : Cidr) (o : Option (Option Decided)) → AreKept c (kept_from ps 0 maps)
      → slice_get (map_names c) m ≡ Some name → slice_get maps m ≡ Some a → table_in a ≡ Some t → IfSome o (λ d. option_map (decision_or t) (placed_in ps p) ≡ Some d)
      → (held : List ℕ) → IsUnmet c name held → IfSome o (IsDecided c name (asked p held))
  answer_right maps m name a t p None are own at table found held unmet = tt
  answer_right maps m name a t p (Some d) are own at table found held unmet =
      are.right m name p d own
      (kept_is ps maps 0 m m p (omega arith) ∙ ap (λ (o : Option (Option Asked)). answer ps p (option_and_then table_in o)) at ∙ ap (answer ps p) table ∙ found)
      held unmet

-- the decisions of the best clauses are right
pub right_of : (c : ConfigView) (name : List ℕ) (prefixes : List Cidr) (best : List (Option Candidate)) (t : Decisions) → IsUnmet c name [] → length best ≡ length prefixes → AreBest c name prefixes best → AreDecisionsOf best t
    → (ps : List (Cidr × ℕ)) → IsPrefixTable prefixes ps → AreRight c name ps t
right_of c name prefixes best t bare count are table ps is p number at held unmet =
    let found : position (λ q. same_prefix q p) prefixes ≡ Some number = sym (is.first p) ∙ at in
    let read = position-Some (λ q. same_prefix q p) prefixes number p found in
    let q = get_or prefixes number p in
    let there : slice_get prefixes number ≡ Some q = slice_get-get_or prefixes number p read.0 in
    let same : q ≡ p = same_prefix_is q p read.1 in
    let here = λ (b : Option Candidate) (own : slice_get best number ≡ Some b).
    let known : IsDecided c name (asked q []) (decided_by b) = is_decided c name (asked q []) b (are.deciding number q b there own) (are.matching number q b there own) in
    subst (λ (d : Option Decided). IsDecided c name (asked p held) d) (sym (table number b own))
    (decided_alike c name (asked p []) (asked p held) (unmet_alike c name held bare unmet p) (decided_by b) (subst (λ (r : Cidr). IsDecided c name (asked r []) (decided_by b)) same known)) in
    elim (slice_get_cases best number).1 [
      | inl some ↦ here some.0 some.2
      | inr none ↦ absurd (omega (arith, none.0, count, read.0))
    ]

-- ---- the decisions of clauses, each once

-- the places of the prefixes before a number are those of their decisions
abbrev pub ArePlaces : List (Option Candidate) → List (Option Decided) → List ℕ → ℕ → Type 0
ArePlaces best each places n = (j : ℕ) (b : Option Candidate) → j < n → slice_get best j ≡ Some b → slice_get each (get_or places j 0) ≡ Some (decided_by b)

pub one_place_more : (best : List (Option Candidate)) (old each : List (Option Decided)) (places : List ℕ) (n place : ℕ) (b : Option Candidate) → length places ≡ n → slice_get best n ≡ Some b → slice_get each place ≡ Some (decided_by b)
    → ((k : ℕ) → k < length old → slice_get each k ≡ slice_get old k) → ArePlaces best old places n → ArePlaces best each (places ++ place ∷ []) (n + 1)
one_place_more best old each places n place b count at own kept before j x lt got = elim (cases_eq j n) [
  | inl same ↦
      let one : b ≡ x = same_Some b x (sym at ∙ ap (slice_get best) (sym same) ∙ got) in
      ap (λ (k : ℕ). slice_get each (get_or (places ++ place ∷ []) k 0)) same
      ∙ ap (slice_get each) (get_or_push places place 0 n count)
      ∙ own ∙ ap (λ (y : Option Candidate). Some (decided_by y)) one
  | inr other ↦
      let less : j < n = omega arith in
      let was = before j x less got in
      ap (slice_get each) (get_or_append_left places (place ∷ []) 0 j (omega arith))
      ∙ kept (get_or places j 0) (slice_get_within old (get_or places j 0) (decided_by x) was) ∙ was
]
