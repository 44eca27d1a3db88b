-- What is kept of maps, for routes whose communities meet no clause that asks for some.
use Rattle.std.proofs.Common.{◌≡◌, ℕ, zero, suc, ◌+◌, ◌<◌, Bool, true, false, cond, nat_eq, nat_lt, ◌&&◌, ◌||◌, not, List, [], ◌∷◌, length, map, drop, filter, Option, Some, None, IfSome, refl, sym, ap, subst, ◌∙◌, arith}
use Rattle.std.specs.Prelude.{position, slice_get, option_and_then, is_some}
use Rattle.std.proofs.lemmas.Bool.Decides.{nat_tests}
use Rattle.std.proofs.lemmas.Iterator.Adapters.{position_from-zero}
use Rattle.std.proofs.lemmas.List.{drop-drop}
use Rattle.nc_policy.proofs.Deciding.{first_left, named_at}
use Rattle.std.specs.List.{list_any}
use Rattle.std.specs.Option.{option_map, option_map_or, ForSome}
use Rattle.std.specs.Str.{bytes_eq}
use Rattle.nc_types.specs.Cidr.{Cidr}
use Rattle.nc_types.specs.Config.{ClauseView, ConfigView, clause_view}
use Rattle.nc_types.specs.declared.config.Reference.{Reference}
use Rattle.nc_policy.specs.Passing.{map_place}
use Rattle.nc_tables.specs.declared.policy.Names.{Names}
use Rattle.nc_tables.specs.declared.policy.Place.{Place}
use Rattle.nc_tables.specs.Policy.{Placed, placed_from, least, met, prefix_place, community_place, names_of, is_matching, deciding}
use Rattle.nc_tables.specs.declared.bgp.Route.{Route}
use Rattle.nc_policy.proofs.Permitting.{position_map}
use Rattle.nc_policy.specs.Indexes.{place_from}
use Rattle.nc_policy.specs.Views.{asked, candidate_view, map_names, IsCandidate}
use Rattle.nc_policy.specs.Decisions.{decided_by}
use Rattle.nc_policy.specs.Kept.{asks, kept_at, lists_prefixes, AreKept, IsDecided, IsUnmet}
use Rattle.nc_policy.specs.declared.clauses.Candidate.{Candidate}
use Rattle.nc_policy.specs.declared.kept.Asking.{Asking}
use Rattle.nc_policy.specs.declared.kept.Decided.{Decided}

no_length : {X : Type 0} (xs : List X) → not (nat_eq (length xs) 0) ≡ false → xs ≡ []
no_length [] e = refl
no_length (x ∷ xs) e = absurd (grind (arith, nat_tests))

-- the entries by which a clause matches, of what prefixes and communities meet
abbrev names_by : Option (Option Place) → Option (Option Place) → Option Names
names_by entry community = option_and_then (λ (entry : Option Place). option_map (λ (community : Option Place). record { entry = entry; community = community }) community) entry

-- two routes of which each clause of a map says the same
abbrev pub AreAlike : ConfigView → List ℕ → Route → Route → Type 0
AreAlike c name r s = (j : ℕ) (k : ClauseView) → slice_get c.clauses j ≡ Some k → bytes_eq name k.map_name ≡ true → names_of c r k ≡ names_of c s k

module _ (c : ConfigView) (name : List ℕ) (held : List ℕ) (bare : IsUnmet c name []) (unmet : IsUnmet c name held) where
  -- a clause of the map is met alike by both, in what it asks of communities
  met_alike : (j : ℕ) (k : ClauseView) → slice_get c.clauses j ≡ Some k → bytes_eq name k.map_name ≡ true → met (community_place c []) k.community_lists ≡ met (community_place c held) k.community_lists
  met_alike j k at named = on (not (nat_eq (length k.community_lists) 0)) refl
    where
      on : (b : Bool) → not (nat_eq (length k.community_lists) 0) ≡ b → met (community_place c []) k.community_lists ≡ met (community_place c held) k.community_lists
      on true is =
          let asked : asks name k ≡ true = ap (λ (b : Bool). b && bytes_eq name k.map_name) is ∙ named in
          bare j k at asked ∙ sym (unmet j k at asked)
      on false is =
          let none = no_length k.community_lists is in
          ap (met (community_place c [])) none ∙ sym (ap (met (community_place c held)) none)

  pub unmet_alike : (p : Cidr) → AreAlike c name (asked p []) (asked p held)
  unmet_alike p j k at named = ap (names_by (met (prefix_place c p) k.lists)) (met_alike j k at named)

  -- and any prefix, where the map names no prefix list
  pub flat_alike : (p q : Cidr) → ((j : ℕ) (k : ClauseView) → slice_get c.clauses j ≡ Some k → lists_prefixes name k ≡ false) → AreAlike c name (asked p []) (asked q held)
  flat_alike p q none j k at named =
      let own : k.lists ≡ [] = no_length k.lists (both (not (nat_eq (length k.lists) 0)) (ap (λ (b : Bool). not (nat_eq (length k.lists) 0) && b) (sym named) ∙ none j k at)) in
      ap (λ (o : Option (Option Place)). names_by o (met (community_place c []) k.community_lists)) (ap (met (prefix_place c p)) own ∙ sym (ap (met (prefix_place c q)) own))
      ∙ ap (names_by (met (prefix_place c q) k.lists)) (met_alike j k at named)
    where
      both : (a : Bool) → (a && true) ≡ false → a ≡ false
      both true e = e
      both false e = refl

module _ (c : ConfigView) (name : List ℕ) (r s : Route) (alike : AreAlike c name r s) where
  abbrev passes : Route → Placed → Bool
  passes r k = bytes_eq name k.clause.map_name && is_matching c r k.clause

  passes_alike : (place : ℕ) (k : ClauseView) → slice_get c.clauses place ≡ Some k → passes r (record { place = place; clause = k }) ≡ passes s (record { place = place; clause = k })
  passes_alike place k at = on (bytes_eq name k.map_name) refl
    where
      on : (b : Bool) → bytes_eq name k.map_name ≡ b → passes r (record { place = place; clause = k }) ≡ passes s (record { place = place; clause = k })
      on false is = ap (λ (b : Bool). b && is_matching c r k) is ∙ sym (ap (λ (b : Bool). b && is_matching c s k) is)
      on true is = ap (λ (o : Option Names). bytes_eq name k.map_name && is_some o) (alike place k at is)

  all_alike : (ks : List ClauseView) (from : ℕ) → ks ≡ drop from c.clauses → filter (passes r) (placed_from from ks) ≡ filter (passes s) (placed_from from ks)
  all_alike [] from e = refl
  all_alike (k ∷ ks) from e =
      let this : Placed = record { place = from; clause = k } in
      let more = filter (passes r) (placed_from (from + 1) ks) in
      ap (λ (b : Bool). cond b (this ∷ more) more) (passes_alike from k (first_left c.clauses from k ks e))
      ∙ ap (λ (more : List Placed). cond (passes s this) (this ∷ more) more) (all_alike ks (from + 1) (ap (drop 1) e ∙ drop-drop 1 from c.clauses))

  -- a map decides the same on both
  pub decides_alike : deciding c name r ≡ deciding c name s
  decides_alike = ap least (all_alike c.clauses 0 refl)

-- ---- the clause that decides

-- it is one of those that pass
least_passes : (test : Placed → Bool) (xs : List Placed) (k : Placed) → least (filter test xs) ≡ Some k → test k ≡ true
least_passes test [] k e = absurd (cc)
least_passes test (x ∷ xs) k e = on (test x) refl (least_passes test xs) e
  where
    among : (o : Option Placed) → ((j : Placed) → o ≡ Some j → test j ≡ true) → test x ≡ true → Some (option_map_or (λ other. cond (nat_lt other.clause.number x.clause.number) other x) o x) ≡ Some k → test k ≡ true
    among None rest own e = let same : x ≡ k = cc in subst (λ (y : Placed). test y ≡ true) same own
    among (Some other) rest own e = lower (nat_lt other.clause.number x.clause.number) e
      where
        lower : (b : Bool) → Some (cond b other x) ≡ Some k → test k ≡ true
        lower true e = let same : other ≡ k = cc in rest k (ap (λ (y : Placed). Some y) same)
        lower false e = let same : x ≡ k = cc in subst (λ (y : Placed). test y ≡ true) same own

    on : (b : Bool) → test x ≡ b → ((j : Placed) → least (filter test xs) ≡ Some j → test j ≡ true) → least (cond b (x ∷ filter test xs) (filter test xs)) ≡ Some k → test k ≡ true
    on true is rest e = among (least (filter test xs)) rest is e
    on false is rest e = rest k e

-- so it has the name of the map
pub has_name : (c : ConfigView) (name : List ℕ) (r : Route) (k : Placed) → deciding c name r ≡ Some k → bytes_eq name k.clause.map_name ≡ true
has_name c name r k e = on (bytes_eq name k.clause.map_name) (is_matching c r k.clause) (least_passes (λ (k : Placed). bytes_eq name k.clause.map_name && is_matching c r k.clause) (placed_from 0 c.clauses) k e)
  where
    on : (a b : Bool) → (a && b) ≡ true → a ≡ true
    on true b e = refl
    on false b e = e

-- what is so of a value is so of the one that an option holds
pub for_some : {T : Type 0} (P : T → Type 0) (d : T) → P d → ForSome (Some d) P
for_some P d is = λ x e. let one : d ≡ x = cc in subst P one is

-- and of the one that it is known to hold
pub some_is : {T : Type 0} (P : T → Type 0) (o : Option T) → IfSome o P → (x : T) → o ≡ Some x → P x
some_is P o is x e = subst (λ (o : Option _). IfSome o P) e is

pub for_if : {T : Type 0} (P : T → Type 0) (o : Option T) → IfSome o P → ForSome o P
for_if P None is = λ x e. absurd (cc)
for_if P (Some d) is = for_some P d is

pub is_decided : (c : ConfigView) (name : List ℕ) (r : Route) (found : Option Candidate) → option_map candidate_view found ≡ deciding c name r → IfSome found (IsCandidate c r) → IsDecided c name r (decided_by found)
is_decided c name r None decides is = record { none = λ e. decides; within = λ x e. absurd (cc); decides = λ x e. absurd (cc); names = λ x e. absurd (cc) }
is_decided c name r (Some found) decides is = record {
  none = λ e. absurd (cc);
  within = for_some (λ (x : Decided). x.place < length c.clauses) kept is.within;
  decides = for_some (λ (x : Decided). (k : ClauseView) → slice_get c.clauses x.place ≡ Some k → Some (record { place = x.place; clause = k }) ≡ deciding c name r) kept
      (λ k at. ap (λ (x : ClauseView). Some (placed x)) (same k at) ∙ decides);
  names = for_some (λ (x : Decided). (k : ClauseView) → slice_get c.clauses x.place ≡ Some k → Some x.names ≡ names_of c r k) kept (λ k at. is.names ∙ ap (names_of c r) (sym (same k at)));
}
  where
    kept : Decided
    kept = record { place = found.place; names = found.names }

    placed : ClauseView → Placed
    placed k = record { place = found.place; clause = k }

    same : (k : ClauseView) → slice_get c.clauses found.place ≡ Some k → k ≡ clause_view found.clause.now
    same k at = let one : Some k ≡ Some (clause_view found.clause.now) = sym at ∙ is.own in cc

-- what a map decides on one of two routes it decides on the other, where its clauses say the same of both
pub decided_alike : (c : ConfigView) (name : List ℕ) (r s : Route) → AreAlike c name r s → (d : Option Decided) → IsDecided c name r d → IsDecided c name s d
decided_alike c name r s alike None is = record { none = λ e. is.none e ∙ decides_alike c name r s alike; within = λ x e. absurd (cc); decides = λ x e. absurd (cc); names = λ x e. absurd (cc) }
decided_alike c name r s alike (Some d) is = record {
  none = λ e. absurd (cc);
  within = is.within;
  decides = for_some (λ (x : Decided). (k : ClauseView) → slice_get c.clauses x.place ≡ Some k → Some (record { place = x.place; clause = k }) ≡ deciding c name s) d
      (λ k at. is.decides d refl k at ∙ decides_alike c name r s alike);
  names = for_some (λ (x : Decided). (k : ClauseView) → slice_get c.clauses x.place ≡ Some k → Some x.names ≡ names_of c s k) d
      (λ k at. is.names d refl k at ∙ alike d.place k at (has_name c name r (record { place = d.place; clause = k }) (sym (is.decides d refl k at))));
}

-- no clause passes a test that none of all does
pub none_passes : {X Y : Type 0} (view : X → Y) (test : Y → Bool) (xs : List X) → list_any (λ x. test (view x)) xs ≡ false → (j : ℕ) (y : Y) → slice_get (map view xs) j ≡ Some y → test y ≡ false
none_passes view test [] e j y at = absurd (cc)
none_passes view test (x ∷ xs) e zero y at =
    let same : view x ≡ y = cc in
    ap test (sym same) ∙ on (test (view x)) (list_any (λ x. test (view x)) xs) e
  where
    on : (a b : Bool) → (a || b) ≡ false → a ≡ false
    on true b e = e
    on false b e = refl
none_passes view test (x ∷ xs) e (suc j) y at = none_passes view test xs (on (test (view x)) (list_any (λ x. test (view x)) xs) e) j y at
  where
    on : (a b : Bool) → (a || b) ≡ false → b ≡ false
    on true b e = cc
    on false b e = e

-- ---- clauses that ask for communities

-- one that isn't met in what it asks matches no route
pub unmet_names : (c : ConfigView) (p : Cidr) (held : List ℕ) (k : ClauseView) → met (community_place c held) k.community_lists ≡ None → names_of c (asked p held) k ≡ None
unmet_names c p held k e = ap (names_by (met (prefix_place c p) k.lists)) e ∙ on (met (prefix_place c p) k.lists)
  where
    on : (o : Option (Option Place)) → names_by o None ≡ None
    on None = refl
    on (Some entry) = refl

-- a clause of a map that asks for none matches with any as without
pub bare_alike : (c : ConfigView) (name : List ℕ) (p : Cidr) (held : List ℕ) (k : ClauseView) → asks name k ≡ false → bytes_eq name k.map_name ≡ true → names_of c (asked p []) k ≡ names_of c (asked p held) k
bare_alike c name p held k e named =
    let own : k.community_lists ≡ [] = no_length k.community_lists (both (not (nat_eq (length k.community_lists) 0)) (ap (λ (b : Bool). not (nat_eq (length k.community_lists) 0) && b) (sym named) ∙ e)) in
    ap (names_by (met (prefix_place c p) k.lists)) (ap (met (community_place c [])) own ∙ sym (ap (met (community_place c held)) own))
  where
    both : (a : Bool) → (a && true) ≡ false → a ≡ false
    both true e = e
    both false e = refl

-- ---- the table

-- nothing is kept
pub nothing_kept : (c : ConfigView) (kept : List (Asking × Option Decided)) → kept ≡ [] → AreKept c kept
nothing_kept c kept e = record { right = λ m name p d at found held unmet. absurd (let none : None ≡ Some d = sym (ap (λ (ks : List (Asking × Option Decided)). kept_at ks m p) e) ∙ found in cc) }

-- the first of a name has it
pub first_named : (names : List (List ℕ)) (name : List ℕ) (o : Option ℕ) (k : ℕ) → o ≡ position (bytes_eq name) names → o ≡ Some k → slice_get names k ≡ Some name
first_named names name o k found is = named_at name names 0 k (sym (position_from-zero (bytes_eq name) names) ∙ sym found ∙ is)

-- the first clause of a map by the names of the clauses' maps
pub first_placed : (c : ConfigView) (name : List ℕ) → place_from name 0 (map_names c) ≡ position (λ (k : ClauseView). bytes_eq name k.map_name) c.clauses
first_placed c name = sym (position_from-zero (bytes_eq name) (map_names c)) ∙ position_map (λ (k : ClauseView). k.map_name) (bytes_eq name) c.clauses

-- where the map of a statement stands
pub map_stands : (c other : ConfigView) (m : Option Reference) (reference : Reference) (name : List ℕ) (o : Option ℕ) → c ≡ other → m ≡ Some reference → name ≡ reference.name
    → o ≡ place_from name 0 (map_names c) → o ≡ map_place other m
map_stands c other m reference name o same is named found =
    found ∙ first_placed c name ∙ ap (λ (n : List ℕ). position (λ (k : ClauseView). bytes_eq n k.map_name) c.clauses) named
    ∙ ap (λ (k : ConfigView). map_place k (Some reference)) same ∙ ap (map_place other) (sym is)

-- a clause whose prefix lists don't permit a prefix matches no route of it
pub unmatched : (c : ConfigView) (p : Cidr) (held : List ℕ) (k : ClauseView) → met (prefix_place c p) k.lists ≡ None → is_matching c (asked p held) k ≡ false
unmatched c p held k e = ap (λ (o : Option (Option Place)). is_some {T = Names} (option_and_then (λ (entry : Option Place). option_map (λ (community : Option Place). record { entry = entry; community = community }) (met (community_place c held) k.community_lists)) o)) e
