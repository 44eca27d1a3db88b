-- Each configuration that a file's lines make is well formed.
use Rattle.std.proofs.Common.{◌≡◌, ℕ, ◌<◌, ◌≤◌, true, List, [], ◌∷◌, length, map, Option, Some, None, Result, Ok, Err, refl, sym, ap, subst, arith, inl, inr}
use Rattle.std.specs.Prelude.{◌≢◌, ◌⊎◌, All, Contains, IfSome, slice_index_or}
use Rattle.std.specs.List.{AllPairs, flat_map, last_or}
use Rattle.std.specs.List.Sorted.{IsStrictlyIncreasing}
use Rattle.std.specs.Option.{option_map_or}
use Rattle.std.proofs.lemmas.Bool.{cases_order}
use Rattle.nc_types.proofs.Members.{in_by_contains, all_by_in, in_by_map, in_by_flat_map}
use Rattle.nc_types.specs.Config.{ElementView, ProcessView, ClauseView, PrefixListView, CommunityListView, ConfigView}
use Rattle.nc_types.specs.WellFormed.{is_name, places_of, IsProcess, IsElement, first_line, IsWellFormed}
use Rattle.nc_types.specs.Faults.{lowest}
use Rattle.nc_types.specs.declared.fault.Fault.{Fault}
use Rattle.nc_types.specs.declared.fault.Cause.TheVariants.{NoName}
use Rattle.nc_types.specs.declared.config.Interface.{Interface}
use Rattle.nc_types.specs.declared.filters.Group.{Group}
use Rattle.nc_reader.specs.Roles.{roles_from}
use Rattle.nc_reader.specs.Configuration.{name_of, process_number, faults_of, pieces_of, in_order, place_of, interfaces_in, processes_in, lists_in, community_lists_in, config_of, configuration}
use Rattle.nc_reader.specs.Things.{Part, pieces_in}
use Rattle.nc_lines.proofs.Pairs.{Has, Pairs, all_pairs, pairs_weaker, pairs_map, pairs_either, ascends_within, increasing}
use Rattle.nc_reader.proofs.Elements.{has_in_order, in_order_ascends, length_in_order, few_in_order, place_below, place_less}
use Rattle.nc_reader.proofs.PieceLemmas.{Apart, IsWhole}
use Rattle.nc_reader.proofs.Addresses.{IsCovered, last_has}
use Rattle.nc_reader.proofs.RouterNames.{router_named}
use Rattle.nc_reader.proofs.TopicParts.{IsSound, AreTwo, parts_in, part_from, parts_two}
use Rattle.nc_reader.proofs.KindParts.{AreApart, all_kinds, kinds_differ, by_ranks, ranks_among, pieces_apart, ranks_apart, interfaces_differ, clauses_differ, lists_differ, community_lists_differ, groups_differ, one_at_most, process_sound, interface_sound, list_sound, community_sound}
use Rattle.nc_reader.proofs.PlaceParts.{all_places}

-- ---- what is no fault

named_ok : (f : ℕ × List ℕ → ConfigView) (c : ConfigView) (missing : Fault) (o : Option (ℕ × List ℕ)) → option_map_or (λ name. Ok (f name)) o (Err missing) ≡ Ok c → (name : ℕ × List ℕ) × (f name ≡ c) × (o ≡ Some name)
named_ok f c missing None e = absurd cc
named_ok f c missing (Some name) e = (name, cc, refl)

clean_ok : (o : Option Fault) (rest : Result ConfigView Fault) (c : ConfigView) → option_map_or Err o rest ≡ Ok c → rest ≡ Ok c
clean_ok None rest c e = e
clean_ok (Some fault) rest c e = absurd cc

-- what is no fault is the configuration of the name in force
configured : (lines : List (List ℕ)) (c : ConfigView) → configuration lines ≡ Ok c
    → (name : ℕ × List ℕ) × (config_of (length lines) name (parts_in lines) ≡ c) × (name_of (roles_from [] lines) ≡ Some name)
unfolding configuration
configured lines c e =
    named_ok (λ name. config_of (length lines) name (parts_in lines)) c (record { line = 0; cause = NoName }) (name_of (roles_from [] lines)) (clean_ok (lowest (faults_of lines (roles_from [] lines))) _ c e)

-- ---- elements

has_first : (xs : List ℕ) → 0 < length xs → Has xs (slice_index_or xs 0 0)
has_first [] some = absurd (omega (arith, some))
has_first (x ∷ xs) some = inl refl

first_in_file : (count : ℕ) (e : ElementView) → IsWhole count e.lines → (0 < first_line e) × (first_line e ≤ count)
first_in_file count e whole = ascends_within (λ (k : ℕ). k) 0 count e.lines whole.1 (first_line e) (has_first e.lines whole.0)

is_element : (count : ℕ) (e : ElementView) → IsWhole count e.lines → IsElement count e
is_element count e whole =
    record {
      some = whole.0;
      ascend = increasing 0 count e.lines whole.1;
      within = all_by_in (λ line. (0 < line) × (line ≤ count)) e.lines (ascends_within (λ (k : ℕ). k) 0 count e.lines whole.1);
    }

-- elements of which no two have a line in common, each within the file
module _ (count : ℕ) (pieces : List ElementView) (apart : Pairs (λ e f. Apart e.lines f.lines) pieces) (whole : (e : ElementView) → Has pieces e → IsWhole count e.lines) where
  begin_apart : (es : List ElementView) → ((e : ElementView) → Has es e → IsWhole count e.lines) → Pairs (λ e f. Apart e.lines f.lines) es → Pairs (λ e f. first_line e ≢ first_line f) es
  begin_apart es each pairs =
      pairs_weaker (λ (e f : ElementView). Apart e.lines f.lines) (λ (e f : ElementView). first_line e ≢ first_line f) es
      (λ e f he hf no_line same. no_line (first_line e) (has_first e.lines (each e he).0) (subst (Has f.lines) (sym same) (has_first f.lines (each f hf).0))) pairs

  pub all_stand : length (in_order count pieces) ≡ length pieces
  all_stand = length_in_order count pieces (begin_apart pieces whole apart) (λ e h. first_in_file count e (whole e h))

  pub alone : Pairs (λ e f. (line : ℕ) → Contains e.lines line → Contains f.lines line → ⊥) (in_order count pieces)
  alone =
      pairs_weaker (λ (e f : ElementView). first_line e < first_line f) (λ (e f : ElementView). (line : ℕ) → Contains e.lines line → Contains f.lines line → ⊥) (in_order count pieces)
      (λ e f he hf less line in_e in_f. elim (pairs_either (λ (e f : ElementView). Apart e.lines f.lines) pieces (λ x y no_line k hy hx. no_line k hx hy) apart e f (has_in_order count pieces e he) (has_in_order count pieces f hf)) [
        | inl same ↦ let is = ap first_line same in absurd (omega (arith, less, is))
        | inr no_line ↦ no_line line (in_by_contains e.lines line in_e) (in_by_contains f.lines line in_f)
      ]) (in_order_ascends count pieces)

  pub each_stands : (e : ElementView) → Has (in_order count pieces) e → IsElement count e
  each_stands e h = is_element count e (whole e (has_in_order count pieces e h))

  -- the places of such elements are two where the elements are
  pub one_each : (es : List ElementView) → ((e : ElementView) → Has es e → Has pieces e) → Pairs (λ e f. Apart e.lines f.lines) es → Pairs (λ p q. p ≢ q) (map (λ e. place_of pieces (first_line e)) es)
  one_each es among pairs =
      pairs_map (λ e. place_of pieces (first_line e)) (λ (e f : ElementView). first_line e ≢ first_line f) (λ (p q : ℕ). p ≢ q) es
      (λ e f he hf other same. elim (cases_order (first_line e) (first_line f)) [
        | inl equal ↦ other equal
        | inr unequal ↦ elim unequal [
          | inl less ↦ let places = place_less (first_line f) pieces e (among e he) less in absurd (omega (arith, places, same))
          | inr more ↦ let places = place_less (first_line e) pieces f (among f hf) more in absurd (omega (arith, places, same))
        ]
      ]) (begin_apart es (λ e h. whole e (among e h)) pairs)

-- what holds of each of several processes holds of the last
last_sound : (ps : List ProcessView) → ((p : ProcessView) → Has ps p → IsProcess p) → IfSome (last_or None ps) IsProcess
last_sound ps each = go (last_or None ps) refl
  where
    go : (o : Option ProcessView) → last_or None ps ≡ o → IfSome o IsProcess
    go None e = tt
    go (Some p) e =
        elim (last_has None ps p e) [
          | inl never ↦ absurd cc
          | inr h ↦ each p h
        ]

-- ---- the configuration of a file

module _ (lines : List (List ℕ)) where
  abbrev count : ℕ
  count = length lines

  abbrev parts : List Part
  parts = parts_in lines

  abbrev pieces : List ElementView
  pieces = pieces_of parts

  abbrev place : ℕ → ℕ
  place = place_of pieces

  abbrev process : Option ℕ
  process = process_number (roles_from [] lines)

  two : Pairs (AreTwo process) parts
  two = parts_two lines

  own : (p : Part) → Has parts p → Pairs AreApart (pieces_in p)
  own p h = (part_from lines p h).2.elements.apart

  sound : (p : Part) → Has parts p → IsSound p
  sound p h = (part_from lines p h).2.sound

  pub apart : Pairs AreApart pieces
  apart = pieces_apart process parts two own

  pub whole : (e : ElementView) → Has pieces e → IsWhole count e.lines
  whole e h = let at = in_by_flat_map pieces_in parts e h in (part_from lines at.0 at.1).2.elements.whole e at.2

  -- no more elements than lines
  pub few : length pieces ≤ count
  few = omega (arith, all_stand count pieces apart whole, few_in_order count pieces)

  places_are : (name : ℕ × List ℕ) → places_of (config_of count name parts) ≡ map (λ e. place (first_line e)) (by_ranks parts all_kinds)
  places_are name = all_places place parts sound (one_at_most process parts two place)

  below : (k : ℕ) → Has (map (λ e. place (first_line e)) (by_ranks parts all_kinds)) k → k < length (in_order count pieces)
  below k h =
      let e = in_by_map (λ e. place (first_line e)) (by_ranks parts all_kinds) k h in
      let less = place_below pieces e.0 (ranks_among parts all_kinds e.0 e.1) in
      omega (arith, less, all_stand count pieces apart whole, e.2)

  -- what holds of each thing of a kind
  of_each : {A : Type 0} (f : Part → List A) (P : A → Type 0) → ((p : Part) (x : A) → IsSound p → Has (f p) x → P x) → All P (flat_map f parts)
  of_each {A} f P to = all_by_in P (flat_map f parts) (λ x h. let at = in_by_flat_map f parts x h in to at.0 x (sound at.0 at.1) at.2)

  pub formed : (name : ℕ × List ℕ) → is_name name.1 ≡ true → IsWellFormed (config_of count name parts)
  formed name named =
      record {
        name = named;
        places = subst (All (λ (k : ℕ). k < length (in_order count pieces))) (sym (places_are name)) (all_by_in (λ (k : ℕ). k < length (in_order count pieces)) _ below);
        single = subst (AllPairs (λ (p q : ℕ). p ≢ q)) (sym (places_are name))
            (all_pairs (λ (p q : ℕ). p ≢ q) _ (one_each count pieces apart whole (by_ranks parts all_kinds) (ranks_among parts all_kinds) (ranks_apart process parts two own all_kinds kinds_differ)));
        elements = all_by_in (IsElement count) (in_order count pieces) (each_stands count pieces apart whole);
        ordered = all_pairs (λ (e f : ElementView). first_line e < first_line f) (in_order count pieces) (in_order_ascends count pieces);
        apart = all_pairs (λ (e f : ElementView). (line : ℕ) → Contains e.lines line → Contains f.lines line → ⊥) (in_order count pieces) (alone count pieces apart whole);
        interfaces = all_pairs (λ (i j : Interface). i.name ≢ j.name) _ (interfaces_differ process parts two place);
        clauses = all_pairs (λ (a b : ClauseView). (a.map_name ≢ b.map_name) ⊎ (a.number ≢ b.number)) _ (clauses_differ process parts two place);
        lists = all_pairs (λ (a b : PrefixListView). a.name ≢ b.name) _ (lists_differ process parts two place);
        community_lists = all_pairs (λ (a b : CommunityListView). a.name ≢ b.name) _ (community_lists_differ process parts two place);
        groups = all_pairs (λ (g h : Group). (g.iface ≢ h.iface) ⊎ (g.inward ≢ h.inward)) _ (groups_differ process parts two place);
        covered = of_each (interfaces_in place) (λ (i : Interface). IfSome i.address IsCovered) (interface_sound place);
        process = last_sound (flat_map (processes_in place) parts) (λ x h. let at = in_by_flat_map (processes_in place) parts x h in process_sound place at.0 x (sound at.0 at.1) at.2);
        filled = of_each (lists_in place) (λ (l : PrefixListView). 0 < length l.entries) (λ p l s h. (list_sound place p l s h).0);
        entries = of_each (lists_in place) (λ (l : PrefixListView). IsStrictlyIncreasing (map (λ e. e.seq) l.entries)) (λ p l s h. (list_sound place p l s h).1);
        community_filled = of_each (community_lists_in place) (λ (l : CommunityListView). 0 < length l.entries) (community_sound place);
      }

pub well_formed : (lines : List (List ℕ)) (c : ConfigView) → configuration lines ≡ Ok c → IsWellFormed c
well_formed lines c e =
    let found = configured lines c e in
    subst IsWellFormed found.1 (formed lines found.0 (router_named lines found.0 found.2))
