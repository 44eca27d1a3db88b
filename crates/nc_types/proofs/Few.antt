-- A configuration has no more parts than elements, and no more elements than lines: distinct places below a bound are few.
use Rattle.std.proofs.Common.{◌≡◌, ℕ, zero, suc, ◌+◌, ◌<◌, ◌≤◌, List, [], ◌∷◌, ◌++◌, length, map, get_or, refl, ap, nat_eq, arith, Option, Some, All}
use Rattle.std.specs.List.{IsDistinct, flat_map, slice_get}
use Rattle.std.specs.Option.{option_map_or}
use Rattle.std.proofs.lemmas.List.{length-append, length-map}
use Rattle.std.proofs.lemmas.List.Elements.{All-head, All-tail}
use Rattle.std.proofs.lemmas.List.Sums.{sum_by-cons}
use Rattle.std.proofs.lemmas.Bool.Decides.{Decides-eqb}
use Rattle.std.proofs.lemmas.Map.Made.{IsDistinct-from_AllPairs}
use Rattle.std.proofs.lemmas.Map.Steps.{length-le_from_distinct_below}
use Rattle.nc_types.specs.declared.config.Interface.{Interface}
use Rattle.nc_types.specs.declared.config.StaticRoute.{StaticRoute}
use Rattle.nc_types.specs.Config.{ElementView, ProcessView, ClauseView, PrefixListView, CommunityListView, ConfigView}
use Rattle.nc_types.specs.declared.filters.FilterEntry.{FilterEntry}
use Rattle.nc_types.specs.declared.filters.Group.{Group}
use Rattle.nc_types.specs.WellFormed.{process_places, entry_places, filter_places, places_of, IsWellFormed, first_line}
use Rattle.nc_types.specs.Network.{element_count}
use Rattle.nc_types.proofs.Members.{all_in, among_is}

module _ (c : ConfigView) (formed : IsWellFormed c) (d : ElementView) where
  -- the first line of an element is no lower than its place
  above : (k : ℕ) → k < length c.elements → k + 1 ≤ first_line (get_or c.elements k d)
  above zero lt =
      let e = formed.elements 0 d lt in
      let here : 0 < first_line (get_or c.elements 0 d) = (e.within 0 0 e.some).0 in
      omega arith
  above (suc k) lt =
      let before : k + 1 ≤ first_line (get_or c.elements k d) = above k (omega arith) in
      let more : first_line (get_or c.elements k d) < first_line (get_or c.elements (suc k) d) = formed.ordered k (suc k) d (omega arith) lt in
      omega arith

  few_from : (n : ℕ) → length c.elements ≡ suc n → length c.elements ≤ c.line_count
  few_from n count =
      let e = formed.elements n d (omega arith) in
      let last : first_line (get_or c.elements n d) ≤ c.line_count = (e.within 0 0 e.some).1 in
      let up : n + 1 ≤ first_line (get_or c.elements n d) = above n (omega arith) in
      omega arith

-- a configuration has no more elements than lines
pub few_elements : (c : ConfigView) → IsWellFormed c → length c.elements ≤ c.line_count
few_elements c formed = by_elements c.elements refl
  where
    by_elements : (es : List ElementView) → c.elements ≡ es → length c.elements ≤ c.line_count
    by_elements [] e = let none : length c.elements ≡ 0 = ap length e in omega arith
    by_elements (d ∷ es) e = few_from c formed d (length es) (ap length e)

-- the places of the parts are distinct and below the count of elements, so there are no more of them
few_places : (c : ConfigView) → IsWellFormed c → length (places_of c) ≤ length c.elements
few_places c formed =
    let distinct : IsDistinct nat_eq (places_of c) = IsDistinct-from_AllPairs Decides-eqb (places_of c) formed.single in
    length-le_from_distinct_below (places_of c) (length c.elements) distinct (λ q e. all_in (λ (k : ℕ). k < length c.elements) (places_of c) formed.places q (among_is q (places_of c) e))

-- all parts: interfaces, static routes, those of the process, clauses, the entries of lists, and filters
pub few_parts : (c : ConfigView) → IsWellFormed c → length c.interfaces + (length c.statics + (length (option_map_or process_places c.process []) + (length c.clauses + (length (entry_places c) + length (filter_places c))))) ≤ length c.elements
few_parts c formed =
    let is = map (λ (i : Interface). i.element) c.interfaces in
    let ss = map (λ (s : StaticRoute). s.element) c.statics in
    let ps = option_map_or process_places c.process [] in
    let ks = map (λ (k : ClauseView). k.element) c.clauses in
    let es = entry_places c in
    let fs = filter_places c in
    let few : length (places_of c) ≤ length c.elements = few_places c formed in
    omega (
      arith,
      few,
      length-append is (ss ++ (ps ++ (ks ++ (es ++ fs)))),
      length-append ss (ps ++ (ks ++ (es ++ fs))),
      length-append ps (ks ++ (es ++ fs)),
      length-append ks (es ++ fs),
      length-append es fs,
      length-map c.interfaces (λ (i : Interface). i.element),
      length-map c.statics (λ (s : StaticRoute). s.element),
      length-map c.clauses (λ (k : ClauseView). k.element),
    )

pub few_interfaces : (c : ConfigView) → IsWellFormed c → length c.interfaces ≤ length c.elements
few_interfaces c formed = let all = few_parts c formed in omega arith

pub few_statics : (c : ConfigView) → IsWellFormed c → length c.statics ≤ length c.elements
few_statics c formed = let all = few_parts c formed in omega arith

pub few_clauses : (c : ConfigView) → IsWellFormed c → length c.clauses ≤ length c.elements
few_clauses c formed = let all = few_parts c formed in omega arith

-- entries of access lists, and filters of interfaces
few_filter_parts : (c : ConfigView) → IsWellFormed c → length c.filters + length c.groups ≤ length c.elements
few_filter_parts c formed =
    let all = few_parts c formed in
    omega (
      arith,
      all,
      length-append (map (λ (e : FilterEntry). e.element) c.filters) (map (λ (g : Group). g.element) c.groups),
      length-map c.filters (λ (e : FilterEntry). e.element),
      length-map c.groups (λ (g : Group). g.element),
    )

pub few_filters : (c : ConfigView) → IsWellFormed c → length c.filters ≤ length c.elements
few_filters c formed = let all = few_filter_parts c formed in omega arith

pub few_groups : (c : ConfigView) → IsWellFormed c → length c.groups ≤ length c.elements
few_groups c formed = let all = few_filter_parts c formed in omega arith

-- lists that each have an item are no more than all their items, and one of them has no more
few_filled : {L : Type 0} (items : L → List ℕ) (ls : List L) → All (λ l. 0 < length (items l)) ls → length ls ≤ length (flat_map items ls)
few_filled items [] filled = omega arith
few_filled {L} items (l ∷ ls) filled =
    let here : 0 < length (items l) = All-head (λ (x : L). 0 < length (items x)) l ls filled in
    let later : length ls ≤ length (flat_map items ls) = few_filled items ls (All-tail (λ (x : L). 0 < length (items x)) l ls filled) in
    omega (arith, here, later, length-append (items l) (flat_map items ls))

few_of_one : {L : Type 0} (items : L → List ℕ) (ls : List L) (k : ℕ) (l : L) → slice_get ls k ≡ Some l → length (items l) ≤ length (flat_map items ls)
few_of_one items [] k l at = absurd (cc)
few_of_one {L} items (x ∷ xs) zero l at =
    let same : length (items x) ≡ length (items l) = ap (λ (y : L). length (items y)) (let e : x ≡ l = cc in e) in
    omega (arith, same, length-append (items x) (flat_map items xs))
few_of_one items (x ∷ xs) (suc k) l at =
    let later : length (items l) ≤ length (flat_map items xs) = few_of_one items xs k l at in
    omega (arith, later, length-append (items x) (flat_map items xs))

-- where the elements of a list's entries are
abbrev entries_of : PrefixListView → List ℕ
entries_of l = map (λ e. e.element) l.entries

abbrev community_entries_of : CommunityListView → List ℕ
community_entries_of l = map (λ e. e.element) l.entries

module _ (c : ConfigView) (formed : IsWellFormed c) where
  few_entries : length (flat_map entries_of c.lists) + length (flat_map community_entries_of c.community_lists) ≤ length c.elements
  few_entries =
      let all = few_parts c formed in
      omega (arith, all, length-append (flat_map entries_of c.lists) (flat_map community_entries_of c.community_lists))

  pub few_lists : length c.lists ≤ length c.elements
  few_lists =
      let filled : All (λ l. 0 < length (entries_of l)) c.lists = λ k d lt. omega (arith, formed.filled k d lt, length-map (get_or c.lists k d).entries (λ e. e.element)) in
      let fewer : length c.lists ≤ length (flat_map entries_of c.lists) = few_filled entries_of c.lists filled in
      omega (arith, few_entries, fewer)

  pub few_community_lists : length c.community_lists ≤ length c.elements
  few_community_lists =
      let filled : All (λ l. 0 < length (community_entries_of l)) c.community_lists =
      λ k d lt. omega (arith, formed.community_filled k d lt, length-map (get_or c.community_lists k d).entries (λ e. e.element)) in
      let fewer : length c.community_lists ≤ length (flat_map community_entries_of c.community_lists) = few_filled community_entries_of c.community_lists filled in
      omega (arith, few_entries, fewer)

  pub few_of_list : (k : ℕ) (l : PrefixListView) → slice_get c.lists k ≡ Some l → length l.entries ≤ length c.elements
  few_of_list k l at =
      let own : length (entries_of l) ≤ length (flat_map entries_of c.lists) = few_of_one entries_of c.lists k l at in
      omega (arith, few_entries, own, length-map l.entries (λ e. e.element))

  pub few_of_community_list : (k : ℕ) (l : CommunityListView) → slice_get c.community_lists k ≡ Some l → length l.entries ≤ length c.elements
  few_of_community_list k l at =
      let own : length (community_entries_of l) ≤ length (flat_map community_entries_of c.community_lists) = few_of_one community_entries_of c.community_lists k l at in
      omega (arith, few_entries, own, length-map l.entries (λ e. e.element))

-- the parts of the process: itself, its neighbors, networks and aggregates
pub few_of_process : (c : ConfigView) (p : ProcessView) → IsWellFormed c → c.process ≡ Some p → length p.neighbors + (length p.networks + length p.aggregates) < length c.elements
few_of_process c p formed some =
    let ns = map (λ n. n.element) p.neighbors in
    let ws = map (λ n. n.element) p.networks in
    let gs = map (λ a. a.element) p.aggregates in
    let all = few_parts c formed in
    let own : length (option_map_or process_places c.process []) ≡ length (process_places p) = ap (λ (o : Option ProcessView). length (option_map_or process_places o [])) some in
    omega (
      arith,
      all,
      own,
      length-append ns (ws ++ gs),
      length-append ws gs,
      length-map p.neighbors (λ n. n.element),
      length-map p.networks (λ n. n.element),
      length-map p.aggregates (λ a. a.element),
    )

-- a router has no more elements than the network
pub few_in_network : (routers : List ConfigView) (router : ℕ) (c : ConfigView) → slice_get routers router ≡ Some c → length c.elements ≤ element_count routers
few_in_network [] router c at = absurd (cc)
few_in_network (r ∷ rs) zero c at =
    let same : length r.elements ≡ length c.elements = ap (λ (x : ConfigView). length x.elements) (let e : r ≡ c = cc in e) in
    omega (arith, sum_by-cons (λ (x : ConfigView). length x.elements) r rs)
few_in_network (r ∷ rs) (suc router) c at =
    let rest : length c.elements ≤ element_count rs = few_in_network rs router c at in
    omega (arith, sum_by-cons (λ (x : ConfigView). length x.elements) r rs)
