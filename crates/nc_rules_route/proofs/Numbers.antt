-- The elements of a router's interfaces, its static routes, its process, the parts of that, its clauses, the entries of its lists and its filters
-- exist.
use Rattle.std.proofs.Common.{◌≡◌, ℕ, ◌<◌, [], ◌++◌, length, map, Option, Some, None, refl, sym, ◌∙◌, subst, inl, inr}
use Rattle.std.specs.List.{flat_map, slice_get}
use Rattle.std.specs.Option.{IfSome, option_map, option_map_or}
use Rattle.std.proofs.lemmas.Option.{option_and_then_some}
use Rattle.nc_types.specs.declared.config.Interface.{Interface}
use Rattle.nc_types.specs.declared.config.StaticRoute.{StaticRoute}
use Rattle.nc_types.specs.declared.config.Neighbor.{Neighbor}
use Rattle.nc_types.specs.declared.config.NetworkStatement.{NetworkStatement}
use Rattle.nc_types.specs.declared.config.AggregateStatement.{AggregateStatement}
use Rattle.nc_types.specs.declared.config.ListEntry.{ListEntry}
use Rattle.nc_types.specs.declared.communities.CommunityEntry.{CommunityEntry}
use Rattle.nc_types.specs.declared.filters.FilterEntry.{FilterEntry}
use Rattle.nc_types.specs.declared.filters.Group.{Group}
use Rattle.nc_types.specs.Config.{ClauseView, PrefixListView, CommunityListView, ConfigView, ProcessView}
use Rattle.nc_types.specs.WellFormed.{process_places, entry_places, filter_places, places_of, IsWellFormed}
use Rattle.nc_types.proofs.Members.{In, in_by_get, all_in, in_left, in_right, in_map}
use Rattle.nc_tables.specs.declared.policy.Place.{Place}
use Rattle.nc_rules_route.specs.Parents.{clause_place, entry_place, community_place, group_place, filter_place}
use Rattle.nc_types.proofs.Options.{map_some}
use Rattle.nc_rules_route.proofs.Members.{in_flat_map}

module _ (c : ConfigView) (formed : IsWellFormed c) where
  pub interface_element : (k : ℕ) (i : Interface) → slice_get c.interfaces k ≡ Some i → i.element < length c.elements
  interface_element k i at =
      all_in (λ (place : ℕ). place < length c.elements) (places_of c) formed.places i.element
      (in_left (map (λ (i : Interface). i.element) c.interfaces) _ i.element (in_map (λ (i : Interface). i.element) c.interfaces i (in_by_get c.interfaces k i at)))

  pub static_element : (k : ℕ) (r : StaticRoute) → slice_get c.statics k ≡ Some r → r.element < length c.elements
  static_element k r at =
      all_in (λ (place : ℕ). place < length c.elements) (places_of c) formed.places r.element
      (in_right (map (λ (i : Interface). i.element) c.interfaces) _ r.element
      (in_left (map (λ (r : StaticRoute). r.element) c.statics) _ r.element (in_map (λ (r : StaticRoute). r.element) c.statics r (in_by_get c.statics k r at))))

  -- any part of the process: itself, a neighbor, a network or an aggregate
  process_part : (p : ProcessView) → c.process ≡ Some p → (place : ℕ) → In place (process_places p) → place < length c.elements
  process_part p own place i =
      let among : In place (option_map_or process_places c.process []) = subst (λ (o : Option ProcessView). In place (option_map_or process_places o [])) (sym own) i in
      all_in (λ (place : ℕ). place < length c.elements) (places_of c) formed.places place
      (in_right (map (λ (i : Interface). i.element) c.interfaces) _ place
      (in_right (map (λ (r : StaticRoute). r.element) c.statics) _ place (in_left (option_map_or process_places c.process []) _ place among)))

  pub process_element : (p : ProcessView) → c.process ≡ Some p → p.element < length c.elements
  process_element p own = process_part p own p.element (inl refl)

  pub neighbor_element : (p : ProcessView) → c.process ≡ Some p → (k : ℕ) (n : Neighbor) → slice_get p.neighbors k ≡ Some n → n.element < length c.elements
  neighbor_element p own k n at =
      let element = λ (n : Neighbor). n.element in
      process_part p own n.element (inr (in_left (map element p.neighbors) _ n.element (in_map element p.neighbors n (in_by_get p.neighbors k n at))))

  pub network_element : (p : ProcessView) → c.process ≡ Some p → (k : ℕ) (n : NetworkStatement) → slice_get p.networks k ≡ Some n → n.element < length c.elements
  network_element p own k n at =
      let element = λ (n : NetworkStatement). n.element in
      process_part p own n.element (inr (in_right (map (λ (n : Neighbor). n.element) p.neighbors) _ n.element (in_left (map element p.networks) _ n.element (in_map element p.networks n (in_by_get p.networks k n at)))))

  pub aggregate_element : (p : ProcessView) → c.process ≡ Some p → (k : ℕ) (a : AggregateStatement) → slice_get p.aggregates k ≡ Some a → a.element < length c.elements
  aggregate_element p own k a at =
      let element = λ (a : AggregateStatement). a.element in
      process_part p own a.element (inr (in_right (map (λ (n : Neighbor). n.element) p.neighbors) _ a.element (in_right (map (λ (n : NetworkStatement). n.element) p.networks) _ a.element (in_map element p.aggregates a (in_by_get p.aggregates k a at)))))

  -- what stands behind the parts of the process: clauses, the entries of lists, and those of access lists with the filters
  policy_part : (place : ℕ) → In place (map (λ (k : ClauseView). k.element) c.clauses ++ (entry_places c ++ filter_places c)) → place < length c.elements
  policy_part place i =
      all_in (λ (place : ℕ). place < length c.elements) (places_of c) formed.places place
      (in_right (map (λ (i : Interface). i.element) c.interfaces) _ place
      (in_right (map (λ (r : StaticRoute). r.element) c.statics) _ place (in_right (option_map_or process_places c.process []) _ place i)))

  pub clause_within : (k place : ℕ) → clause_place k c ≡ Some place → place < length c.elements
  clause_within k place e =
      let element = λ (k : ClauseView). k.element in
      let made = map_some element (slice_get c.clauses k) place e in
      policy_part place (in_left (map element c.clauses) _ place (subst (λ (n : ℕ). In n (map element c.clauses)) made.2 (in_map element c.clauses made.0 (in_by_get c.clauses k made.0 made.1))))

  list_part : (place : ℕ) → In place (entry_places c) → place < length c.elements
  list_part place i = policy_part place (in_right (map (λ (k : ClauseView). k.element) c.clauses) _ place (in_left (entry_places c) (filter_places c) place i))

  pub entry_within : (k : Place) (place : ℕ) → entry_place k c ≡ Some place → place < length c.elements
  entry_within k place e =
      let element = λ (e : ListEntry). e.element in
      let elements = λ (l : PrefixListView). map element l.entries in
      option_and_then_some (λ (l : PrefixListView). option_map element (slice_get l.entries k.entry)) (slice_get c.lists k.list) place e (λ l at in_list.
      let made = map_some element (slice_get l.entries k.entry) place in_list in
      let here : In place (elements l) = subst (λ (n : ℕ). In n (elements l)) made.2 (in_map element l.entries made.0 (in_by_get l.entries k.entry made.0 made.1)) in
      list_part place (in_left (flat_map elements c.lists) _ place (in_flat_map elements c.lists l place (in_by_get c.lists k.list l at) here)))

  pub community_within : (k : Place) (place : ℕ) → community_place k c ≡ Some place → place < length c.elements
  community_within k place e =
      let element = λ (e : CommunityEntry). e.element in
      let elements = λ (l : CommunityListView). map element l.entries in
      option_and_then_some (λ (l : CommunityListView). option_map element (slice_get l.entries k.entry)) (slice_get c.community_lists k.list) place e (λ l at in_list.
      let made = map_some element (slice_get l.entries k.entry) place in_list in
      let here : In place (elements l) = subst (λ (n : ℕ). In n (elements l)) made.2 (in_map element l.entries made.0 (in_by_get l.entries k.entry made.0 made.1)) in
      let lists = flat_map (λ (l : PrefixListView). map (λ (e : ListEntry). e.element) l.entries) c.lists in
      list_part place (in_right lists _ place (in_flat_map elements c.community_lists l place (in_by_get c.community_lists k.list l at) here)))

  filter_part : (place : ℕ) → In place (filter_places c) → place < length c.elements
  filter_part place i = policy_part place (in_right (map (λ (k : ClauseView). k.element) c.clauses) _ place (in_right (entry_places c) (filter_places c) place i))

  pub filter_within : (k place : ℕ) → filter_place k c ≡ Some place → place < length c.elements
  filter_within k place e =
      let element = λ (e : FilterEntry). e.element in
      let made = map_some element (slice_get c.filters k) place e in
      filter_part place (in_left (map element c.filters) _ place (subst (λ (n : ℕ). In n (map element c.filters)) made.2 (in_map element c.filters made.0 (in_by_get c.filters k made.0 made.1))))

  pub group_within : (k place : ℕ) → group_place k c ≡ Some place → place < length c.elements
  group_within k place e =
      let element = λ (g : Group). g.element in
      let made = map_some element (slice_get c.groups k) place e in
      filter_part place (in_right (map (λ (e : FilterEntry). e.element) c.filters) _ place (subst (λ (n : ℕ). In n (map element c.groups)) made.2 (in_map element c.groups made.0 (in_by_get c.groups k made.0 made.1))))

  -- so does the element of what is found of these
  each_some : (o : Option ℕ) → ((n : ℕ) → o ≡ Some n → n < length c.elements) → IfSome o (λ n. n < length c.elements)
  each_some None each = tt
  each_some (Some n) each = each n refl

  module _ (o : Option ℕ) where
    pub clause_exists : (k : ℕ) → o ≡ clause_place k c → IfSome o (λ n. n < length c.elements)
    clause_exists k e = each_some o (λ n at. clause_within k n (sym e ∙ at))

    pub entry_exists : (k : Place) → o ≡ entry_place k c → IfSome o (λ n. n < length c.elements)
    entry_exists k e = each_some o (λ n at. entry_within k n (sym e ∙ at))

    pub community_exists : (k : Place) → o ≡ community_place k c → IfSome o (λ n. n < length c.elements)
    community_exists k e = each_some o (λ n at. community_within k n (sym e ∙ at))

    pub group_exists : (k : ℕ) → o ≡ group_place k c → IfSome o (λ n. n < length c.elements)
    group_exists k e = each_some o (λ n at. group_within k n (sym e ∙ at))

    pub filter_exists : (k : ℕ) → o ≡ filter_place k c → IfSome o (λ n. n < length c.elements)
    filter_exists k e = each_some o (λ n at. filter_within k n (sym e ∙ at))
