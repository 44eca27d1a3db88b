-- The facts of the elements that interfaces, static routes and the ends of a session are.
use Rattle.std.proofs.Common.{◌≡◌, ℕ, ◌<◌, List, [], ◌∷◌, ◌++◌, append_assoc, length, Option, Some, None, refl, sym, ap, ◌∙◌}
use Rattle.std.specs.List.{slice_get}
use Rattle.std.specs.Option.{IfSome, option_map, option_map_or, option_and_then}
use Rattle.std.proofs.lemmas.List.{append-nil}
use Rattle.std.proofs.lemmas.Option.{none-some, same_Some, option_and_then_some, slice_get_within}
use Rattle.nc_types.specs.declared.config.RouterId.{RouterId}
use Rattle.nc_types.specs.declared.config.Interface.{Interface}
use Rattle.nc_types.specs.declared.config.StaticRoute.{StaticRoute}
use Rattle.nc_types.specs.declared.config.NetworkStatement.{NetworkStatement}
use Rattle.nc_types.specs.declared.config.AggregateStatement.{AggregateStatement}
use Rattle.std.specs.Borrow.{Bor}
use Rattle.nc_types.specs.declared.config.RouterConfig.{RouterConfig}
use Rattle.nc_types.specs.Config.{ConfigView, ProcessView, config_view}
use Rattle.nc_types.specs.WellFormed.{IsWellFormed}
use Rattle.nc_tables.specs.State.{StateView, IsState}
use Rattle.nc_tables.specs.Sessions.{End, end_at, process_of}
use Rattle.nc_tables.specs.Rounds.{Link, link_at}
use Rattle.nc_fact.specs.declared.fact.Fact.{Fact}
use Rattle.nc_fact.specs.declared.fact.Fact.TheVariants.{Session, Origin, Aggregate}
use Rattle.nc_fact.proofs.Few.{formed_at}
use Rattle.nc_rules_route.specs.Parents.{element_in, of_interface, of_static, end_elements, ways_between, session_parents, origin_parents, aggregate_parents, parents}
use Rattle.nc_rules_route.proofs.Ends.{link_is}
use Rattle.nc_rules_route.proofs.Numbers.{interface_element, static_element, process_element, network_element, aggregate_element}

-- what holds of the configuration of each router holds of the one that is found
pub of_config : (o : Option (Bor RouterConfig)) {x : Option ConfigView} → option_map (λ c. config_view c.now) o ≡ x → (P : ConfigView → Type 0) → ((c : ConfigView) → x ≡ Some c → P c) → IfSome o (λ c. P (config_view c.now))
of_config None e P each = tt
of_config (Some b) e P each = each (config_view b.now) (sym e)

module _ (s : StateView) (router : ℕ) (c : ConfigView) (at : slice_get s.routers router ≡ Some c) (formed : IsWellFormed c) where
  pub interface_found : (iface place : ℕ) → option_map (λ i. i.element) (slice_get c.interfaces iface) ≡ Some place → (of_interface s router iface ≡ element_in s router place ∷ []) × (place < length c.elements)
  interface_found iface place e = by_interface (slice_get c.interfaces iface) refl e
    where
      by_interface : (o : Option Interface) → slice_get c.interfaces iface ≡ o → option_map (λ i. i.element) o ≡ Some place → (of_interface s router iface ≡ element_in s router place ∷ []) × (place < length c.elements)
      by_interface None is e = absurd (none-some place e)
      by_interface (Some i) is e =
          let same : i.element ≡ place = same_Some i.element place e in (
            ap (λ (o : Option ConfigView). option_map_or (λ i. element_in s router i.element ∷ []) (option_and_then (λ c. slice_get c.interfaces iface) o) []) at ∙ ap (λ (o : Option Interface). option_map_or (λ i. element_in s router i.element ∷ []) o []) is ∙ ap (λ (n : ℕ). element_in s router n ∷ []) same,
            (let lt : i.element < length c.elements = interface_element c formed iface i is in rw (sym same) lt),
          )

  pub static_found : (place element : ℕ) → option_map (λ r. r.element) (slice_get c.statics place) ≡ Some element → (of_static s router place ≡ element_in s router element ∷ []) × (element < length c.elements)
  static_found place element e = by_route (slice_get c.statics place) refl e
    where
      by_route : (o : Option StaticRoute) → slice_get c.statics place ≡ o → option_map (λ r. r.element) o ≡ Some element → (of_static s router place ≡ element_in s router element ∷ []) × (element < length c.elements)
      by_route None is e = absurd (none-some element e)
      by_route (Some r) is e =
          let same : r.element ≡ element = same_Some r.element element e in (
            ap (λ (o : Option ConfigView). option_map_or (λ r. element_in s router r.element ∷ []) (option_and_then (λ c. slice_get c.statics place) o) []) at ∙ ap (λ (o : Option StaticRoute). option_map_or (λ r. element_in s router r.element ∷ []) o []) is ∙ ap (λ (n : ℕ). element_in s router n ∷ []) same,
            (let lt : r.element < length c.elements = static_element c formed place r is in rw (sym same) lt),
          )

-- the facts of a session, pushed end by end
pub session_pushed : (s : StateView) (router : RouterId) (place : ℕ) (k : Link) → link_at s.routers s.sessions router.0 place ≡ Some k → (old first second new : List Fact)
    → first ≡ old ++ option_map_or (end_elements s router.0) (end_at s.routers router.0 place) []
    → second ≡ first ++ option_map_or (end_elements s k.session.peer.0) (end_at s.routers k.session.peer.0 k.session.peer_neighbor) []
    → new ≡ second ++ ways_between s router k → new ≡ old ++ parents s (Session router place)
unfolding parents
session_pushed s router place k found old first second new to_first to_second to_new =
    let peer = k.session.peer in
    let link = link_is s.routers s.sessions router.0 place k found in
    let own = end_elements s router.0 k.receiver in
    let other = end_elements s peer.0 k.sender in
    let ways = ways_between s router k in
    let first_is : first ≡ old ++ own = to_first ∙ ap (λ (o : Option End). old ++ option_map_or (end_elements s router.0) o []) link.receiver in
    let second_is : second ≡ (old ++ own) ++ other =
    to_second ∙ ap (λ (o : Option End). first ++ option_map_or (end_elements s peer.0) o []) link.sender ∙ ap (λ (fs : List Fact). fs ++ other) first_is in
    to_new ∙ ap (λ (fs : List Fact). fs ++ ways) second_is ∙ append_assoc (old ++ own) other ways ∙ append_assoc old own (other ++ ways)
    ∙ ap (λ (o : Option Link). old ++ option_map_or (session_parents s router) o []) (sym found)

-- ---- what a router begins

module _ (s : StateView) (router : RouterId) (place : ℕ) (p : ProcessView) (own : process_of s.routers router.0 ≡ Some p) (old : List Fact) where
  pub origin_pushed : (n : NetworkStatement) → slice_get p.networks place ≡ Some n → (new : List Fact) → new ≡ old ++ origin_parents s router p n → new ≡ old ++ parents s (Origin router place)
  unfolding parents
  origin_pushed n at new pushed =
      pushed ∙ ap (λ (o : Option NetworkStatement). old ++ option_map_or (origin_parents s router p) o []) (sym at)
      ∙ ap (λ (o : Option ProcessView). old ++ option_map_or (λ (q : ProcessView). option_map_or (origin_parents s router q) (slice_get q.networks place) []) o []) (sym own)

  pub no_origin : slice_get p.networks place ≡ None → old ≡ old ++ parents s (Origin router place)
  unfolding parents
  no_origin none =
      sym (append-nil old) ∙ ap (λ (o : Option NetworkStatement). old ++ option_map_or (origin_parents s router p) o []) (sym none)
      ∙ ap (λ (o : Option ProcessView). old ++ option_map_or (λ (q : ProcessView). option_map_or (origin_parents s router q) (slice_get q.networks place) []) o []) (sym own)

  pub aggregate_pushed : (a : AggregateStatement) → slice_get p.aggregates place ≡ Some a → (new : List Fact) → new ≡ old ++ aggregate_parents s router place p a → new ≡ old ++ parents s (Aggregate router place)
  unfolding parents
  aggregate_pushed a at new pushed =
      pushed ∙ ap (λ (o : Option AggregateStatement). old ++ option_map_or (aggregate_parents s router place p) o []) (sym at)
      ∙ ap (λ (o : Option ProcessView). old ++ option_map_or (λ (q : ProcessView). option_map_or (aggregate_parents s router place q) (slice_get q.aggregates place) []) o []) (sym own)

  pub no_aggregate : slice_get p.aggregates place ≡ None → old ≡ old ++ parents s (Aggregate router place)
  unfolding parents
  no_aggregate none =
      sym (append-nil old) ∙ ap (λ (o : Option AggregateStatement). old ++ option_map_or (aggregate_parents s router place p) o []) (sym none)
      ∙ ap (λ (o : Option ProcessView). old ++ option_map_or (λ (q : ProcessView). option_map_or (aggregate_parents s router place q) (slice_get q.aggregates place) []) o []) (sym own)

-- without a process a router begins nothing
module _ (s : StateView) (router : RouterId) (place : ℕ) (none : process_of s.routers router.0 ≡ None) (old : List Fact) where
  pub without_origin : old ≡ old ++ parents s (Origin router place)
  unfolding parents
  without_origin = sym (append-nil old) ∙ ap (λ (o : Option ProcessView). old ++ option_map_or (λ (q : ProcessView). option_map_or (origin_parents s router q) (slice_get q.networks place) []) o []) (sym none)

  pub without_aggregate : old ≡ old ++ parents s (Aggregate router place)
  unfolding parents
  without_aggregate = sym (append-nil old) ∙ ap (λ (o : Option ProcessView). old ++ option_map_or (λ (q : ProcessView). option_map_or (aggregate_parents s router place q) (slice_get q.aggregates place) []) o []) (sym none)

-- the elements of a process and of its statements exist in the configuration that its router has
module _ (s : StateView) (is : IsState s) (router : ℕ) (p : ProcessView) (own : process_of s.routers router ≡ Some p) where
  pub router_exists : router < length s.routers
  router_exists = option_and_then_some (λ (c : ConfigView). c.process) (slice_get s.routers router) p own (λ c at here. slice_get_within s.routers router c at)

  in_config : (c : ConfigView) → slice_get s.routers router ≡ Some c → (IsWellFormed c) × (c.process ≡ Some p)
  in_config c at = (formed_at s.routers is.valid.each router c at, ap (option_and_then (λ (d : ConfigView). d.process)) (sym at) ∙ own)

  pub process_exists : (c : ConfigView) → slice_get s.routers router ≡ Some c → p.element < length c.elements
  process_exists c at = let here = in_config c at in process_element c here.0 p here.1

  pub network_exists : (place : ℕ) (n : NetworkStatement) → slice_get p.networks place ≡ Some n → (c : ConfigView) → slice_get s.routers router ≡ Some c → n.element < length c.elements
  network_exists place n found c at = let here = in_config c at in network_element c here.0 p here.1 place n found

  pub aggregate_exists : (place : ℕ) (a : AggregateStatement) → slice_get p.aggregates place ≡ Some a → (c : ConfigView) → slice_get s.routers router ≡ Some c → a.element < length c.elements
  aggregate_exists place a found c at = let here = in_config c at in aggregate_element c here.0 p here.1 place a found
