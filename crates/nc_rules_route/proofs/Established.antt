-- What it takes that a session is established: both ends, the interfaces from which they start, and that each reaches the other's address.
use Rattle.std.proofs.Common.{◌≡◌, ℕ, true, ◌==◌, if◌then◌else◌, List, [], length, Option, Some, None, refl, sym, ap, subst, ◌∙◌}
use Rattle.std.specs.List.{range_with_len, slice_index_or}
use Rattle.std.specs.Option.{option_map, option_map_or, option_and_then, is_some}
use Rattle.std.proofs.lemmas.Bool.{eqb-true, and_parts}
use Rattle.std.proofs.lemmas.Option.{option_and_then_some, none-some, same_Some, cond_some}
use Rattle.nc_types.specs.declared.TheConstants.{HOP_LIMIT}
use Rattle.nc_types.specs.declared.config.IfaceAddr.{IfaceAddr}
use Rattle.nc_types.specs.Config.{ConfigView, ProcessView}
use Rattle.nc_types.specs.Network.{up_at, owner_of, PlaceIn}
use Rattle.nc_tables.specs.declared.base.BaseRow.{BaseRow}
use Rattle.nc_tables.specs.declared.bgp.SessionRow.{SessionRow}
use Rattle.nc_tables.specs.Reach.{reaches}
use Rattle.nc_tables.specs.Sessions.{End, SourceOf, Side, Sides, Conditions, process_of, place_for, end_at, source_iface, source_of, side_at, peer_of, are_met, conditions_of, session_of, session_at, sessions_of, sessions}
use Rattle.nc_tables.specs.Rounds.{Link, session_by, link_at}
use Rattle.nc_tables.specs.State.{StateView, IsState}
use Rattle.nc_tables.specs.CaseRelations.{state_base, state_sessions}
use Rattle.nc_types.proofs.Members.{In, in_by_filter_map}
use Rattle.nc_rules_route.proofs.Members.{in_by_find, in_by_router}
use Rattle.nc_rules_route.proofs.Ends.{linked}

module _ (routers : List ConfigView) (tables : List (List BaseRow)) where
  -- a side is of the statement at a place of a router, and starts from an interface that is up
  record IsSide (router place : ℕ) (side : Side) : Type 0 where
    router_is : side.router ≡ router
    place_is : side.place ≡ place
    end : end_at routers router place ≡ Some side.end
    source : is_some (up_at routers router side.source.iface) ≡ true

  source_up : (router : ℕ) (e : End) (source : SourceOf) → source_of routers tables router e ≡ Some source → is_some (up_at routers router source.iface) ≡ true
  source_up router e source is =
      option_and_then_some by_iface (source_iface routers tables router e) source is (λ iface found in_iface. by_address iface (up_at routers router iface) refl in_iface)
    where
      with : ℕ → IfaceAddr → SourceOf
      with iface a = record { iface = iface; addr = a.addr.0 }

      by_iface : ℕ → Option SourceOf
      by_iface iface = option_map (with iface) (up_at routers router iface)

      by_address : (iface : ℕ) (o : Option IfaceAddr) → up_at routers router iface ≡ o → option_map (with iface) o ≡ Some source → is_some (up_at routers router source.iface) ≡ true
      by_address iface None up made = absurd (none-some source made)
      by_address iface (Some a) up made =
          let same : iface ≡ source.iface = ap (λ (o : SourceOf). o.iface) (same_Some (with iface a) source made) in
          subst (λ (n : ℕ). is_some (up_at routers router n) ≡ true) same (ap is_some up)

  side_is : (router place : ℕ) (side : Side) → side_at routers tables router place ≡ Some side → IsSide router place side
  side_is router place side is =
      option_and_then_some by_end (end_at routers router place) side is (λ e at in_end. by_source e at (source_of routers tables router e) refl in_end)
    where
      with : End → SourceOf → Side
      with e source = record { router = router; place = place; end = e; source = source }

      by_end : End → Option Side
      by_end e = option_map (with e) (source_of routers tables router e)

      by_source : (e : End) → end_at routers router place ≡ Some e → (o : Option SourceOf) → source_of routers tables router e ≡ o → option_map (with e) o ≡ Some side → IsSide router place side
      by_source e at None starts made = absurd (none-some side made)
      by_source e at (Some source) starts made =
          subst (IsSide router place) (same_Some (with e source) side made) (record { router_is = refl; place_is = refl; end = at; source = source_up router e source starts })

  -- what both sides have where their session is established
  pub record IsOpen (router place : ℕ) (row : SessionRow) : Type 0 where
    pub own : End
    pub peer : End
    pub own_end : end_at routers router place ≡ Some own
    pub peer_end : end_at routers row.peer.0 row.peer_neighbor ≡ Some peer
    pub source : is_some (up_at routers router row.source.0) ≡ true
    pub peer_source : is_some (up_at routers row.peer.0 row.peer_source.0) ≡ true
    pub reach : reaches routers tables HOP_LIMIT router own.statement.addr.0 ≡ true
    pub peer_reach : reaches routers tables HOP_LIMIT row.peer.0 peer.statement.addr.0 ≡ true
    pub at : row.neighbor ≡ place

  both_reach : (c : Conditions) → are_met c ≡ true → (c.reach ≡ true) × (c.peer_reach ≡ true)
  both_reach c met =
      let a = and_parts c.enabled _ met in
      let b = and_parts c.other _ a.1 in
      let d = and_parts c.asn _ b.1 in
      let e = and_parts c.peer_enabled _ d.1 in
      let f = and_parts c.peer_asn _ e.1 in
      let g = and_parts c.peer_source _ f.1 in
      let h = and_parts c.near _ g.1 in
      and_parts c.reach c.peer_reach h.1

  -- of the sides of a session that is established
  open_by : (router place peer_router peer_place : ℕ) (k : Sides) → IsSide router place k.own → IsSide peer_router peer_place k.peer → are_met (conditions_of routers tables k) ≡ true → IsOpen router place (session_of k)
  open_by router place peer_router peer_place k own peer met =
      let reached = both_reach (conditions_of routers tables k) met in
      record {
        own = k.own.end;
        peer = k.peer.end;
        own_end = own.end;
        peer_end = rw (peer.router_is, peer.place_is) peer.end;
        source = own.source;
        peer_source = rw (peer.router_is) peer.source;
        reach = subst (λ (r : ℕ). reaches routers tables HOP_LIMIT r k.own.end.statement.addr.0 ≡ true) own.router_is reached.0;
        peer_reach = reached.1;
        at = own.place_is;
      }

  session_open : (router place : ℕ) (row : SessionRow) → session_at routers tables router place ≡ Some row → IsOpen router place row
  session_open router place row is =
      option_and_then_some by_own (side_at routers tables router place) row is (λ own at_own in_own.
      option_and_then_some (by_peer own) (peer_of routers tables own) row in_own (λ peer at_peer in_peer.
      let made = cond_some (are_met (conditions_of routers tables (sides own peer))) (session_of (sides own peer)) row in_peer in
      option_and_then_some (by_owner own) (owner_of routers own.end.statement.addr.0) peer at_peer (λ owner is_owner in_owner.
      option_and_then_some (side_at routers tables owner.router) (place_for routers owner.router own.source.addr) peer in_owner (λ peer_place is_place at_place.
      subst (IsOpen router place) made.1
      (open_by router place owner.router peer_place (sides own peer) (side_is router place own at_own) (side_is owner.router peer_place peer at_place) made.0)))))
    where
      sides : Side → Side → Sides
      sides own peer = record { own = own; peer = peer }

      by_peer : Side → Side → Option SessionRow
      by_peer own peer = if are_met (conditions_of routers tables (sides own peer)) then Some (session_of (sides own peer)) else None

      by_own : Side → Option SessionRow
      by_own own = option_and_then (by_peer own) (peer_of routers tables own)

      by_owner : Side → PlaceIn → Option Side
      by_owner own owner = option_and_then (side_at routers tables owner.router) (place_for routers owner.router own.source.addr)

module _ (s : StateView) (is : IsState s) where
  sessions_are : s.sessions ≡ sessions s.routers s.base
  sessions_are = state_sessions s is ∙ ap (sessions s.routers) (sym (state_base s is))

  -- a row of a state's sessions is the session of the statement for which it stands
  pub established : (router place : ℕ) (row : SessionRow) → session_by s.sessions router place ≡ Some row → IsOpen s.routers s.base router place row
  established router place row found =
      let here = in_by_find (λ (r : SessionRow). r.neighbor == place) (slice_index_or s.sessions router []) row found in
      let count = length s.routers in
      let among : In row (sessions_of s.routers s.base router) =
      in_by_router (sessions_of s.routers s.base) count router row (subst (λ (t : List (List SessionRow)). In row (slice_index_or t router [])) sessions_are here.0) in
      let made = in_by_filter_map (session_at s.routers s.base router) (range_with_len 0 (option_map_or (λ (p : ProcessView). length p.neighbors) (process_of s.routers router) 0)) row among in
      let both = session_open s.routers s.base router made.0 row made.2 in
      let same : made.0 ≡ place = sym both.at ∙ eqb-true row.neighbor place here.1 in
      subst (λ (n : ℕ). IsOpen s.routers s.base router n row) same both

  -- so it has a link
  pub has_link : (router place : ℕ) (row : SessionRow) → session_by s.sessions router place ≡ Some row → (k : Link) × (link_at s.routers s.sessions router place ≡ Some k)
  has_link router place row found =
      let both = established router place row found in
      by_source both (up_at s.routers row.peer.0 row.peer_source.0) refl both.peer_source
    where
      by_source : IsOpen s.routers s.base router place row → (o : Option IfaceAddr) → up_at s.routers row.peer.0 row.peer_source.0 ≡ o → is_some o ≡ true → (k : Link) × (link_at s.routers s.sessions router place ≡ Some k)
      by_source both None up there = absurd (cc)
      by_source both (Some source) up there = (_, linked s.routers s.sessions router place row both.own both.peer source found both.own_end both.peer_end up)
