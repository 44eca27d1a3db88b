-- The ends of a session: what they are of a router, and which a link has.
use Rattle.std.proofs.Common.{◌≡◌, ℕ, ◌<◌, List, length, Option, Some, None, All, refl, sym, subst, ◌∙◌}
use Rattle.std.specs.List.{slice_get}
use Rattle.std.specs.Option.{option_map, option_and_then}
use Rattle.std.proofs.lemmas.Option.{option_and_then_some, none-some, same_Some}
use Rattle.nc_types.specs.declared.config.IfaceAddr.{IfaceAddr}
use Rattle.nc_types.specs.declared.config.Neighbor.{Neighbor}
use Rattle.nc_types.specs.Config.{ConfigView, ProcessView}
use Rattle.nc_types.specs.Network.{up_at}
use Rattle.nc_types.specs.WellFormed.{IsWellFormed}
use Rattle.nc_tables.specs.declared.bgp.SessionRow.{SessionRow}
use Rattle.nc_tables.specs.Sessions.{End, end_at}
use Rattle.nc_tables.specs.Rounds.{Link, session_by, link_at}
use Rattle.nc_fact.proofs.Few.{formed_at}
use Rattle.nc_rules_route.proofs.Numbers.{process_element, neighbor_element}

module _ (routers : List ConfigView) where
  -- an end is the neighbor statement at a place of a router's process
  pub record IsEnd (router place : ℕ) (e : End) : Type 0 where
    pub config : slice_get routers router ≡ Some e.config
    pub process : e.config.process ≡ Some e.process
    pub statement : slice_get e.process.neighbors place ≡ Some e.statement

  pub end_is : (router place : ℕ) (e : End) → end_at routers router place ≡ Some e → IsEnd router place e
  end_is router place e is =
      option_and_then_some (λ (c : ConfigView). option_and_then (made c) c.process) (slice_get routers router) e is (λ c at in_config.
      option_and_then_some (made c) c.process e in_config (λ p own in_process. by_statement c p at own (slice_get p.neighbors place) refl in_process))
    where
      with : ConfigView → ProcessView → Neighbor → End
      with c p n = record { config = c; process = p; statement = n }

      made : ConfigView → ProcessView → Option End
      made c p = option_map (with c p) (slice_get p.neighbors place)

      by_statement : (c : ConfigView) (p : ProcessView) → slice_get routers router ≡ Some c → c.process ≡ Some p → (o : Option Neighbor) → slice_get p.neighbors place ≡ o → option_map (with c p) o ≡ Some e → IsEnd router place e
      by_statement c p at own None there is = absurd (none-some e is)
      by_statement c p at own (Some n) there is = subst (IsEnd router place) (same_Some (with c p n) e is) (record { config = at; process = own; statement = there })

  -- the elements of an end exist
  pub end_elements_within : (router place : ℕ) (e : End) → IsWellFormed e.config → IsEnd router place e → (e.process.element < length e.config.elements) × (e.statement.element < length e.config.elements)
  end_elements_within router place e formed is = (process_element e.config formed e.process is.process, neighbor_element e.config formed e.process is.process place e.statement is.statement)

module _ (routers : List ConfigView) (sessions : List (List SessionRow)) where
  -- a link is of the session of a neighbor statement, and has the ends at the places that the session names
  pub record IsLink (router place : ℕ) (k : Link) : Type 0 where
    pub session : session_by sessions router place ≡ Some k.session
    pub receiver : end_at routers router place ≡ Some k.receiver
    pub sender : end_at routers k.session.peer.0 k.session.peer_neighbor ≡ Some k.sender

  pub link_is : (router place : ℕ) (k : Link) → link_at routers sessions router place ≡ Some k → IsLink router place k
  link_is router place k is =
      option_and_then_some by_session (session_by sessions router place) k is (λ s at in_session.
      option_and_then_some (by_receiver s) (end_at routers router place) k in_session (λ receiver at_receiver in_receiver.
      option_and_then_some (by_sender s receiver) (end_at routers s.peer.0 s.peer_neighbor) k in_receiver (λ sender at_sender in_sender.
      by_source s receiver sender at at_receiver at_sender (up_at routers s.peer.0 s.peer_source.0) in_sender)))
    where
      with : SessionRow → End → End → IfaceAddr → Link
      with s receiver sender source = record { session = s; receiver = receiver; sender = sender; source = source.addr.0 }

      by_sender : SessionRow → End → End → Option Link
      by_sender s receiver sender = option_map (with s receiver sender) (up_at routers s.peer.0 s.peer_source.0)

      by_receiver : SessionRow → End → Option Link
      by_receiver s receiver = option_and_then (by_sender s receiver) (end_at routers s.peer.0 s.peer_neighbor)

      by_session : SessionRow → Option Link
      by_session s = option_and_then (by_receiver s) (end_at routers router place)

      by_source : (s : SessionRow) (receiver sender : End) → session_by sessions router place ≡ Some s → end_at routers router place ≡ Some receiver → end_at routers s.peer.0 s.peer_neighbor ≡ Some sender
          → (o : Option IfaceAddr) → option_map (with s receiver sender) o ≡ Some k → IsLink router place k
      by_source s receiver sender at at_receiver at_sender None is = absurd (none-some k is)
      by_source s receiver sender at at_receiver at_sender (Some source) is =
          subst (IsLink router place) (same_Some (with s receiver sender source) k is) (record { session = at; receiver = at_receiver; sender = at_sender })

  -- where the parts of a link are found, it is
  pub linked : (router place : ℕ) (s : SessionRow) (receiver sender : End) (source : IfaceAddr) → session_by sessions router place ≡ Some s → end_at routers router place ≡ Some receiver → end_at routers s.peer.0 s.peer_neighbor ≡ Some sender
      → up_at routers s.peer.0 s.peer_source.0 ≡ Some source → link_at routers sessions router place ≡ Some (record { session = s; receiver = receiver; sender = sender; source = source.addr.0 })
  linked router place s receiver sender source at at_receiver at_sender up = rw (at, at_receiver, at_sender, up) refl

-- the elements of an end exist in the configuration that its router has
pub elements_exist : (routers : List ConfigView) → All IsWellFormed routers → (router place : ℕ) (e : End) → end_at routers router place ≡ Some e → (c : ConfigView) → slice_get routers router ≡ Some c
    → (e.process.element < length c.elements) × (e.statement.element < length c.elements)
elements_exist routers each router place e is c at =
    let end = end_is routers router place e is in
    let same : e.config ≡ c = same_Some e.config c (sym end.config ∙ at) in
    subst (λ (d : ConfigView). (e.process.element < length d.elements) × (e.statement.element < length d.elements)) same
    (end_elements_within routers router place e (formed_at routers each router e.config end.config) end)
