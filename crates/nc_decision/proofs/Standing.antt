-- The session of a neighbor statement, found among those of its router.
use Rattle.std.proofs.Common.{◌≡◌, ℕ, ◌<◌, ◌≤◌, List, [], length, Option, Some, None, option_and_then, slice_get, sym, ap, subst, ◌∙◌, arith, inl, inr}
use Rattle.std.specs.Option.{option_map_or}
use Rattle.std.proofs.lemmas.Bool.{cases_lt}
use Rattle.std.proofs.lemmas.Option.{slice_get_cases, slice_get_past}
use Rattle.nc_types.specs.Cidr.{Cidr}
use Rattle.nc_types.specs.declared.config.RouterId.{RouterId}
use Rattle.nc_tables.specs.Rounds.{BgpRowView, best_at}
use Rattle.nc_types.specs.Config.{ConfigView, ProcessView}
use Rattle.nc_types.specs.declared.config.Neighbor.{Neighbor}
use Rattle.nc_tables.specs.declared.base.BaseRow.{BaseRow}
use Rattle.nc_tables.specs.declared.bgp.SessionRow.{SessionRow}
use Rattle.nc_tables.specs.Sessions.{process_of}
use Rattle.nc_sessions.specs.Statements.{statements_of}
use Rattle.nc_decision.specs.declared.peerings.Peering.{Peering}
use Rattle.nc_decision.specs.Peerings.{ArePeerings, IsPeeringAt, RouterPeerings}
use Rattle.nc_message.proofs.Ends.{none_linked_past}
use Rattle.nc_decision.proofs.Processes.{has_config}

-- the candidate of a peer is the same by either of its names
pub best_of_same : (table : List (List BgpRowView)) (prefix : Cidr) → {a b : RouterId} → a ≡ b → best_at table a.0 prefix ≡ best_at table b.0 prefix
best_of_same table prefix same = ap (λ (r : RouterId). best_at table r.0 prefix) same

module _ (routers : List ConfigView) (tables : List (List BaseRow)) (sessions : List (List SessionRow)) (router : ℕ) (peerings : RouterPeerings) (are : ArePeerings routers tables sessions router peerings) where
  -- what stands at the place of a statement
  pub stands_at : (place : ℕ) → place < length peerings.sessions → (o : Option Peering) → o ≡ option_and_then (λ (q : Option Peering). q) (slice_get peerings.sessions place) → IsPeeringAt routers tables sessions router place o
  stands_at place lt o is = elim (slice_get_cases peerings.sessions place).1 [
    | inl r ↦
        let same : r.0 ≡ o = sym (is ∙ ap (option_and_then (λ (q : Option Peering). q)) r.2) in
        subst (IsPeeringAt routers tables sessions router place) same (are.each.each place r.0 r.2)
    | inr r ↦ let past : length peerings.sessions ≤ place = r.0 in absurd (omega arith)
  ]

  -- at any place: behind the last statement nothing stands
  pub stands_or_none : (place : ℕ) (o : Option Peering) → o ≡ option_and_then (λ (q : Option Peering). q) (slice_get peerings.sessions place) → IsPeeringAt routers tables sessions router place o
  stands_or_none place o is = elim (cases_lt place (length peerings.sessions)) [
    | inl lt ↦ stands_at place lt o is
    | inr past ↦
        let none : o ≡ None = is ∙ ap (option_and_then (λ (q : Option Peering). q)) (slice_get_past peerings.sessions place past) in
        subst (IsPeeringAt routers tables sessions router place) (sym none)
        (record { peering = tt; own = tt; none = none_linked_past routers sessions router place (omega (arith, past, are.each.count)) })
  ]

  -- there is one for each statement of the router's process
  pub as_many : (p : ProcessView) → process_of routers router ≡ Some p → length peerings.sessions ≡ length p.neighbors
  as_many p e =
      let config = has_config routers router p e in
      let own : statements_of routers router ≡ p.neighbors = of_config config.0 config.1 config.2 in
      are.each.count ∙ ap (length {A = Neighbor}) own
    where
      of_config : (c : ConfigView) → slice_get routers router ≡ Some c → c.process ≡ Some p → statements_of routers router ≡ p.neighbors
      of_config c at is =
          ap (λ (o : Option ConfigView). option_map_or (λ (k : ConfigView). option_map_or (λ (q : ProcessView). q.neighbors) k.process []) o []) at
          ∙ ap (λ (o : Option ProcessView). option_map_or (λ (q : ProcessView). q.neighbors) o []) is
