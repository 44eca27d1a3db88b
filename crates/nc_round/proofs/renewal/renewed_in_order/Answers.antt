use Rattle.std.proofs.Common.{◌≡◌, ℕ, ◌<◌, ◌==◌, Bool, cond, not, List, [], All, Contains, Option, Some, None, length, map, filter, slice_index_or, refl, sym, ap, subst, arith, inl, inr}
use Rattle.std.specs.List.{flat_map, list_any}
use Rattle.std.proofs.lemmas.Bool.{eq-eqb}
use Rattle.std.proofs.lemmas.List.{length-map}
use Rattle.nc_types.specs.Cidr.{Cidr}
use Rattle.nc_types.specs.Config.{ConfigView, config_view}
use Rattle.nc_types.specs.declared.config.AggregateStatement.{AggregateStatement}
use Rattle.nc_types.proofs.Members.{In, in_left, in_right, in_map, in_filter, in_by_contains, contains_by_in, all_in, passes_some}
use Rattle.nc_tables.specs.declared.bgp.SessionRow.{SessionRow}
use Rattle.nc_tables.specs.Rounds.{BgpRowView, is_longer_in}
use Rattle.nc_decision.specs.BestPath.{leaves_best_path}
use Rattle.nc_message.specs.declared.inputs.RoutingInputs.{RoutingInputs}
use Rattle.nc_round.specs.Rows.{listed, row_key}
use Rattle.nc_round.specs.Keys.{Key, key}
use Rattle.nc_round.specs.Waking.{aggregates_of, changed_at, affected_over, woken_at, IsAffectedByPeer, IsAround, IsWoken}
use Rattle.nc_round.proofs.Lists.{in_flat_map, in_filter_map}
use Rattle.nc_round.proofs.renewal.renewed_in_order.Goals as goal

-- a row that changed is among those that changed at its router
there : (changed : List Key) (router : ℕ) (p : Cidr) → In (key router p) changed → In p (changed_at changed router)
there changed router p i =
    in_filter_map (λ (k : Key). cond {A = Option Cidr} (k.0.0 == router) (Some k.1) None) changed (key router p) p i (ap (λ (b : Bool). cond {A = Option Cidr} b (Some p) None) (eq-eqb router router refl))

module _ (i : RoutingInputs) (table : List (List BgpRowView)) (changed : List Key) (lists : List (List Cidr)) (within : All (λ (k : Key). k.0.0 < length i.network.now) changed)
    (each : (r : ℕ) → r < length i.network.now → slice_index_or lists r [] ≡ changed_at changed r) where
  -- so it is in the list of the router
  is_listed : (router : ℕ) (p : Cidr) → Contains changed (key router p) → In p (slice_index_or lists router [])
  is_listed router p some =
      let j = in_by_contains changed (key router p) some in
      subst (In p) (sym (each router (all_in (λ (k : Key). k.0.0 < length i.network.now) changed within (key router p) j))) (there changed router p j)

  module _ (router : ℕ) (p : Cidr) where
    abbrev sessions_there : List SessionRow
    sessions_there = slice_index_or i.sessions.now router []

    abbrev heard : List Cidr
    heard = flat_map (affected_over i table lists router) sessions_there

    abbrev is_around : AggregateStatement → Bool
    is_around a = list_any (λ (q : Cidr). is_longer_in q a.prefix) (slice_index_or lists router [])

    abbrev around : List AggregateStatement
    around = filter is_around (aggregates_of i.network.now router)

    by_session : IsAffectedByPeer i table changed router p → In p (woken_at i table lists router)
    by_session h =
        in_left heard (map (λ (a : AggregateStatement). a.prefix) around) p
        (in_flat_map (affected_over i table lists router) sessions_there h.session p (in_by_contains sessions_there h.session h.own)
        (in_filter (λ (q : Cidr). not (leaves_best_path i.network.now i.base.now i.sessions.now table router h.session.neighbor q)) (slice_index_or lists h.session.peer.0 []) p (is_listed h.session.peer.0 p h.row) (ap not h.counts)))

    by_aggregate : IsAround i.network.now changed router p → In p (woken_at i table lists router)
    by_aggregate h =
        in_right heard (map (λ (a : AggregateStatement). a.prefix) around) p
        (subst (λ (q : Cidr). In q (map (λ (a : AggregateStatement). a.prefix) around)) h.same
        (in_map (λ (a : AggregateStatement). a.prefix) around h.aggregate
        (in_filter is_around (aggregates_of i.network.now router) h.aggregate (in_by_contains (aggregates_of i.network.now router) h.aggregate h.own)
        (passes_some (λ (q : Cidr). is_longer_in q h.aggregate.prefix) (slice_index_or lists router []) h.inside (is_listed router h.inside h.row) h.longer))))

    is_woken : IsWoken i table changed router p → Contains (woken_at i table lists router) p
    is_woken (inl h) = contains_by_in (woken_at i table lists router) p (by_session h)
    is_woken (inr h) = contains_by_in (woken_at i table lists router) p (by_aggregate h)

pub returns-clause-woken : goal.returns-clause-woken
returns-clause-woken c router p lt within woken =
    let i = c.args.inputs in
    let network = i.network.now in
    let lists : List (List Cidr) = listed c.in_ok-lists.lists in
    let each : (r : ℕ) → r < length network → slice_index_or lists r [] ≡ changed_at (map row_key c.args.changed.now) r =
    λ r less. c.in_ok-lists.ensures.each r (omega (arith, length-map c.routers.result.now config_view, ap (length {A = ConfigView}) c.routers.ensures.routers)) in
    c.in_ok-made.ensures.woken router p lt (is_woken i c.args.ribs.now.rows (map row_key c.args.changed.now) lists within each router p woken)
