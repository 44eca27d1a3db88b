-- How BGP routes spread: messages, what is accepted of them, rounds, and the state in which nothing changes.
use Rattle.std.specs.Prelude.{◌≡◌, ℕ, zero, suc, ◌<◌, ◌≤◌, Bool, true, false, not, ◌&&◌, ◌||◌, ◌==◌, nat_lt, List, [], ◌∷◌, ◌++◌, length, map, Option, Some, None, option_and_then, slice_get, slice_index_or, All, AllPairs, if◌then◌else◌}
use Rattle.std.specs.List.{filter_map, find, flat_map, list_any, range_with_len}
use Rattle.std.specs.declared.cmp.Ordering.TheVariants.{Less}
use Rattle.std.specs.Option.{option_map, option_map_or}
use Rattle.nc_types.specs.declared.TheConstants.{DEFAULT_PREFERENCE, MULTIPATH_LIMIT}
use Rattle.nc_types.specs.Cidr.{Cidr, IsCidr}
use Rattle.nc_types.specs.Config.{ConfigView, ProcessView}
use Rattle.nc_types.specs.Network.{up_at}
use Rattle.nc_types.specs.declared.config.NetworkStatement.{NetworkStatement}
use Rattle.nc_types.specs.declared.config.AggregateStatement.{AggregateStatement}
use Rattle.nc_types.specs.declared.config.Reference.{Reference}
use Rattle.nc_types.specs.declared.config.OriginCode.TheVariants.{Igp}
use Rattle.nc_tables.specs.declared.base.BaseRow.{BaseRow}
use Rattle.nc_tables.specs.declared.bgp.SessionRow.{SessionRow}
use Rattle.nc_tables.specs.declared.bgp.Route.{Route}
use Rattle.nc_tables.specs.declared.bgp.Chosen.{Chosen}
use Rattle.nc_tables.specs.declared.bgp.BgpRow.{BgpRow}
use Rattle.nc_tables.specs.declared.bgp.BgpFrom.{BgpFrom}
use Rattle.nc_tables.specs.declared.bgp.BgpFrom.TheVariants.{Origin, Aggregate, Entry}
use Rattle.nc_tables.specs.Base.{covers, same_prefix, prefix_cmp, is_own}
use Rattle.nc_tables.specs.Reach.{hits, rows_of}
use Rattle.nc_tables.specs.Sessions.{End, first_of, router_id, process_of, end_at, session_in}
use Rattle.nc_tables.specs.declared.policy.Names.{Names}
use Rattle.nc_tables.specs.Policy.{Verdict, Deny, Permit, verdict, is_long}
use Rattle.nc_tables.specs.Choice.{choose, is_learnt}
use Rattle.nc_tables.specs.Order.{in_order}

-- the chosen candidates of a prefix, best first
pub record BgpRowView : Type 0 where
  pub prefix : Cidr
  pub chosen : List Chosen

abbrev pub bgp_row_view : BgpRow → BgpRowView
bgp_row_view r = record { prefix = r.prefix; chosen = r.chosen }

-- a prefix inside a shorter one
abbrev pub is_longer_in : Cidr → Cidr → Bool
is_longer_in p outer = nat_lt outer.len p.len && covers outer p.base

-- a row of a longer prefix inside another has a chosen candidate
abbrev pub has_longer : List BgpRowView → Cidr → Bool
has_longer rows outer = list_any (λ row. is_longer_in row.prefix outer && nat_lt 0 (length row.chosen)) rows

-- what each item makes at its place, the first of which has this place
abbrev pub made_from : {A B : Type 0} → (ℕ → A → Option B) → ℕ → List A → List B
made_from make place [] = []
made_from make place (x ∷ xs) = option_map_or (λ y. y ∷ made_from make (suc place) xs) (make place x) (made_from make (suc place) xs)

-- prefixes that aren't among those behind them
abbrev pub distinct : List Cidr → List Cidr
distinct [] = []
distinct (p ∷ ps) = if list_any (same_prefix p) ps then distinct ps else p ∷ distinct ps

-- ---- tables

-- the chosen candidates of a prefix, among the rows of a router
abbrev pub chosen_in : List BgpRowView → Cidr → List Chosen
chosen_in rows p = option_map_or (λ row. row.chosen) (find (λ row. same_prefix row.prefix p) rows) []

-- the rows of a router: strictly in order of prefix, each with a candidate and with no more than are used at once, and each candidate
-- a route of the row's prefix
pub record AreBgpRows (rows : List BgpRowView) : Type 0 where
  pub ordered : AllPairs (λ a b. prefix_cmp a.prefix b.prefix ≡ Less) rows
  pub valid : All (λ row. IsCidr row.prefix.base row.prefix.len) rows
  pub some : All (λ row. 0 < length row.chosen) rows
  pub few : All (λ row. length row.chosen ≤ MULTIPATH_LIMIT) rows
  pub own : All (λ row. All (λ x. x.route.prefix ≡ row.prefix) row.chosen) rows

module _ (table : List (List BgpRowView)) where
  -- the chosen candidates of a prefix at a router, and the best of them
  abbrev pub chosen_at : ℕ → Cidr → List Chosen
  chosen_at router p = chosen_in (slice_index_or table router []) p

  abbrev pub best_at : ℕ → Cidr → Option Chosen
  best_at router p = first_of (chosen_at router p)

  -- an aggregate is active where a longer prefix inside it has a chosen candidate
  abbrev pub is_active : ℕ → AggregateStatement → Bool
  is_active router a = has_longer (slice_index_or table router []) a.prefix

-- ---- what a map makes of a route

-- a route that a policy let pass, with the place of the clause that decided and the entries by which it matched, where there are such
pub record Passed : Type 0 where
  pub route : Route
  pub clause : Option ℕ
  pub names : Names

-- no entry is named
abbrev pub unnamed : Names
unnamed = record { entry = None; community = None }

abbrev pub passed_by : Verdict → Option Passed
passed_by Deny = None
passed_by (Permit route clause names) = Some (record { route = route; clause = Some clause; names = names })

-- what the map of a statement makes of a route: without a map it stays as it is
abbrev pub passed : ConfigView → Option Reference → Route → Option Passed
passed c None route = Some (record { route = route; clause = None; names = unnamed })
passed c (Some reference) route = passed_by (verdict c reference.name route)

-- ---- messages

-- both ends of a session, and the address from which its sender starts
pub record Link : Type 0 where
  pub session : SessionRow
  pub receiver : End
  pub sender : End
  pub source : ℕ

-- a message: over which session, of which candidate of the sender, what the sender's map made of it, and the route as it is sent
pub record Message : Type 0 where
  pub link : Link
  pub best : Chosen
  pub out : Passed
  pub route : Route

-- a message that is accepted, and what the receiver's map made of its route
pub record Accepted : Type 0 where
  pub message : Message
  pub into : Passed

-- an aggregate of the sender holds the prefix back: it sends itself alone
abbrev pub is_held_back : ProcessView → Cidr → Bool
is_held_back p prefix = list_any (λ a. a.summary_only && is_longer_in prefix a.prefix) p.aggregates

-- what was learnt inside the system isn't passed on inside it
abbrev pub is_kept_inside : Link → Chosen → Bool
is_kept_inside k b = k.session.internal && b.internal

-- before the out map: toward another system the metric begins anew
abbrev pub outgoing : Bool → Route → Route
outgoing true r = r
outgoing false r = record r { metric = 0 }

-- what the sender's map for the receiver makes of the best candidate
abbrev pub out_of : Link → Chosen → Option Passed
out_of k b = passed k.sender.config k.sender.statement.map_out (outgoing k.session.internal b.route)

-- toward another system the own number goes before the path, the sender is the next hop, and the preference begins anew
abbrev pub sent_outside : ℕ → ℕ → Route → Route
sent_outside asn source r = record r { path = asn ∷ r.path; next_hop = record { 0 = source }; preference = DEFAULT_PREFERENCE }

-- within the system the sender is the next hop of what it begins itself, and where its statement says so
abbrev pub sent_inside : ℕ → Bool → Route → Route
sent_inside source self_hop r = if self_hop then record r { next_hop = record { 0 = source } } else r

-- communities are carried where the sender's statement says so
abbrev pub carried : Bool → Route → Route
carried send r = if send then r else record r { communities = [] }

-- a route as it is sent, behind the out map
abbrev pub sent_over : Link → Chosen → Route → Route
sent_over k b r =
    let own = carried k.sender.statement.send_community r in
    if k.session.internal then sent_inside k.source (k.sender.statement.self_hop || not (is_learnt b.from)) own
    else sent_outside k.sender.process.asn k.source own

abbrev pub message_with : Link → Chosen → Passed → Option Message
message_with k b out =
    if is_long (sent_over k b out.route) then None else Some (record { link = k; best = b; out = out; route = sent_over k b out.route })

-- the message over a session of the sender's best candidate: it is sent where none of these holds, in this order
abbrev pub message_of : Link → Chosen → Option Message
message_of k b =
    if is_held_back k.sender.process b.route.prefix then None else (if is_kept_inside k b then None else option_and_then (message_with k b) (out_of k b))

-- the path of a message holds the receiver's own system
abbrev pub is_looped : Message → Bool
is_looped m = list_any (λ n. n == m.link.receiver.process.asn) m.route.path

-- its next hop is an address of the receiver's own
abbrev pub has_own_hop : Message → Bool
has_own_hop m = is_own m.link.receiver.config.interfaces m.route.next_hop.0

-- the candidate that is learnt from a message which is accepted, by the place of the receiver's statement
abbrev pub learnt_from : ℕ → Accepted → Chosen
learnt_from place a =
    record {
      route = a.into.route;
      from = Entry place;
      internal = a.message.link.session.internal;
      sender_id = record { 0 = router_id a.message.link.sender.config };
      sender = a.message.link.receiver.statement.addr;
    }

module _ (sessions : List (List SessionRow)) where
  -- the session of a neighbor statement of a router
  abbrev pub session_by : ℕ → ℕ → Option SessionRow
  session_by router place = session_in (slice_index_or sessions router []) place

module _ (tables : List (List BaseRow)) where
  -- no hit leads toward the next hop of a message
  abbrev pub is_unresolved : ℕ → Message → Bool
  is_unresolved router m = not (nat_lt 0 (length (hits tables router m.route.next_hop.0)))

  -- what a router makes of a message: it is accepted where none of the three holds and its map permits
  abbrev pub accepted_of : ℕ → Message → Option Accepted
  accepted_of router m =
      if is_looped m then None else (if has_own_hop m then None else (if is_unresolved router m then None
      else option_map (λ into. record { message = m; into = into }) (passed m.link.receiver.config m.link.receiver.statement.map_in m.route)))

module _ (routers : List ConfigView) (sessions : List (List SessionRow)) where
  -- the ends of the session of a neighbor statement
  abbrev pub link_at : ℕ → ℕ → Option Link
  link_at router place =
      option_and_then (λ s. option_and_then (λ receiver. option_and_then (λ sender. option_map (λ source.
      record { session = s; receiver = receiver; sender = sender; source = source.addr.0 })
      (up_at routers s.peer.0 s.peer_source.0)) (end_at routers s.peer.0 s.peer_neighbor)) (end_at routers router place)) (session_by sessions router place)

-- ---- candidates

-- the candidate of a prefix that a router itself begins, of a network or of an aggregate
abbrev pub begun : Cidr → BgpFrom → Chosen
begun p from =
    record {
      route = record { prefix = p; path = []; next_hop = record { 0 = 0 }; preference = DEFAULT_PREFERENCE; metric = 0; origin = Igp; communities = [] };
      from = from;
      internal = false;
      sender_id = record { 0 = 0 };
      sender = record { 0 = 0 };
    }

-- the prefixes that a router begins
abbrev pub prefixes_in : ConfigView → List Cidr
prefixes_in c = option_map_or (λ p. map (λ n. n.prefix) p.networks ++ map (λ a. a.prefix) p.aggregates) c.process []

-- all prefixes that any router begins, in order
abbrev pub prefixes : List ConfigView → List Cidr
prefixes routers = in_order prefix_cmp (distinct (flat_map prefixes_in routers))

-- those candidates of a prefix that a process chooses, best first
abbrev pub chosen_by : ProcessView → List Chosen → List Chosen
chosen_by p candidates = filter_map (slice_get candidates) (choose candidates p.max_paths p.relax)

-- the row of a prefix, if it has a candidate
abbrev pub row_of : Cidr → List Chosen → Option BgpRowView
row_of prefix [] = None
row_of prefix (x ∷ xs) = Some (record { prefix = prefix; chosen = x ∷ xs })

module _ (routers : List ConfigView) (tables : List (List BaseRow)) (sessions : List (List SessionRow)) (table : List (List BgpRowView)) where
  -- the message to a neighbor statement of a router for a prefix, if one is sent
  unfoldable pub message_at : ℕ → ℕ → Cidr → Option Message
  message_at router place prefix =
      option_and_then (λ k. option_and_then (message_of k) (best_at table k.session.peer.0 prefix)) (link_at routers sessions router place)

  -- what is accepted of it
  unfoldable pub accepted_at : ℕ → ℕ → Cidr → Option Accepted
  accepted_at router place prefix = option_and_then (accepted_of tables router) (message_at router place prefix)

  -- the candidate that is learnt from a neighbor
  abbrev pub entry_at : ℕ → ℕ → Cidr → Option Chosen
  entry_at router place prefix = option_map (learnt_from place) (accepted_at router place prefix)

  -- a network whose prefix has a row in the base table
  abbrev pub origin_at : ℕ → ℕ → NetworkStatement → Cidr → Option Chosen
  origin_at router place n prefix =
      if same_prefix n.prefix prefix && list_any (λ row. same_prefix row.prefix prefix) (rows_of tables router) then Some (begun prefix (Origin place)) else None

  -- an aggregate that is active
  abbrev pub aggregate_at : ℕ → ℕ → AggregateStatement → Cidr → Option Chosen
  aggregate_at router place a prefix =
      if same_prefix a.prefix prefix && is_active table router a then Some (begun prefix (Aggregate place)) else None

  -- all candidates of a prefix at a router: its networks, its aggregates, and what it learns
  abbrev pub candidates_at : ℕ → ProcessView → Cidr → List Chosen
  candidates_at router p prefix =
      made_from (λ place n. origin_at router place n prefix) 0 p.networks
      ++ (made_from (λ place a. aggregate_at router place a prefix) 0 p.aggregates
      ++ made_from (λ place n. entry_at router place prefix) 0 p.neighbors)

  -- ---- rounds

  -- what is chosen anew of a prefix at a router
  abbrev pub chosen_anew : ℕ → Cidr → List Chosen
  chosen_anew router prefix = option_map_or (λ p. chosen_by p (candidates_at router p prefix)) (process_of routers router) []

  -- the row of a prefix at a router in the next table
  abbrev pub row_at : ℕ → Cidr → Option BgpRowView
  row_at router prefix = row_of prefix (chosen_anew router prefix)

  abbrev pub rows_anew : ℕ → List BgpRowView
  rows_anew router = filter_map (row_at router) (prefixes routers)

  -- the next table: every row anew from the candidates that come from this one
  abbrev pub round : List (List BgpRowView)
  round = map rows_anew (range_with_len 0 (length routers))

-- ---- the stable state

-- no route anywhere
abbrev pub no_routes : List ConfigView → List (List BgpRowView)
no_routes routers = map (λ c. []) routers

module _ (routers : List ConfigView) (tables : List (List BaseRow)) (sessions : List (List SessionRow)) where
  -- the table after so many rounds
  unfoldable pub after : ℕ → List (List BgpRowView)
  after zero = no_routes routers
  after (suc k) = round routers tables sessions (after k)

  -- a round changes nothing behind so many rounds
  abbrev pub IsSettled : ℕ → Type 0
  IsSettled k = round routers tables sessions (after k) ≡ after k

  -- the state after the least number of rounds below a bound behind which nothing changes
  pub record IsStable (rounds : ℕ) (table : List (List BgpRowView)) : Type 0 where
    pub count : ℕ
    pub within : count < rounds
    pub settled : IsSettled count
    pub least : (k : ℕ) → k < count → ¬ IsSettled k
    pub state : table ≡ after count

  -- each of so many rounds changes something
  abbrev pub IsUnstable : ℕ → Type 0
  IsUnstable rounds = (k : ℕ) → k < rounds → ¬ IsSettled k
