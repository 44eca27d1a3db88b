-- Messages: what is sent of a candidate toward another system and inside the own one, what isn't sent, and what is accepted.
use Rattle.std.specs.Prelude.{◌≡◌, ℕ, Bool, true, false, List, [], ◌∷◌, length, map, Option, Some, None, codes, refl}
use Rattle.std.specs.List.{range_with_len}
use Rattle.std.specs.Option.{option_map}
use Rattle.nc_types.specs.Config.{ConfigView, ProcessView, ClauseView}
use Rattle.nc_types.specs.declared.config.Neighbor.{Neighbor}
use Rattle.nc_types.specs.declared.config.Via.TheVariants.{Null}
use Rattle.nc_types.specs.declared.config.OriginCode.TheVariants.{Igp, Incomplete}
use Rattle.nc_tables.specs.declared.bgp.Route.{Route}
use Rattle.nc_tables.specs.declared.bgp.Chosen.{Chosen}
use Rattle.nc_tables.specs.declared.bgp.BgpFrom.TheVariants.{Origin, Aggregate, Entry}
use Rattle.nc_tables.specs.Base.{base_table, base_tables}
use Rattle.nc_tables.specs.Longest.{longest}
use Rattle.nc_tables.specs.Policy.{verdict}
use Rattle.nc_tables.specs.Rounds.{Link, Message, message_of, accepted_of, learnt_from, unnamed}
use Rattle.nc_tables.specs.Cases.{address, prefix, interface, neighbor, process, router, refers, candidate}

-- ---- a session: the sender starts from 10.0.12.1, the receiver from 10.0.12.2

-- a map that sets a preference, a metric, an origin and numbers before the path, and one that denies
abbrev pub sets : ClauseView
sets =
    record { map_name = codes "SETS"; number = 10; permit = true; lists = []; community_lists = []; preference = Some 300; metric = Some 50; prepend = 64 ∷ 65 ∷ []; origin = Some Incomplete; communities = None; element = 0 }

abbrev pub denies : ClauseView
denies = record sets { map_name = codes "DENIES"; permit = false }

abbrev pub sender : ProcessView → ConfigView
sender own = router (interface (codes "Loopback0") (address 192 168 0 1) (prefix 192 168 0 1 32) ∷ interface [] (address 10 0 12 1) (prefix 10 0 12 0 30) ∷ []) [] (Some own) (sets ∷ denies ∷ []) []

abbrev pub receiver : ProcessView → ConfigView
receiver own =
    router (interface [] (address 10 0 12 2) (prefix 10 0 12 0 30) ∷ interface [] (address 10 5 0 2) (prefix 10 5 0 0 24) ∷ [])
    (record { prefix = prefix 10 6 0 0 16; via = Null; distance = 1; element = 0 } ∷ []) (Some own) (sets ∷ denies ∷ []) []

-- the ends, by their processes and their statements
abbrev pub link : ProcessView → Neighbor → ProcessView → Neighbor → Bool → Link
link sends to receives from internal =
    record {
      session = record { router = record { 0 = 0 }; neighbor = 0; peer = record { 0 = 1 }; peer_neighbor = 0; source = record { 0 = 0 }; peer_source = record { 0 = 1 }; internal = internal };
      receiver = record { config = receiver receives; process = receives; statement = from };
      sender = record { config = sender sends; process = sends; statement = to };
      source = address 10 0 12 1;
    }

abbrev pub to_receiver : Neighbor
to_receiver = neighbor (address 10 0 12 2) 65002 None None

abbrev pub to_sender : Neighbor
to_sender = neighbor (address 10 0 12 1) 65001 None None

abbrev pub system : ℕ → ProcessView
system asn = process asn 1 [] [] []

-- toward another system, or inside the own one, by the sender's statement
abbrev pub outside : Neighbor → Link
outside to = link (system 65001) to (system 65002) to_sender false

abbrev pub inside : Neighbor → Link
inside to = link (system 65001) to (system 65001) to_sender true

-- what the sender learnt from yet another system, and what it learnt inside its own
abbrev pub from_outside : Chosen
from_outside = candidate (Entry 3) 200 (65009 ∷ []) Igp 77 false 9 (address 10 9 0 9)

abbrev pub from_inside : Chosen
from_inside = candidate (Entry 3) 200 (65009 ∷ []) Igp 77 true 9 (address 10 9 0 9)

-- the route of a message
abbrev pub route : List ℕ → ℕ → ℕ → ℕ → Route
route path hop preference metric =
    record { prefix = prefix 10 1 0 0 24; path = path; next_hop = record { 0 = hop }; preference = preference; metric = metric; origin = Igp; communities = [] }

abbrev pub sent : Link → Chosen → Option Route
sent k b = option_map (λ m. m.route) (message_of k b)

-- ---- toward another system

-- the own number before the path, the sender as the next hop, preference and metric anew
pub anew_outside : sent (outside to_receiver) from_outside ≡ Some (route (65001 ∷ 65009 ∷ []) (address 10 0 12 1) 100 0)
unfolding verdict
anew_outside = refl

-- what was learnt inside is sent outside
pub inner_outside : sent (outside to_receiver) from_inside ≡ Some (route (65001 ∷ 65009 ∷ []) (address 10 0 12 1) 100 0)
unfolding verdict
inner_outside = refl

-- a metric and numbers that the map sets stay, behind the own number; a preference doesn't
pub mapped_outside : sent (outside (record to_receiver { map_out = Some (refers (codes "SETS")) })) from_outside
    ≡ Some (record (route (65001 ∷ 64 ∷ 65 ∷ 65009 ∷ []) (address 10 0 12 1) 100 50) { origin = Incomplete })
unfolding verdict
mapped_outside = refl

-- communities go where the sender's statement says so: what the candidate has, or what the map sets
abbrev pub tagged : Chosen
tagged = record from_outside { route = record from_outside.route { communities = 7 ∷ [] } }

abbrev pub communities_sent : Link → Option (List ℕ)
communities_sent k = option_map (λ r. r.communities) (sent k tagged)

pub with_communities : communities_sent (outside (record to_receiver { send_community = true })) ∷ communities_sent (inside (record to_receiver { send_community = true })) ∷ []
    ≡ Some (7 ∷ []) ∷ Some (7 ∷ []) ∷ []
unfolding verdict
with_communities = refl

-- the receiver's statement has no part in it
pub without_communities : communities_sent (outside to_receiver) ∷ communities_sent (inside to_receiver)
    ∷ communities_sent (link (system 65001) to_receiver (system 65002) (record to_sender { send_community = true }) false) ∷ [] ≡ Some [] ∷ Some [] ∷ Some [] ∷ []
unfolding verdict
without_communities = refl

-- a map sees the communities of the candidate also where none are sent
abbrev pub asking : Link
asking =
    let k = outside (record to_receiver { map_out = Some (refers (codes "ASKS")) }) in
    record k {
      sender = record k.sender {
        config = record (sender (system 65001)) {
          clauses = record sets { map_name = codes "ASKS"; community_lists = refers (codes "C") ∷ [] } ∷ [];
          community_lists = record { name = codes "C"; entries = record { permit = true; members = 7 ∷ []; element = 0 } ∷ [] } ∷ [];
        };
      };
    }

pub seen_unsent : communities_sent asking ≡ Some []
unfolding verdict
seen_unsent = refl

pub denied_outside : sent (outside (record to_receiver { map_out = Some (refers (codes "DENIES")) })) from_outside ≡ None
unfolding verdict
denied_outside = refl

-- the map for what comes in has no part in what goes out
pub other_direction : sent (outside (record to_receiver { map_in = Some (refers (codes "DENIES")) })) from_outside ≡ Some (route (65001 ∷ 65009 ∷ []) (address 10 0 12 1) 100 0)
unfolding verdict
other_direction = refl

-- a path may have 250 numbers as it is sent, and no more
pub longest_sent : option_map (λ r. length r.path) (sent (outside to_receiver) (candidate (Entry 3) 100 (range_with_len 1 249) Igp 0 false 9 9)) ≡ Some 250
unfolding verdict
longest_sent = refl

pub too_long : sent (outside to_receiver) (candidate (Entry 3) 100 (range_with_len 1 250) Igp 0 false 9 9) ≡ None
unfolding verdict
too_long = refl

-- ---- inside the own system

-- all stays
pub kept_inside : sent (inside to_receiver) from_outside ≡ Some (route (65009 ∷ []) (address 10 9 0 9) 200 77)
unfolding verdict
kept_inside = refl

-- but for the next hop with `next-hop-self`, and for what the sender begins
pub next_hop_self : sent (inside (record to_receiver { self_hop = true })) from_outside ≡ Some (route (65009 ∷ []) (address 10 0 12 1) 200 77)
unfolding verdict
next_hop_self = refl

pub own_network : sent (inside to_receiver) (candidate (Origin 0) 100 [] Igp 0 false 0 0) ≡ Some (route [] (address 10 0 12 1) 100 0)
unfolding verdict
own_network = refl

pub own_aggregate : sent (inside to_receiver) (candidate (Aggregate 0) 100 [] Igp 0 false 0 0) ≡ Some (route [] (address 10 0 12 1) 100 0)
unfolding verdict
own_aggregate = refl

-- the receiver's `next-hop-self` is for what the receiver sends
pub of_receiver : sent (link (system 65001) to_receiver (system 65001) (record to_sender { self_hop = true }) true) from_outside ≡ Some (route (65009 ∷ []) (address 10 9 0 9) 200 77)
unfolding verdict
of_receiver = refl

-- what was learnt inside isn't passed on inside
pub not_passed_on : sent (inside to_receiver) from_inside ≡ None
unfolding verdict
not_passed_on = refl

-- what the map sets stays
pub mapped_inside : sent (inside (record to_receiver { map_out = Some (refers (codes "SETS")) })) from_outside
    ≡ Some (record (route (64 ∷ 65 ∷ 65009 ∷ []) (address 10 9 0 9) 300 50) { origin = Incomplete })
unfolding verdict
mapped_inside = refl

-- ---- prefixes that an aggregate holds back

abbrev pub aggregating : Bool → ℕ → ProcessView
aggregating summary_only len =
    record (system 65001) { aggregates = record { prefix = record { base = address 10 1 0 0; len = len }; summary_only = summary_only; element = 0 } ∷ [] }

abbrev pub by_aggregate : ProcessView → ProcessView → Option Route
by_aggregate own other = sent (link own to_receiver other to_sender false) from_outside

abbrev pub sent_anew : Option Route
sent_anew = Some (route (65001 ∷ 65009 ∷ []) (address 10 0 12 1) 100 0)

pub held_back : by_aggregate (aggregating true 16) (system 65002) ≡ None
unfolding verdict
held_back = refl

-- not without `summary-only`, not the aggregate's own prefix, none that is shorter, and not by an aggregate of the receiver
pub beside_aggregate : by_aggregate (aggregating false 16) (system 65002) ∷ by_aggregate (aggregating true 24) (system 65002)
    ∷ by_aggregate (aggregating true 25) (system 65002) ∷ by_aggregate (system 65001) (aggregating true 16) ∷ []
    ≡ sent_anew ∷ sent_anew ∷ sent_anew ∷ sent_anew ∷ []
unfolding verdict
beside_aggregate = refl

-- ---- what is accepted

-- a message with a path and a next hop, over a session with another system
abbrev pub message : Neighbor → List ℕ → ℕ → Message
message from path hop =
    record {
      link = link (system 65001) to_receiver (system 65002) from false;
      best = from_outside;
      out = record { route = route path hop 100 0; clause = None; names = unnamed };
      route = route path hop 100 0;
    }

-- the candidate that the receiver learns of it, by its own base table
abbrev pub learnt : Neighbor → List ℕ → ℕ → Option Chosen
learnt from path hop = option_map (learnt_from 4) (accepted_of (base_tables (receiver (system 65002) ∷ [])) 0 (message from path hop))

-- with the router id of the sender, and the address of the statement
pub accepted : learnt to_sender (65001 ∷ 65009 ∷ []) (address 10 0 12 1)
    ≡ Some (record { route = route (65001 ∷ 65009 ∷ []) (address 10 0 12 1) 100 0; from = Entry 4; internal = false; sender_id = record { 0 = address 192 168 0 1 }; sender = record { 0 = address 10 0 12 1 } })
unfolding base_table longest verdict
accepted = refl

-- the next hop may be any address toward which a hit leads
pub other_hop : option_map (λ x. x.route.next_hop.0) (learnt to_sender (65001 ∷ []) (address 10 5 0 9)) ≡ Some (address 10 5 0 9)
unfolding base_table longest verdict
other_hop = refl

pub looped : learnt to_sender (65001 ∷ 65002 ∷ 65009 ∷ []) (address 10 0 12 1) ≡ None
unfolding base_table longest verdict
looped = refl

-- the sender's number isn't looked for
pub not_looped : option_map (λ x. x.route.path) (learnt to_sender (65001 ∷ 65001 ∷ []) (address 10 0 12 1)) ≡ Some (65001 ∷ 65001 ∷ [])
unfolding base_table longest verdict
not_looped = refl

-- the next hop is the receiver's own
pub own_hop : learnt to_sender (65001 ∷ []) (address 10 5 0 2) ≡ None
unfolding base_table longest verdict
own_hop = refl

-- no row leads toward the next hop, or one that discards
pub no_row : learnt to_sender (65001 ∷ []) (address 10 9 0 9) ≡ None
unfolding base_table longest verdict
no_row = refl

pub discarded_hop : learnt to_sender (65001 ∷ []) (address 10 6 0 9) ≡ None
unfolding base_table longest verdict
discarded_hop = refl

-- the receiver's map sets, or denies; its map for what goes out has no part in it
pub mapped_in : option_map (λ x. x.route) (learnt (record to_sender { map_in = Some (refers (codes "SETS")) }) (65001 ∷ []) (address 10 0 12 1))
    ≡ Some (record (route (64 ∷ 65 ∷ 65001 ∷ []) (address 10 0 12 1) 300 50) { origin = Incomplete })
unfolding base_table longest verdict
mapped_in = refl

pub denied_in : learnt (record to_sender { map_in = Some (refers (codes "DENIES")) }) (65001 ∷ []) (address 10 0 12 1) ≡ None
unfolding base_table longest verdict
denied_in = refl

pub out_not_in : option_map (λ x. x.route.preference) (learnt (record to_sender { map_out = Some (refers (codes "DENIES")) }) (65001 ∷ []) (address 10 0 12 1)) ≡ Some 100
unfolding base_table longest verdict
out_not_in = refl

-- over a session inside the system it is internal
pub learnt_inside : map (λ k. option_map (λ a. (learnt_from 4 a).internal) (accepted_of (base_tables (receiver (system 65001) ∷ [])) 0 (record (message to_sender (65009 ∷ []) (address 10 0 12 1)) { link = k })))
    (inside to_receiver ∷ outside to_receiver ∷ [])
    ≡ Some true ∷ Some false ∷ []
unfolding base_table longest verdict
learnt_inside = refl
