-- Small networks on which the definitions of the routing state are computed and compared with what was worked out by hand.
use Rattle.std.specs.Prelude.{◌≡◌, ◌*◌, ◌+◌, ℕ, Bool, false, List, [], map, Option, Some, None}
use Rattle.nc_types.specs.Cidr.{Cidr}
use Rattle.nc_types.specs.Config.{ConfigView, ProcessView, ClauseView, PrefixListView}
use Rattle.nc_types.specs.declared.config.Interface.{Interface}
use Rattle.nc_types.specs.declared.config.Neighbor.{Neighbor}
use Rattle.nc_types.specs.declared.config.OriginCode.{OriginCode}
use Rattle.nc_types.specs.declared.config.Reference.{Reference}
use Rattle.nc_types.specs.declared.config.StaticRoute.{StaticRoute}
use Rattle.nc_types.specs.declared.config.Via.TheVariants.{Hop}
use Rattle.nc_tables.specs.declared.bgp.SessionRow.{SessionRow}
use Rattle.nc_tables.specs.declared.bgp.Chosen.{Chosen}
use Rattle.nc_tables.specs.declared.bgp.BgpFrom.{BgpFrom}
use Rattle.nc_tables.specs.declared.bgp.MainRow.{MainRow}
use Rattle.nc_tables.specs.Base.{base_tables}
use Rattle.nc_tables.specs.Sessions.{sessions}
use Rattle.nc_tables.specs.Rounds.{BgpRowView, after, round}
use Rattle.nc_tables.specs.Main.{main_tables}

-- ---- parts of configurations

abbrev pub address : ℕ → ℕ → ℕ → ℕ → ℕ
address a b c d = ((a * 256 + b) * 256 + c) * 256 + d

abbrev pub prefix : ℕ → ℕ → ℕ → ℕ → ℕ → Cidr
prefix a b c d len = record { base = address a b c d; len = len }

-- an interface that is up
abbrev pub interface : List ℕ → ℕ → Cidr → Interface
interface name addr p = record { name = name; address = Some (record { addr = record { 0 = addr }; prefix = p }); address_line = 0; shut = false; element = 0 }

-- a reference to a name
abbrev pub refers : List ℕ → Reference
refers name = record { name = name; line = 0 }

abbrev pub route_to : Cidr → ℕ → StaticRoute
route_to p hop = record { prefix = p; via = Hop (record { 0 = hop }); distance = 1; element = 0 }

abbrev pub neighbor : ℕ → ℕ → Option Reference → Option Reference → Neighbor
neighbor addr asn source map_in =
    record { addr = record { 0 = addr }; remote_as = asn; source = source; multihop = false; self_hop = false; send_community = false; map_in = map_in; map_out = None; shut = false; element = 0 }

abbrev pub process : ℕ → ℕ → List Neighbor → List Cidr → List Cidr → ProcessView
process asn paths neighbors networks aggregates =
    record {
      asn = asn;
      router_id = None;
      max_paths = paths;
      relax = false;
      neighbors = neighbors;
      networks = map (λ p. record { prefix = p; element = 0 }) networks;
      aggregates = map (λ p. record { prefix = p; summary_only = false; element = 0 }) aggregates;
      element = 0;
    }

abbrev pub router : List Interface → List StaticRoute → Option ProcessView → List ClauseView → List PrefixListView → ConfigView
router interfaces statics own clauses lists =
    record { name = []; name_line = 1; line_count = 1; elements = []; interfaces = interfaces; statics = statics; process = own; clauses = clauses; lists = lists; community_lists = []; filters = []; groups = [] }

-- ---- routes and candidates

-- a candidate for the network 10.1.0.0/24: from where, its preference, path, origin and metric, and who sent it
abbrev pub candidate : BgpFrom → ℕ → List ℕ → OriginCode → ℕ → Bool → ℕ → ℕ → Chosen
candidate from preference path origin metric internal id sender =
    record {
      route = record { prefix = prefix 10 1 0 0 24; path = path; next_hop = record { 0 = sender }; preference = preference; metric = metric; origin = origin; communities = [] };
      from = from;
      internal = internal;
      sender_id = record { 0 = id };
      sender = record { 0 = sender };
    }

-- ---- networks

-- the state of a network after so many rounds, and its main tables then
abbrev pub sessions_in : List ConfigView → List (List SessionRow)
sessions_in routers = sessions routers (base_tables routers)

abbrev pub state : List ConfigView → ℕ → List (List BgpRowView)
state routers rounds = after routers (base_tables routers) (sessions_in routers) rounds

abbrev pub mains : List ConfigView → ℕ → List (List MainRow)
mains routers rounds = main_tables routers (base_tables routers) (state routers rounds)

-- whether a network's state is the same after one more round
abbrev pub Settles : List ConfigView → ℕ → Type 0
Settles routers rounds = round routers (base_tables routers) (sessions_in routers) (state routers rounds) ≡ state routers rounds

-- the paths of the chosen routes of a router
abbrev pub paths_at : List (List BgpRowView) → List (List (List (List ℕ)))
paths_at table = map (map (λ row. map (λ x. x.route.path) row.chosen)) table
