-- What the lines that speak of one topic make, and the elements that it is.
use Rattle.std.specs.Prelude.{ℕ, Bool, ◌&&◌, ◌==◌, List, [], ◌∷◌, ◌++◌, map, Option, Some, None, Result, Ok, Err, if◌then◌else◌}
use Rattle.std.specs.List.{filter_map, last_or}
use Rattle.std.specs.Option.{option_map, option_map_or, option_eq}
use Rattle.std.specs.Str.{bytes_eq}
use Rattle.nc_types.specs.Cidr.{Cidr}
use Rattle.nc_types.specs.Config.{ElementView}
use Rattle.nc_types.specs.declared.fault.Fault.{Fault}
use Rattle.nc_types.specs.declared.fault.Cause.TheVariants.{TwoProcesses}
use Rattle.nc_types.specs.declared.communities.CommunityEntry.{CommunityEntry}
use Rattle.nc_types.specs.declared.config.Kind.{Kind}
use Rattle.nc_types.specs.declared.config.Kind.TheVariants as kinds
use Rattle.nc_types.specs.declared.config.Via.{Via}
use Rattle.nc_types.specs.declared.config.Via.TheVariants.{Null, Hop, Through}
use Rattle.nc_types.specs.declared.config.StaticRoute.{StaticRoute}
use Rattle.nc_types.specs.declared.filters.Group.{Group as Applied}
use Rattle.nc_lines.specs.Lines.{line_at}
use Rattle.nc_lines.specs.Parts.{numbered, first_of}
use Rattle.nc_read_link.specs.Interfaces.{InterfacePart, interface_in}
use Rattle.nc_read_link.specs.Statics.{static_at}
use Rattle.nc_read_filter.specs.declared.filters.FilterLine.{FilterLine}
use Rattle.nc_read_filter.specs.declared.filters.OddLine.{OddLine}
use Rattle.nc_read_filter.specs.Filters.{filters_in as filters_of}
use Rattle.nc_read_filter.specs.Groups.{applied_in}
use Rattle.nc_read_policy.specs.Clauses.{ClausePart, clause_in}
use Rattle.nc_read_policy.specs.Lists.{EntryPart, list_in}
use Rattle.nc_read_policy.specs.Results.{ok_map}
use Rattle.nc_read_policy.specs.CommunityEntries.{community_entry_at}
use Rattle.nc_read_bgp.specs.Processes.{ProcessMade, process_in}
use Rattle.nc_reader.specs.declared.topic.Topic.{Topic}
use Rattle.nc_reader.specs.declared.topic.Topic.TheVariants as topics
use Rattle.nc_lines.specs.Groups.{groups}

-- ---- readings

abbrev pub ok_of : {A : Type 0} → Result A Fault → Option A
ok_of (Ok x) = Some x
ok_of (Err fault) = None

abbrev pub err_of : {A : Type 0} → Result A Fault → Option Fault
err_of (Ok x) = None
err_of (Err fault) = Some fault

-- all that was read, or the first fault
abbrev pub all_read : {A : Type 0} → List (Result A Fault) → Result (List A) Fault
all_read rs = option_map_or Err (first_of (filter_map err_of rs)) (Ok (filter_map ok_of rs))

-- ---- lines

-- the first of some lines
abbrev pub first_in : List ℕ → ℕ
first_in [] = 0
first_in (line ∷ lines) = line

-- ---- static routes

-- a static route with the line of its statement
pub record Routed : Type 0 where
  pub line : ℕ
  pub route : StaticRoute

-- a static route with the lines of all its statements
pub record RoutePart : Type 0 where
  pub route : StaticRoute
  pub lines : List ℕ

-- what one statement makes
abbrev pub routed : List (List ℕ) → ℕ → Result Routed Fault
routed lines line = ok_map (λ route. record { line = line; route = route }) (static_at line (line_at line lines))

-- by what a static route is told from others: its prefix, its interface and its next hop
pub record RouteKeyView : Type 0 where
  pub prefix : Cidr
  pub interface : Option (List ℕ)
  pub hop : Option ℕ

abbrev pub interface_by : Via → Option (List ℕ)
interface_by (Through reference hop) = Some reference.name
interface_by via = None

abbrev pub hop_by : Via → Option ℕ
hop_by Null = None
hop_by (Hop hop) = Some hop.0
hop_by (Through reference hop) = Some hop.0

abbrev pub key_of : StaticRoute → RouteKeyView
key_of r = record { prefix = r.prefix; interface = interface_by r.via; hop = hop_by r.via }

abbrev pub same_key : RouteKeyView → RouteKeyView → Bool
same_key a b =
    ((a.prefix.base == b.prefix.base) && (a.prefix.len == b.prefix.len))
    && (option_eq bytes_eq a.interface b.interface && option_eq (λ x y. x == y) a.hop b.hop)

-- the last of some statements of one route decides, and the route has the lines of all
abbrev pub route_part : List Routed → Option RoutePart
route_part rs = option_map (λ last. record { route = last.route; lines = map (λ r. r.line) rs }) (last_or None rs)

-- the routes in order of first mention
abbrev pub statics_of : List Routed → List RoutePart
statics_of rs = filter_map (λ g. route_part g.values) (groups same_key (map (λ r. record { key = key_of r.route; value = r }) rs))

-- what the statements on static routes make
abbrev pub routes_in : List (List ℕ) → List ℕ → Result (List RoutePart) Fault
routes_in lines ks = ok_map statics_of (all_read (map (routed lines) ks))

-- ---- community lists

-- an entry of a community list with the line of its statement
pub record CommunityPart : Type 0 where
  pub entry : CommunityEntry
  pub line : ℕ

-- what one statement makes
abbrev pub community_part : List (List ℕ) → ℕ → Result CommunityPart Fault
community_part lines line = ok_map (λ named. record { entry = named.1; line = line }) (community_entry_at line (line_at line lines))

-- what the statements of a community list make: an entry each
abbrev pub communities_in : List (List ℕ) → List ℕ → Result (List CommunityPart) Fault
communities_in lines ks = all_read (map (community_part lines) ks)

-- ---- access lists

-- what applies an access list to an interface in a direction, with its lines
pub record GroupPart : Type 0 where
  pub group : Applied
  pub lines : List ℕ

-- ---- parts

-- what a topic makes: one thing, or several, each with its lines
pub data Part : Type 0 where
  AnInterface : InterfacePart → Part
  Routes : List RoutePart → Part
  -- the process with its neighbors, networks and aggregates
  AProcess : ProcessMade → Part
  AClause : ClausePart → Part
  -- a prefix list and a community list: the name, and the entries
  Entries : List ℕ → List EntryPart → Part
  Communities : List ℕ → List CommunityPart → Part
  -- the entries of all access lists, and the lines that are odd
  Filters : List FilterLine → List OddLine → Part
  AGroup : GroupPart → Part

-- what the lines of a process make in a file that has this process: those of a second one are wrong from their first line on, whatever they say
abbrev pub process_part : List (List ℕ) → Option ℕ → ℕ → List ℕ → Result Part Fault
process_part lines process asn ks =
    if option_eq (λ x y. x == y) process (Some asn) then ok_map AProcess (process_in (numbered lines ks))
    else Err (record { line = first_in ks; cause = TwoProcesses })

-- what these lines of a file make, which speak of a topic, or their lowest fault
abbrev pub part_in : List (List ℕ) → Option ℕ → Topic → List ℕ → Result Part Fault
part_in lines process (topics.Interface name) ks = ok_map AnInterface (interface_in name (numbered lines ks))
part_in lines process topics.Statics ks = ok_map Routes (routes_in lines ks)
part_in lines process (topics.Process asn) ks = process_part lines process asn ks
part_in lines process (topics.Clause name number) ks = ok_map AClause (clause_in (numbered lines ks))
part_in lines process (topics.List name) ks = ok_map (Entries name) (list_in (numbered lines ks))
part_in lines process (topics.Communities name) ks = ok_map (Communities name) (communities_in lines ks)
part_in lines process topics.Filters ks = Ok (Filters (filters_of (numbered lines ks)).entries (filters_of (numbered lines ks)).odd)
part_in lines process (topics.Group name inward) ks = Ok (AGroup (record { group = applied_in name inward (numbered lines ks); lines = ks }))

-- ---- elements

abbrev pub element_at : Kind → List ℕ → ElementView
element_at kind lines = record { kind = kind; lines = lines }

-- the elements that a process is, and its neighbors, networks and aggregates
abbrev pub process_pieces : ProcessMade → List ElementView
process_pieces p =
    element_at kinds.Process p.own
    ∷ (map (element_at kinds.Neighbor) p.neighbors ++ (map (element_at kinds.Network) p.networks ++ map (element_at kinds.Aggregate) p.aggregates))

-- the elements that a part is: each entry of a list is one, and what applies a list
abbrev pub pieces_in : Part → List ElementView
pieces_in (AnInterface p) = element_at kinds.Interface p.lines ∷ []
pieces_in (Routes ps) = map (λ p. element_at kinds.Static p.lines) ps
pieces_in (AProcess p) = process_pieces p
pieces_in (AClause p) = element_at kinds.Clause p.lines ∷ []
pieces_in (Entries name ps) = map (λ p. element_at kinds.ListEntry p.lines) ps
pieces_in (Communities name ps) = map (λ p. element_at kinds.CommunityEntry (p.line ∷ [])) ps
pieces_in (Filters ps odd) = map (λ p. element_at kinds.Filter (p.line ∷ [])) ps
pieces_in (AGroup p) = element_at kinds.Group p.lines ∷ []
