-- The configuration that a file's lines make.
use Rattle.std.specs.Prelude.{ℕ, ◌==◌, nat_lt, List, [], ◌∷◌, ◌++◌, length, map, Option, Some, None, Result, Ok, Err, count_by, if◌then◌else◌}
use Rattle.std.specs.List.{filter_map, flat_map, cons_option, find, last_or, list_any, range_with_len}
use Rattle.std.specs.Option.{option_map_or, option_eq}
use Rattle.std.specs.Str.{bytes_eq}
use Rattle.nc_types.specs.Config.{ElementView, ProcessView, ClauseView, PrefixListView, CommunityListView, ConfigView}
use Rattle.nc_types.specs.WellFormed.{first_line}
use Rattle.nc_types.specs.Faults.{lowest}
use Rattle.nc_types.specs.declared.fault.Fault.{Fault}
use Rattle.nc_types.specs.declared.config.Interface.{Interface}
use Rattle.nc_types.specs.declared.config.StaticRoute.{StaticRoute}
use Rattle.nc_types.specs.declared.config.Neighbor.{Neighbor}
use Rattle.nc_types.specs.declared.config.NetworkStatement.{NetworkStatement}
use Rattle.nc_types.specs.declared.config.AggregateStatement.{AggregateStatement}
use Rattle.nc_types.specs.declared.config.ListEntry.{ListEntry}
use Rattle.nc_types.specs.declared.communities.CommunityEntry.{CommunityEntry}
use Rattle.nc_types.specs.declared.filters.FilterEntry.{FilterEntry}
use Rattle.nc_types.specs.declared.filters.Group.{Group as Applied}
use Rattle.nc_types.specs.declared.fault.Cause.TheVariants.{Unsupported, NoName, TwoProcesses}
use Rattle.nc_lines.specs.Parts.{numbered}
use Rattle.nc_read_filter.specs.declared.filters.OddLine.{OddLine}
use Rattle.nc_read_bgp.specs.Laws.{faults_in, lacks_in}
use Rattle.nc_read_bgp.specs.Processes.{ProcessMade}
use Rattle.nc_reader.specs.declared.topic.Topic.{Topic}
use Rattle.nc_reader.specs.declared.topic.Topic.TheVariants as topics
use Rattle.nc_lines.specs.Groups.{Keyed, Group, groups}
use Rattle.nc_reader.specs.Roles.{Role, Wrong, Names, Within, Placed, roles_from}
use Rattle.nc_reader.specs.Topics.{same_topic, process_among}
use Rattle.nc_reader.specs.Things.{Part, AnInterface, Routes, AProcess, AClause, Entries, Communities, Filters, AGroup, first_in, part_in, pieces_in, ok_of, err_of}

-- ---- the router's name

abbrev pub name_at : ℕ → Role → Option (ℕ × List ℕ)
name_at line (Names name) = Some (line, name)
name_at line role = None

-- the name in force, with its line: that of the last line that gives one
abbrev pub name_of : List Placed → Option (ℕ × List ℕ)
name_of rs = last_or None (filter_map (λ r. name_at r.line r.role) rs)

-- ---- topics

abbrev pub spoken_at : ℕ → Role → Option (Keyed Topic ℕ)
spoken_at line (Within topic) = Some (record { key = topic; value = line })
spoken_at line role = None

-- the lines that speak of a topic, each with its topic
abbrev pub spoken : List Placed → List (Keyed Topic ℕ)
spoken rs = filter_map (λ r. spoken_at r.line r.role) rs

-- the topics in order of first mention, each with its lines
abbrev pub topics_of : List Placed → List (Group Topic ℕ)
topics_of rs = groups same_topic (spoken rs)

-- the number of the process that the file has: that of its first header
abbrev pub process_number : List Placed → Option ℕ
process_number rs = process_among (map (λ g. g.key) (topics_of rs))

-- what each topic makes of its lines
abbrev pub parts_of : List (List ℕ) → List Placed → List (Result Part Fault)
parts_of lines rs = map (λ g. part_in lines (process_number rs) g.key g.values) (topics_of rs)

-- ---- the whole file

abbrev pub wrong_at : ℕ → Role → Option Fault
wrong_at line (Wrong cause) = Some (record { line = line; cause = cause })
wrong_at line role = None

-- all that is wrong with the lines of a process: in the process that the file has each faulty line, and each neighbor that lacks the number of its autonomous system, told at its first line; a second one is wrong at its own first line
abbrev pub process_faults : List (List ℕ) → Option ℕ → ℕ → List ℕ → List Fault
process_faults lines process asn ks =
    if option_eq (λ x y. x == y) process (Some asn) then faults_in (numbered lines ks) ++ lacks_in (numbered lines ks)
    else record { line = first_in ks; cause = TwoProcesses } ∷ []

-- all that is wrong with the lines that speak of a topic
abbrev pub faults_about : List (List ℕ) → Option ℕ → Topic → List ℕ → List Fault
faults_about lines process (topics.Process asn) ks = process_faults lines process asn ks
faults_about lines process topic ks = cons_option (err_of (part_in lines process topic ks)) []

-- the access list that a part applies to an interface
abbrev pub applied_by : Part → Option (List ℕ)
applied_by (AGroup p) = Some p.group.list
applied_by part = None

-- the lines that begin as an entry of an access list and have another rest
abbrev pub odd_in : Part → List OddLine
odd_in (Filters ps odd) = odd
odd_in part = []

-- such a line is wrong exactly where an interface applies its list
abbrev pub odd_fault : List (List ℕ) → OddLine → Option Fault
odd_fault applied o = if list_any (bytes_eq o.list) applied then Some (record { line = o.line; cause = Unsupported }) else None

abbrev pub odd_faults : List Part → List Fault
odd_faults parts = filter_map (odd_fault (filter_map applied_by parts)) (flat_map odd_in parts)

-- all that is wrong: with lines by themselves, with topics, and with entries of access lists that are applied
abbrev pub faults_of : List (List ℕ) → List Placed → List Fault
faults_of lines rs =
    (filter_map (λ r. wrong_at r.line r.role) rs ++ flat_map (λ g. faults_about lines (process_number rs) g.key g.values) (topics_of rs))
    ++ odd_faults (filter_map ok_of (parts_of lines rs))

-- the elements, part by part
abbrev pub pieces_of : List Part → List ElementView
pieces_of parts = flat_map pieces_in parts

-- the elements line by line: at each line the one that begins there
abbrev pub in_order : ℕ → List ElementView → List ElementView
in_order count pieces = filter_map (λ line. find (λ e. first_line e == line) pieces) (range_with_len 1 count)

-- the place of the element that begins at a line: how many begin above it
abbrev pub place_of : List ElementView → ℕ → ℕ
place_of pieces line = count_by (λ e. nat_lt (first_line e) line) pieces

-- ---- the things of each kind, where the element that begins at a line has this place

abbrev pub with_place : ℕ → Interface → Interface
with_place place i = record { name = i.name; address = i.address; address_line = i.address_line; shut = i.shut; element = place }

abbrev pub interfaces_in : (ℕ → ℕ) → Part → List Interface
interfaces_in place (AnInterface p) = with_place (place (first_in p.lines)) p.interface ∷ []
interfaces_in place part = []

abbrev pub route_with_place : ℕ → StaticRoute → StaticRoute
route_with_place place r = record { prefix = r.prefix; via = r.via; distance = r.distance; element = place }

abbrev pub statics_in : (ℕ → ℕ) → Part → List StaticRoute
statics_in place (Routes ps) = map (λ p. route_with_place (place (first_in p.lines)) p.route) ps
statics_in place part = []

abbrev pub neighbor_with_place : ℕ → Neighbor → Neighbor
neighbor_with_place place n = record n { element = place }

abbrev pub network_with_place : ℕ → NetworkStatement → NetworkStatement
network_with_place place n = record n { element = place }

abbrev pub aggregate_with_place : ℕ → AggregateStatement → AggregateStatement
aggregate_with_place place a = record a { element = place }

-- things to which places are given one by one
abbrev pub with_places : {T : Type 0} → (ℕ → T → T) → List ℕ → List T → List T
with_places placed [] things = things
with_places placed (place ∷ places) [] = []
with_places placed (place ∷ places) (thing ∷ things) = placed place thing ∷ with_places placed places things

-- the places of elements that have these lines
abbrev pub places_by : (ℕ → ℕ) → List (List ℕ) → List ℕ
places_by place each = map (λ lines. place (first_in lines)) each

abbrev pub process_with_places : (ℕ → ℕ) → ProcessMade → ProcessView
process_with_places place made =
    let p = made.process in
    record {
      asn = p.asn;
      router_id = p.router_id;
      max_paths = p.max_paths;
      relax = p.relax;
      neighbors = with_places neighbor_with_place (places_by place made.neighbors) p.neighbors;
      networks = with_places network_with_place (places_by place made.networks) p.networks;
      aggregates = with_places aggregate_with_place (places_by place made.aggregates) p.aggregates;
      element = place (first_in made.own);
    }

-- of a file's topics one at most makes a process
abbrev pub processes_in : (ℕ → ℕ) → Part → List ProcessView
processes_in place (AProcess p) = process_with_places place p ∷ []
processes_in place part = []

abbrev pub clause_with_place : ℕ → ClauseView → ClauseView
clause_with_place place k = record k { element = place }

abbrev pub clauses_in : (ℕ → ℕ) → Part → List ClauseView
clauses_in place (AClause p) = clause_with_place (place (first_in p.lines)) p.clause ∷ []
clauses_in place part = []

abbrev pub entry_with_place : ℕ → ListEntry → ListEntry
entry_with_place place e = record e { element = place }

abbrev pub lists_in : (ℕ → ℕ) → Part → List PrefixListView
lists_in place (Entries name ps) = record { name = name; entries = map (λ p. entry_with_place (place (first_in p.lines)) p.entry) ps } ∷ []
lists_in place part = []

abbrev pub community_with_place : ℕ → CommunityEntry → CommunityEntry
community_with_place place e = record e { element = place }

abbrev pub community_lists_in : (ℕ → ℕ) → Part → List CommunityListView
community_lists_in place (Communities name ps) = record { name = name; entries = map (λ p. community_with_place (place p.line) p.entry) ps } ∷ []
community_lists_in place part = []

abbrev pub filter_with_place : ℕ → FilterEntry → FilterEntry
filter_with_place place e = record e { element = place }

abbrev pub filters_in : (ℕ → ℕ) → Part → List FilterEntry
filters_in place (Filters ps odd) = map (λ p. filter_with_place (place p.line) p.entry) ps
filters_in place part = []

abbrev pub group_with_place : ℕ → Applied → Applied
group_with_place place g = record g { element = place }

abbrev pub groups_in : (ℕ → ℕ) → Part → List Applied
groups_in place (AGroup p) = group_with_place (place (first_in p.lines)) p.group ∷ []
groups_in place part = []

-- the configuration of a router of this name, of its parts
abbrev pub config_of : ℕ → ℕ × List ℕ → List Part → ConfigView
config_of count name parts =
    let place = place_of (pieces_of parts) in
    record {
      name = name.1;
      name_line = name.0;
      line_count = count;
      elements = in_order count (pieces_of parts);
      interfaces = flat_map (interfaces_in place) parts;
      statics = flat_map (statics_in place) parts;
      process = last_or None (flat_map (processes_in place) parts);
      clauses = flat_map (clauses_in place) parts;
      lists = flat_map (lists_in place) parts;
      community_lists = flat_map (community_lists_in place) parts;
      filters = flat_map (filters_in place) parts;
      groups = flat_map (groups_in place) parts;
    }

-- the configuration, or its fault: that of the lowest faulty line, or the missing name
abbrev pub judged : List (List ℕ) → List Placed → Result ConfigView Fault
judged lines rs =
    option_map_or Err (lowest (faults_of lines rs))
    (option_map_or (λ name. Ok (config_of (length lines) name (filter_map ok_of (parts_of lines rs)))) (name_of rs) (Err (record { line = 0; cause = NoName })))

-- what a file's lines configure
unfoldable pub configuration : List (List ℕ) → Result ConfigView Fault
configuration lines = judged lines (roles_from [] lines)
