-- The process that its statements make, with its neighbors, networks and aggregates.
use Rattle.std.specs.Prelude.{ℕ, Bool, true, false, ◌==◌, List, map, Option, Some, None, Result, Ok, Err, unwrap_or, is_some, if◌then◌else◌}
use Rattle.std.specs.List.{filter_map, last_or, list_any}
use Rattle.std.specs.Option.{option_map_or}
use Rattle.nc_types.specs.Cidr.{Cidr, same_prefix}
use Rattle.nc_types.specs.Config.{ProcessView}
use Rattle.nc_types.specs.declared.addr.Addr.{Addr}
use Rattle.nc_types.specs.declared.fault.Fault.{Fault}
use Rattle.nc_types.specs.declared.fault.Cause.TheVariants.{Syntax}
use Rattle.nc_types.specs.declared.config.Neighbor.{Neighbor}
use Rattle.nc_types.specs.declared.config.NetworkStatement.{NetworkStatement}
use Rattle.nc_types.specs.declared.config.AggregateStatement.{AggregateStatement}
use Rattle.nc_lines.specs.Parts.{Numbered, Stated, first_of, fault_in, statements_in}
use Rattle.nc_lines.specs.Groups.{Keyed, groups}
use Rattle.nc_lines.specs.Outcomes.{lower_of}
use Rattle.nc_read_bgp.specs.Neighbors.{NeighborFields, neighbor_in}
use Rattle.nc_read_bgp.specs.Statements.{NeighborSays, ProcessSays, Opens, RouterId, MaxPaths, Relax, Originates, Aggregates, Of, line_says}

-- two addresses are one
abbrev pub same_addr : Addr → Addr → Bool
same_addr a b = a.0 == b.0

-- ---- what one statement says of the process itself

abbrev pub asn_by : ProcessSays → Option ℕ
asn_by (Opens n) = Some n
asn_by s = None

abbrev pub router_id_by : ProcessSays → Option (Option Addr)
router_id_by (RouterId a) = Some (Some (record { 0 = a }))
router_id_by s = None

abbrev pub max_paths_by : ProcessSays → Option ℕ
max_paths_by (MaxPaths n) = Some n
max_paths_by s = None

abbrev pub is_relax : ProcessSays → Bool
is_relax Relax = true
is_relax s = false

-- the line of a statement of the process itself
abbrev pub own_by : ℕ → ProcessSays → Option ℕ
own_by line (Originates p) = None
own_by line (Aggregates p summary_only) = None
own_by line (Of a s) = None
own_by line s = Some line

-- ---- and of a thing of it, by address or prefix

abbrev pub neighbor_by : ℕ → ProcessSays → Option (Keyed Addr (Stated NeighborSays))
neighbor_by line (Of a s) = Some (record { key = record { 0 = a }; value = record { line = line; setting = s } })
neighbor_by line s = None

-- of a network or an aggregate it is said whether the longer prefixes inside it are held back
abbrev pub network_by : ℕ → ProcessSays → Option (Keyed Cidr (Stated Bool))
network_by line (Originates p) = Some (record { key = p; value = record { line = line; setting = false } })
network_by line s = None

abbrev pub aggregate_by : ℕ → ProcessSays → Option (Keyed Cidr (Stated Bool))
aggregate_by line (Aggregates p summary_only) = Some (record { key = p; value = record { line = line; setting = summary_only } })
aggregate_by line s = None

-- ---- what statements make

-- each key, in order of first mention, with what its own values make
abbrev pub things : {K V T : Type 0} → (K → K → Bool) → (List V → T) → List (Keyed K V) → List (K × T)
things same make ps = map (λ g. (g.key, make g.values)) (groups same ps)

-- a network or an aggregate: whether its last statement has `summary-only`, and the lines of its statements
pub record PrefixFields : Type 0 where
  pub summary_only : Bool
  pub lines : List ℕ

abbrev pub prefix_in : List (Stated Bool) → PrefixFields
prefix_in ss = record { summary_only = unwrap_or (last_or None (map (λ s. s.setting) ss)) false; lines = map (λ s. s.line) ss }

-- the process: what its own statements set, their lines, and its things by address or prefix in order of first mention
pub record ProcessFields : Type 0 where
  pub asn : ℕ
  pub router_id : Option Addr
  pub max_paths : ℕ
  pub relax : Bool
  pub own : List ℕ
  pub neighbors : List (Addr × NeighborFields)
  pub networks : List (Cidr × PrefixFields)
  pub aggregates : List (Cidr × PrefixFields)

-- of each field the last statement that speaks of it decides, and one route of a prefix is used where none speaks of more; each thing is made by its own statements
abbrev pub fields_in : List (Stated ProcessSays) → ProcessFields
fields_in ss =
    record {
      asn = unwrap_or (last_or None (filter_map (λ s. asn_by s.setting) ss)) 0;
      router_id = unwrap_or (last_or None (filter_map (λ s. router_id_by s.setting) ss)) None;
      max_paths = unwrap_or (last_or None (filter_map (λ s. max_paths_by s.setting) ss)) 1;
      relax = list_any (λ s. is_relax s.setting) ss;
      own = filter_map (λ s. own_by s.line s.setting) ss;
      neighbors = things same_addr neighbor_in (filter_map (λ s. neighbor_by s.line s.setting) ss);
      networks = things same_prefix prefix_in (filter_map (λ s. network_by s.line s.setting) ss);
      aggregates = things same_prefix prefix_in (filter_map (λ s. aggregate_by s.line s.setting) ss);
    }

-- ---- what is made of it

abbrev pub neighbor_of : Addr × NeighborFields → Neighbor
neighbor_of e =
    record {
      addr = e.0;
      remote_as = unwrap_or e.1.remote_as 0;
      source = e.1.source;
      multihop = e.1.multihop;
      self_hop = e.1.self_hop;
      send_community = e.1.send_community;
      map_in = e.1.map_in;
      map_out = e.1.map_out;
      shut = e.1.shut;
      element = 0;
    }

abbrev pub network_of : Cidr × PrefixFields → NetworkStatement
network_of e = record { prefix = e.0; element = 0 }

abbrev pub aggregate_of : Cidr × PrefixFields → AggregateStatement
aggregate_of e = record { prefix = e.0; summary_only = e.1.summary_only; element = 0 }

-- a process, and the lines of each of its elements
pub record ProcessMade : Type 0 where
  pub process : ProcessView
  pub own : List ℕ
  pub neighbors : List (List ℕ)
  pub networks : List (List ℕ)
  pub aggregates : List (List ℕ)

abbrev pub process_of : ProcessFields → ProcessMade
process_of p =
    record {
      process = record {
        asn = p.asn;
        router_id = p.router_id;
        max_paths = p.max_paths;
        relax = p.relax;
        neighbors = map neighbor_of p.neighbors;
        networks = map network_of p.networks;
        aggregates = map aggregate_of p.aggregates;
        element = 0;
      };
      own = p.own;
      neighbors = map (λ e. e.1.lines) p.neighbors;
      networks = map (λ e. e.1.lines) p.networks;
      aggregates = map (λ e. e.1.lines) p.aggregates;
    }

-- ---- faults

-- the first line of a thing
abbrev pub first_line : List ℕ → ℕ
first_line lines = option_map_or (λ k. k) (first_of lines) 0

-- a neighbor that lacks the number of its autonomous system
abbrev pub lack_of : NeighborFields → Option Fault
lack_of p = if is_some p.remote_as then None else Some (record { line = first_line p.lines; cause = Syntax })

-- the first neighbor that lacks it
abbrev pub lack_in : List (Addr × NeighborFields) → Option Fault
lack_in es = first_of (filter_map (λ e. lack_of e.1) es)

-- the process of a block, or the lower of its first faulty line and the first line of the first neighbor that lacks its number
unfoldable pub process_in : List Numbered → Result ProcessMade Fault
process_in block =
    let fields = fields_in (statements_in line_says block) in
    option_map_or Err (lower_of (fault_in line_says block) (lack_in fields.neighbors)) (Ok (process_of fields))
