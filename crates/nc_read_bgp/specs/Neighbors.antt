-- What the statements of one neighbor make of it.
use Rattle.std.specs.Prelude.{ℕ, Bool, true, false, List, map, Option, Some, None}
use Rattle.std.specs.List.{filter_map, last_or, list_any}
use Rattle.nc_types.specs.declared.config.Reference.{Reference}
use Rattle.nc_lines.specs.Parts.{Stated}
use Rattle.nc_read_bgp.specs.Statements.{NeighborSays, RemoteAs, Source, Multihop, SelfHop, MapIn, MapOut, SendsCommunities, Shuts}

-- ---- what one statement says of each field

abbrev pub remote_as_by : NeighborSays → Option ℕ
remote_as_by (RemoteAs n) = Some n
remote_as_by s = None

abbrev pub source_by : ℕ → NeighborSays → Option Reference
source_by line (Source name) = Some (record { name = name; line = line })
source_by line s = None

abbrev pub map_in_by : ℕ → NeighborSays → Option Reference
map_in_by line (MapIn name) = Some (record { name = name; line = line })
map_in_by line s = None

abbrev pub map_out_by : ℕ → NeighborSays → Option Reference
map_out_by line (MapOut name) = Some (record { name = name; line = line })
map_out_by line s = None

abbrev pub is_multihop : NeighborSays → Bool
is_multihop Multihop = true
is_multihop s = false

abbrev pub is_self_hop : NeighborSays → Bool
is_self_hop SelfHop = true
is_self_hop s = false

abbrev pub sends_communities : NeighborSays → Bool
sends_communities SendsCommunities = true
sends_communities s = false

abbrev pub shuts : NeighborSays → Bool
shuts Shuts = true
shuts s = false

-- ---- what its statements make

-- the fields of a neighbor, and the lines of its statements
pub record NeighborFields : Type 0 where
  pub remote_as : Option ℕ
  pub source : Option Reference
  pub multihop : Bool
  pub self_hop : Bool
  pub send_community : Bool
  pub map_in : Option Reference
  pub map_out : Option Reference
  pub shut : Bool
  pub lines : List ℕ

-- the neighbor that its own statements make: of each field the last one that speaks of it decides
abbrev pub neighbor_in : List (Stated NeighborSays) → NeighborFields
neighbor_in ss =
    record {
      remote_as = last_or None (filter_map (λ s. remote_as_by s.setting) ss);
      source = last_or None (filter_map (λ s. source_by s.line s.setting) ss);
      multihop = list_any (λ s. is_multihop s.setting) ss;
      self_hop = list_any (λ s. is_self_hop s.setting) ss;
      send_community = list_any (λ s. sends_communities s.setting) ss;
      map_in = last_or None (filter_map (λ s. map_in_by s.line s.setting) ss);
      map_out = last_or None (filter_map (λ s. map_out_by s.line s.setting) ss);
      shut = list_any (λ s. shuts s.setting) ss;
      lines = map (λ s. s.line) ss;
    }
