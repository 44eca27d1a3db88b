-- The things of a process as the lines so far leave them.
use Rattle.std.specs.Prelude.{List, map}
use Rattle.nc_types.specs.Cidr.{Cidr}
use Rattle.nc_types.specs.declared.addr.Addr.{Addr}
use Rattle.nc_read_bgp.specs.declared.neighbor_draft.NeighborDraft.{NeighborDraft}
use Rattle.nc_read_bgp.specs.declared.prefix_draft.PrefixDraft.{PrefixDraft}
use Rattle.nc_read_bgp.specs.declared.process_draft.ProcessDraft.{ProcessDraft}
use Rattle.nc_read_bgp.specs.Neighbors.{NeighborFields}
use Rattle.nc_read_bgp.specs.Processes.{PrefixFields, ProcessFields}

abbrev pub neighbor_fields : NeighborDraft → NeighborFields
neighbor_fields d =
    record {
      remote_as = d.remote_as;
      source = d.source;
      multihop = d.multihop;
      self_hop = d.self_hop;
      send_community = d.send_community;
      map_in = d.map_in;
      map_out = d.map_out;
      shut = d.shut;
      lines = d.lines.items;
    }

abbrev pub prefix_fields : PrefixDraft → PrefixFields
prefix_fields d = record { summary_only = d.summary_only; lines = d.lines.items }

-- the neighbors, and the networks or the aggregates, with their fields
abbrev pub neighbors_of : List (Addr × NeighborDraft) → List (Addr × NeighborFields)
neighbors_of entries = map (λ e. (e.0, neighbor_fields e.1)) entries

abbrev pub prefixes_of : List (Cidr × PrefixDraft) → List (Cidr × PrefixFields)
prefixes_of entries = map (λ e. (e.0, prefix_fields e.1)) entries

abbrev pub process_fields : ProcessDraft → ProcessFields
process_fields d =
    record {
      asn = d.asn;
      router_id = d.router_id;
      max_paths = d.max_paths;
      relax = d.relax;
      own = d.own.items;
      neighbors = neighbors_of d.neighbors.entries;
      networks = prefixes_of d.networks.entries;
      aggregates = prefixes_of d.aggregates.entries;
    }
