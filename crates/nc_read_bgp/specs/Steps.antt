-- A process as the lines so far leave it, and what one more changes.
use Rattle.std.specs.Prelude.{ℕ, Bool, true, false, ◌||◌, List, [], ◌∷◌, ◌++◌, Option, Some, None, Result, Ok, Err}
use Rattle.std.specs.List.{fold}
use Rattle.std.specs.Option.{option_map_or, option_or}
use Rattle.nc_types.specs.Cidr.{same_prefix}
use Rattle.nc_types.specs.declared.fault.Fault.{Fault}
use Rattle.nc_lines.specs.Outcomes.{lower_of}
use Rattle.nc_lines.specs.Parts.{Numbered, Stated, fault_in, statements_in}
use Rattle.nc_read_bgp.specs.Kept.{put_in}
use Rattle.nc_read_bgp.specs.Neighbors.{NeighborFields, remote_as_by, source_by, map_in_by, map_out_by, is_multihop, is_self_hop, sends_communities, shuts}
use Rattle.nc_read_bgp.specs.Processes.{PrefixFields, ProcessFields, ProcessMade, same_addr, lack_in, process_of}
use Rattle.nc_read_bgp.specs.Statements.{NeighborSays, ProcessSays, Opens, RouterId, MaxPaths, Relax, Agrees, Originates, Aggregates, Of, line_says}

-- a neighbor of which no statement speaks
abbrev pub no_neighbor : NeighborFields
no_neighbor =
    record { remote_as = None; source = None; multihop = false; self_hop = false; send_community = false; map_in = None; map_out = None; shut = false; lines = [] }

-- what one more statement leaves: of each field it decides, if it speaks of it
abbrev pub neighbor_with : NeighborFields → ℕ → NeighborSays → NeighborFields
neighbor_with p line s =
    record {
      remote_as = option_or (remote_as_by s) p.remote_as;
      source = option_or (source_by line s) p.source;
      multihop = is_multihop s || p.multihop;
      self_hop = is_self_hop s || p.self_hop;
      send_community = sends_communities s || p.send_community;
      map_in = option_or (map_in_by line s) p.map_in;
      map_out = option_or (map_out_by line s) p.map_out;
      shut = shuts s || p.shut;
      lines = p.lines ++ line ∷ [];
    }

-- a prefix of which no statement speaks
abbrev pub no_prefix : PrefixFields
no_prefix = record { summary_only = false; lines = [] }

abbrev pub prefix_with : Bool → ℕ → PrefixFields → PrefixFields
prefix_with summary_only line p = record { summary_only = summary_only; lines = p.lines ++ line ∷ [] }

-- a process of which no statement speaks
abbrev pub no_process : ProcessFields
no_process = record { asn = 0; router_id = None; max_paths = 1; relax = false; own = []; neighbors = []; networks = []; aggregates = [] }

-- a statement of the process itself
abbrev pub own_line : ℕ → ProcessFields → ProcessFields
own_line line p = record p { own = p.own ++ line ∷ [] }

-- what one more statement leaves: it decides what it speaks of, and its line goes to the thing that it speaks of
abbrev pub process_with : ProcessFields → ℕ → ProcessSays → ProcessFields
process_with p line (Opens n) = own_line line (record p { asn = n })
process_with p line (RouterId a) = own_line line (record p { router_id = Some (record { 0 = a }) })
process_with p line (MaxPaths n) = own_line line (record p { max_paths = n })
process_with p line Relax = own_line line (record p { relax = true })
process_with p line Agrees = own_line line p
process_with p line (Originates q) = record p { networks = put_in same_prefix q no_prefix (λ f. prefix_with false line f) p.networks }
process_with p line (Aggregates q summary_only) = record p { aggregates = put_in same_prefix q no_prefix (λ f. prefix_with summary_only line f) p.aggregates }
process_with p line (Of a s) = record p { neighbors = put_in same_addr (record { 0 = a }) no_neighbor (λ f. neighbor_with f line s) p.neighbors }

-- what statements leave behind others
abbrev pub process_behind : ProcessFields → List (Stated ProcessSays) → ProcessFields
process_behind p ss = fold (λ p s. process_with p s.line s.setting) p ss

-- the process that lines make behind those before them, given the first faulty line among these, or the lower fault
unfoldable pub finished : ProcessFields → Option Fault → List Numbered → Result ProcessMade Fault
finished p told block =
    let whole = process_behind p (statements_in line_says block) in
    option_map_or Err (lower_of (option_or told (fault_in line_says block)) (lack_in whole.neighbors)) (Ok (process_of whole))
