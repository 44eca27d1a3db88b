use Rattle.std.proofs.Common.{◌≡◌, [], map, take}
use Rattle.std.specs.List.{filter_map}
use Rattle.nc_reader.specs.Parts.{community_line}
use Rattle.nc_reader.specs.Things.{community_part, ok_of, err_of}
use Rattle.nc_reader.proofs.communities.read_communities.Given as goal

abbrev pub invariant-entries : goal.invariant-entries
invariant-entries l = record {
  parts : map community_line l.parts.items ≡ filter_map ok_of (map (community_part l.lines) (take l.line-index l.places));
  clean : filter_map err_of (map (community_part l.lines) (take l.line-index l.places)) ≡ [];
}
