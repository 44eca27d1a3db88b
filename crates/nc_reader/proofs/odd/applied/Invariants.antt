use Rattle.std.proofs.Common.{◌≡◌, ℕ, ◌||◌, List, map, drop}
use Rattle.std.specs.List.{filter_map, list_any}
use Rattle.std.specs.Str.{bytes_eq}
use Rattle.nc_reader.specs.Configuration.{applied_by}
use Rattle.nc_reader.specs.Parts.{part_view}
use Rattle.nc_reader.proofs.odd.applied.Given as goal

abbrev pub invariant-parts : goal.invariant-parts
invariant-parts l = (q : List ℕ) → (list_any (bytes_eq q) l.names.keys || list_any (bytes_eq q) (filter_map applied_by (drop l.part-index (map part_view l.parts)))) ≡ list_any (bytes_eq q) (filter_map applied_by (map part_view l.parts))
