use Rattle.std.proofs.Common.{◌≡◌, drop}
use Rattle.nc_types.specs.Config.{config_view}
use Rattle.nc_tables.specs.Policy.{prefix_place, first_place}
use Rattle.nc_policy.proofs.clauses.first_prefix_place.Given as goal

-- none of the lists so far permits the prefix
abbrev pub invariant-references : goal.invariant-references
invariant-references l = first_place (prefix_place (config_view l.config) l.prefix) (drop l.reference-index l.references) ≡ first_place (prefix_place (config_view l.config) l.prefix) l.references
