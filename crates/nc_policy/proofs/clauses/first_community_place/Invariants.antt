use Rattle.std.proofs.Common.{◌≡◌, drop}
use Rattle.nc_types.specs.Config.{config_view}
use Rattle.nc_tables.specs.Policy.{community_place, first_place}
use Rattle.nc_policy.proofs.clauses.first_community_place.Given as goal

-- none of the lists so far permits the communities
abbrev pub invariant-references : goal.invariant-references
invariant-references l = first_place (community_place (config_view l.config) l.held) (drop l.reference-index l.references) ≡ first_place (community_place (config_view l.config) l.held) l.references
