use Rattle.std.proofs.Common.{◌≡◌, ◌<◌, true, drop}
use Rattle.nc_types.specs.Cidr.{Cidr}
use Rattle.nc_types.specs.Config.{config_view}
use Rattle.nc_tables.specs.Policy.{first_place, prefix_place}
use Rattle.nc_policy.specs.Spans.{is_outside}
use Rattle.nc_policy.proofs.spans.of_references.Given as goal

-- the lists so far don't permit what is outside
abbrev pub invariant-references : goal.invariant-references
invariant-references l = (p : Cidr) → p.base < 4294967296 → is_outside l.span p.base ≡ true → first_place (prefix_place (config_view l.config) p) (drop l.reference-index l.references) ≡ first_place (prefix_place (config_view l.config) p) l.references
