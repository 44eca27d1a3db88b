use Rattle.std.proofs.Common.{◌≡◌, ◌<◌, ℕ, List, true, length, drop}
use Rattle.nc_types.specs.Config.{config_view}
use Rattle.nc_tables.specs.Policy.{community_place, first_place}
use Rattle.nc_policy.specs.Guards.{is_unheld}
use Rattle.nc_policy.proofs.guards.Guard.of.Given as goal

-- the lists so far don't permit communities without its numbers
abbrev pub invariant-references : goal.invariant-references
invariant-references l = record {
  rest : (held : List ℕ) → is_unheld l.guard held ≡ true → first_place (community_place (config_view l.config) held) (drop l.reference-index l.references) ≡ first_place (community_place (config_view l.config) held) l.references;
  some : (held : List ℕ) → is_unheld l.guard held ≡ true → 0 < length l.references;
}
