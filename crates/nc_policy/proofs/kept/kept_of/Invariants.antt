use Rattle.nc_types.specs.Config.{config_view}
use Rattle.nc_policy.specs.Kept.{AreAsked, AreKept}
use Rattle.nc_policy.specs.Seen.{asked_table, kept_table, IsPrefixIndex}
use Rattle.nc_policy.proofs.kept.kept_of.Given as goal

-- what is kept so far is what the maps decide
abbrev pub invariant-neighbors : goal.invariant-neighbors
invariant-neighbors l = record {
  numbers : IsPrefixIndex l.prefixes l.kept.numbers.value;
  kept : AreKept (config_view l.config) (kept_table l.kept);
  asked : AreAsked (config_view l.config) (asked_table l.kept);
}
