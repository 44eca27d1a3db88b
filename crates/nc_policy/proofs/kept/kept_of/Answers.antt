use Rattle.std.proofs.Common.{sym, subst}
use Rattle.nc_types.specs.Config.{config_view}
use Rattle.nc_policy.specs.Seen.{kept_table, IsPrefixIndex}
use Rattle.nc_policy.proofs.Keeping.{nothing_kept}
use Rattle.nc_policy.proofs.kept.kept_of.Goals as goal

pub returns-in_default-clause-kept : goal.returns-in_default-clause-kept
returns-in_default-clause-kept c = nothing_kept (config_view c.args.config.now) (kept_table c.in_ok-kept.kept) c.in_ok-kept.ensures.kept

pub returns-in_default-clause-asked : goal.returns-in_default-clause-asked
returns-in_default-clause-asked c = c.in_ok-kept.ensures.asked (config_view c.args.config.now)

pub neighbors-init : goal.neighbors-init
neighbors-init c = record {
  numbers = subst (IsPrefixIndex c.args.prefixes.now) (sym c.in_ok-kept.ensures.numbers) c.requires.numbers;
  kept = nothing_kept (config_view c.args.config.now) (kept_table c.in_ok-kept.kept) c.in_ok-kept.ensures.kept;
  asked = c.in_ok-kept.ensures.asked (config_view c.args.config.now);
}
