use Rattle.std.proofs.Common.{rules}
use Rattle.nc_tables.specs.Choice.{preference_cmp}
use Rattle.nc_select.proofs.preference.preference_cmp.Goals as goal

pub returns-then-is_ne : goal.returns-then-is_ne
unfolding preference_cmp
returns-then-is_ne g c = search rules

pub returns-then-is_ne-2 : goal.returns-then-is_ne-2
unfolding preference_cmp
returns-then-is_ne-2 g c = search rules

pub returns-then-is_ne-3 : goal.returns-then-is_ne-3
unfolding preference_cmp
returns-then-is_ne-3 g c = search rules

pub returns : goal.returns
unfolding preference_cmp
returns g c = search rules
