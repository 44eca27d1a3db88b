use Rattle.std.proofs.Common.{◌≡◌, ◌≤◌, ◌++◌, All, length, take}
use Rattle.std.specs.List.{flat_map}
use Rattle.nc_types.specs.declared.TheConstants.{MULTIPATH_LIMIT}
use Rattle.nc_tables.specs.Rounds.{BgpRowView}
use Rattle.nc_rules_route.specs.Parents.{each_chosen}
use Rattle.nc_rules_route.proofs.begun.push_rows.Given as goal

-- those so far and those of the rest are all, and what was there before stays
abbrev pub invariant-rows : goal.invariant-rows
invariant-rows l = record {
  rest : l.into.items ++ flat_map (each_chosen l.router) l.rows ≡ l.fn.into.items ++ flat_map (each_chosen l.router) l.fn.rows;
  front : take (length l.fn.into.items) l.into.items ≡ l.fn.into.items;
  few : All (λ (row : BgpRowView). length row.chosen ≤ MULTIPATH_LIMIT) l.rows;
}

abbrev pub decreases-rows : goal.decreases-rows
decreases-rows l = length l.rows
