use Rattle.std.proofs.Common.{◌≡◌, ◌++◌, length, map}
use Rattle.std.specs.Vec.Iter.{into_iter_items}
use Rattle.nc_tables.specs.Rounds.{bgp_row_view}
use Rattle.nc_tables.proofs.ribs.with_own.Given as goal

-- what is joined so far, and what is left to be joined, are all
abbrev pub invariant-routers : goal.invariant-routers
invariant-routers l = record {
  count : length (into_iter_items l.owned) ≡ length (into_iter_items l.left);
  standing : map (λ c. c.standing.items) l.all.items ++ map (λ choices. choices.items) (into_iter_items l.left) ≡ map (λ choices. choices.items) l.fn.routers.items;
  own : map (λ c. map bgp_row_view c.own.items) l.all.items ++ map (λ rows. map bgp_row_view rows.items) (into_iter_items l.owned) ≡ map (λ rows. map bgp_row_view rows.items) l.fn.own.items;
}

abbrev pub decreases-routers : goal.decreases-routers
decreases-routers l = length (into_iter_items l.left)
