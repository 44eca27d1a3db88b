use Rattle.std.proofs.Common.{◌<◌, ℕ, Contains, map}
use Rattle.nc_types.specs.Cidr.{Cidr}
use Rattle.nc_round.specs.Keys.{key}
use Rattle.nc_round.specs.Renewing.{AreChangesOf}
use Rattle.nc_round.specs.Rows.{listed, row_key}
use Rattle.nc_round.specs.Waking.{woken_at, AreWoken}
use Rattle.nc_round.proofs.renewal.renew_each.Given as goal

abbrev pub invariant-routers : goal.invariant-routers
invariant-routers l = record {
  -- the rows of the routers so far are woken
  woken : (router : ℕ) (p : Cidr) → router < l.router → Contains (woken_at l.inputs l.ribs.rows (listed l.lists) router) p → Contains (map row_key l.made.rows.items) (key router p);
  rows : AreWoken l.router l.ribs.prefixes l.made.rows.items;
  anew : AreChangesOf l.inputs l.ribs.prefixes l.ribs.rows l.made.rows.items l.made.changes.items;
}
