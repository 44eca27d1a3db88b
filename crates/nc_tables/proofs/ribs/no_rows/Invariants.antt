use Rattle.std.proofs.Common.{◌≡◌, [], All, length}
use Rattle.nc_tables.proofs.ribs.no_rows.Given as goal

-- none for each router so far
abbrev pub invariant-routers : goal.invariant-routers
invariant-routers l = record {
  count : length l.own.items ≡ l._router;
  none : All (λ rows. rows.items ≡ []) l.own.items;
}
