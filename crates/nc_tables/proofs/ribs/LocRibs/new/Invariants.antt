use Rattle.std.proofs.Common.{◌≡◌, [], All, length}
use Rattle.nc_tables.proofs.ribs.LocRibs.new.Given as goal

-- nothing is chosen of any prefix by so many routers so far
abbrev pub invariant-routers : goal.invariant-routers
invariant-routers l = record {
  count : length l.routers.items ≡ l._router;
  each : All (λ choices. length choices.items ≡ length l.prefixes.items) l.routers.items;
  none : All (λ choices. All (λ cs. cs ≡ []) choices.items) l.routers.items;
}
