use Rattle.std.proofs.Common.{◌≡◌, ◌<◌, ℕ, [], All, length, map, get_or}
use Rattle.nc_tables.specs.Rounds.{bgp_row_view, AreBgpRows}
use Rattle.nc_round.specs.Likeness.{AreOwnRows}
use Rattle.nc_round.proofs.expansion.each_own_rows.Given as goal

abbrev pub invariant-routers : goal.invariant-routers
invariant-routers l = record {
  count : length l.own.items ≡ l.router;
  valid : All (λ rows. AreBgpRows (map bgp_row_view rows.items)) l.own.items;
  own : (r : ℕ) → r < length (map (λ rows. map bgp_row_view rows.items) l.own.items) → AreOwnRows l.inputs.network.now l.likeness l.ribs.rows r (get_or (map (λ rows. map bgp_row_view rows.items) l.own.items) r []);
}
