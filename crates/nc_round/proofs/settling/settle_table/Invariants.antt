use Rattle.std.proofs.Common.{◌≡◌, map}
use Rattle.nc_round.specs.Rows.{row_key, AreRows}
use Rattle.nc_round.proofs.SettledOf.{IsRunOf}
use Rattle.nc_round.proofs.settling.settle_table.Given as goal

abbrev pub invariant-rounds : goal.invariant-rounds
invariant-rounds l = record {
  run : IsRunOf l.likeness.standing.items l.inputs.network.now l.inputs.base.now l.inputs.sessions.now l._more l.ribs.rows (map row_key l.changed.rows.items);
  prefixes : l.ribs.prefixes ≡ l.likeness.standing.items;
  numbers : AreRows l.ribs.prefixes l.changed.rows.items;
}
