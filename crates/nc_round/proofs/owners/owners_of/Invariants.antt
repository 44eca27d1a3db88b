use Rattle.std.proofs.Common.{◌≡◌, length, take}
use Rattle.nc_round.specs.Likeness.{AreOwners}
use Rattle.nc_round.proofs.owners.owners_of.Given as goal

abbrev pub invariant-keys : goal.invariant-keys
invariant-keys l = record {
  count : length l.owners.items ≡ length l.all;
  owners : AreOwners (take l.key-index l.keys) l.all l.owners.items;
}
