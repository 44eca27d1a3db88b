use Rattle.std.proofs.Common.{◌≡◌, length, take}
use Rattle.nc_round.specs.Likeness.{IsDraft}
use Rattle.nc_round.proofs.likeness.by_owner.Given as goal

abbrev pub invariant-prefixes : goal.invariant-prefixes
invariant-prefixes l = record {
  draft : IsDraft l.inputs.network.now l.inputs.base.now (take l.number l.all.items) l.draft;
  count : length l.draft.firsts.items ≡ length l.inputs.network.now;
}
