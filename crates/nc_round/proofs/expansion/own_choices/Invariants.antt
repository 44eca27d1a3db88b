use Rattle.std.proofs.Common.{◌≡◌, length, take}
use Rattle.nc_round.specs.Likeness.{AreMade}
use Rattle.nc_round.proofs.expansion.own_choices.Given as goal

-- what is made so far is of the prefixes so far
abbrev pub invariant-prefixes : goal.invariant-prefixes
invariant-prefixes l = record {
  count : length l.choices.items ≡ l.prefix-index;
  made : AreMade l.inputs.network.now l.likeness l.ribs.rows l.router.0 (take l.prefix-index l.prefixes) l.choices.items;
}
