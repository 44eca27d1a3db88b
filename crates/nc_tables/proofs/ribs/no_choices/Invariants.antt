use Rattle.std.proofs.Common.{◌≡◌, [], All, length}
use Rattle.nc_tables.proofs.ribs.no_choices.Given as goal

-- nothing is chosen of so many prefixes so far
abbrev pub invariant-prefixes : goal.invariant-prefixes
invariant-prefixes l = record {
  count : length l.choices.items ≡ l._number;
  none : All (λ cs. cs ≡ []) l.choices.items;
}
