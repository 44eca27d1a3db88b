use Rattle.std.proofs.Common.{◌≡◌, All, None, length}
use Rattle.nc_policy.proofs.best.none_yet.Given as goal

-- there is no clause for so many prefixes so far
abbrev pub invariant-prefixes : goal.invariant-prefixes
invariant-prefixes l = record {
  count : length l.best.items ≡ l._number;
  none : All (λ b. b ≡ None) l.best.items;
}
