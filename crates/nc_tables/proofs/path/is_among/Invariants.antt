use Rattle.std.proofs.Common.{◌≡◌, ◌==◌}
use Rattle.std.specs.List.{list_any}
use Rattle.nc_tables.specs.Pieces.{shared_numbers, ArePieces}
use Rattle.nc_tables.proofs.path.is_among.Given as goal

-- the number is in what is left exactly where it is in the whole path
abbrev pub invariant-pieces : goal.invariant-pieces
invariant-pieces l = record {
  found : list_any (λ n. n == l.number) (shared_numbers l.rest) ≡ list_any (λ n. n == l.number) (shared_numbers l.at);
  pieces : ArePieces l.at;
}
