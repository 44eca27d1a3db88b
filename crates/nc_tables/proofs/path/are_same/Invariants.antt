use Rattle.std.proofs.Common.{◌≡◌, ◌↔◌}
use Rattle.nc_tables.specs.Pieces.{shared_numbers, ArePieces}
use Rattle.nc_tables.proofs.path.are_same.Given as goal

-- what is left of both is the same exactly where all is
abbrev pub invariant-pieces : goal.invariant-pieces
invariant-pieces l = record {
  same : (shared_numbers l.left ≡ shared_numbers l.right) ↔ (shared_numbers l.fn.left ≡ shared_numbers l.fn.right);
  left : ArePieces l.left;
  right : ArePieces l.right;
}
