use Rattle.std.proofs.Common.{sym, ap, subst, ◌∙◌}
use Rattle.nc_tables.specs.Pieces.{piece_numbers, shared_numbers, IsPiece}
use Rattle.nc_tables.specs.SystemBits.{any_alike}
use Rattle.nc_tables.proofs.PieceBits.{bits_on}
use Rattle.nc_tables.proofs.path.shared_bits.Goals as goal

pub returns-in-Some : goal.returns-in-Some
returns-in-Some c n =
    let is = subst IsPiece (sym c.deref.ensures) (c.requires c.in-Some.piece c.in-Some.is) in
    bits_on c.deref.result.now is n
    ∙ ap (λ p. any_alike n (piece_numbers p)) c.deref.ensures
    ∙ ap (λ r. any_alike n (shared_numbers r)) (sym c.in-Some.is)
