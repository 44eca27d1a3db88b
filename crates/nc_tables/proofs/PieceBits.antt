-- The bits of pieces.
use Rattle.std.proofs.Common.{◌≡◌, ◌==◌, ◌++◌, [], ◌||◌, ℕ, List, true, false, Option, None, Some, refl, sym, ap, ◌∙◌, length}
use Rattle.std.specs.Global.{Global}
use Rattle.std.specs.List.{list_any}
use Rattle.std.specs.declared.rc.Rc.{Rc}
use Rattle.std.proofs.lemmas.List.Folds.{list_any-append}
use Rattle.nc_tables.specs.declared.path.TheConstants.{PIECE_LEN}
use Rattle.nc_tables.specs.declared.path.Piece.{Piece, Piece', None', Some', out-Piece, roll-Piece}
use Rattle.nc_tables.specs.declared.system_bits.SystemBits.{SystemBits}
use Rattle.nc_tables.specs.Pieces.{piece_numbers, shared_numbers, IsPiece, ArePieces}
use Rattle.nc_tables.specs.SystemBits.{has_bit, AreBitsOf}
use Rattle.nc_tables.proofs.Remainders.{none_alike}

-- a piece has the bits of its numbers and of all behind them
pub bits_on : (a : Piece) → IsPiece a → AreBitsOf (piece_numbers a) (out-Piece a).bits
unfolding out-Piece denote.Hole.Carrier.out
bits_on (Piece' numbers None' bits) is = is.2
bits_on (Piece' numbers (Some' p piece) bits) is = is.2

-- a number whose bit isn't set is neither in a piece nor behind it
pub absent : (a : Piece) (number : ℕ) → IsPiece a → has_bit (out-Piece a).bits number ≡ false → list_any (λ n. n == number) (piece_numbers a) ≡ false
absent a number is unset = none_alike number (piece_numbers a) (sym (bits_on a is number) ∙ unset)

-- full numbers before pieces are a piece, with the bits of all of them
pub made : (numbers : List ℕ) (bits : SystemBits) (rest : Option (Rc Piece Global)) → length numbers ≡ PIECE_LEN → ArePieces rest
    → AreBitsOf (numbers ++ shared_numbers rest) bits → IsPiece (roll-Piece (record { numbers = numbers; bits = bits; rest = rest }))
unfolding roll-Piece denote.Hole.Carrier.roll
made numbers bits None full pieces has = (full, tt, has)
made numbers bits (Some piece) full pieces has = (full, pieces piece refl, has)

-- a number that is in a piece or behind it is in its own numbers or behind it
one_of : (a : Piece) (number : ℕ) → list_any (λ n. n == number) (piece_numbers a) ≡ (list_any (λ n. n == number) (out-Piece a).numbers || list_any (λ n. n == number) (shared_numbers (out-Piece a).rest))
unfolding out-Piece denote.Hole.Carrier.out
one_of (Piece' numbers None' bits) number = list_any-append (λ n. n == number) numbers []
one_of (Piece' numbers (Some' p piece) bits) number = list_any-append (λ n. n == number) numbers (piece_numbers piece)

pub in_piece : (a : Piece) (number : ℕ) → list_any (λ n. n == number) (out-Piece a).numbers ≡ true → list_any (λ n. n == number) (piece_numbers a) ≡ true
in_piece a number own = one_of a number ∙ ap (λ b. b || list_any (λ n. n == number) (shared_numbers (out-Piece a).rest)) own

pub behind_piece : (a : Piece) (number : ℕ) → list_any (λ n. n == number) (out-Piece a).numbers ≡ false → list_any (λ n. n == number) (piece_numbers a) ≡ list_any (λ n. n == number) (shared_numbers (out-Piece a).rest)
behind_piece a number own = one_of a number ∙ ap (λ b. b || list_any (λ n. n == number) (shared_numbers (out-Piece a).rest)) own
