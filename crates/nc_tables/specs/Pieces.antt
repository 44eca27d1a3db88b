-- The numbers of a path: its own, and those in full pieces behind them, which may be shared.
use Rattle.std.specs.Prelude.{◌≡◌, ◌≤◌, ◌<◌, ◌++◌, ℕ, List, [], Option, drop, length, IsSome}
use Rattle.std.specs.Option.{option_map_or, ForSome}
use Rattle.std.specs.declared.rc.Rc.{Rc}
use Rattle.std.specs.Global.{Global}
use Rattle.nc_types.specs.declared.TheConstants.{PATH_LIMIT}
use Rattle.nc_tables.specs.declared.path.TheConstants.{PIECE_LEN}
use Rattle.nc_tables.specs.declared.path.Piece.{Piece, Piece', Held-Piece-rest, None', Some'}
use Rattle.nc_tables.specs.SystemBits.{AreBitsOf}

-- the numbers of a piece alone
abbrev pub own_numbers : Piece → List ℕ
own_numbers (Piece' numbers rest bits) = numbers

abbrev mutual
  -- the numbers of a piece, and those behind it
  pub piece_numbers : Piece → List ℕ
  piece_numbers (Piece' numbers rest bits) = numbers ++ numbers_behind rest

  pub numbers_behind : Held-Piece-rest → List ℕ
  numbers_behind None' = []
  numbers_behind (Some' p piece) = piece_numbers piece

abbrev mutual
  -- a piece is full, and so are those behind it; it has the bits of its numbers and of all behind them
  pub IsPiece : Piece → Type 0
  IsPiece (Piece' numbers rest bits) = (length numbers ≡ PIECE_LEN) × ArePiecesBehind rest × AreBitsOf (numbers ++ numbers_behind rest) bits

  pub ArePiecesBehind : Held-Piece-rest → Type 0
  ArePiecesBehind None' = Unit {0}
  ArePiecesBehind (Some' p piece) = IsPiece piece

-- what a path shares with others, if anything
abbrev pub shared_numbers : Option (Rc Piece Global) → List ℕ
shared_numbers rest = option_map_or (λ piece. piece_numbers piece.value) rest []

abbrev pub ArePieces : Option (Rc Piece Global) → Type 0
ArePieces rest = ForSome rest (λ piece. IsPiece piece.value)

-- a path has numbers of its own before those that it shares, and says how many there are in all
pub record IsPath (numbers : List ℕ) (start count : ℕ) (rest : Option (Rc Piece Global)) : Type 0 where
  pub whole : length numbers ≡ PIECE_LEN
  pub within : start ≤ PIECE_LEN
  pub own : IsSome rest → start < PIECE_LEN
  pub pieces : ArePieces rest
  pub count_is : count ≡ length (drop start numbers ++ shared_numbers rest)
  pub few : count ≤ PATH_LIMIT
