-- The numbers of a path, one after another.
use Rattle.std.proofs.Common.{◌≡◌, ◌<◌, ◌≤◌, ◌++◌, [], ◌∷◌, ℕ, List, Option, None, Some, refl, sym, ap, ◌∙◌, length, take, drop, get_or, slice_get, arith, Bor}
use Rattle.std.specs.Global.{Global}
use Rattle.std.specs.declared.rc.Rc.{Rc}
use Rattle.std.specs.Option.{option_copied, option_map_or}
use Rattle.std.proofs.lemmas.List.{nil_from_length, length-drop, take_all}
use Rattle.nc_tables.specs.declared.path.TheConstants.{PIECE_LEN}
use Rattle.nc_tables.specs.declared.path.Piece.{Piece, Piece', None', Some', out-Piece}
use Rattle.nc_tables.specs.Pieces.{piece_numbers, shared_numbers, IsPiece}

-- the first number is passed
pub first_passed : (first : ℕ) (others own behind all : List ℕ) → own ≡ first ∷ others → own ++ behind ≡ all → (Some first ≡ slice_get all 0) × (others ++ behind ≡ drop 1 all)
first_passed first others own behind all is view =
    let parts : first ∷ (others ++ behind) ≡ all = ap (λ front. front ++ behind) (sym is) ∙ view in
    (ap (λ l. slice_get l 0) parts, ap (λ l. drop 1 l) parts)

first_of : (front behind : List ℕ) → 0 < length front → Some (get_or front 0 0) ≡ slice_get (front ++ behind) 0
first_of [] behind some = absurd (omega arith)
first_of (x ∷ xs) behind some = refl

left_of : (front behind : List ℕ) → 0 < length front → drop 1 front ++ behind ≡ drop 1 (front ++ behind)
left_of [] behind some = absurd (omega arith)
left_of (x ∷ xs) behind some = refl

parts : (a : Piece) → piece_numbers a ≡ (out-Piece a).numbers ++ shared_numbers (out-Piece a).rest
unfolding out-Piece denote.Hole.Carrier.out
parts (Piece' numbers None' bits) = refl
parts (Piece' numbers (Some' p piece) bits) = refl

full : (a : Piece) → IsPiece a → length (out-Piece a).numbers ≡ PIECE_LEN
unfolding out-Piece denote.Hole.Carrier.out
full (Piece' numbers rest bits) is = is.0

shared_by : (rest : Option (Bor (Rc Piece Global))) → option_map_or (λ piece. piece_numbers piece.now.value) rest [] ≡ shared_numbers (option_copied rest)
shared_by None = refl
shared_by (Some piece) = refl

-- where none is left of the own ones, the first of a piece is passed
module _ (a : Piece) (is : IsPiece a) (own all : List ℕ) (none : length own ≡ 0) (view : own ++ piece_numbers a ≡ all) where
  all_is : (out-Piece a).numbers ++ shared_numbers (out-Piece a).rest ≡ all
  all_is = sym (parts a) ∙ ap (λ front. front ++ piece_numbers a) (sym (nil_from_length own none)) ∙ view

  some : 0 < length (out-Piece a).numbers
  some = let eight : length (out-Piece a).numbers ≡ PIECE_LEN = full a is in omega arith

  pub piece_first : Some (get_or (out-Piece a).numbers 0 0) ≡ slice_get all 0
  piece_first = first_of (out-Piece a).numbers (shared_numbers (out-Piece a).rest) some ∙ ap (λ l. slice_get l 0) all_is

  pub piece_left : (rest : Option (Bor (Rc Piece Global))) → option_copied rest ≡ (out-Piece a).rest
      → take 7 (drop 1 (out-Piece a).numbers) ++ option_map_or (λ piece. piece_numbers piece.now.value) rest [] ≡ drop 1 all
  piece_left rest behind =
      let eight : length (out-Piece a).numbers ≡ PIECE_LEN = full a is in
      let seven : length (drop 1 (out-Piece a).numbers) ≤ 7 = omega (arith, length-drop 1 (out-Piece a).numbers) in
      ap (λ front. front ++ option_map_or (λ piece. piece_numbers piece.now.value) rest []) (take_all 7 (drop 1 (out-Piece a).numbers) seven)
      ∙ ap (λ left. drop 1 (out-Piece a).numbers ++ left) (shared_by rest ∙ ap shared_numbers behind)
      ∙ left_of (out-Piece a).numbers (shared_numbers (out-Piece a).rest) some ∙ ap (λ l. drop 1 l) all_is
