-- A path with a number before it, and with several.
use Rattle.std.proofs.Common.{◌≡◌, ◌<◌, ◌≤◌, ◌+◌, ◌-◌, ◌++◌, [], ◌∷◌, ℕ, List, Option, Some, sym, ap, subst, ◌∙◌, length, drop, set, get_or, arith}
use Rattle.std.specs.Global.{Global}
use Rattle.std.specs.declared.rc.Rc.{Rc}
use Rattle.std.proofs.lemmas.List.{drop-set, drop_more, length-set, length-append, length-drop}
use Rattle.nc_types.specs.declared.TheConstants.{PATH_LIMIT}
use Rattle.nc_tables.specs.declared.path.TheConstants.{PIECE_LEN}
use Rattle.nc_tables.specs.declared.path.Piece.{Piece}
use Rattle.nc_tables.specs.Pieces.{piece_numbers, shared_numbers, IsPiece, IsPath}

module _ (number : ℕ) (numbers : List ℕ) (start count : ℕ) (rest : Option (Rc Piece Global)) (is : IsPath numbers start count rest)
    (path : List ℕ) (view : drop start numbers ++ shared_numbers rest ≡ path) where
  as_many : count ≡ length path
  as_many = is.count_is ∙ ap length view

  -- where there is room, it stands before the path's own numbers
  module _ (room : 0 < start) where
    own_front : drop (start - 1) (set numbers (start - 1) number) ≡ number ∷ drop start numbers
    own_front =
        let whole : length numbers ≡ PIECE_LEN = is.whole in
        let within : start ≤ PIECE_LEN = is.within in
        let back : (start - 1) + 1 ≡ start = omega arith in
        drop-set numbers (start - 1) number (omega arith) ∙ ap (λ (n : ℕ). number ∷ drop n numbers) back

    pub own_more : drop (start - 1) (set numbers (start - 1) number) ++ shared_numbers rest ≡ number ∷ path
    own_more = ap (λ own. own ++ shared_numbers rest) own_front ∙ ap (λ all. number ∷ all) view

    pub own_path : length path < PATH_LIMIT → IsPath (set numbers (start - 1) number) (start - 1) (count + 1) rest
    own_path few =
        let within : start ≤ PIECE_LEN = is.within in
        let many : count ≡ length path = as_many in
        let more : length (drop (start - 1) (set numbers (start - 1) number) ++ shared_numbers rest) ≡ length (number ∷ path) = ap length own_more in
        record {
          whole = length-set numbers (start - 1) number ∙ is.whole;
          within = omega arith;
          own = λ shared. omega arith;
          pieces = is.pieces;
          count_is = omega arith;
          few = omega arith;
        }

  -- else the path is shared from a piece on, and it stands alone before that
  module _ (none : start ≡ 0) (made : Rc Piece Global) (piece : Piece) (holds : made.value ≡ piece) (all : piece_numbers piece ≡ numbers ++ shared_numbers rest) where
    shared_is : piece_numbers made.value ≡ path
    shared_is = ap piece_numbers holds ∙ all ∙ sym (ap (λ n. drop n numbers ++ shared_numbers rest) none) ∙ view

    pub shared_more : number ∷ piece_numbers made.value ≡ number ∷ path
    shared_more = ap (λ all. number ∷ all) shared_is

    pub shared_path : (first : List ℕ) → length first ≡ PIECE_LEN → drop 7 first ≡ number ∷ [] → IsPiece piece → length path < PATH_LIMIT → IsPath first 7 (count + 1) (Some made)
    shared_path first whole last is_piece few =
        let many : count ≡ length path = as_many in
        let more : length (drop 7 first ++ piece_numbers made.value) ≡ length (number ∷ path) = ap (λ own. length (own ++ piece_numbers made.value)) last ∙ ap length shared_more in
        record {
          whole = whole;
          within = omega arith;
          own = λ shared. omega arith;
          pieces = λ x e. let same : made ≡ x = cc in subst (λ (p : Rc Piece Global). IsPiece p.value) same (subst IsPiece (sym holds) is_piece);
          count_is = omega arith;
          few = omega arith;
        }

-- ---- numbers before a path, the last of them first

module _ (numbers self path : List ℕ) (place : ℕ) (some : 0 < place) (within : place ≤ length numbers) (is : path ≡ drop place numbers ++ self) where
  pub room_left : length numbers + length self ≤ PATH_LIMIT → length path < PATH_LIMIT
  room_left few =
      let all : length path ≡ length (drop place numbers ++ self) = ap length is in
      let parts : length (drop place numbers ++ self) ≡ length (drop place numbers) + length self = length-append (drop place numbers) self in
      let left : length (drop place numbers) ≡ length numbers - place = length-drop place numbers in
      omega arith

  pub one_before : (d : ℕ) → get_or numbers (place - 1) d ∷ path ≡ drop (place - 1) numbers ++ self
  one_before d =
      let back : (place - 1) + 1 ≡ place = omega arith in
      ap (λ all. get_or numbers (place - 1) d ∷ all) is
      ∙ ap (λ (n : ℕ). get_or numbers (place - 1) d ∷ (drop n numbers ++ self)) (sym back)
      ∙ sym (ap (λ own. own ++ self) (drop_more numbers (place - 1) d (omega arith)))
