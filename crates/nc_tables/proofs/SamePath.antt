-- Two paths side by side.
use Rattle.std.proofs.Common.{◌≡◌, ◌↔◌, ◌≤◌, ◌<◌, ◌+◌, ◌*◌, ◌++◌, ℕ, zero, suc, List, refl, sym, ap, subst, ◌∙◌, [], Option, None, Some, length, take, drop, arith, Bool, true, false, not}
use Rattle.std.specs.Global.{Global}
use Rattle.std.specs.declared.rc.Rc.{Rc}
use Rattle.std.proofs.lemmas.List.{length-append, length-drop, append_cancel_left}
use Rattle.std.specs.Str.{bytes_eq}
use Rattle.std.proofs.lemmas.Slice.Eq.{bytes_eq-Decides}
use Rattle.std.proofs.Math.Seq.{take-append_seam}
use Rattle.nc_tables.specs.declared.path.TheConstants.{PIECE_LEN}
use Rattle.nc_tables.specs.declared.path.Piece.{Piece, Piece', Held-Piece-rest, None', Some', out-Piece}
use Rattle.nc_tables.specs.Pieces.{own_numbers, piece_numbers, numbers_behind, shared_numbers, IsPiece, ArePieces, ArePiecesBehind, IsPath}

-- ---- pieces

abbrev mutual
  -- how many pieces there are from one on
  pieces_from : Piece → ℕ
  pieces_from (Piece' numbers rest bits) = suc (pieces_behind rest)

  pieces_behind : Held-Piece-rest → ℕ
  pieces_behind None' = 0
  pieces_behind (Some' p piece) = pieces_from piece

-- as many numbers are from a piece on as full pieces have
mutual
  full_length : (piece : Piece) → IsPiece piece → length (piece_numbers piece) ≡ PIECE_LEN * pieces_from piece
  full_length (Piece' numbers rest bits) is =
      let behind = behind_length rest is.1 in
      let all = length-append numbers (numbers_behind rest) in
      let n : length numbers ≡ PIECE_LEN = is.0 in
      omega arith

  behind_length : (rest : Held-Piece-rest) → ArePiecesBehind rest → length (numbers_behind rest) ≡ PIECE_LEN * pieces_behind rest
  behind_length None' full = refl
  behind_length (Some' p piece) full = full_length piece full

pub some_number : (piece : Piece) → IsPiece piece → piece_numbers piece ≡ [] → ⊥
some_number piece is none =
    let all = full_length piece is in
    let empty : length (piece_numbers piece) ≡ 0 = ap length none in
    by_piece piece all empty
  where
    by_piece : (p : Piece) → length (piece_numbers piece) ≡ PIECE_LEN * pieces_from p → length (piece_numbers piece) ≡ 0 → ⊥
    by_piece (Piece' numbers rest bits) all empty = omega arith

-- the fronts of two equal lists, where they are as long
pub same_front : (x y a b : List ℕ) → length x ≡ length y → x ++ a ≡ y ++ b → x ≡ y
same_front x y a b long same =
    sym (take-append_seam x a) ∙ ap (λ n. take n (x ++ a)) long ∙ ap (take (length y)) same ∙ take-append_seam y b

-- lists with the same front are the same where what is behind it is
pub same_behind : (x y a b : List ℕ) → x ≡ y → (a ≡ b) ↔ (x ++ a ≡ y ++ b)
same_behind x y a b front = (
  (λ same. ap (λ z. z ++ a) front ∙ ap (λ z. y ++ z) same),
  (λ same. append_cancel_left y a b (ap (λ z. z ++ a) (sym front) ∙ same)),
)

-- a piece is its numbers and those behind it
pub split : (a : Piece) → piece_numbers a ≡ own_numbers a ++ shared_numbers (out-Piece a).rest
unfolding out-Piece denote.Hole.Carrier.out
split (Piece' numbers None' bits) = refl
split (Piece' numbers (Some' p piece) bits) = refl

full : (a : Piece) → IsPiece a → length (own_numbers a) ≡ PIECE_LEN
full (Piece' numbers rest bits) is = is.0

-- pieces that are the same have the same numbers
pub same_first : (a b : Piece) → IsPiece a → IsPiece b → piece_numbers a ≡ piece_numbers b → own_numbers a ≡ own_numbers b
same_first a b is_a is_b same =
    same_front (own_numbers a) (own_numbers b) (shared_numbers (out-Piece a).rest) (shared_numbers (out-Piece b).rest)
    (full a is_a ∙ sym (full b is_b)) (sym (split a) ∙ same ∙ split b)

-- pieces with the same numbers are the same from there on where those behind them are
pub same_rest : (a b : Piece) → own_numbers a ≡ own_numbers b
    → (shared_numbers (out-Piece a).rest ≡ shared_numbers (out-Piece b).rest) ↔ (piece_numbers a ≡ piece_numbers b)
same_rest a b own =
    let both = same_behind (own_numbers a) (own_numbers b) (shared_numbers (out-Piece a).rest) (shared_numbers (out-Piece b).rest) own in (
      (λ same. split a ∙ both.0 same ∙ sym (split b)),
      (λ same. both.1 (sym (split a) ∙ same ∙ split b)),
    )

-- what is behind a piece are pieces too
pub pieces_on : (a : Piece) → IsPiece a → ArePieces (out-Piece a).rest
unfolding out-Piece denote.Hole.Carrier.out
pieces_on (Piece' numbers None' bits) is = λ x e. absurd cc
pieces_on (Piece' numbers (Some' p piece) bits) is = λ x e.
    let same : piece ≡ x.value = cc in
    subst IsPiece same is.1

-- ---- paths

-- how many numbers a path has of its own, and how many pieces it shares
own_length : (numbers : List ℕ) (start count : ℕ) (rest : Option (Rc Piece Global)) → IsPath numbers start count rest
    → (n : ℕ) × (count ≡ length (drop start numbers) + PIECE_LEN * n) × (length (drop start numbers) ≡ 0 → n ≡ 0) × (length (drop start numbers) ≤ PIECE_LEN)
own_length numbers start count None is =
    let own = length-drop start numbers in
    let all = length-append (drop start numbers) [] in
    let w : length numbers ≡ PIECE_LEN = is.whole in
    let c : count ≡ length (drop start numbers ++ []) = is.count_is in
    let none : length {A = ℕ} [] ≡ 0 = refl in
    (0, omega arith, (λ e. refl), omega arith)
own_length numbers start count (Some piece) is =
    let own = length-drop start numbers in
    let all = length-append (drop start numbers) (piece_numbers piece.value) in
    let behind = full_length piece.value (is.pieces piece refl) in
    let s : start < PIECE_LEN = is.own refl in
    let w : length numbers ≡ PIECE_LEN = is.whole in
    let c : count ≡ length (drop start numbers ++ piece_numbers piece.value) = is.count_is in
    (pieces_from piece.value, omega arith, (λ e. omega arith), omega arith)

-- as many numbers leave as many before the pieces
same_first_count : (x m y n : ℕ) → (x ≡ 0 → m ≡ 0) → (y ≡ 0 → n ≡ 0) → x ≤ PIECE_LEN → y ≤ PIECE_LEN → x + PIECE_LEN * m ≡ y + PIECE_LEN * n → x ≡ y
same_first_count zero m zero n none none2 le le2 same = refl
same_first_count zero m (suc y) n none none2 le le2 same = let e : m ≡ 0 = none refl in absurd (omega arith)
same_first_count (suc x) m zero n none none2 le le2 same = let e : n ≡ 0 = none2 refl in absurd (omega arith)
same_first_count (suc x) m (suc y) n none none2 le le2 same = omega arith

-- paths of one length have as many numbers of their own
pub same_own : (numbers : List ℕ) (start count : ℕ) (rest : Option (Rc Piece Global)) → IsPath numbers start count rest
    → (numbers2 : List ℕ) (start2 count2 : ℕ) (rest2 : Option (Rc Piece Global)) → IsPath numbers2 start2 count2 rest2
    → count ≡ count2 → length (drop start numbers) ≡ length (drop start2 numbers2)
same_own numbers start count rest a numbers2 start2 count2 rest2 b same =
    let first = own_length numbers start count rest a in
    let second = own_length numbers2 start2 count2 rest2 b in
    same_first_count (length (drop start numbers)) first.0 (length (drop start2 numbers2)) second.0 first.2 second.2 first.3 second.3 (sym first.1 ∙ same ∙ second.1)

-- ---- what a test of two slices says

pub alike : (xs ys : List ℕ) → false ≡ not (bytes_eq xs ys) → xs ≡ ys
alike xs ys e = (bytes_eq-Decides xs ys).0 (passed (bytes_eq xs ys) e)
  where
    passed : (b : Bool) → false ≡ not b → b ≡ true
    passed true e = refl
    passed false e = absurd cc

pub unlike : (xs ys : List ℕ) → true ≡ not (bytes_eq xs ys) → xs ≡ ys → ⊥
unlike xs ys e same = let is : bytes_eq xs ys ≡ true = (bytes_eq-Decides xs ys).1 same in differ (bytes_eq xs ys) e is
  where
    differ : (b : Bool) → true ≡ not b → b ≡ true → ⊥
    differ true e is = absurd cc
    differ false e is = absurd cc
