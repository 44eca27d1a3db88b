-- The first place where a byte stands, and the byte with which the words of a line begin.
use Rattle.std.proofs.Common.{◌≡◌, ℕ, zero, suc, ◌+◌, ◌<◌, Bool, true, false, not, List, ◌∷◌, length, get_or, take, drop, Option, Some, None, refl, ap, ◌∙◌, arith}
use Rattle.std.specs.Prelude.{position, unwrap_or, ◌==◌}
use Rattle.std.specs.List.{position_or_len}
use Rattle.std.proofs.lemmas.Bool.{lt-ltb, le-ltb}
use Rattle.std.proofs.lemmas.List.{drop_more}
use Rattle.std.proofs.lemmas.List.Quantifiers.{position-Some}
use Rattle.std.proofs.lemmas.List.Sums.{position_or_len_is}
use Rattle.memchr.specs.Find.{IsFirstByte}
use Rattle.nc_lines.specs.Blocks.{is_idle}
use Rattle.nc_lines.specs.Lines.{is_gap, words_of, first_byte}
use Rattle.nc_lines.proofs.LineLemmas.{words_of-cut, word_some}

failed : (b : Bool) → (b ≡ true → ⊥) → b ≡ false
failed true never = absurd (never refl)
failed false never = refl

-- the first byte that passes a test is at its position
pub first_is_position : (test : ℕ → Bool) (bytes : List ℕ) (r : Option ℕ) → IsFirstByte test bytes r → r ≡ position test bytes
first_is_position test bytes None never =
    let at : position_or_len test bytes ≡ length bytes = position_or_len_is test bytes (length bytes) 0 (omega arith) (λ k lt. failed _ (never k (omega arith) lt)) (λ lt. absurd (omega arith)) in
    rw (at, le-ltb (length bytes) (length bytes) (omega arith)) refl
first_is_position test bytes (Some k) first =
    let within : k < length bytes = first.0.high in
    let at : position_or_len test bytes ≡ k = position_or_len_is test bytes k 0 (omega arith) (λ j lt. failed _ (first.0.before j (omega arith) lt)) (λ lt. first.1) in
    rw (at, lt-ltb k (length bytes) within) refl

-- the first word begins with the first byte that is no gap
first_word : (line : List ℕ) (start : ℕ) → position (λ b. not (is_gap b)) line ≡ Some start → (rest : List ℕ) × (others : List (List ℕ)) × (words_of line ≡ (get_or line start 0 ∷ rest) ∷ others)
first_word line start e =
    let from : List ℕ = drop start line in
    let end : ℕ = unwrap_or (position is_gap from) (length from) in
    let found = position-Some (λ b. not (is_gap b)) line start 0 e in
    let cut : words_of line ≡ take end from ∷ words_of (drop end from) = words_of-cut line from start end e refl refl in
    let some : 0 < end = word_some line from start end e refl refl in
    let head : from ≡ get_or line start 0 ∷ drop (start + 1) line = drop_more line start 0 found.0 in
    let part = by_len end (get_or line start 0) (drop (start + 1) line) some in
    (part.0, words_of (drop end from), cut ∙ ap (λ (word : List ℕ). word ∷ words_of (drop end from)) (ap (take end) head ∙ part.1))
  where
    by_len : (n byte : ℕ) (bytes : List ℕ) → 0 < n → (rest : List ℕ) × (take n (byte ∷ bytes) ≡ byte ∷ rest)
    by_len zero byte bytes some = absurd (omega arith)
    by_len (suc n) byte bytes some = (take n bytes, refl)

pub first_by_place : (line : List ℕ) (start : ℕ) → position (λ b. not (is_gap b)) line ≡ Some start → first_byte (words_of line) ≡ Some (get_or line start 0)
first_by_place line start e = ap first_byte (first_word line start e).2

pub idle_by_byte : (line : List ℕ) (start : ℕ) → position (λ b. not (is_gap b)) line ≡ Some start → is_idle (words_of line) ≡ (get_or line start 0 == 33)
idle_by_byte line start e = ap is_idle (first_word line start e).2
