-- A text with a number in it that is counted up.
use Rattle.std.specs.Prelude.{◌≡◌, ℕ, ◌+◌, ◌≤◌, List, [], ◌∷◌, ◌++◌, codes, length, take, drop}
use Rattle.std.specs.Fmt.{decimal}

-- what stands before a number, the number, and what stands behind it
pub record Numbered : Type 0 where
  pub head : List ℕ
  pub number : ℕ
  pub tail : List ℕ

abbrev pub numbered_text : Numbered → List ℕ
numbered_text n = n.head ++ (decimal n.number ++ n.tail)

-- a text in which the digits of a number stand between two places
pub record HasDigits (text : List ℕ) (start end number : ℕ) : Type 0 where
  pub starts : start ≤ length text
  pub ends : end ≡ start + length (decimal number)
  pub is : text ≡ take start text ++ (decimal number ++ drop end text)

-- the record of a line, whatever its hits
pub record IsRecord (n : Numbered) : Type 0 where
  pub count : ℕ
  pub is : n ≡ record { head = codes "DA:"; number = n.number; tail = 44 ∷ count ∷ 10 ∷ [] }

-- what stands before a listed line, whatever its letter
pub record IsFront (n : Numbered) : Type 0 where
  pub letter : ℕ
  pub is : n ≡ record { head = letter ∷ 32 ∷ []; number = n.number; tail = 32 ∷ [] }
