-- Bits of remainders modulo 256, in four words.
use Rattle.std.proofs.Common.{◌≡◌, ◌==◌, ◌*◌, ◌+◌, ◌/◌, ◌%◌, ◌^◌, ◌<◌, ◌||◌, ℕ, Bool, true, false, List, [], ◌∷◌, length, get_or, set, bit_or, w64, refl, ap, ap₂, sym, ◌∙◌, inl, inr, arith, eq-eqb, ne_eqb, get_or-set_same, get_or-set_other}
use Rattle.std.specs.Int.{bit_at}
use Rattle.std.specs.List.{list_any}
use Rattle.std.proofs.lemmas.Bool.{both_ways, cases_eq, or_from, or_left, or_parts}
use Rattle.std.proofs.lemmas.Nat.Bits.{bit_at_set_same, bit_at_set_other}
use Rattle.nc_tables.specs.SystemBits.{any_alike}

-- a remainder modulo 256 is a word of four and a bit of 64
word_and_bit : (n : ℕ) → n % 256 ≡ 64 * (n / 64 % 4) + n % 64
word_and_bit n = omega arith

alike : (m n : ℕ) → m / 64 % 4 ≡ n / 64 % 4 → m % 64 ≡ n % 64 → m % 256 ≡ n % 256
alike m n word bit = let a = word_and_bit m in let b = word_and_bit n in omega arith

alike_words : (m n : ℕ) → m % 256 ≡ n % 256 → m / 64 % 4 ≡ n / 64 % 4
alike_words m n same = let a = word_and_bit m in let b = word_and_bit n in omega arith

alike_bits : (m n : ℕ) → m % 256 ≡ n % 256 → m % 64 ≡ n % 64
alike_bits m n same = let a = word_and_bit m in let b = word_and_bit n in omega arith

-- the bit of a number, in four words
abbrev bit_of : List ℕ → ℕ → ℕ
bit_of words n = bit_at (get_or words (n / 64 % 4) 0) (n % 64)

module _ (words : List ℕ) (number : ℕ) (four : length words ≡ 4) where
  -- the words with the bit of the number set too
  pub bit_set : (n : ℕ) → (bit_of (set words (number / 64 % 4) (bit_or (get_or words (number / 64 % 4) 0) (1 * 2 ^ (number % 64) % 2 ^ 64))) n == 1)
      ≡ (number % 256 == n % 256 || bit_of words n == 1)
  bit_set n =
      let word : ℕ = get_or words (number / 64 % 4) 0 in
      let more : ℕ = bit_or (get_or words (number / 64 % 4) 0) (1 * 2 ^ (number % 64) % 2 ^ 64) in
      let within : number / 64 % 4 < length words = omega arith in
      let index : number % 64 < 64 = omega arith in
      let here = get_or-set_same words (number / 64 % 4) more 0 within in
      elim (cases_eq (n / 64 % 4) (number / 64 % 4)) [
        | inl same ↦
            let to_here : get_or (set words (number / 64 % 4) more) (n / 64 % 4) 0 ≡ more = ap (λ k. get_or (set words (number / 64 % 4) more) k 0) same ∙ here in
            elim (cases_eq (n % 64) (number % 64)) [
              | inl bit ↦
                  ap (λ x. x == 1) (ap₂ bit_at to_here bit ∙ bit_at_set_same w64 word (number % 64) index)
                  ∙ sym (or_left (number % 256 == n % 256) (bit_of words n == 1) (eq-eqb (number % 256) (n % 256) (sym (alike n number same bit))))
              | inr bit ↦
                  ap (λ x. x == 1) (ap (λ x. bit_at x (n % 64)) to_here ∙ bit_at_set_other w64 word (number % 64) index (n % 64) bit
                  ∙ ap (λ k. bit_at (get_or words k 0) (n % 64)) (sym same))
                  ∙ ap (λ b. b || bit_of words n == 1) (sym (ne_eqb (number % 256) (n % 256) (λ e. bit (alike_bits n number (sym e)))))
            ]
        | inr other ↦
            ap (λ x. bit_at x (n % 64) == 1) (get_or-set_other words (number / 64 % 4) (n / 64 % 4) more 0 other)
            ∙ ap (λ b. b || bit_of words n == 1) (sym (ne_eqb (number % 256) (n % 256) (λ e. other (alike_words n number (sym e)))))
      ]

-- where no number has the same remainder, none is the same
pub none_alike : (number : ℕ) (numbers : List ℕ) → any_alike number numbers ≡ false → list_any (λ n. n == number) numbers ≡ false
none_alike number [] none = refl
none_alike number (n ∷ ns) none =
    let both = or_parts (n % 256 == number % 256) (any_alike number ns) none in
    or_from (n == number) (list_any (λ m. m == number) ns)
    (ne_eqb n number (λ e. both_ways (n % 256 == number % 256) both.0 (eq-eqb (n % 256) (number % 256) (ap (λ x. x % 256) e))))
    (none_alike number ns both.1)

-- one more on the left is one more in the middle
pub one_more : (x all old : Bool) → (x || (all || old)) ≡ ((all || x) || old)
one_more true true old = refl
one_more true false old = refl
one_more false true old = refl
one_more false false old = refl
