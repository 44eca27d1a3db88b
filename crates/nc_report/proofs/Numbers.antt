-- The digits of a number, written from the last one on.
use Rattle.std.proofs.Common.{◌≡◌, ℕ, ◌+◌, ◌-◌, ◌/◌, ◌%◌, ◌<◌, ◌≤◌, ◌^◌, List, [], ◌∷◌, ◌++◌, length, set, drop, sym, ap, ◌∙◌, arith, append_assoc, length-append}
use Rattle.std.specs.Fmt.{decimal}
use Rattle.std.proofs.lemmas.Fmt.{decimal_step, decimal_digit, decimal_nonempty}
use Rattle.std.proofs.lemmas.List.{drop-set}

module _ (number rest start digit : ℕ) (digits : List ℕ) (small : rest < 2 ^ 64) (are : decimal number ≡ decimal rest ++ drop start digits) (room : length (decimal rest) ≤ start) (within : start ≤ length digits) where
  pub some-room : 0 < start
  some-room = omega (arith, decimal_nonempty rest small)

  written : drop (start - 1) (set digits (start - 1) digit) ≡ digit ∷ drop start digits
  written =
      let count : start - 1 + 1 ≡ start = omega (arith, some-room) in
      drop-set digits (start - 1) digit (omega (arith, some-room)) ∙ ap (λ (n : ℕ). digit ∷ drop n digits) count

  pub digit-more : 10 ≤ rest → digit ≡ 48 + rest % 10
      → (decimal number ≡ decimal (rest / 10) ++ drop (start - 1) (set digits (start - 1) digit)) × (length (decimal (rest / 10)) ≤ start - 1)
  digit-more big is =
      let step : decimal rest ≡ decimal (rest / 10) ++ digit ∷ [] = decimal_step rest big small ∙ ap (λ (d : ℕ). decimal (rest / 10) ++ d ∷ []) (sym is) in (
        are ∙ ap (λ (t : List ℕ). t ++ drop start digits) step ∙ append_assoc (decimal (rest / 10)) (digit ∷ []) (drop start digits) ∙ ap (λ (t : List ℕ). decimal (rest / 10) ++ t) (sym written),
        omega (arith, ap length step, length-append (decimal (rest / 10)) (digit ∷ [])),
      )

  pub digit-last : rest < 10 → digit ≡ 48 + rest → decimal number ≡ drop (start - 1) (set digits (start - 1) digit)
  digit-last few is = are ∙ ap (λ (t : List ℕ). t ++ drop start digits) (decimal_digit rest few ∙ ap (λ (d : ℕ). d ∷ []) (sym is)) ∙ sym written

-- the counts of the marks, and a line feed
pub four-counts : (old a b c d e f g h first second third fourth new : List ℕ) → first ≡ old ++ (a ++ b) → second ≡ first ++ (c ++ d) → third ≡ second ++ (e ++ f) → fourth ≡ third ++ (g ++ h)
    → new ≡ fourth ++ 10 ∷ [] → new ≡ old ++ ((a ++ (b ++ (c ++ (d ++ (e ++ (f ++ (g ++ h))))))) ++ 10 ∷ [])
four-counts old a b c d e f g h first second third fourth new p q r s t =
    t ∙ ap (λ (l : List ℕ). l ++ 10 ∷ []) (s ∙ ap (λ (l : List ℕ). l ++ (g ++ h)) (r ∙ ap (λ (l : List ℕ). l ++ (e ++ f)) (q ∙ ap (λ (l : List ℕ). l ++ (c ++ d)) p))) ∙ regroup old a b c d e f g h (10 ∷ [])
  where
    regroup : (o a b c d e f g h n : List ℕ) → ((((o ++ (a ++ b)) ++ (c ++ d)) ++ (e ++ f)) ++ (g ++ h)) ++ n ≡ o ++ ((a ++ (b ++ (c ++ (d ++ (e ++ (f ++ (g ++ h))))))) ++ n)
    regroup o a b c d e f g h n = simp append_assoc
