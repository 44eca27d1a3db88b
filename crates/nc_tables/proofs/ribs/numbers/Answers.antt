use Rattle.std.proofs.Common.{◌≡◌, ◌+◌, ◌++◌, ◌∷◌, ℕ, zero, suc, [], List, Some, length, slice_get, refl, sym, ap, ◌∙◌, arith, inl, inr}
use Rattle.std.proofs.lemmas.Bool.{cases_lt}
use Rattle.std.proofs.lemmas.List.{length_push}
use Rattle.nc_tables.proofs.ribs.numbers.Goals as goal

-- an item before a pushed one, and that one
still_there : (xs : List ℕ) (x k y : ℕ) → slice_get xs k ≡ Some y → slice_get (xs ++ x ∷ []) k ≡ Some y
still_there [] x k y e = absurd cc
still_there (z ∷ xs) x zero y e = e
still_there (z ∷ xs) x (suc k) y e = still_there xs x k y e

last_there : (xs : List ℕ) (x : ℕ) → slice_get (xs ++ x ∷ []) (length xs) ≡ Some x
last_there [] x = refl
last_there (z ∷ xs) x = last_there xs x

pub numbers-preserved : goal.numbers-preserved
numbers-preserved c =
    let before = c.numbers.numbers.items in
    let number = c.numbers.number in
    let items = (c.in_ok-push.ensures).items in
    record {
      count = ap length items ∙ length_push before number ∙ ap (λ n. n + 1) c.numbers.invariant.count;
      each = λ k lt. ap (λ (xs : List ℕ). slice_get xs k) items ∙ elim (cases_lt k number) [
        | inl less ↦ still_there before number k k (c.numbers.invariant.each k less)
        | inr more ↦
            let same : k ≡ number = omega arith in
            let last : k ≡ length before = same ∙ sym c.numbers.invariant.count in
            ap (slice_get (before ++ number ∷ [])) last ∙ last_there before number ∙ ap Some (sym same)
      ];
    }

pub returns-clause-count : goal.returns-clause-count
returns-clause-count c = omega (arith, c.numbers.invariant.count)

pub returns-clause-each : goal.returns-clause-each
returns-clause-each c k lt = c.numbers.invariant.each k (omega arith)
