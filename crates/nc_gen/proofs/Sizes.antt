-- The sizes of generated networks.
use Rattle.std.proofs.Common.{◌≡◌, ℕ, true, false, sym, subst, inl, inr}
use Rattle.std.proofs.lemmas.Bool.Decides.{eqb_tells}
use Rattle.nc_gen.specs.Tree.{is_size}

-- what holds of the four sizes holds of every one
pub sizes : (P : ℕ → Type 0) (k : ℕ) → is_size k ≡ true → P 2 → P 4 → P 6 → P 8 → P k
sizes P k is two four six eight =
    elim (eqb_tells k 2) [
      | inl p ↦ subst P (sym p.1) two
      | inr p ↦ elim (eqb_tells k 4) [
        | inl q ↦ subst P (sym q.1) four
        | inr q ↦ elim (eqb_tells k 6) [
          | inl r ↦ subst P (sym r.1) six
          | inr r ↦ elim (eqb_tells k 8) [
            | inl s ↦ subst P (sym s.1) eight
            | inr s ↦ absurd (let none : false ≡ true = rw (p.0, q.0, r.0, s.0) at is in cc)
          ]
        ]
      ]
    ]
