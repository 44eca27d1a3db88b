-- One number with the wildcard's bits set in both is agreement in all other bits.
use Rattle.std.proofs.Common.{◌≡◌, ℕ, zero, suc, ◌<◌, max, true, refl, ap, sym, ◌∙◌, arith}
use Rattle.std.specs.Prelude.{bit_or, ◌↔◌}
use Rattle.std.specs.Int.{bit_at}
use Rattle.std.proofs.lemmas.Bool.{eqb-true, eq-eqb}
use Rattle.std.proofs.lemmas.Nat.Bits.{bit_at_or, same_from_bits}
use Rattle.nc_types.specs.declared.filters.AddrMatch.{AddrMatch}
use Rattle.nc_tables.specs.Filters.{matches}
use Rattle.nc_filter.specs.Agreement.{Agrees}

-- bits with one more set in both
set_apart : (a b w : ℕ) → max a w ≡ max b w → w ≡ 0 → a ≡ b
set_apart a b w e none = omega arith

set_alike : (a b w : ℕ) → a < 2 → b < 2 → w < 2 → (w ≡ 0 → a ≡ b) → max a w ≡ max b w
set_alike a b zero one two three e = let same : a ≡ b = e refl in ap (λ n. max n 0) same
set_alike a b (suc w) one two three e = omega arith

module _ (entry : AddrMatch) (addr : ℕ) where
  agrees : matches entry addr ≡ true → Agrees entry addr
  agrees e bit none =
      let same = ap (λ (n : ℕ). bit_at n bit) (eqb-true (bit_or addr entry.wild.0) (bit_or entry.addr.0 entry.wild.0) e) in
      set_apart (bit_at addr bit) (bit_at entry.addr.0 bit) (bit_at entry.wild.0 bit)
      (sym (bit_at_or addr entry.wild.0 bit) ∙ same ∙ bit_at_or entry.addr.0 entry.wild.0 bit) none

  matching : Agrees entry addr → matches entry addr ≡ true
  matching same =
      eq-eqb (bit_or addr entry.wild.0) (bit_or entry.addr.0 entry.wild.0)
      (same_from_bits (bit_or addr entry.wild.0) (bit_or entry.addr.0 entry.wild.0) (λ bit.
      bit_at_or addr entry.wild.0 bit
      ∙ set_alike (bit_at addr bit) (bit_at entry.addr.0 bit) (bit_at entry.wild.0 bit) (omega arith) (omega arith) (omega arith) (same bit)
      ∙ sym (bit_at_or entry.addr.0 entry.wild.0 bit)))

  pub lawful : (matches entry addr ≡ true) ↔ Agrees entry addr
  lawful = (agrees, matching)
