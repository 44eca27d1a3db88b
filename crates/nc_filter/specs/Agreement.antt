-- Which addresses are those of an address and a wildcard.
use Rattle.std.specs.Prelude.{◌≡◌, ℕ}
use Rattle.std.specs.Int.{bit_at}
use Rattle.nc_types.specs.declared.filters.AddrMatch.{AddrMatch}

-- those that agree with it in every bit that is 0 in the wildcard
abbrev pub Agrees : AddrMatch → ℕ → Type 0
Agrees entry addr = (bit : ℕ) → bit_at entry.wild.0 bit ≡ 0 → bit_at addr bit ≡ bit_at entry.addr.0 bit
