-- Bits by which a number is told to be none of many.
use Rattle.std.specs.Prelude.{◌≡◌, ◌==◌, ◌/◌, ◌%◌, ℕ, Bool, List, slice_index}
use Rattle.std.specs.Int.{bit_at}
use Rattle.std.specs.List.{list_any}
use Rattle.nc_tables.specs.declared.system_bits.SystemBits.{SystemBits}

-- the bit of a number's remainder modulo 256 is set
unfoldable pub has_bit : SystemBits → ℕ → Bool
has_bit bits number = bit_at (slice_index bits.words (number / 64 % 4)) (number % 64) == 1

-- one of the numbers has the same remainder
abbrev pub any_alike : ℕ → List ℕ → Bool
any_alike number numbers = list_any (λ n. n % 256 == number % 256) numbers

-- the bits are those of these numbers
abbrev pub AreBitsOf : List ℕ → SystemBits → Type 0
AreBitsOf numbers bits = (number : ℕ) → has_bit bits number ≡ any_alike number numbers
