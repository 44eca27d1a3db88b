-- Bits by which a prefix is told to be none of many.
use Rattle.std.specs.Prelude.{ℕ, Bool, ◌==◌, ◌-◌, ◌/◌, ◌%◌, ◌^◌, List}
use Rattle.std.specs.Int.{bit_at}
use Rattle.std.specs.List.{list_any}
use Rattle.nc_types.specs.Cidr.{Cidr}
use Rattle.nc_types.specs.declared.config.NetworkStatement.{NetworkStatement}
use Rattle.nc_decision.specs.declared.prefix_bits.PrefixBits.{PrefixBits}

-- the number of a prefix among those of its length, modulo 64
unfoldable pub number_of : Cidr → ℕ
number_of p = p.base / 2 ^ (32 - p.len) % 64

-- its bit is set
unfoldable pub has_bit : PrefixBits → Cidr → Bool
has_bit bits p = bit_at bits.word (number_of p) == 1

-- one of some networks has a prefix of the same number
abbrev pub has_alike : Cidr → List NetworkStatement → Bool
has_alike p networks = list_any (λ n. number_of n.prefix == number_of p) networks
