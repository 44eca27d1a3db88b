-- The prefix that an address of a class has.
use Rattle.std.specs.Prelude.{ℕ, ◌/◌, ◌^◌, ◌&&◌, ◌==◌, nat_le, List, Option, Some, None, option_and_then, if◌then◌else◌}
use Rattle.nc_types.specs.Cidr.{Cidr}
use Rattle.nc_lines.specs.Numbers.{address_of, whole_prefix}

-- the length that an address of a class has, by its first octet
abbrev pub octet_len : ℕ → Option ℕ
octet_len octet =
    if nat_le 1 octet && nat_le octet 126 then Some 8
    else (if nat_le 128 octet && nat_le octet 191 then Some 16
    else (if nat_le 192 octet && nat_le octet 223 then Some 24 else None))

-- the length that an address has by its class; the address of zeros alone has the length 0
abbrev pub class_len : ℕ → Option ℕ
class_len addr = if addr == 0 then Some 0 else octet_len (addr / 2 ^ 24)

-- the prefix of an address and the length of its class
abbrev pub class_prefix : List ℕ → Option Cidr
class_prefix address = option_and_then (λ a. option_and_then (λ len. whole_prefix a len) (class_len a)) (address_of address)
