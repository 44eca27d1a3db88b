-- No host bits stand in a prefix that an address and its mask make.
use Rattle.std.proofs.Common.{ℕ, ◌<◌, ◌≤◌, ◌==◌, List, Option, Some, None, arith}
use Rattle.std.specs.Prelude.{IfSome, option_and_then}
use Rattle.std.specs.Option.{option_map}
use Rattle.std.proofs.lemmas.Bool.{cond_both, eqb-true}
use Rattle.nc_types.specs.Masks.{network_of, mask_len_of}
use Rattle.nc_types.specs.Cidr.{Cidr, IsCidr}
use Rattle.nc_types.proofs.Lengths.{some_below}
use Rattle.nc_lines.specs.Numbers.{address_of, whole_prefix, masked_of, masked_prefix}

-- where a prefix was made, it is one
abbrev pub MadeWhole : Option Cidr → Type 0
MadeWhole o = IfSome o (λ p. IsCidr p.base p.len)

pub whole_made : (addr len : ℕ) → len ≤ 32 → MadeWhole (whole_prefix addr len)
whole_made addr len within =
    cond_both (network_of addr len == addr) (Some (record { base = addr; len = len })) None MadeWhole
    (λ same. record { within = within; no_host_bits = eqb-true (network_of addr len) addr same }) (λ _. tt)

-- the length beside an address is at most 32
abbrev IsLong : Option (ℕ × ℕ) → Type 0
IsLong o = IfSome o (λ p. p.1 ≤ 32)

len_within : (o : Option ℕ) (addr : ℕ) → IfSome o (λ len. len < 33) → IsLong (option_map (λ (len : ℕ). (addr, len)) o)
len_within None addr small = tt
len_within (Some len) addr small = omega (arith, small)

mask_within : (o : Option ℕ) (addr : ℕ) → IsLong (option_and_then (λ m. option_map (λ len. (addr, len)) (mask_len_of m)) o)
mask_within None addr = tt
mask_within (Some mask) addr = len_within (mask_len_of mask) addr (some_below 33 mask)

masked_within : (o mask : Option ℕ) → IsLong (option_and_then (λ a. option_and_then (λ m. option_map (λ len. (a, len)) (mask_len_of m)) mask) o)
masked_within None mask = tt
masked_within (Some addr) mask = mask_within mask addr

each_made : (o : Option (ℕ × ℕ)) → IsLong o → MadeWhole (option_and_then (λ p. whole_prefix p.0 p.1) o)
each_made None within = tt
each_made (Some p) within = whole_made p.0 p.1 within

pub masked_made : (address mask : List ℕ) → MadeWhole (masked_prefix address mask)
masked_made address mask = each_made (masked_of address mask) (masked_within (address_of address) (address_of mask))
