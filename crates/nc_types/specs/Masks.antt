-- Masks and the network part of an address.
use Rattle.std.specs.Prelude.{ℕ, zero, suc, ◌-◌, ◌^◌, ◌/◌, ◌*◌, Option, Some, None, ◌==◌, if◌then◌else◌}

-- the mask of a length: so many ones of 32 bits, then zeros
abbrev pub mask_of : ℕ → ℕ
mask_of len = 2 ^ 32 - 2 ^ (32 - len)

-- the greatest length below a bound whose mask this is
unfoldable pub mask_len_below : ℕ → ℕ → Option ℕ
mask_len_below zero mask = None
mask_len_below (suc len) mask = if mask == mask_of len then Some len else mask_len_below len mask

-- the length whose mask this is, if it is one
abbrev pub mask_len_of : ℕ → Option ℕ
mask_len_of mask = mask_len_below 33 mask

-- how many addresses a prefix of this length has
abbrev pub size_of : ℕ → ℕ
size_of len = 2 ^ (32 - len)

-- an address with its host bits cleared
abbrev pub network_of : ℕ → ℕ → ℕ
network_of addr len = addr / size_of len * size_of len
