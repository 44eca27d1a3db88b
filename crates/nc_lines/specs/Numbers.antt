-- Decimal numbers, addresses and prefixes as words.
use Rattle.std.specs.Prelude.{ℕ, ◌+◌, ◌*◌, ◌-◌, Bool, false, ◌&&◌, ◌==◌, nat_lt, nat_le, List, [], ◌∷◌, Option, Some, None, option_and_then, if◌then◌else◌}
use Rattle.std.specs.List.{slice_split, list_all}
use Rattle.std.specs.Option.{option_map}
use Rattle.nc_types.specs.Cidr.{Cidr}
use Rattle.nc_types.specs.Masks.{mask_len_of, network_of}

-- a decimal digit
abbrev pub is_digit : ℕ → Bool
is_digit b = nat_le 48 b && nat_le b 57

-- the number that digits make behind those before them
abbrev pub value_after : ℕ → List ℕ → ℕ
value_after n [] = n
value_after n (digit ∷ digits) = value_after (10 * n + (digit - 48)) digits

-- digits without a leading zero, but for the one digit 0
abbrev pub is_plain : List ℕ → Bool
is_plain [] = false
is_plain (digit ∷ []) = is_digit digit
is_plain (digit ∷ digits) = nat_lt 48 digit && list_all is_digit (digit ∷ digits)

-- the number that a word writes, if it is at most this great
unfoldable pub number_of : ℕ → List ℕ → Option ℕ
number_of most word = if is_plain word && nat_le (value_after 0 word) most then Some (value_after 0 word) else None

-- four octets that are joined by dots
abbrev pub address_of_parts : List (List ℕ) → Option ℕ
address_of_parts (a ∷ b ∷ c ∷ d ∷ []) =
    option_and_then (λ a. option_and_then (λ b. option_and_then (λ c. option_and_then (λ d. Some (((a * 256 + b) * 256 + c) * 256 + d)) (number_of 255 d)) (number_of 255 c)) (number_of 255 b)) (number_of 255 a)
address_of_parts parts = None

-- the address that a word writes
unfoldable pub address_of : List ℕ → Option ℕ
address_of word = address_of_parts (slice_split (λ b. b == 46) word)

-- the prefix of an address and a length, where no host bit is set
abbrev pub whole_prefix : ℕ → ℕ → Option Cidr
whole_prefix addr len = if network_of addr len == addr then Some (record { base = addr; len = len }) else None

-- an address and a length with a slash between them, where no host bit is set
abbrev pub prefix_of_parts : List (List ℕ) → Option Cidr
prefix_of_parts (address ∷ len ∷ []) =
    option_and_then (λ base. option_and_then (λ len. whole_prefix base len) (number_of 32 len)) (address_of address)
prefix_of_parts parts = None

-- the prefix that a word writes
unfoldable pub prefix_of : List ℕ → Option Cidr
prefix_of word = prefix_of_parts (slice_split (λ b. b == 47) word)

-- an address and a length with a slash between them: the prefix of this length that has the address in it
abbrev pub around_of_parts : List (List ℕ) → Option Cidr
around_of_parts (address ∷ len ∷ []) =
    option_and_then (λ addr. option_map (λ len. record { base = network_of addr len; len = len }) (number_of 32 len)) (address_of address)
around_of_parts parts = None

-- the prefix of the address and the length that a word writes
unfoldable pub around_of : List ℕ → Option Cidr
around_of word = around_of_parts (slice_split (λ b. b == 47) word)

-- an address and a mask of ones followed by zeros, with the mask's length
abbrev pub masked_of : List ℕ → List ℕ → Option (ℕ × ℕ)
masked_of address mask = option_and_then (λ a. option_and_then (λ m. option_map (λ len. (a, len)) (mask_len_of m)) (address_of mask)) (address_of address)

-- the prefix of an address and its mask, where no host bit is set
abbrev pub masked_prefix : List ℕ → List ℕ → Option Cidr
masked_prefix address mask = option_and_then (λ p. whole_prefix p.0 p.1) (masked_of address mask)
