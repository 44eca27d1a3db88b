-- A community as its word writes it.
use Rattle.std.specs.Prelude.{ℕ, ◌+◌, ◌*◌, ◌-◌, ◌^◌, ◌==◌, List, [], ◌∷◌, Option, option_and_then}
use Rattle.std.specs.List.{slice_split}
use Rattle.std.specs.Option.{option_map}
use Rattle.nc_lines.specs.Numbers.{number_of}

-- an upper and a lower half of 16 bits each
abbrev pub halves_of : List ℕ → List ℕ → Option ℕ
halves_of high low = option_and_then (λ high. option_map (λ low. high * 65536 + low) (number_of 65535 low)) (number_of 65535 high)

-- two halves with a colon between them, or one number below 2^32
abbrev pub community_of_parts : List ℕ → List (List ℕ) → Option ℕ
community_of_parts word (high ∷ low ∷ []) = halves_of high low
community_of_parts word parts = number_of (2 ^ 32 - 1) word

-- the community that a word writes
unfoldable pub community_of : List ℕ → Option ℕ
community_of word = community_of_parts word (slice_split (λ b. b == 58) word)
