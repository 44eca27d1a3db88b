-- What an entry of an access list says (Cisco IOS command reference, `access-list` and `ip access-list`).
use Rattle.std.specs.Prelude.{ℕ, ◌-◌, ◌^◌, Bool, true, false, ◌||◌, List, [], ◌∷◌, Option, Some, None, is_some, option_and_then, if◌then◌else◌, codes}
use Rattle.std.specs.Option.{option_map, option_map_or, option_or}
use Rattle.std.specs.Str.{bytes_eq}
use Rattle.nc_types.specs.declared.filters.AddrMatch.{AddrMatch}
use Rattle.nc_lines.specs.Numbers.{address_of, is_plain}
use Rattle.nc_read_filter.specs.declared.entries.Rule.{Rule}
use Rattle.nc_read_filter.specs.declared.entries.Said.{Said}
use Rattle.nc_read_filter.specs.declared.entries.Said.TheVariants.{Outside, Odd, Says}

-- ---- addresses

-- one address, and every address
abbrev pub one_address : ℕ → AddrMatch
one_address addr = record { addr = record { 0 = addr }; wild = record { 0 = 0 } }

abbrev pub all_addresses : AddrMatch
all_addresses = record { addr = record { 0 = 0 }; wild = record { 0 = 2 ^ 32 - 1 } }

-- an address, and the words behind it
abbrev pub host_of : List (List ℕ) → Option (AddrMatch × List (List ℕ))
host_of [] = None
host_of (word ∷ words) = option_map (λ a. (one_address a, words)) (address_of word)

-- an address and its wildcard
abbrev pub wild_of : List (List ℕ) → Option (AddrMatch × List (List ℕ))
wild_of (address ∷ wildcard ∷ words) =
    option_and_then (λ a. option_map (λ w. (record { addr = record { 0 = a }; wild = record { 0 = w } }, words)) (address_of wildcard)) (address_of address)
wild_of words = None

-- `any`, a host, or an address and its wildcard
abbrev pub place_of : List (List ℕ) → Option (AddrMatch × List (List ℕ))
place_of [] = None
place_of (word ∷ words) =
    if bytes_eq word (codes "any") then Some (all_addresses, words) else (if bytes_eq word (codes "host") then host_of words else wild_of (word ∷ words))

-- in a standard list an address may stand alone
abbrev pub standard_place : List (List ℕ) → Option (AddrMatch × List (List ℕ))
standard_place words = option_or (place_of words) (host_of words)

-- ---- entries

-- the word `permit` or `deny`
abbrev pub action_of : List ℕ → Option Bool
action_of word = if bytes_eq word (codes "permit") then Some true else (if bytes_eq word (codes "deny") then Some false else None)

-- words that begin with one of them
abbrev pub begins_action : List (List ℕ) → Bool
begins_action [] = false
begins_action (word ∷ words) = is_some (action_of word)

-- what may stand behind an entry
abbrev pub standard_end : List (List ℕ) → Bool
standard_end [] = true
standard_end (word ∷ []) = bytes_eq word (codes "log")
standard_end words = false

abbrev pub extended_end : List (List ℕ) → Bool
extended_end [] = true
extended_end (word ∷ []) = bytes_eq word (codes "log") || bytes_eq word (codes "log-input")
extended_end words = false

-- what is behind the action in a standard list: from where packets come
abbrev pub standard_rule : Bool → List (List ℕ) → Option Rule
standard_rule permit words =
    option_and_then (λ from. if standard_end from.1 then Some (record { permit = permit; ip = true; from = from.0; to = all_addresses }) else None) (standard_place words)

-- what is behind `ip`: from where they come and to where they go
abbrev pub ip_rule : Bool → List (List ℕ) → Option Rule
ip_rule permit words =
    option_and_then (λ from. option_and_then (λ to. if extended_end to.1 then Some (record { permit = permit; ip = true; from = from.0; to = to.0 }) else None) (place_of from.1)) (place_of words)

-- what is behind the action in an extended list: what follows another protocol isn't looked at
abbrev pub extended_rule : Bool → List (List ℕ) → Option Rule
extended_rule permit [] = None
extended_rule permit (protocol ∷ words) =
    if bytes_eq protocol (codes "ip") then ip_rule permit words else Some (record { permit = permit; ip = false; from = all_addresses; to = all_addresses })

abbrev pub rule_of : Bool → Bool → List (List ℕ) → Option Rule
rule_of standard permit words = if standard then standard_rule permit words else extended_rule permit words

-- what a statement says that has no number in front
abbrev pub action_says : Bool → List (List ℕ) → Said
action_says standard [] = Outside
action_says standard (action ∷ words) =
    option_map_or (λ permit. option_map_or Says (rule_of standard permit words) Odd) (action_of action) Outside

-- what is behind the number of an entry, which may be missing
abbrev pub behind_number : List (List ℕ) → List (List ℕ)
behind_number [] = []
behind_number (word ∷ words) = if is_plain word then words else word ∷ words

-- what a statement of a list's block says
abbrev pub entry_says : Bool → List (List ℕ) → Said
entry_says standard words = action_says standard (behind_number words)
