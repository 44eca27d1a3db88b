-- Numbers and prefixes at the front of a text, and an entry by what stands behind its prefix.
use Rattle.std.specs.Prelude.{◌≡◌, ◌<◌, ℕ, Bool, true, false, List, [], ◌∷◌, ◌++◌, length, Option, Some, if◌then◌else◌, codes}
use Rattle.std.specs.List.{list_any}
use Rattle.std.specs.Option.{option_map}
use Rattle.nc_types.specs.Cidr.{Cidr}
use Rattle.nc_types.specs.Masks.{network_of}
use Rattle.nc_types.specs.declared.config.ListEntry.{ListEntry}
use Rattle.nc_lines.specs.Lines.{is_gap, words_of}
use Rattle.nc_lines.specs.Numbers.{number_of, around_of}
use Rattle.nc_read_policy.specs.Entries.{bounds_of}

-- bytes at the front that write a number up to this great, and what is behind them
pub record IsFrontNumber (most : ℕ) (text : List ℕ) (number : ℕ) (behind : List ℕ) : Type 0 where
  pub word : List ℕ
  pub whole : text ≡ word ++ behind
  pub writes : number_of most word ≡ Some number

-- bytes at the front that write an address and a length with a slash between them, and what is behind them
pub record IsFrontPrefix (text : List ℕ) (address len : ℕ) (behind : List ℕ) : Type 0 where
  pub word : List ℕ
  pub whole : text ≡ word ++ behind
  pub some : 0 < length word
  pub no_gap : list_any is_gap word ≡ false
  pub writes : around_of word ≡ Some (record { base = network_of address len; len = len })

-- the one word of these bytes and a length at the front, and what is behind them
pub record IsFrontBound (text known : List ℕ) (bound : ℕ) (behind : List ℕ) : Type 0 where
  pub value : List ℕ
  pub words : (word : List ℕ) → words_of known ≡ word ∷ [] → words_of text ≡ word ∷ value ∷ words_of behind
  pub writes : number_of 32 value ≡ Some bound

-- whether a word that stands in front of this ends there
abbrev pub ends_word : List ℕ → Bool
ends_word [] = true
ends_word (b ∷ bs) = is_gap b

-- the word of an action
abbrev pub action_word : Bool → List ℕ
action_word permit = if permit then codes "permit" else codes "deny"

-- an entry of this action and this prefix, by the words behind the prefix
abbrev pub entry_behind : ℕ → ℕ → Bool → Cidr → List (List ℕ) → Option ListEntry
entry_behind line seq permit p words =
    option_map (λ b. record { seq = seq; permit = permit; prefix = p; low = b.0; high = b.1; line = line; element = 0 }) (bounds_of p.len words)
