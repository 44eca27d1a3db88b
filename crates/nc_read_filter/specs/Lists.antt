-- The headers of access lists, and the statements that name their list by a number.
use Rattle.std.specs.Prelude.{ℕ, Bool, true, false, ◌&&◌, ◌||◌, nat_le, List, [], ◌∷◌, Option, Some, None, is_some, option_and_then, if◌then◌else◌, codes}
use Rattle.std.specs.Option.{option_map, option_map_or}
use Rattle.std.specs.Str.{bytes_eq}
use Rattle.nc_lines.specs.Numbers.{number_of}
use Rattle.nc_lines.specs.Statements.{after}
use Rattle.nc_read_filter.specs.Entries.{begins_action}

-- a list: its name, and whether its entries are of where packets come from alone
pub record Head : Type 0 where
  pub name : List ℕ
  pub standard : Bool

-- ---- lists with a header

-- the word `standard` or `extended`
abbrev pub is_standard : List ℕ → Option Bool
is_standard word = if bytes_eq word (codes "standard") then Some true else (if bytes_eq word (codes "extended") then Some false else None)

-- what is behind `ip access-list`: a kind and a name, and nothing more
abbrev pub list_of : List (List ℕ) → Option Head
list_of (kind ∷ name ∷ []) = option_map (λ standard. record { name = name; standard = standard }) (is_standard kind)
list_of words = None

-- whether that opens a list
unfoldable pub opens_list : List (List ℕ) → Bool
opens_list words = is_some (list_of words)

-- the list that a line opens, if it is a header
abbrev pub opened_by : List (List ℕ) → Option Head
opened_by words = option_and_then list_of (after (codes "ip" ∷ codes "access-list" ∷ []) words)

-- ---- lists with a number

abbrev pub is_between : ℕ → ℕ → ℕ → Bool
is_between low high n = nat_le low n && nat_le n high

-- the numbers of standard and of extended lists
abbrev pub is_standard_number : ℕ → Option Bool
is_standard_number n =
    if is_between 1 99 n || is_between 1300 1999 n then Some true else (if is_between 100 199 n || is_between 2000 2699 n then Some false else None)

-- the list that a number names, as it is written
abbrev pub numbered_list : List ℕ → Option Head
numbered_list word = option_map (λ standard. record { name = word; standard = standard }) (option_and_then is_standard_number (number_of 2699 word))

-- what is behind `access-list`: the number of a list, and what is behind it
abbrev pub numbered_of : List (List ℕ) → Option (Head × List (List ℕ))
numbered_of [] = None
numbered_of (word ∷ words) = option_map (λ list. (list, words)) (numbered_list word)

-- whether that begins as an entry
unfoldable pub begins_entry : List (List ℕ) → Bool
begins_entry words = option_map_or (λ p. begins_action p.1) (numbered_of words) false

-- the list of a line that names it by its number, and what is behind the number
abbrev pub numbered_by : List (List ℕ) → Option (Head × List (List ℕ))
numbered_by words = option_and_then numbered_of (after (codes "access-list" ∷ []) words)
