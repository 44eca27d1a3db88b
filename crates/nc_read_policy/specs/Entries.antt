-- What an `ip prefix-list` statement says.
use Rattle.std.specs.Prelude.{ℕ, ◌+◌, ◌-◌, ◌^◌, ◌&&◌, ◌==◌, nat_le, List, [], ◌∷◌, Option, Some, None, Result, Ok, Err, option_and_then, if◌then◌else◌, codes}
use Rattle.std.specs.Option.{option_map, option_map_or}
use Rattle.std.specs.Str.{bytes_eq}
use Rattle.nc_types.specs.declared.fault.Fault.{Fault}
use Rattle.nc_types.specs.declared.fault.Cause.TheVariants.{Syntax}
use Rattle.nc_types.specs.declared.config.ListEntry.{ListEntry}
use Rattle.nc_lines.specs.Lines.{words_of}
use Rattle.nc_lines.specs.Numbers.{number_of, around_of}
use Rattle.nc_lines.specs.Statements.{after}
use Rattle.nc_read_policy.specs.Clauses.{action_of}

-- ---- bounds

-- the length of a prefix
abbrev pub length_of : List ℕ → Option ℕ
length_of word = number_of 32 word

-- one bound on the lengths, behind a prefix of length len: `ge G` leaves off at 32, and `le E` begins with the prefix's own
abbrev pub one_bound : ℕ → List ℕ → List ℕ → Option (ℕ × ℕ)
one_bound len word value =
    if bytes_eq word (codes "ge") then option_map (λ low. (low, 32)) (length_of value)
    else (if bytes_eq word (codes "le") then option_map (λ high. (len, high)) (length_of value) else None)

-- both bounds: `ge G le E`
abbrev pub two_bounds : List ℕ → List ℕ → List ℕ → List ℕ → Option (ℕ × ℕ)
two_bounds first low second high =
    if bytes_eq first (codes "ge") && bytes_eq second (codes "le") then option_and_then (λ low. option_map (λ high. (low, high)) (length_of high)) (length_of low)
    else None

-- the least and the greatest length that words behind a prefix of length len write
abbrev pub written_bounds : ℕ → List (List ℕ) → Option (ℕ × ℕ)
written_bounds len [] = Some (len, len)
written_bounds len (word ∷ value ∷ []) = one_bound len word value
written_bounds len (first ∷ low ∷ second ∷ high ∷ []) = two_bounds first low second high
written_bounds len words = None

-- these, where no length is less than the prefix's own and the least isn't above the greatest
abbrev pub bounds_of : ℕ → List (List ℕ) → Option (ℕ × ℕ)
bounds_of len words = option_and_then (λ b. if nat_le len b.0 && nat_le b.0 b.1 then Some b else None) (written_bounds len words)

-- ---- entries

-- the greatest number of an entry
abbrev pub greatest_seq : ℕ
greatest_seq = 2 ^ 32 - 2

-- the number of an entry, from 1
abbrev pub seq_of : List ℕ → Option ℕ
seq_of word = option_and_then (λ n. if n == 0 then None else Some n) (number_of greatest_seq word)

-- the number of an entry that writes none: five more than the highest
abbrev pub counted_seq : ℕ → Option ℕ
counted_seq highest = if nat_le (highest + 5) greatest_seq then Some (highest + 5) else None

-- what is behind the number of an entry: an action, a prefix and bounds
abbrev pub entry_of : ℕ → ℕ → List (List ℕ) → Option ListEntry
entry_of line seq (action ∷ prefix ∷ words) =
    option_and_then (λ permit. option_and_then (λ p.
    option_map (λ b. record { seq = seq; permit = permit; prefix = p; low = b.0; high = b.1; line = line; element = 0 }) (bounds_of p.len words)) (around_of prefix)) (action_of action)
entry_of line seq words = None

-- what is behind `seq`
abbrev pub numbered_entry : ℕ → List (List ℕ) → Option ListEntry
numbered_entry line [] = None
numbered_entry line (word ∷ words) = option_and_then (λ seq. entry_of line seq words) (seq_of word)

-- what is behind the name of a list, whose highest number so far is given
abbrev pub any_entry : ℕ → ℕ → List (List ℕ) → Option ListEntry
any_entry line highest words =
    option_map_or (numbered_entry line) (after (codes "seq" ∷ []) words) (option_and_then (λ seq. entry_of line seq words) (counted_seq highest))

-- what is behind `ip prefix-list`: the name of a list, and the entry
abbrev pub named_entry : ℕ → ℕ → List (List ℕ) → Option (List ℕ × ListEntry)
named_entry line highest [] = None
named_entry line highest (name ∷ words) = option_map (λ entry. (name, entry)) (any_entry line highest words)

-- the name and the entry of a line, whose element is yet to be filled in; in any other form it is a fault of syntax
unfoldable pub entry_at : ℕ → ℕ → List ℕ → Result (List ℕ × ListEntry) Fault
entry_at line highest text =
    option_map_or (λ named. Ok named) (option_and_then (named_entry line highest) (after (codes "ip" ∷ codes "prefix-list" ∷ []) (words_of text))) (Err (record { line = line; cause = Syntax }))
