-- What an `ip community-list` statement says.
use Rattle.std.specs.Prelude.{ℕ, Bool, false, nat_le, List, [], ◌∷◌, Option, Result, Ok, Err, if◌then◌else◌, codes}
use Rattle.std.specs.Option.{option_map_or}
use Rattle.std.specs.Str.{bytes_eq}
use Rattle.nc_types.specs.declared.communities.CommunityEntry.{CommunityEntry}
use Rattle.nc_types.specs.declared.fault.Fault.{Fault}
use Rattle.nc_types.specs.declared.fault.Cause.{Cause}
use Rattle.nc_types.specs.declared.fault.Cause.TheVariants.{Syntax, Unsupported}
use Rattle.nc_lines.specs.Lines.{words_of}
use Rattle.nc_lines.specs.Numbers.{number_of}
use Rattle.nc_lines.specs.Outcomes.{at_line}
use Rattle.nc_lines.specs.Statements.{Reading, Outside, Faulty, Says, after, said_as}
use Rattle.nc_read_policy.specs.Results.{on_ok, ok_map}
use Rattle.nc_read_policy.specs.Clauses.{action_of}
use Rattle.nc_read_policy.specs.Communities.{members_in, behind_communities}

-- ---- names

-- a number from 1 to 99, which can name a list
abbrev pub is_list_number : List ℕ → Bool
is_list_number word = option_map_or (λ n. nat_le 1 n) (number_of 99 word) false

-- what is behind `standard`: a name, and what is behind it
abbrev pub standard_list : List (List ℕ) → Reading (List ℕ × List (List ℕ))
standard_list [] = Faulty Syntax
standard_list (name ∷ words) = Says (name, words)

-- what is behind `ip community-list`: the name of the list, and what is behind it; lists that aren't of this kind are outside
abbrev pub named_list : List (List ℕ) → Reading (List ℕ × List (List ℕ))
named_list [] = Faulty Syntax
named_list (word ∷ words) =
    if bytes_eq word (codes "standard") then standard_list words else (if is_list_number word then Says (word, words) else Outside)

-- the name alone
abbrev pub community_name_says : List (List ℕ) → Reading (List ℕ)
community_name_says words = said_as (λ named. named.0) (named_list words)

-- ---- entries

-- the entry of an action and its members, given what is behind them; its element is yet to be filled in
abbrev pub entry_with : Bool → Option (List ℕ) → List (List ℕ) → Result CommunityEntry Cause
entry_with permit members [] = option_map_or (λ ns. Ok (record { permit = permit; members = ns; element = 0 })) members (Err Syntax)
entry_with permit members (word ∷ words) = Err Unsupported

-- what is behind the name: an action and communities
abbrev pub community_entry_of : List (List ℕ) → Result CommunityEntry Cause
community_entry_of [] = Err Syntax
community_entry_of (action ∷ words) =
    option_map_or (λ permit. entry_with permit (members_in words) (behind_communities words)) (action_of action) (Err Syntax)

-- what a line says as a statement: it isn't in another form
abbrev pub in_form : Reading (List ℕ × List (List ℕ)) → Result (List ℕ × List (List ℕ)) Cause
in_form Outside = Err Syntax
in_form (Faulty cause) = Err cause
in_form (Says named) = Ok named

-- the name by the words of a line, and what is behind it
abbrev pub named_line : List (List ℕ) → Result (List ℕ × List (List ℕ)) Cause
named_line words = option_map_or (λ rest. in_form (named_list rest)) (after (codes "ip" ∷ codes "community-list" ∷ []) words) (Err Syntax)

-- the name of its list and the entry of a line; in any other form it is a fault of syntax
unfoldable pub community_entry_at : ℕ → List ℕ → Result (List ℕ × CommunityEntry) Fault
community_entry_at line text =
    at_line line (on_ok (λ named. ok_map (λ entry. (named.0, entry)) (community_entry_of named.1)) (named_line (words_of text)))
