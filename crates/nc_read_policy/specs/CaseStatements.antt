-- Statements on communities and on lists, by the words behind those with which they begin.
use Rattle.std.specs.Prelude.{◌≡◌, ℕ, ◌+◌, ◌/◌, ◌%◌, true, false, List, [], ◌∷◌, ◌++◌, map, Ok, Err, codes, refl}
use Rattle.std.specs.List.{range_with_len}
use Rattle.nc_types.specs.declared.config.ListEntry.{ListEntry}
use Rattle.nc_types.specs.declared.fault.Cause.TheVariants.{Syntax, Unsupported}
use Rattle.nc_lines.specs.Numbers.{number_of}
use Rattle.nc_lines.specs.Statements.{Outside, Faulty, Says}
use Rattle.nc_community.specs.Words.{community_of}
use Rattle.nc_read_policy.specs.Clauses.{SetsCommunities, communities_say, community_lists_say}
use Rattle.nc_read_policy.specs.CommunityEntries.{community_name_says, community_entry_of}
use Rattle.nc_read_policy.specs.Lists.{parts_of, list_name_says}

-- numbers of two digits, from 10 on
abbrev numbers : ℕ → List (List ℕ)
numbers count = map (λ n. (48 + n / 10) ∷ (48 + n % 10) ∷ []) (range_with_len 10 count)

-- ---- set community

-- repeats stand once, in order
pub replaces : communities_say (codes "0:7" ∷ codes "3" ∷ codes "7" ∷ []) ≡ Says (SetsCommunities (record { values = 3 ∷ 7 ∷ []; additive = false }))
unfolding community_of number_of
replaces = refl

pub adds : communities_say (codes "1:0" ∷ codes "additive" ∷ []) ≡ Says (SetsCommunities (record { values = 65536 ∷ []; additive = true }))
unfolding community_of number_of
adds = refl

-- without a community it isn't whole
pub none_set : map communities_say ([] ∷ (codes "additive" ∷ []) ∷ []) ≡ Faulty Syntax ∷ Faulty Syntax ∷ []
unfolding community_of number_of
none_set = refl

-- other words, also a second `additive`, and one that stands in front
pub other_words : map communities_say ((codes "internet" ∷ []) ∷ (codes "1:1" ∷ codes "additive" ∷ codes "additive" ∷ []) ∷ (codes "additive" ∷ codes "1:1" ∷ []) ∷ []) ≡ Faulty Unsupported ∷ Faulty Unsupported ∷ Faulty Unsupported ∷ []
unfolding community_of number_of
other_words = refl

-- 65 are too many, and another word behind them comes first
pub too_many : map communities_say (numbers 65 ∷ (numbers 65 ++ codes "additive" ∷ []) ∷ (numbers 65 ++ codes "internet" ∷ []) ∷ []) ≡ Faulty Syntax ∷ Faulty Syntax ∷ Faulty Unsupported ∷ []
unfolding community_of number_of
too_many = refl

-- ---- match community

pub matches : map community_lists_say ([] ∷ (codes "exact-match" ∷ []) ∷ (codes "exact-match" ∷ codes "C" ∷ []) ∷ []) ≡ Faulty Syntax ∷ Faulty Unsupported ∷ Faulty Unsupported ∷ []
matches = refl

-- ---- ip community-list

-- a name behind `standard`, or a number from 1 to 99
pub names : map community_name_says ((codes "standard" ∷ codes "5" ∷ []) ∷ (codes "5" ∷ []) ∷ (codes "99" ∷ codes "permit" ∷ []) ∷ []) ≡ Says (codes "5") ∷ Says (codes "5") ∷ Says (codes "99") ∷ []
unfolding number_of
names = refl

pub no_names : map community_name_says ([] ∷ (codes "standard" ∷ []) ∷ []) ≡ Faulty Syntax ∷ Faulty Syntax ∷ []
no_names = refl

-- lists of another kind
pub other_lists : map community_name_says ((codes "0" ∷ []) ∷ (codes "05" ∷ []) ∷ (codes "100" ∷ []) ∷ (codes "expanded" ∷ codes "W" ∷ []) ∷ []) ≡ Outside ∷ Outside ∷ Outside ∷ Outside ∷ []
unfolding number_of
other_lists = refl

pub entries : map community_entry_of ((codes "permit" ∷ codes "1:0" ∷ codes "2" ∷ []) ∷ (codes "deny" ∷ codes "2" ∷ []) ∷ []) ≡ Ok (record { permit = true; members = 2 ∷ 65536 ∷ []; element = 0 }) ∷ Ok (record { permit = false; members = 2 ∷ []; element = 0 }) ∷ []
unfolding community_of number_of
entries = refl

pub no_entries : map community_entry_of ([] ∷ (codes "permit" ∷ []) ∷ (codes "allow" ∷ codes "internet" ∷ []) ∷ (codes "permit" ∷ numbers 65) ∷ []) ≡ Err Syntax ∷ Err Syntax ∷ Err Syntax ∷ Err Syntax ∷ []
unfolding community_of number_of
no_entries = refl

pub other_entries : map community_entry_of ((codes "permit" ∷ codes "internet" ∷ []) ∷ (codes "permit" ∷ numbers 65 ++ codes "01:1" ∷ []) ∷ []) ≡ Err Unsupported ∷ Err Unsupported ∷ []
unfolding community_of number_of
other_entries = refl

-- ---- ip prefix-list

-- any word can be a name; a description and the word `sequence-number` alone are no entry
pub list_names : map list_name_says ([] ∷ (codes "A" ∷ []) ∷ (codes "A" ∷ codes "description" ∷ codes "x" ∷ []) ∷ (codes "sequence-number" ∷ []) ∷ (codes "sequence-number" ∷ codes "x" ∷ []) ∷ (codes "description" ∷ codes "permit" ∷ []) ∷ [])
    ≡ Faulty Syntax ∷ Says (codes "A") ∷ Outside ∷ Outside ∷ Says (codes "sequence-number") ∷ Says (codes "description") ∷ []
list_names = refl

abbrev statement : ℕ → ℕ → ListEntry
statement seq line = record { seq = seq; permit = true; prefix = record { base = 0; len = 0 }; low = 0; high = 32; line = line; element = 0 }

-- entries in order of their numbers; the last of a number holds and has the lines of all
pub in_order : parts_of (statement 10 1 ∷ statement 5 2 ∷ statement 10 4 ∷ []) ≡ record { entry = statement 5 2; lines = 2 ∷ [] } ∷ record { entry = statement 10 4; lines = 1 ∷ 4 ∷ [] } ∷ []
in_order = refl
