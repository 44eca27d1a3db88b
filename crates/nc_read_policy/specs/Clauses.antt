-- What the lines of a route map say, and the clause that they make.
use Rattle.std.specs.Prelude.{ℕ, ◌-◌, ◌^◌, Bool, true, false, ◌&&◌, ◌||◌, ◌==◌, nat_le, List, [], ◌∷◌, length, map, Option, Some, None, Result, Ok, Err, is_some, unwrap_or, option_and_then, if◌then◌else◌, codes}
use Rattle.std.specs.List.{filter_map, flat_map, last_or, list_all, list_any}
use Rattle.std.specs.Option.{option_map, option_map_or}
use Rattle.std.specs.Str.{bytes_eq}
use Rattle.nc_types.specs.Config.{ClauseView}
use Rattle.nc_types.specs.declared.fault.Fault.{Fault}
use Rattle.nc_types.specs.declared.fault.Cause.TheVariants.{Syntax, Unsupported}
use Rattle.nc_types.specs.declared.config.Reference.{Reference}
use Rattle.nc_types.specs.declared.communities.SetCommunity.{SetCommunity}
use Rattle.nc_types.specs.declared.config.OriginCode.{OriginCode}
use Rattle.nc_types.specs.declared.config.OriginCode.TheVariants.{Igp, Incomplete}
use Rattle.nc_lines.specs.Lines.{words_of, is_indented}
use Rattle.nc_lines.specs.Numbers.{number_of}
use Rattle.nc_lines.specs.Statements.{Reading, Outside, Faulty, Says, after, begins, alone_says, or_syntax, said_as, said_of}
use Rattle.nc_lines.specs.Parts.{Numbered, Stated, first_of, fault_in, statements_in}
use Rattle.nc_read_policy.specs.declared.TheConstants.{PREPEND_LIMIT}
use Rattle.nc_read_policy.specs.Communities.{members_in, behind_communities}

-- ---- headers

-- the head of a clause: the name of its map, its number, and whether it permits
pub record Header : Type 0 where
  pub map_name : List ℕ
  pub number : ℕ
  pub permit : Bool

-- the word `permit` or `deny`
abbrev pub action_of : List ℕ → Option Bool
action_of word = if bytes_eq word (codes "permit") then Some true else (if bytes_eq word (codes "deny") then Some false else None)

-- what is behind `route-map`: a name, an action and a number
abbrev pub header_of : List (List ℕ) → Option Header
header_of (name ∷ action ∷ number ∷ []) =
    option_and_then (λ permit. option_map (λ n. record { map_name = name; number = n; permit = permit }) (number_of 65535 number)) (action_of action)
header_of words = None

-- what the words of a header say
abbrev pub header_says : List (List ℕ) → Reading Header
header_says words = option_map_or (λ rest. or_syntax (header_of rest)) (after (codes "route-map" ∷ []) words) Outside

-- ---- statements

-- what a line of a clause says: its head, the lists that it matches, or what it sets
pub data ClauseStatement : Type 0 where
  Opens : Header → ClauseStatement
  Matches : List (List ℕ) → ClauseStatement
  MatchesCommunities : List (List ℕ) → ClauseStatement
  SetsPreference : ℕ → ClauseStatement
  SetsMetric : ℕ → ClauseStatement
  Prepends : List ℕ → ClauseStatement
  SetsOrigin : OriginCode → ClauseStatement
  SetsCommunities : SetCommunity → ClauseStatement

-- one number below 2^32
abbrev pub value_of : List (List ℕ) → Option ℕ
value_of (word ∷ []) = number_of (2 ^ 32 - 1) word
value_of words = None

-- the number of an autonomous system, from 1
abbrev pub asn_of : List ℕ → Option ℕ
asn_of word = option_and_then (λ n. if n == 0 then None else Some n) (number_of (2 ^ 32 - 1) word)

-- such numbers, at least one and no more than may be put before a path
abbrev pub are_asns : List (List ℕ) → Bool
are_asns words = nat_le 1 (length words) && (nat_le (length words) PREPEND_LIMIT && list_all (λ word. is_some (asn_of word)) words)

-- what is behind `match ip address prefix-list`: names
abbrev pub lists_say : List (List ℕ) → Reading ClauseStatement
lists_say [] = Faulty Syntax
lists_say (name ∷ names) = Says (Matches (name ∷ names))

-- what is behind `match community`: names; an exact match isn't supported
abbrev pub names_say : List (List ℕ) → Reading ClauseStatement
names_say [] = Faulty Syntax
names_say (name ∷ names) = Says (MatchesCommunities (name ∷ names))

abbrev pub community_lists_say : List (List ℕ) → Reading ClauseStatement
community_lists_say words = if list_any (λ word. bytes_eq word (codes "exact-match")) words then Faulty Unsupported else names_say words

-- what sets these communities, or with `additive` adds them
abbrev pub sets_say : Bool → Option (List ℕ) → Reading ClauseStatement
sets_say additive members = or_syntax (option_map (λ ns. SetsCommunities (record { values = ns; additive = additive })) members)

-- what is behind `set community`: communities, given what is behind them
abbrev pub set_with : Option (List ℕ) → List (List ℕ) → Reading ClauseStatement
set_with members [] = sets_say false members
set_with members (word ∷ []) = if bytes_eq word (codes "additive") then sets_say true members else Faulty Unsupported
set_with members words = Faulty Unsupported

abbrev pub communities_say : List (List ℕ) → Reading ClauseStatement
communities_say words = set_with (members_in words) (behind_communities words)

-- what is behind `set as-path prepend`
abbrev pub prepend_says : List (List ℕ) → Reading ClauseStatement
prepend_says words = if are_asns words then Says (Prepends (filter_map asn_of words)) else Faulty Syntax

-- statements that would change what is routed
abbrev pub is_unsupported : List (List ℕ) → Bool
is_unsupported words = begins (codes "match" ∷ []) words || (begins (codes "set" ∷ []) words || begins (codes "continue" ∷ []) words)

-- what the words of an indented line say: the eight statements that are read, and of the rest what isn't supported
unfoldable pub statement_says : List (List ℕ) → Reading ClauseStatement
statement_says words =
    option_map_or lists_say (after (codes "match" ∷ codes "ip" ∷ codes "address" ∷ codes "prefix-list" ∷ []) words)
    (option_map_or (λ rest. or_syntax (option_map (λ n. SetsPreference n) (value_of rest))) (after (codes "set" ∷ codes "local-preference" ∷ []) words)
    (option_map_or (λ rest. or_syntax (option_map (λ n. SetsMetric n) (value_of rest))) (after (codes "set" ∷ codes "metric" ∷ []) words)
    (option_map_or prepend_says (after (codes "set" ∷ codes "as-path" ∷ codes "prepend" ∷ []) words)
    (option_map_or (alone_says (SetsOrigin Igp)) (after (codes "set" ∷ codes "origin" ∷ codes "igp" ∷ []) words)
    (option_map_or (alone_says (SetsOrigin Incomplete)) (after (codes "set" ∷ codes "origin" ∷ codes "incomplete" ∷ []) words)
    (option_map_or community_lists_say (after (codes "match" ∷ codes "community" ∷ []) words)
    (option_map_or communities_say (after (codes "set" ∷ codes "community" ∷ []) words)
    (if is_unsupported words then Faulty Unsupported else Outside))))))))

-- what a line says: an unindented one may be a header
abbrev pub text_says : List ℕ → Reading ClauseStatement
text_says text = if is_indented text then statement_says (words_of text) else said_as (λ h. Opens h) (header_says (words_of text))

abbrev pub line_says : Numbered → Reading ClauseStatement
line_says l = text_says l.text

-- ---- clauses

abbrev pub ClauseLine : Type 0
ClauseLine = Stated ClauseStatement

-- what one statement says of each field
abbrev pub head_by : ClauseStatement → Option Header
head_by (Opens h) = Some h
head_by s = None

abbrev pub action_by : ClauseStatement → Option Bool
action_by (Opens h) = Some h.permit
action_by s = None

abbrev pub lists_by : ℕ → ClauseStatement → List Reference
lists_by line (Matches names) = map (λ name. record { name = name; line = line }) names
lists_by line s = []

abbrev pub community_lists_by : ℕ → ClauseStatement → List Reference
community_lists_by line (MatchesCommunities names) = map (λ name. record { name = name; line = line }) names
community_lists_by line s = []

abbrev pub preference_by : ClauseStatement → Option ℕ
preference_by (SetsPreference n) = Some n
preference_by s = None

abbrev pub metric_by : ClauseStatement → Option ℕ
metric_by (SetsMetric n) = Some n
metric_by s = None

abbrev pub prepend_by : ClauseStatement → Option (List ℕ)
prepend_by (Prepends numbers) = Some numbers
prepend_by s = None

abbrev pub origin_by : ClauseStatement → Option OriginCode
origin_by (SetsOrigin code) = Some code
origin_by s = None

abbrev pub communities_by : ClauseStatement → Option SetCommunity
communities_by (SetsCommunities set) = Some set
communities_by s = None

-- the last that statements say of a field
abbrev pub last_of : {A : Type 0} → (ClauseStatement → Option A) → List ClauseLine → Option A
last_of by ss = last_or None (filter_map (λ s. by s.setting) ss)

-- the head in the first line of a block, if it has one there
abbrev pub head_in : List Numbered → Option Header
head_in block = option_and_then (λ l. option_and_then head_by (said_of (line_says l))) (first_of block)

-- the clause of these statements, with the name and the number of its head: the last of a field decides, and lists add up
abbrev pub clause_of : List ℕ → ℕ → List ClauseLine → ClauseView
clause_of name number ss =
    record {
      map_name = name;
      number = number;
      permit = unwrap_or (last_of action_by ss) false;
      lists = flat_map (λ s. lists_by s.line s.setting) ss;
      community_lists = flat_map (λ s. community_lists_by s.line s.setting) ss;
      preference = last_of preference_by ss;
      metric = last_of metric_by ss;
      prepend = unwrap_or (last_of prepend_by ss) [];
      origin = last_of origin_by ss;
      communities = last_of communities_by ss;
      element = 0;
    }

-- a clause, and the lines of its statements
pub record ClausePart : Type 0 where
  pub clause : ClauseView
  pub lines : List ℕ

-- the name and the number in the first line of a block; nothing and 0 where it is no header
abbrev pub name_in : List Numbered → List ℕ
name_in block = option_map_or (λ h. h.map_name) (head_in block) []

abbrev pub number_in : List Numbered → ℕ
number_in block = option_map_or (λ h. h.number) (head_in block) 0

-- the clause of a block, or the fault of its first faulty line
unfoldable pub clause_in : List Numbered → Result ClausePart Fault
clause_in block =
    let ss = statements_in line_says block in
    option_map_or Err (fault_in line_says block) (Ok (record { clause = clause_of (name_in block) (number_in block) ss; lines = map (λ s. s.line) ss }))
