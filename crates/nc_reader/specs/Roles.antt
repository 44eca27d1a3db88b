-- What each line is in its file.
use Rattle.std.specs.Prelude.{ℕ, ◌+◌, Bool, false, not, ◌&&◌, ◌||◌, List, [], ◌∷◌, length, Option, Some, None, unwrap_or, option_and_then, if◌then◌else◌, codes}
use Rattle.std.specs.List.{list_any}
use Rattle.std.specs.Option.{option_map, option_map_or}
use Rattle.std.specs.Str.{bytes_eq}
use Rattle.nc_types.specs.WellFormed.{is_name}
use Rattle.nc_types.specs.declared.fault.Cause.{Cause}
use Rattle.nc_types.specs.declared.fault.Cause.TheVariants.{Syntax, Unsupported}
use Rattle.nc_lines.specs.Lines.{words_of, is_indented}
use Rattle.nc_lines.specs.Blocks.{is_idle, begins_banner, has_mark, leaves_open, is_open, header_of}
use Rattle.nc_lines.specs.Statements.{Reading, Outside, Faulty, Says, after, begins}
use Rattle.nc_read_bgp.specs.Statements.{header_says as process_header_says}
use Rattle.nc_read_policy.specs.Clauses.{header_says}
use Rattle.nc_read_policy.specs.Lists.{list_name_says}
use Rattle.nc_read_policy.specs.CommunityEntries.{community_name_says}
use Rattle.nc_read_filter.specs.Groups.{GroupSays, group_says}
use Rattle.nc_read_filter.specs.Lists.{opens_list, begins_entry}
use Rattle.nc_reader.specs.declared.topic.Topic.{Topic}
use Rattle.nc_reader.specs.declared.topic.Topic.TheVariants as topics
use Rattle.nc_reader.specs.Topics.{has_block, interface_name}

-- what a line is
pub data Role : Type 0 where
  -- nothing that is read: blank, a comment, text of a banner, or a statement that configures no route
  Passed : Role
  Wrong : Cause → Role
  -- the router's name
  Names : List ℕ → Role
  -- a statement on this topic, or a line of its block
  Within : Topic → Role

-- ---- unindented lines

-- what is behind `router` is the name of a routing protocol other than BGP
abbrev pub is_router : List (List ℕ) → Bool
is_router [] = false
is_router (protocol ∷ words) = not (bytes_eq protocol (codes "bgp"))

-- unindented statements that aren't supported
unfoldable pub is_unsupported : List (List ℕ) → Bool
is_unsupported words =
    option_map_or is_router (after (codes "router" ∷ []) words) false
    || (begins (codes "ip" ∷ codes "default-network" ∷ []) words
    || (begins (codes "no" ∷ codes "ip" ∷ codes "routing" ∷ []) words
    || (begins (codes "ip" ∷ codes "local" ∷ codes "policy" ∷ []) words
    || begins (codes "ip" ∷ codes "nat" ∷ []) words)))

-- what is behind `hostname`
abbrev pub hostname_role : List (List ℕ) → Role
hostname_role (name ∷ []) = if is_name name then Names name else Wrong Syntax
hostname_role words = Wrong Syntax

-- what is behind `interface`: words behind the name are passed over
abbrev pub interface_role : List (List ℕ) → Role
interface_role [] = Wrong Syntax
interface_role (name ∷ words) = Within (topics.Interface name)

-- a statement by what it says: it speaks of a topic, is wrong, or configures no route
abbrev pub said_role : {S : Type 0} → (S → Topic) → Reading S → Role
said_role topic Outside = Passed
said_role topic (Faulty cause) = Wrong cause
said_role topic (Says s) = Within (topic s)

-- a statement that opens an access list or is an entry of one, or configures nothing
abbrev pub filter_role : Bool → Role
filter_role speaks = if speaks then Within topics.Filters else Passed

-- the unindented statements that are read
unfoldable pub read_role : List (List ℕ) → Role
read_role words =
    option_map_or hostname_role (after (codes "hostname" ∷ []) words)
    (option_map_or interface_role (after (codes "interface" ∷ []) words)
    (option_map_or (λ rest. Within topics.Statics) (after (codes "ip" ∷ codes "route" ∷ []) words)
    (option_map_or (λ rest. said_role topics.List (list_name_says rest)) (after (codes "ip" ∷ codes "prefix-list" ∷ []) words)
    (option_map_or (λ rest. said_role topics.Communities (community_name_says rest)) (after (codes "ip" ∷ codes "community-list" ∷ []) words)
    (option_map_or (λ rest. filter_role (opens_list rest)) (after (codes "ip" ∷ codes "access-list" ∷ []) words)
    (option_map_or (λ rest. filter_role (begins_entry rest)) (after (codes "access-list" ∷ []) words)
    (option_map_or (λ rest. said_role topics.Process (process_header_says words)) (after (codes "router" ∷ []) words)
    (said_role (λ h. topics.Clause h.map_name h.number) (header_says words)))))))))

-- what the words of an unindented statement make of it: what isn't supported is looked at first
abbrev pub header_role : List (List ℕ) → Role
header_role words = if is_unsupported words then Wrong Unsupported else read_role words

-- ---- all lines

-- the topic whose block an unindented statement opens
abbrev pub opened_by : Role → Option Topic
opened_by (Within topic) = if has_block topic then Some topic else None
opened_by role = None

-- the topic in whose block an indented line stands, given the lines before it, the nearest first
abbrev pub block_of : List (List ℕ) → Option Topic
block_of earlier = option_and_then (λ header. opened_by (header_role (words_of header))) (header_of earlier)

-- of what an indented line speaks in the block of a topic, if not of that: it may apply an access list to an interface
abbrev pub group_topic : Topic → Option GroupSays → Option Topic
group_topic topic said = option_and_then (λ g. option_map (λ name. topics.Group name g.inward) (interface_name topic)) said

-- an indented line in the block of a topic, or in none, by the access list that it may apply
abbrev pub member_role : Option Topic → Option GroupSays → Role
member_role None said = Passed
member_role (Some topic) said = Within (unwrap_or (group_topic topic said) topic)

-- the first line of a banner: it has a mark, and a second one stands in it or in a later line
abbrev pub banner_role : List ℕ → List (List ℕ) → Role
banner_role line later =
    if not (has_mark line) then Wrong Unsupported else (if leaves_open line && not (list_any has_mark later) then Wrong Syntax else Passed)

-- what a line is, given the lines before it, the nearest first, and those behind it
unfoldable pub role_of : List (List ℕ) → List ℕ → List (List ℕ) → Role
role_of earlier line later =
    if is_open earlier then Passed
    else (if begins_banner line then banner_role line later
    else (if is_idle (words_of line) then Passed
    else (if is_indented line then member_role (block_of earlier) (group_says (words_of line)) else header_role (words_of line))))

-- a line's number, from 1, and what it is
pub record Placed : Type 0 where
  pub line : ℕ
  pub role : Role

-- what each line is, given the lines before the first, the nearest first
unfoldable pub roles_from : List (List ℕ) → List (List ℕ) → List Placed
roles_from earlier [] = []
roles_from earlier (line ∷ later) =
    record { line = length earlier + 1; role = role_of earlier line later } ∷ roles_from (line ∷ earlier) later
