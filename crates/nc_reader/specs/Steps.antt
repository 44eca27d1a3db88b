-- What is gathered of the lines so far, and what one more line makes of it.
use Rattle.std.specs.Prelude.{◌≡◌, ◌<◌, ℕ, Bool, true, false, not, ◌&&◌, List, [], ◌∷◌, ◌++◌, length, Option, Some, None, IfSome, slice_get, option_and_then, if◌then◌else◌}
use Rattle.std.specs.List.{list_any, position_or_len}
use Rattle.std.specs.Option.{option_map_or}
use Rattle.nc_types.specs.Faults.{lower}
use Rattle.nc_types.specs.declared.fault.Fault.{Fault}
use Rattle.nc_types.specs.declared.fault.Cause.{Cause}
use Rattle.nc_types.specs.declared.fault.Cause.TheVariants.{Syntax, Unsupported}
use Rattle.nc_lines.specs.Lines.{words_of, is_indented}
use Rattle.nc_lines.specs.Blocks.{is_idle, begins_banner, has_mark, leaves_open}
use Rattle.nc_lines.specs.Groups.{with_key, changed_at}
use Rattle.nc_read_filter.specs.Groups.{GroupSays, group_says}
use Rattle.nc_reader.specs.Roles.{Role, Passed, Wrong, Names, Within, header_role, group_topic}
use Rattle.nc_reader.specs.declared.topic.Topic.{Topic}
use Rattle.nc_reader.specs.Topics.{same_topic, has_block}

-- ---- one line

-- what a line is, but for the block in which it stands
pub data Kind : Type 0 where
  -- a line of a banner, which is open behind it or isn't, and what is wrong with it
  Banner : Bool → Option Cause → Kind
  -- a blank line or a comment
  Idle : Kind
  -- an indented line, and the access list that it applies if it stands in the block of an interface
  Member : Option GroupSays → Kind
  -- an unindented statement
  Heads : Role → Kind

-- what is wrong with the first line of a banner
abbrev pub banner_fault : List ℕ → List (List ℕ) → Option Cause
banner_fault line later =
    if not (has_mark line) then Some Unsupported else (if leaves_open line && not (list_any has_mark later) then Some Syntax else None)

-- what a line is, given whether a banner is open and the lines behind it
unfoldable pub kind_of : Bool → List ℕ → List (List ℕ) → Kind
kind_of in_banner line later =
    if in_banner then Banner (not (has_mark line)) None
    else (if begins_banner line then Banner (leaves_open line) (banner_fault line later)
    else (if is_idle (words_of line) then Idle
    else (if is_indented line then Member (group_says (words_of line)) else Heads (header_role (words_of line)))))

-- ---- what is gathered

pub record Sketch : Type 0 where
  pub name : Option (ℕ × List ℕ)
  -- the topics, and the lines that speak of each
  pub topics : List Topic
  pub blocks : List (List ℕ)
  pub fault : Option Fault
  -- whether a banner is open, and the place of the topic in whose block an indented line would stand
  pub in_banner : Bool
  pub block : Option ℕ

abbrev pub blank : Sketch
blank = record { name = None; topics = []; blocks = []; fault = None; in_banner = false; block = None }

-- each topic has lines, and so has that of an indented line
pub record IsSteady (s : Sketch) : Type 0 where
  pub blocks : length s.blocks ≡ length s.topics
  pub block : IfSome s.block (λ place. place < length s.blocks)

-- one more value in the group at a place
abbrev pub with_value : {V : Type 0} → V → ℕ → List (List V) → List (List V)
with_value value place groups = changed_at (λ values. values ++ value ∷ []) place groups

-- one more value of a key that has a group at a place, or has none yet
abbrev pub put_at : {V : Type 0} → Bool → V → ℕ → List (List V) → List (List V)
put_at true value place groups = with_value value place groups
put_at false value place groups = groups ++ (value ∷ []) ∷ []

-- one more line that speaks of a topic, given the topics that have lines
abbrev pub with_line : Topic → ℕ → List Topic → List (List ℕ) → List (List ℕ)
with_line topic line topics blocks = put_at (list_any (same_topic topic) topics) line (position_or_len (same_topic topic) topics) blocks

-- one more fault, of which the lower one is told
abbrev pub with_fault : ℕ → Option Cause → Option Fault → Option Fault
with_fault line None known = known
with_fault line (Some cause) known = Some (option_map_or (λ f. lower f (record { line = line; cause = cause })) known (record { line = line; cause = cause }))

-- an unindented statement
abbrev pub headed : ℕ → Role → Sketch → Sketch
headed line Passed s = record s { block = None }
headed line (Wrong cause) s = record s { fault = with_fault line (Some cause) s.fault; block = None }
headed line (Names name) s = record s { name = Some (line, name); block = None }
headed line (Within topic) s =
    record s {
      topics = with_key same_topic s.topics topic;
      blocks = with_line topic line s.topics s.blocks;
      block = if has_block topic then Some (position_or_len (same_topic topic) s.topics) else None;
    }

-- one more line that speaks of a topic
abbrev pub put_line : ℕ → Topic → Sketch → Sketch
put_line line topic s = record s { topics = with_key same_topic s.topics topic; blocks = with_line topic line s.topics s.blocks }

-- a line in the block at a place, or of another topic
abbrev pub joined_to : ℕ → ℕ → Option Topic → Sketch → Sketch
joined_to line place None s = record s { blocks = with_value line place s.blocks }
joined_to line place (Some topic) s = put_line line topic s

-- the topic of what applies an access list to the interface at a place
abbrev pub group_at : Option GroupSays → ℕ → List Topic → Option Topic
group_at said place topics = option_and_then (λ topic. group_topic topic said) (slice_get topics place)

-- an indented line, in the block at this place or in none, by the access list that it may apply
abbrev pub joined : ℕ → Option GroupSays → Option ℕ → Sketch → Sketch
joined line said None s = s
joined line said (Some place) s = joined_to line place (group_at said place s.topics) s

-- one more line
abbrev pub stepped : ℕ → Kind → Sketch → Sketch
stepped line (Banner in_banner cause) s = record s { fault = with_fault line cause s.fault; in_banner = in_banner }
stepped line Idle s = s
stepped line (Member said) s = joined line said s.block s
stepped line (Heads role) s = headed line role s
