-- Of what the lines of a file speak.
use Rattle.std.specs.Prelude.{◌≡◌, ℕ, Bool, true, false, ◌&&◌, ◌==◌, List, Option, Some, None}
use Rattle.std.specs.Bool.{beq}
use Rattle.std.specs.List.{filter_map, list_any, position_or_len}
use Rattle.std.specs.Str.{bytes_eq}
use Rattle.nc_lines.specs.Parts.{first_of}
use Rattle.nc_reader.specs.declared.topic.Topic.{Topic}
use Rattle.nc_reader.specs.declared.topic.Topic.TheVariants as topics

-- two topics are one where they are of one kind, and have one name and number
abbrev pub same_topic : Topic → Topic → Bool
same_topic (topics.Interface a) (topics.Interface b) = bytes_eq a b
same_topic topics.Statics topics.Statics = true
same_topic (topics.Process m) (topics.Process n) = m == n
same_topic (topics.Clause a m) (topics.Clause b n) = bytes_eq a b && (m == n)
same_topic (topics.List a) (topics.List b) = bytes_eq a b
same_topic (topics.Communities a) (topics.Communities b) = bytes_eq a b
same_topic topics.Filters topics.Filters = true
same_topic (topics.Group a m) (topics.Group b n) = bytes_eq a b && beq m n
same_topic s t = false

-- interfaces, processes, clauses and access lists have blocks: the indented lines behind their headers speak of them too, and what applies an
-- access list to an interface stands in the block of that
abbrev pub has_block : Topic → Bool
has_block (topics.Interface name) = true
has_block (topics.Process asn) = true
has_block (topics.Clause name number) = true
has_block topics.Filters = true
has_block topic = false

-- a topic is among others, first at this place
abbrev pub IsAt : Topic → List Topic → ℕ → Type 0
IsAt topic topics place = (list_any (same_topic topic) topics ≡ true) × (position_or_len (same_topic topic) topics ≡ place)

-- the name of an interface
abbrev pub interface_name : Topic → Option (List ℕ)
interface_name (topics.Interface name) = Some name
interface_name topic = None

-- the number of the autonomous system of a process
abbrev pub asn_in : Topic → Option ℕ
asn_in (topics.Process asn) = Some asn
asn_in topic = None

-- the process of a file, by the number of its autonomous system: the first one that is mentioned
abbrev pub process_among : List Topic → Option ℕ
process_among topics = first_of (filter_map asn_in topics)
