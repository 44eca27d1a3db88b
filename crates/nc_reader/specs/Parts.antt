-- What has been made of some of a file's topics, and what of them is wrong.
use Rattle.std.specs.Prelude.{◌≡◌, ℕ, ◌==◌, nat_lt, List, [], ◌∷◌, ◌++◌, map, Option, Some, Result, Ok, Err, count_by}
use Rattle.std.specs.List.{filter_map, find, range_with_len}
use Rattle.std.specs.Option.{option_map}
use Rattle.std.specs.declared.alloc.Global.{Global}
use Rattle.std.specs.declared.vec.Vec.{Vec}
use Rattle.nc_types.specs.Config.{ElementView, element_view, clause_view}
use Rattle.nc_types.specs.WellFormed.{first_line}
use Rattle.nc_types.specs.Faults.{lowest}
use Rattle.nc_types.specs.declared.config.Element.{Element}
use Rattle.nc_types.specs.declared.fault.Fault.{Fault}
use Rattle.nc_types.specs.declared.fault.ConfigFault.{ConfigFault}
use Rattle.nc_types.specs.declared.fault.ConfigFault.TheVariants.{Bad, Memory}
use Rattle.nc_types.specs.declared.config.StaticRoute.{StaticRoute}
use Rattle.nc_lines.specs.declared.block.Block.{Block}
use Rattle.nc_lines.specs.Outcomes.{IsFault}
use Rattle.nc_read_link.specs.Interfaces.{InterfacePart}
use Rattle.nc_read_bgp.specs.Outcomes.{part_view as made_view}
use Rattle.nc_read_policy.specs.Clauses.{ClausePart}
use Rattle.nc_read_policy.specs.Outcomes.{entry_part}
use Rattle.nc_reader.specs.declared.communities.CommunityLine.{CommunityLine}
use Rattle.nc_reader.specs.declared.pieces.InterfaceLines.{InterfaceLines}
use Rattle.nc_reader.specs.declared.pieces.ClauseLines.{ClauseLines}
use Rattle.nc_reader.specs.declared.pieces.GroupLines.{GroupLines}
use Rattle.nc_reader.specs.declared.routes.RouteKey.{RouteKey}
use Rattle.nc_reader.specs.declared.routes.RouteLines.{RouteLines}
use Rattle.nc_reader.specs.declared.things.Part.{Part as PartRead}
use Rattle.nc_reader.specs.declared.things.Part.TheVariants as parts
use Rattle.nc_reader.specs.declared.topic.Topic.{Topic}
use Rattle.nc_lines.specs.Groups.{Keyed, keys_from, groups}
use Rattle.nc_reader.specs.Things.{Routed, RoutePart, RouteKeyView, key_of, same_key, route_part, CommunityPart, ok_of, err_of, Part, AnInterface, Routes, AProcess, AClause, Entries, Communities, Filters, AGroup, GroupPart, part_in}

-- ---- faults

-- what was told before, and what is wrong with the parts that were read, gives the lowest fault
abbrev pub IsLowest : {A : Type 0} → List Fault → Option Fault → List (Result A Fault) → Type 0
IsLowest before told read = told ≡ lowest (before ++ filter_map err_of read)

-- the fault so far becomes the lower of it and one more
abbrev pub Notes : ConfigFault → Option Fault → Option Fault → Type 0
Notes (Bad line cause) old new = (fs : List Fault) → old ≡ lowest fs → new ≡ lowest (fs ++ record { line = line; cause = cause } ∷ [])
Notes Memory old new = ⊥

-- ---- what a topic makes

-- an interface, a static route and a clause, each with the lines of its statements
abbrev pub interface_part : InterfaceLines → InterfacePart
interface_part p = record { interface = p.interface; lines = p.lines.items }

abbrev pub static_part : RouteLines → RoutePart
static_part p = record { route = p.route; lines = p.lines.items }

abbrev pub clause_part : ClauseLines → ClausePart
clause_part p = record { clause = clause_view p.clause; lines = p.lines.items }

-- an entry of a community list with its line
abbrev pub community_line : CommunityLine → CommunityPart
community_line p = record { entry = p.entry; line = p.line }

-- what applies an access list, with its lines
abbrev pub group_part : GroupLines → GroupPart
group_part p = record { group = p.group; lines = p.lines.items }

abbrev pub part_view : PartRead → Part
part_view (parts.AnInterface p) = AnInterface (interface_part p)
part_view (parts.Routes ps) = Routes (map static_part ps.items)
part_view (parts.AProcess p) = AProcess (made_view p.value)
part_view (parts.AClause p) = AClause (clause_part p.value)
part_view (parts.Entries name ps) = Entries name (map entry_part ps.items)
part_view (parts.Communities name ps) = Communities name (map community_line ps.items)
part_view (parts.Filters ps odd) = Filters ps.items odd.items
part_view (parts.AGroup p) = AGroup (group_part p)

-- what was returned is this part, or this fault, unless memory ran out
abbrev pub IsPart : Result PartRead ConfigFault → Result Part Fault → Type 0
IsPart (Ok part) read = read ≡ Ok (part_view part)
IsPart (Err fault) read = IsFault fault read

-- these are the parts that were read, without those that are wrong
abbrev pub AreRead : List PartRead → List (Result Part Fault) → Type 0
AreRead made read = map part_view made ≡ filter_map ok_of read

-- one more part, which was read or is wrong
abbrev pub Reads : Result Part Fault → List PartRead → List PartRead → Type 0
Reads r old new = (rs : List (Result Part Fault)) → AreRead old rs → AreRead new (rs ++ r ∷ [])

abbrev pub Tells : Result Part Fault → Option Fault → Option Fault → Type 0
Tells r old new = (fs : List Fault) (rs : List (Result Part Fault)) → IsLowest fs old rs → IsLowest fs new (rs ++ r ∷ [])

-- what topics make of their lines
abbrev pub parts_by : List (List ℕ) → Option ℕ → List Topic → List Block → List (Result Part Fault)
parts_by lines process [] blocks = []
parts_by lines process (topic ∷ topics) [] = []
parts_by lines process (topic ∷ topics) (block ∷ blocks) = part_in lines process topic block.lines.items ∷ parts_by lines process topics blocks

-- ---- static routes

-- what was returned are these routes, or this fault, unless memory ran out
abbrev pub AreStatics : Result (Vec RouteLines Global) ConfigFault → Result (List RoutePart) Fault → Type 0
AreStatics (Ok routes) read = read ≡ Ok (map static_part routes.items)
AreStatics (Err fault) read = IsFault fault read

-- what was returned are these entries, or this fault, unless memory ran out
abbrev pub AreCommunities : Result (Vec CommunityLine Global) ConfigFault → Result (List CommunityPart) Fault → Type 0
AreCommunities (Ok parts) read = read ≡ Ok (map community_line parts.items)
AreCommunities (Err fault) read = IsFault fault read

-- a static route with one more statement, which decides
abbrev pub with_statement : ℕ → StaticRoute → RoutePart → RoutePart
with_statement line route p = record { route = route; lines = p.lines ++ line ∷ [] }

abbrev pub key_view : RouteKey → RouteKeyView
key_view k = record { prefix = k.prefix; interface = k.interface; hop = option_map (λ a. a.0) k.hop }

-- some statements by their keys
abbrev pub keyed : Routed → Keyed RouteKeyView Routed
keyed r = record { key = key_of r.route; value = r }

-- these are the keys of some statements and the routes that they make
pub record AreRoutes (keys : List RouteKey) (parts : List RouteLines) (rs : List Routed) : Type 0 where
  pub known : map key_view keys ≡ keys_from same_key [] (map (λ p. p.key) (map keyed rs))
  pub made : map (λ p. Some p) (map static_part parts) ≡ map (λ g. route_part g.values) (groups same_key (map keyed rs))

-- one more statement
abbrev pub Adds : Routed → List RouteKey → List RouteLines → List RouteKey → List RouteLines → Type 0
Adds r keys parts more_keys more_parts = (rs : List Routed) → AreRoutes keys parts rs → AreRoutes more_keys more_parts (rs ++ r ∷ [])

-- ---- the order of elements

abbrev pub slot_view : Option Element → Option ElementView
slot_view slot = option_map element_view slot

-- at each line of a file the element that begins there
abbrev pub slots_of : ℕ → List ElementView → List (Option ElementView)
slots_of count pieces = map (λ line. find (λ e. first_line e == line) pieces) (range_with_len 1 count)

-- how many of some lines are above one
abbrev pub count_above : ℕ → List ℕ → ℕ
count_above line firsts = count_by (λ first. nat_lt first line) firsts

-- how many of some lines are each of so many lines, from 0 on
abbrev pub marks_of : ℕ → List ℕ → List ℕ
marks_of count firsts = map (λ line. count_by (λ first. first == line) firsts) (range_with_len 0 count)
