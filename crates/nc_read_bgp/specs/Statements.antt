-- What the lines of a BGP process say.
use Rattle.std.specs.Prelude.{ℕ, ◌-◌, ◌^◌, Bool, true, false, ◌||◌, ◌==◌, is_some, List, [], ◌∷◌, Option, Some, None, option_and_then, if◌then◌else◌, codes}
use Rattle.std.specs.List.{list_any}
use Rattle.std.specs.Option.{option_map, option_map_or}
use Rattle.std.specs.Str.{bytes_eq}
use Rattle.nc_types.specs.Cidr.{Cidr}
use Rattle.nc_types.specs.declared.TheConstants.{MULTIPATH_LIMIT}
use Rattle.nc_types.specs.declared.fault.Cause.TheVariants.{Syntax, Unsupported}
use Rattle.nc_lines.specs.Lines.{words_of, is_indented}
use Rattle.nc_lines.specs.Numbers.{number_of, address_of, masked_prefix}
use Rattle.nc_lines.specs.Parts.{Numbered}
use Rattle.nc_lines.specs.Statements.{Reading, Outside, Faulty, Says, after, alone_says, or_syntax, said_as}
use Rattle.nc_read_bgp.specs.Prefixes.{class_prefix}

-- what a statement says of a neighbor
pub data NeighborSays : Type 0 where
  RemoteAs : ℕ → NeighborSays
  Source : List ℕ → NeighborSays
  Multihop : NeighborSays
  SelfHop : NeighborSays
  MapIn : List ℕ → NeighborSays
  MapOut : List ℕ → NeighborSays
  SendsCommunities : NeighborSays
  Shuts : NeighborSays
  -- nothing but that it is there
  Activates : NeighborSays

-- what a line of a process says
pub data ProcessSays : Type 0 where
  -- the header, with the number of the autonomous system
  Opens : ℕ → ProcessSays
  RouterId : ℕ → ProcessSays
  MaxPaths : ℕ → ProcessSays
  Relax : ProcessSays
  -- what holds here anyway
  Agrees : ProcessSays
  Originates : Cidr → ProcessSays
  -- a prefix, and whether the longer ones inside it are held back
  Aggregates : Cidr → Bool → ProcessSays
  -- an address, and what is said of the neighbor that has it
  Of : ℕ → NeighborSays → ProcessSays

-- ---- numbers and words

-- a number from 1
abbrev pub positive : ℕ → List ℕ → Option ℕ
positive most word = option_and_then (λ n. if n == 0 then None else Some n) (number_of most word)

-- one number from 1, alone
abbrev pub only_positive : ℕ → List (List ℕ) → Option ℕ
only_positive most (word ∷ []) = positive most word
only_positive most words = None

-- the number of an autonomous system, alone
abbrev pub only_asn : List (List ℕ) → Option ℕ
only_asn words = only_positive (2 ^ 32 - 1) words

-- what is said in its form, or else isn't supported
abbrev pub or_unsupported : {S : Type 0} → Option S → Reading S
or_unsupported None = Faulty Unsupported
or_unsupported (Some s) = Says s

-- ---- the header

-- what is behind `router bgp` is the number of an autonomous system
abbrev pub header_says : List (List ℕ) → Reading ℕ
header_says words = option_map_or (λ rest. or_syntax (only_asn rest)) (after (codes "router" ∷ codes "bgp" ∷ []) words) Outside

-- ---- statements of the process itself

-- what is behind `bgp router-id`
abbrev pub router_id_says : List (List ℕ) → Reading ProcessSays
router_id_says (word ∷ []) = or_syntax (option_map (λ a. RouterId a) (address_of word))
router_id_says words = Faulty Syntax

-- what is behind `bgp bestpath`: one form is read and one is outside, and no other is supported
abbrev pub bestpath_says : List (List ℕ) → Reading ProcessSays
bestpath_says (a ∷ []) = if bytes_eq a (codes "compare-routerid") then Outside else Faulty Unsupported
bestpath_says (a ∷ b ∷ []) = if bytes_eq a (codes "as-path") then (if bytes_eq b (codes "multipath-relax") then Says Relax else Faulty Unsupported) else Faulty Unsupported
bestpath_says words = Faulty Unsupported

-- what is behind `maximum-paths`
abbrev pub max_paths_says : List (List ℕ) → Reading ProcessSays
max_paths_says words = or_unsupported (option_map (λ n. MaxPaths n) (only_positive MULTIPATH_LIMIT words))

-- what is behind `address-family`
abbrev pub family_says : List (List ℕ) → Reading ProcessSays
family_says (a ∷ []) = if bytes_eq a (codes "ipv4") then Says Agrees else Faulty Unsupported
family_says (a ∷ b ∷ []) = if bytes_eq a (codes "ipv4") then (if bytes_eq b (codes "unicast") then Says Agrees else Faulty Unsupported) else Faulty Unsupported
family_says words = Faulty Unsupported

-- ---- networks and aggregates

-- the options of `network` that aren't supported
abbrev pub is_network_option : List ℕ → Bool
is_network_option word = bytes_eq word (codes "route-map") || bytes_eq word (codes "backdoor")

-- a network's prefix, and what is behind it
abbrev pub originates : Option Cidr → List (List ℕ) → Reading ProcessSays
originates None words = Faulty Syntax
originates (Some p) [] = Says (Originates p)
originates (Some p) (word ∷ words) = if is_network_option word then Faulty Unsupported else Faulty Syntax

-- what is behind `network A mask`
abbrev pub masked_says : List ℕ → List (List ℕ) → Reading ProcessSays
masked_says address [] = Faulty Syntax
masked_says address (mask ∷ words) = originates (masked_prefix address mask) words

-- what is behind `network`: an address with a mask, or with the length of its class
abbrev pub network_says : List (List ℕ) → Reading ProcessSays
network_says [] = Faulty Syntax
network_says (address ∷ words) = option_map_or (masked_says address) (after (codes "mask" ∷ []) words) (originates (class_prefix address) words)

-- the options of `aggregate-address` that aren't supported
abbrev pub is_aggregate_option : List ℕ → Bool
is_aggregate_option word =
    bytes_eq word (codes "as-set") || (bytes_eq word (codes "suppress-map") || (bytes_eq word (codes "attribute-map") || bytes_eq word (codes "advertise-map")))

-- what is behind an aggregate's prefix
abbrev pub summary_says : Cidr → List (List ℕ) → Reading ProcessSays
summary_says p [] = Says (Aggregates p false)
summary_says p (word ∷ []) = if bytes_eq word (codes "summary-only") then Says (Aggregates p true) else Faulty Syntax
summary_says p words = Faulty Syntax

-- an aggregate's prefix, and what is behind it
abbrev pub aggregates : Option Cidr → List (List ℕ) → Reading ProcessSays
aggregates None words = Faulty Syntax
aggregates (Some p) words = if list_any is_aggregate_option words then Faulty Unsupported else summary_says p words

-- what is behind `aggregate-address`: an address, its mask, and options
abbrev pub aggregate_says : List (List ℕ) → Reading ProcessSays
aggregate_says (address ∷ mask ∷ words) = aggregates (masked_prefix address mask) words
aggregate_says words = Faulty Syntax

-- ---- neighbors

-- what is behind `update-source`: the name of an interface
abbrev pub source_says : List (List ℕ) → Reading NeighborSays
source_says (name ∷ []) = Says (Source name)
source_says words = Faulty Syntax

-- what is behind `ebgp-multihop`: nothing, or a number of hops, which isn't looked at
abbrev pub multihop_says : List (List ℕ) → Reading NeighborSays
multihop_says [] = Says Multihop
multihop_says (word ∷ words) = or_syntax (option_map (λ n. Multihop) (only_positive 255 (word ∷ words)))

-- what is behind `next-hop-self`
abbrev pub self_hop_says : List (List ℕ) → Reading NeighborSays
self_hop_says [] = Says SelfHop
self_hop_says (word ∷ words) = if bytes_eq word (codes "all") then Faulty Unsupported else Faulty Syntax

-- what is behind `route-map`: a name and a direction
abbrev pub map_says : List (List ℕ) → Reading NeighborSays
map_says (name ∷ way ∷ []) =
    if bytes_eq way (codes "in") then Says (MapIn name) else (if bytes_eq way (codes "out") then Says (MapOut name) else Faulty Syntax)
map_says words = Faulty Syntax

-- what is behind `send-community`: extended communities are none that are carried here
abbrev pub communities_say : List (List ℕ) → Reading NeighborSays
communities_say [] = Says SendsCommunities
communities_say (word ∷ []) =
    if bytes_eq word (codes "standard") || bytes_eq word (codes "both") then Says SendsCommunities
    else (if bytes_eq word (codes "extended") then Outside else Faulty Syntax)
communities_say words = Faulty Syntax

-- a word that is one of these texts
abbrev pub is_one_of : List (List ℕ) → List ℕ → Bool
is_one_of [] word = false
is_one_of (text ∷ texts) word = bytes_eq word text || is_one_of texts word

-- words whose first is one of these texts
abbrev pub begins_any : List (List ℕ) → List (List ℕ) → Bool
begins_any texts [] = false
begins_any texts (word ∷ words) = is_one_of texts word

-- the words behind `neighbor A` with which statements begin that aren't supported: those that filter or change routes
abbrev pub unsupported_filters : List (List ℕ)
unsupported_filters =
    codes "weight" ∷ codes "default-originate" ∷ codes "allowas-in" ∷ codes "as-override" ∷ codes "remove-private-as" ∷ codes "prefix-list"
    ∷ codes "distribute-list" ∷ codes "filter-list" ∷ codes "unsuppress-map" ∷ codes "advertise-map" ∷ codes "soo" ∷ []

-- and those that change the session or take settings from elsewhere
abbrev pub unsupported_sessions : List (List ℕ)
unsupported_sessions =
    codes "peer-group" ∷ codes "inherit" ∷ codes "route-reflector-client" ∷ codes "local-as" ∷ codes "ttl-security" ∷ codes "disable-connected-check"
    ∷ codes "next-hop-unchanged" ∷ codes "additional-paths" ∷ []

-- what is behind `neighbor A`: the statements that are read, and of the rest what isn't supported
unfoldable pub neighbor_says : List (List ℕ) → Reading NeighborSays
neighbor_says words =
    option_map_or (λ rest. or_syntax (option_map (λ n. RemoteAs n) (only_asn rest))) (after (codes "remote-as" ∷ []) words)
    (option_map_or source_says (after (codes "update-source" ∷ []) words)
    (option_map_or multihop_says (after (codes "ebgp-multihop" ∷ []) words)
    (option_map_or self_hop_says (after (codes "next-hop-self" ∷ []) words)
    (option_map_or map_says (after (codes "route-map" ∷ []) words)
    (option_map_or (alone_says Shuts) (after (codes "shutdown" ∷ []) words)
    (option_map_or (alone_says Activates) (after (codes "activate" ∷ []) words)
    (option_map_or communities_say (after (codes "send-community" ∷ []) words)
    (if begins_any unsupported_filters words || begins_any unsupported_sessions words then Faulty Unsupported else Outside))))))))

-- what is behind `neighbor`: an address; no other name of a neighbor is supported
abbrev pub any_neighbor_says : List (List ℕ) → Reading ProcessSays
any_neighbor_says [] = Outside
any_neighbor_says (word ∷ words) = option_map_or (λ a. said_as (λ s. Of a s) (neighbor_says words)) (address_of word) (Faulty Unsupported)

-- ---- statements

-- the words with which statements begin that aren't supported, and those behind `bgp`
abbrev pub unsupported_firsts : List (List ℕ)
unsupported_firsts =
    codes "redistribute" ∷ codes "distance" ∷ codes "default-information" ∷ codes "table-map" ∷ codes "distribute-list" ∷ codes "synchronization"
    ∷ codes "auto-summary" ∷ codes "template" ∷ codes "scope" ∷ []

abbrev pub unsupported_of_bgp : List (List ℕ)
unsupported_of_bgp =
    codes "default" ∷ codes "confederation" ∷ codes "dampening" ∷ codes "inject-map" ∷ codes "additional-paths" ∷ codes "advertise-best-external" ∷ []

-- what is behind `no neighbor`: an address and `activate`
abbrev pub is_inactive : List (List ℕ) → Bool
is_inactive (address ∷ word ∷ words) = if is_some (address_of address) then bytes_eq word (codes "activate") else false
is_inactive words = false

-- statements that would change what is routed
abbrev pub is_unsupported : List (List ℕ) → Bool
is_unsupported words =
    begins_any unsupported_firsts words
    || (option_map_or (begins_any unsupported_of_bgp) (after (codes "bgp" ∷ []) words) false
    || (is_some (after (codes "no" ∷ codes "bgp" ∷ codes "default" ∷ []) words)
    || option_map_or is_inactive (after (codes "no" ∷ codes "neighbor" ∷ []) words) false))

-- what the words of an indented line say: the statements that are read, and of the rest what isn't supported
unfoldable pub statement_says : List (List ℕ) → Reading ProcessSays
statement_says words =
    option_map_or router_id_says (after (codes "bgp" ∷ codes "router-id" ∷ []) words)
    (option_map_or (alone_says Agrees) (after (codes "bgp" ∷ codes "always-compare-med" ∷ []) words)
    (option_map_or bestpath_says (after (codes "bgp" ∷ codes "bestpath" ∷ []) words)
    (option_map_or max_paths_says (after (codes "maximum-paths" ∷ []) words)
    (option_map_or family_says (after (codes "address-family" ∷ []) words)
    (option_map_or (alone_says Agrees) (after (codes "exit-address-family" ∷ []) words)
    (option_map_or network_says (after (codes "network" ∷ []) words)
    (option_map_or aggregate_says (after (codes "aggregate-address" ∷ []) words)
    (option_map_or any_neighbor_says (after (codes "neighbor" ∷ []) words)
    (if is_unsupported words then Faulty Unsupported else Outside)))))))))

-- what a line says: an unindented one may be a header
abbrev pub text_says : List ℕ → Reading ProcessSays
text_says text = if is_indented text then statement_says (words_of text) else said_as (λ n. Opens n) (header_says (words_of text))

abbrev pub line_says : Numbered → Reading ProcessSays
line_says l = text_says l.text
