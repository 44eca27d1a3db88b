-- What is wrong with several configurations together, and which fault of them is told.
use Rattle.std.specs.Prelude.{ℕ, nat_lt, List, [], ◌∷◌, ◌++◌, length, map, if◌then◌else◌}
use Rattle.std.specs.List.{filter_map, flat_map, list_any, sum_by}
use Rattle.std.specs.Option.{option_map, option_map_or}
use Rattle.nc_types.specs.Cidr.{Cidr, same_prefix}
use Rattle.nc_types.specs.Config.{ProcessView, ConfigView}
use Rattle.nc_types.specs.Joining.{Clash, earliest, same_names, overlaps, same_addresses, undefined}
use Rattle.nc_network.specs.declared.TheConstants.{PREFIX_LIMIT, NEIGHBOR_LIMIT}
use Rattle.nc_network.specs.declared.fault.LimitWord.{LimitWord}
use Rattle.nc_network.specs.declared.fault.LimitWord.TheVariants.{Prefixes, Neighbours}

-- ---- what is counted

-- the prefixes of a process: those that it originates and those that it aggregates
abbrev pub process_prefixes : ProcessView → List Cidr
process_prefixes p = map (λ n. n.prefix) p.networks ++ map (λ a. a.prefix) p.aggregates

-- the prefixes of a router: of interfaces that have an address, shut or not, of static routes and of its process
abbrev pub prefixes_in : ConfigView → List Cidr
prefixes_in c =
    filter_map (λ i. option_map (λ a. a.prefix) i.address) c.interfaces ++ (map (λ s. s.prefix) c.statics ++ option_map_or process_prefixes c.process [])

-- of a list of prefixes those that are not among the ones before them, each once
abbrev pub new_after : List Cidr → List Cidr → List Cidr
new_after before [] = []
new_after before (p ∷ ps) = if list_any (same_prefix p) before then new_after before ps else p ∷ new_after (before ++ p ∷ []) ps

-- how many distinct prefixes all routers have
abbrev pub prefix_count : List ConfigView → ℕ
prefix_count routers = length (new_after [] (flat_map prefixes_in routers))

-- how many neighbors a router has, and all routers have
abbrev pub neighbors_in : ConfigView → ℕ
neighbors_in c = option_map_or (λ p. length p.neighbors) c.process 0

abbrev pub neighbor_count : List ConfigView → ℕ
neighbor_count routers = sum_by neighbors_in routers

-- ---- what is told

-- how two lines may clash
pub data ClashKind : Type 0 where
  Names : ClashKind
  Overlaps : ClashKind
  Addresses : ClashKind
  References : ClashKind

-- what several configurations are together
pub data Judgement : Type 0 where
  Clashing : ClashKind → Clash → Judgement
  OverLimit : LimitWord → Judgement
  Fine : Judgement

-- the earliest of these clashes, or what is behind where there is none
abbrev pub or_clash : ClashKind → List Clash → Judgement → Judgement
or_clash kind clashes behind = option_map_or (Clashing kind) (earliest clashes) behind

-- too many of what is counted, or what is behind
abbrev pub or_limit : LimitWord → ℕ → ℕ → Judgement → Judgement
or_limit which most count behind = if nat_lt most count then OverLimit which else behind

-- names are looked at first, then overlaps, addresses and references, and the limits last
abbrev pub judged : List ConfigView → Judgement
judged routers =
    or_clash Names (same_names routers) (or_clash Overlaps (overlaps routers) (or_clash Addresses (same_addresses routers) (or_clash References (undefined routers)
    (or_limit Prefixes PREFIX_LIMIT (prefix_count routers) (or_limit Neighbours NEIGHBOR_LIMIT (neighbor_count routers) Fine)))))
