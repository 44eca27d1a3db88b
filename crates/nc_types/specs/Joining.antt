-- What may be wrong with several configurations together, and which of it is told.
use Rattle.std.specs.Prelude.{◌≡◌, ℕ, ◌+◌, ◌/◌, Bool, ◌&&◌, ◌||◌, ◌==◌, nat_lt, nat_le, List, [], ◌∷◌, ◌++◌, map, All, Option, Some, None, if◌then◌else◌}
use Rattle.std.specs.List.{filter_map, flat_map, list_any}
use Rattle.std.specs.Option.{option_map, option_map_or}
use Rattle.std.specs.Str.{bytes_eq}
use Rattle.nc_types.specs.Cidr.{Cidr}
use Rattle.nc_types.specs.Masks.{size_of}
use Rattle.nc_types.specs.Config.{ConfigView}
use Rattle.nc_types.specs.WellFormed.{IsWellFormed}
use Rattle.nc_types.specs.Network.{up_of}
use Rattle.nc_types.specs.declared.config.IfaceAddr.{IfaceAddr}
use Rattle.nc_types.specs.declared.config.Reference.{Reference}
use Rattle.nc_types.specs.declared.config.Via.{Via}
use Rattle.nc_types.specs.declared.config.Via.TheVariants.{Through}

-- two lines that don't go together, each with its router
pub record Clash : Type 0 where
  pub first : ℕ
  pub first_line : ℕ
  pub second : ℕ
  pub second_line : ℕ

-- the order of two numbers, or else of what comes behind them
abbrev pub before_or : ℕ → ℕ → Bool → Bool
before_or m n behind = nat_lt m n || ((m == n) && behind)

-- clashes go by first router, first line, second router, second line
abbrev pub is_before : Clash → Clash → Bool
is_before a b =
    before_or a.first b.first (before_or a.first_line b.first_line (before_or a.second b.second (nat_lt a.second_line b.second_line)))

-- the first of two clashes, and of a list
abbrev pub earlier : Clash → Clash → Clash
earlier a b = if is_before b a then b else a

abbrev pub earliest : List Clash → Option Clash
earliest [] = None
earliest (c ∷ cs) = Some (option_map_or (earlier c) (earliest cs) c)

-- ---- names

-- a router with its number
pub record Numbered : Type 0 where
  pub router : ℕ
  pub config : ConfigView

abbrev pub numbered_from : ℕ → List ConfigView → List Numbered
numbered_from router [] = []
numbered_from router (c ∷ cs) = record { router = router; config = c } ∷ numbered_from (router + 1) cs

-- what each item makes with each later one
abbrev pub with_later : {A B : Type 0} → (A → A → List B) → List A → List B
with_later make [] = []
with_later make (x ∷ xs) = flat_map (make x) xs ++ with_later make xs

-- two routers of one name
abbrev pub same_name : Numbered → Numbered → List Clash
same_name a b =
    if bytes_eq a.config.name b.config.name then record { first = a.router; first_line = a.config.name_line; second = b.router; second_line = b.config.name_line } ∷ [] else []

abbrev pub same_names : List ConfigView → List Clash
same_names routers = with_later same_name (numbered_from 0 routers)

-- ---- addresses

-- the address of an interface that is up, with its line and its router
pub record Used : Type 0 where
  pub router : ℕ
  pub line : ℕ
  pub address : IfaceAddr

-- the addresses of a router's interfaces that are up
abbrev pub used_by : Numbered → List Used
used_by n = filter_map (λ i. option_map (λ a. record { router = n.router; line = i.address_line; address = a }) (up_of i)) n.config.interfaces

-- whether one prefix is the other or a part of it
abbrev pub is_inside : Cidr → Cidr → Bool
is_inside p outer = nat_le outer.len p.len && (p.base / size_of outer.len == outer.base / size_of outer.len)

abbrev pub overlap : Cidr → Cidr → Bool
overlap p q = is_inside p q || is_inside q p

-- two lines of one router, the lower one first
abbrev pub clash_of : Used → Used → Clash
clash_of a b =
    if nat_le a.line b.line then record { first = a.router; first_line = a.line; second = b.router; second_line = b.line }
    else record { first = b.router; first_line = b.line; second = a.router; second_line = a.line }

-- two interfaces of one router that are up, one prefix inside the other
abbrev pub overlapping : Used → Used → List Clash
overlapping a b = if overlap a.address.prefix b.address.prefix then clash_of a b ∷ [] else []

abbrev pub overlaps : List ConfigView → List Clash
overlaps routers = flat_map (λ n. with_later overlapping (used_by n)) (numbered_from 0 routers)

-- interfaces of two routers that are up and have one address
abbrev pub same_address : Used → Used → List Clash
same_address a b = if a.address.addr.0 == b.address.addr.0 then record { first = a.router; first_line = a.line; second = b.router; second_line = b.line } ∷ [] else []

abbrev pub same_addresses : List ConfigView → List Clash
same_addresses routers = with_later same_address_of (numbered_from 0 routers) where
  same_address_of : Numbered → Numbered → List Clash
  same_address_of a b = flat_map (λ x. flat_map (same_address x) (used_by b)) (used_by a)

-- ---- references

-- a statement in force that refers to something by its name, which is among these names or isn't
abbrev pub undefined_by : ℕ → List (List ℕ) → Reference → List Clash
undefined_by router names r =
    if list_any (bytes_eq r.name) names then [] else record { first = router; first_line = r.line; second = 0; second_line = 0 } ∷ []

-- the interface that a static route refers to
abbrev pub interface_by : Via → Option Reference
interface_by (Through reference hop) = Some reference
interface_by via = None

-- the references to interfaces: of static routes and of neighbors
abbrev pub interface_references : ConfigView → List Reference
interface_references c =
    filter_map (λ s. interface_by s.via) c.statics ++ option_map_or (λ p. filter_map (λ n. n.source) p.neighbors) c.process []

-- the references to route maps, those to prefix lists, and those to community lists
abbrev pub map_references : ConfigView → List Reference
map_references c = option_map_or (λ p. filter_map (λ n. n.map_in) p.neighbors ++ filter_map (λ n. n.map_out) p.neighbors) c.process []

abbrev pub list_references : ConfigView → List Reference
list_references c = flat_map (λ k. k.lists) c.clauses

abbrev pub community_list_references : ConfigView → List Reference
community_list_references c = flat_map (λ k. k.community_lists) c.clauses

-- statements of a router that refer to what it doesn't define
abbrev pub undefined_in : Numbered → List Clash
undefined_in n =
    flat_map (undefined_by n.router (map (λ i. i.name) n.config.interfaces)) (interface_references n.config)
    ++ (flat_map (undefined_by n.router (map (λ k. k.map_name) n.config.clauses)) (map_references n.config)
    ++ (flat_map (undefined_by n.router (map (λ l. l.name) n.config.lists)) (list_references n.config)
    ++ flat_map (undefined_by n.router (map (λ l. l.name) n.config.community_lists)) (community_list_references n.config)))

abbrev pub undefined : List ConfigView → List Clash
undefined routers = flat_map undefined_in (numbered_from 0 routers)

-- ---- validity

-- each router is well formed, and nothing is wrong with them together
pub record IsValid (routers : List ConfigView) : Type 0 where
  pub each : All IsWellFormed routers
  pub names : same_names routers ≡ []
  pub prefixes : overlaps routers ≡ []
  pub addresses : same_addresses routers ≡ []
  pub references : undefined routers ≡ []
