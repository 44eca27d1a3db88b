-- The words of the search's steps.
use Rattle.std.specs.Prelude.{◌≡◌, ℕ, ◌<◌, ◌≤◌, Bool, true, false, nat_lt, nat_le, ◌==◌, ◌&&◌, Option, Some, None, List, [], ◌∷◌, ◌++◌, map, length, if◌then◌else◌}
use Rattle.std.specs.List.{flat_map, list_any}
use Rattle.std.specs.Map.{lookup}
use Rattle.std.specs.Option.{option_map, option_map_or}
use Rattle.std.specs.Str.{bytes_eq}
use Rattle.nc_types.specs.Cidr.{Cidr, IsCidr, same_prefix}
use Rattle.nc_types.specs.declared.addr.Addr.{Addr}
use Rattle.nc_types.specs.declared.config.Interface.{Interface}
use Rattle.nc_types.specs.declared.config.Reference.{Reference}
use Rattle.nc_types.specs.Config.{ConfigView, ClauseView}
use Rattle.nc_types.specs.Network.{up_of}
use Rattle.nc_types.specs.Joining.{Clash, Numbered, Used, before_or, earlier, earliest, used_by, same_address, is_inside, undefined_by, interface_references, map_references}
use Rattle.nc_network.specs.declared.TheConstants.{PREFIX_LIMIT}
use Rattle.nc_network.specs.declared.clash.Place.{Place}
use Rattle.nc_network.specs.declared.defined.ListKind.{ListKind}
use Rattle.nc_network.specs.declared.defined.ListKind.TheVariants.{OfPrefixes, OfCommunities}

-- the earlier of two clashes, each of which may be missing
abbrev pub merge : Option Clash → Option Clash → Option Clash
merge None other = other
merge (Some a) None = Some a
merge (Some a) (Some b) = Some (earlier a b)

-- the earliest of the clashes that items make
abbrev pub first_of_all : {A : Type 0} → (A → List Clash) → List A → Option Clash
first_of_all f xs = earliest (flat_map f xs)

-- a set knows the same names as a list
abbrev pub Knows : List (List ℕ) → List (List ℕ) → Type 0
Knows keys names = (q : List ℕ) → list_any (bytes_eq q) keys ≡ list_any (bytes_eq q) names

-- the parts of what a router refers to and doesn't define
abbrev pub undefined_interfaces : Numbered → List Clash
undefined_interfaces n = flat_map (undefined_by n.router (map (λ i. i.name) n.config.interfaces)) (interface_references n.config)

abbrev pub undefined_maps : Numbered → List Clash
undefined_maps n = flat_map (undefined_by n.router (map (λ k. k.map_name) n.config.clauses)) (map_references n.config)

-- the names of the lists of a kind, and the lists of a kind that a clause refers to
abbrev pub names_of : ListKind → ConfigView → List (List ℕ)
names_of OfPrefixes c = map (λ l. l.name) c.lists
names_of OfCommunities c = map (λ l. l.name) c.community_lists

abbrev pub lists_in : ListKind → ClauseView → List Reference
lists_in OfPrefixes k = k.lists
lists_in OfCommunities k = k.community_lists

abbrev pub undefined_lists : ListKind → Numbered → List Clash
undefined_lists kind n = flat_map (undefined_by n.router (names_of kind n.config)) (flat_map (lists_in kind) n.config.clauses)

-- these prefixes, and those of more that are not among them, each once
abbrev pub added : List Cidr → List Cidr → List Cidr
added seen [] = seen
added seen (p ∷ ps) = added (if list_any (same_prefix p) seen then seen else seen ++ p ∷ []) ps

-- more prefixes were added to the old ones, or else there are too many
pub record Fits (fits : Bool) (old new ps : List Cidr) : Type 0 where
  pub some : fits ≡ true → new ≡ added old ps
  pub many : fits ≡ false → PREFIX_LIMIT < length (added old ps)

-- ---- tables that keep the lowest of what has one key

-- a line of a router
abbrev pub lower_place : Place → Place → Place
lower_place a b = if before_or b.router a.router (nat_lt b.line a.line) then b else a

-- the address of an interface that is up, with its line and its router
abbrev pub used_of : ℕ → Interface → Option Used
used_of router i = option_map (λ a. record { router = router; line = i.address_line; address = a }) (up_of i)

-- what a table is by: the key of a used address, and what it keeps
pub record Heading (K V : Type 0) : Type 0 where
  pub same : K → K → Bool
  pub key : Used → K
  pub value : Used → V
  pub lower : V → V → V

-- the lowest of those that have a key
abbrev pub head_of : {K V : Type 0} → Heading K V → K → List Used → Option V
head_of h q [] = None
head_of h q (x ∷ xs) = if h.same (h.key x) q then Some (option_map_or (h.lower (h.value x)) (head_of h q xs) (h.value x)) else head_of h q xs

-- the entries of a table are the lowest of these
abbrev pub Heads : {K V : Type 0} → Heading K V → List (K × V) → List Used → Type 0
Heads {K} h entries xs = (q : K) → lookup (h.same q) entries ≡ head_of h q xs

-- one more value was put to its key
abbrev pub Notes : {K V : Type 0} → Heading K V → K → V → List (K × V) → List (K × V) → Type 0
Notes {K} h k v old new = (q : K) → lookup (h.same q) new ≡ (if h.same k q then Some (option_map_or (h.lower v) (lookup (h.same k) old) v) else lookup (h.same q) old)

-- by address, the lowest line of the lowest router
abbrev pub by_address : Heading Addr Place
by_address = record { same = λ a b. a.0 == b.0; key = λ x. x.address.addr; value = λ x. record { router = x.router; line = x.line }; lower = lower_place }

-- two lines, each with its router
abbrev pub pair_up : Place → Place → Clash
pair_up a b = record { first = a.router; first_line = a.line; second = b.router; second_line = b.line }

-- what a used address makes with later ones, and a router with later ones
abbrev pub address_pairs : List Used → Used → List Clash
address_pairs later x = flat_map (same_address x) later

abbrev pub router_addresses : Numbered → Numbered → List Clash
router_addresses a b = flat_map (λ x. flat_map (same_address x) (used_by b)) (used_by a)

-- by prefix, the lowest line
abbrev pub lower_line : ℕ → ℕ → ℕ
lower_line a b = if nat_lt b a then b else a

abbrev pub by_prefix : Heading Cidr ℕ
by_prefix = record { same = same_prefix; key = λ x. x.address.prefix; value = λ x. x.line; lower = lower_line }

-- two lines of one router, the lower one first
abbrev pub lines_clash : ℕ → ℕ → ℕ → Clash
lines_clash router a b =
    if nat_le a b then record { first = router; first_line = a; second = router; second_line = b } else record { first = router; first_line = b; second = router; second_line = a }

-- what a used address makes with one whose prefix has this length, and with one whose prefix is shorter, where its own prefix is inside that one
abbrev pub in_length : ℕ → ℕ → Used → Used → List Clash
in_length router len x y = if (y.address.prefix.len == len) && is_inside x.address.prefix y.address.prefix then lines_clash router x.line y.line ∷ [] else []

abbrev pub in_shorter : ℕ → ℕ → Used → Used → List Clash
in_shorter router len x y = if nat_lt y.address.prefix.len len && is_inside x.address.prefix y.address.prefix then lines_clash router x.line y.line ∷ [] else []

-- what it makes with those of its own length, and with those of shorter ones
abbrev pub same_pairs : ℕ → Used → Used → List Clash
same_pairs router x = in_length router x.address.prefix.len x

abbrev pub shorter_pairs : ℕ → List Used → Used → List Clash
shorter_pairs router all x = flat_map (in_shorter router x.address.prefix.len x) all

-- the prefixes have no host bits
abbrev pub AreCidrs : List Used → Type 0
AreCidrs [] = Unit {0}
AreCidrs (x ∷ xs) = IsCidr x.address.prefix.base x.address.prefix.len × AreCidrs xs

-- no prefix is shorter than this
abbrev pub AreLong : ℕ → List Used → Type 0
AreLong n [] = Unit {0}
AreLong n (x ∷ xs) = (n ≤ x.address.prefix.len) × AreLong n xs
