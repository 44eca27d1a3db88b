-- What holds of each configuration that is read from a file.
use Rattle.std.specs.Prelude.{◌≡◌, ◌≢◌, ◌⊎◌, ℕ, ◌<◌, ◌≤◌, Bool, true, ◌&&◌, nat_le, List, [], ◌∷◌, ◌++◌, length, map, All, Contains, IfSome, slice_index_or}
use Rattle.std.specs.List.{flat_map, list_all, AllPairs}
use Rattle.std.specs.List.Sorted.{IsStrictlyIncreasing}
use Rattle.std.specs.Option.{option_map_or}
use Rattle.nc_types.specs.declared.TheConstants.{NAME_LIMIT, MULTIPATH_LIMIT}
use Rattle.nc_types.specs.Cidr.{IsCidr, Covers}
use Rattle.nc_types.specs.Config.{ElementView, ProcessView, ConfigView}

-- bytes that are printed and no space, at least one and no more than a name may have: they can name a router
abbrev pub is_name : List ℕ → Bool
is_name name = nat_le 1 (length name) && nat_le (length name) NAME_LIMIT && list_all (λ b. nat_le 33 b && nat_le b 126) name

-- the places of the elements that the parts of a process are
abbrev pub process_places : ProcessView → List ℕ
process_places p =
    p.element ∷ (map (λ n. n.element) p.neighbors ++ (map (λ n. n.element) p.networks ++ map (λ a. a.element) p.aggregates))

-- the places of the elements that the entries of lists are
abbrev pub entry_places : ConfigView → List ℕ
entry_places c =
    flat_map (λ l. map (λ e. e.element) l.entries) c.lists ++ flat_map (λ l. map (λ e. e.element) l.entries) c.community_lists

-- the places of the elements that the entries of access lists and the filters of interfaces are
abbrev pub filter_places : ConfigView → List ℕ
filter_places c = map (λ e. e.element) c.filters ++ map (λ g. g.element) c.groups

-- the places of the elements that the parts of a configuration are
abbrev pub places_of : ConfigView → List ℕ
places_of c =
    map (λ i. i.element) c.interfaces ++ (map (λ s. s.element) c.statics ++ (option_map_or process_places c.process []
    ++ (map (λ k. k.element) c.clauses ++ (entry_places c ++ filter_places c))))

-- an element has a line, and its lines ascend within the file
pub record IsElement (line_count : ℕ) (e : ElementView) : Type 0 where
  pub some : 0 < length e.lines
  pub ascend : IsStrictlyIncreasing e.lines
  pub within : All (λ line. (0 < line) × (line ≤ line_count)) e.lines

-- the first line of an element
abbrev pub first_line : ElementView → ℕ
first_line e = slice_index_or e.lines 0 0

-- the parts of a process have addresses and prefixes of their own, no host bits stand in a prefix, and it uses at least one route at once,
-- and no more than it may
pub record IsProcess (p : ProcessView) : Type 0 where
  pub neighbors : AllPairs (λ m n. m.addr.0 ≢ n.addr.0) p.neighbors
  pub networks : AllPairs (λ m n. m.prefix ≢ n.prefix) p.networks
  pub aggregates : AllPairs (λ a b. a.prefix ≢ b.prefix) p.aggregates
  pub network_prefixes : All (λ n. IsCidr n.prefix.base n.prefix.len) p.networks
  pub aggregate_prefixes : All (λ a. IsCidr a.prefix.base a.prefix.len) p.aggregates
  pub paths : (1 ≤ p.max_paths) × (p.max_paths ≤ MULTIPATH_LIMIT)

pub record IsWellFormed (c : ConfigView) : Type 0 where
  pub name : is_name c.name ≡ true
  -- each part is an element that exists, and no two are the same element
  pub places : All (λ place. place < length c.elements) (places_of c)
  pub single : AllPairs (λ p q. p ≢ q) (places_of c)
  -- elements stand in order of first line, and no line stands in two
  pub elements : All (IsElement c.line_count) c.elements
  pub ordered : AllPairs (λ e f. first_line e < first_line f) c.elements
  pub apart : AllPairs (λ e f. (line : ℕ) → Contains e.lines line → Contains f.lines line → ⊥) c.elements
  -- names, clauses and lists are single, each kind of list by itself
  pub interfaces : AllPairs (λ i j. i.name ≢ j.name) c.interfaces
  pub clauses : AllPairs (λ a b. (a.map_name ≢ b.map_name) ⊎ (a.number ≢ b.number)) c.clauses
  pub lists : AllPairs (λ a b. a.name ≢ b.name) c.lists
  pub community_lists : AllPairs (λ a b. a.name ≢ b.name) c.community_lists
  -- an interface has one filter of a direction
  pub groups : AllPairs (λ g h. (g.iface ≢ h.iface) ⊎ (g.inward ≢ h.inward)) c.groups
  -- an address lies in the prefix of its interface
  pub covered : All (λ i. IfSome i.address (λ a. Covers a.prefix a.addr.0)) c.interfaces
  pub process : IfSome c.process IsProcess
  -- a list has an entry, and those of a prefix list stand in order of their numbers
  pub filled : All (λ l. 0 < length l.entries) c.lists
  pub entries : All (λ l. IsStrictlyIncreasing (map (λ e. e.seq) l.entries)) c.lists
  pub community_filled : All (λ l. 0 < length l.entries) c.community_lists
