-- What the tables of routers hold, and when they are those of a network.
use Rattle.std.specs.Prelude.{◌≡◌, ℕ, ◌+◌, ◌<◌, Bool, true, false, ◌&&◌, nat_eq, nat_le, nat_lt, List, length, map, drop, position, slice_get, slice_index_or, All, Option, Some, None, if◌then◌else◌}
use Rattle.std.specs.List.{position_from}
use Rattle.std.specs.Map.{lookup}
use Rattle.std.specs.Str.{bytes_eq}
use Rattle.std.specs.Option.{ForSome}
use Rattle.nc_types.specs.Cidr.{Cidr, IsCidr, same_prefix}
use Rattle.nc_types.specs.Config.{ConfigView, PrefixListView}
use Rattle.nc_types.specs.declared.config.ListEntry.{ListEntry}
use Rattle.nc_tables.specs.Policy.{is_of}
use Rattle.nc_policy.specs.Statements.{aggregates_in, networks_in}
use Rattle.nc_policy.specs.Kept.{AreAsked, AreKept, AskedTable}
use Rattle.nc_policy.specs.Spans.{AreSpans}
use Rattle.nc_policy.specs.Guards.{AreGuards}
use Rattle.nc_policy.specs.Preferences.{AreHighest}
use Rattle.nc_policy.specs.declared.guards.Guard.{Guard}
use Rattle.nc_policy.specs.declared.spans.Span.{Span}
use Rattle.nc_policy.specs.declared.kept.Asking.{Asking}
use Rattle.nc_policy.specs.declared.kept.Decided.{Decided}

-- ---- entries by prefix and length

-- an entry has this prefix, and is of prefixes of this length
abbrev pub is_at : Cidr → ℕ → ListEntry → Bool
is_at q n e = same_prefix e.prefix q && (nat_le e.low n && nat_le n e.high)

-- an entry has a prefix shorter than this, and is of a prefix
abbrev pub is_shorter : ℕ → Cidr → ListEntry → Bool
is_shorter n p e = nat_lt e.prefix.len n && is_of p e

-- the lower of two places, each of which may be missing
abbrev pub lower_of : Option ℕ → Option ℕ → Option ℕ
lower_of None other = other
lower_of (Some a) None = Some a
lower_of (Some a) (Some b) = Some (if nat_lt b a then b else a)

-- an entry's prefix has no host bits
abbrev pub HasCidr : ListEntry → Type 0
HasCidr e = IsCidr e.prefix.base e.prefix.len

-- of a prefix list: the places of entries by their prefix and a length that they are of, and which lengths their prefixes have
pub record EntryTable : Type 0 where
  pub places : List ((Cidr × ℕ) × ℕ)
  pub lengths : List Bool

-- the place that a table has for a prefix of entries and a length
abbrev pub entry_at : EntryTable → Cidr → ℕ → Option ℕ
entry_at t q n = lookup (λ k. same_prefix q k.0 && nat_eq n k.1) t.places

-- a length is noted
abbrev pub HasLength : List Bool → ℕ → Type 0
HasLength lengths n = slice_index_or lengths n false ≡ true

-- a table has for each prefix and each length the first entry of both, and the length of each entry's prefix
pub record IsEntryTable (entries : List ListEntry) (t : EntryTable) : Type 0 where
  pub answers : (q : Cidr) (n : ℕ) → n < 33 → entry_at t q n ≡ position (is_at q n) entries
  pub lengths : All (λ (e : ListEntry). HasLength t.lengths e.prefix.len) entries
  pub valid : All HasCidr entries

-- ---- names

-- the places of names, and behind each place the next one
pub record NameTable : Type 0 where
  pub places : List (List ℕ × ℕ)
  pub next : List (Option ℕ)

-- the place that a table has for a name
abbrev pub named_in : NameTable → List ℕ → Option ℕ
named_in t q = lookup (bytes_eq q) t.places

-- the place of the first of a name from a place on
abbrev pub place_from : List ℕ → ℕ → List (List ℕ) → Option ℕ
place_from name from names = position_from (bytes_eq name) from (drop from names)

-- a table has the place of the first of each of these names, and of each the place of the next one of its name
pub record IsNameTable (names : List (List ℕ)) (t : NameTable) : Type 0 where
  pub first : (q : List ℕ) → named_in t q ≡ position (bytes_eq q) names
  pub behind : (k : ℕ) (name : List ℕ) → slice_get names k ≡ Some name → slice_get t.next k ≡ Some (place_from name (k + 1) names)

-- ---- prefixes

-- the place that a table has for a prefix
abbrev pub placed_in : List (Cidr × ℕ) → Cidr → Option ℕ
placed_in places p = lookup (same_prefix p) places

-- a table has the place of the first of each of these prefixes
pub record IsPrefixTable (prefixes : List Cidr) (places : List (Cidr × ℕ)) : Type 0 where
  pub first : (p : Cidr) → placed_in places p ≡ position (λ q. same_prefix q p) prefixes

-- ---- the tables of a router: of its lists and maps by name, of what its prefix lists say, and of its networks and aggregates

pub record RouterTables : Type 0 where
  pub lists : NameTable
  pub community_lists : NameTable
  pub maps : NameTable
  pub entries : List (Option EntryTable)
  pub networks : List (Cidr × ℕ)
  pub aggregates : List (Cidr × ℕ)
  pub spans : List Span
  pub guards : List Guard
  pub highest : List ℕ
  pub kept : List (Asking × Option Decided)
  pub asked : List (Option AskedTable)

-- each of these prefix lists has its table, or none
pub record AreEntryTables (lists : List PrefixListView) (tables : List (Option EntryTable)) : Type 0 where
  pub count : length tables ≡ length lists
  pub each : (k : ℕ) (l : PrefixListView) (t : Option EntryTable) → slice_get lists k ≡ Some l → slice_get tables k ≡ Some t → ForSome t (IsEntryTable l.entries)

pub record AreTablesOf (c : ConfigView) (t : RouterTables) : Type 0 where
  pub lists : IsNameTable (map (λ l. l.name) c.lists) t.lists
  pub community_lists : IsNameTable (map (λ l. l.name) c.community_lists) t.community_lists
  pub maps : IsNameTable (map (λ k. k.map_name) c.clauses) t.maps
  pub entries : AreEntryTables c.lists t.entries
  pub networks : IsPrefixTable (map (λ n. n.prefix) (networks_in c)) t.networks
  pub aggregates : IsPrefixTable (map (λ a. a.prefix) (aggregates_in c)) t.aggregates
  pub spans : AreSpans c t.spans
  pub guards : AreGuards c t.guards
  pub highest : AreHighest c t.highest
  pub kept : AreKept c t.kept
  pub asked : AreAsked c t.asked

-- ---- the tables of a network

-- each router has its tables
pub record ArePolicies (routers : List ConfigView) (policies : List RouterTables) : Type 0 where
  pub count : length policies ≡ length routers
  pub each : (k : ℕ) (c : ConfigView) (t : RouterTables) → slice_get routers k ≡ Some c → slice_get policies k ≡ Some t → AreTablesOf c t
