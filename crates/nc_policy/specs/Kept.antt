-- What is kept of maps: the clause that decides on a prefix.
use Rattle.std.specs.Prelude.{◌≡◌, ℕ, ◌<◌, Bool, true, false, ◌&&◌, not, nat_eq, List, [], length, All, Option, Some, None, slice_get}
use Rattle.std.specs.Option.{ForSome}
use Rattle.std.specs.List.{list_any}
use Rattle.std.specs.Map.{lookup}
use Rattle.std.specs.Str.{bytes_eq}
use Rattle.nc_types.specs.Cidr.{Cidr, same_prefix}
use Rattle.nc_types.specs.Communities.{has}
use Rattle.nc_types.specs.Config.{ClauseView, ConfigView}
use Rattle.nc_tables.specs.declared.bgp.Route.{Route}
use Rattle.nc_tables.specs.Policy.{community_place, deciding, met, names_of}
use Rattle.nc_policy.specs.Views.{asked, map_names}
use Rattle.nc_policy.specs.declared.askers.Asker.{Asker}
use Rattle.nc_policy.specs.declared.kept.Asking.{Asking}
use Rattle.nc_policy.specs.declared.kept.Decided.{Decided}
use Rattle.nc_policy.specs.declared.kept.Known.{Known}

-- a clause of a map asks for communities
abbrev pub asks : List ℕ → ClauseView → Bool
asks name k = not (nat_eq (length k.community_lists) 0) && bytes_eq name k.map_name

-- a clause of a map names a prefix list
abbrev pub lists_prefixes : List ℕ → ClauseView → Bool
lists_prefixes name k = not (nat_eq (length k.lists) 0) && bytes_eq name k.map_name

-- these communities meet no clause of a map that asks for some
abbrev pub IsUnmet : ConfigView → List ℕ → List ℕ → Type 0
IsUnmet c name held = (j : ℕ) (k : ClauseView) → slice_get c.clauses j ≡ Some k → asks name k ≡ true → met (community_place c held) k.community_lists ≡ None

-- a clause at a place is asked where communities have one by which it stands in a table
abbrev pub is_asked_by : List Asker → ℕ → List ℕ → Bool
is_asked_by askers place held = list_any (λ a. nat_eq a.place place && has a.community held) askers

-- a table has clauses of a map alone, and each that asks for communities by all of which a route has to have one to meet it
pub record AreAskers (c : ConfigView) (name : List ℕ) (askers : List Asker) : Type 0 where
  pub unmet : (j : ℕ) (k : ClauseView) → slice_get c.clauses j ≡ Some k → asks name k ≡ true → (held : List ℕ) → is_asked_by askers j held ≡ false → met (community_place c held) k.community_lists ≡ None
  pub own : All (λ a. slice_get (map_names c) a.place ≡ Some name) askers

-- this clause of a router decides on a route, and matches it by these entries; or none does
pub record IsDecided (c : ConfigView) (name : List ℕ) (r : Route) (d : Option Decided) : Type 0 where
  pub none : d ≡ None → None ≡ deciding c name r
  pub within : ForSome d (λ x. x.place < length c.clauses)
  pub decides : ForSome d (λ x. (k : ClauseView) → slice_get c.clauses x.place ≡ Some k → Some (record { place = x.place; clause = k }) ≡ deciding c name r)
  pub names : ForSome d (λ x. (k : ClauseView) → slice_get c.clauses x.place ≡ Some k → Some x.names ≡ names_of c r k)

-- what is kept of a map, by the place of its first clause, and a prefix
abbrev pub same_asking : Asking → Asking → Bool
same_asking a b = nat_eq a.map b.map && same_prefix a.prefix b.prefix

abbrev pub kept_at : List (Asking × Option Decided) → ℕ → Cidr → Option (Option Decided)
kept_at kept m p = lookup (same_asking (record { map = m; prefix = p })) kept

-- what is kept is what the map decides on the prefix, for a route whose communities meet no clause of it that asks for some
pub record AreKept (c : ConfigView) (kept : List (Asking × Option Decided)) : Type 0 where
  pub right : (m : ℕ) (name : List ℕ) (p : Cidr) (d : Option Decided) → slice_get (map_names c) m ≡ Some name → kept_at kept m p ≡ Some d → (held : List ℕ) → IsUnmet c name held → IsDecided c name (asked p held) d

-- of a map: its clauses that ask for communities, and what it decides whatever the prefix is, where that is known
pub record AskedTable : Type 0 where
  pub askers : List Asker
  pub flat : Option (Option Decided)

pub record IsAskedOf (c : ConfigView) (name : List ℕ) (t : AskedTable) : Type 0 where
  pub askers : AreAskers c name t.askers
  pub flat : ForSome t.flat (λ d. (p : Cidr) (held : List ℕ) → IsUnmet c name held → IsDecided c name (asked p held) d)

-- what is known of a map and a prefix: its clauses that ask for communities, and what it decides for a route without any
pub record IsKnown (c : ConfigView) (name : List ℕ) (p : Cidr) (k : Known) : Type 0 where
  pub askers : AreAskers c name k.askers.now
  pub decided : IsDecided c name (asked p []) k.decided

-- of maps, by the places of their first clauses; none where what they ask isn't known
pub record AreAsked (c : ConfigView) (maps : List (Option AskedTable)) : Type 0 where
  pub each : (m : ℕ) (name : List ℕ) (t : AskedTable) → slice_get (map_names c) m ≡ Some name → slice_get maps m ≡ Some (Some t) → IsAskedOf c name t
