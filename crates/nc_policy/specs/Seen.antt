-- What the code keeps as tables.
use Rattle.std.specs.Prelude.{ℕ, List, map, Option}
use Rattle.std.specs.Global.{Vec}
use Rattle.std.specs.Option.{option_map}
use Rattle.std.specs.HashMap.{HashMap, get_by}
use Rattle.std.specs.Str.{bytes_eq}
use Rattle.nc_types.specs.Cidr.{Cidr}
use Rattle.nc_types.specs.Config.{ConfigView}
use Rattle.nc_types.specs.declared.config.ListEntry.{ListEntry}
use Rattle.nc_policy.specs.Indexes.{EntryTable, NameTable, RouterTables, IsEntryTable, IsNameTable, IsPrefixTable, AreTablesOf}
use Rattle.nc_policy.specs.declared.statements.PrefixIndex.{PrefixIndex}
use Rattle.nc_policy.specs.Placing.{place_at}
use Rattle.nc_policy.specs.declared.spot_table.Spot.{Spot}
use Rattle.nc_policy.specs.declared.spot_table.Placed.{Placed}
use Rattle.nc_policy.specs.declared.index.ListIndex.{ListIndex}
use Rattle.nc_policy.specs.declared.names.NameIndex.{NameIndex}
use Rattle.nc_policy.specs.declared.router_index.RouterIndex.{RouterIndex}
use Rattle.nc_policy.specs.Decisions.{kept_from}
use Rattle.nc_policy.specs.Kept.{AskedTable}
use Rattle.nc_policy.specs.declared.kept.Asked.{Asked}
use Rattle.nc_policy.specs.declared.kept.Asking.{Asking}
use Rattle.nc_policy.specs.declared.kept.Decided.{Decided}
use Rattle.nc_policy.specs.declared.kept.Kept.{Kept}

-- ---- entries by prefix and length

-- the key of a prefix of entries and a length, and what a key is of
abbrev pub spot_at : Cidr → ℕ → Spot
spot_at q n = record { addr = record { 0 = q.base }; prefix_len = q.len; len = n }

abbrev pub spot_view : Spot → Cidr × ℕ
spot_view s = (record { base = s.addr.0; len = s.prefix_len }, s.len)

-- the place that items have first for a prefix of entries and a length
abbrev pub spot_in : List Placed → Cidr → ℕ → Option ℕ
spot_in items q n = place_at (spot_at q n) items

abbrev pub entry_table : ListIndex → EntryTable
entry_table x = record { places = map (λ e. (spot_view e.spot, e.place)) x.first; lengths = x.lengths }

abbrev pub IsIndexOf : List ListEntry → ListIndex → Type 0
IsIndexOf entries index = IsEntryTable entries (entry_table index)

-- ---- names

-- the place that is kept for a name
abbrev pub place_named : {S : Type 0} → HashMap (Vec ℕ) ℕ S → List ℕ → Option ℕ
place_named first q = get_by (λ k. bytes_eq q k.items) first

abbrev pub name_table : NameIndex → NameTable
name_table x = record { places = map (λ e. (e.0.items, e.1)) x.first.entries; next = x.next.items }

abbrev pub IsNameIndex : List (List ℕ) → NameIndex → Type 0
IsNameIndex names index = IsNameTable names (name_table index)

-- ---- prefixes

abbrev pub prefix_table : PrefixIndex → List (Cidr × ℕ)
prefix_table x = map (λ e. (e.prefix, e.place)) x.first

abbrev pub IsPrefixIndex : List Cidr → PrefixIndex → Type 0
IsPrefixIndex prefixes index = IsPrefixTable prefixes (prefix_table index)

-- ---- what is kept of maps

abbrev pub kept_table : Kept → List (Asking × Option Decided)
kept_table x = kept_from (prefix_table x.numbers.value) 0 x.asked.items

abbrev pub asked_view : Asked → AskedTable
asked_view x = record { askers = x.askers; flat = x.flat }

abbrev pub asked_table : Kept → List (Option AskedTable)
asked_table x = map (option_map asked_view) x.asked.items

-- ---- the tables of a router

abbrev pub router_tables : RouterIndex → RouterTables
router_tables x =
    record {
      lists = name_table x.names;
      community_lists = name_table x.community_names;
      maps = name_table x.maps;
      entries = map (option_map entry_table) x.lists.items;
      networks = prefix_table x.networks;
      aggregates = prefix_table x.aggregates;
      spans = x.spans.items;
      guards = x.guards.items;
      highest = x.highest.items;
      kept = kept_table x.kept;
      asked = asked_table x.kept;
    }

abbrev pub IsIndexed : ConfigView → RouterIndex → Type 0
IsIndexed c index = AreTablesOf c (router_tables index)
