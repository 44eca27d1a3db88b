-- Rows by their router and by the numbers of their prefixes.
use Rattle.std.specs.Prelude.{List, Option, Some, None, All, map, if◌then◌else◌}
use Rattle.std.specs.List.{filter_map, list_any}
use Rattle.nc_types.specs.Cidr.{Cidr, same_prefix}
use Rattle.nc_types.specs.declared.config.RouterId.{RouterId}
use Rattle.nc_tables.specs.declared.ribs.Numbered.{Numbered}
use Rattle.nc_tables.specs.LocRibs.{IsNumbered}
use Rattle.nc_round.specs.declared.changed.NumberedRow.{NumberedRow}
use Rattle.nc_round.specs.Keys.{Key}

abbrev pub row_key : NumberedRow → Key
row_key r = (r.router, r.of.prefix)

-- the row of a numbered prefix at a router
abbrev pub numbered_row : RouterId → Numbered → NumberedRow
numbered_row router of = record { router = router; of = of }

-- each under the number that its prefix has among these
abbrev pub AreRows : List Cidr → List NumberedRow → Type 0
AreRows prefixes rows = All (λ r. IsNumbered prefixes r.of) rows

-- a row, where it is of one of these prefixes, and those of some rows that are
abbrev pub row_among : List Cidr → Key → Option Key
row_among prefixes k = if list_any (same_prefix k.1) prefixes then Some k else None

abbrev pub rows_among : List Cidr → List Key → List Key
rows_among prefixes keys = filter_map (row_among prefixes) keys

-- the prefixes of numbered ones, and those of lists of them
abbrev pub prefixes_of : List Numbered → List Cidr
prefixes_of ns = map (λ n. n.prefix) ns

abbrev pub listed : List (List Numbered) → List (List Cidr)
listed lists = map prefixes_of lists

abbrev pub AreListed : List Cidr → List (List Numbered) → Type 0
AreListed prefixes lists = All (All (IsNumbered prefixes)) lists
