use Rattle.std.proofs.Common.{◌≡◌, ℕ, List}
use Rattle.std.specs.Prelude.{position}
use Rattle.nc_tables.specs.Filters.{is_of}
use Rattle.nc_filter.specs.Names.{place_named}
use Rattle.nc_filter.proofs.Naming.{first_by}
use Rattle.nc_filter.proofs.names.lists_of.Given as goal

-- what is kept of the entries so far, and else what is found behind them, is the first of all
abbrev pub invariant-entries : goal.invariant-entries
invariant-entries l = (q : List ℕ) → first_by (is_of q) l.entries (place_named l.first q) l.place ≡ position (is_of q) l.entries
