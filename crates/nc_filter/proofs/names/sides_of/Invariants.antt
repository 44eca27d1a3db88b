use Rattle.std.proofs.Common.{◌≡◌, ℕ, List}
use Rattle.std.specs.Prelude.{position}
use Rattle.nc_tables.specs.Filters.{is_at}
use Rattle.nc_filter.specs.Names.{place_named}
use Rattle.nc_filter.proofs.Naming.{first_by}
use Rattle.nc_filter.proofs.names.sides_of.Given as goal

-- what is kept of the filters so far, and else what is found behind them, is the first of all
abbrev pub invariant-groups : goal.invariant-groups
invariant-groups l = (q : List ℕ) → first_by (is_at q l.inward) l.groups (place_named l.first q) l.place ≡ position (is_at q l.inward) l.groups
