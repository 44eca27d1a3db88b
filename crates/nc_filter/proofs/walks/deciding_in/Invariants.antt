use Rattle.std.proofs.Common.{◌≡◌, ◌-◌, ℕ, List, Some, length}
use Rattle.std.specs.Prelude.{position}
use Rattle.nc_tables.specs.Filters.{is_of}
use Rattle.nc_filter.specs.Walks.{AreAhead}
use Rattle.nc_filter.proofs.Going.{decides_for, least}
use Rattle.nc_filter.proofs.Spotting.{found_from}
use Rattle.nc_filter.proofs.walks.deciding_in.Given as goal

-- the walk stands at the first of the three, and finds from there what is the first of all
abbrev pub invariant-entries : goal.invariant-entries
invariant-entries l = record {
  size : l.count ≡ length l.entries;
  place : l.place ≡ least l.ahead;
  ahead : AreAhead l.entries l.list l.fn.from l.fn.to l.place l.ahead;
  found : (q : List ℕ) → position (is_of q) l.entries ≡ Some l.list → found_from (decides_for l.fn.from l.fn.to q) l.entries l.place ≡ position (decides_for l.fn.from l.fn.to q) l.entries;
}

abbrev pub decreases-entries : goal.decreases-entries
decreases-entries l = length l.entries - l.place
