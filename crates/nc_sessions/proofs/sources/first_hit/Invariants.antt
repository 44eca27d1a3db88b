use Rattle.std.proofs.Common.{◌≡◌, ◌-◌, filter}
use Rattle.std.specs.List.{range_with_len}
use Rattle.nc_tables.specs.Reach.{is_hit, hits}
use Rattle.nc_tables.specs.Sessions.{first_of}
use Rattle.nc_sessions.proofs.sources.first_hit.Given as goal

-- the first hit is among the rows that are left
abbrev pub invariant-rows : goal.invariant-rows
invariant-rows l = first_of (filter (is_hit l.base l.router.0) (range_with_len l.place (l.place-end - l.place))) ≡ first_of (hits l.base l.router.0 l.fn.addr.0)
