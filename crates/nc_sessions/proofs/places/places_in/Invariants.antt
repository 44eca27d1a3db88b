use Rattle.std.proofs.Common.{◌≡◌, ◌==◌, ℕ, drop, position}
use Rattle.std.specs.List.{position_from}
use Rattle.std.specs.Option.{option_or}
use Rattle.nc_sessions.specs.Statements.{place_by}
use Rattle.nc_sessions.proofs.places.places_in.Given as goal

-- the places so far, and then those of the statements that are left
abbrev pub invariant-neighbors : goal.invariant-neighbors
invariant-neighbors l = (addr : ℕ) → option_or (place_by l.places addr) (position_from (λ n. n.addr.0 == addr) l.place (drop l.place l.neighbors)) ≡ position (λ n. n.addr.0 == addr) l.neighbors
