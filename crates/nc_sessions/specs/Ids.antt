-- The highest address of interfaces that are up.
use Rattle.std.specs.Prelude.{ℕ, Bool, not, ◌&&◌, nat_lt, List, Option, Some, None, if◌then◌else◌}
use Rattle.std.specs.List.{fold}
use Rattle.std.specs.Option.{option_map}
use Rattle.nc_types.specs.declared.config.Interface.{Interface}
use Rattle.nc_types.specs.Network.{up_of}
use Rattle.nc_tables.specs.Sessions.{is_loopback}

-- the address of an interface that is up, and is a loopback where only these count
abbrev pub counted : Bool → Interface → Option ℕ
counted loopbacks i = if loopbacks && not (is_loopback i) then None else option_map (λ a. a.addr.0) (up_of i)

-- the higher one of two numbers, where there are two
abbrev pub higher : Option ℕ → Option ℕ → Option ℕ
higher None other = other
higher (Some most) None = Some most
higher (Some most) (Some other) = if nat_lt most other then Some other else Some most

-- the highest address of interfaces that count
abbrev pub highest : Bool → List Interface → Option ℕ
highest loopbacks is = fold (λ most i. higher most (counted loopbacks i)) None is
