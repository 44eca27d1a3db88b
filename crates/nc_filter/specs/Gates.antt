-- The filters of a router's interfaces, each with its list.
use Rattle.std.specs.Prelude.{◌≡◌, ℕ, Bool, List, map, Option, option_and_then, option_map, position, slice_get}
use Rattle.nc_types.specs.Config.{ConfigView}
use Rattle.nc_types.specs.declared.config.Interface.{Interface}
use Rattle.nc_tables.specs.Filters.{group_of, is_at, is_of}
use Rattle.nc_filter.specs.declared.gates.Gate.{Gate}

-- the filter at a place, with the place of the first entry of its list
abbrev pub gate_for : ConfigView → ℕ → Option Gate
gate_for c group = option_map (λ g. record { group = group; list = position (is_of g.list) c.filters }) (slice_get c.groups group)

-- the filter of an interface in a direction
abbrev pub gate_by : ConfigView → Bool → Interface → Option Gate
gate_by c inward i = option_and_then (gate_for c) (position (is_at i.name inward) c.groups)

-- the same by the interface's place
abbrev pub gate_of : ConfigView → ℕ → Bool → Option Gate
gate_of c iface inward = option_and_then (gate_for c) (group_of c iface inward)

-- those of all interfaces
abbrev pub AreGates : ConfigView → Bool → List (Option Gate) → Type 0
AreGates c inward gates = gates ≡ map (gate_by c inward) c.interfaces
