-- The candidates of a prefix that a router itself begins, from whether its networks and its aggregates of the prefix hold.
use Rattle.std.specs.Prelude.{ℕ, Bool, ◌&&◌, List, Some, None, if◌then◌else◌}
use Rattle.std.specs.List.{list_any}
use Rattle.nc_types.specs.Cidr.{Cidr}
use Rattle.nc_types.specs.declared.config.NetworkStatement.{NetworkStatement}
use Rattle.nc_types.specs.declared.config.AggregateStatement.{AggregateStatement}
use Rattle.nc_tables.specs.declared.base.BaseRow.{BaseRow}
use Rattle.nc_tables.specs.declared.bgp.Chosen.{Chosen}
use Rattle.nc_tables.specs.declared.bgp.BgpFrom.TheVariants.{Origin, Aggregate}
use Rattle.nc_tables.specs.Base.{same_prefix}
use Rattle.nc_tables.specs.Reach.{rows_of}
use Rattle.nc_tables.specs.Rounds.{begun, made_from}

-- the base table of a router has a row of the prefix
abbrev pub has_base_row : List (List BaseRow) → ℕ → Cidr → Bool
has_base_row tables router prefix = list_any (λ row. same_prefix row.prefix prefix) (rows_of tables router)

-- the networks of a prefix, where these hold
abbrev pub networks_of : Bool → Cidr → List NetworkStatement → List Chosen
networks_of holds prefix networks = made_from (λ place n. if same_prefix n.prefix prefix && holds then Some (begun prefix (Origin place)) else None) 0 networks

-- the same of the aggregates
abbrev pub aggregates_of : Bool → Cidr → List AggregateStatement → List Chosen
aggregates_of holds prefix aggregates = made_from (λ place a. if same_prefix a.prefix prefix && holds then Some (begun prefix (Aggregate place)) else None) 0 aggregates
