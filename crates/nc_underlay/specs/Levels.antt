-- Routers by levels: those to which so many hops lead.
use Rattle.std.specs.Prelude.{ℕ, Bool, false, ◌&&◌, ◌==◌, List, slice_index_or}
use Rattle.std.specs.List.{list_any, range_with_len}
use Rattle.std.specs.Option.{option_map_or}
use Rattle.nc_types.specs.Config.{ConfigView}
use Rattle.nc_tables.specs.declared.base.BaseRow.{BaseRow}
use Rattle.nc_tables.specs.Reach.{leads_to, hits}

-- whether a router is flagged
abbrev pub flag : List Bool → ℕ → Bool
flag flags router = slice_index_or flags router false

-- whether one of so many routers is flagged and passes a test
unfoldable pub any_flagged : List Bool → (ℕ → Bool) → ℕ → Bool
any_flagged flags test count = list_any (λ router. flag flags router && test router) (range_with_len 0 count)

module _ (routers : List ConfigView) (tables : List (List BaseRow)) where
  -- whether the row at a place of a router leads to another router for an address
  abbrev pub leads_there : ℕ → ℕ → ℕ → ℕ → Bool
  leads_there router addr other place = option_map_or (λ next. next.router == other) (leads_to routers tables router addr place) false

  -- whether a hit of a router leads to another router
  unfoldable pub is_next : ℕ → ℕ → ℕ → Bool
  is_next router addr other = list_any (leads_there router addr other) (hits tables router addr)
