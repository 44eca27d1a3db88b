-- To which routers the hits of a router lead.
use Rattle.std.proofs.Common.{◌≡◌, ℕ, zero, suc, ◌≤◌, false, nat_eq, nat_lt, List, [], ◌∷◌, length, map, Option, Some, None, option_and_then, slice_get, refl, sym, ap, ◌∙◌, arith}
use Rattle.std.specs.List.{list_any, range_with_len}
use Rattle.std.specs.Option.{option_map_or}
use Rattle.nc_types.specs.Config.{ConfigView}
use Rattle.nc_types.specs.Network.{PlaceIn}
use Rattle.nc_tables.specs.declared.base.BaseRow.{BaseRow}
use Rattle.nc_tables.specs.declared.base.BaseFrom.{BaseFrom}
use Rattle.nc_tables.specs.declared.base.BaseFrom.TheVariants.{Connected, Static, Null as Discard}
use Rattle.nc_tables.specs.Longest.{longest}
use Rattle.nc_tables.specs.Reach.{leads, rows_of, is_hit, hits, exit_by, exit_leads, leads_to}
use Rattle.nc_underlay.specs.Levels.{leads_there, is_next}
use Rattle.nc_underlay.proofs.Flagging.{any_filter, some_kept}

module _ (routers : List ConfigView) (tables : List (List BaseRow)) where
  by_from : (router addr : ℕ) (from : BaseFrom) → leads from ≡ false → option_and_then (exit_leads routers router) (exit_by routers router addr from) ≡ None
  by_from router addr (Connected iface) e = absurd cc
  by_from router addr (Static place iface) e = absurd cc
  by_from router addr (Discard place) e = refl

  by_row : (router addr : ℕ) (row : Option BaseRow) → option_map_or (λ (r : BaseRow). leads r.from) row false ≡ false
      → option_and_then (exit_leads routers router) (option_and_then (λ (r : BaseRow). exit_by routers router addr r.from) row) ≡ None
  by_row router addr None e = refl
  by_row router addr (Some row) e = by_from router addr row.from e

  -- a row that isn't a hit leads nowhere
  pub leads_nowhere : (router addr place : ℕ) → is_hit tables router place ≡ false → leads_to routers tables router addr place ≡ None
  leads_nowhere router addr place e = by_row router addr (slice_get (rows_of tables router) place) e

  not_hit : (router addr other place : ℕ) → is_hit tables router place ≡ false → leads_there routers tables router addr other place ≡ false
  not_hit router addr other place e = ap (λ (q : Option PlaceIn). option_map_or (λ (next : PlaceIn). nat_eq next.router other) q false) (leads_nowhere router addr place e)

  pub next_by_rows : (router addr other from n : ℕ) → longest (map (λ row. row.prefix) (rows_of tables router)) addr ≡ range_with_len from n
      → is_next routers tables router addr other ≡ list_any (leads_there routers tables router addr other) (range_with_len from n)
  unfolding is_next
  next_by_rows router addr other from n rows =
      any_filter (is_hit tables router) (leads_there routers tables router addr other) (not_hit router addr other) (longest (map (λ (row : BaseRow). row.prefix) (rows_of tables router)) addr)
      ∙ ap (list_any (leads_there routers tables router addr other)) rows

  -- ---- how the code finds where a row leads

  -- where a row leads, as the code has it
  pub leads_there_is : (router addr other place : ℕ) (q : Option PlaceIn) → q ≡ leads_to routers tables router addr place → leads_there routers tables router addr other place ≡ option_map_or (λ n. nat_eq n.router other) q false
  leads_there_is router addr other place q e = ap (λ (p : Option PlaceIn). option_map_or (λ (n : PlaceIn). nat_eq n.router other) p false) (sym e)

-- ---- whether there is a hit

-- by the rows of the longest prefix that covers an address
pub some_hit : (tables : List (List BaseRow)) (router addr from n : ℕ) → longest (map (λ row. row.prefix) (rows_of tables router)) addr ≡ range_with_len from n
    → nat_lt 0 (length (hits tables router addr)) ≡ list_any (is_hit tables router) (range_with_len from n)
some_hit tables router addr from n rows =
    some_kept (is_hit tables router) (longest (map (λ (row : BaseRow). row.prefix) (rows_of tables router)) addr) ∙ ap (list_any (is_hit tables router)) rows

-- a router that isn't there has none
pub no_hit : (tables : List (List BaseRow)) (router addr : ℕ) → length tables ≤ router → nat_lt 0 (length (hits tables router addr)) ≡ false
unfolding longest
no_hit [] router addr out = refl
no_hit (rows ∷ tables) zero addr out = absurd (omega arith)
no_hit (rows ∷ tables) (suc router) addr out = no_hit tables router addr (omega arith)
