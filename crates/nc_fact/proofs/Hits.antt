-- The hits of an address, when the rows of the longest prefix that covers it stand side by side.
use Rattle.std.proofs.Common.{◌≡◌, ℕ, ◌-◌, ◌<◌, ◌≤◌, ◌⊎◌, Bool, true, false, ◌&&◌, nat_eq, List, map, ap, ◌∙◌}
use Rattle.std.specs.List.{list_any, range_with_len}
use Rattle.nc_tables.specs.declared.base.BaseRow.{BaseRow}
use Rattle.nc_tables.specs.Longest.{longest}
use Rattle.nc_tables.specs.Reach.{is_hit, hits}
use Rattle.nc_tables.specs.State.{StateView}
use Rattle.nc_fact.specs.Facts.{base_rows}
use Rattle.nc_fact.proofs.Places.{among, in_range, not_in_range, and_true, and_false}

module _ (s : StateView) (router addr from to : ℕ) (rows : longest (map (λ row. row.prefix) (base_rows s router)) addr ≡ range_with_len from (to - from)) where
  abbrev passes : ℕ → Bool
  passes = is_hit s.base router

  abbrev places : List ℕ
  places = longest (map (λ (row : BaseRow). row.prefix) (base_rows s router)) addr

  the_hit : (row : ℕ) (b : Bool) → list_any (nat_eq row) (range_with_len from (to - from)) ≡ b → list_any (nat_eq row) (hits s.base router addr) ≡ (passes row && b)
  the_hit row b there = among passes row places ∙ ap (λ (ks : List ℕ). passes row && list_any (nat_eq row) ks) rows ∙ ap (λ (x : Bool). passes row && x) there

  pub hit_there : (row : ℕ) → from ≤ row → row < to → list_any (nat_eq row) (hits s.base router addr) ≡ is_hit s.base router row
  hit_there row low high = the_hit row true (in_range from to row low high) ∙ and_true (passes row)

  pub not_there : (row : ℕ) → (row < from) ⊎ (to ≤ row) → list_any (nat_eq row) (hits s.base router addr) ≡ false
  not_there row out = the_hit row false (not_in_range from to row out) ∙ and_false (passes row)
