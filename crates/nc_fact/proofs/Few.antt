-- The rows of a base table can be numbered, and few routes of a prefix are chosen.
use Rattle.std.proofs.Common.{◌≡◌, ℕ, ◌^◌, ◌<◌, ◌≤◌, Bool, true, false, cond, List, [], ◌∷◌, length, get_or, All, Some, slice_get, slice_index_or, ap, arith, inl, inr}
use Rattle.std.specs.List.{find}
use Rattle.std.specs.Option.{option_map_or}
use Rattle.std.proofs.lemmas.Bool.{cases_lt}
use Rattle.std.proofs.lemmas.List.{get_or_past}
use Rattle.std.proofs.lemmas.List.Elements.{All-get_or, All-head, All-tail}
use Rattle.nc_types.specs.declared.TheConstants.{MULTIPATH_LIMIT}
use Rattle.nc_types.specs.Cidr.{Cidr}
use Rattle.nc_types.specs.Config.{ConfigView}
use Rattle.nc_types.specs.WellFormed.{IsWellFormed}
use Rattle.nc_types.specs.Network.{element_count}
use Rattle.nc_types.proofs.Members.{all_in, in_by_get}
use Rattle.nc_tables.specs.Base.{same_prefix}
use Rattle.nc_tables.specs.Rounds.{BgpRowView, AreBgpRows, chosen_in, chosen_at}
use Rattle.nc_tables.specs.State.{StateView, state_at, IsState}
use Rattle.nc_tables.proofs.RowCount.{few_base_rows}
use Rattle.nc_fact.specs.Facts.{base_rows}

-- a router of some that are well formed
pub formed_at : (routers : List ConfigView) → All IsWellFormed routers → (router : ℕ) (c : ConfigView) → slice_get routers router ≡ Some c → IsWellFormed c
formed_at routers each router c at = all_in IsWellFormed routers each c (in_by_get routers router c at)

-- no more routes of a prefix are chosen than are used at once
abbrev AreFew : BgpRowView → Type 0
AreFew row = length row.chosen ≤ MULTIPATH_LIMIT

few_in : (p : Cidr) (rows : List BgpRowView) → All AreFew rows → length (chosen_in rows p) ≤ MULTIPATH_LIMIT
few_in p [] few = omega arith
few_in p (row ∷ rows) few = by_first (same_prefix row.prefix p) (few_in p rows (All-tail AreFew row rows few))
  where
    by_first : (b : Bool) → length (chosen_in rows p) ≤ MULTIPATH_LIMIT
        → length (option_map_or (λ (r : BgpRowView). r.chosen) (cond b (Some row) (find (λ (r : BgpRowView). same_prefix r.prefix p) rows)) []) ≤ MULTIPATH_LIMIT
    by_first true rest = All-head AreFew row rows few
    by_first false rest = rest

pub few_chosen : (s : StateView) → IsState s → (router : ℕ) (p : Cidr) → length (chosen_at s.bgp router p) ≤ MULTIPATH_LIMIT
few_chosen s is router p = elim (cases_lt router (length s.bgp)) [
  | inl lt ↦ few_in p (slice_index_or s.bgp router []) (All-get_or AreBgpRows s.bgp router [] lt is.rows).few
  | inr past ↦ let none : length (chosen_at s.bgp router p) ≡ 0 = ap (λ (rows : List BgpRowView). length (chosen_in rows p)) (get_or_past s.bgp router [] past) in omega (arith, none)
]

module _ (s : StateView) (is : IsState s) (count : element_count s.routers < 2 ^ 32) where
  pub few_rows : (router : ℕ) → length (base_rows s router) < 2 ^ 32
  unfolding state_at
  few_rows router =
      let same = ap (λ (t : StateView). length (get_or t.base router [])) is.tables in
      omega (arith, same, few_base_rows s.routers is.valid count router)
