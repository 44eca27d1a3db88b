-- Each table of a state has one list a router.
use Rattle.std.proofs.Common.{◌≡◌, ℕ, zero, suc, List, length, ap, ◌∙◌}
use Rattle.std.proofs.lemmas.List.{length-map}
use Rattle.std.proofs.lemmas.List.FromFn.{length-map-range_with_len}
use Rattle.nc_types.specs.Config.{ConfigView}
use Rattle.nc_tables.specs.declared.base.BaseRow.{BaseRow}
use Rattle.nc_tables.specs.declared.bgp.SessionRow.{SessionRow}
use Rattle.nc_tables.specs.Base.{base_table}
use Rattle.nc_tables.specs.Rounds.{rows_anew, after}
use Rattle.nc_tables.specs.State.{StateView, state_at, IsState}

after_count : (routers : List ConfigView) (tables : List (List BaseRow)) (sessions : List (List SessionRow)) (rounds : ℕ) → length (after routers tables sessions rounds) ≡ length routers
unfolding after
after_count routers tables sessions zero = length-map routers _
after_count routers tables sessions (suc k) = length-map-range_with_len (rows_anew routers tables sessions (after routers tables sessions k)) 0 (length routers)

pub base_count : (s : StateView) → IsState s → length s.base ≡ length s.routers
unfolding state_at
base_count s is = ap (λ (t : StateView). length t.base) is.tables ∙ length-map s.routers base_table

pub sessions_count : (s : StateView) → IsState s → length s.sessions ≡ length s.routers
unfolding state_at
sessions_count s is = ap (λ (t : StateView). length t.sessions) is.tables ∙ length-map-range_with_len _ 0 (length s.routers)

pub bgp_count : (s : StateView) → IsState s → length s.bgp ≡ length s.routers
bgp_count s is = ap length is.stable.state ∙ after_count s.routers s.base s.sessions is.stable.count

pub main_count : (s : StateView) → IsState s → length s.main ≡ length s.routers
unfolding state_at
main_count s is = ap (λ (t : StateView). length t.main) is.tables ∙ length-map-range_with_len _ 0 (length s.routers)
