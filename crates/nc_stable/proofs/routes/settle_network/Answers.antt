use Rattle.std.proofs.Common.{◌≡◌, ◌<◌, ◌^◌, Result, Err, List, All, Some, length, sym, ap, subst, ◌∙◌}
use Rattle.std.specs.Result.{IsErrOf}
use Rattle.std.proofs.lemmas.List.FromFn.{length-map-range_with_len}
use Rattle.std.proofs.lemmas.Result.{err_from_is_err_and}
use Rattle.nc_stable.specs.declared.fault.SettleFault.{SettleFault}
use Rattle.nc_stable.specs.declared.fault.SettleFault.TheVariants.{Unstable}
use Rattle.nc_tables.specs.declared.base.BaseRow.{BaseRow}
use Rattle.nc_tables.specs.declared.bgp.MainRow.{MainRow}
use Rattle.nc_tables.specs.Main.{main_tables}
use Rattle.nc_tables.specs.Rounds.{after}
use Rattle.nc_tables.specs.State.{StateView}
use Rattle.nc_round.proofs.Settled.{after_count}
use Rattle.nc_stable.proofs.Bounds.{main_few}
use Rattle.nc_stable.proofs.Found.{state_is, state_found, nothing_found}
use Rattle.nc_stable.proofs.routes.settle_network.Goals as goal

pub new-requires-2-clause-sessions : goal.new-requires-2-clause-sessions
new-requires-2-clause-sessions c = ap length c.in_ok-sessions.ensures ∙ length-map-range_with_len _ 0 (length c.args.network)

fault_is : {A : Type 0} (r : Result A SettleFault) (x y : SettleFault) → r ≡ Err x → r ≡ Err y → x ≡ y
fault_is r x y e f = cc

-- the fault that is handed on is the one that came
handed_on : {A B : Type 0} (r : Result A SettleFault) (came kept fault : SettleFault) → r ≡ Err kept → kept ≡ came → IsErrOf r fault → IsErrOf {T = B} (Err came) fault
handed_on r came kept fault e same is = ap Err (sym same ∙ fault_is r kept fault e is)

pub returns-in_err-bgp-clause-unstable : goal.returns-in_err-bgp-clause-unstable
returns-in_err-bgp-clause-unstable c is =
    let kept = err_from_is_err_and c.from_residual-in_err-bgp.result c.from_residual-in_err-bgp.ensures.1 in
    nothing_found c.args.network c.in_ok-base.base c.in_ok-sessions.sessions c.in_ok-base.ensures c.in_ok-sessions.ensures c.args.rounds
    (c.in_err-bgp.ensures.unstable (handed_on c.from_residual-in_err-bgp.result c.in_err-bgp.field-0.0 kept.0 Unstable kept.1 kept.2 is))

pub main_tables-requires-clause-bgp : goal.main_tables-requires-clause-bgp
main_tables-requires-clause-bgp c =
    let stable = c.in_ok-bgp.ensures.stable in
    ap length stable.state ∙ after_count c.args.network c.in_ok-base.base c.in_ok-sessions.sessions stable.count

pub main_tables-requires-clause-few : goal.main_tables-requires-clause-few
main_tables-requires-clause-few c =
    let stable = c.in_ok-bgp.ensures.stable in
    let base = c.in_ok-base.ensures in
    subst (λ (b : List (List BaseRow)). All (λ (rows : List MainRow). length rows < 2 ^ 32) (main_tables c.args.network b c.in_ok-bgp.bgp)) (sym base)
    (main_few c.args.network c.routers-routers.ensures.valid c.element_count-elements.ensures.few c.in_ok-sessions.sessions c.in_ok-bgp.bgp stable.count
    (stable.state ∙ ap (λ (b : List (List BaseRow)). after c.args.network b c.in_ok-sessions.sessions stable.count) base) c.count-count.ensures.valid)

pub new-state-requires : goal.new-state-requires
new-state-requires c = record {
  valid = c.routers-routers.ensures.valid;
  few = c.routers-routers.ensures.few;
  tables = state_is c.args.network c.in_ok-base.base c.in_ok-sessions.sessions c.in_ok-base.ensures c.in_ok-sessions.ensures c.in_ok-bgp.bgp c.in_ok-main.main c.in_ok-main.ensures;
  rows = c.count-count.ensures.valid;
  rounds = c.args.rounds;
  stable = c.in_ok-bgp.ensures.stable;
}

pub returns-clause-settled : goal.returns-clause-settled
returns-clause-settled c =
    state_found c.args.network c.in_ok-base.base c.in_ok-sessions.sessions c.in_ok-base.ensures c.in_ok-sessions.ensures c.args.rounds c.in_ok-bgp.bgp c.in_ok-bgp.ensures.stable
    ∙ ap (λ (s : StateView). Some s) (sym (c.new-state.ensures ∙ state_is c.args.network c.in_ok-base.base c.in_ok-sessions.sessions c.in_ok-base.ensures c.in_ok-sessions.ensures c.in_ok-bgp.bgp c.in_ok-main.main c.in_ok-main.ensures))
