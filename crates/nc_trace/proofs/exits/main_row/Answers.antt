use Rattle.std.proofs.Common.{List, [], slice_get, ap, sym, ◌∙◌, arith}
use Rattle.std.proofs.lemmas.List.{get_or_past}
use Rattle.std.proofs.lemmas.Option.{slice_get_past}
use Rattle.nc_tables.specs.declared.bgp.MainRow.{MainRow}
use Rattle.nc_tables.proofs.State.{main_count}
use Rattle.nc_trace.proofs.Beyond.{past_all}
use Rattle.nc_trace.proofs.exits.main_row.Goals as goal

pub returns-then-router-routers-clause-row : goal.returns-then-router-routers-clause-row
returns-then-router-routers-clause-row c =
    let s = c.args.state.now in
    let beyond = past_all c.routers.result.now c.network.result.now s.routers c.args.router.0 c.routers.ensures.routers c.network.ensures.network c.if-router-routers.true in
    sym (ap (λ (rows : List MainRow). slice_get rows c.args.place) (get_or_past s.main c.args.router.0 [] (omega (arith, beyond, main_count s c.network.ensures.state))) ∙ slice_get_past [] c.args.place (omega arith))
