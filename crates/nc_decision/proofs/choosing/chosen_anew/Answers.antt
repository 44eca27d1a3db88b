use Rattle.std.proofs.Common.{◌≡◌, List, [], Option, Some, IfSome, sym, ap, subst, ◌∙◌, arith}
use Rattle.std.specs.Option.{option_map_or}
use Rattle.nc_types.specs.Config.{ProcessView, process_view}
use Rattle.nc_types.specs.WellFormed.{IsWellFormed, IsProcess}
use Rattle.nc_types.proofs.Few.{few_of_process, few_in_network}
use Rattle.nc_types.proofs.Members.{all_in, in_by_get}
use Rattle.nc_tables.specs.declared.bgp.Chosen.{Chosen}
use Rattle.nc_tables.specs.Rounds.{candidates_at, chosen_by}
use Rattle.nc_tables.specs.Sessions.{process_of}
use Rattle.nc_decision.proofs.Processes.{has_config}
use Rattle.nc_decision.proofs.choosing.chosen_anew.Goals as goal

pub chosen_by-requires-clause-few : goal.chosen_by-requires-clause-few
chosen_by-requires-clause-few c =
    let routers = c.args.inputs.now.network.now in
    let p = process_view c.in-Some.process.now in
    let is : process_of routers c.args.router.0 ≡ Some p = sym (c.in-Some.ensures ∙ c.requires.peerings.process) in
    let config = has_config routers c.args.router.0 p is in
    let formed : IsWellFormed config.0 = all_in IsWellFormed routers c.routers-routers.ensures.valid.each config.0 (in_by_get routers c.args.router.0 config.0 config.1) in
    omega (arith, few_of_process config.0 p formed config.2, few_in_network routers c.args.router.0 config.0 config.1, c.element_count-count.ensures.few)

pub chosen_by-requires-clause-formed : goal.chosen_by-requires-clause-formed
chosen_by-requires-clause-formed c =
    let routers = c.args.inputs.now.network.now in
    let p = process_view c.in-Some.process.now in
    let is : process_of routers c.args.router.0 ≡ Some p = sym (c.in-Some.ensures ∙ c.requires.peerings.process) in
    let config = has_config routers c.args.router.0 p is in
    let formed : IsWellFormed config.0 = all_in IsWellFormed routers c.routers-routers.ensures.valid.each config.0 (in_by_get routers c.args.router.0 config.0 config.1) in
    subst (λ (o : Option ProcessView). IfSome o IsProcess) config.2 formed.process

pub chosen_by-requires-clause-process : goal.chosen_by-requires-clause-process
chosen_by-requires-clause-process c = sym (c.in-Some.ensures ∙ c.requires.peerings.process)

pub returns-in_default-clause-chosen : goal.returns-in_default-clause-chosen
returns-in_default-clause-chosen c =
    let i = c.args.inputs.now in
    let chosen : ProcessView → List Chosen = λ p. chosen_by p (candidates_at i.network.now i.base.now i.sessions.now c.args.ribs.now.rows c.args.router.0 p c.args.of.now.prefix) in
    c.none.ensures ∙ ap (λ (o : Option ProcessView). option_map_or chosen o []) (c.in_default.ensures ∙ c.requires.peerings.process)

pub returns-clause-chosen : goal.returns-clause-chosen
returns-clause-chosen c =
    let i = c.args.inputs.now in
    let chosen : ProcessView → List Chosen = λ p. chosen_by p (candidates_at i.network.now i.base.now i.sessions.now c.args.ribs.now.rows c.args.router.0 p c.args.of.now.prefix) in
    c.in_ok-chosen.ensures.chosen ∙ ap (λ (o : Option ProcessView). option_map_or chosen o []) (c.in-Some.ensures ∙ c.requires.peerings.process)
