use Rattle.std.proofs.Common.{◌≡◌, [], Option, length, eqb-true, sym, ap, ◌∙◌}
use Rattle.std.specs.Prelude.{position}
use Rattle.std.specs.Option.{option_map_or}
use Rattle.std.proofs.lemmas.List.{nil_from_length}
use Rattle.nc_types.specs.Config.{ProcessView, process_view}
use Rattle.nc_tables.specs.Base.{same_prefix}
use Rattle.nc_message.proofs.Lists.{found_within}
use Rattle.nc_decision.proofs.Processes.{has_config}
use Rattle.nc_decision.proofs.candidates.aggregate_of.Goals as goal

pub returns-clause-place : goal.returns-clause-place
returns-clause-place c =
    let routers = c.args.inputs.now.network.now in
    let config = has_config routers c.args.router.0 (process_view c.args.process.now) c.requires.process in
    c.aggregate_of.ensures config.0 config.1
    ∙ ap (λ (o : Option ProcessView). position (λ s. same_prefix s.prefix c.args.prefix) (option_map_or (λ (p : ProcessView). p.aggregates) o [])) config.2

pub returns-clause-within : goal.returns-clause-within
returns-clause-within c =
    found_within (λ s. same_prefix s.prefix c.args.prefix) c.args.process.now.aggregates.items c.aggregate_of.result (returns-clause-place c)

pub returns-then-is_empty-clause-place : goal.returns-then-is_empty-clause-place
returns-then-is_empty-clause-place c =
    let i = c.args.inputs.now in
    let rows = c.aggregate_statements.result.now in
    let read = c.aggregate_statements.ensures i.network.now i.base.now i.sessions.now c.args.router.0 c.requires.peerings ∙ ap (λ (o : Option ProcessView). option_map_or (λ (p : ProcessView). p.aggregates) o []) c.requires.process in
    let none : rows ≡ [] = nil_from_length rows (eqb-true (length rows) 0 (sym c.is_empty.ensures ∙ c.if-is_empty.true)) in
    sym (ap (position (λ a. same_prefix a.prefix c.args.prefix)) (sym read ∙ none))
