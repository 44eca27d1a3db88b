use Rattle.std.proofs.Common.{[], Option, sym, ap, ◌∙◌}
use Rattle.std.specs.Prelude.{position}
use Rattle.std.specs.Option.{option_map_or}
use Rattle.nc_types.specs.Config.{ProcessView, process_view}
use Rattle.nc_tables.specs.Base.{same_prefix}
use Rattle.nc_message.proofs.Lists.{found_within}
use Rattle.nc_decision.specs.PrefixBits.{has_alike}
use Rattle.nc_decision.proofs.PrefixBits.{no_network}
use Rattle.nc_decision.proofs.Processes.{has_config}
use Rattle.nc_decision.proofs.candidates.network_of.Goals as goal

pub returns-clause-place : goal.returns-clause-place
returns-clause-place c =
    let routers = c.args.inputs.now.network.now in
    let config = has_config routers c.args.router.0 (process_view c.args.process.now) c.requires.process in
    c.network_of.ensures config.0 config.1
    ∙ ap (λ (o : Option ProcessView). position (λ s. same_prefix s.prefix c.args.prefix) (option_map_or (λ (p : ProcessView). p.networks) o [])) config.2

pub returns-clause-within : goal.returns-clause-within
returns-clause-within c =
    found_within (λ s. same_prefix s.prefix c.args.prefix) c.args.process.now.networks.items c.network_of.result (returns-clause-place c)

pub returns-then-not-may_have_network-clause-place : goal.returns-then-not-may_have_network-clause-place
returns-then-not-may_have_network-clause-place c =
    let own = c.requires.peerings in
    let none = ap (λ (o : Option ProcessView). has_alike c.args.prefix (option_map_or (λ q. q.networks) o [])) (sym (own.process ∙ c.requires.process)) ∙ sym (own.alone.networks c.args.prefix) ∙ sym c.may_have_network.ensures ∙ c.if-not-may_have_network.true in
    sym (no_network c.args.prefix c.args.process.now.networks.items none)
