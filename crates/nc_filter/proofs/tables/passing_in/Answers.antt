use Rattle.std.proofs.Common.{◌&&◌, sym, ◌∙◌, arith}
use Rattle.nc_types.specs.Config.{config_view}
use Rattle.nc_types.specs.declared.filters.FilterEntry.{FilterEntry}
use Rattle.nc_tables.specs.Filters.{decides, is_of}
use Rattle.nc_filter.proofs.Saying.{entry_said, none_said, nothing_said, gate_of_group, position_within}
use Rattle.nc_filter.proofs.tables.passing_in.Goals as goal

pub returns-in_default-clause-passing : goal.returns-in_default-clause-passing
returns-in_default-clause-passing c =
    let view = config_view c.args.config.now in
    let kept = c.args.kept.now in
    let gate = c.args.gate in
    let group = gate_of_group view gate c.requires.gate in
    nothing_said kept.from.0 kept.to.0 view gate.group group.0 group.1.at (sym c.in_default.is ∙ group.1.list)

pub returns-in-Some-2-clause-passing : goal.returns-in-Some-2-clause-passing
returns-in-Some-2-clause-passing c =
    let view = config_view c.args.config.now in
    let kept = c.args.kept.now in
    let gate = c.args.gate in
    let group = gate_of_group view gate c.requires.gate in
    let decided = c.in_ok-entry.ensures.deciding view group.0.list c.requires.config (sym group.1.list ∙ c.in-Some.is) in
    c.said_by.ensures ∙ entry_said kept.from.0 kept.to.0 view gate.group group.0 group.1.at c.in-Some.list c.in-Some-2.entry (sym c.in-Some.is ∙ group.1.list) (sym c.in-Some-2.is ∙ decided)

pub returns-in-None-clause-passing : goal.returns-in-None-clause-passing
returns-in-None-clause-passing c =
    let view = config_view c.args.config.now in
    let kept = c.args.kept.now in
    let gate = c.args.gate in
    let group = gate_of_group view gate c.requires.gate in
    let decided = c.in_ok-entry.ensures.deciding view group.0.list c.requires.config (sym group.1.list ∙ c.in-Some.is) in
    none_said kept.from.0 kept.to.0 view gate.group group.0 group.1.at c.in-Some.list (sym c.in-Some.is ∙ group.1.list) (sym c.in-None.is ∙ decided)

pub said_by-requires-clause-entry : goal.said_by-requires-clause-entry
said_by-requires-clause-entry c =
    let view = config_view c.args.config.now in
    let kept = c.args.kept.now in
    let gate = c.args.gate in
    let group = gate_of_group view gate c.requires.gate in
    let decided = c.in_ok-entry.ensures.deciding view group.0.list c.requires.config (sym group.1.list ∙ c.in-Some.is) in
    let within = position_within (λ (e : FilterEntry). is_of group.0.list e && decides kept.from.0 kept.to.0 e) view.filters c.in-Some-2.entry (sym decided ∙ c.in-Some-2.is) in
    omega (arith, within, c.requires.few)
