use Rattle.std.proofs.Common.{◌≡◌, ◌&&◌, true, false, sym, ap, subst, ◌∙◌}
use Rattle.std.specs.Option.{option_map}
use Rattle.nc_types.specs.Config.{config_view}
use Rattle.nc_tables.specs.Policy.{is_matching}
use Rattle.nc_policy.specs.Views.{asked, candidate_view, is_lower}
use Rattle.nc_policy.specs.Walks.{IsOfMap}
use Rattle.nc_policy.proofs.Beating.{clause_at, named_with, own_beaten, still_beaten, there_is}
use Rattle.nc_policy.proofs.Keeping.{unmatched}
use Rattle.nc_policy.proofs.by_community.better_within.Goals as goal

pub returns-then-is_missed-clause-beaten : goal.returns-then-is_missed-clause-beaten
returns-then-is_missed-clause-beaten c = λ k at matches.
    let config = config_view c.args.config.now in
    let out = unmatched config c.args.prefix c.args.held.now k (c.is_missed.ensures config k c.requires.indexed at c.if-is_missed.true) in
    absurd (let wrong : true ≡ false = sym matches ∙ out in cc)

pub returns-clause-named : goal.returns-clause-named
returns-clause-named c = λ name own best.
    let config = config_view c.args.config.now in
    let r = asked c.args.prefix c.args.held.now in
    let found = clause_at config c.args.place name own in
    subst (IsOfMap name) (sym (c.better.ensures.better found.0 found.1.0))
    (named_with name c.args.place found.0 (is_lower found.0 (option_map candidate_view c.args.before) && is_matching config r found.0) (option_map candidate_view c.args.before) found.1.1 best)

pub returns-clause-beats : goal.returns-clause-beats
returns-clause-beats c = λ j beaten x there matches.
    let config = config_view c.args.config.now in
    let r = asked c.args.prefix c.args.held.now in
    let found = there_is c.args.config.now c.args.place c.requires.place in
    ap (is_lower x) (c.better.ensures.better found.0 found.1)
    ∙ still_beaten x found.0 c.args.place (is_matching config r found.0) (option_map candidate_view c.args.before) (beaten x there matches)

pub returns-clause-beaten : goal.returns-clause-beaten
returns-clause-beaten c = λ k at matches.
    let config = config_view c.args.config.now in
    let r = asked c.args.prefix c.args.held.now in
    ap (is_lower k) (c.better.ensures.better k at) ∙ own_beaten k c.args.place (is_matching config r k) (option_map candidate_view c.args.before) matches
