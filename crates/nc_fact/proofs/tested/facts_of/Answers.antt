use Rattle.std.proofs.Common.{◌≡◌, List, All, true, sym, subst}
use Rattle.std.proofs.lemmas.List.Elements.{filter_passes}
use Rattle.nc_fact.specs.declared.fact.Fact.{Fact}
use Rattle.nc_fact.specs.Facts.{holds}
use Rattle.nc_fact.specs.Tested.{named_facts, tested_facts}
use Rattle.nc_fact.proofs.tested.facts_of.Goals as goal

pub returns-clause-hold : goal.returns-clause-hold
unfolding tested_facts
returns-clause-hold c =
    let s = c.args.state.now in
    subst (λ (facts : List Fact). All (λ f. holds s f ≡ true) facts) (sym c.in_ok-facts.ensures) (filter_passes (holds s) (named_facts s c.args.test.now))
