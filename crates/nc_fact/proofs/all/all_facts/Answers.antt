use Rattle.std.proofs.Common.{◌≡◌, List, All, true, sym, subst}
use Rattle.nc_types.proofs.Members.{all_by_in}
use Rattle.nc_fact.specs.declared.fact.Fact.{Fact}
use Rattle.nc_fact.specs.Facts.{holds}
use Rattle.nc_fact.specs.Roots.{roots}
use Rattle.nc_fact.proofs.Roots.{root_held}
use Rattle.nc_fact.proofs.all.all_facts.Goals as goal

pub returns-clause-hold : goal.returns-clause-hold
returns-clause-hold c =
    let s = c.args.state.now in
    subst (λ (facts : List Fact). All (λ f. holds s f ≡ true) facts) (sym c.in_ok-facts.ensures) (all_by_in (λ f. holds s f ≡ true) (roots s) (λ f i. (root_held s f i).1))
