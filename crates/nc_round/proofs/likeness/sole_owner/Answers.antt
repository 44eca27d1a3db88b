use Rattle.std.proofs.Common.{sym, subst, ◌∙◌}
use Rattle.nc_round.specs.Likeness.{IsOwnerIn}
use Rattle.nc_round.specs.Waking.{begun_from}
use Rattle.nc_round.proofs.BegunAlone.{owner_alone, owner_within}
use Rattle.nc_round.proofs.likeness.sole_owner.Goals as goal

pub begins-requires-clause-router : goal.begins-requires-clause-router
begins-requires-clause-router c =
    let routers = c.args.inputs.now.network.now in
    owner_within routers c.args.inputs.now.base.now c.args.prefix c.in-One.router (subst (IsOwnerIn (begun_from 0 routers) c.args.prefix) c.in-One.is c.requires.owner) c.requires.known

pub returns-then-begins-clause-alone : goal.returns-then-begins-clause-alone
returns-then-begins-clause-alone c =
    let routers = c.args.inputs.now.network.now in
    owner_alone routers c.args.inputs.now.base.now c.args.prefix c.in-One.router (subst (IsOwnerIn (begun_from 0 routers) c.args.prefix) c.in-One.is c.requires.owner)
    (sym c.begins.ensures ∙ c.if-begins.true)
