use Rattle.std.proofs.Common.{Bool, [], ◌∷◌, cond, ap, ◌∙◌}
use Rattle.nc_types.specs.declared.TheConstants.{HOP_LIMIT}
use Rattle.nc_fact.specs.declared.fact.Fact.TheVariants.{Flow}
use Rattle.nc_fact.specs.Facts.{holds}
use Rattle.nc_fact.proofs.packets.asked_flow.Goals as goal

pub returns : goal.returns
unfolding holds
returns c s is included =
    c.in_ok-facts.ensures ∙ ap (λ (b : Bool). cond b (Flow c.args.router c.args.from c.args.to HOP_LIMIT ∷ []) []) (c.arrives-arrives.ensures s c.args.from.0 c.args.to.0 is included)
