use Rattle.std.proofs.Common.{Bool, [], ◌∷◌, cond, ap, ◌∙◌}
use Rattle.nc_types.specs.declared.TheConstants.{HOP_LIMIT}
use Rattle.nc_fact.specs.declared.fact.Fact.TheVariants.{AllTrace}
use Rattle.nc_fact.specs.Facts.{holds}
use Rattle.nc_fact.proofs.packets.asked_every.Goals as goal

pub returns : goal.returns
unfolding holds
returns c s is included =
    c.in_ok-facts.ensures ∙ ap (λ (b : Bool). cond b (AllTrace c.args.router c.args.addr HOP_LIMIT ∷ []) []) (c.all_arrive-arrives.ensures s c.args.addr.0 is included)
