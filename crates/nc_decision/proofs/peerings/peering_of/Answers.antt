use Rattle.std.proofs.Common.{refl, sym, subst}
use Rattle.nc_decision.specs.Peerings.{IsPeeringAt}
use Rattle.nc_decision.proofs.peerings.peering_of.Goals as goal

pub returns-in_err-adjacency : goal.returns-in_err-adjacency
returns-in_err-adjacency c =
    let i = c.args.inputs.now in
    subst (IsPeeringAt i.network.now i.base.now i.sessions.now c.args.router.0 c.args.place) (sym c.from_residual.ensures)
    (record { peering = tt; own = tt; none = c.in_err-adjacency.ensures.link })

pub returns : goal.returns
returns c = let i = c.args.inputs.now in record {
  peering = record { link = c.in_ok-adjacency.ensures.link; between = c.in_ok-adjacency.ensures.between; known = c.in_ok-adjacency.ensures.sender; maps = c.of-maps.ensures; peer = refl; highest = c.highest_over.ensures; bare = c.bare_of.ensures i.base.now c.args.router.0 c.in_ok-adjacency.ensures.sender };
  own = refl;
  none = tt;
}
