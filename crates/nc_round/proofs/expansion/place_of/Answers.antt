use Rattle.std.proofs.Common.{◌≡◌, None, Some, ◌∙◌, sym, arith}
use Rattle.nc_round.specs.Likeness.{network_at}
use Rattle.nc_round.proofs.NetworkPlaces.{place_is, place_few}
use Rattle.nc_round.proofs.expansion.place_of.Goals as goal
use Rattle.nc_round.proofs.expansion.place_of.Goals.{In_ok-place}

pub returns-in_err-place : goal.returns-in_err-place
returns-in_err-place c =
    c.from_residual.ensures ∙ place_is c.args.inputs.now.network.now c.args.router.0 c.args.prefix None c.requires.router (λ k at. sym c.in_err-place.was ∙ c.network_of.ensures k at)

is_place : (c : In_ok-place) → Some c.in_ok-place.place ≡ network_at c.args.inputs.now.network.now c.args.router.0 c.args.prefix
is_place c =
    place_is c.args.inputs.now.network.now c.args.router.0 c.args.prefix (Some c.in_ok-place.place) c.requires.router (λ k at. sym c.in_ok-place.was ∙ c.network_of.ensures k at)

pub overflow_cast-result : goal.overflow_cast-result
overflow_cast-result c =
    omega (arith, place_few c.args.inputs.now.network.now c.args.router.0 c.args.prefix c.in_ok-place.place c.routers-routers.ensures.valid.each c.element_count-count.ensures.few (sym (is_place c)))

pub returns : goal.returns
returns c = is_place c
