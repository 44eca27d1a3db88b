use Rattle.std.proofs.Common.{◌≡◌, ◌-◌, ℕ, [], drop, slice_index_or, ap, ◌∙◌, arith}
use Rattle.nc_main_rib.specs.Sides.{active_from, place_by}
use Rattle.nc_main_rib.proofs.Activity.{empty_at, one_before}
use Rattle.nc_main_rib.proofs.discards.active_places.Goals as goal

pub aggregates-init : goal.aggregates-init
aggregates-init c = record { within = omega arith; places = λ p. empty_at c.new-places.result c.new-places.ensures.empty (slice_index_or c.args.table.now c.args.router.0 []) p c.args.aggregates.now }

pub aggregates-preserved : goal.aggregates-preserved
aggregates-preserved c = record {
  within = omega arith;
  places = λ p.
      c.in_ok-add_active.ensures p
      ∙ one_before (slice_index_or c.args.table.now c.args.router.0 []) p c.args.aggregates.now (c.aggregates.place - 1) c.aggregates.place c.index-aggregates-place.result (omega arith) c.index-aggregates-place.is (omega arith) (place_by c.aggregates.places p) (c.aggregates.invariant.places p);
}

pub returns : goal.returns
returns c p =
    let none : c.aggregates.place ≡ 0 = omega arith in
    c.aggregates.invariant.places p ∙ ap (λ (n : ℕ). active_from (slice_index_or c.args.table.now c.args.router.0 []) p n (drop n c.args.aggregates.now)) none
