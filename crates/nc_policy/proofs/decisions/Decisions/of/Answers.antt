use Rattle.std.proofs.Common.{◌≡◌, ◌<◌, ◌+◌, ℕ, List, Option, Some, None, length, get_or, refl, sym, ap, subst, ◌∙◌, arith}
use Rattle.std.specs.Prelude.{slice_get}
use Rattle.std.proofs.lemmas.List.{length_push}
use Rattle.std.proofs.lemmas.Option.{get_or_from_slice_get, slice_get_read, slice_get_within}
use Rattle.nc_policy.specs.Decisions.{decided_by}
use Rattle.nc_policy.specs.declared.kept.Decided.{Decided}
use Rattle.nc_policy.proofs.Tabling.{one_place_more, ArePlaces}
use Rattle.nc_policy.proofs.decisions.Decisions.of.Goals as goal

pub prefixes-preserved : goal.prefixes-preserved
prefixes-preserved c =
    let best = c.args.best.now in
    let n = c.prefixes.found-index in
    let b = c.found-item.result in
    let old = c.prefixes.each.items in
    let each = c.place_of.new.each.items in
    let places = c.prefixes.places.items in
    let place = c.in_ok-place.place in
    let at : slice_get best n ≡ Some b = slice_get_read best (length best) n b refl c.prefixes-test.true c.found-item.is in
    let own : slice_get each place ≡ Some (decided_by b) = c.in_ok-place.ensures.own ∙ ap (λ (d : Option Decided). Some d) c.decided_of.ensures in
    record {
      count = omega (arith, ap (length {A = ℕ}) c.in_ok-push.ensures.items, length_push places place, c.prefixes.invariant.count);
      few = omega (arith, c.in_ok-place.ensures.more, c.prefixes.invariant.few);
      own = subst (λ (ps : List ℕ). ArePlaces best each ps (n + 1)) (sym c.in_ok-push.ensures.items) (one_place_more best old each places n place b c.prefixes.invariant.count at own c.in_ok-place.ensures.kept c.prefixes.invariant.own);
    }

pub returns : goal.returns
returns c = λ j b at.
    let each = c.prefixes.each.items in
    let place = get_or c.prefixes.places.items j 0 in
    let within : j < length c.args.best.now = slice_get_within c.args.best.now j b at in
    ap (λ (ds : List (Option Decided)). get_or ds place None) c.shrink_to_fit.ensures.items
    ∙ get_or_from_slice_get each place (decided_by b) None (c.prefixes.invariant.own j b (omega arith) at)
