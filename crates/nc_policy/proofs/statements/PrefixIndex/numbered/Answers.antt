use Rattle.std.proofs.Common.{ℕ, ◌+◌, List, Bool, cond, drop, Option, Some, None, sym, ap, ◌∙◌}
use Rattle.std.specs.List.{position_from}
use Rattle.std.specs.Option.{option_or}
use Rattle.std.proofs.lemmas.Iterator.Adapters.{position_from-zero}
use Rattle.nc_types.specs.Cidr.{Cidr, same_prefix}
use Rattle.nc_policy.specs.Placing.{prefix_place_at}
use Rattle.nc_policy.specs.declared.prefix_places.PlacedPrefix.{PlacedPrefix}
use Rattle.nc_policy.proofs.Numbering.{place_pushed, same_either}
use Rattle.nc_policy.proofs.Spots.{one_more_from, all_from}
use Rattle.nc_policy.proofs.statements.PrefixIndex.numbered.Goals as goal

pub prefixes-init : goal.prefixes-init
prefixes-init c = λ p.
    let ps = c.args.prefixes.now in
    ap (λ (l : List PlacedPrefix). option_or (prefix_place_at p l) (position_from (λ q. same_prefix q p) 0 ps)) c.in_ok-placed.ensures.items ∙ sym (position_from-zero (λ q. same_prefix q p) ps)

pub prefixes-preserved : goal.prefixes-preserved
prefixes-preserved c = λ p.
    let ps = c.args.prefixes.now in
    let place = c.prefixes.place in
    let prefix = c.index-prefixes-place.result in
    let old = c.prefixes.placed.items in
    let new : PlacedPrefix = record { prefix = prefix; place = place } in
    let later = position_from (λ q. same_prefix q p) (place + 1) (drop (place + 1) ps) in
    ap (λ (l : List PlacedPrefix). option_or (prefix_place_at p l) later) c.in_ok-push.ensures.items
    ∙ ap (λ (o : Option ℕ). option_or o later) (place_pushed old new p ∙ ap (λ (b : Bool). option_or (prefix_place_at p old) (cond b (Some place) None)) (same_either p prefix))
    ∙ one_more_from (λ (q : Cidr). same_prefix q p) ps place prefix (prefix_place_at p old) c.index-prefixes-place.is c.prefixes-test.true
    ∙ c.prefixes.invariant p

pub returns : goal.returns
returns c = record {
  first = λ p.
      let ps = c.args.prefixes.now in
      c.in_ok-first.ensures p
      ∙ sym (all_from (λ (q : Cidr). same_prefix q p) ps c.prefixes.place (prefix_place_at p c.prefixes.placed.items) c.prefixes-test.false)
      ∙ c.prefixes.invariant p;
}
