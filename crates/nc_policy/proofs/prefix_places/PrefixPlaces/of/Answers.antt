use Rattle.std.proofs.Common.{rules, ◌≡◌, sym, subst, ap, ◌∙◌, List}
use Rattle.std.specs.List.{dedup}
use Rattle.std.specs.List.Sorted.{IsSortedByKey}
use Rattle.std.proofs.lemmas.Fn.{dedup_same}
use Rattle.std.proofs.lemmas.List.Sorted.{answers_always}
use Rattle.nc_policy.specs.declared.prefix_places.PlacedPrefix.{PlacedPrefix}
use Rattle.nc_tables.specs.Base.{prefix_cmp}
use Rattle.nc_policy.specs.Placing.{prefix_place_at}
use Rattle.nc_policy.proofs.KeyOrder.{same_places, same_kept, still_sorted, is_same}
use Rattle.nc_policy.proofs.SpotOrder.{prefixes}
use Rattle.nc_policy.proofs.prefix_places.PrefixPlaces.of.Goals as goal

pub invariant_of-result : goal.invariant_of-result
invariant_of-result c =
    let sorted = c.sort_by_key.new.self.items in
    let ordered : IsSortedByKey (λ (x : PlacedPrefix). x.prefix) prefix_cmp sorted = c.in_ok-sort_by_key.ensures.sorted (λ (x : PlacedPrefix). x.prefix) (answers_always _ _ _ (λ f a r f' k. search rules)) in
    let kept : c.dedup_by_key.new.self.items ≡ dedup (is_same prefixes) sorted = dedup_same _ (is_same prefixes) _ (λ x y b f' x' y' k. search rules) sorted c.dedup_by_key.new.self.items c.dedup_by_key.ensures.filtered in
    subst (λ (l : List PlacedPrefix). IsSortedByKey (λ (x : PlacedPrefix). x.prefix) prefix_cmp l) (sym (c.shrink_to_fit.ensures.items ∙ kept)) (still_sorted prefixes sorted ordered)

pub returns : goal.returns
returns c = λ s.
    let sorted = c.sort_by_key.new.self.items in
    let kept : c.dedup_by_key.new.self.items ≡ dedup (is_same prefixes) sorted = dedup_same _ (is_same prefixes) _ (λ x y b f' x' y' k. search rules) sorted c.dedup_by_key.new.self.items c.dedup_by_key.ensures.filtered in
    ap (λ (l : List PlacedPrefix). prefix_place_at s l) (c.shrink_to_fit.ensures.items ∙ kept) ∙ same_kept prefixes s sorted
    ∙ same_places prefixes c.args.items.items sorted (c.in_ok-sort_by_key.ensures.stable (λ (x : PlacedPrefix). x.prefix) (answers_always _ _ _ (λ f a r f' k. search rules))) s
