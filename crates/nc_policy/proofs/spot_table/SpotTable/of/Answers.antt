use Rattle.std.proofs.Common.{rules, ◌≡◌, sym, subst, ap, ◌∙◌, List}
use Rattle.std.specs.List.{dedup}
use Rattle.std.specs.List.Sorted.{IsSortedByKey}
use Rattle.std.proofs.lemmas.Fn.{dedup_same}
use Rattle.std.proofs.lemmas.List.Sorted.{answers_always}
use Rattle.nc_policy.specs.declared.spot_table.Placed.{Placed}
use Rattle.nc_policy.specs.Placing.{place_at, spot_cmp}
use Rattle.nc_policy.proofs.KeyOrder.{same_places, same_kept, still_sorted, is_same}
use Rattle.nc_policy.proofs.SpotOrder.{spots}
use Rattle.nc_policy.proofs.spot_table.SpotTable.of.Goals as goal

pub invariant_of-result : goal.invariant_of-result
invariant_of-result c =
    let sorted = c.sort_by_key.new.self.items in
    let ordered : IsSortedByKey (λ (x : Placed). x.spot) spot_cmp sorted = c.in_ok-sort_by_key.ensures.sorted (λ (x : Placed). x.spot) (answers_always _ _ _ (λ f a r f' k. search rules)) in
    let kept : c.dedup_by_key.new.self.items ≡ dedup (is_same spots) sorted = dedup_same _ (is_same spots) _ (λ x y b f' x' y' k. search rules) sorted c.dedup_by_key.new.self.items c.dedup_by_key.ensures.filtered in
    subst (λ (l : List Placed). IsSortedByKey (λ (x : Placed). x.spot) spot_cmp l) (sym (c.shrink_to_fit.ensures.items ∙ kept)) (still_sorted spots sorted ordered)

pub returns : goal.returns
returns c = λ s.
    let sorted = c.sort_by_key.new.self.items in
    let kept : c.dedup_by_key.new.self.items ≡ dedup (is_same spots) sorted = dedup_same _ (is_same spots) _ (λ x y b f' x' y' k. search rules) sorted c.dedup_by_key.new.self.items c.dedup_by_key.ensures.filtered in
    ap (λ (l : List Placed). place_at s l) (c.shrink_to_fit.ensures.items ∙ kept) ∙ same_kept spots s sorted
    ∙ same_places spots c.args.items.items sorted (c.in_ok-sort_by_key.ensures.stable (λ (x : Placed). x.spot) (answers_always _ _ _ (λ f a r f' k. search rules))) s
