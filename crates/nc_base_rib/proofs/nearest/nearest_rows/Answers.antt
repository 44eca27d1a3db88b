use Rattle.std.proofs.Common.{rules, ◌≡◌, sym, ap, subst, ◌∙◌, List, filter}
use Rattle.std.specs.List.Sorted.{IsSorted, IsStableBy}
use Rattle.std.proofs.lemmas.List.Sorted.{answers_always}
use Rattle.nc_tables.specs.declared.base.BaseRow.{BaseRow}
use Rattle.nc_tables.specs.Base.{row_cmp, is_nearest}
use Rattle.nc_tables.specs.Order.{in_order}
use Rattle.nc_base_rib.specs.Nearness.{distance_cmp}
use Rattle.nc_base_rib.proofs.Keeping.{key_of}
use Rattle.nc_base_rib.proofs.Distances.{nearest_in_order, nearest_sorted, is_less}
use Rattle.nc_base_rib.proofs.Outcome.{if_ok}
use Rattle.nc_base_rib.proofs.nearest.nearest_rows.Goals as goal

pub keep_nearest-requires : goal.keep_nearest-requires
keep_nearest-requires c =
    let ordered : IsSorted distance_cmp c.sort_by_key.new.self.items = c.in_ok-sort_by_key.ensures.sorted key_of (answers_always _ _ _ (λ f a r f' k. search rules)) in
    subst (λ (l : List BaseRow). IsSorted distance_cmp l) (sym c.deref.ensures.value) ordered

pub returns-clause-nearest : goal.returns-clause-nearest
returns-clause-nearest c =
    let rows = c.args.rows.items in
    let sorted = c.sort_by_key.new.self.items in
    let ordered : IsSorted distance_cmp sorted = c.in_ok-sort_by_key.ensures.sorted key_of (answers_always _ _ _ (λ f a r f' k. search rules)) in
    let stable : IsStableBy is_less rows sorted = c.in_ok-sort_by_key.ensures.stable key_of (answers_always _ _ _ (λ f a r f' k. search rules)) in
    let same = ap (λ (l : List BaseRow). filter (is_nearest l) l) c.deref.ensures.value in
    if_ok (λ kept. kept.items ≡ filter (is_nearest c.deref.result.now) c.deref.result.now) (λ kept. kept.items ≡ in_order row_cmp (filter (is_nearest rows) rows)) (λ kept e. e ∙ same ∙ nearest_in_order rows sorted c.in_ok-sort_by_key.ensures.permutation ordered stable c.requires) c.keep_nearest.result
    c.keep_nearest.ensures.nearest

pub returns-clause-ordered : goal.returns-clause-ordered
returns-clause-ordered c =
    let rows = c.args.rows.items in
    let sorted = c.sort_by_key.new.self.items in
    let ordered : IsSorted distance_cmp sorted = c.in_ok-sort_by_key.ensures.sorted key_of (answers_always _ _ _ (λ f a r f' k. search rules)) in
    let stable : IsStableBy is_less rows sorted = c.in_ok-sort_by_key.ensures.stable key_of (answers_always _ _ _ (λ f a r f' k. search rules)) in
    let same = ap (λ (l : List BaseRow). filter (is_nearest l) l) c.deref.ensures.value in
    if_ok (λ kept. kept.items ≡ filter (is_nearest c.deref.result.now) c.deref.result.now) (λ kept. IsSorted row_cmp kept.items) (λ kept e. subst (λ (l : List BaseRow). IsSorted row_cmp l) (sym (e ∙ same)) (nearest_sorted rows sorted c.in_ok-sort_by_key.ensures.permutation ordered stable c.requires)) c.keep_nearest.result
    c.keep_nearest.ensures.nearest
