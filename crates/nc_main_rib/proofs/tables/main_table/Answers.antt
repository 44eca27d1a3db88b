use Rattle.std.proofs.Common.{◌≡◌, ◌+◌, ◌^◌, ◌<◌, ◌≤◌, ◌++◌, ◌∷◌, List, [], All, length, map, get_or, take, drop, slice_index_or, append_assoc, refl, sym, ap, subst, ◌∙◌, arith, inl}
use Rattle.std.proofs.lemmas.List.{drop_all, take_all, take_more}
use Rattle.std.proofs.lemmas.List.Elements.{All-push}
use Rattle.nc_types.specs.Cidr.{Cidr, IsCidr}
use Rattle.nc_types.specs.Network.{element_count}
use Rattle.nc_types.specs.declared.TheConstants.{MULTIPATH_LIMIT}
use Rattle.nc_types.proofs.Walks.{drop_read}
use Rattle.nc_types.specs.declared.config.AggregateStatement.{AggregateStatement}
use Rattle.nc_tables.specs.declared.base.BaseRow.{BaseRow}
use Rattle.nc_tables.specs.declared.bgp.Chosen.{Chosen}
use Rattle.nc_tables.specs.declared.bgp.MainRow.{MainRow}
use Rattle.nc_tables.specs.Base.{prefix_cmp}
use Rattle.nc_tables.specs.Longest.{AreByPrefix}
use Rattle.nc_tables.specs.Main.{main_rows_at, nearer}
use Rattle.nc_tables.specs.Rounds.{BgpRowView, AreBgpRows}
use Rattle.nc_tables.proofs.RowCount.{few_base_rows}
use Rattle.nc_tables.proofs.SideBySide.{prefix_total}
use Rattle.nc_base_rib.proofs.Members.{Ascends}
use Rattle.nc_main_rib.specs.Sides.{base_in, bgp_rows, learnt_of}
use Rattle.nc_main_rib.proofs.Alone.{left_of}
use Rattle.nc_main_rib.proofs.Ascending.{distinct_ascend}
use Rattle.nc_main_rib.proofs.Parts.{few_chosen}
use Rattle.nc_main_rib.proofs.Passing.{all_left, few_of, left_later, lower_in, own_chosen, passes_by, AreLeft}
use Rattle.nc_main_rib.proofs.Tabling.{few_aggregates, last_step, next_in, next_step, passed_later, rows_are, table_by_prefix, whole_is}
use Rattle.nc_main_rib.proofs.tables.main_table.Goals as goal

pub active_places-requires-clause-few : goal.active_places-requires-clause-few
active_places-requires-clause-few c =
    let count : element_count c.args.network.now < 2 ^ 32 = omega (arith, c.element_count-count.ensures.few) in
    subst (λ (l : List AggregateStatement). length l < 2 ^ 32) (sym c.aggregates_of-aggregates.ensures) (few_aggregates c.args.network.now c.routers-routers.ensures.valid count c.args.router.0)

pub add_prefix-requires-clause-few : goal.add_prefix-requires-clause-few
add_prefix-requires-clause-few c =
    let count : element_count c.args.network.now < 2 ^ 32 = omega (arith, c.element_count-count.ensures.few) in
    subst (λ (l : List BaseRow). length l < 2 ^ 32) (sym c.rows-base_rows.ensures.rows)
    (subst (λ (l : List (List BaseRow)). length (get_or l c.args.router.0 []) < 2 ^ 32) (sym c.requires.base) (few_base_rows c.args.network.now c.routers-routers.ensures.valid count c.args.router.0))

pub add_prefix-requires-clause-base : goal.add_prefix-requires-clause-base
add_prefix-requires-clause-base c =
    c.prefixes.invariant.base c.prefix-item.result (next_in c.deref-prefix-items.result.now c.prefixes.prefix-index c.prefix-item.result c.prefix-item.is c.prefixes-test.true)

-- ---- the BGP rows

pub add_alone-requires : goal.add_alone-requires
add_alone-requires c =
    let p = c.prefix-item.result in
    let rows = c.prefixes.rows in
    let lower = c.pass-lower.result.0 in
    let own = c.pass-lower.result.1 in
    let behind = c.pass-lower.new.self in
    let pass = passes_by rows lower own behind p c.pass-lower.ensures.parts c.pass-lower.ensures.lower c.pass-lower.ensures.row c.pass-lower.ensures.later in
    few_of (slice_index_or c.args.bgp.now c.args.router.0 []) lower (subst AreBgpRows c.rows-rows.ensures.rows c.rows-rows.ensures.valid)
    (λ row i. c.prefixes.invariant.bgp.among row (lower_in rows lower own behind p pass row i))

pub add_prefix-requires-clause-few_chosen : goal.add_prefix-requires-clause-few_chosen
add_prefix-requires-clause-few_chosen c =
    let p = c.prefix-item.result in
    let rows = c.prefixes.rows in
    let lower = c.pass-lower.result.0 in
    let own = c.pass-lower.result.1 in
    let behind = c.pass-lower.new.self in
    let pass = passes_by rows lower own behind p c.pass-lower.ensures.parts c.pass-lower.ensures.lower c.pass-lower.ensures.row c.pass-lower.ensures.later in
    let next = next_in c.deref-prefix-items.result.now c.prefixes.prefix-index p c.prefix-item.is c.prefixes-test.true in
    subst (λ (l : List Chosen). length l ≤ MULTIPATH_LIMIT) (c.prefixes.invariant.bgp.chosen p next ∙ own_chosen rows lower own behind p pass)
    (few_chosen (slice_index_or c.args.bgp.now c.args.router.0 []) p (subst AreBgpRows c.rows-rows.ensures.rows c.rows-rows.ensures.valid).few)

pub add_alone-requires-2 : goal.add_alone-requires-2
add_alone-requires-2 c =
    few_of (slice_index_or c.args.bgp.now c.args.router.0 []) c.prefixes.rows (subst AreBgpRows c.rows-rows.ensures.rows c.rows-rows.ensures.valid) c.prefixes.invariant.bgp.among

-- ---- the way along the prefixes

pub prefixes-init : goal.prefixes-init
prefixes-init c =
    let items = c.deref-prefix-items.result.now in
    let is = c.deref-prefix-items.ensures.value ∙ c.in_ok-prefixes.ensures in
    let network = c.args.network.now in
    let base = c.args.base.now in
    let bgp = c.args.bgp.now in
    let router = c.args.router.0 in
    let special = map (λ (row : BaseRow). row.prefix) c.rows-base_rows.result.now ++ map (λ (a : AggregateStatement). a.prefix) c.aggregates_of-aggregates.result.now in
    let all = slice_index_or bgp router [] in
    let rows_of = main_rows_at network base bgp router in
    record {
      rows =
          ap (λ (l : List MainRow). l ++ left_of rows_of items c.rows-rows.result) c.in_ok-main.ensures.items
          ∙ ap (left_of rows_of items) c.rows-rows.ensures.rows
          ∙ whole_is network base bgp router c.rows-base_rows.result.now c.aggregates_of-aggregates.result.now c.rows-base_rows.ensures.rows c.aggregates_of-aggregates.ensures items is;
      valid = λ k d lt. absurd (omega arith);
      left = subst (λ (l : List Cidr). Ascends prefix_cmp prefix_total l) (sym is) (distinct_ascend special);
      base = λ p i. (omega arith, λ k d lo hi. absurd (omega arith));
      bgp = subst (λ (l : List BgpRowView). AreLeft all l items items) (sym c.rows-rows.ensures.rows) (all_left all items (subst AreBgpRows c.rows-rows.ensures.rows c.rows-rows.ensures.valid));
    }

pub prefixes-preserved : goal.prefixes-preserved
prefixes-preserved c =
    let items = c.deref-prefix-items.result.now in
    let k = c.prefixes.prefix-index in
    let p = c.prefix-item.result in
    let network = c.args.network.now in
    let base = c.args.base.now in
    let bgp = c.args.bgp.now in
    let router = c.args.router.0 in
    let all = slice_index_or bgp router [] in
    let base_rows = c.rows-base_rows.result.now in
    let aggregates = c.aggregates_of-aggregates.result.now in
    let rows = c.prefixes.rows in
    let lower = c.pass-lower.result.0 in
    let own = c.pass-lower.result.1 in
    let behind = c.pass-lower.new.self in
    let rows_of = main_rows_at network base bgp router in
    let later = drop (k + 1) items in
    let is = c.deref-prefix-items.ensures.value ∙ c.in_ok-prefixes.ensures in
    let pass = passes_by rows lower own behind p c.pass-lower.ensures.parts c.pass-lower.ensures.lower c.pass-lower.ensures.row c.pass-lower.ensures.later in
    let taken : take (k + 1) items ≡ take k items ++ p ∷ [] = take_more items k p c.prefixes-test.true ∙ ap (λ (q : Cidr). take k items ++ q ∷ []) (sym c.prefix-item.is) in
    let left : drop k items ≡ p ∷ later = drop_read items k p c.prefix-item.is c.prefixes-test.true in
    let ascends = subst (λ (l : List Cidr). Ascends prefix_cmp prefix_total l) left c.prefixes.invariant.left in
    let kept = subst (λ (l : List Cidr). AreLeft all rows items l) left c.prefixes.invariant.bgp in
    let discard = c.copied-discard.result in
    let place = c.copied-discard.ensures ∙ c.get.ensures.value ∙ c.in_ok-discards.ensures p in
    let here =
    ap (λ (l : List Chosen). nearer (base_in p base_rows) (bgp_rows p discard l)) (sym (own_chosen rows lower own behind p pass) ∙ sym (kept.chosen p (inl refl)))
    ∙ rows_are network base bgp router base_rows aggregates c.rows-base_rows.ensures.rows c.aggregates_of-aggregates.ensures p discard place in
    let main = c.prefixes.main.items in
    let run = learnt_of lower in
    let rest = left_of rows_of later behind in
    record {
      rows =
          ap (λ (l : List MainRow). l ++ rest) (c.in_ok-passed.ensures.rows ∙ ap (λ (l : List MainRow). c.add_alone.new.main.items ++ l) here ∙ ap (λ (l : List MainRow). l ++ rows_of p) c.in_ok-add_alone.ensures)
          ∙ append_assoc (main ++ run) (rows_of p) rest
          ∙ append_assoc main run (rows_of p ++ rest)
          ∙ ap (λ (l : List MainRow). main ++ l) (sym (next_step network base bgp router base_rows aggregates c.rows-base_rows.ensures.rows c.aggregates_of-aggregates.ensures items is (subst AreBgpRows c.rows-rows.ensures.rows c.rows-rows.ensures.valid) rows lower own behind p later pass ascends kept))
          ∙ ap (λ (l : List Cidr). main ++ left_of rows_of l rows) (sym left)
          ∙ c.prefixes.invariant.rows;
      valid = subst (λ (l : List Cidr). All (λ (q : Cidr). IsCidr q.base q.len) l) (sym taken) (All-push (λ (q : Cidr). IsCidr q.base q.len) (take k items) p c.prefixes.invariant.valid c.in_ok-passed.ensures.valid);
      left = ascends.1;
      base = λ q i. passed_later base_rows c.in_ok-passed.passed p q (ascends.0 q i) c.in_ok-passed.ensures.base;
      bgp = left_later all rows lower own behind items p later pass ascends kept;
    }

pub returns-clause-rows : goal.returns-clause-rows
returns-clause-rows c =
    let items = c.deref-prefix-items.result.now in
    let k = c.prefixes.prefix-index in
    let network = c.args.network.now in
    let base = c.args.base.now in
    let bgp = c.args.bgp.now in
    let router = c.args.router.0 in
    let rows = c.prefixes.rows in
    let is = c.deref-prefix-items.ensures.value ∙ c.in_ok-prefixes.ensures in
    let none : drop k items ≡ [] = drop_all k items (omega arith) in
    let kept = subst (λ (l : List Cidr). AreLeft (slice_index_or bgp router []) rows items l) none c.prefixes.invariant.bgp in
    let rows_of = main_rows_at network base bgp router in
    let main = c.prefixes.main.items in
    c.shrink_to_fit.ensures.items
    ∙ c.in_ok-add_alone-2.ensures
    ∙ ap (λ (l : List MainRow). main ++ l)
    (sym (last_step network base bgp router c.rows-base_rows.result.now c.aggregates_of-aggregates.result.now c.rows-base_rows.ensures.rows c.aggregates_of-aggregates.ensures items is (subst AreBgpRows c.rows-rows.ensures.rows c.rows-rows.ensures.valid) rows kept))
    ∙ ap (λ (l : List Cidr). main ++ left_of rows_of l rows) (sym none)
    ∙ c.prefixes.invariant.rows

pub returns-clause-by_prefix : goal.returns-clause-by_prefix
returns-clause-by_prefix c =
    let items = c.deref-prefix-items.result.now in
    let is = c.deref-prefix-items.ensures.value ∙ c.in_ok-prefixes.ensures in
    let last : length items ≤ c.prefixes.prefix-index = omega arith in
    let valid = subst (λ (l : List Cidr). All (λ (q : Cidr). IsCidr q.base q.len) l) (take_all c.prefixes.prefix-index items last) c.prefixes.invariant.valid in
    subst (λ (l : List MainRow). AreByPrefix (λ (row : MainRow). row.prefix) l) (sym (returns-clause-rows c))
    (table_by_prefix c.args.network.now c.args.base.now c.args.bgp.now c.args.router.0 c.rows-base_rows.result.now c.aggregates_of-aggregates.result.now c.rows-base_rows.ensures.rows c.aggregates_of-aggregates.ensures items is
    (subst AreBgpRows c.rows-rows.ensures.rows c.rows-rows.ensures.valid) valid)
