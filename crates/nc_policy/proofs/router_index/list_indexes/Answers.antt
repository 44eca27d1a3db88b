use Rattle.std.proofs.Common.{◌≡◌, ◌<◌, ◌^◌, List, Option, Some, None, IfSome, length, map, refl, ap, sym, subst, ◌∙◌, arith}
use Rattle.nc_types.specs.declared.config.PrefixList.{PrefixList}
use Rattle.std.specs.Prelude.{slice_get}
use Rattle.std.specs.Option.{option_map}
use Rattle.std.proofs.lemmas.List.{length-map, length_push}
use Rattle.nc_types.specs.Config.{PrefixListView, list_view}
use Rattle.nc_types.specs.declared.config.ListEntry.{ListEntry}
use Rattle.nc_policy.specs.declared.index.ListIndex.{ListIndex}
use Rattle.nc_policy.specs.Indexes.{EntryTable, IsEntryTable}
use Rattle.nc_policy.specs.Seen.{entry_table, IsIndexOf}
use Rattle.nc_policy.proofs.Keeping.{for_if}
use Rattle.nc_policy.proofs.Permitting.{seen_at}
use Rattle.nc_policy.proofs.Tables.{pushed, each_seen}
use Rattle.nc_policy.proofs.router_index.list_indexes.Goals as goal

if_seen : (es : List ListEntry) (x : Option ListIndex) → IfSome x (IsIndexOf es) → IfSome (option_map entry_table x) (IsEntryTable es)
if_seen es None is = tt
if_seen es (Some x) is = is

pub lists-preserved : goal.lists-preserved
lists-preserved c =
    let lists = c.args.lists.now in
    let list = c.index-lists-place.result in
    let old = c.lists.indexes.items in
    let table = c.in_ok-list_index.field-0 in
    let within : c.lists.place < length lists = omega arith in
    let at : slice_get (map list_view lists) (length old) ≡ Some (list_view list) =
    ap (slice_get (map list_view lists)) c.lists.invariant.count ∙ seen_at list_view lists lists c.lists.place list refl within c.index-lists-place.is in
    let here = if_seen list.entries.items table c.in_ok-list_index.ensures in
    record {
      count = omega (arith, ap (length {A = Option ListIndex}) c.in_ok-push.ensures.items, length_push old table);
      each = pushed (λ (p : PrefixListView) (x : Option ListIndex). IfSome (option_map entry_table x) (IsEntryTable p.entries)) (map list_view lists) old c.push.new.self.items (list_view list) table c.in_ok-push.ensures.items at here c.lists.invariant.each;
    }

pub returns : goal.returns
returns c =
    let all : c.lists.place ≡ length c.args.lists.now = omega arith in
    record {
      count = length-map c.lists.indexes.items (option_map entry_table) ∙ c.lists.invariant.count ∙ all ∙ sym (length-map c.args.lists.now list_view);
      each = λ k p t at here. for_if (IsEntryTable p.entries) t
          (each_seen (λ (p : PrefixListView) (t : Option EntryTable). IfSome t (IsEntryTable p.entries)) (option_map entry_table) (map list_view c.args.lists.now) c.lists.indexes.items c.lists.invariant.each k p t at here);
    }

pub list_index-requires : goal.list_index-requires
list_index-requires c =
    let lists = c.args.lists.now in
    let place = c.lists.place in
    let list = c.index-lists-place.result in
    subst (λ (l : PrefixList). length l.entries.items < 2 ^ 32) (sym c.index-lists-place.is) (c.requires place list (omega arith))
