use Rattle.std.proofs.Common.{map, ap, ◌∙◌, arith}
use Rattle.std.specs.Str.{bytes_eq}
use Rattle.nc_types.specs.Config.{PrefixListView, config_view, list_view}
use Rattle.nc_tables.specs.Policy.{permitting_prefix}
use Rattle.nc_policy.specs.Views.{named_list}
use Rattle.nc_policy.proofs.Few.{few_lists, few_of_list}
use Rattle.nc_policy.proofs.Permitting.{placed, unplaced, seen_at}
use Rattle.nc_policy.proofs.lists.prefix_place.Goals as goal

pub permitting_prefix-requires : goal.permitting_prefix-requires
permitting_prefix-requires c =
    let list = c.in_ok-found.found.now in
    let read = c.in_ok-found.ensures.lookup in
    let at = seen_at list_view c.args.config.now.lists.items c.deref.result.now c.in_ok-list.list list c.deref.ensures.value read.3.0 read.1 in
    record { indexed = c.index_of.ensures (config_view c.args.config.now) (list_view list) c.requires.indexed at }

pub returns-in_err-entry : goal.returns-in_err-entry
returns-in_err-entry c =
    let lists = c.args.config.now.lists.items in
    let list = c.in_ok-found.found.now in
    let read = c.in_ok-found.ensures.lookup in
    let at = seen_at list_view lists c.deref.result.now c.in_ok-list.list list c.deref.ensures.value read.3.0 read.1 in
    c.from_residual-in_err-entry.ensures
    ∙ unplaced (map list_view lists) (λ (l : PrefixListView). bytes_eq c.args.reference.now.name l.name) (λ (l : PrefixListView). permitting_prefix c.args.prefix l.entries) c.in_ok-list.list (list_view list)
    (c.in_ok-list.ensures ∙ ap (named_list (config_view c.args.config.now)) c.bytes.ensures) at c.in_err-entry.ensures.entry

pub place_number-requires : goal.place_number-requires
place_number-requires c = omega (arith, few_lists c.args.config.now c.requires.formed, c.in_ok-found.ensures.lookup.3.0)

pub place_number-requires-2 : goal.place_number-requires-2
place_number-requires-2 c =
    let list = c.in_ok-found.found.now in
    let read = c.in_ok-found.ensures.lookup in
    let at = seen_at list_view c.args.config.now.lists.items c.deref.result.now c.in_ok-list.list list c.deref.ensures.value read.3.0 read.1 in
    omega (arith, few_of_list c.args.config.now c.requires.formed c.in_ok-list.list (list_view list) at, c.in_ok-entry.ensures.within)

pub returns : goal.returns
returns c =
    let lists = c.args.config.now.lists.items in
    let list = c.in_ok-found.found.now in
    let read = c.in_ok-found.ensures.lookup in
    let at = seen_at list_view lists c.deref.result.now c.in_ok-list.list list c.deref.ensures.value read.3.0 read.1 in
    placed (map list_view lists) (λ (l : PrefixListView). bytes_eq c.args.reference.now.name l.name) (λ (l : PrefixListView). permitting_prefix c.args.prefix l.entries) c.in_ok-list.list c.in_ok-entry.entry (list_view list)
    (c.in_ok-list.ensures ∙ ap (named_list (config_view c.args.config.now)) c.bytes.ensures) at c.in_ok-entry.ensures.entry c.place_number.result c.place_number-2.result c.place_number.ensures c.place_number-2.ensures
