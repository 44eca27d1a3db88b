use Rattle.std.proofs.Common.{ap, sym, ◌∙◌}
use Rattle.std.specs.Str.{bytes_eq}
use Rattle.nc_types.specs.Config.{PrefixListView, config_view}
use Rattle.nc_tables.specs.Policy.{permitting_prefix}
use Rattle.nc_policy.specs.Indexes.{named_in}
use Rattle.nc_policy.specs.Seen.{name_table}
use Rattle.nc_policy.proofs.Outside.{none_at, none_placed, placed_by}
use Rattle.nc_policy.proofs.spans.of_reference.Goals as goal

pub returns-in-None : goal.returns-in-None
returns-in-None c = λ p few out.
    let lists = (config_view c.args.config.now).lists in
    let name = c.args.reference.now.name in
    let table = name_table c.args.names.now in
    none_placed lists (λ (l : PrefixListView). bytes_eq name l.name) (λ (l : PrefixListView). permitting_prefix p l.entries)
    (sym (placed_by lists table name c.requires.names) ∙ ap (named_in table) (sym c.bytes.ensures) ∙ sym c.place.ensures ∙ c.in-None.is)

pub returns-in-Some : goal.returns-in-Some
returns-in-Some c = λ p few out.
    let lists = (config_view c.args.config.now).lists in
    let name = c.args.reference.now.name in
    let table = name_table c.args.names.now in
    none_at lists (λ (l : PrefixListView). bytes_eq name l.name) (λ (l : PrefixListView). permitting_prefix p l.entries) c.in-Some.place
    (sym (placed_by lists table name c.requires.names) ∙ ap (named_in table) (sym c.bytes.ensures) ∙ sym c.place.ensures ∙ c.in-Some.is)
    (λ l at. c.span_at.ensures lists l c.requires.spans at p few out)
