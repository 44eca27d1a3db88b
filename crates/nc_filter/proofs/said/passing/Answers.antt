use Rattle.std.proofs.Common.{◌≡◌, ◌<◌, List, Some, length, ap, sym, subst, ◌∙◌, arith}
use Rattle.std.specs.Prelude.{slice_get}
use Rattle.std.specs.Option.{option_map_or}
use Rattle.std.proofs.lemmas.Bool.{ltb-true}
use Rattle.std.proofs.lemmas.Option.{slice_get-get_or}
use Rattle.nc_types.specs.Config.{config_view}
use Rattle.nc_types.specs.declared.filters.Group.{Group}
use Rattle.nc_types.proofs.Few.{few_elements, few_filters, few_groups}
use Rattle.nc_tables.specs.Filters.{passing_by}
use Rattle.nc_tables.specs.declared.filters.Passing.TheVariants.{Free}
use Rattle.nc_filter.proofs.Saying.{filtered, unnamed}
use Rattle.nc_filter.proofs.said.passing.Goals as goal

pub returns-in_default : goal.returns-in_default
returns-in_default c = unnamed c.args.from.0 c.args.to.0 (config_view c.args.config.now) c.args.iface.0 c.args.inward (sym c.in_default.is ∙ c.group_of.ensures)

pub passing_by-requires-clause-group : goal.passing_by-requires-clause-group
passing_by-requires-clause-group c =
    let view = config_view c.args.config.now in
    let lt : c.in-Some.place < length c.deref.result.now = ltb-true c.in-Some.place (length c.deref.result.now) (sym c.in-Some-get.ensures.lookup.0) in
    omega (arith, lt, ap (λ (gs : List Group). length gs) c.deref.ensures.value, few_groups view c.requires, few_elements view c.requires)

pub passing_by-requires-clause-entries : goal.passing_by-requires-clause-entries
passing_by-requires-clause-entries c =
    let view = config_view c.args.config.now in
    omega (arith, few_filters view c.requires, few_elements view c.requires)

pub returns-in-Some-get : goal.returns-in-Some-get
returns-in-Some-get c =
    let view = config_view c.args.config.now in
    let place = c.in-Some.place in
    let group = c.in-Some-get.group.now in
    let from = c.args.from.0 in
    let to = c.args.to.0 in
    let lt : place < length c.deref.result.now = ltb-true place (length c.deref.result.now) (sym c.in-Some-get.ensures.lookup.0) in
    let read : slice_get c.deref.result.now place ≡ Some group = slice_get-get_or c.deref.result.now place group lt ∙ ap Some (sym c.in-Some-get.ensures.lookup.1) in
    let at : slice_get c.args.config.now.groups.items place ≡ Some group = subst (λ (gs : List Group). slice_get gs place ≡ Some group) c.deref.ensures.value read in
    filtered from to view c.args.iface.0 c.args.inward place c.passing_by.result (sym c.in-Some.is ∙ c.group_of.ensures)
    (c.passing_by.ensures ∙ sym (ap (λ h. option_map_or (passing_by from to view place) h Free) at))
