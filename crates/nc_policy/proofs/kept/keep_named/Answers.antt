use Rattle.std.proofs.Common.{sym, ◌∙◌}
use Rattle.std.specs.Str.{bytes_eq}
use Rattle.std.proofs.lemmas.Iterator.Adapters.{position_from-zero}
use Rattle.nc_types.specs.Config.{config_view}
use Rattle.nc_policy.specs.Seen.{prefix_table}
use Rattle.nc_policy.specs.Views.{map_names}
use Rattle.nc_policy.proofs.Keeping.{first_named}
use Rattle.nc_policy.proofs.kept.keep_named.Goals as goal

pub asked_of-requires-clause-first : goal.asked_of-requires-clause-first
asked_of-requires-clause-first c =
    let name = c.bytes-name.result.now in
    sym c.in-Some-place.is ∙ c.place.ensures ∙ c.requires.indexed.maps.first name ∙ position_from-zero (bytes_eq name) (map_names (config_view c.args.config.now))

pub returns-clause-kept : goal.returns-clause-kept
returns-clause-kept c =
    let config = config_view c.args.config.now in
    let name = c.bytes-name.result.now in
    let own = first_named (map_names config) name c.place.result c.in-Some-place.first (c.place.ensures ∙ c.requires.indexed.maps.first name) c.in-Some-place.is in
    c.mark.ensures.kept config name c.requires.kept own (c.in_ok-asked.ensures.table (prefix_table c.args.kept.now.numbers.value) c.requires.numbers)

pub returns-clause-asked : goal.returns-clause-asked
returns-clause-asked c =
    let config = config_view c.args.config.now in
    let name = c.bytes-name.result.now in
    let own = first_named (map_names config) name c.place.result c.in-Some-place.first (c.place.ensures ∙ c.requires.indexed.maps.first name) c.in-Some-place.is in
    c.mark.ensures.asked config name c.requires.asked own c.in_ok-asked.ensures.asked
