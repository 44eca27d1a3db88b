use Rattle.std.proofs.Common.{◌≡◌, ◌+◌, ◌<◌, Some, length, refl, ap, sym, ◌∙◌}
use Rattle.std.specs.Prelude.{slice_get}
use Rattle.std.proofs.lemmas.Bool.{ltb-true}
use Rattle.std.proofs.lemmas.Option.{same_Some, slice_get-get_or}
use Rattle.nc_types.proofs.Sameness.{same_bytes_is}
use Rattle.nc_types.specs.declared.filters.FilterEntry.{FilterEntry}
use Rattle.nc_filter.specs.Spots.{number_of}
use Rattle.nc_filter.proofs.index.number_in.Goals as goal

pub returns-then-eq : goal.returns-then-eq
returns-then-eq c e at later =
    let entries = c.args.entries.now in
    let place = c.args.place in
    let behind = c.in-Some.behind.now in
    let own : c.index-entries-place.result ≡ e =
    same_Some c.index-entries-place.result e (ap Some c.index-entries-place.is ∙ sym (slice_get-get_or entries place c.index-entries-place.result c.requires.place) ∙ at) in
    let lt : place + 1 < length entries = ltb-true (place + 1) (length entries) (sym c.in-Some.ensures.lookup.0) in
    let next : slice_get entries (place + 1) ≡ Some behind = slice_get-get_or entries (place + 1) behind lt ∙ ap Some (sym c.in-Some.ensures.lookup.1) in
    let one : behind.list ≡ e.list = same_bytes_is behind.list c.index-entries-place.result.list (sym c.eq.ensures ∙ c.if-eq.true) ∙ ap (λ (x : FilterEntry). x.list) own in
    later behind next ∙ ap (number_of entries) one

pub returns : goal.returns
returns c e at later =
    let entries = c.args.entries.now in
    let own : c.index-entries-place.result ≡ e =
    same_Some c.index-entries-place.result e (ap Some c.index-entries-place.is ∙ sym (slice_get-get_or entries c.args.place c.index-entries-place.result c.requires.place) ∙ at) in
    c.number_of.ensures entries c.requires.lists refl ∙ ap (λ (x : FilterEntry). number_of entries x.list) own
