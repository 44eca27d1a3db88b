use Rattle.std.proofs.Common.{ℕ, Option, sym, ap, ◌∙◌}
use Rattle.std.specs.List.{flat_map}
use Rattle.std.specs.Option.{option_map, option_to_list}
use Rattle.nc_types.specs.declared.config.IfaceAddr.{IfaceAddr}
use Rattle.nc_types.specs.Joining.{Used}
use Rattle.nc_network.specs.Steps.{merge, first_of_all, lines_clash, same_pairs}
use Rattle.nc_network.proofs.Clashes.{all-one}
use Rattle.nc_network.proofs.OverlapLemmas.{own-found}
use Rattle.nc_network.proofs.overlaps.note_one.Goals as goal

pub returns-in_ok-note-in-Some-clause-found : goal.returns-in_ok-note-in-Some-clause-found
returns-in_ok-note-in-Some-clause-found c = λ later heads valid.
    let r = c.args.router in
    let line = c.args.interface.now.address_line in
    let use_of = λ (a : IfaceAddr). let u : Used = record { router = r; line = line; address = a } in u in
    let x : Used = record { router = r; line = line; address = c.in-Some.address } in
    let make = λ (x : Used). flat_map (same_pairs r x) later in
    c.find-found.ensures ∙ ap (λ (o : Option ℕ). merge c.args.found (option_map (lines_clash r line) o)) (heads c.in-Some.address.prefix)
    ∙ ap (merge c.args.found) (sym (own-found r x later valid c.len-len.ensures.valid) ∙ sym (all-one make x) ∙ ap (λ (o : Option IfaceAddr). first_of_all make (option_to_list (option_map use_of o))) c.in-Some.ensures)
