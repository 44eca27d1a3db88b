use Rattle.std.proofs.Common.{Option, sym, ap, ◌∙◌}
use Rattle.std.specs.Option.{option_map, option_to_list}
use Rattle.nc_types.specs.declared.config.IfaceAddr.{IfaceAddr}
use Rattle.nc_types.specs.Joining.{Used}
use Rattle.nc_network.specs.declared.clash.Place.{Place}
use Rattle.nc_network.specs.Steps.{merge, first_of_all, pair_up, address_pairs}
use Rattle.nc_network.proofs.Clashes.{all-one}
use Rattle.nc_network.proofs.HeadLemmas.{address-found}
use Rattle.nc_network.proofs.addresses.find_one.Goals as goal

pub returns-in-Some : goal.returns-in-Some
returns-in-Some c = λ later heads.
    let line = c.args.interface.now.address_line in
    let use_of = λ (a : IfaceAddr). let u : Used = record { router = c.args.router; line = line; address = a } in u in
    let x : Used = record { router = c.args.router; line = line; address = c.in-Some.address } in
    let place : Place = record { router = c.args.router; line = line } in
    c.find.ensures ∙ ap (λ (o : Option Place). merge c.args.found (option_map (pair_up place) o)) (heads c.in-Some.address.addr)
    ∙ ap (merge c.args.found) (sym (address-found x later) ∙ sym (all-one (address_pairs later) x) ∙ ap (λ (o : Option IfaceAddr). first_of_all (address_pairs later) (option_to_list (option_map use_of o))) c.in-Some.ensures)
