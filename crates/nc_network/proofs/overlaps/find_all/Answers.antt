use Rattle.std.proofs.Common.{◌+◌, ◌<◌, ◌≤◌, List, drop, length, Option, sym, ap, ◌∙◌, arith}
use Rattle.std.specs.List.{flat_map}
use Rattle.std.specs.Option.{option_to_list}
use Rattle.nc_types.specs.declared.config.Interface.{Interface}
use Rattle.nc_types.specs.Joining.{Clash}
use Rattle.nc_network.specs.Steps.{merge, first_of_all, used_of, shorter_pairs}
use Rattle.nc_network.proofs.Clashes.{found-more, found-all, all-kept}
use Rattle.nc_types.proofs.Walks.{drop_read}
use Rattle.nc_network.proofs.overlaps.find_all.Goals as goal

pub interfaces-preserved : goal.interfaces-preserved
interfaces-preserved c = λ all heads valid long.
    let items = c.args.interfaces.now in
    let item = c.item-item.result in
    let within : c.interfaces.item-index < length items = omega arith in
    let make : Interface → List Clash = λ i. flat_map (shorter_pairs c.args.router all) (option_to_list (used_of c.args.router i)) in
    let rest = drop (c.interfaces.item-index + 1) items in
    ap (λ (o : Option Clash). merge o (first_of_all make rest)) (c.find_one-found.ensures all heads valid long)
    ∙ found-more make c.interfaces.found item rest _ (drop_read items c.interfaces.item-index item c.item-item.is within) ∙ c.interfaces.invariant all heads valid long

pub returns : goal.returns
returns c = λ all heads valid long.
    let items = c.args.interfaces.now in
    let past : length items ≤ c.interfaces.item-index = omega arith in
    let make : Interface → List Clash = λ i. flat_map (shorter_pairs c.args.router all) (option_to_list (used_of c.args.router i)) in
    found-all make c.interfaces.found _ c.interfaces.item-index items past (c.interfaces.invariant all heads valid long) ∙ ap (merge c.args.found) (sym (all-kept (used_of c.args.router) (shorter_pairs c.args.router all) items))
