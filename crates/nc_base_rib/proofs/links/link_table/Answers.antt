use Rattle.std.proofs.Common.{rules, List, All, subst}
use Rattle.std.specs.Prelude.{IsPermutation}
use Rattle.std.specs.List.Sorted.{IsNonDecreasingBy}
use Rattle.std.proofs.lemmas.List.Sorted.{IsNonDecreasingBy-from_sort_by_key}
use Rattle.nc_types.specs.Cidr.{IsCidr}
use Rattle.nc_base_rib.specs.declared.links.Link.{Link}
use Rattle.nc_base_rib.specs.Links.{links_from}
use Rattle.nc_base_rib.proofs.Linking.{table_of}
use Rattle.nc_base_rib.proofs.links.link_table.Goals as goal

pub returns : goal.returns
returns c =
    let interfaces = c.args.interfaces.now in
    let sorted = c.sort_by_key.new.self.items in
    let same : IsPermutation (links_from 0 interfaces) sorted = subst (λ (l : List Link). IsPermutation l sorted) c.in_ok-links.ensures.links c.in_ok-sort_by_key.ensures.permutation in
    let ordered : IsNonDecreasingBy (λ (l : Link). l.network.0) sorted = IsNonDecreasingBy-from_sort_by_key (λ (l : Link). l.network.0) sorted c.in_ok-sort_by_key.ensures.sorted (λ a r k q. search rules) in
    let valid = subst (λ (ls : List Link). All (λ (l : Link). IsCidr l.address.prefix.base l.address.prefix.len) ls) c.in_ok-links.ensures.links c.in_ok-links.ensures.valid in
    table_of interfaces sorted same c.requires.apart ordered valid
