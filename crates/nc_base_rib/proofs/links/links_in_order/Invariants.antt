use Rattle.std.proofs.Common.{◌≡◌, ◌++◌, All, drop}
use Rattle.nc_types.specs.Cidr.{IsCidr}
use Rattle.nc_base_rib.specs.Links.{links_from}
use Rattle.nc_base_rib.proofs.links.links_in_order.Given as goal

-- the links so far and those of the interfaces that are left are all links
abbrev pub invariant-interfaces : goal.invariant-interfaces
invariant-interfaces l = record {
  links : l.links.items ++ links_from l.place (drop l.place l.interfaces) ≡ links_from 0 l.interfaces;
  valid : All (λ k. IsCidr k.address.prefix.base k.address.prefix.len) l.links.items;
}
