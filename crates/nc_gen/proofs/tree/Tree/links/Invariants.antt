use Rattle.std.proofs.Common.{◌≡◌, All, map}
use Rattle.nc_gen.specs.Tree.{below}
use Rattle.nc_gen.specs.Shape.{IsSmall, link_at}
use Rattle.nc_gen.proofs.tree.Tree.links.Given as goal

-- the links so far are those of the numbers so far
abbrev pub invariant-links : goal.invariant-links
invariant-links l = record {
  links : l.links.items ≡ map (link_at l.self) (below l.number);
  small : All IsSmall l.links.items;
}
