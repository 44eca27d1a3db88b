use Rattle.std.proofs.Common.{rules, ◌≡◌, ◌-◌, ◌/◌, Bool, true, false, refl, subst, arith}
use Rattle.std.specs.Prelude.{nat_le, IsTrue}
use Rattle.std.proofs.lemmas.Bool.{eqb-true}
use Rattle.std.proofs.lemmas.List.Sorted.{IsPartitionPoint-from_clause, IsPartitionedBy-leb}
use Rattle.nc_types.specs.Masks.{size_of}
use Rattle.nc_tables.specs.Base.{covers}
use Rattle.nc_base_rib.specs.declared.links.Link.{Link}
use Rattle.nc_base_rib.proofs.Linking.{none_before, none_but}
use Rattle.nc_base_rib.proofs.links.toward.Goals as goal

pub returns-then-next-eq0-clause-none : goal.returns-then-next-eq0-clause-none
returns-then-next-eq0-clause-none c =
    let links = c.args.links.now in
    let addr = c.args.addr.0 in
    let next = c.partition_point-next.result in
    let point = IsPartitionPoint-from_clause (λ (l : Link). nat_le l.network.0 addr) links next c.partition_point-next.ensures.partitioned (IsPartitionedBy-leb (λ (l : Link). l.network.0) links addr c.requires.ordered) (λ a r q k. search rules) in
    none_before links c.requires addr next point c.if-next-eq0.true

pub returns-then-not-covers-clause-none : goal.returns-then-not-covers-clause-none
returns-then-not-covers-clause-none c =
    let links = c.args.links.now in
    let addr = c.args.addr.0 in
    let next = c.partition_point-next.result in
    let l = c.index-links-next.result in
    let point = IsPartitionPoint-from_clause (λ (l : Link). nat_le l.network.0 addr) links next c.partition_point-next.ensures.partitioned (IsPartitionedBy-leb (λ (l : Link). l.network.0) links addr c.requires.ordered) (λ a r q k. search rules) in
    none_but links c.requires addr next point (next - 1) l (omega arith) c.partition_point-next.ensures.bound c.index-links-next.is (by_cover (covers l.address.prefix addr) refl)
  where
    by_cover : (b : Bool) → covers c.index-links-next.result.address.prefix c.args.addr.0 ≡ b → covers c.index-links-next.result.address.prefix c.args.addr.0 ≡ false
    by_cover true e = let yes : IsTrue c.covers.result = c.covers.ensures.1 (eqb-true (c.args.addr.0 / size_of c.index-links-next.result.address.prefix.len) (c.index-links-next.result.address.prefix.base / size_of c.index-links-next.result.address.prefix.len) e) in let no : false ≡ true = subst IsTrue c.if-not-covers.true yes in absurd (cc)
    by_cover false e = e
