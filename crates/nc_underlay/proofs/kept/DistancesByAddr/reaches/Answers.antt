use Rattle.std.proofs.Common.{ap, sym, ◌∙◌}
use Rattle.std.specs.BTreeMap.{get_by, is_at}
use Rattle.std.specs.Map.{lookup}
use Rattle.std.specs.Ordering.{nat_cmp}
use Rattle.nc_types.specs.declared.addr.Addr.{Addr}
use Rattle.nc_underlay.specs.Distances.{AreDistances}
use Rattle.nc_underlay.proofs.Keeping.{kept_more}
use Rattle.nc_underlay.proofs.kept.DistancesByAddr.reaches.Goals as goal

pub returns-in_err-insert-clause-kept : goal.returns-in_err-insert-clause-kept
returns-in_err-insert-clause-kept c addr x there = c.requires.kept addr x (sym (ap (lookup (is_at (λ (a : Addr). nat_cmp addr.0 a.0))) c.in_err-insert.ensures.err) ∙ there)

pub returns-clause-kept : goal.returns-clause-kept
returns-clause-kept c =
    kept_more (AreDistances c.args.network.now c.args.base.now) (λ (addr : Addr). get_by (λ (a : Addr). nat_cmp addr.0 a.0) c.args.self.now.tables) (λ (addr : Addr). get_by (λ (a : Addr). nat_cmp addr.0 a.0) c.insert.new.self) c.args.addr c.in_ok-distances.distances
    c.in_ok-insert.ensures.updates.0 c.in_ok-distances.ensures c.requires.kept
