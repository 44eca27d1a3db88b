use Rattle.std.proofs.Common.{◌≡◌, List, Contains, sym, subst}
use Rattle.std.specs.List.{dedup}
use Rattle.std.proofs.lemmas.List.Filters.{dedup_is}
use Rattle.nc_round.specs.Keys.{Key, AreInOrder}
use Rattle.nc_round.proofs.KeyOrder.{same_key, sorted_in_order, sorted_contains, contains_sorted}
use Rattle.nc_round.proofs.waking.in_order.Goals as goal

pub returns-clause-ordered : goal.returns-clause-ordered
returns-clause-ordered c =
    let is : c.dedup.new.self.items ≡ dedup same_key c.sort_unstable.new.self.items = dedup_is same_key c.sort_unstable.new.self.items c.dedup.new.self.items c.dedup.ensures.filtered in
    subst AreInOrder (sym is) (sorted_in_order c.sort_unstable.new.self.items c.sort_unstable.ensures.sorted)

pub returns-clause-same : goal.returns-clause-same
returns-clause-same c k =
    let is : c.dedup.new.self.items ≡ dedup same_key c.sort_unstable.new.self.items = dedup_is same_key c.sort_unstable.new.self.items c.dedup.new.self.items c.dedup.ensures.filtered in (
      (λ h. contains_sorted c.args.keys.items c.sort_unstable.new.self.items c.sort_unstable.ensures.permutation k (subst (λ (l : List Key). Contains l k) is h)),
      (λ h. subst (λ (l : List Key). Contains l k) (sym is) (sorted_contains c.args.keys.items c.sort_unstable.new.self.items c.sort_unstable.ensures.permutation k h)),
    )
