use Rattle.std.proofs.Common.{◌≡◌, ◌<◌, List, All, Contains, sym, subst, rules}
use Rattle.std.specs.List.{AllPairs, dedup}
use Rattle.std.specs.List.Sorted.{IsSortedByKey}
use Rattle.std.specs.Ordering.{nat_cmp}
use Rattle.std.proofs.lemmas.Fn.{dedup_same}
use Rattle.std.proofs.lemmas.List.Sorted.{answers_always}
use Rattle.nc_tables.specs.declared.ribs.Numbered.{Numbered}
use Rattle.nc_tables.specs.LocRibs.{IsNumbered}
use Rattle.nc_round.proofs.NumberedRows.{same_number, once_ordered, once_numbers, once_kept}
use Rattle.nc_round.proofs.waking.keep_once.Goals as goal

pub returns-clause-ordered : goal.returns-clause-ordered
returns-clause-ordered c =
    let sorted = c.sort_unstable_by_key.new.self.items in
    let up : IsSortedByKey (λ (n : Numbered). n.number) nat_cmp sorted = c.sort_unstable_by_key.ensures.sorted (λ (n : Numbered). n.number) (answers_always _ _ _ (λ f a r f' k. search rules)) in
    let once : c.dedup_by_key.new.self.items ≡ dedup same_number sorted = dedup_same _ same_number _ (λ x y b f' x' y' k. search rules) sorted c.dedup_by_key.new.self.items c.dedup_by_key.ensures.filtered in
    subst (AllPairs (λ (a b : Numbered). a.number < b.number)) (sym once) (once_ordered sorted up)

pub returns-clause-kept : goal.returns-clause-kept
returns-clause-kept c prefixes numbers n some =
    let sorted = c.sort_unstable_by_key.new.self.items in
    let once : c.dedup_by_key.new.self.items ≡ dedup same_number sorted = dedup_same _ same_number _ (λ x y b f' x' y' k. search rules) sorted c.dedup_by_key.new.self.items c.dedup_by_key.ensures.filtered in
    subst (λ (l : List Numbered). Contains l n) (sym once) (once_kept prefixes c.args.noted.now.items sorted c.sort_unstable_by_key.ensures.permutation numbers n some)

pub returns-clause-numbers : goal.returns-clause-numbers
returns-clause-numbers c prefixes numbers =
    let sorted = c.sort_unstable_by_key.new.self.items in
    let once : c.dedup_by_key.new.self.items ≡ dedup same_number sorted = dedup_same _ same_number _ (λ x y b f' x' y' k. search rules) sorted c.dedup_by_key.new.self.items c.dedup_by_key.ensures.filtered in
    subst (All (IsNumbered prefixes)) (sym once) (once_numbers prefixes c.args.noted.now.items sorted c.sort_unstable_by_key.ensures.permutation numbers)
