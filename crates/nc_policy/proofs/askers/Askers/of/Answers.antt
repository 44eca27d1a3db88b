use Rattle.std.proofs.Common.{◌≡◌, ◌&&◌, List, All, Some, nat_eq, sym, ap, subst, ◌∙◌, rules}
use Rattle.std.specs.Prelude.{slice_get}
use Rattle.std.specs.List.Sorted.{IsNonDecreasingBy}
use Rattle.std.proofs.lemmas.List.Sorted.{All-permutation, IsNonDecreasingBy-from_sort_by_key, list_any-IsPermutation}
use Rattle.nc_types.specs.Communities.{has}
use Rattle.nc_policy.specs.declared.askers.Asker.{Asker}
use Rattle.nc_policy.specs.Kept.{is_asked_by}
use Rattle.nc_policy.proofs.askers.Askers.of.Goals as goal

pub invariant_of-result : goal.invariant_of-result
invariant_of-result c =
    subst (IsNonDecreasingBy (λ (a : Asker). a.community)) (sym c.shrink_to_fit.ensures.items)
    (IsNonDecreasingBy-from_sort_by_key (λ (a : Asker). a.community) c.sort_by_key.new.self.items c.in_ok-sort_by_key.ensures.sorted (λ a r q k. search rules))

pub returns-clause-asked : goal.returns-clause-asked
returns-clause-asked c = λ place held.
    ap (λ (xs : List Asker). is_asked_by xs place held) c.shrink_to_fit.ensures.items
    ∙ sym (list_any-IsPermutation (λ (a : Asker). nat_eq a.place place && has a.community held) c.args.items.items c.sort_by_key.new.self.items c.in_ok-sort_by_key.ensures.permutation)

pub returns-clause-own : goal.returns-clause-own
returns-clause-own c = λ names name own.
    subst (All (λ (a : Asker). slice_get names a.place ≡ Some name)) (sym c.shrink_to_fit.ensures.items)
    (All-permutation (λ (a : Asker). slice_get names a.place ≡ Some name) c.args.items.items c.sort_by_key.new.self.items c.in_ok-sort_by_key.ensures.permutation own)
