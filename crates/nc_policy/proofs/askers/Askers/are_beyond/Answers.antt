use Rattle.std.proofs.Common.{◌≡◌, ◌<◌, ℕ, List, Some, nat_eq, length, get_or, ap, ◌∙◌, arith, inl, inr, rules}
use Rattle.std.specs.Prelude.{slice_get}
use Rattle.std.proofs.lemmas.Bool.{cases_eq}
use Rattle.std.proofs.lemmas.List.{get_or_default}
use Rattle.nc_policy.specs.declared.askers.Asker.{Asker}
use Rattle.nc_policy.proofs.Ranging.{none_among}
use Rattle.nc_policy.proofs.askers.Askers.are_beyond.Goals as goal

pub communities-preserved : goal.communities-preserved
communities-preserved c = λ k a i d at lt.
    let cs = c.args.communities.now in
    let here = c.communities.community-index in
    let within : here < length cs = search rules in
    elim (cases_eq i here) [
      | inl is ↦
          let there : slice_get c.deref.result.now k ≡ Some a = ap (λ (xs : List Asker). slice_get xs k) (c.deref.ensures.value ∙ c.self.view_is) ∙ at in
          let same : get_or cs i d ≡ get_or cs here 0 = ap (λ (j : ℕ). get_or cs j d) is ∙ get_or_default cs here d 0 within in
          ap (nat_eq a.community) same ∙ c.is_beyond.ensures c.if-not-is_beyond.false k a there
      | inr other ↦ c.communities.invariant k a i d at (omega arith)
    ]

pub returns : goal.returns
returns c = λ yes k a at. none_among a.community c.args.communities.now (λ i d lt. c.communities.invariant k a i d at (let all : i < c.communities.community-index = search rules in all))
