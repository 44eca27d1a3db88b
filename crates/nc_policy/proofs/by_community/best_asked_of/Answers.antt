use Rattle.std.proofs.Common.{◌≡◌, ◌<◌, ℕ, nat_eq, length, get_or, sym, ap, ◌∙◌, arith, inl, inr, rules}
use Rattle.std.proofs.lemmas.Bool.{cases_eq}
use Rattle.std.proofs.lemmas.List.{get_or_default}
use Rattle.nc_policy.proofs.Beating.{has_at}
use Rattle.nc_policy.proofs.by_community.best_asked_of.Goals as goal

pub communities-preserved : goal.communities-preserved
communities-preserved c =
    let step = c.best_asked-best.ensures in
    let at = c.communities.community-index in
    let cs = c.args.communities.now in
    let within : at < length cs = search rules in
    record {
      candidate = step.candidate;
      named = λ name all best. step.named name all (c.communities.invariant.named name all best);
      beats = λ j beaten. step.beats j (c.communities.invariant.beats j beaten);
      beaten = λ k a i d there lt same. elim (cases_eq i at) [
        | inl is ↦
            let here : get_or cs i d ≡ get_or cs at 0 = ap (λ (j : ℕ). get_or cs j d) is ∙ get_or_default cs at d 0 within in
            step.beaten k a there (ap (nat_eq a.community) (sym here) ∙ same)
        | inr other ↦ step.beats a.place (c.communities.invariant.beaten k a i d there (omega arith) same)
      ];
    }

pub returns-clause-beaten : goal.returns-clause-beaten
returns-clause-beaten c = λ k a there has.
    let found = has_at a.community c.args.communities.now has in
    c.communities.invariant.beaten k a found.0 0 there (let lt : found.0 < length c.args.communities.now = found.1.0 in let all : found.0 < c.communities.community-index = search rules in all) (found.1.1 0)
