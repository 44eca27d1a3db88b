use Rattle.std.proofs.Common.{◌≡◌, ℕ, ◌+◌, Option, List, All, None, length, refl, sym, ap, subst, ◌∙◌}
use Rattle.std.proofs.lemmas.List.{length_push}
use Rattle.std.proofs.lemmas.List.Elements.{All-push}
use Rattle.nc_policy.specs.declared.clauses.Candidate.{Candidate}
use Rattle.nc_policy.proofs.best.none_yet.Goals as goal

abbrev IsNone : Option Candidate → Type 0
IsNone b = b ≡ None

pub prefixes-preserved : goal.prefixes-preserved
prefixes-preserved c =
    let best = c.prefixes.best.items in
    let more = c.in_ok-push.ensures.items in
    record {
      count = ap (λ (bs : List (Option Candidate)). length bs) more ∙ length_push best None ∙ ap (λ (n : ℕ). n + 1) c.prefixes.invariant.count;
      none = subst (λ (bs : List (Option Candidate)). All IsNone bs) (sym more) (All-push IsNone best None c.prefixes.invariant.none refl);
    }

pub returns-clause-none : goal.returns-clause-none
returns-clause-none c = c.prefixes.invariant.none
