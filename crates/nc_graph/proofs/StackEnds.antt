-- The stacks of a walk where a fact that waits comes next, and where nothing is left.
use Rattle.std.proofs.Common.{◌≡◌, ℕ, ◌≤◌, List, [], ◌∷◌, ◌++◌, length, map, reverse, take, drop, ap, ◌∙◌, subst, refl, arith}
use Rattle.std.proofs.lemmas.List.{drop_all, take_all}
use Rattle.nc_graph.specs.declared.tasks.Inferred.{Inferred}
use Rattle.nc_graph.specs.Tasks.{find, close, jobs, AreBegins}
use Rattle.nc_graph.proofs.StackLemmas.{newest}

module _ {F : Type 0} where
  -- the newest fact that waits is the next job, and those before it begin where it says
  pub AreBegins-newest : (fs : List F) (from : ℕ) (ts rest : List (Inferred F)) (t : Inferred F) → ts ≡ rest ++ t ∷ [] → length fs ≤ from → AreBegins (length fs) from (reverse ts) → AreBegins (length fs) t.before (reverse rest)
  AreBegins-newest fs from ts rest t e le h =
      let first : AreBegins (length fs) from (t ∷ reverse rest) = subst (AreBegins (length fs) from) (newest ts rest t e) h in
      let within = first.0 in
      let same : from ≡ length fs = omega arith in
      subst (λ len. AreBegins len t.before (reverse rest)) same first.1

  pub jobs-newest : (fs : List F) (from : ℕ) (ts rest : List (Inferred F)) (t : Inferred F) → ts ≡ rest ++ t ∷ [] → length fs ≤ from → jobs fs from (reverse ts) ≡ close t.fact t.kind t.parents ∷ jobs fs t.before (reverse rest)
  jobs-newest fs from ts rest t e le =
      let dropped : drop from fs ≡ [] = drop_all from fs le in
      let taken : take from fs ≡ fs = take_all from fs le in
      ap (jobs fs from) (newest ts rest t e) ∙ (λ i. map find (reverse (dropped i)) ++ close t.fact t.kind t.parents ∷ jobs (taken i) t.before (reverse rest))

  -- no fact is left
  pub jobs-none : (fs : List F) (from : ℕ) (ts : List (Inferred F)) → length fs ≤ from → length ts ≡ 0 → AreBegins (length fs) from (reverse ts) → jobs fs from (reverse ts) ≡ []
  jobs-none [] from [] le none h = refl
  jobs-none [] from (t ∷ ts) le none h = absurd (omega arith)
  jobs-none (f ∷ fs) from [] le none h = absurd (omega arith)
  jobs-none (f ∷ fs) from (t ∷ ts) le none h = absurd (omega arith)
