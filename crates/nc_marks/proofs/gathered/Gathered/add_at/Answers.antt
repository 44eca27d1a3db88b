use Rattle.std.proofs.Common.{◌≡◌, ◌||◌, ◌<◌, ℕ, [], ◌∷◌, get_or, sym, ap, ◌∙◌, subst, arith}
use Rattle.nc_marks.specs.Sets.{has}
use Rattle.nc_types.proofs.Truth.{or_assoc}
use Rattle.nc_marks.proofs.PartLemmas.{has-followed, numbered}
use Rattle.nc_marks.proofs.gathered.Gathered.add_at.Goals as goal

pub parts-preserved : goal.parts-preserved
parts-preserved c =
    let sets = c.args.sets.now.sets in
    let own = c.parts-next.result.0.now in
    let next = c.parts-next.result.1 in
    let was = c.parts.self.elements in
    let step : (e : ℕ) → has (get_or ([] ∷ sets) c.parts.tail []) e ≡ (has own e || has (get_or ([] ∷ sets) next []) e)
    = λ e. ap (λ set. has set e) (numbered sets c.parts.tail c.parts-test.true ∙ c.parts-next.ensures.parts) ∙ has-followed sets next own e in
    record {
      within = omega (arith, c.parts-next.ensures.tail, c.parts.invariant.within, c.parts-test.true);
      width = c.add_all.ensures.width ∙ c.parts.invariant.width;
      union = λ e lt.
          ap (λ b. b || has (get_or ([] ∷ sets) next []) e) (c.in_ok-add_all.ensures.union e (subst (λ n. e < n) (sym c.parts.invariant.width) lt))
          ∙ or_assoc (has was e) (has own e) (has (get_or ([] ∷ sets) next []) e)
          ∙ ap (λ b. has was e || b) (sym (step e))
          ∙ c.parts.invariant.union e lt;
    }
