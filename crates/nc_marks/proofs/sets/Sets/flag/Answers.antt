use Rattle.std.proofs.Common.{◌≡◌, ◌<◌, ◌||◌, ℕ, [], ◌∷◌, get_or, cond, sym, ap, ◌∙◌, subst, arith}
use Rattle.nc_marks.specs.Sets.{flag, has}
use Rattle.nc_marks.proofs.PartLemmas.{flag-more, has-followed, numbered}
use Rattle.nc_marks.proofs.sets.Sets.flag.Goals as goal

pub parts-preserved : goal.parts-preserved
parts-preserved c =
    let sets = c.args.self.now.sets in
    let own = c.parts-next.result.0.now in
    let next = c.parts-next.result.1 in
    let step : (e : ℕ) → has (get_or ([] ∷ sets) c.parts.tail []) e ≡ (has own e || has (get_or ([] ∷ sets) next []) e)
    = λ e. ap (λ set. has set e) (numbered sets c.parts.tail c.parts-test.true ∙ c.parts-next.ensures.parts) ∙ has-followed sets next own e in
    record {
      within = omega (arith, c.parts-next.ensures.tail, c.parts.invariant.within, c.parts-test.true);
      len = c.flag_set.ensures.len ∙ c.parts.invariant.len;
      flags = λ e lt.
          ap (cond (has (get_or ([] ∷ sets) next []) e) c.args.value) (c.flag_set.ensures.flags e (subst (λ n. e < n) (sym c.parts.invariant.len) lt))
          ∙ flag-more (has own e) (has (get_or ([] ∷ sets) next []) e) c.args.value (flag c.parts.flags e)
          ∙ ap (λ b. cond b c.args.value (flag c.parts.flags e)) (sym (step e))
          ∙ c.parts.invariant.flags e lt;
    }
