use Rattle.std.proofs.Common.{◌≡◌, ◌<◌, ◌||◌, ℕ, [], ◌∷◌, get_or, sym, ap, ◌∙◌, subst}
use Rattle.nc_marks.specs.Sets.{Table, has, has_at, IsAt}
use Rattle.nc_marks.proofs.PartLemmas.{number-of, pushed-at}
use Rattle.nc_marks.proofs.sets.Sets.add.Goals.{then-base-eq0, else-base-eq0}
use Rattle.nc_marks.proofs.sets.Sets.add.Goals as goal

pub returns-clause-added : goal.returns-clause-added
returns-clause-added c =
    let t = c.args.self.now in
    let passes = λ (e : ℕ). has c.args.own.now e || has_at t c.args.base e in
    let ends : (e : ℕ) → e < t.width → has (get_or ([] ∷ t.sets) c.if-base-eq0.tail []) e ≡ has_at t c.args.base e
    = λ e lt. elim c.if-base-eq0.branch [
      | then-base-eq0 w ↦ ap (λ n. has (get_or ([] ∷ t.sets) n []) e) w.tail-is ∙ sym (ap (λ n. has_at t n e) w.if-base-eq0.true ∙ c.requires.empty.exact e lt)
      | else-base-eq0 w ↦ ap (λ n. has (get_or ([] ∷ t.sets) n []) e) w.tail-is ∙ ap (λ set. has set e) (number-of t.sets c.args.base)
    ] in
    subst (λ (u : Table). IsAt u c.len-place.result passes) (sym c.self.view_is)
    (subst (λ (u : Table). IsAt u c.len-place.result passes) (sym c.in_ok-push.ensures.ok)
    (pushed-at t c.if-base-eq0.tail c.args.own.now c.args.base c.len-place.result c.len-place.ensures ends))
