use Rattle.std.proofs.Common.{◌≡◌, ◌<◌, ap, ◌∙◌, subst, rules}
use Rattle.nc_marks.specs.Sets.{followed}
use Rattle.nc_marks.proofs.sets.Sets.find.Goals as goal

pub returns-then-eq : goal.returns-then-eq
returns-then-eq c =
    let sets = c.args.self.now.sets in
    let same : c.parts-follows.result.0.now ≡ c.args.own.now = search rules in (
      subst (λ n. c.in_ok-place.field-0.now < n) c.len.ensures c.if-place-len.false,
      c.parts-follows.ensures.parts ∙ ap (λ t. followed sets t c.parts-follows.result.0.now) c.if-follows-tail.true ∙ ap (followed sets c.args.tail) same,
    )
