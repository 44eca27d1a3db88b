use Rattle.std.proofs.Common.{◌≡◌, ◌++◌, sym, ap, ◌∙◌, length, arith}
use Rattle.nc_tables.specs.Pieces.{shared_numbers}
use Rattle.nc_tables.proofs.SamePath.{same_front, same_own, same_behind, alike, unlike}
use Rattle.nc_tables.proofs.path.Path.is_same.Goals as goal

pub returns-then-ne : goal.returns-then-ne
returns-then-ne c = (
  (λ e. absurd cc),
  (λ same. absurd (unlike c.own.result.now c.own-2.result.now (sym c.if-ne.true ∙ c.ne.ensures) (own same))),
)
  where
    as_long : length c.own.result.now ≡ length c.own-2.result.now
    as_long = ap length c.own.ensures
        ∙ same_own c.self.inside.numbers c.self.inside.start c.self.inside.count c.self.inside.rest c.self.invariant
        c.other.inside.numbers c.other.inside.start c.other.inside.count c.other.inside.rest c.other.invariant (omega arith)
        ∙ sym (ap length c.own-2.ensures)

    own : c.args.self.now ≡ c.args.other.now → c.own.result.now ≡ c.own-2.result.now
    own same = same_front c.own.result.now c.own-2.result.now (shared_numbers c.self.inside.rest) (shared_numbers c.other.inside.rest) as_long
        (ap (λ x. x ++ shared_numbers c.self.inside.rest) c.own.ensures ∙ c.self.view_is ∙ same ∙ sym c.other.view_is
        ∙ sym (ap (λ x. x ++ shared_numbers c.other.inside.rest) c.own-2.ensures))

pub returns : goal.returns
returns c =
    let own = alike c.own.result.now c.own-2.result.now (sym c.if-ne.false ∙ c.ne.ensures) in
    let both = same_behind c.own.result.now c.own-2.result.now (shared_numbers c.self.inside.rest) (shared_numbers c.other.inside.rest) own in
    let left = ap (λ x. x ++ shared_numbers c.self.inside.rest) c.own.ensures ∙ c.self.view_is in
    let right = ap (λ x. x ++ shared_numbers c.other.inside.rest) c.own-2.ensures ∙ c.other.view_is in (
      (λ e. sym left ∙ both.0 (c.are_same.ensures.0 e) ∙ right),
      (λ same. c.are_same.ensures.1 (both.1 (left ∙ same ∙ sym right))),
    )
