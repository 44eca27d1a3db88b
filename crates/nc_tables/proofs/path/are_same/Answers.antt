use Rattle.std.proofs.Common.{◌≡◌, true, sym, ap, subst, ◌∙◌}
use Rattle.nc_tables.specs.Pieces.{own_numbers, piece_numbers, shared_numbers, IsPiece}
use Rattle.nc_tables.proofs.SamePath.{some_number, same_first, same_rest, pieces_on}
use Rattle.nc_tables.proofs.path.are_same.Goals as goal

pub returns-in-None : goal.returns-in-None
returns-in-None c = (
  (λ e. absurd cc),
  (λ same. absurd (some_number c.in-Some.a.value (c.pieces.invariant.left c.in-Some.a c.in-Some.is)
      (sym (ap shared_numbers c.in-Some.is) ∙ c.pieces.invariant.same.1 same ∙ ap shared_numbers c.in-None.is))),
)

pub returns-in-Some-right-2 : goal.returns-in-Some-right-2
returns-in-Some-right-2 c = (
  (λ e. absurd cc),
  (λ same. absurd (some_number c.in-Some-right-2.field-0.value (c.pieces.invariant.right c.in-Some-right-2.field-0 c.in-Some-right-2.is)
      (sym (ap shared_numbers c.in-Some-right-2.is) ∙ sym (c.pieces.invariant.same.1 same) ∙ ap shared_numbers c.in_default.is))),
)

pub pieces-preserved : goal.pieces-preserved
pieces-preserved c =
    let a = c.deref-in-Some-right-2.result.now in
    let b = c.deref-in-Some-right-3.result.now in
    let own = ap own_numbers (c.deref-in-Some-right-2.ensures ∙ sym c.deref.ensures) ∙ c.is_like.ensures.0 c.if-not-is_like.false
    ∙ ap own_numbers (c.deref-in-Some-right.ensures ∙ sym c.deref-in-Some-right-3.ensures) in
    let left = ap shared_numbers c.in-Some.is ∙ ap piece_numbers (sym c.deref-in-Some-right-2.ensures) in
    let right = ap shared_numbers c.in-Some-right.is ∙ ap piece_numbers (sym c.deref-in-Some-right-3.ensures) in
    record {
      same = (
        (λ same. c.pieces.invariant.same.0 (left ∙ (same_rest a b own).0 same ∙ sym right)),
        (λ same. (same_rest a b own).1 (sym left ∙ c.pieces.invariant.same.1 same ∙ right)),
      );
      left = pieces_on a (subst IsPiece (sym c.deref-in-Some-right-2.ensures) (c.pieces.invariant.left c.in-Some.a c.in-Some.is));
      right = pieces_on b (subst IsPiece (sym c.deref-in-Some-right-3.ensures) (c.pieces.invariant.right c.in-Some-right.b c.in-Some-right.is));
    }

pub returns-then-not-is_like : goal.returns-then-not-is_like
returns-then-not-is_like c = (
  (λ e. absurd cc),
  (λ same. let like : c.is_like.result ≡ true = c.is_like.ensures.1 (own same) in absurd cc),
)
  where
    numbers : shared_numbers c.args.left.now ≡ shared_numbers c.args.right.now → piece_numbers c.deref.result.now ≡ piece_numbers c.deref-in-Some-right.result.now
    numbers same = ap piece_numbers c.deref.ensures ∙ sym (ap shared_numbers c.in-Some.is) ∙ c.pieces.invariant.same.1 same
        ∙ ap shared_numbers c.in-Some-right.is ∙ sym (ap piece_numbers c.deref-in-Some-right.ensures)

    own : shared_numbers c.args.left.now ≡ shared_numbers c.args.right.now → own_numbers c.deref.result.now ≡ own_numbers c.deref-in-Some-right.result.now
    own same = same_first c.deref.result.now c.deref-in-Some-right.result.now
        (subst IsPiece (sym c.deref.ensures) (c.pieces.invariant.left c.in-Some.a c.in-Some.is))
        (subst IsPiece (sym c.deref-in-Some-right.ensures) (c.pieces.invariant.right c.in-Some-right.b c.in-Some-right.is))
        (numbers same)
