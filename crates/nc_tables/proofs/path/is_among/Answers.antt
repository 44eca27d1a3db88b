use Rattle.std.proofs.Common.{◌==◌, sym, ap, subst, ◌∙◌}
use Rattle.std.specs.List.{list_any}
use Rattle.nc_tables.specs.declared.path.Piece.{out-Piece}
use Rattle.nc_tables.specs.Pieces.{piece_numbers, shared_numbers, IsPiece}
use Rattle.nc_tables.proofs.SamePath.{pieces_on}
use Rattle.nc_tables.proofs.PieceBits.{absent, behind_piece, in_piece}
use Rattle.nc_tables.proofs.path.is_among.Goals as goal

pub returns-then-not-has : goal.returns-then-not-has
returns-then-not-has c =
    let is = subst IsPiece (sym c.deref.ensures) (c.pieces.invariant.pieces c.in-Some.piece c.in-Some.is) in
    let none = absent c.deref.result.now c.args.number is (sym c.has.ensures ∙ c.if-not-has.true) in
    sym (c.pieces.invariant.found ∙ ap (λ r. list_any (λ n. n == c.args.number) (shared_numbers r)) c.in-Some.is
    ∙ ap (λ p. list_any (λ n. n == c.args.number) (piece_numbers p)) (sym c.deref.ensures) ∙ none)

pub returns-then-contains : goal.returns-then-contains
returns-then-contains c =
    let some = in_piece c.deref-in-Some.result.now c.args.number (sym c.contains.ensures.value ∙ c.if-contains.true) in
    sym (c.pieces.invariant.found ∙ ap (λ r. list_any (λ n. n == c.args.number) (shared_numbers r)) c.in-Some.is
    ∙ ap (λ p. list_any (λ n. n == c.args.number) (piece_numbers p)) (sym c.deref-in-Some.ensures) ∙ some)

pub pieces-preserved : goal.pieces-preserved
pieces-preserved c =
    let left = behind_piece c.deref-in-Some.result.now c.args.number (sym c.contains.ensures.value ∙ c.if-contains.false) in
    record {
      found = c.pieces.invariant.found ∙ ap (λ r. list_any (λ n. n == c.args.number) (shared_numbers r)) c.in-Some.is
          ∙ ap (λ p. list_any (λ n. n == c.args.number) (piece_numbers p)) (sym c.deref-in-Some.ensures) ∙ left
          ∙ ap (λ p. list_any (λ n. n == c.args.number) (shared_numbers (out-Piece p).rest)) (c.deref-in-Some.ensures ∙ sym c.deref-in-Some-2.ensures);
      pieces = pieces_on c.deref-in-Some-2.result.now (subst IsPiece (sym c.deref-in-Some-2.ensures) (c.pieces.invariant.pieces c.in-Some.piece c.in-Some.is));
    }

pub returns : goal.returns
returns c = sym (c.pieces.invariant.found ∙ ap (λ r. list_any (λ n. n == c.args.number) (shared_numbers r)) c.in_default.is)
