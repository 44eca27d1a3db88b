use Rattle.std.proofs.Common.{◌≡◌, ◌++◌, [], sym, ap, subst, ◌∙◌}
use Rattle.std.specs.Option.{option_map_or}
use Rattle.nc_tables.specs.Pieces.{piece_numbers, IsPiece}
use Rattle.nc_tables.proofs.Walk.{first_passed, piece_first, piece_left}
use Rattle.nc_tables.proofs.path.Numbers.pass.Goals as goal

pub returns-in-Some-clause-first : goal.returns-in-Some-clause-first
returns-in-Some-clause-first c =
    (first_passed c.in-Some.first.now c.in-Some.others.now c.self.inside.own.now _ c.args.self.now (c.in-Some.ensures).cases.0 c.self.view_is).0

pub returns-in-Some-clause-left : goal.returns-in-Some-clause-left
returns-in-Some-clause-left c =
    (first_passed c.in-Some.first.now c.in-Some.others.now c.self.inside.own.now _ c.args.self.now (c.in-Some.ensures).cases.0 c.self.view_is).1

here : (c : goal.After-result-1) → IsPiece c.deref-piece.result.now
here c = subst IsPiece (sym c.deref-piece.ensures) (c.self.invariant c.in-Some-rest.piece c.in-Some-rest.is)

view : (c : goal.After-result-1) → c.self.inside.own.now ++ piece_numbers c.deref-piece.result.now ≡ c.args.self.now
view c =
    ap (λ p. c.self.inside.own.now ++ piece_numbers p) c.deref-piece.ensures
    ∙ sym (ap (λ rest. c.self.inside.own.now ++ option_map_or (λ piece. piece_numbers piece.now.value) rest []) c.in-Some-rest.is)
    ∙ c.self.view_is

pub returns-clause-first : goal.returns-clause-first
returns-clause-first c = piece_first c.deref-piece.result.now (here c) c.self.inside.own.now c.args.self.now (c.in_default.ensures).cases (view c)

pub returns-clause-left : goal.returns-clause-left
returns-clause-left c =
    piece_left c.deref-piece.result.now (here c) c.self.inside.own.now c.args.self.now (c.in_default.ensures).cases (view c)
    c.as_ref-self-inside.result c.as_ref-self-inside.ensures.value
