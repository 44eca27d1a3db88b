use Rattle.std.proofs.Common.{◌≡◌, ◌+◌, ℕ, ◌∷◌, Option, drop, length, sym, ap, ◌∙◌, arith}
use Rattle.std.specs.Prelude.{unwrap_or, slice_range}
use Rattle.std.proofs.lemmas.Bool.{eqb-true, eqb-false}
use Rattle.std.proofs.lemmas.List.{nil_from_length, length-drop}
use Rattle.nc_lines.specs.Lines.{lines_of, without_return}
use Rattle.nc_lines.proofs.LineLemmas.{lines_of-nil}
use Rattle.nc_lines.proofs.PlaceLemmas.{line_within, line_placed}
use Rattle.nc_lines.proofs.split.line_from.Goals as goal

pub returns-then-is_empty-clause-line : goal.returns-then-is_empty-clause-line
returns-then-is_empty-clause-line c = ap lines_of (sym c.split_at.ensures.back ∙ nil_from_length _ (eqb-true _ _ (sym c.is_empty.ensures ∙ c.if-is_empty.true))) ∙ lines_of-nil

pub overflow_cast-span-2 : goal.overflow_cast-span-2
overflow_cast-span-2 c =
    let line = line_within c.split_at.result.1.now c.trim_return-line.result.now _ (c.trim_return-line.ensures ∙ ap without_return c.split_at-2.ensures.front) in
    let len = ap length c.split_at.ensures.back ∙ length-drop c.args.from c.args.bytes.now in
    omega (arith, line, len, c.requires.begins, c.requires.fits)

pub returns-clause-line : goal.returns-clause-line
returns-clause-line c =
    let some : length c.split_at.result.1.now ≡ 0 → ⊥ = eqb-false _ _ (sym c.is_empty.ensures ∙ c.if-is_empty.false) in
    line_placed c.args.bytes.now c.split_at.result.1.now c.trim_return-line.result.now c.args.from _ c.split_at.ensures.back (omega arith) (c.unwrap_or-end.ensures ∙ ap (λ (o : Option ℕ). unwrap_or o (length c.split_at.result.1.now)) c.place_of.ensures) (c.trim_return-line.ensures ∙ ap without_return c.split_at-2.ensures.front) ∙ ap (λ (next : ℕ). slice_range c.args.bytes.now c.args.from (c.args.from + length c.trim_return-line.result.now) ∷ lines_of (drop next c.args.bytes.now)) (sym c.min.ensures)

pub returns-clause-within : goal.returns-clause-within
returns-clause-within c =
    let line = line_within c.split_at.result.1.now c.trim_return-line.result.now _ (c.trim_return-line.ensures ∙ ap without_return c.split_at-2.ensures.front) in
    let len = ap length c.split_at.ensures.back ∙ length-drop c.args.from c.args.bytes.now in
    (omega arith, omega (arith, line, len, c.requires.begins))
