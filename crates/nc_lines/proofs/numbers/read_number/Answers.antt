use Rattle.std.proofs.Common.{◌≡◌, ◌≢◌, ◌+◌, ◌-◌, ◌*◌, Some, ◌<◌, false, length, get_or, drop, sym, ap, ◌∙◌, arith}
use Rattle.std.specs.List.{list_all}
use Rattle.std.proofs.lemmas.Bool.{eqb-true, eqb-false, and_left}
use Rattle.std.proofs.lemmas.List.{at_drop_more, at_drop_all}
use Rattle.nc_lines.specs.Numbers.{is_digit, value_after}
use Rattle.nc_lines.proofs.NumberLemmas.{value_after-ge, number_of-nothing, number_of-zero_first, number_of-no_digit, number_of-large, number_of-digits}
use Rattle.nc_lines.proofs.numbers.read_number.Goals as goal
use Rattle.nc_lines.proofs.numbers.read_number.Goals.{else-word-gt1-via-then-word-gt1+else-word-eq48, else-word-gt1-via-else-word-gt1}

pub returns-then-is_empty-clause-number : goal.returns-then-is_empty-clause-number
returns-then-is_empty-clause-number c = sym (number_of-nothing _ _ (eqb-true _ _ (sym c.is_empty.ensures ∙ c.if-is_empty.true)))

pub returns-then-word-eq48-clause-number : goal.returns-then-word-eq48-clause-number
returns-then-word-eq48-clause-number c = sym (number_of-zero_first _ _ c.if-word-gt1.true c.if-word-eq48.true)

pub returns-then-not-is_ascii_digit-clause-number : goal.returns-then-not-is_ascii_digit-clause-number
returns-then-not-is_ascii_digit-clause-number c =
    let w = c.args.word.now in
    let i = c.loop-digit.digit-index in
    let no_digit : is_digit (get_or w i 0) ≡ false = sym c.is_ascii_digit.ensures.value ∙ c.if-not-is_ascii_digit.true in
    sym (number_of-no_digit _ w (sym c.loop-digit.invariant.digits ∙ at_drop_more (list_all is_digit) w i 0 c.loop-digit-test.true ∙ and_left _ (list_all is_digit (drop (i + 1) w)) no_digit))

pub returns-then-value-from-clause-number : goal.returns-then-value-from-clause-number
returns-then-value-from-clause-number c =
    let w = c.args.word.now in
    let i = c.loop-digit.digit-index in
    let step : value_after (10 * c.loop-digit.value + (get_or w i 0 - 48)) (drop (i + 1) w) ≡ value_after 0 w = sym (at_drop_more (value_after c.loop-digit.value) w i 0 c.loop-digit-test.true) ∙ c.loop-digit.invariant.value in
    sym (number_of-large _ w (omega (arith, value_after-ge (10 * c.loop-digit.value + (get_or w i 0 - 48)) (drop (i + 1) w))))

pub returns-clause-number : goal.returns-clause-number
returns-clause-number c =
    let w = c.args.word.now in
    let i = c.loop-digit.digit-index in
    let all = sym c.loop-digit.invariant.digits ∙ at_drop_all (list_all is_digit) w i c.loop-digit-test.false in
    let value = sym c.loop-digit.invariant.value ∙ at_drop_all (value_after c.loop-digit.value) w i c.loop-digit-test.false in
    let some : length w ≡ 0 → ⊥ = eqb-false _ _ (sym c.is_empty.ensures ∙ c.if-is_empty.false) in
    let first : 1 < length w → get_or w 0 0 ≢ 48 = elim c.else-word-gt1.branch [
      | else-word-gt1-via-then-word-gt1+else-word-eq48 v ↦ λ long. v.if-word-eq48.false
      | else-word-gt1-via-else-word-gt1 v ↦ λ long. absurd (let short = v.if-word-gt1.false in omega arith)
    ] in
    sym (number_of-digits c.args.most w (omega arith) first all (omega (arith, value, c.loop-digit.invariant.within)) ∙ ap Some value)
