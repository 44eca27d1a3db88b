use Rattle.std.proofs.Common.{◌≡◌, ◌≢◌, ◌<◌, ℕ, List, ◌++◌, Some, true, length, take, get_or, sym, ap, ◌∙◌, arith}
use Rattle.std.proofs.lemmas.List.{take-append-drop, length-take, get_or-take}
use Rattle.nc_lines.specs.Numbers.{is_digit}
use Rattle.nc_lines.proofs.NumberLemmas.{number_of-digits}
use Rattle.nc_read_policy.proofs.FrontLemmas.{value_more, digits_more}
use Rattle.nc_read_policy.proofs.fronts.cut_number.Goals as goal
use Rattle.nc_read_policy.proofs.fronts.cut_number.Goals.{else-len-gt1-via-then-len-gt1+else-text-eq48, else-len-gt1-via-else-len-gt1}

pub digits-preserved : goal.digits-preserved
digits-preserved c =
    let t = c.args.text.now in
    let i = c.digits.len in
    let digit : is_digit (get_or t i 0) ≡ true = sym c.is_ascii_digit.ensures.value ∙ c.if-is_ascii_digit.true in
    let more = value_more t i c.digits.value c.digits-test.true c.digits.invariant.value in
    record {
      value = omega (arith, more, c.from.ensures);
      digits = digits_more t i c.digits-test.true c.digits.invariant.digits digit;
      within = omega (arith, c.if-value-from.false, c.from-in-digits.ensures);
      len = omega (arith, c.digits-test.true);
    }

pub returns-clause-read : goal.returns-clause-read
returns-clause-read c =
    let t = c.args.text.now in
    let i = c.digits.len in
    let len : length (take i t) ≡ i = omega (arith, length-take i t, c.digits.invariant.len) in
    let head : 1 < i → get_or (take i t) 0 0 ≡ get_or t 0 0 = λ long. get_or-take i t 0 0 (omega arith) in
    let first : 1 < length (take i t) → get_or (take i t) 0 0 ≢ 48 = elim c.else-len-gt1.branch [
      | else-len-gt1-via-then-len-gt1+else-text-eq48 w ↦ λ long zero. w.if-text-eq48.false (sym (head w.if-len-gt1.true) ∙ zero)
      | else-len-gt1-via-else-len-gt1 w ↦ λ long. absurd (let short = w.if-len-gt1.false in omega arith)
    ] in
    record {
      word = take i t;
      whole = sym (take-append-drop i t) ∙ ap (λ (bs : List ℕ). take i t ++ bs) (sym c.split_at.ensures.back);
      writes = number_of-digits c.args.most (take i t) (omega arith) first c.digits.invariant.digits (omega (arith, c.digits.invariant.value, c.digits.invariant.within)) ∙ ap Some c.digits.invariant.value;
    }
