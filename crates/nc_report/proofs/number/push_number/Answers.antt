use Rattle.std.proofs.Common.{◌≡◌, ◌+◌, ◌-◌, ◌<◌, ◌≤◌, ◌^◌, ◌%◌, ◌++◌, ◌∙◌, List, ℕ, length, set, drop, append-nil, sym, ap, refl, arith, length-drop}
use Rattle.std.specs.Fmt.{decimal}
use Rattle.std.proofs.lemmas.Fmt.{length-decimal-le}
use Rattle.std.proofs.lemmas.List.{length-set, take_all}
use Rattle.nc_report.proofs.Numbers.{digit-last, digit-more, some-room}
use Rattle.nc_report.proofs.number.push_number.Goals as goal

pub digits-init : goal.digits-init
digits-init c =
    let small : c.args.number < 2 ^ 64 = omega (arith, c.ranges.number.fits) in
    record {
      are = sym (append-nil (decimal c.args.number));
      room = length-decimal-le 20 c.args.number (omega arith) (omega arith) small;
      within = omega arith;
      len = refl;
    }

pub overflow_sub-start : goal.overflow_sub-start
overflow_sub-start c =
    let small : c.digits.rest < 2 ^ 64 = omega (arith, c.digits.auto.rest-fits) in
    let within : c.digits.start ≤ length c.digits.digits = omega (arith, c.digits.invariant.within, c.digits.invariant.len) in
    let some : 0 < c.digits.start = some-room c.args.number c.digits.rest c.digits.start 0 c.digits.digits small c.digits.invariant.are c.digits.invariant.room within in
    omega arith

pub digits-preserved : goal.digits-preserved
digits-preserved c =
    let small : c.digits.rest < 2 ^ 64 = omega (arith, c.digits.auto.rest-fits) in
    let within : c.digits.start ≤ length c.digits.digits = omega (arith, c.digits.invariant.within, c.digits.invariant.len) in
    let big : 10 ≤ c.digits.rest = omega (arith, c.digits-test.true) in
    let more = digit-more c.args.number c.digits.rest c.digits.start (48 + c.digits.rest % 10) c.digits.digits small c.digits.invariant.are c.digits.invariant.room within big refl in
    record {
      are = more.0;
      room = more.1;
      within = omega (arith, c.digits.invariant.within);
      len = length-set c.digits.digits (c.digits.start - 1) (48 + c.digits.rest % 10) ∙ c.digits.invariant.len;
    }

pub overflow_sub-start-2 : goal.overflow_sub-start-2
overflow_sub-start-2 c =
    let small : c.digits.rest < 2 ^ 64 = omega (arith, c.digits.auto.rest-fits) in
    let within : c.digits.start ≤ length c.digits.digits = omega (arith, c.digits.invariant.within, c.digits.invariant.len) in
    let some : 0 < c.digits.start = some-room c.args.number c.digits.rest c.digits.start 0 c.digits.digits small c.digits.invariant.are c.digits.invariant.room within in
    omega arith

pub returns : goal.returns
returns c =
    let small : c.digits.rest < 2 ^ 64 = omega (arith, c.digits.auto.rest-fits) in
    let within : c.digits.start ≤ length c.digits.digits = omega (arith, c.digits.invariant.within, c.digits.invariant.len) in
    let few : c.digits.rest < 10 = omega (arith, c.digits-test.false) in
    let all : List ℕ = set c.digits.digits (c.digits.start - 1) (48 + c.digits.rest) in
    let long : length all ≡ 20 = length-set c.digits.digits (c.digits.start - 1) (48 + c.digits.rest) ∙ c.digits.invariant.len in
    let last : decimal c.args.number ≡ drop (c.digits.start - 1) all
    = digit-last c.args.number c.digits.rest c.digits.start (48 + c.digits.rest) c.digits.digits small c.digits.invariant.are c.digits.invariant.room within few refl in
    c.in_ok-extend_from_slice.ensures.items
    ∙ ap (λ (t : List ℕ). c.args.out.now.items ++ t)
    (take_all (20 - (c.digits.start - 1)) (drop (c.digits.start - 1) all) (omega (arith, length-drop (c.digits.start - 1) all)) ∙ sym last)
