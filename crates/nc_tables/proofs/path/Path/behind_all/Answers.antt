use Rattle.std.proofs.Common.{◌≡◌, ◌++◌, ap, drop, ◌∙◌, arith}
use Rattle.nc_tables.proofs.LongerPath.{room_left, one_before}
use Rattle.nc_tables.proofs.path.Path.behind_all.Goals as goal

pub behind-requires : goal.behind-requires
behind-requires c =
    room_left c.args.numbers.now c.args.self c.numbers.path c.numbers.place c.numbers-test.true c.numbers.invariant.0 c.numbers.invariant.1 c.requires

pub numbers-preserved : goal.numbers-preserved
numbers-preserved c =
    let more = one_before c.args.numbers.now c.args.self c.numbers.path c.numbers.place c.numbers-test.true c.numbers.invariant.0 c.numbers.invariant.1 0 in
    (omega (arith, c.numbers.invariant.0), c.in_ok-path.ensures ∙ more)

pub returns : goal.returns
returns c =
    let none : c.numbers.place ≡ 0 = omega (arith, c.numbers-test.false) in
    c.numbers.invariant.1 ∙ ap (λ n. drop n c.args.numbers.now ++ c.args.self) none
