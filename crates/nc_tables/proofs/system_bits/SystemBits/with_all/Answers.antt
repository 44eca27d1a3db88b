use Rattle.std.proofs.Common.{◌==◌, ◌%◌, ◌||◌, get_or, take, take_all, sym, ap, ◌∙◌}
use Rattle.std.proofs.lemmas.List.Folds.{list_any_more}
use Rattle.nc_tables.specs.SystemBits.{any_alike, has_bit}
use Rattle.nc_tables.proofs.Remainders.{one_more}
use Rattle.nc_tables.proofs.system_bits.SystemBits.with_all.Goals as goal

pub numbers-preserved : goal.numbers-preserved
numbers-preserved c n =
    let old = has_bit c.args.self n in
    let x = get_or c.args.numbers.now c.numbers.number-index 0 % 256 == n % 256 in
    c.with-bits.ensures n
    ∙ ap (λ b. x || b) (c.numbers.invariant n)
    ∙ one_more x (any_alike n (take c.numbers.number-index c.args.numbers.now)) old
    ∙ ap (λ b. b || old) (sym (list_any_more (λ m. m % 256 == n % 256) c.args.numbers.now c.numbers.number-index 0 c.numbers-test.true))

pub returns : goal.returns
returns c n = c.numbers.invariant n ∙ ap (λ ns. any_alike n ns || has_bit c.args.self n) (take_all c.numbers.number-index c.args.numbers.now c.numbers-test.false)
