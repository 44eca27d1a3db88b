use Rattle.std.proofs.Common.{◌<◌, ◌∙◌, arith, ap, Some, None, Option, ℕ, if◌then◌else◌, ◌&&◌, ◌==◌}
use Rattle.std.specs.Option.{option_or}
use Rattle.nc_types.specs.Cidr.{same_prefix}
use Rattle.nc_policy.specs.Indexes.{is_at}
use Rattle.nc_policy.specs.Seen.{spot_in}
use Rattle.nc_policy.proofs.Spots.{no_lengths, more_lengths, all_lengths}
use Rattle.nc_policy.proofs.index.put.Goals as goal

pub lengths-init : goal.lengths-init
lengths-init c = λ q n.
    let entry = c.args.entry.now in
    no_lengths (same_prefix entry.prefix q) entry.low entry.high n c.args.place (spot_in c.args.items.now.items q n)

pub lengths-preserved : goal.lengths-preserved
lengths-preserved c = λ q n.
    let at = is_at q n c.args.entry.now in
    let len = c.lengths.len in
    c.in_ok-put_at.ensures q n
    ∙ ap (λ (o : Option ℕ). option_or o (if (n == len) && at then Some c.args.place else None)) (c.lengths.invariant q n)
    ∙ more_lengths at len n c.args.place (spot_in c.args.items.now.items q n)

pub returns : goal.returns
returns c = λ q n few.
    let entry = c.args.entry.now in
    c.lengths.invariant q n ∙ all_lengths (same_prefix entry.prefix q) entry.low entry.high c.lengths.len n c.args.place (spot_in c.args.items.now.items q n)
    (λ most. let lt : n < c.length_behind-len-end.result = c.length_behind-len-end.ensures n few most in omega arith)
