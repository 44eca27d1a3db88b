use Rattle.std.proofs.Common.{◌≤◌, ap, Option, ℕ, ◌∙◌, arith}
use Rattle.std.specs.Prelude.{position}
use Rattle.nc_policy.specs.Indexes.{is_shorter, lower_of}
use Rattle.nc_policy.proofs.Spots.{one_more, none_shorter, all_shorter}
use Rattle.nc_policy.proofs.index.ListIndex.deciding.Goals as goal

pub lengths-init : goal.lengths-init
lengths-init c = λ entries is. none_shorter c.args.prefix entries

pub lengths-preserved : goal.lengths-preserved
lengths-preserved c = λ entries is.
    let p = c.args.prefix in
    let len = c.lengths.len in
    c.lower_of-best.ensures
    ∙ ap (λ (o : Option ℕ). lower_of o c.entry_around.result) (c.lengths.invariant entries is)
    ∙ ap (lower_of (position (is_shorter len p) entries)) (c.entry_around.ensures.entry entries is)
    ∙ one_more p len entries is.valid

pub returns : goal.returns
returns c = λ entries is.
    let all : 33 ≤ c.lengths.len = omega arith in
    c.lengths.invariant entries is ∙ all_shorter c.args.prefix c.lengths.len all entries is.valid
