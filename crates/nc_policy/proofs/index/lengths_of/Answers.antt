use Rattle.std.proofs.Common.{◌<◌, ◌≤◌, length, ◌∙◌, arith}
use Rattle.std.proofs.lemmas.List.{length-set}
use Rattle.nc_policy.proofs.Spots.{one_noted, one_valid}
use Rattle.nc_policy.proofs.index.lengths_of.Goals as goal

pub entries-preserved : goal.entries-preserved
entries-preserved c =
    let entries = c.args.entries.now in
    let lengths = c.entries.lengths in
    let entry = c.entry-item.result in
    let place = c.entries.entry-index in
    let few : entry.prefix.len ≤ 32 = c.len.ensures.valid.within in
    let within : c.len.result < length lengths = omega (arith, few, c.len.ensures.len, c.entries.invariant.count) in
    record {
      count = length-set lengths c.len.result _ ∙ c.entries.invariant.count;
      lengths = one_noted lengths entries place entry c.len.result c.entry-item.is c.entries-test.true c.len.ensures.len within c.entries.invariant.lengths;
      valid = one_valid entries place entry c.entry-item.is c.entries-test.true c.len.ensures.valid c.entries.invariant.valid;
    }
