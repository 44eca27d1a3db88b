use Rattle.std.proofs.Common.{◌∙◌}
use Rattle.nc_policy.specs.Seen.{spot_at}
use Rattle.nc_policy.proofs.Spots.{spot_seen}
use Rattle.nc_policy.proofs.index.ListIndex.new.Goals as goal

pub returns : goal.returns
returns c = record {
  answers = λ q n few. spot_seen c.in_ok-first.first q n ∙ c.in_ok-first.ensures (spot_at q n) ∙ c.in_ok-items.ensures q n few;
  lengths = c.lengths_of-lengths.ensures.lengths;
  valid = c.lengths_of-lengths.ensures.valid;
}
