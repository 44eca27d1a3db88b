use Rattle.std.proofs.Common.{◌≡◌, drop}
use Rattle.nc_reader.specs.Topics.{process_among}
use Rattle.nc_reader.proofs.parts.process_among.Given as goal

abbrev pub invariant-topics : goal.invariant-topics
invariant-topics l = (process_among (drop l.topic-index l.topics) ≡ process_among l.topics)
