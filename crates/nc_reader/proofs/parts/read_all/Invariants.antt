use Rattle.std.proofs.Common.{◌≡◌, ◌++◌, List, All, length}
use Rattle.std.specs.Prelude.{Result}
use Rattle.std.specs.Vec.Iter.{into_iter_items, into_iter_len}
use Rattle.nc_types.specs.declared.fault.Fault.{Fault}
use Rattle.nc_types.specs.Faults.{lowest}
use Rattle.nc_reader.specs.Gathering.{IsLine}
use Rattle.nc_reader.specs.Parts.{IsLowest, AreRead, parts_by}
use Rattle.nc_reader.specs.Things.{Part}
use Rattle.nc_reader.proofs.parts.read_all.Given as goal

abbrev pub invariant-topics : goal.invariant-topics
invariant-topics l = record {
  -- what was read, and what the topics and blocks that are left make, is all
  read : (rs : List (Result Part Fault)) × (AreRead l.parts.items rs) × ((fs : List Fault) → l.initial.told ≡ lowest fs → IsLowest fs l.told rs)
      × (rs ++ parts_by l.lines l.process l.topic-iterator (into_iter_items l.left) ≡ parts_by l.lines l.process l.fn.topics.keys l.fn.blocks.items);
  len : into_iter_len l.left ≡ length (into_iter_items l.left);
  exist : All (λ b. All (IsLine l.lines) b.lines.items) (into_iter_items l.left);
}
