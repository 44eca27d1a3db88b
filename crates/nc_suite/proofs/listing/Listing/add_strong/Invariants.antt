use Rattle.std.proofs.Common.{◌≡◌, ◌<◌, ℕ, take}
use Rattle.std.specs.List.{list_any}
use Rattle.nc_marks.specs.Kept.{strong_at}
use Rattle.nc_marks.specs.Sets.{has}
use Rattle.nc_marks.specs.declared.mark.Mark.TheVariants.{Strong}
use Rattle.nc_suite.specs.Counts.{mark_in, marked_if, over}
use Rattle.nc_suite.proofs.listing.Listing.add_strong.Given as goal

abbrev pub invariant-nodes : goal.invariant-nodes
invariant-nodes l = record {
  width : l.self.width ≡ l.initial.self.width;
  marks : (e : ℕ) → e < l.initial.self.width → mark_in l.self.touches e
      ≡ over (mark_in l.initial.self.touches e) (marked_if (list_any (λ p. has (strong_at l.marks p.0) e) (take l.node-index l.nodes)) Strong);
}
