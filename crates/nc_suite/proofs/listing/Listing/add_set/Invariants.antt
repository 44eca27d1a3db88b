use Rattle.std.proofs.Common.{◌≡◌, ◌<◌, ℕ, take}
use Rattle.nc_marks.specs.Sets.{has}
use Rattle.nc_marks.specs.declared.mark.Mark.TheVariants.{Strong}
use Rattle.nc_suite.specs.Counts.{mark_in, marked_if, over}
use Rattle.nc_suite.proofs.listing.Listing.add_set.Given as goal

abbrev pub invariant-elements : goal.invariant-elements
invariant-elements l = record {
  width : l.self.width ≡ l.initial.self.width;
  marks : (e : ℕ) → e < l.initial.self.width → mark_in l.self.touches e ≡ over (mark_in l.initial.self.touches e) (marked_if (has (take l.element-index l.set) e) Strong);
}
