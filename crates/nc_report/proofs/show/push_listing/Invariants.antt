use Rattle.std.proofs.Common.{◌≡◌, ◌+◌, ◌++◌}
use Rattle.std.specs.List.{flat_map}
use Rattle.nc_report.specs.Counters.{IsFront}
use Rattle.nc_report.specs.Texts.{places, shown_at}
use Rattle.nc_report.proofs.show.push_listing.Given as goal

-- the lines so far are shown
abbrev pub invariant-lines : goal.invariant-lines
invariant-lines l = record {
  out : l.out.items ≡ l.fn.out.items ++ flat_map (shown_at l.letters l.lines) (places l.place);
  is : IsFront l.front;
  number : l.front.number ≡ l.place + 1;
}
