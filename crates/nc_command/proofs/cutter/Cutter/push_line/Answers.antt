use Rattle.std.proofs.Common.{◌∙◌, ap}
use Rattle.nc_command.specs.Cutting.{cut_of}
use Rattle.nc_command.proofs.CutLemmas.{cut_front}
use Rattle.nc_command.proofs.cutter.Cutter.push_line.Goals as goal

pub returns-in_default-clause-pushes : goal.returns-in_default-clause-pushes
returns-in_default-clause-pushes c = record {
  none = c.in_default.ensures;
  held = c.in_ok-hold.ensures.held;
}

pub returns-clause-pushes : goal.returns-clause-pushes
returns-clause-pushes c = record {
  front = c.in-Some.front.now;
  parts = c.in-Some.ensures.parts;
  first = c.in-Some.ensures.first;
  is_cut = c.cut_held.ensures.line ∙ ap cut_of c.in_ok-hold-2.ensures.held ∙ cut_front _;
  emptied = c.cut_held.ensures.emptied;
}
