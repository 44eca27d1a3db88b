use Rattle.std.proofs.Common.{◌≡◌, ◌≤◌, ◌<◌, take, drop, length, vec_len}
use Rattle.std.specs.Prelude.{All}
use Rattle.nc_lines.specs.Parts.{numbered}
use Rattle.nc_read_link.specs.Interfaces.{interface_in}
use Rattle.nc_read_link.specs.Drafts.{finished}
use Rattle.nc_read_link.proofs.interfaces.read_interface.Given as goal

abbrev pub invariant-lines : goal.invariant-lines
invariant-lines l = record {
  rest : finished l.fn.name (take l.kept l.own.items) l.draft (numbered l.lines (drop l.index l.own.items)) ≡ interface_in l.fn.name (numbered l.lines l.fn.block.lines.items);
  exist : All (λ k. (0 < k) × (k ≤ length l.lines)) (drop l.index l.own.items);
  kept : l.kept ≤ l.index;
  len : vec_len l.own ≡ vec_len l.initial.own;
}
