use Rattle.std.proofs.Common.{◌≡◌, take}
use Rattle.std.specs.Prelude.{All}
use Rattle.nc_read_policy.proofs.parts.run_len.Given as goal

abbrev pub invariant-loop-count : goal.invariant-loop-count
invariant-loop-count l = All (λ e. e.seq ≡ l.seq) (take l.count l.entries)
