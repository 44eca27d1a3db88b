use Rattle.std.proofs.Common.{◌≡◌, ◌≤◌}
use Rattle.nc_types.specs.Masks.{mask_len_below, mask_len_of}
use Rattle.nc_types.proofs.addr.mask_len.Given as goal

abbrev pub invariant-lengths : goal.invariant-lengths
invariant-lengths l = record {
  same : mask_len_below l.len l.mask.0 ≡ mask_len_of l.mask.0;
  within : l.len ≤ 33;
}

abbrev pub decreases-lengths : goal.decreases-lengths
decreases-lengths l = l.len
