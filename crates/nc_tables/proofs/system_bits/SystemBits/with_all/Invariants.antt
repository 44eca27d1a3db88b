use Rattle.std.proofs.Common.{◌≡◌, ◌||◌, ℕ, take}
use Rattle.nc_tables.specs.SystemBits.{any_alike, has_bit}
use Rattle.nc_tables.proofs.system_bits.SystemBits.with_all.Given as goal

abbrev pub invariant-numbers : goal.invariant-numbers
invariant-numbers l = (n : ℕ) → has_bit l.bits n ≡ (any_alike n (take l.number-index l.numbers) || has_bit l.fn.self n)
