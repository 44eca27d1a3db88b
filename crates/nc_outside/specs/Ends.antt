-- The end of what is read: whether it was told, and how many reads came behind it.
use Rattle.std.specs.Prelude.{ℕ, ◌==◌, ◌&&◌, ◌||◌, Bool, false, nat_lt, Result, Ok, Err, if◌then◌else◌}
use Rattle.nc_outside.specs.declared.end.End.{End}
use Rattle.nc_outside.specs.Counts.{one_more}

-- whether a read into so much room told the end: it gave nothing, and had room
abbrev pub tells_end : {E : Type 0} → ℕ → Result ℕ E → Bool
tells_end room (Ok count) = nat_lt 0 room && count == 0
tells_end room (Err failed) = false

-- the end after a read: one that came after it was told is late
abbrev pub end_after : {E : Type 0} → ℕ → Result ℕ E → End → End
end_after room result end = record {
  is_told = end.is_told || tells_end room result;
  late = if end.is_told then one_more end.late else end.late;
}

-- the end after a file was entered, or none: nothing of it is read yet
abbrev pub end_entered : End → End
end_entered end = record { is_told = false; late = end.late }
