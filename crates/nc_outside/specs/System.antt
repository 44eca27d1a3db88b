-- The adapters over the system, as a caller sees them.
use Rattle.std.specs.Prelude.{ℕ, Bool, false, List, Option}
use Rattle.nc_outside.specs.declared.end.End.{End}
use Rattle.nc_outside.specs.Counts.{Faults}

-- files of the system: whether one is entered, what is left of it where its reader tells that, the count of faults, how
-- often files were entered, and the end
pub record FolderState : Type 0 where
  pub is_entered : Bool
  pub told : Option (List ℕ)
  pub faults : ℕ
  pub entries : ℕ
  pub end : End

-- a reader of the system: its bytes where it tells them, the count of faults, and the end
pub record ReaderState : Type 0 where
  pub told : Option (List ℕ)
  pub faults : ℕ
  pub end : End

-- a writer of the system: its bytes where it tells them, and the count of faults
pub record WriterState : Type 0 where
  pub told : Option (List ℕ)
  pub faults : ℕ

-- the system may always fail
abbrev pub failing : ℕ → Faults
failing count = record { count = count; is_steady = false }
