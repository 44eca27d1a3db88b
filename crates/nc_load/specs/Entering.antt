-- Which files are entered, and what is left of them.
use Rattle.std.specs.Prelude.{◌≡◌, ◌⊎◌, ℕ, ◌+◌, List, ◌∷◌, ◌++◌, Option, None, Some, IfSome, Ok}
use Rattle.nc_types.specs.Config.{ConfigView}
use Rattle.nc_outside.specs.Named.{Named, content_of}
use Rattle.nc_outside.specs.Counts.{Entries, entries_after}
use Rattle.nc_lines.specs.WholeLines.{all_but_last}
use Rattle.nc_load.specs.Limits.{most_file_bytes}
use Rattle.nc_load.specs.Load.{load_each}
use Rattle.nc_load.specs.Reading.{TakesAtMost}

-- a file is entered in its turn: it is named at a place, and all files before it were loaded
pub record EntersInTurn (names : List (List ℕ)) (files : Option (List Named)) (name : List ℕ) : Type 0 where
  pub before : List (List ℕ)
  pub behind : List (List ℕ)
  pub place : names ≡ before ++ name ∷ behind
  pub loaded : IfSome files (λ fs. (routers : List ConfigView) × (load_each fs before ≡ Ok routers))

-- the entered file is as before, or it is one of these names, in its turn
abbrev pub IsInTurn : List (List ℕ) → Option (List Named) → Option (List ℕ) → Option (List ℕ) → Type 0
IsInTurn names files before now = (now ≡ before) ⊎ IfSome now (EntersInTurn names files)

-- files were entered each once and in order: those in front of these names, and all but the last of them were loaded
pub record EntersEach (names : List (List ℕ)) (files : Option (List Named)) (before now : Entries) : Type 0 where
  pub entered : List (List ℕ)
  pub others : List (List ℕ)
  pub parts : names ≡ entered ++ others
  pub entries : now ≡ entries_after entered before
  pub loaded : IfSome files (λ fs. (routers : List ConfigView) × (load_each fs (all_but_last entered) ≡ Ok routers))

-- where the files are told, what is left of the entered one is its content less at most one byte more than is read of a file
abbrev pub TakesOfEntered : Option (List Named) → Option (List ℕ) → Option (List ℕ) → Type 0
TakesOfEntered None entered left = Unit {0}
TakesOfEntered (Some files) None left = Unit {0}
TakesOfEntered (Some files) (Some name) None = Unit {0}
TakesOfEntered (Some files) (Some name) (Some left) =
    (content : List ℕ) × (content_of files name ≡ Some content) × TakesAtMost (most_file_bytes + 1) (Some content) (Some left)

-- the file entered before is entered still and nothing was taken of it, or of the one that is entered now no more was taken
-- than is read of a file
abbrev pub TakesOfFiles : Option (List Named) → Option (List ℕ) → Option (List ℕ) → Option (List ℕ) → Option (List ℕ) → Type 0
TakesOfFiles files before left_before now left_now =
    ((now ≡ before) × (left_now ≡ left_before)) ⊎ TakesOfEntered files now left_now
