-- What of a trial's objects fails.
use Rattle.std.specs.Prelude.{ℕ, List, [], ◌∷◌}
use Rattle.nc_trials.specs.declared.trial.Failing.{Failing}
use Rattle.nc_trials.specs.declared.trial.Failing.TheVariants.{Nothing, Files, Read, Write, Room}

-- the numbers of the calls of the files that fail
abbrev pub file_calls_of : Failing → List ℕ
file_calls_of Nothing = []
file_calls_of (Files number) = number ∷ []
file_calls_of (Read _) = []
file_calls_of (Write _) = []
file_calls_of (Room _) = []

-- the numbers of the reads that fail
abbrev pub reads_of : Failing → List ℕ
reads_of Nothing = []
reads_of (Files _) = []
reads_of (Read number) = number ∷ []
reads_of (Write _) = []
reads_of (Room _) = []

-- the numbers of the writes that fail
abbrev pub writes_of : Failing → List ℕ
writes_of Nothing = []
writes_of (Files _) = []
writes_of (Read _) = []
writes_of (Write number) = number ∷ []
writes_of (Room _) = []

-- how many bytes the sink takes, of which all replies of a run have fewer unless that is what fails
abbrev pub room_of : Failing → ℕ
room_of Nothing = 524288
room_of (Files _) = 524288
room_of (Read _) = 524288
room_of (Write _) = 524288
room_of (Room room) = room
