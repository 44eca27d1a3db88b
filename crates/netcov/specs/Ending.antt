-- What the program ends with.
use Rattle.std.specs.Prelude.{◌≡◌, ◌≢◌, ℕ, List, MatchOption}
use Rattle.std.specs.declared.io.ErrorKind.{ErrorKind}
use Rattle.std.specs.declared.io.ErrorKind.TheVariants.{OutOfMemory}
use Rattle.nc_words.specs.Words.{request_of}
use Rattle.nc_session.specs.declared.status.Status.{Status}
use Rattle.nc_session.specs.declared.status.Status.TheVariants.{Usage}
use Rattle.nc_session.specs.Refusals.{number_of}
use Rattle.nc_session.specs.Causes.{IsUsageOrUntold}

-- the number where the words can't be taken: that of want of memory, or that of no text
abbrev pub number_untaken : ErrorKind → ℕ
number_untaken OutOfMemory = 7
number_untaken kind = 9

-- a status with which a run over these words may end: where they ask for nothing that of usage, of a sink that fails or of want
-- of memory, else any but that of usage; the rest is what a run promises of the objects of the outside
abbrev pub IsStatusFor : List (List ℕ) → Status → Type 0
IsStatusFor words status = MatchOption (request_of words) (IsUsageOrUntold status) (λ _. status ≢ Usage)

-- the number of such a status
pub record IsNumberFor (words : List (List ℕ)) (number : ℕ) : Type 0 where
  pub status : Status
  pub is_status : IsStatusFor words status
  pub is_number : number ≡ number_of status
