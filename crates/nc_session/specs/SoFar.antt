-- A session that is being served: what was taken of it so far, and answered.
use Rattle.std.specs.Prelude.{◌≡◌, ℕ, ◌+◌, List, length, Option}
use Rattle.std.specs.Io.KnownBytes.{Appends, Consumes}
use Rattle.nc_lines.specs.WholeLines.{whole_lines_of}
use Rattle.nc_command.specs.Cutting.{held_of}
use Rattle.nc_session.specs.Limits.{most_session_bytes}
use Rattle.nc_session.specs.declared.status.Status.{Status}
use Rattle.nc_session.specs.declared.status.Status.TheVariants.{Limit, OutputFault}
use Rattle.nc_session.specs.Refusals.{long_session_text}
use Rattle.nc_engine.specs.Engine.{Progress}
use Rattle.nc_session.specs.Serving.{AppendsFront, AreServed}
use Rattle.nc_session.specs.Leaving.{Told}

-- the whole lines of what was taken are answered, what is open is held, and there is this room up to the limit
pub record IsTaken (from : Progress) (before now : Told) (engine : Option Progress) (held : List ℕ) (room : ℕ) : Type 0 where
  pub taken : List ℕ
  pub consumed : Consumes before.rest now.rest taken
  pub held_is : held ≡ held_of taken
  pub served : AreServed from (whole_lines_of taken) engine before.written now.written
  pub count : length taken + room ≡ most_session_bytes

-- a session past its limit is refused: the refusal was written, or the sink failed within it
abbrev pub RefusesRest : Option (List ℕ) → Option (List ℕ) → Status → Type 0
RefusesRest old new Limit = Appends old new long_session_text
RefusesRest old new OutputFault = AppendsFront old new long_session_text
RefusesRest old new status = ⊥
