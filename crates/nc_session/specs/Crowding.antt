-- Sessions in which a question or a cut is asked for whose diagrams have more parts than may be kept: it may be answered or
-- refused, so that two runs may differ from there on.
use Rattle.std.specs.Prelude.{◌≡◌, ℕ, List, ◌∷◌, ◌++◌, Option, Some, None, Result, Ok, Err}
use Rattle.nc_tables.specs.State.{StateView}
use Rattle.nc_command.specs.declared.command.Command.TheVariants.{Implies, Cut}
use Rattle.nc_command.specs.Command.{Line, Asks, command_of}
use Rattle.nc_engine.specs.File.{LoadedView}
use Rattle.nc_engine.specs.Session.{State, no_tests, with_pair, live_place, IsCrowded, Run, until_quit}
use Rattle.nc_engine.specs.Cuts.{unknown_among}
use Rattle.nc_load.specs.Load.{Refusal}
use Rattle.nc_session.specs.Output.{served_lines}

-- a question about the tests at two places, where they are live, has too many parts
abbrev pub CrowdsBetween : StateView → State → Option ℕ → Option ℕ → Type 0
CrowdsBetween s kept None second = ⊥
CrowdsBetween s kept (Some first) None = ⊥
CrowdsBetween s kept (Some first) (Some second) = IsCrowded s (with_pair kept first second)

-- a cut of the test at a place, where it is live and all names are known, has too many parts
abbrev pub CrowdsAt : StateView → State → Option (List ℕ) → Option ℕ → Type 0
CrowdsAt s kept (Some name) place = ⊥
CrowdsAt s kept None None = ⊥
CrowdsAt s kept None (Some place) = IsCrowded s kept

-- a line is such a question or cut
abbrev pub Crowds : StateView → State → Line → Type 0
Crowds s kept (Asks (Implies first second)) = CrowdsBetween s kept (live_place kept.tests first) (live_place kept.tests second)
Crowds s kept (Asks (Cut number names)) = CrowdsAt s kept (unknown_among s.routers names) (live_place kept.tests number)
Crowds s kept line = ⊥

-- among lines is such a line, where it is asked in a run behind those before it
pub record AreCrowding (n : LoadedView) (from : State) (lines : List (List ℕ)) : Type 0 where
  pub front : List (List ℕ)
  pub line : List ℕ
  pub behind : List (List ℕ)
  pub parts : lines ≡ front ++ line ∷ behind
  pub replies : List ℕ
  pub kept : State
  pub run : Run n from front replies kept
  pub crowds : Crowds n.state kept (command_of line)

-- among the lines of a session that are answered is such a line
abbrev pub IsCrowding : Result LoadedView Refusal → List ℕ → Type 0
IsCrowding (Ok loaded) session = AreCrowding loaded no_tests (until_quit (served_lines session))
IsCrowding (Err refusal) session = ⊥
