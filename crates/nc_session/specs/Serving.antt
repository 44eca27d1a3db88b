-- Serving a session while it is read: the replies to the whole lines of a piece go to the sink before the next piece is read.
use Rattle.std.specs.Prelude.{◌≡◌, ◌⊎◌, ℕ, true, false, List, [], ◌∷◌, ◌++◌, Option, Some, Result, Ok, Err}
use Rattle.std.specs.Io.KnownBytes.{Appends}
use Rattle.std.specs.List.{list_any}
use Rattle.nc_lines.specs.Lines.{is_feed, without_return}
use Rattle.nc_lines.specs.WholeLines.{whole_lines_of, open_of}
use Rattle.nc_command.specs.Cutting.{held_of, HoldsAll}
use Rattle.nc_engine.specs.declared.engine.Flow.{Flow}
use Rattle.nc_engine.specs.declared.engine.Flow.TheVariants as flow
use Rattle.nc_load.specs.declared.reading.Stop.{Stop}
use Rattle.nc_load.specs.declared.reading.Stop.TheVariants as stop
use Rattle.nc_engine.specs.Session.{State, Run, is_quit, until_quit}
use Rattle.nc_session.specs.Output.{has_quit}
use Rattle.nc_engine.specs.Engine.{Progress}

-- a front of these bytes was appended: all of them, or fewer
pub record AppendsFront (old new : Option (List ℕ)) (bytes : List ℕ) : Type 0 where
  pub front : List ℕ
  pub behind : List ℕ
  pub parts : bytes ≡ front ++ behind
  pub written : Appends old new front

-- bytes were appended and then it ended as was said, or the sink failed within them
abbrev pub EndsWith : Result Flow Stop → Option (List ℕ) → Option (List ℕ) → List ℕ → Result Flow Stop → Type 0
EndsWith end old new bytes result = ((result ≡ end) × Appends old new bytes) ⊎ ((result ≡ Err stop.Outside) × AppendsFront old new bytes)

-- of what is pending so much was appended, and the rest is pending still
pub record AppendsPart (old new : Option (List ℕ)) (before after : List ℕ) : Type 0 where
  pub part : List ℕ
  pub parts : before ≡ part ++ after
  pub written : Appends old new part

module _ (from : Progress) (lines : List (List ℕ)) where
  -- each line was replied, and none of them ends the session: the engine has come behind them
  pub record AreServed (now : Option Progress) (old new : Option (List ℕ)) : Type 0 where
    pub to : Progress
    pub to_is : now ≡ Some to
    pub loaded : to.loaded ≡ from.loaded
    pub replies : List ℕ
    pub run : Run from.loaded from.session lines replies to.session
    pub goes : has_quit lines ≡ false
    pub written : Appends old new replies

  -- the same where the end of the replies is pending: it isn't written yet
  pub record ArePending (now : Option Progress) (pending : List ℕ) (old new : Option (List ℕ)) : Type 0 where
    pub to : Progress
    pub to_is : now ≡ Some to
    pub loaded : to.loaded ≡ from.loaded
    pub sent : List ℕ
    pub run : Run from.loaded from.session lines (sent ++ pending) to.session
    pub goes : has_quit lines ≡ false
    pub written : Appends old new sent

  -- each line was replied up to one that ends the session
  pub record AreEnded (old new : Option (List ℕ)) : Type 0 where
    pub replies : List ℕ
    pub last : State
    pub run : Run from.loaded from.session (until_quit lines) replies last
    pub quits : has_quit lines ≡ true
    pub written : Appends old new replies

  -- memory or the sink gave out: some of the lines in front were replied, and what stands there is a front of their replies
  pub record AreBroken (old new : Option (List ℕ)) : Type 0 where
    pub answered : List (List ℕ)
    pub others : List (List ℕ)
    pub parts : until_quit lines ≡ answered ++ others
    pub replies : List ℕ
    pub last : State
    pub run : Run from.loaded from.session answered replies last
    pub begun : AppendsFront old new replies

  -- how lines are served
  abbrev pub ServesLines : Option Progress → Option (List ℕ) → Option (List ℕ) → Result Flow Stop → Type 0
  ServesLines now old new (Ok flow.Go) = AreServed now old new
  ServesLines now old new (Ok flow.Stop) = AreEnded old new
  ServesLines now old new (Err stop) = AreBroken old new

  -- each line was replied up to the end of the session, which is the last or one that ends it
  pub record AreAnswered (old new : Option (List ℕ)) : Type 0 where
    pub replies : List ℕ
    pub last : State
    pub run : Run from.loaded from.session (until_quit lines) replies last
    pub written : Appends old new replies

-- how one line more is answered, while replies are pending: its reply goes to their end, or it ends the session and none is added;
-- what the engine lends is pending too, behind the others
abbrev pub AnswersLine : Progress → List (List ℕ) → List ℕ → Option Progress → List ℕ → List ℕ → Option (List ℕ) → Option (List ℕ) → Flow → Type 0
AnswersLine from lines line now before after old new flow.Go = ArePending from (lines ++ line ∷ []) now after old new
AnswersLine from lines line now before after old new flow.Stop = (is_quit line ≡ true) × (after ≡ before)

-- the first line of a piece, without its line end, and the bytes behind its line feed
pub record IsFirst (piece line rest : List ℕ) : Type 0 where
  pub front : List ℕ
  pub parts : piece ≡ front ++ 10 ∷ rest
  pub first : list_any is_feed front ≡ false
  pub line_is : line ≡ without_return front

-- the line that the first line feed of a piece ends is answered, behind which there is this rest, and nothing is held then
pub record AnswersFirst (piece rest held kept : List ℕ) (engine now : Option Progress) (before after : List ℕ) (how : Flow) : Type 0 where
  pub front : List ℕ
  pub parts : piece ≡ front ++ 10 ∷ rest
  pub first : list_any is_feed front ≡ false
  pub emptied : kept ≡ []
  pub answers : (from : Progress) (taken : List ℕ) (old new : Option (List ℕ)) → held ≡ held_of taken → ArePending from (whole_lines_of taken) engine before old new
      → AnswersLine from (whole_lines_of taken) (without_return (open_of taken ++ front)) now before after old new how

-- a piece without a line feed is held, and no line is answered
pub record AnswersNone (piece held kept : List ℕ) (engine now : Option Progress) (before after : List ℕ) : Type 0 where
  pub all : HoldsAll piece held kept
  pub engine_is : now ≡ engine
  pub pending_is : after ≡ before
