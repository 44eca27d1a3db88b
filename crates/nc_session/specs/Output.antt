-- What a whole run writes, and with which status it ends: for the words, the files by name and the session.
-- Words that ask for a generated network bring its files and its session: the others aren't used then.
use Rattle.std.specs.Prelude.{◌≡◌, ◌⊎◌, ℕ, Bool, true, false, nat_le, List, [], ◌++◌, length, map, take, Option, Some, None, Result, Ok, Err, if◌then◌else◌}
use Rattle.std.specs.List.{list_any}
use Rattle.std.specs.Io.KnownBytes.{IsAtEnd}
use Rattle.nc_outside.specs.Named.{Named}
use Rattle.nc_lines.specs.Lines.{lines_of}
use Rattle.nc_lines.specs.WholeLines.{whole_lines_of}
use Rattle.nc_words.specs.Words.{InputView, Files, Generated, RequestView, request_of}
use Rattle.nc_session.specs.Generated.{heading_text, tree_session}
use Rattle.nc_engine.specs.File.{LoadedView}
use Rattle.nc_session.specs.Limits.{most_session_bytes}
use Rattle.nc_session.specs.declared.status.Status.{Status}
use Rattle.nc_session.specs.declared.status.Status.TheVariants.{Done, Limit}
use Rattle.nc_engine.specs.Session.{AreReplies, is_quit}
use Rattle.nc_load.specs.Load.{Refusal}
use Rattle.nc_session.specs.Load.{load_asked}
use Rattle.nc_session.specs.Refusals.{long_session_text, refusal_status, refusal_text}

-- ---- a session

-- the whole lines within the limit of a session
abbrev pub lines_within : List ℕ → List (List ℕ)
lines_within session = whole_lines_of (take most_session_bytes session)

-- whether a line ends the session
abbrev pub has_quit : List (List ℕ) → Bool
has_quit lines = list_any is_quit lines

-- a session is within its limit where its bytes are, up to its end or through the line that ends it
abbrev pub is_within : List ℕ → Bool
is_within session = if nat_le (length session) most_session_bytes then true else has_quit (lines_within session)

-- the lines that a session longer than its limit still has answered are those that are whole within the limit
abbrev pub served_lines : List ℕ → List (List ℕ)
served_lines session = if nat_le (length session) most_session_bytes then lines_of session else lines_within session

-- the replies to a session, and a refusal behind them where it isn't within its limit
abbrev pub ServesWithin : LoadedView → List ℕ → Bool → Status → List ℕ → Type 0
ServesWithin n session true status bytes = (status ≡ Done) × AreReplies n (served_lines session) bytes
ServesWithin n session false status bytes =
    (status ≡ Limit) × (replies : List ℕ) × AreReplies n (served_lines session) replies × (bytes ≡ replies ++ long_session_text)

abbrev pub Serves : LoadedView → List ℕ → Status → List ℕ → Type 0
Serves n session status bytes = ServesWithin n session (is_within session) status bytes

-- ---- a run

-- the session that is answered: a generated network brings its own
abbrev pub session_in : InputView → List ℕ → List ℕ
session_in (Files names) session = session
session_in (Generated pods) session = tree_session pods

abbrev pub session_asked : Option RequestView → List ℕ → List ℕ
session_asked None session = session
session_asked (Some request) session = session_in request.input session

abbrev pub session_of : List (List ℕ) → List ℕ → List ℕ
session_of words session = session_asked (request_of words) session

-- what stands in front of the replies: for a generated network the line of its numbers
abbrev pub heading_in : InputView → LoadedView → List ℕ
heading_in (Files names) loaded = []
heading_in (Generated pods) loaded = heading_text pods (map (λ file. file.lines) loaded.files)

abbrev pub heading_asked : Option RequestView → LoadedView → List ℕ
heading_asked None loaded = []
heading_asked (Some request) loaded = heading_in request.input loaded

-- what is written after loading, and the status: a heading and the replies, or a refusal
abbrev pub Concludes : (LoadedView → List ℕ) → Result LoadedView Refusal → List ℕ → Status → List ℕ → Type 0
Concludes heading (Ok loaded) session status bytes =
    (replies : List ℕ) × Serves loaded session status replies × (bytes ≡ heading loaded ++ replies)
Concludes heading (Err refusal) session status bytes = (status ≡ refusal_status refusal) × (bytes ≡ refusal_text refusal)

-- the output of what is asked for, if it is something
abbrev pub OutputAsked : Option RequestView → List Named → List ℕ → Status → List ℕ → Type 0
OutputAsked asked files session status bytes =
    Concludes (heading_asked asked) (load_asked asked files) (session_asked asked session) status bytes

-- the output of the words, the files by name and the session
abbrev pub Output : List (List ℕ) → List Named → List ℕ → Status → List ℕ → Type 0
Output words files session status bytes = OutputAsked (request_of words) files session status bytes

-- ---- what is said where the objects tell their bytes

-- what is needed of the files, or of the session, where it is told: nothing for a generated network
abbrev pub needed_in : {A : Type 0} → InputView → Option (List A) → Option (List A)
needed_in (Files names) told = told
needed_in (Generated pods) told = Some []

abbrev pub needed_asked : {A : Type 0} → Option RequestView → Option (List A) → Option (List A)
needed_asked None told = told
needed_asked (Some request) told = needed_in request.input told

abbrev pub needed : {A : Type 0} → List (List ℕ) → Option (List A) → Option (List A)
needed words told = needed_asked (request_of words) told

-- new is old with bytes of which P holds, where they are told
abbrev pub Writes : Option (List ℕ) → Option (List ℕ) → (List ℕ → Type 0) → Type 0
Writes None new P = Unit {0}
Writes (Some old) None P = ⊥
Writes (Some old) (Some new) P = (bytes : List ℕ) × (new ≡ old ++ bytes) × P bytes

-- among what was taken of a session is a whole line, within the limit, that ends it
abbrev pub TookQuit : Option (List ℕ) → Option (List ℕ) → Type 0
TookQuit None now = Unit {0}
TookQuit (Some before) None = ⊥
TookQuit (Some before) (Some now) = (taken : List ℕ) × (before ≡ taken ++ now) × (has_quit (lines_within taken) ≡ true)

-- a session was taken to its end, or through the line that ends it; nothing of it for a generated network
abbrev pub TookIn : InputView → Option (List ℕ) → Option (List ℕ) → Type 0
TookIn (Files names) before now = IsAtEnd now ⊎ TookQuit before now
TookIn (Generated pods) before now = now ≡ before

abbrev pub TookAsked : Option RequestView → Option (List ℕ) → Option (List ℕ) → Type 0
TookAsked None before now = now ≡ before
TookAsked (Some request) before now = TookIn request.input before now

abbrev pub TookAll : List (List ℕ) → Option (List ℕ) → Option (List ℕ) → Type 0
TookAll words before now = TookAsked (request_of words) before now
