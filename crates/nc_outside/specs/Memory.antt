-- Objects in memory, as a caller sees them.
use Rattle.std.specs.Prelude.{ℕ, ◌-◌, ◌<◌, ◌≤◌, ◌==◌, min, Bool, false, List, [], Option, Some, None, Result, Ok, if◌then◌else◌, drop, length, slice_get, IfSome, IsNone, ◌↔◌, unwrap_or, nat_le, nat_lt, ◌&&◌}
use Rattle.std.specs.List.{list_any}
use Rattle.std.specs.Option.{option_map}
use Rattle.nc_outside.specs.declared.Failed.{Failed}
use Rattle.nc_outside.specs.declared.end.End.{End}
use Rattle.nc_outside.specs.Named.{Named, content_of}
use Rattle.nc_outside.specs.Counts.{Faults, Entries, one_more}
use Rattle.nc_outside.specs.Ends.{end_after, end_entered}

-- the calls of an object: the numbers of those that fail, how many were made, and how many failed
pub record CallCounts : Type 0 where
  pub fails : List ℕ
  pub made : ℕ
  pub faults : ℕ

-- before the first call
abbrev pub no_calls : List ℕ → CallCounts
no_calls fails = record { fails = fails; made = 0; faults = 0 }

-- whether the next call's number is among those that fail
abbrev pub fails_next : CallCounts → Bool
fails_next calls = list_any (λ n. n == calls.made) calls.fails

-- a count of faults after a call, which failed or didn't
abbrev pub faults_after : Bool → ℕ → ℕ
faults_after failed faults = if failed then one_more faults else faults

-- the faults of an object that fails in no call but those given: it never does where none is given
abbrev pub faults_of : CallCounts → Faults
faults_of calls = record { count = calls.faults; is_steady = length calls.fails == 0 }

-- the faults of an object that may refuse a call besides
abbrev pub faults_beside : CallCounts → Faults
faults_beside calls = record { count = calls.faults; is_steady = false }

-- after one more call, which failed or didn't
abbrev pub after_call : Bool → CallCounts → CallCounts
after_call failed calls =
    record { fails = calls.fails; made = one_more calls.made; faults = faults_after failed calls.faults }

-- files, the entered one with what is left of it as its content, the calls of `enter` and `read`, how often files were
-- entered, and the end
pub record FilesState : Type 0 where
  pub files : List Named
  pub entered : Option Named
  pub calls : CallCounts
  pub entries : ℕ
  pub end : End

-- before the first call
abbrev pub no_end : End
no_end = record { is_told = false; late = 0 }

-- the entries that its users see: it tells no names
abbrev pub entries_of : ℕ → Entries
entries_of count = record { count = count; names = None }

-- a file less its first bytes
abbrev pub less_front : ℕ → Named → Named
less_front count file = record { name = file.name; content = drop count file.content }

-- the file at that place, less so many bytes at its front
abbrev pub file_from : List Named → ℕ → ℕ → Option Named
file_from files place count = option_map (less_front count) (slice_get files place)

-- the place is one of a file, which has so many bytes
abbrev pub IsInside : List Named → ℕ → ℕ → Type 0
IsInside files place count = (place < length files) × IfSome (slice_get files place) (λ file. count ≤ length file.content)

-- the name of the entered file, and what is left of it
abbrev pub name_of_entered : FilesState → Option (List ℕ)
name_of_entered state = option_map (λ file. file.name) state.entered

abbrev pub left_of_entered : FilesState → Option (List ℕ)
left_of_entered state = option_map (λ file. file.content) state.entered

-- the bytes that reads of the entered file give, none where no file is entered
abbrev pub bytes_left : Option Named → List ℕ
bytes_left None = []
bytes_left (Some file) = file.content

-- the first file of that name, with its whole content
abbrev pub whole : List Named → List ℕ → Option Named
whole files name = option_map (λ content. record { name = name; content = content }) (content_of files name)

-- the file of that name is made the entered one, where the call doesn't fail
abbrev pub entering : FilesState → List ℕ → FilesState
entering state name =
    let fails = fails_next state.calls in
    record state { entered = if fails then None else whole state.files name; calls = after_call fails state.calls }

-- after entering the file of that name
abbrev pub after_enter : FilesState → List ℕ → FilesState
after_enter state name =
    record (entering state name) { entries = one_more state.entries; end = end_entered state.end }

-- so many bytes are given of the entered file
abbrev pub giving : FilesState → ℕ → FilesState
giving state count =
    record state { entered = option_map (less_front count) state.entered; calls = after_call false state.calls }

-- after a read of so many bytes into so much room
abbrev pub after_read : FilesState → ℕ → ℕ → FilesState
after_read state room count =
    let answer : Result ℕ Failed = Ok count in
    record (giving state count) { end = end_after room answer state.end }

-- a source: the bytes that are left, the most that each of the first reads gives, and the calls
pub record SourceState : Type 0 where
  pub rest : List ℕ
  pub pieces : List ℕ
  pub calls : CallCounts
  pub end : End

-- a source that never fails: the bytes that are left
pub record PlainState : Type 0 where
  pub rest : List ℕ
  pub end : End

-- how many bytes the next read gives into so much room: the least of its piece, the room and what is left
abbrev pub given : SourceState → ℕ → ℕ
given source room =
    let piece = unwrap_or (slice_get source.pieces source.calls.made) room in
    min piece (min room (length source.rest))

-- a sink: the bytes that were taken, the most that it takes, and the calls
pub record SinkState : Type 0 where
  pub written : List ℕ
  pub room : ℕ
  pub calls : CallCounts

-- whether a sink that is full is given some bytes
abbrev pub overflows : SinkState → List ℕ → Bool
overflows sink from = nat_lt 0 (length from) && nat_le sink.room (length sink.written)

-- how many of these bytes the sink takes
abbrev pub taken : SinkState → List ℕ → ℕ
taken sink from = min (length from) (sink.room - length sink.written)

-- a name is told exactly where the bytes are
pub IsNone-name-left : (state : FilesState) → IsNone (name_of_entered state) ↔ IsNone (left_of_entered state)
IsNone-name-left state = on state.entered
  where
    on : (entered : Option Named) → IsNone (option_map (λ file. file.name) entered) ↔ IsNone (option_map (λ file. file.content) entered)
    on None = (λ none. none, λ none. none)
    on (Some file) = (λ none. none, λ none. none)
