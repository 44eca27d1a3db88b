-- What comes of the words and the files: the network that they configure, with the state in which it settles and its files,
-- or the first reason why there is none. The words are judged first, then the files that they name or bring.
use Rattle.std.specs.Prelude.{ℕ, Bool, true, false, List, map, Option, Some, None, Result, Ok, Err}
use Rattle.nc_outside.specs.Named.{Named}
use Rattle.nc_tables.specs.State.{StateView}
use Rattle.nc_report.specs.Views.{FileView}
use Rattle.nc_engine.specs.File.{LoadedView}
use Rattle.nc_words.specs.Words.{InputView, Files, Generated, RequestView, request_of}
use Rattle.nc_load.specs.Load.{Refusal, WrongWords, file_of, load_names, load_settled}
use Rattle.nc_session.specs.Generated.{tree_files, tree_names}

-- a state with the files of its routers, which reports list or don't
abbrev pub with_files : Bool → List FileView → Result StateView Refusal → Result LoadedView Refusal
with_files listed files (Ok state) = Ok (record { state = state; files = files; listed = listed })
with_files listed files (Err refusal) = Err refusal

-- what comes of files by their names, with so many rounds
abbrev pub load_over : Bool → ℕ → List (List ℕ) → List Named → Result LoadedView Refusal
load_over listed rounds names files = with_files listed (map (file_of files) names) (load_settled rounds (load_names names files))

-- ---- what the words ask for

-- the names of the files of a network, and the files: a generated network brings both
abbrev pub names_in : InputView → List (List ℕ)
names_in (Files names) = names
names_in (Generated pods) = tree_names pods

abbrev pub files_in : InputView → List Named → List Named
files_in (Files names) files = files
files_in (Generated pods) files = tree_files pods

-- whether reports list the routers: not those of a generated network
abbrev pub lists_in : InputView → Bool
lists_in (Files names) = true
lists_in (Generated pods) = false

-- what comes of a request over files
abbrev pub load_request : RequestView → List Named → Result LoadedView Refusal
load_request request files = load_over (lists_in request.input) request.rounds (names_in request.input) (files_in request.input files)

-- what comes of what is asked for, if it is something
abbrev pub load_asked : Option RequestView → List Named → Result LoadedView Refusal
load_asked None files = Err WrongWords
load_asked (Some request) files = load_request request files

-- what comes of the words and the files
abbrev pub load : List (List ℕ) → List Named → Result LoadedView Refusal
load words files = load_asked (request_of words) files
