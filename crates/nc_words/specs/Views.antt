-- What a request asks for.
use Rattle.std.specs.Prelude.{ℕ, ◌≡◌, ◌≤◌, true, length}
use Rattle.nc_gen.specs.Tree.{is_size}
use Rattle.nc_words.specs.declared.TheConstants.{MOST_ROUNDS}
use Rattle.nc_words.specs.Words.{InputView, Files, Generated, RequestView, texts}
use Rattle.nc_words.specs.declared.request.Input.{Input}
use Rattle.nc_words.specs.declared.request.Input.TheVariants as input
use Rattle.nc_words.specs.declared.request.Request.{Request}

abbrev pub input_view : Input → InputView
input_view (input.Files names) = Files (texts names.items)
input_view (input.FatTree pods) = Generated pods

abbrev pub request_view : Request → RequestView
request_view request = record { rounds = request.rounds; input = input_view request.input }

-- at least one file, or a number of pods for which a network is generated
abbrev pub IsSized : InputView → Type 0
IsSized (Files names) = 1 ≤ length names
IsSized (Generated pods) = is_size pods ≡ true

abbrev pub IsRounds : ℕ → Type 0
IsRounds rounds = (1 ≤ rounds) × (rounds ≤ MOST_ROUNDS)
