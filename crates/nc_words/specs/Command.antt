-- The command by which words are read, as `clap` sees it.
use Rattle.std.specs.Prelude.{ℕ, true, List, [], Option, Some, None, option_and_then, unwrap_or, codes}
use Rattle.std.specs.Option.{option_map}
use Rattle.clap.specs.Walk.{Rule}
use Rattle.clap.specs.Simple.{App, new_app, new_rule, on_top, with_rule}
use Rattle.clap.specs.declared.builder.action.ArgAction.TheVariants.{Append}
use Rattle.clap.specs.Matches.{first_value, found_of, matched_of, raw_values}
use Rattle.clap.specs.declared.parser.matches.ArgMatches.{ArgMatches}
use Rattle.nc_words.specs.declared.TheConstants.{DEFAULT_ROUNDS}
use Rattle.nc_words.specs.Words.{RequestView, Word, input_of, pods_of, rounds_of}

abbrev pub rounds_rule : Rule
rounds_rule = record (new_rule (codes "rounds")) { long = Some (codes "rounds") }

abbrev pub fat_tree_rule : Rule
fat_tree_rule = record (new_rule (codes "fat-tree")) { long = Some (codes "fat-tree") }

abbrev pub file_rule : Rule
file_rule = record (new_rule (codes "FILE")) { action = Some Append }

-- without flags for help and version, of words that begin behind the program's name
abbrev pub bare_app : App
bare_app = on_top (λ s. record s {
  no_binary_name = true;
  disable_help_flag = true;
  disable_version_flag = true;
}) (new_app (codes "netcov"))

abbrev pub netcov_app : App
netcov_app = with_rule (with_rule (with_rule bare_app rounds_rule) fat_tree_rule) file_rule

-- ---- the values that are found in its matches

-- the number of a setting, if it has a value
abbrev pub number_in : (Word → Option ℕ) → Option Word → Option (Option ℕ)
number_in number None = Some None
number_in number (Some value) = option_map Some (number value)

-- what values of `--rounds` and `--fat-tree` and names of files ask for together
abbrev pub request_from : Option Word → Option Word → List Word → Option RequestView
request_from rounds pods names =
    option_and_then (λ rounds.
    option_and_then (λ pods.
    option_map (λ input. record { rounds = unwrap_or rounds DEFAULT_ROUNDS; input = input })
    (input_of pods names))
    (number_in pods_of pods))
    (number_in rounds_of rounds)

-- what matches ask for
abbrev pub request_in : ArgMatches → Option RequestView
request_in matches = request_from
    (first_value (found_of matches) (codes "rounds"))
    (first_value (found_of matches) (codes "fat-tree"))
    (unwrap_or (option_map raw_values (matched_of (found_of matches) (codes "FILE"))) [])
