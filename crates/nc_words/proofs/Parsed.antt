-- What a parse of the command says of its words.
use Rattle.std.proofs.Common.{◌≡◌, ◌∙◌, Bool, true, false, List, [], ◌∷◌, Option, Some, None, refl, sym, ap, ap₂, inl, inr}
use Rattle.std.specs.Prelude.{String, find, fold, is_some, option_and_then, unwrap_or}
use Rattle.std.specs.Option.{option_map, option_map_or}
use Rattle.std.specs.Str.{bytes_eq}
use Rattle.std.specs.declared.alloc.Global.{Global}
use Rattle.std.proofs.lemmas.Str.{IsUtf8-string_bytes}
use Rattle.clap.specs.Simple
use Rattle.clap.specs.Matches.{found_of}
use Rattle.clap.specs.declared.parser.matches.ArgMatches.{ArgMatches}
use Rattle.clap.proofs.WalkLemmas.{first_value-rows, raw_values-rows}
use Rattle.clap.specs.Walk.{Row, Rule, first_of, has_row, nothing_held, rows_of, settled, walk, with_default}
use Rattle.clap.specs.Walk as walks
use Rattle.clap.specs.Simple.{built, entered, matches_of}
use Rattle.clap.specs.Kinds.{Kinds, or_else}
use Rattle.clap.specs.Faults.{default_fault, defaults_fault, entered_fault, fault_of, is_simple_and_free, level_fault, settle_fault, walk_fault}
use Rattle.clap.proofs.OnLiterals.{clap_on_literals}
use Rattle.nc_words.specs.Words.{FatTree, Item, Rounds, Word, request_by, request_of, said, texts}
use Rattle.nc_words.specs.Command.{netcov_app, request_from, request_in}
use Rattle.nc_words.proofs.Shapes.{id_of}
use Rattle.nc_words.proofs.Turns.{between, or_else_nil, shape}
use Rattle.nc_words.proofs.Meeting.{AreTexts, Meets, fault_on, faults, meets_all, rows_on, walk_after}
use Rattle.nc_words.proofs.Rows.{FILE, got}
use Rattle.nc_words.proofs.Requests.{asks, dashed_asks_nothing, faulty_asks_nothing}

pub is_simple : is_simple_and_free netcov_app ≡ true
unfolding clap_on_literals
is_simple = refl

-- ---- behind the words: no argument has a default or is required

same_rows : (rows : List Row) (rule : Rule) → rule.defaults ≡ [] → with_default rows rule ≡ rows
same_rows rows rule none = go (has_row rule.id rows) refl
  where
    go : (t : Bool) → has_row rule.id rows ≡ t → with_default rows rule ≡ rows
    go true t = rw t refl
    go false t = rw (t, none) refl

no_default : (rows : List Row) (rule : Rule) → rule.defaults ≡ [] → default_fault rows rule ≡ []
no_default rows rule none = go (has_row rule.id rows) refl
  where
    go : (t : Bool) → has_row rule.id rows ≡ t → default_fault rows rule ≡ []
    go true t = rw t refl
    go false t = rw (t, none) refl

abbrev NoDefaults : List Rule → Type 0
NoDefaults [] = Unit {0}
NoDefaults (rule ∷ rules) = (rule.defaults ≡ []) × NoDefaults rules

no_defaults : (rows : List Row) (rules : List Rule) → NoDefaults rules → defaults_fault rows rules ≡ []
unfolding defaults_fault
no_defaults rows [] none = refl
no_defaults rows (rule ∷ rules) none = ap₂ or_else (no_default rows rule none.0) (no_defaults (with_default rows rule) rules none.1)

same_all : (rows : List Row) (rules : List Rule) → NoDefaults rules → fold with_default rows rules ≡ rows
same_all rows [] none = refl
same_all rows (rule ∷ rules) none = same_all (with_default rows rule) rules none.1 ∙ same_rows rows rule none.0

plain_rules : NoDefaults shape.rules
plain_rules = (refl, (refl, (refl, tt)))

abbrev start : walks.Walk
start = between [] None

pub rows_are : (words : List Word) → matches_of netcov_app words ≡ rows_on start words
rows_are words = same_all (rows_on start words) shape.rules plain_rules

module _ (words : List Word) where
  ends : or_else (walk_fault shape [] start words) (or_else [] (or_else (settle_fault shape.rules false (walk_after start words).held) (or_else (defaults_fault (rows_on start words) shape.rules) []))) ≡ fault_on start words
  ends = ap (or_else (walk_fault shape [] start words))
      (ap (λ (d : Kinds). or_else (settle_fault shape.rules false (walk_after start words).held) (or_else d [])) (no_defaults (rows_on start words) shape.rules plain_rules)
      ∙ or_else_nil (settle_fault shape.rules false (walk_after start words).held))

  level : (stop : Option (Word × List Word)) → level_fault shape [] nothing_held words (is_some (entered (built netcov_app) stop)) (entered_fault (built netcov_app) stop) ≡ fault_on start words
  level None = ends
  level (Some stop) = ends

  fault_is : fault_of netcov_app words ≡ fault_on start words
  fault_is = level (walk_after start words).stopped

  module _ (are : AreTexts words) where
    met : Meets (fault_on start words) (rows_on start words) [] (said None words)
    met = (meets_all words are).between [] None

    abbrev Answer : Type 0
    Answer = request_of words ≡ request_from (first_of (id_of Rounds) (matches_of netcov_app words)) (first_of (id_of FatTree) (matches_of netcov_app words)) (got FILE (matches_of netcov_app words))

    found : fault_of netcov_app words ≡ [] → (o : Option (List Item)) → o ≡ said None words → Meets (fault_on start words) (rows_on start words) [] o → Answer
    unfolding request_of
    found none None is h = absurd (h (sym fault_is ∙ none))
    found none (Some items) is (inl p) =
        let clean : faults [] items ≡ [] = sym p.0 ∙ sym fault_is ∙ none in
        ap (option_and_then request_by) (sym is) ∙ asks items clean
        ∙ ap (λ (rows : List Row). request_from (first_of (id_of Rounds) rows) (first_of (id_of FatTree) rows) (got FILE rows)) (sym (rows_are words ∙ p.1))
    found none (Some items) is (inr p) = absurd (p.0 (sym fault_is ∙ none))

    refused : (fault_of netcov_app words ≡ [] → ⊥) → (o : Option (List Item)) → o ≡ said None words → Meets (fault_on start words) (rows_on start words) [] o → request_of words ≡ None
    unfolding request_of
    refused fails None is h = ap (option_and_then request_by) (sym is)
    refused fails (Some items) is (inl p) = ap (option_and_then request_by) (sym is) ∙ faulty_asks_nothing items (λ clean. fails (fault_is ∙ p.0 ∙ clean))
    refused fails (Some items) is (inr p) = ap (option_and_then request_by) (sym is) ∙ dashed_asks_nothing items p.1

    -- a parse that succeeds has the values that the words ask for
    pub parsed : fault_of netcov_app words ≡ [] → Answer
    parsed none = found none (said None words) refl met

    -- and words at which it fails ask for nothing
    pub failed : (fault_of netcov_app words ≡ [] → ⊥) → request_of words ≡ None
    failed fails = refused fails (said None words) refl met

-- ---- the words of a call and its matches

pub are_texts : (words : List (String Global)) → AreTexts (texts words)
are_texts [] = tt
are_texts (word ∷ words) = (IsUtf8-string_bytes word, are_texts words)

pub is_simple_app : Simple.is_simple netcov_app ≡ true
unfolding clap_on_literals
is_simple_app = refl

or_none : (o : Option Row) → unwrap_or (option_map (λ (r : Row). r.values) o) [] ≡ option_map_or (λ (r : Row). r.values) o []
or_none None = refl
or_none (Some r) = refl

pub found_values : (matches : ArgMatches) (words : List Word) → rows_of (found_of matches) ≡ matches_of netcov_app words
    → request_in matches ≡ request_from (first_of (id_of Rounds) (matches_of netcov_app words)) (first_of (id_of FatTree) (matches_of netcov_app words)) (got FILE (matches_of netcov_app words))
found_values matches words same =
    let f = found_of matches in
    rw (first_value-rows f (id_of Rounds), first_value-rows f (id_of FatTree), raw_values-rows f FILE)
    (ap (request_from (first_of (id_of Rounds) (rows_of f)) (first_of (id_of FatTree) (rows_of f))) (or_none (find (λ (r : Row). bytes_eq r.id FILE) (rows_of f)))
    ∙ ap (λ (rows : List Row). request_from (first_of (id_of Rounds) rows) (first_of (id_of FatTree) rows) (got FILE rows)) same)
