-- The parts of a file are those of the definitions, and make its configuration.
use Rattle.std.proofs.Common.{◌≡◌, ℕ, List, [], ◌∷◌, length, map, Option, Some, None, Result, Ok, Err, refl, sym, ap, ◌∙◌, arith}
use Rattle.std.specs.List.{filter_map}
use Rattle.std.specs.Option.{option_map_or}
use Rattle.nc_types.specs.Config.{ElementView, ConfigView}
use Rattle.nc_types.specs.Faults.{lowest}
use Rattle.nc_types.specs.declared.fault.Fault.{Fault}
use Rattle.nc_types.specs.declared.fault.Cause.TheVariants.{NoName}
use Rattle.nc_lines.specs.declared.block.Block.{Block}
use Rattle.nc_reader.specs.declared.topic.Topic.{Topic}
use Rattle.nc_reader.specs.Arranging.{Things, things_of}
use Rattle.nc_lines.specs.Groups.{Group}
use Rattle.nc_reader.specs.Roles.{roles_from}
use Rattle.nc_reader.specs.Configuration.{name_of, faults_of, parts_of, pieces_of, in_order, place_of, config_of, configuration}
use Rattle.nc_reader.specs.Parts.{parts_by}
use Rattle.nc_reader.specs.Things.{Part, part_in, ok_of}

-- ---- what topics make

pub read-blocks : (lines : List (List ℕ)) (process : Option ℕ) (topics : List Topic) (blocks : List Block) (gs : List (Group Topic ℕ)) → topics ≡ map (λ g. g.key) gs → map (λ b. b.lines.items) blocks ≡ map (λ g. g.values) gs
    → parts_by lines process topics blocks ≡ map (λ g. part_in lines process g.key g.values) gs
read-blocks lines process [] [] [] named same = refl
read-blocks lines process [] [] (g ∷ gs) named same = absurd cc
read-blocks lines process [] (b ∷ blocks) [] named same = refl
read-blocks lines process [] (b ∷ blocks) (g ∷ gs) named same = absurd cc
read-blocks lines process (t ∷ topics) blocks [] named same = absurd cc
read-blocks lines process (t ∷ topics) [] (g ∷ gs) named same = absurd cc
read-blocks lines process (t ∷ topics) (b ∷ blocks) (g ∷ gs) named same =
    let key : t ≡ g.key = cc in
    let keys : topics ≡ map (λ (g : Group Topic ℕ). g.key) gs = cc in
    let first : b.lines.items ≡ g.values = cc in
    let rest : map (λ (b : Block). b.lines.items) blocks ≡ map (λ (g : Group Topic ℕ). g.values) gs = cc in
    ap (λ (ks : List ℕ). part_in lines process t ks ∷ parts_by lines process topics blocks) first ∙ ap (λ (t : Topic). part_in lines process t g.values ∷ parts_by lines process topics blocks) key
    ∙ ap (λ (rs : List (Result Part Fault)). part_in lines process g.key g.values ∷ rs) (read-blocks lines process topics blocks gs keys rest)

-- topics for which no block is left make nothing
pub parts_by-none : (lines : List (List ℕ)) (process : Option ℕ) (topics : List Topic) → parts_by lines process topics [] ≡ []
parts_by-none lines process [] = refl
parts_by-none lines process (topic ∷ topics) = refl

pub none_left : (blocks : List Block) → length blocks ≡ 0 → blocks ≡ []
none_left [] none = refl
none_left (block ∷ blocks) none = absurd (omega arith)

-- ---- the configuration

module _ (lines : List (List ℕ)) where
  abbrev parts : List Part
  parts = filter_map ok_of (parts_of lines (roles_from [] lines))

  abbrev missing : Result ConfigView Fault
  missing = Err (record { line = 0; cause = NoName })

  abbrev named_as : Option (ℕ × List ℕ) → Result ConfigView Fault
  named_as o = option_map_or (λ name. Ok (config_of (length lines) name parts)) o missing

  pub wrong : (told : Option Fault) (fault : Fault) → told ≡ lowest (faults_of lines (roles_from [] lines)) → told ≡ Some fault → configuration lines ≡ Err (record { line = fault.line; cause = fault.cause })
  unfolding configuration
  wrong told fault same is = ap (λ (o : Option Fault). option_map_or Err o (named_as (name_of (roles_from [] lines)))) (sym same ∙ is)

  module _ (told : Option Fault) (name : Option (ℕ × List ℕ)) (same : told ≡ lowest (faults_of lines (roles_from [] lines))) (none : told ≡ None) (is : name ≡ name_of (roles_from [] lines)) where
    clean : configuration lines ≡ named_as name
    unfolding configuration
    clean = ap (λ (o : Option Fault). option_map_or Err o (named_as (name_of (roles_from [] lines)))) (sym same ∙ none) ∙ ap named_as (sym is)

    pub unnamed : name ≡ None → configuration lines ≡ missing
    unnamed nameless = clean ∙ ap named_as nameless

    -- a configuration of this name, of these things and elements
    abbrev pub made_of : ℕ × List ℕ → ℕ → List ElementView → Things → ConfigView
    made_of given count elements ts =
        record {
          name = given.1;
          name_line = given.0;
          line_count = count;
          elements = elements;
          interfaces = ts.interfaces;
          statics = ts.statics;
          process = ts.process;
          clauses = ts.clauses;
          lists = ts.lists;
          community_lists = ts.community_lists;
          filters = ts.filters;
          groups = ts.groups;
        }

    pub whole : (given : ℕ × List ℕ) (own : List Part) (count : ℕ) (elements : List ElementView) (ts : Things) → name ≡ Some given → own ≡ parts → count ≡ length lines
        → elements ≡ in_order count (pieces_of own) → ts ≡ things_of (place_of (pieces_of own)) own → configuration lines ≡ Ok (made_of given count elements ts)
    whole given own count elements ts named own_same counted e f =
        let whole_of : ConfigView → Result ConfigView Fault = λ c. Ok c in
        clean ∙ ap named_as named ∙ ap (λ (ps : List Part). whole_of (config_of (length lines) given ps)) (sym own_same) ∙ ap (λ (n : ℕ). whole_of (config_of n given own)) (sym counted)
        ∙ ap (λ (es : List ElementView). whole_of (made_of given count es (things_of (place_of (pieces_of own)) own))) (sym e) ∙ ap (λ (ts : Things). whole_of (made_of given count elements ts)) (sym f)
