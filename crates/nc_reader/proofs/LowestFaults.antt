-- Of all that is wrong with a topic its part tells the lowest.
use Rattle.std.proofs.Common.{◌≡◌, ℕ, Bool, true, false, cond, List, [], ◌∷◌, ◌++◌, length, Option, Some, None, Result, Ok, Err, refl, sym, ap, ◌∙◌, subst, inl, inr}
use Rattle.std.specs.Prelude.{◌==◌}
use Rattle.std.specs.List.{filter_map, flat_map, cons_option}
use Rattle.std.specs.List.Sorted.{IsStrictlyIncreasing}
use Rattle.std.specs.Option.{option_map_or, option_eq}
use Rattle.nc_types.specs.Faults.{lowest}
use Rattle.nc_types.specs.declared.fault.Fault.{Fault}
use Rattle.nc_types.specs.declared.fault.Cause.TheVariants.{TwoProcesses}
use Rattle.nc_lines.specs.Groups.{Group}
use Rattle.nc_lines.specs.Outcomes.{lower_of}
use Rattle.nc_lines.specs.Parts.{Numbered, numbered, lines_in}
use Rattle.nc_lines.proofs.FaultLemmas.{lowest_append}
use Rattle.nc_lines.proofs.Grouping.{group_ascends}
use Rattle.nc_lines.proofs.Pairs.{Has, increasing, kept_map}
use Rattle.nc_read_bgp.proofs.LowestLemmas.{lowest_is_told}
use Rattle.nc_read_bgp.specs.Laws.{faults_in, lacks_in}
use Rattle.nc_read_bgp.specs.Processes.{ProcessMade, process_in}
use Rattle.nc_read_policy.specs.Results.{ok_map}
use Rattle.nc_reader.specs.declared.topic.Topic.{Topic}
use Rattle.nc_reader.specs.declared.topic.Topic.TheVariants as topics
use Rattle.nc_reader.specs.Roles.{roles_from}
use Rattle.nc_reader.specs.Topics.{same_topic}
use Rattle.nc_reader.specs.Configuration.{spoken, topics_of, process_number, parts_of, wrong_at, faults_about, odd_faults, faults_of}
use Rattle.nc_reader.specs.Things.{Part, AProcess, first_in, part_in, ok_of, err_of}
use Rattle.nc_reader.proofs.LineOrder.{spoken_ascend}
use Rattle.nc_reader.proofs.PieceLemmas.{LinesAscend, numbers_of}
use Rattle.nc_reader.proofs.TopicLemmas.{topics_same}

-- the lowest of one fault, if there is one
lowest_one : (o : Option Fault) → lowest (cons_option o []) ≡ o
lowest_one None = refl
lowest_one (Some f) = refl

-- what was read, or a fault, tells the fault
fault_told : {A B : Type 0} (f : A → B) (o : Option Fault) (x : A) → o ≡ err_of (ok_map f (option_map_or Err o (Ok x)))
fault_told f None x = refl
fault_told f (Some fault) x = refl

-- of several lists of faults each tells its lowest
lowest_flat : {G : Type 0} (all : G → List Fault) (told : G → Option Fault) (gs : List G) → ((g : G) → Has gs g → lowest (all g) ≡ told g) → lowest (flat_map all gs) ≡ lowest (filter_map told gs)
lowest_flat all told [] each = refl
lowest_flat {G} all told (g ∷ gs) each =
    lowest_append (all g) (flat_map all gs) ∙ ap (λ (o : Option Fault). lower_of o (lowest (flat_map all gs))) (each g (inl refl))
    ∙ ap (lower_of (told g)) (lowest_flat all told gs (λ h later. each h (inr later))) ∙ first (told g) (filter_map told gs)
  where
    first : (o : Option Fault) (fs : List Fault) → lower_of o (lowest fs) ≡ lowest (cons_option o fs)
    first None fs = refl
    first (Some f) fs = refl

module _ (lines : List (List ℕ)) where
  process_lowest : (b : Bool) (ks : List ℕ) → LinesAscend (length lines) ks
      → lowest (cond b (faults_in (numbered lines ks) ++ lacks_in (numbered lines ks)) (record { line = first_in ks; cause = TwoProcesses } ∷ []))
      ≡ err_of (cond b (ok_map AProcess (process_in (numbered lines ks))) (Err (record { line = first_in ks; cause = TwoProcesses })))
  process_lowest true ks up =
      let block : List Numbered = numbered lines ks in
      let in_order : IsStrictlyIncreasing (lines_in block) = subst IsStrictlyIncreasing (sym (numbers_of lines ks)) (increasing 0 (length lines) ks up) in
      fault_told AProcess (lowest (faults_in block ++ lacks_in block)) _ ∙ ap (λ (r : Result ProcessMade Fault). err_of (ok_map AProcess r)) (sym (lowest_is_told block in_order))
  process_lowest false ks up = refl

  topic_lowest : (process : Option ℕ) (topic : Topic) (ks : List ℕ) → LinesAscend (length lines) ks → lowest (faults_about lines process topic ks) ≡ err_of (part_in lines process topic ks)
  topic_lowest process (topics.Interface name) ks up = lowest_one (err_of (part_in lines process (topics.Interface name) ks))
  topic_lowest process topics.Statics ks up = lowest_one (err_of (part_in lines process topics.Statics ks))
  topic_lowest process (topics.Process asn) ks up = process_lowest (option_eq (λ x y. x == y) process (Some asn)) ks up
  topic_lowest process (topics.Clause name number) ks up = lowest_one (err_of (part_in lines process (topics.Clause name number) ks))
  topic_lowest process (topics.List name) ks up = lowest_one (err_of (part_in lines process (topics.List name) ks))
  topic_lowest process (topics.Communities name) ks up = lowest_one (err_of (part_in lines process (topics.Communities name) ks))
  topic_lowest process topics.Filters ks up = refl
  topic_lowest process (topics.Group name inward) ks up = refl

  -- so the lowest of what is wrong with lines and topics is that of what the parts tell
  topics_lowest : lowest (filter_map (λ r. wrong_at r.line r.role) (roles_from [] lines) ++ flat_map (λ g. faults_about lines (process_number (roles_from [] lines)) g.key g.values) (topics_of (roles_from [] lines)))
      ≡ lowest (filter_map (λ r. wrong_at r.line r.role) (roles_from [] lines) ++ filter_map err_of (parts_of lines (roles_from [] lines)))
  topics_lowest =
      let rs = roles_from [] lines in
      let process : Option ℕ = process_number rs in
      let wrongs : List Fault = filter_map (λ r. wrong_at r.line r.role) rs in
      let part : Group Topic ℕ → Result Part Fault = λ g. part_in lines process g.key g.values in
      let about : Group Topic ℕ → List Fault = λ g. faults_about lines process g.key g.values in
      let each : lowest (flat_map about (topics_of rs)) ≡ lowest (filter_map (λ g. err_of (part g)) (topics_of rs)) =
      lowest_flat about (λ g. err_of (part g)) (topics_of rs)
      (λ g h. topic_lowest process g.key g.values (group_ascends same_topic topics_same (λ (k : ℕ). k) 0 (length lines) (spoken rs) (spoken_ascend lines) g h)) in
      lowest_append wrongs (flat_map about (topics_of rs)) ∙ ap (lower_of (lowest wrongs)) (each ∙ sym (ap (λ (fs : List Fault). lowest fs) (kept_map err_of part (topics_of rs))))
      ∙ sym (lowest_append wrongs (filter_map err_of (parts_of lines rs)))

  -- and so is that of all, where what is wrong with entries of access lists is told too
  pub lowest_same : lowest (faults_of lines (roles_from [] lines))
      ≡ lowest ((filter_map (λ r. wrong_at r.line r.role) (roles_from [] lines) ++ filter_map err_of (parts_of lines (roles_from [] lines))) ++ odd_faults (filter_map ok_of (parts_of lines (roles_from [] lines))))
  lowest_same =
      let odd : List Fault = odd_faults (filter_map ok_of (parts_of lines (roles_from [] lines))) in
      lowest_append _ odd ∙ ap (λ (o : Option Fault). lower_of o (lowest odd)) topics_lowest ∙ sym (lowest_append _ odd)
