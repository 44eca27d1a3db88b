-- What is loaded is a valid network, and has a state.
use Rattle.std.proofs.Common.{◌≡◌, ℕ, ◌≤◌, Bool, true, false, cond, nat_le, List, [], ◌∷◌, length, All, Option, Some, None, Result, Ok, Err, map, refl, ap, ◌∙◌, subst, arith}
use Rattle.std.specs.Option.{option_map_or}
use Rattle.std.proofs.lemmas.Bool.{leb-true}
use Rattle.std.proofs.lemmas.List.Elements.{All-cons}
use Rattle.nc_types.specs.Config.{ConfigView}
use Rattle.nc_types.specs.Joining.{Clash, IsValid, same_names, overlaps, same_addresses, undefined}
use Rattle.nc_types.specs.WellFormed.{IsWellFormed}
use Rattle.nc_types.specs.declared.fault.Fault.{Fault}
use Rattle.nc_outside.specs.Named.{Named, content_of}
use Rattle.nc_lines.specs.Lines.{lines_of}
use Rattle.nc_reader.specs.Configuration.{configuration}
use Rattle.nc_network.specs.Judged.{ClashKind, Names, Overlaps, Addresses, References, Judgement, Clashing, OverLimit, Fine, or_clash, judged}
use Rattle.nc_tables.specs.State.{StateView, IsState}
use Rattle.nc_tables.specs.Settling.{settled}
use Rattle.nc_load.specs.Limits.{most_file_bytes, most_lines, most_routers}
use Rattle.nc_load.specs.declared.refusal.Quantity.TheVariants.{Routers, Bytes, Lines}
use Rattle.nc_words.specs.Words.{RequestView, request_of}
use Rattle.nc_report.specs.Views.{FileView}
use Rattle.nc_engine.specs.File.{LoadedView}
use Rattle.nc_load.specs.Load.{Refusal, TooMany, Unsettled, load_result, load_lines, load_content, load_each, and_then, load_judged, load_joined, load_names, load_settled, file_of}
use Rattle.nc_session.specs.Load.{load, load_asked, names_in, files_in, lists_in, with_files}

-- ---- joining

clean : (kind : ClashKind) (clashes : List Clash) (behind : Judgement) → or_clash kind clashes behind ≡ Fine → (clashes ≡ []) × (behind ≡ Fine)
clean kind [] behind fine = (refl, fine)
clean kind (c ∷ cs) behind fine = absurd (cc)

-- configurations with which nothing is wrong are valid together
valid : (routers : List ConfigView) → All IsWellFormed routers → judged routers ≡ Fine → IsValid routers
valid routers formed fine =
    let names = clean Names (same_names routers) _ fine in
    let prefixes = clean Overlaps (overlaps routers) _ names.1 in
    let addresses = clean Addresses (same_addresses routers) _ prefixes.1 in
    let references = clean References (undefined routers) _ addresses.1 in
    record { each = formed; names = names.0; prefixes = prefixes.0; addresses = addresses.0; references = references.0 }

-- ---- file by file

module _ (formed : (lines : List (List ℕ)) (c : ConfigView) → configuration lines ≡ Ok c → IsWellFormed c)
    (lawful : (routers : List ConfigView) (rounds : ℕ) (s : StateView) → IsValid routers → length routers ≤ most_routers → settled rounds routers ≡ Some s → IsState s) where
  result_one : (name : List ℕ) (lines : List (List ℕ)) (c : ConfigView) (r : Result ConfigView Fault) → configuration lines ≡ r → load_result name r ≡ Ok c → IsWellFormed c
  result_one name lines c (Err fault) is e = absurd (cc)
  result_one name lines c (Ok d) is e =
      let same : d ≡ c = cc in
      let own : configuration lines ≡ Ok c = is ∙ ap Ok same in
      formed lines c own

  lines_one : (name : List ℕ) (lines : List (List ℕ)) (c : ConfigView) (few : Bool) → cond few (load_result name (configuration lines)) (Err (TooMany Lines)) ≡ Ok c → IsWellFormed c
  lines_one name lines c true e = result_one name lines c (configuration lines) refl e
  lines_one name lines c false e = absurd (cc)

  length_one : (name content : List ℕ) (c : ConfigView) (few : Bool) → cond few (load_lines name (lines_of content)) (Err (TooMany Bytes)) ≡ Ok c → IsWellFormed c
  length_one name content c true e = lines_one name (lines_of content) c (nat_le (length (lines_of content)) most_lines) e
  length_one name content c false e = absurd (cc)

  content_one : (name : List ℕ) (content : Option (List ℕ)) (c : ConfigView) → load_content name content ≡ Ok c → IsWellFormed c
  content_one name None c e = absurd (cc)
  content_one name (Some content) c e = length_one name content c (nat_le (length content) most_file_bytes) e

  -- what is known of all that were loaded
  record AreLoaded (names : List (List ℕ)) (cs : List ConfigView) : Type 0 where
    each : All IsWellFormed cs
    count : length cs ≡ length names

  one_more : (name : List ℕ) (names : List (List ℕ)) (one : Result ConfigView Refusal) (rest : Result (List ConfigView) Refusal) (cs : List ConfigView)
      → ((c : ConfigView) → one ≡ Ok c → IsWellFormed c) → ((ds : List ConfigView) → rest ≡ Ok ds → AreLoaded names ds) → and_then one rest ≡ Ok cs → AreLoaded (name ∷ names) cs
  one_more name names (Err refusal) rest cs first more e = absurd (cc)
  one_more name names (Ok c) (Err refusal) cs first more e = absurd (cc)
  one_more name names (Ok c) (Ok ds) cs first more e =
      let same : c ∷ ds ≡ cs = cc in
      let are = more ds refl in
      subst (AreLoaded (name ∷ names)) same (record { each = All-cons IsWellFormed c ds (first c refl) are.each; count = omega (arith, are.count) })

  each_loaded : (files : List Named) (names : List (List ℕ)) (cs : List ConfigView) → load_each files names ≡ Ok cs → AreLoaded names cs
  each_loaded files [] cs e = let none : [] ≡ cs = cc in subst (AreLoaded []) none (record { each = λ k d lt. absurd (omega (arith, lt)); count = refl })
  each_loaded files (name ∷ names) cs e =
      one_more name names (load_content name (content_of files name)) (load_each files names) cs (content_one name (content_of files name)) (each_loaded files names) e

  -- ---- all together

  -- what routers that were loaded settle in is a state
  IsSettled : Result (List ConfigView) Refusal → Type 0
  IsSettled loaded = (rounds : ℕ) (state : StateView) → load_settled rounds loaded ≡ Ok state → IsState state

  by_settled : (rounds : ℕ) (o : Option StateView) (state : StateView) → ((s : StateView) → o ≡ Some s → IsState s) → option_map_or Ok o (Err (Unsettled rounds)) ≡ Ok state → IsState state
  by_settled rounds None state holds e = absurd cc
  by_settled rounds (Some s) state holds e =
      let same : s ≡ state = cc in subst IsState same (holds s refl)

  routers_settled : (routers : List ConfigView) → IsValid routers → length routers ≤ most_routers → IsSettled (Ok routers)
  unfolding IsSettled
  routers_settled routers valid few rounds state e = by_settled rounds (settled rounds routers) state (λ s. lawful routers rounds s valid few) e

  refusal_settled : (refusal : Refusal) → IsSettled (Err refusal)
  unfolding IsSettled
  refusal_settled refusal rounds state e = absurd cc

  judged_settled : (names : List (List ℕ)) (cs : List ConfigView) (j : Judgement) → judged cs ≡ j → All IsWellFormed cs → length cs ≤ most_routers → IsSettled (load_judged names cs j)
  judged_settled names cs (Clashing Names c) is each few = refusal_settled _
  judged_settled names cs (Clashing Overlaps c) is each few = refusal_settled _
  judged_settled names cs (Clashing Addresses c) is each few = refusal_settled _
  judged_settled names cs (Clashing References c) is each few = refusal_settled _
  judged_settled names cs (OverLimit which) is each few = refusal_settled _
  judged_settled names cs Fine is each few = routers_settled cs (valid cs each is) few

  joined_settled : (names : List (List ℕ)) (each : Result (List ConfigView) Refusal) → length names ≤ most_routers
      → ((cs : List ConfigView) → each ≡ Ok cs → AreLoaded names cs) → IsSettled (load_joined names each)
  joined_settled names (Err refusal) few loaded = refusal_settled refusal
  joined_settled names (Ok cs) few loaded =
      let are = loaded cs refl in judged_settled names cs (judged cs) refl are.each (omega (arith, are.count, few))

  names_settled : (names : List (List ℕ)) (files : List Named) (few : Bool) → nat_le (length names) most_routers ≡ few
      → IsSettled (cond few (load_joined names (load_each files names)) (Err (TooMany Routers)))
  names_settled names files true few = joined_settled names (load_each files names) (leb-true (length names) most_routers few) (each_loaded files names)
  names_settled names files false few = refusal_settled (TooMany Routers)

  files_settled : (names : List (List ℕ)) (files : List Named) → IsSettled (load_names names files)
  unfolding load_names
  files_settled names files = names_settled names files (nat_le (length names) most_routers) refl

  by_files : (listed : Bool) (files : List FileView) (settles : Result StateView Refusal) (loaded : LoadedView) → ((state : StateView) → settles ≡ Ok state → IsState state)
      → with_files listed files settles ≡ Ok loaded → IsState loaded.state
  by_files listed files (Err refusal) loaded holds e = absurd cc
  by_files listed files (Ok state) loaded holds e =
      let same : ◌≡◌ {A = LoadedView} (record { state = state; files = files; listed = listed }) loaded = cc in
      subst IsState (ap (λ (l : LoadedView). l.state) same) (holds state refl)

  by_request : (asked : Option RequestView) (files : List Named) (loaded : LoadedView) → load_asked asked files ≡ Ok loaded → IsState loaded.state
  unfolding IsSettled
  by_request None files loaded e = absurd cc
  by_request (Some request) files loaded e =
      let own = files_in request.input files in
      by_files (lists_in request.input) (map (file_of own) (names_in request.input)) (load_settled request.rounds (load_names (names_in request.input) own)) loaded
      (λ state. files_settled (names_in request.input) own request.rounds state) e

  -- what the words and the files load is a state
  pub loaded_state : (words : List (List ℕ)) (files : List Named) (loaded : LoadedView) → load words files ≡ Ok loaded → IsState loaded.state
  loaded_state words files loaded e = by_request (request_of words) files loaded e
