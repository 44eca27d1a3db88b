-- What is told of configurations: of one by itself, and of several together.
use Rattle.std.proofs.Common.{◌≡◌, ℕ, zero, suc, ◌≤◌, List, [], ◌∷◌, length, map, Option, Some, None, Ok, Err, All, refl, sym, ap, ◌∙◌, subst, arith}
use Rattle.std.specs.Prelude.{slice_get}
use Rattle.std.specs.Option.{option_map, option_map_or}
use Rattle.std.proofs.lemmas.List.Elements.{All-nil, All-cons, All-map}
use Rattle.std.proofs.lemmas.List.{length-map}
use Rattle.nc_types.specs.Config.{ConfigView, config_view}
use Rattle.nc_types.specs.WellFormed.{IsWellFormed}
use Rattle.nc_types.specs.declared.config.RouterConfig.{RouterConfig}
use Rattle.nc_types.specs.declared.fault.Fault.{Fault}
use Rattle.nc_reader.specs.Configuration.{configuration}
use Rattle.nc_tables.specs.Base.{base_tables}
use Rattle.nc_tables.specs.Sessions.{sessions}
use Rattle.nc_tables.specs.Rounds.{BgpRowView}
use Rattle.nc_tables.specs.State.{StateView, state_at}
use Rattle.nc_tables.specs.Settling.{settled, settled_table}
use Rattle.nc_network.specs.Judged.{Names, Overlaps, Addresses, References, Judgement, Clashing, OverLimit, Fine}
use Rattle.nc_network.specs.Told.{IsTold, fault_of, router_of}
use Rattle.nc_network.specs.declared.fault.JoinFault.{JoinFault}
use Rattle.nc_network.specs.declared.fault.JoinFault.TheVariants as joins
use Rattle.nc_load.specs.Limits.{most_lines}
use Rattle.nc_report.specs.Views.{FileView, file_view}
use Rattle.nc_report.specs.declared.file.LoadedFile.{LoadedFile}
use Rattle.nc_report.specs.Files.{AreFilesOf}
use Rattle.nc_load.specs.Load.{Unsettled, load_judged, load_settled}
use Rattle.nc_load.specs.Loading.{IsFault, IsConfigured, AreBeside, joining_fault}

-- ---- one configuration

by_parts : (count : ℕ) (make : ℕ × List ℕ → ConfigView) (fault : Option Fault) (name : Option (ℕ × List ℕ)) (none : Fault) (c : ConfigView)
    → option_map_or Err fault (option_map_or (λ n. Ok (make n)) name (Err none)) ≡ Ok c → ((n : ℕ × List ℕ) → (make n).line_count ≡ count) → c.line_count ≡ count
by_parts count make (Some fault) name none c e made = absurd cc
by_parts count make None None none c e made = absurd cc
by_parts count make None (Some name) none c e made =
    let same : make name ≡ c = cc in
    subst (λ (x : ConfigView). x.line_count ≡ count) same (made name)

-- a file's configuration counts the lines
pub configured : (lines : List (List ℕ)) (c : ConfigView) → configuration lines ≡ Ok c → c.line_count ≡ length lines
unfolding configuration
configured lines c e = by_parts (length lines) _ _ _ _ c e (λ n. refl)

-- ---- several

pub all_formed : (cs : List RouterConfig) → All (λ c. IsConfigured (config_view c)) cs → All IsWellFormed (map config_view cs)
all_formed cs read = All-map IsWellFormed config_view cs (λ k d within. (read k d within).formed)

pub all_short : (cs : List RouterConfig) → All (λ c. IsConfigured (config_view c)) cs → All (λ c. c.line_count ≤ most_lines) cs
all_short cs read = λ k d within. (read k d within).lines

-- the files beside them have no more lines than a file may have
pub files_short : (files : List LoadedFile) (cs : List RouterConfig) → AreBeside (map file_view files) (map config_view cs) → All (λ c. IsConfigured (config_view c)) cs
    → All (λ f. length (file_view f).lines ≤ most_lines) files
files_short [] cs beside read = All-nil (λ f. length (file_view f).lines ≤ most_lines)
files_short (f ∷ fs) [] beside read = absurd cc
files_short (f ∷ fs) (c ∷ cs) beside read =
    let first : length (file_view f).lines ≡ (config_view c).line_count = cc in
    let others : AreBeside (map file_view fs) (map config_view cs) = cc in
    All-cons (λ f. length (file_view f).lines ≤ most_lines) f fs (omega (arith, first, (read 0 c (omega arith)).lines))
    (files_short fs cs others (λ k d lt. read (suc k) d (omega (arith, lt))))

module _ (rounds : ℕ) (names : List (List ℕ)) (routers : List ConfigView) where
  abbrev Holds : Judgement → JoinFault → Type 0
  Holds j fault = IsFault names (joining_fault fault) (load_settled rounds (load_judged names routers j))

  known : (j : Judgement) (fault : JoinFault) → fault_of j ≡ Some fault → Holds j fault
  known (Clashing Names c) fault e =
      let same : joins.SameName (router_of c.first) (router_of c.second) c.second_line ≡ fault = cc in subst (Holds (Clashing Names c)) same refl
  known (Clashing Overlaps c) fault e =
      let same : joins.Overlap (router_of c.first) c.first_line c.second_line ≡ fault = cc in subst (Holds (Clashing Overlaps c)) same refl
  known (Clashing Addresses c) fault e =
      let same : joins.SameAddress (router_of c.first) c.first_line (router_of c.second) c.second_line ≡ fault = cc in subst (Holds (Clashing Addresses c)) same refl
  known (Clashing References c) fault e =
      let same : joins.Undefined (router_of c.first) c.first_line ≡ fault = cc in subst (Holds (Clashing References c)) same refl
  known (OverLimit which) fault e = let same : joins.Limit which ≡ fault = cc in subst (Holds (OverLimit which)) same refl
  known Fine fault e = absurd cc

  -- a fault of joining is what is told of the files
  pub told_fault : (T : Type 0) (j : Judgement) (fault : JoinFault) → IsTold {T = T} j (Err fault) → Holds j fault
  told_fault T j joins.Memory told = tt
  told_fault T j (joins.SameName first second line) told = known j (joins.SameName first second line) told
  told_fault T j (joins.Overlap router first second) told = known j (joins.Overlap router first second) told
  told_fault T j (joins.SameAddress first first_line second second_line) told = known j (joins.SameAddress first first_line second second_line) told
  told_fault T j (joins.Undefined router line) told = known j (joins.Undefined router line) told
  told_fault T j (joins.Limit which) told = known j (joins.Limit which) told

-- routers settle in a state of theirs
pub settled_routers : (rounds : ℕ) (routers : List ConfigView) (s : StateView) → settled rounds routers ≡ Some s → s.routers ≡ routers
unfolding settled state_at
settled_routers rounds routers s e = on (settled_table routers (base_tables routers) (sessions routers (base_tables routers)) rounds) e
  where
    on : (o : Option (List (List BgpRowView))) → option_map (state_at routers) o ≡ Some s → s.routers ≡ routers
    on None none = absurd cc
    on (Some table) some =
        let same : state_at routers table ≡ s = cc in sym (ap (λ (t : StateView). t.routers) same)

-- configurations with which nothing is wrong, and which settle
pub load_fine : (rounds : ℕ) (names : List (List ℕ)) (routers : List ConfigView) (j : Judgement) (state : StateView) → j ≡ Fine → settled rounds routers ≡ Some state
    → load_settled rounds (load_judged names routers j) ≡ Ok state
load_fine rounds names routers j state fine is =
    ap (λ (k : Judgement). load_settled rounds (load_judged names routers k)) fine
    ∙ ap (λ (o : Option StateView). option_map_or Ok o (Err (Unsettled rounds))) is

-- configurations with which nothing is wrong, and which don't settle
pub load_unsettled : (rounds : ℕ) (names : List (List ℕ)) (routers : List ConfigView) (j : Judgement) → j ≡ Fine → settled rounds routers ≡ None
    → load_settled rounds (load_judged names routers j) ≡ Err (Unsettled rounds)
load_unsettled rounds names routers j fine is =
    ap (λ (k : Judgement). load_settled rounds (load_judged names routers k)) fine
    ∙ ap (λ (o : Option StateView). option_map_or Ok o (Err (Unsettled rounds))) is

-- ---- the files of the routers

abbrev lines_in : FileView → ℕ
lines_in f = length f.lines

abbrev count_in : ConfigView → ℕ
count_in c = c.line_count

each_fits : (files : List FileView) (routers : List ConfigView) → map lines_in files ≡ map count_in routers → (router : ℕ) (c : ConfigView) (f : FileView) → slice_get routers router ≡ Some c → slice_get files router ≡ Some f → length f.lines ≡ c.line_count
each_fits [] routers beside router c f at file = absurd cc
each_fits (g ∷ files) [] beside router c f at file = absurd cc
each_fits (g ∷ files) (d ∷ routers) beside zero c f at file = cc
each_fits (g ∷ files) (d ∷ routers) beside (suc router) c f at file =
    let tails : map lines_in files ≡ map count_in routers = cc in
    each_fits files routers tails router c f at file

-- files that stand beside configurations are those of their routers
pub files_fit : (files : List FileView) (routers : List ConfigView) → AreBeside files routers → AreFilesOf routers files
files_fit files routers beside = record {
  count = sym (length-map files lines_in) ∙ ap length beside ∙ length-map routers count_in;
  each = λ router c f at file. each_fits files routers beside router c f at file;
}
