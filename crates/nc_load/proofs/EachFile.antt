-- What comes of files one after another.
use Rattle.std.proofs.Common.{◌≡◌, ℕ, ◌+◌, ◌<◌, List, [], ◌∷◌, ◌++◌, length, map, take, drop, Option, Some, None, Result, Ok, Err, IfSome, inl, inr, refl, sym, ap, ◌∙◌, subst, append_assoc, append-nil}
use Rattle.nc_types.specs.Config.{ConfigView}
use Rattle.nc_outside.specs.Named.{Named, content_of}
use Rattle.nc_outside.specs.Counts.{Faults, Entries, one_entry, entries_after}
use Rattle.nc_lines.specs.WholeLines.{all_but_last}
use Rattle.std.proofs.lemmas.List.{take_more, drop_more, take-append-drop, map-append}
use Rattle.nc_load.specs.declared.refusal.LoadFault.{LoadFault}
use Rattle.nc_load.specs.declared.refusal.LoadFault.TheVariants.{Outside, Over, Bad, Memory}
use Rattle.nc_load.specs.declared.refusal.LoadFault.TheVariants as faults
use Rattle.nc_report.specs.Views.{FileView}
use Rattle.nc_load.specs.Load.{Refusal, TooMany, Missing, Faulty, Unsettled, load_content, load_each, file_named, file_of, and_then, before_all}
use Rattle.nc_load.specs.Entering.{EntersInTurn, EntersEach}
use Rattle.nc_load.specs.Loading.{IsFault, IsMissingOf, HasFaultCause, AddsFile, AreFilesNamed}
use Rattle.nc_load.proofs.Options.{some_more}

-- all of several outcomes, in front of those of more files
abbrev pub in_front : List ConfigView → Result (List ConfigView) Refusal → Result (List ConfigView) Refusal
in_front [] further = further
in_front (c ∷ cs) further = before_all c (in_front cs further)

front_of : (one : Result ConfigView Refusal) (rest further : Result (List ConfigView) Refusal) (cs : List ConfigView) (whole : Result (List ConfigView) Refusal)
    → and_then one rest ≡ Ok cs → ((ds : List ConfigView) → rest ≡ Ok ds → whole ≡ in_front ds further) → and_then one whole ≡ in_front cs further
front_of (Err refusal) rest further cs whole e is = absurd cc
front_of (Ok c) (Err refusal) further cs whole e is = absurd cc
front_of (Ok c) (Ok ds) further [] whole e is = absurd cc
front_of (Ok c) (Ok ds) further (d ∷ cs) whole e is =
    let same : c ∷ ds ≡ d ∷ cs = cc in
    ap (before_all c) (is ds refl) ∙ ap (λ (l : List ConfigView). in_front l further) same

-- files of which the first were loaded
pub load_behind : (fs : List Named) (names behind : List (List ℕ)) (cs : List ConfigView) → load_each fs names ≡ Ok cs → load_each fs (names ++ behind) ≡ in_front cs (load_each fs behind)
load_behind fs [] behind cs e =
    let none : [] ≡ cs = cc in
    ap (λ (l : List ConfigView). in_front l (load_each fs behind)) none
load_behind fs (name ∷ names) behind cs e =
    front_of (load_content name (content_of fs name)) (load_each fs names) (load_each fs behind) cs (load_each fs (names ++ behind)) e (λ ds f. load_behind fs names behind ds f)

pub in_front-Err : (cs : List ConfigView) (refusal : Refusal) → in_front cs (Err refusal) ≡ Err refusal
in_front-Err [] refusal = refl
in_front-Err (c ∷ cs) refusal = ap (before_all c) (in_front-Err cs refusal)

pub in_front-Ok : (cs ds : List ConfigView) → in_front cs (Ok ds) ≡ Ok (cs ++ ds)
in_front-Ok [] ds = refl
in_front-Ok (c ∷ cs) ds = ap (before_all c) (in_front-Ok cs ds)

module _ (fs : List Named) (names : List (List ℕ)) (name : List ℕ) (cs : List ConfigView) (loaded : load_each fs names ≡ Ok cs) where
  -- one file more was loaded
  pub load_more : (c : ConfigView) → load_content name (content_of fs name) ≡ Ok c → load_each fs (names ++ name ∷ []) ≡ Ok (cs ++ c ∷ [])
  load_more c is = load_behind fs names (name ∷ []) cs loaded ∙ ap (λ (one : Result ConfigView Refusal). in_front cs (and_then one (Ok []))) is ∙ in_front-Ok cs (c ∷ [])

  -- a file is refused, and so are all
  pub load_stops : (behind : List (List ℕ)) (refusal : Refusal) → load_content name (content_of fs name) ≡ Err refusal → load_each fs (names ++ name ∷ behind) ≡ Err refusal
  load_stops behind refusal is =
      load_behind fs names (name ∷ behind) cs loaded ∙ ap (λ (one : Result ConfigView Refusal). in_front cs (and_then one (load_each fs behind))) is ∙ in_front-Err cs refusal

-- of files that were loaded, all but the last were
pub load_but_last : (fs : List Named) (names : List (List ℕ)) (cs : List ConfigView) → load_each fs names ≡ Ok cs → (routers : List ConfigView) × (load_each fs (all_but_last names) ≡ Ok routers)
load_but_last fs [] cs e = ([], refl)
load_but_last fs (x ∷ []) cs e = ([], refl)
load_but_last fs (x ∷ y ∷ names) cs e = on (load_content x (content_of fs x)) (load_each fs (y ∷ names)) (λ ds is. load_but_last fs (y ∷ names) ds is) e
  where
    on : (one : Result ConfigView Refusal) (rest : Result (List ConfigView) Refusal) → ((ds : List ConfigView) → rest ≡ Ok ds → (routers : List ConfigView) × (load_each fs (all_but_last (y ∷ names)) ≡ Ok routers))
        → and_then one rest ≡ Ok cs
        → (routers : List ConfigView) × (and_then one (load_each fs (all_but_last (y ∷ names))) ≡ Ok routers)
    on (Err refusal) rest but e = absurd cc
    on (Ok c) (Err refusal) but e = absurd cc
    on (Ok c) (Ok ds) but e = let front = but ds refl in (c ∷ front.0, ap (before_all c) front.1)

-- ---- the files so far

-- a list without the item at its end
all_but_one : (xs : List (List ℕ)) (x : List ℕ) → all_but_last (xs ++ x ∷ []) ≡ xs
all_but_one [] x = refl
all_but_one (y ∷ []) x = refl
all_but_one (y ∷ z ∷ xs) x = ap (λ (l : List (List ℕ)). y ∷ l) (all_but_one (z ∷ xs) x)

-- one entry more
pub entries_more : (names : List (List ℕ)) (name : List ℕ) (entries : Entries) → entries_after (names ++ name ∷ []) entries ≡ one_entry name (entries_after names entries)
entries_more [] name entries = refl
entries_more (n ∷ ns) name entries = entries_more ns name (one_entry n entries)

-- the names before a place, the one there and those behind
pub names_at : (names : List (List ℕ)) (k : ℕ) → k < length names → names ≡ take k names ++ file_named names k ∷ drop (k + 1) names
names_at names k within = sym (take-append-drop k names) ∙ ap (λ (ns : List (List ℕ)). take k names ++ ns) (drop_more names k [] within)

module _ (names : List (List ℕ)) (files : Option (List Named)) (k : ℕ) (within : k < length names) (cs : List ConfigView)
    (loaded : IfSome files (λ fs. load_each fs (take k names) ≡ Ok cs)) where
  before_loaded : IfSome files (λ fs. (routers : List ConfigView) × (load_each fs (take k names) ≡ Ok routers))
  before_loaded = some_more files (λ fs. load_each fs (take k names) ≡ Ok cs) (λ fs. (routers : List ConfigView) × (load_each fs (take k names) ≡ Ok routers)) (λ fs e. (cs, e)) loaded

  -- the file at the place is entered in its turn
  pub turn_next : (now : Option (List ℕ)) → IfSome now (λ name. name ≡ file_named names k) → IfSome now (EntersInTurn names files)
  turn_next now named = on now named
    where
      on : (o : Option (List ℕ)) → IfSome o (λ name. name ≡ file_named names k) → IfSome o (EntersInTurn names files)
      on None named = tt
      on (Some name) named = record {
        before = take k names;
        behind = drop (k + 1) names;
        place = names_at names k within ∙ ap (λ (n : List ℕ). take k names ++ n ∷ drop (k + 1) names) (sym named);
        loaded = before_loaded;
      }

  -- and it is the last of those that were entered
  pub entries_next : (before at now : Entries) → at ≡ entries_after (take k names) before → now ≡ one_entry (file_named names k) at → EntersEach names files before now
  entries_next before at now done one = record {
    entered = take k names ++ file_named names k ∷ [];
    others = drop (k + 1) names;
    parts = names_at names k within ∙ sym (append_assoc (take k names) (file_named names k ∷ []) (drop (k + 1) names));
    entries = one ∙ ap (one_entry (file_named names k)) done ∙ sym (entries_more (take k names) (file_named names k) before);
    loaded = subst (λ (front : List (List ℕ)). IfSome files (λ fs. (routers : List ConfigView) × (load_each fs front ≡ Ok routers))) (sym (all_but_one (take k names) (file_named names k))) before_loaded;
  }

  -- what comes of the file at the place
  abbrev one_of : List Named → Result ConfigView Refusal
  one_of fs = load_content (file_named names k) (content_of fs (file_named names k))

  stops_at : (fs : List Named) (refusal : Refusal) → load_each fs (take k names) ≡ Ok cs → one_of fs ≡ Err refusal → load_each fs names ≡ Err refusal
  stops_at fs refusal e is = ap (load_each fs) (names_at names k within) ∙ load_stops fs (take k names) (file_named names k) cs e (drop (k + 1) names) refusal is

  fault_at : (fs : List Named) (fault : LoadFault) → load_each fs (take k names) ≡ Ok cs → IsFault names fault (one_of fs) → IsFault names fault (load_each fs names)
  fault_at fs Outside e is = tt
  fault_at fs Memory e is = tt
  fault_at fs (Over quantity) e is = stops_at fs (TooMany quantity) e is
  fault_at fs (Bad file line reason) e is = stops_at fs (Faulty (file_named names file) line reason) e is
  fault_at fs (faults.Unsettled rounds) e is = stops_at fs (Unsettled rounds) e is

  -- its fault is that of all files, with its cause
  pub fault_of_all : (fault : LoadFault) → IfSome files (λ fs. IsFault names fault (one_of fs)) → IfSome files (λ fs. IsFault names fault (load_each fs names))
  fault_of_all fault is = on files loaded is
    where
      on : (o : Option (List Named)) → IfSome o (λ fs. load_each fs (take k names) ≡ Ok cs) → IfSome o (λ fs. IsFault names fault (one_of fs)) → IfSome o (λ fs. IsFault names fault (load_each fs names))
      on None e is = tt
      on (Some fs) e is = fault_at fs fault e is

  missing_of_all : IsMissingOf files one_of → IsMissingOf files (λ fs. load_each fs names)
  missing_of_all is = on files loaded is
    where
      on : (o : Option (List Named)) → IfSome o (λ fs. load_each fs (take k names) ≡ Ok cs) → IsMissingOf o one_of → IsMissingOf o (λ fs. load_each fs names)
      on None e is = is
      on (Some fs) e is = stops_at fs Missing e is

  pub cause_of_all : (fault : LoadFault) (before now : Faults) → HasFaultCause files one_of before now fault → HasFaultCause files (λ fs. load_each fs names) before now fault
  cause_of_all Outside before now (inl rose) = inl rose
  cause_of_all Outside before now (inr missing) = inr (missing_of_all missing.0, missing.1)
  cause_of_all Memory before now cause = cause
  cause_of_all (Over quantity) before now cause = cause
  cause_of_all (Bad file line reason) before now cause = cause
  cause_of_all (faults.Unsettled rounds) before now cause = cause

  -- with it one file more was loaded
  pub loaded_next : (ds : List ConfigView) → IfSome files (λ fs. (c : ConfigView) × (one_of fs ≡ Ok c) × (ds ≡ cs ++ c ∷ [])) → IfSome files (λ fs. load_each fs (take (k + 1) names) ≡ Ok ds)
  loaded_next ds is = on files loaded is
    where
      on : (o : Option (List Named)) → IfSome o (λ fs. load_each fs (take k names) ≡ Ok cs) → IfSome o (λ fs. (c : ConfigView) × (one_of fs ≡ Ok c) × (ds ≡ cs ++ c ∷ [])) → IfSome o (λ fs. load_each fs (take (k + 1) names) ≡ Ok ds)
      on None e is = tt
      on (Some fs) e is =
          ap (load_each fs) (take_more names k [] within) ∙ load_more fs (take k names) (file_named names k) cs e is.0 is.1 ∙ ap Ok (sym is.2)

  -- one file more has its name and its lines
  pub named_next : (old new : List FileView) → AreFilesNamed files (take k names) old → AddsFile files (file_named names k) old new → AreFilesNamed files (take (k + 1) names) new
  named_next old new are adds =
      let name = file_named names k in
      let more : take (k + 1) names ≡ take k names ++ name ∷ [] = take_more names k [] within in
      let named : map (λ f. f.name) new ≡ take k names ++ name ∷ [] =
      ap (map (λ (f : FileView). f.name)) adds.added ∙ map-append (λ (f : FileView). f.name) old (adds.file ∷ []) ∙ ap (λ (l : List (List ℕ)). l ++ adds.file.name ∷ []) are.named
      ∙ ap (λ (n : List ℕ). take k names ++ n ∷ []) adds.is.named in
      record { named = named ∙ sym more; whole = on files are.whole adds.is.whole }
    where
      on : (o : Option (List Named)) → IfSome o (λ fs. old ≡ map (file_of fs) (take k names)) → IfSome o (λ fs. adds.file ≡ file_of fs (file_named names k)) → IfSome o (λ fs. new ≡ map (file_of fs) (take (k + 1) names))
      on None e is = tt
      on (Some fs) e is =
          adds.added ∙ ap (λ (l : List FileView). l ++ adds.file ∷ []) e ∙ ap (λ (f : FileView). map (file_of fs) (take k names) ++ f ∷ []) is
          ∙ sym (map-append (file_of fs) (take k names) (file_named names k ∷ [])) ∙ ap (map (file_of fs)) (sym (take_more names k [] within))

-- all files were entered
pub entries_whole : (names : List (List ℕ)) (files : Option (List Named)) (cs : List ConfigView) → IfSome files (λ fs. load_each fs names ≡ Ok cs) → (before now : Entries) → now ≡ entries_after names before → EntersEach names files before now
entries_whole names files cs loaded before now all = record {
  entered = names;
  others = [];
  parts = sym (append-nil names);
  entries = all;
  loaded = some_more files (λ fs. load_each fs names ≡ Ok cs) (λ fs. (routers : List ConfigView) × (load_each fs (all_but_last names) ≡ Ok routers)) (λ fs e. load_but_last fs names cs e) loaded;
}
