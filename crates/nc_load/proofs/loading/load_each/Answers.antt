use Rattle.std.proofs.Common.{◌≡◌, ◌∙◌, ◌<◌, ◌+◌, ◌++◌, ◌∷◌, [], ℕ, List, Option, Ok, IfSome, length, map, take, ap, sym, subst, inr, arith}
use Rattle.std.proofs.lemmas.List.{length-map, take_more, take_all}
use Rattle.std.specs.String.{string_bytes}
use Rattle.nc_types.specs.Config.{ConfigView, config_view}
use Rattle.nc_outside.specs.Named.{Named, content_of}
use Rattle.nc_outside.specs.Counts.{Faults, one_entry, entries_after}
use Rattle.nc_report.specs.Views.{file_view}
use Rattle.nc_words.specs.Words.{texts}
use Rattle.nc_load.specs.Load.{load_content, load_each, file_named}
use Rattle.nc_load.specs.Entering.{TakesOfEntered}
use Rattle.nc_load.specs.Loading.{IsFault, HasFaultCause, AddsFile}
use Rattle.nc_load.proofs.EachFile.{turn_next, entries_next, entries_more, entries_whole, named_next, fault_of_all, cause_of_all, loaded_next}
use Rattle.nc_load.proofs.loading.load_each.Goals as goal

pub returns-in-Err-clause-loaded : goal.returns-in-Err-clause-loaded
returns-in-Err-clause-loaded g c =
    let names = texts c.args.names.now in
    let file = file_named names c.names.place in
    let within : c.names.place < length names = omega (arith, length-map c.args.names.now string_bytes, c.names-test.true) in
    fault_of_all names (g.F.Files.files c.args.files.now) c.names.place within (map config_view c.names.each.configs.items) c.names.invariant.loaded c.in-Err.fault
    (subst (λ (o : Option (List Named)). IfSome o (λ fs. IsFault names c.in-Err.fault (load_content file (content_of fs file)))) c.names.invariant.files c.in-Err.ensures.loaded)

pub returns-in-Err-clause-cause : goal.returns-in-Err-clause-cause
returns-in-Err-clause-cause g c =
    let names = texts c.args.names.now in
    let file = file_named names c.names.place in
    let within : c.names.place < length names = omega (arith, length-map c.args.names.now string_bytes, c.names-test.true) in
    let now = g.F.Files.faults c.add_file.new.files in
    cause_of_all names (g.F.Files.files c.args.files.now) c.names.place within (map config_view c.names.each.configs.items) c.names.invariant.loaded c.in-Err.fault (g.F.Files.faults c.args.files.now) now
    (subst (λ (n : Faults). HasFaultCause (g.F.Files.files c.args.files.now) (λ fs. load_content file (content_of fs file)) n now c.in-Err.fault) c.names.invariant.faults
    (subst (λ (o : Option (List Named)). HasFaultCause o (λ fs. load_content file (content_of fs file)) (g.F.Files.faults c.names.files) now c.in-Err.fault) c.names.invariant.files c.in-Err.ensures.cause))

pub returns-in-Err-clause-entered : goal.returns-in-Err-clause-entered
returns-in-Err-clause-entered g c =
    let names = texts c.args.names.now in
    let within : c.names.place < length names = omega (arith, length-map c.args.names.now string_bytes, c.names-test.true) in
    inr (turn_next names (g.F.Files.files c.args.files.now) c.names.place within (map config_view c.names.each.configs.items) c.names.invariant.loaded (g.F.Files.entered c.add_file.new.files)
    c.in-Err.ensures.entered)

pub returns-in-Err-clause-outside : goal.returns-in-Err-clause-outside
returns-in-Err-clause-outside g c outside =
    let names = texts c.args.names.now in
    let within : c.names.place < length names = omega (arith, length-map c.args.names.now string_bytes, c.names-test.true) in
    turn_next names (g.F.Files.files c.args.files.now) c.names.place within (map config_view c.names.each.configs.items) c.names.invariant.loaded (g.F.Files.entered c.add_file.new.files)
    c.in-Err.ensures.entered

pub returns-in-Err-clause-entries : goal.returns-in-Err-clause-entries
returns-in-Err-clause-entries g c =
    let names = texts c.args.names.now in
    let within : c.names.place < length names = omega (arith, length-map c.args.names.now string_bytes, c.names-test.true) in
    entries_next names (g.F.Files.files c.args.files.now) c.names.place within (map config_view c.names.each.configs.items) c.names.invariant.loaded (g.F.Files.entries c.args.files.now)
    (g.F.Files.entries c.names.files) (g.F.Files.entries c.add_file.new.files) c.names.invariant.entries c.in-Err.ensures.entries

pub names-preserved : goal.names-preserved
names-preserved g c =
    let names = texts c.args.names.now in
    let file = file_named names c.names.place in
    let within : c.names.place < length names = omega (arith, length-map c.args.names.now string_bytes, c.names-test.true) in
    let told = g.F.Files.files c.args.files.now in
    let before = map config_view c.names.each.configs.items in
    let behind = map config_view c.add_file.new.each.configs.items in
    record {
      files = c.in-Ok.ensures.files ∙ c.names.invariant.files;
      faults = c.in-Ok.ensures.cause ∙ c.names.invariant.faults;
      loaded = loaded_next names told c.names.place within before c.names.invariant.loaded behind
          (subst (λ (o : Option (List Named)). IfSome o (λ fs. (x : ConfigView) × (load_content file (content_of fs file) ≡ Ok x) × (behind ≡ before ++ x ∷ []))) c.names.invariant.files c.in-Ok.ensures.loaded);
      named = named_next names told c.names.place within before c.names.invariant.loaded (map file_view c.names.each.files.items) (map file_view c.add_file.new.each.files.items) c.names.invariant.named
          (subst (λ (o : Option (List Named)). AddsFile o file (map file_view c.names.each.files.items) (map file_view c.add_file.new.each.files.items)) c.names.invariant.files c.in-Ok.ensures.file);
      beside = c.in-Ok.ensures.beside c.names.invariant.beside;
      read = c.in-Ok.ensures.read c.names.invariant.read;
      count = c.in-Ok.ensures.count ∙ ap (λ (n : ℕ). n + 1) c.names.invariant.count;
      entries = c.in-Ok.ensures.entries ∙ ap (one_entry file) c.names.invariant.entries ∙ sym (entries_more (take c.names.place names) file (g.F.Files.entries c.args.files.now))
          ∙ ap (λ (ns : List (List ℕ)). entries_after ns (g.F.Files.entries c.args.files.now)) (sym (take_more names c.names.place [] within));
      in_time = c.in-Ok.ensures.in_time ∙ c.names.invariant.in_time;
      entered = inr (turn_next names told c.names.place within before c.names.invariant.loaded (g.F.Files.entered c.add_file.new.files) c.in-Ok.ensures.entered);
      taken = inr (subst (λ (o : Option (List Named)). TakesOfEntered o (g.F.Files.entered c.add_file.new.files) (g.F.Files.left c.add_file.new.files)) c.names.invariant.files c.in-Ok.ensures.takes);
    }

pub returns-clause-entries : goal.returns-clause-entries
returns-clause-entries g c =
    let names = texts c.args.names.now in
    let end : names ≡ take c.names.place names = sym (take_all c.names.place names (omega (arith, length-map c.args.names.now string_bytes, c.names-test.false))) in
    let told = g.F.Files.files c.args.files.now in
    let cs = map config_view c.names.each.configs.items in
    entries_whole names told cs (subst (λ (ns : List (List ℕ)). IfSome told (λ fs. load_each fs ns ≡ Ok cs)) (sym end) c.names.invariant.loaded) (g.F.Files.entries c.args.files.now) (g.F.Files.entries c.names.files)
    (c.names.invariant.entries ∙ ap (λ (ns : List (List ℕ)). entries_after ns (g.F.Files.entries c.args.files.now)) (sym end))
