use Rattle.std.proofs.Common.{◌≡◌, Ok, map, take, length, All, IfSome}
use Rattle.nc_types.specs.Config.{config_view}
use Rattle.nc_outside.specs.Counts.{entries_after}
use Rattle.nc_report.specs.Views.{file_view}
use Rattle.nc_words.specs.Words.{texts}
use Rattle.nc_load.specs.Load.{load_each}
use Rattle.nc_load.specs.Reading.{IsInTime}
use Rattle.nc_load.specs.Entering.{IsInTurn, TakesOfFiles}
use Rattle.nc_load.specs.Loading.{IsConfigured, AreBeside, AreFilesNamed}
use Rattle.nc_load.proofs.loading.load_each.Given as goal

abbrev pub invariant-names : goal.invariant-names
invariant-names g l = record {
  files : g.F.Files.files l.files ≡ g.F.Files.files l.fn.files;
  faults : g.F.Files.faults l.files ≡ g.F.Files.faults l.fn.files;
  -- the files before the place were loaded
  loaded : IfSome (g.F.Files.files l.fn.files) (λ fs. load_each fs (take l.place (texts l.names)) ≡ Ok (map config_view l.each.configs.items));
  named : AreFilesNamed (g.F.Files.files l.fn.files) (take l.place (texts l.names)) (map file_view l.each.files.items);
  beside : AreBeside (map file_view l.each.files.items) (map config_view l.each.configs.items);
  read : All (λ c. IsConfigured (config_view c)) l.each.configs.items;
  count : length l.each.configs.items ≡ l.place;
  entries : g.F.Files.entries l.files ≡ entries_after (take l.place (texts l.names)) (g.F.Files.entries l.fn.files);
  in_time : IsInTime (g.F.Files.end l.fn.files) (g.F.Files.end l.files);
  entered : IsInTurn (texts l.names) (g.F.Files.files l.fn.files) (g.F.Files.entered l.fn.files) (g.F.Files.entered l.files);
  taken : TakesOfFiles (g.F.Files.files l.fn.files) (g.F.Files.entered l.fn.files) (g.F.Files.left l.fn.files) (g.F.Files.entered l.files) (g.F.Files.left l.files);
}
