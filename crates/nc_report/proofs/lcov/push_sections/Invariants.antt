use Rattle.std.proofs.Common.{◌≡◌, ◌++◌, map, drop}
use Rattle.nc_report.specs.Texts.{lcov_of}
use Rattle.nc_report.specs.Views.{file_view}
use Rattle.nc_report.proofs.lcov.push_sections.Given as goal

-- the sections so far and those of the files that are left are all sections
abbrev pub invariant-routers : goal.invariant-routers
invariant-routers l =
    l.out.items ++ lcov_of (drop l.router l.listing) (map file_view (drop l.router l.files)) ≡ l.fn.out.items ++ lcov_of l.listing (map file_view l.files)
