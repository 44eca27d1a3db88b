use Rattle.std.proofs.Common.{◌≡◌, ◌++◌, map, drop}
use Rattle.nc_types.specs.Config.{config_view}
use Rattle.nc_report.specs.Sheets.{sheet_view, sheets_from}
use Rattle.nc_report.proofs.report.sheets.Given as goal

-- the sheets so far and those of the routers that are left are all sheets
abbrev pub invariant-routers : goal.invariant-routers
invariant-routers l =
    map sheet_view l.sheets.items ++ sheets_from l.network l.marks l.place (map config_view (drop l.place l.routers))
    ≡ sheets_from l.network l.marks 0 (map config_view l.routers)
