use Rattle.std.proofs.Common.{◌≡◌, ◌++◌, map, drop}
use Rattle.std.specs.List.{flat_map}
use Rattle.nc_report.specs.Sheets.{sheet_view}
use Rattle.nc_report.proofs.report.all_letters.Given as goal

-- the letters so far and those of the sheets that are left are all letters
abbrev pub invariant-sheets : goal.invariant-sheets
invariant-sheets l =
    l.letters.items ++ flat_map (λ s. s.letters) (map sheet_view (drop l.sheet-index l.sheets)) ≡ flat_map (λ s. s.letters) (map sheet_view l.sheets)
