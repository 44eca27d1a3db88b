use Rattle.std.proofs.Common.{◌≡◌, ◌++◌, drop, length, map}
use Rattle.std.specs.List.{flat_map}
use Rattle.nc_report.specs.Listings.{places_from}
use Rattle.nc_report.specs.Sheets.{sheet_view}
use Rattle.nc_report.specs.Texts.{sheet_of}
use Rattle.nc_report.proofs.listing.Listing.new.Given as goal

-- the lines so far and those of the sheets that are left are all lines, and so are their places
abbrev pub invariant-sheets : goal.invariant-sheets
invariant-sheets l = record {
  lines : l.text.items ++ flat_map sheet_of (map sheet_view (drop l.sheet-index l.sheets)) ≡ flat_map sheet_of (map sheet_view l.sheets);
  places : l.places.items ++ places_from (length l.text.items) (map sheet_view (drop l.sheet-index l.sheets)) ≡ places_from 0 (map sheet_view l.sheets);
}
