use Rattle.std.proofs.Common.{◌≡◌, ◌∙◌, ◌++◌, List, length, map, append-nil, sym, ap}
use Rattle.std.proofs.lemmas.List.{drop_all}
use Rattle.std.specs.List.{flat_map}
use Rattle.nc_report.specs.declared.report.Sheet.{Sheet as Made}
use Rattle.nc_report.specs.Listings.{places_from}
use Rattle.nc_report.specs.Sheets.{sheet_view}
use Rattle.nc_report.specs.Texts.{sheet_of}
use Rattle.nc_report.proofs.Listed.{listed}
use Rattle.nc_report.proofs.listing.Listing.new.Goals as goal

pub invariant_of-result : goal.invariant_of-result
invariant_of-result c =
    let sheets = c.args.sheets.now in
    let text = c.sheets.text.items in
    let places = c.sheets.places.items in
    let none-left = sym (drop_all c.sheets.sheet-index sheets c.sheets-test.false) in
    let lines : text ≡ flat_map sheet_of (map sheet_view sheets)
    = sym (append-nil text) ∙ ap (λ (rest : List Made). text ++ flat_map sheet_of (map sheet_view rest)) none-left ∙ c.sheets.invariant.lines in
    let at : places ≡ places_from 0 (map sheet_view sheets)
    = sym (append-nil places) ∙ ap (λ (rest : List Made). places ++ places_from (length text) (map sheet_view rest)) none-left ∙ c.sheets.invariant.places in
    (listed (map sheet_view sheets) text places lines at).0

pub returns : goal.returns
returns c =
    let sheets = c.args.sheets.now in
    let text = c.sheets.text.items in
    let places = c.sheets.places.items in
    let none-left = sym (drop_all c.sheets.sheet-index sheets c.sheets-test.false) in
    let lines : text ≡ flat_map sheet_of (map sheet_view sheets)
    = sym (append-nil text) ∙ ap (λ (rest : List Made). text ++ flat_map sheet_of (map sheet_view rest)) none-left ∙ c.sheets.invariant.lines in
    let at : places ≡ places_from 0 (map sheet_view sheets)
    = sym (append-nil places) ∙ ap (λ (rest : List Made). places ++ places_from (length text) (map sheet_view rest)) none-left ∙ c.sheets.invariant.places in
    (listed (map sheet_view sheets) text places lines at).1
