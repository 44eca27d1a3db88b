use Rattle.std.proofs.Common.{◌≡◌, ◌∙◌, List, length, map, ap, arith, sym, subst}
use Rattle.std.specs.List.{flat_map}
use Rattle.std.proofs.lemmas.List.Concat.{length-flat_map}
use Rattle.nc_report.specs.Texts.{Sheet, count_of}
use Rattle.nc_report.specs.Sheets.{sheet_view}
use Rattle.nc_report.specs.Shown.{AreKept}
use Rattle.nc_report.proofs.Counting.{count-flat}
use Rattle.nc_report.proofs.shown.Shown.new.Goals as goal

pub invariant_of-result : goal.invariant_of-result
invariant_of-result c =
    let sheets = map sheet_view c.in_ok-sheets.sheets.items in
    let all : c.deref-2.result.now ≡ flat_map (λ s. s.letters) sheets
    = c.deref-2.ensures.value ∙ c.in_ok-letters.ensures ∙ ap (λ ss. flat_map (λ s. s.letters) (map sheet_view ss)) c.deref.ensures.value in
    let same : c.in_ok-listing.listing ≡ sheets = c.in_ok-listing.ensures ∙ ap (map sheet_view) c.deref-3.ensures.value in
    subst (λ (ss : List Sheet). AreKept ss c.in_ok-counts.counts.items) (sym same) (record {
      len = c.in_ok-counts.ensures.len;
      each = λ sign small. c.in_ok-counts.ensures.each sign small ∙ ap (count_of sign) all ∙ count-flat sign sheets;
      few = omega (arith, c.counts_of.ensures.few, ap length all, length-flat_map (λ (s : Sheet). s.letters) sheets);
      texts = c.in_ok-sheets.ensures.texts;
    })
