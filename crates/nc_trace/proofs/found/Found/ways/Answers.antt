use Rattle.std.proofs.Common.{◌≡◌, List, Option, None, Some, length, sym, ap, subst, ◌∙◌}
use Rattle.std.specs.List.{slice_index_or}
use Rattle.nc_trace.specs.declared.alternative.Alternative.{Alternative}
use Rattle.nc_trace.specs.declared.span.Span.{Span}
use Rattle.nc_trace.specs.Found.{IsWithin}
use Rattle.nc_trace.proofs.found.Found.ways.Goals as goal

pub part-requires : goal.part-requires
part-requires c =
    let span = c.in-Some.span in
    let at : slice_index_or c.self.inside.spans.items c.args.router.0 None ≡ Some span =
    sym (ap (λ (spans : List (Option Span)). slice_index_or spans c.args.router.0 None) c.deref.ensures.value) ∙ sym c.in-Some.ensures in
    subst (λ (ways : List Alternative). IsWithin (length ways) span) (sym c.deref-in-Some.ensures.value)
    (c.self.invariant.within c.args.router.0 span at)
