use Rattle.std.proofs.Common.{◌≡◌, ◌++◌, ℕ, List, None, Option, length, take, drop, ap, ◌∙◌}
use Rattle.std.specs.List.{slice_index_or}
use Rattle.std.specs.Option.{option_map}
use Rattle.nc_trace.specs.declared.span.Span.{Span}
use Rattle.nc_trace.specs.Found.{in_span}
use Rattle.nc_trace.proofs.Finding.{at_view, lent}
use Rattle.nc_trace.proofs.Listing.{none_kept}
use Rattle.nc_trace.proofs.found.Found.clear.Goals as goal

pub invariant_of-self : goal.invariant_of-self
invariant_of-self c =
    let spans = c.self.inside.spans in
    let new = c.forget.new.spans in
    let kept = take spans.len (new ++ drop (length new) spans.items) in
    none_kept kept c.clear-2.new.self.items c.clear.new.self.items
    (λ router. ap (λ (xs : List (Option Span)). slice_index_or xs router None) (lent new (drop (length new) spans.items) spans.len (c.forget.ensures.len ∙ c.deref_mut.ensures.len)) ∙ c.forget.ensures.none router)
    c.clear.ensures.items

pub returns : goal.returns
returns c router =
    let spans = c.self.inside.spans in
    let new = c.forget.new.spans in
    let kept = take spans.len (new ++ drop (length new) spans.items) in
    let ways = c.clear-2.new.self.items in
    at_view kept ways router
    ∙ ap (option_map (in_span ways)) (ap (λ (xs : List (Option Span)). slice_index_or xs router None) (lent new (drop (length new) spans.items) spans.len (c.forget.ensures.len ∙ c.deref_mut.ensures.len)) ∙ c.forget.ensures.none router)
