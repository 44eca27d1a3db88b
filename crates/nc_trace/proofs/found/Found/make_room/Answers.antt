use Rattle.std.proofs.Common.{◌≡◌, ◌++◌, ◌-◌, List, None, Option, replicate, ap, ◌∙◌, arith}
use Rattle.std.specs.Vec.{vec_len}
use Rattle.std.proofs.lemmas.List.{take_all}
use Rattle.nc_trace.specs.declared.span.Span.{Span}
use Rattle.nc_trace.specs.Found.{FoundWays, found_at, found_view}
use Rattle.nc_trace.proofs.Finding.{same_found, same_span}
use Rattle.nc_trace.proofs.found.Found.make_room.Goals as goal

pub returns-in_ok-resize-clause-found : goal.returns-in_ok-resize-clause-found
returns-in_ok-resize-clause-found c router =
    let old = c.self.inside.spans.items in
    let ways = c.self.inside.ways.items in
    let more = c.args.count - vec_len c.self.inside.spans in
    let whole : c.resize.new.self.items ≡ old ++ replicate more None =
    c.in_ok-resize.ensures.items ∙ ap (λ (spans : List (Option Span)). spans ++ replicate more None) (take_all c.args.count old (omega (arith, c.len.ensures, c.self.inside.spans.ok.0, c.if-len-count.true))) in
    ap (λ (spans : List (Option Span)). found_at (found_view spans ways) router) whole
    ∙ same_found old (old ++ replicate more None) ways (same_span old more) router
    ∙ ap (λ (found : FoundWays). found_at found router) c.self.view_is
