use Rattle.std.proofs.Common.{◌≡◌, ◌<◌, ℕ, Option, Some, None, [], ◌∷◌, ◌++◌, length, slice_set, sym, ap, subst, ◌∙◌, arith, get_or-set_same, get_or-set_other, length-set}
use Rattle.std.proofs.lemmas.List.{length-map}
use Rattle.std.specs.Option.{option_map}
use Rattle.nc_trace.specs.declared.span.Span.{Span}
use Rattle.nc_trace.specs.Found.{found_at, in_span, AreListed, FoundWays}
use Rattle.nc_trace.proofs.Finding.{at_view, at_kept, room_of, span_new}
use Rattle.nc_trace.proofs.Listing.{one_more, within_more}
use Rattle.nc_trace.proofs.found.Found.find.Goals as goal

pub invariant_of-self-2 : goal.invariant_of-self-2
invariant_of-self-2 c =
    let spans = c.self.inside.spans.items in
    let router = c.args.router.0 in
    let old = c.self.inside.ways.items in
    let new = c.push_ways.new.ways.items in
    let list = c.self.inside.routers.items in
    let within : router < length spans = omega (arith, c.requires.router, c.requires.room, room_of spans old c.args.self.now c.self.view_is) in
    let pushed : c.push.new.self.items ≡ list ++ c.args.router ∷ [] = c.in_ok-push.ensures.items in
    let from : c.len-from.result ≡ length old = omega (arith, c.len-from.ensures, c.self.inside.ways.ok.0) in
    let to : c.len-to.result ≡ length new = omega (arith, c.len-to.ensures, c.push_ways.new.ways.ok.0) in
    let span : Span = record { from = c.len-from.result; to = c.len-to.result } in
    record {
      within = within_more spans old new router span c.self.invariant.within c.push_ways.ensures.before within from to;
      listed = subst (AreListed (slice_set spans router (Some span))) (sym pushed) (one_more spans list c.self.invariant.listed c.args.router span within);
    }

pub returns-clause-found : goal.returns-clause-found
returns-clause-found c =
    let spans = c.self.inside.spans.items in
    let router = c.args.router.0 in
    let old = c.self.inside.ways.items in
    let new = c.push_ways.new.ways.items in
    let span : Option Span = Some (record { from = c.len-from.result; to = c.len-to.result }) in
    let within : router < length spans = omega (arith, c.requires.router, c.requires.room, room_of spans old c.args.self.now c.self.view_is) in
    let from : c.len-from.result ≡ length old = omega (arith, c.len-from.ensures, c.self.inside.ways.ok.0) in
    let to : c.len-to.result ≡ length new = omega (arith, c.len-to.ensures, c.push_ways.new.ways.ok.0) in
    at_view (slice_set spans router span) new router
    ∙ ap (option_map (in_span new)) (get_or-set_same spans router span None within)
    ∙ ap (λ (from : ℕ). Some (in_span new (record { from = from; to = c.len-to.result }))) from
    ∙ ap (λ (to : ℕ). Some (in_span new (record { from = length old; to = to }))) to
    ∙ ap Some (span_new old new _ c.push_ways.ensures.before c.in_ok-push_ways.ensures.ways)

pub returns-clause-others : goal.returns-clause-others
returns-clause-others c other apart =
    let spans = c.self.inside.spans.items in
    let router = c.args.router.0 in
    let old = c.self.inside.ways.items in
    let new = c.push_ways.new.ways.items in
    let span : Option Span = Some (record { from = c.len-from.result; to = c.len-to.result }) in
    at_view (slice_set spans router span) new other
    ∙ ap (option_map (in_span new)) (get_or-set_other spans router other span None apart)
    ∙ sym (at_view spans new other)
    ∙ at_kept spans old new c.self.invariant.within c.push_ways.ensures.before other
    ∙ ap (λ (f : FoundWays). found_at f other) c.self.view_is

pub returns-clause-room : goal.returns-clause-room
returns-clause-room c =
    let spans = c.self.inside.spans.items in
    let new = c.push_ways.new.ways.items in
    let span : Option Span = Some (record { from = c.len-from.result; to = c.len-to.result }) in
    length-map (slice_set spans c.args.router.0 span) (option_map (in_span new)) ∙ length-set spans c.args.router.0 span ∙ sym (room_of spans c.self.inside.ways.items c.args.self.now c.self.view_is)
