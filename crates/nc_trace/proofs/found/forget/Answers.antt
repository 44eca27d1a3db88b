use Rattle.std.proofs.Common.{◌≡◌, true, false, None, Some, Option, refl, sym, ◌∙◌, arith}
use Rattle.std.specs.List.{slice_index_or}
use Rattle.std.specs.Option.{is_some}
use Rattle.std.proofs.lemmas.List.{length-set}
use Rattle.nc_trace.specs.declared.span.Span.{Span}
use Rattle.nc_trace.proofs.Finding.{some_within}
use Rattle.nc_trace.proofs.Listing.{gone, is_before, is_here, no_list, not_one}
use Rattle.nc_trace.proofs.found.forget.Goals as goal

pub routers-init : goal.routers-init
routers-init c = record {
  listed = λ router some. sym (c.requires router) ∙ some;
  within = λ router one. some_within c.args.spans.now router (c.requires router ∙ one);
}

pub bounds-spans-router : goal.bounds-spans-router
bounds-spans-router c =
    let last = c.in-Some.router.now in
    c.routers.invariant.within last.0 (is_here c.routers.left.now c.in-Some.before.now last c.in-Some.ensures.cases.0)

pub routers-preserved : goal.routers-preserved
routers-preserved c =
    let last = c.in-Some.router.now in
    let cut = c.in-Some.ensures.cases.0 in
    let spans = c.routers.spans in
    record {
      listed = gone spans c.routers.left.now c.in-Some.before.now last cut c.routers.invariant.listed (c.routers.invariant.within last.0 (is_here c.routers.left.now c.in-Some.before.now last cut));
      within = λ router before. omega (arith, length-set spans last.0 None, c.routers.invariant.within router (is_before c.routers.left.now c.in-Some.before.now last cut router before));
    }

none_there : (span : Option Span) → (is_some span ≡ true → false ≡ true) → span ≡ None
none_there None never = λ i. None
none_there (Some span) never = let no = never refl in absurd cc

pub returns-clause-none : goal.returns-clause-none
returns-clause-none c router =
    none_there (slice_index_or c.routers.spans router None)
    (λ some. sym (not_one c.routers.left.now (no_list c.routers.left.now c.in_default.ensures.cases) router) ∙ c.routers.invariant.listed router some)
