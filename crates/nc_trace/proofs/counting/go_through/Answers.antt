use Rattle.std.proofs.Common.{◌≡◌, ℕ, List, sym, ap, subst, ◌∙◌, arith, inl, inr}
use Rattle.std.specs.List.{sum_by}
use Rattle.nc_trace.specs.Counting.{IsLeast}
use Rattle.nc_trace.proofs.Listing.{is_before, is_here, last_or_before}
use Rattle.nc_trace.proofs.counting.go_through.Goals as goal

pub lower-requires-clause-this : goal.lower-requires-clause-this
lower-requires-clause-this c =
    let last = c.in-Some.router.now in
    c.routers.invariant.these last.0 (is_here c.routers.left.now c.in-Some.before.now last c.in-Some.ensures.cases.0)

pub routers-preserved : goal.routers-preserved
routers-preserved c =
    let asked = c.args.asked in
    let found = c.args.found.now in
    let last = c.in-Some.router.now in
    let cut = c.in-Some.ensures.cases.0 in
    let same : c.lower.new.fewest ≡ c.routers.fewest = c.lower.ensures.same c.if-lower.false in
    let numbers : sum_by (λ n. n) c.lower.new.fewest ≡ sum_by (λ n. n) c.routers.fewest = ap (λ (fs : List ℕ). sum_by (λ n. n) fs) same in
    let goes : (router : ℕ) → IsLeast asked.state.now asked.by asked.addr.0 found c.routers.fewest router → IsLeast asked.state.now asked.by asked.addr.0 found c.lower.new.fewest router = λ router least.
    subst (λ (fs : List ℕ). IsLeast asked.state.now asked.by asked.addr.0 found fs router) (sym same) least in
    let here : IsLeast asked.state.now asked.by asked.addr.0 found c.lower.new.fewest last.0 = goes last.0 (c.lower.ensures.least c.if-lower.false) in
    record {
      backed = c.lower.ensures.backed;
      least = λ none router there. elim (c.routers.invariant.least none router there) [
        | inl least ↦ inl (goes router least)
        | inr left ↦ elim (last_or_before c.routers.left.now c.in-Some.before.now last cut router left) [
          | inl before ↦ inr before
          | inr is ↦ inl (subst (IsLeast asked.state.now asked.by asked.addr.0 found c.lower.new.fewest) (sym is) here)
        ]
      ];
      these = λ router before. c.routers.invariant.these router (is_before c.routers.left.now c.in-Some.before.now last cut router before);
      smaller = λ more. omega (arith, c.routers.invariant.smaller more, numbers);
      no_larger = omega (arith, c.routers.invariant.no_larger, numbers);
    }
