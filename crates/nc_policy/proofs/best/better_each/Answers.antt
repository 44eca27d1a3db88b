use Rattle.std.proofs.Common.{◌≡◌, ◌<◌, ◌≤◌, ◌&&◌, ℕ, List, [], Some, IfSome, cond, length, refl, sym, ap, subst, ◌∙◌, arith, inl, inr}
use Rattle.std.specs.Prelude.{slice_get}
use Rattle.std.specs.Option.{option_map}
use Rattle.std.proofs.lemmas.Bool.{cases_lt}
use Rattle.std.proofs.lemmas.List.{length-set}
use Rattle.std.proofs.lemmas.Option.{same_Some, slice_get_read}
use Rattle.nc_types.specs.Config.{ClauseView, config_view}
use Rattle.nc_tables.specs.Policy.{is_matching}
use Rattle.nc_policy.specs.Best.{with_clause}
use Rattle.nc_policy.specs.Views.{asked, candidate_view, is_lower, IsCandidate}
use Rattle.nc_policy.proofs.Asking.{set_other}
use Rattle.nc_policy.proofs.Keeping.{unmatched}
use Rattle.nc_policy.proofs.Sweeping.{below_span, behind_span, fits_at, no_match, done_more, matching_more}
use Rattle.nc_policy.proofs.best.better_each.Goals as goal

pub prefixes-init : goal.prefixes-init
prefixes-init c =
    let config = config_view c.args.config.now in
    let ps = c.args.prefixes.now in
    record {
      count = c.requires.count;
      best = c.requires.best;
      done = λ k at j p a b lt got old new.
          let out = below_span c.span_of-span.result p.base (c.first_from-first.ensures.before j p got lt) in
          let none = unmatched config p [] k (c.span_of-span.ensures config k c.requires.indexed at p (fits_at ps c.requires.rising j p got) out) in
          let same : b ≡ a = same_Some b a (sym new ∙ old) in
          ap (option_map candidate_view) same ∙ no_match config p c.args.place k (option_map candidate_view a) none;
      left = λ j le. refl;
    }

pub prefixes-preserved : goal.prefixes-preserved
prefixes-preserved c =
    let config = config_view c.args.config.now in
    let ps = c.args.prefixes.now in
    let now = c.prefixes.best.items in
    let n = c.prefixes.number in
    let p = c.index-prefixes-number.result in
    let a = c.index.result.now in
    let found = c.better-found.result in
    let lt : n < length now = omega arith in
    let inside : n < length ps = omega (arith, c.prefixes.invariant.count) in
    let at : slice_get ps n ≡ Some p = slice_get_read ps (length ps) n p refl inside c.index-prefixes-number.is in
    let was : slice_get now n ≡ Some a = slice_get_read now (length now) n a refl lt c.index.ensures in
    let here : IfSome found (IsCandidate config (asked p [])) = subst (λ (h : List ℕ). IfSome found (IsCandidate config (asked p h))) c.none-held.ensures c.better-found.ensures.candidate in
    let step : (k : ClauseView) → slice_get config.clauses c.args.place ≡ Some k → option_map candidate_view found ≡ with_clause config p c.args.place k (option_map candidate_view a) =
    λ k is. subst (λ (h : List ℕ). option_map candidate_view found ≡ cond (is_lower k (option_map candidate_view a) && is_matching config (asked p h) k) (Some (record { place = c.args.place; clause = k })) (option_map candidate_view a)) c.none-held.ensures (c.better-found.ensures.better k is) in
    record {
      count = length-set now n found ∙ c.prefixes.invariant.count;
      best = matching_more config ps now n p found lt at here c.prefixes.invariant.best;
      done = λ k is. done_more config ps c.args.place k c.args.best.now.items now n p a found lt at was c.prefixes.invariant.left (step k is) (c.prefixes.invariant.done k is);
      left = λ j le. set_other now n j found (λ e. omega arith) ∙ c.prefixes.invariant.left j (omega arith);
    }

pub returns-clause-better : goal.returns-clause-better
returns-clause-better c = λ k at j p a b got old new.
    let config = config_view c.args.config.now in
    let ps = c.args.prefixes.now in
    elim (cases_lt j c.prefixes.number) [
      | inl lt ↦ c.prefixes.invariant.done k at j p a b lt got old new
      | inr le ↦
          let past : c.first_from-end.result ≤ j = omega arith in
          let out = behind_span c.span_of-span.result p.base (c.first_from-end.ensures.behind j p got past) in
          let none = unmatched config p [] k (c.span_of-span.ensures config k c.requires.indexed at p (fits_at ps c.requires.rising j p got) out) in
          let same : b ≡ a = same_Some b a (sym new ∙ c.prefixes.invariant.left j le ∙ old) in
          ap (option_map candidate_view) same ∙ no_match config p c.args.place k (option_map candidate_view a) none
    ]
