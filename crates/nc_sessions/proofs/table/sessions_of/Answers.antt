use Rattle.std.proofs.Common.{◌≡◌, ◌+◌, ◌<◌, ◌++◌, ◌∷◌, [], All, Option, Some, None, IfSome, get_or, refl, sym, ap, subst, ◌∙◌, arith}
use Rattle.std.proofs.lemmas.List.Elements.{All-push}
use Rattle.std.proofs.lemmas.List.Quantifiers.{all_pairs_push}
use Rattle.nc_tables.specs.declared.bgp.SessionRow.{SessionRow}
use Rattle.nc_tables.specs.Sessions.{session_at, AreSessions}
use Rattle.nc_sessions.proofs.Numbers.{made_one, made_none}
use Rattle.nc_sessions.proofs.table.sessions_of.Goals as goal
use Rattle.nc_sessions.proofs.table.sessions_of.Goals.{in-Some+in_ok-push, in_default}

none_there : (o : Option SessionRow) → ((x : SessionRow) → o ≡ Some x → ⊥) → o ≡ None
none_there None never = refl
none_there (Some x) never = absurd (never x refl)

pub places-preserved : goal.places-preserved
places-preserved c =
    let f = session_at c.args.network.now c.args.base.now c.args.router.0 in
    let place = c.places.place in
    let before = c.places.rows.items in
    elim c.match-row.branch [
      | in-Some+in_ok-push w ↦
          let row = w.in-Some.row in
          let items : c.match-row.rows.items ≡ before ++ row ∷ [] = ap (λ v. v.items) w.rows-is ∙ w.in_ok-push.ensures.items in
          let here : row.neighbor ≡ place = subst (λ (o : Option SessionRow). IfSome o (λ s. s.neighbor ≡ place)) w.in-Some.is c.in_ok-row.ensures.place in
          record {
            kept = c.session_by.ensures.kept;
            rows = items ∙ made_one place f row before (sym c.in_ok-row.ensures.session ∙ w.in-Some.is) c.places.invariant.rows;
            ordered = subst AreSessions (sym items) (all_pairs_push (λ (a b : SessionRow). a.neighbor < b.neighbor) before row c.places.invariant.ordered (λ k d lt. let low : (get_or before k d).neighbor < place = c.places.invariant.below k d lt in omega arith));
            below = subst (All (λ (r : SessionRow). r.neighbor < place + 1)) (sym items) (All-push (λ (r : SessionRow). r.neighbor < place + 1) before row (λ k d lt. let low : (get_or before k d).neighbor < place = c.places.invariant.below k d lt in omega arith) (omega arith));
          }
      | in_default w ↦
          let items : c.match-row.rows.items ≡ before = ap (λ v. v.items) w.rows-is in
          record {
            kept = c.session_by.ensures.kept;
            rows = items ∙ made_none place f before (sym c.in_ok-row.ensures.session ∙ none_there c.in_ok-row.row w.in_default.not-Some) c.places.invariant.rows;
            ordered = subst AreSessions (sym items) c.places.invariant.ordered;
            below = subst (All (λ (r : SessionRow). r.neighbor < place + 1)) (sym items) (λ k d lt. let low : (get_or before k d).neighbor < place = c.places.invariant.below k d lt in omega arith);
          }
    ]
