use Rattle.std.proofs.Common.{◌≡◌, ◌<◌, ◌&&◌, ℕ, Bool, true, false, Option, Some, refl, sym, ap, subst, ◌∙◌, arith}
use Rattle.std.specs.Prelude.{if◌then◌else◌, is_some, slice_get}
use Rattle.std.proofs.lemmas.List.{length-map}
use Rattle.std.specs.Option.{option_map, option_map_or}
use Rattle.nc_types.specs.Config.{ClauseView, ConfigView, config_view, clause_view}
use Rattle.nc_tables.specs.declared.bgp.Route.{Route}
use Rattle.nc_tables.specs.declared.policy.Names.{Names}
use Rattle.nc_tables.specs.Policy.{Placed, is_matching}
use Rattle.nc_policy.specs.Views.{asked, candidate_view, is_lower}
use Rattle.nc_policy.proofs.Keeping.{unmet_names}
use Rattle.nc_policy.proofs.Permitting.{seen_at}
use Rattle.nc_policy.proofs.clauses.better.Goals.{then-not-is_lower-via-then-not-is_lower, then-not-is_lower-via-else-not-is_lower+then-is_unheld}
use Rattle.nc_policy.proofs.clauses.better.Goals as goal

-- the clause at a place is one
same_clause : (x k : ClauseView) → Some x ≡ Some k → x ≡ k
same_clause x k e = ap (λ (o : Option ClauseView). option_map_or (λ y. y) o x) e

-- what is made of the best one so far and the clause at a place
module _ (config : ConfigView) (r : Route) (place : ℕ) (best : Option Placed) (x : ClauseView) (at : slice_get config.clauses place ≡ Some x) where
  abbrev takes : ClauseView → Bool
  takes k = is_lower k best && is_matching config r k

  abbrev taken : ClauseView → Option Placed
  taken k = if takes k then Some (record { place = place; clause = k }) else best

  abbrev with_this : Bool → Option Placed
  with_this b = if b then Some (record { place = place; clause = x }) else best

  stays : takes x ≡ false → (k : ClauseView) → slice_get config.clauses place ≡ Some k → best ≡ taken k
  stays not_taken k read = subst (λ (k : ClauseView). best ≡ taken k) (same_clause x k (sym at ∙ read)) (sym (ap with_this not_taken))

  is_taken : takes x ≡ true → (k : ClauseView) → slice_get config.clauses place ≡ Some k → Some (record { place = place; clause = x }) ≡ taken k
  is_taken takes_x k read =
      subst (λ (k : ClauseView). Some (record { place = place; clause = x }) ≡ taken k) (same_clause x k (sym at ∙ read)) (sym (ap with_this takes_x))

not_both : (a b : Bool) → b ≡ false → (a && b) ≡ false
not_both true b e = e
not_both false b e = refl

pub index-clause-requires : goal.index-clause-requires
index-clause-requires c = omega (arith, c.requires.place, c.args.config.now.clauses.ok.0)

pub returns-then-not-is_lower-clause-better : goal.returns-then-not-is_lower-clause-better
returns-then-not-is_lower-clause-better c =
    let config = config_view c.args.config.now in
    let items = c.args.config.now.clauses.items in
    let r = asked c.args.prefix c.args.held.now in
    let best = option_map candidate_view c.args.best in
    let x = clause_view c.index-clause.result.now in
    let at = seen_at clause_view items items c.args.place c.index-clause.result.now refl c.requires.place c.index-clause.ensures in
    let not_taken : (is_lower x best && is_matching config r x) ≡ false =
    elim c.then-not-is_lower.branch [
      | then-not-is_lower-via-then-not-is_lower w ↦ ap (λ (b : Bool). b && is_matching config r x) (sym c.is_lower.ensures ∙ w.if-not-is_lower.true)
      | then-not-is_lower-via-else-not-is_lower+then-is_unheld w ↦
          not_both (is_lower x best) (is_matching config r x) (ap (λ (o : Option Names). is_some o) (unmet_names config c.args.prefix c.args.held.now x (w.is_unheld.ensures config x c.requires.indexed at w.if-is_unheld.true)))
    ] in
    stays config r c.args.place best x at not_taken

pub returns-then-not-is_lower-clause-candidate : goal.returns-then-not-is_lower-clause-candidate
returns-then-not-is_lower-clause-candidate c = c.requires.best

pub returns-in-None-clause-better : goal.returns-in-None-clause-better
returns-in-None-clause-better c =
    let config = config_view c.args.config.now in
    let items = c.args.config.now.clauses.items in
    let r = asked c.args.prefix c.args.held.now in
    let best = option_map candidate_view c.args.best in
    let x = clause_view c.index-clause.result.now in
    let at = seen_at clause_view items items c.args.place c.index-clause.result.now refl c.requires.place c.index-clause.ensures in
    let unmatched : is_matching config r x ≡ false = ap (λ (o : Option Names). is_some o) (sym c.names_of.ensures ∙ c.in-None.is) in
    stays config r c.args.place best x at (not_both (is_lower x best) (is_matching config r x) unmatched)

pub returns-in-None-clause-candidate : goal.returns-in-None-clause-candidate
returns-in-None-clause-candidate c = c.requires.best

pub returns-in-Some-clause-better : goal.returns-in-Some-clause-better
returns-in-Some-clause-better c =
    let config = config_view c.args.config.now in
    let items = c.args.config.now.clauses.items in
    let r = asked c.args.prefix c.args.held.now in
    let best = option_map candidate_view c.args.best in
    let x = clause_view c.index-clause.result.now in
    let at = seen_at clause_view items items c.args.place c.index-clause.result.now refl c.requires.place c.index-clause.ensures in
    let lower : is_lower x best ≡ true = sym c.is_lower.ensures ∙ c.if-not-is_lower.false in
    let matching : is_matching config r x ≡ true = ap (λ (o : Option Names). is_some o) (sym c.names_of.ensures ∙ c.in-Some.is) in
    is_taken config r c.args.place best x at (ap (λ (b : Bool). b && is_matching config r x) lower ∙ matching)

pub returns-in-Some-clause-candidate : goal.returns-in-Some-clause-candidate
returns-in-Some-clause-candidate c =
    let items = c.args.config.now.clauses.items in
    record {
      within = subst (λ (n : ℕ). c.args.place < n) (sym (length-map items clause_view)) c.requires.place;
      own = seen_at clause_view items items c.args.place c.index-clause.result.now refl c.requires.place c.index-clause.ensures;
      names = sym c.in-Some.is ∙ c.names_of.ensures;
    }
