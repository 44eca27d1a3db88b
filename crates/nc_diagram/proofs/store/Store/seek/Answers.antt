use Rattle.std.proofs.Common.{◌≡◌, ◌<◌, ◌⊎◌, inl, inr, true, false, Bool, cond, [], ◌∷◌, ◌++◌, sym, ap, subst, ◌∙◌, refl, arith}
use Rattle.std.proofs.lemmas.List.{nil_from_length}
use Rattle.std.specs.List.Sorted.{IsStrictlyIncreasing}
use Rattle.indexmap.specs.IndexSet.{contains}
use Rattle.nc_diagram.specs.declared.apply.Pair.{Pair}
use Rattle.nc_diagram.specs.declared.counter.Turn.{Turn}
use Rattle.nc_diagram.specs.declared.counter.Turn.TheVariants.{High, Low}
use Rattle.nc_diagram.specs.declared.counter.Search.TheVariants.{Look, Barren}
use Rattle.nc_diagram.specs.Counter.{IsGreatest}
use Rattle.nc_diagram.specs.Diagrams.{meaning}
use Rattle.nc_diagram.specs.Operations.{pair_eq}
use Rattle.nc_diagram.specs.Search.{low_variables}
use Rattle.nc_diagram.specs.Sets.{all_but}
use Rattle.nc_diagram.proofs.CounterLemmas.{IsSearching, begins, looked, turned_low, noted_barren, ends_barren, ends_found, search_left}
use Rattle.nc_diagram.proofs.store.Store.seek.Goals as goal
use Rattle.nc_diagram.proofs.store.Store.seek.Goals.{In-Barren, In-Look, In-Some-High, In-Some-Low}

-- the invariant at what the search is at
at_pair : (c : In-Look) → IsSearching c.args.self.now.nodes c.args.pair c.walk.turns.items (contains pair_eq c.walk.barren) (Look c.in-Look.pair)
at_pair c = subst (IsSearching c.args.self.now.nodes c.args.pair c.walk.turns.items (contains pair_eq c.walk.barren)) c.in-Look.is c.walk.invariant

at_barren : (c : In-Barren) → IsSearching c.args.self.now.nodes c.args.pair c.walk.turns.items (contains pair_eq c.walk.barren) (Barren c.in-Barren._ends)
at_barren c = subst (IsSearching c.args.self.now.nodes c.args.pair c.walk.turns.items (contains pair_eq c.walk.barren)) c.in-Barren.is c.walk.invariant

-- the turns, where one is taken
high_taken : (c : In-Some-High) → c.walk.turns.items ≡ c.pop.new.self.items ++ High c.in-Some-High.pair c.in-Some-High.variable c.in-Some-High.low ∷ []
high_taken c = c.in-Some-High.ensures.items ∙ ap (λ (x : Turn). c.pop.new.self.items ++ x ∷ []) c.in-Some-High.field-0-is

low_taken : (c : In-Some-Low) → c.walk.turns.items ≡ c.pop.new.self.items ++ Low c.in-Some-Low.pair c.in-Some-Low.field-0-1 ∷ []
low_taken c = c.in-Some-Low.ensures.items ∙ ap (λ (x : Turn). c.pop.new.self.items ++ x ∷ []) c.in-Some-Low.field-0-is

pub walk-init : goal.walk-init
walk-init c = begins c.args.self.now.nodes c.checked.ensures c.args.pair (contains pair_eq c.args.barren.now) c.requires.pair c.requires.barren c.args.turns.now.items c.requires.turns

pub returns-in-Found : goal.returns-in-Found
returns-in-Found c =
    let nodes = c.args.self.now.nodes in
    let turns = c.walk.turns.items in
    let s = subst (IsSearching nodes c.args.pair turns (contains pair_eq c.walk.barren)) c.in-Found.is c.walk.invariant in
    let r = ends_found nodes c.checked.ensures c.args.pair (contains pair_eq c.walk.barren) turns c.requires.pair s in
    let missing = c.in_ok-missing-in-Found.missing.items in
    let same : low_variables turns ≡ missing = sym (c.in_ok-missing-in-Found.ensures ∙ ap low_variables c.deref.ensures.value) in (
      subst IsStrictlyIncreasing same r.0,
      subst (λ vs. IsGreatest (meaning nodes c.args.pair.left) (meaning nodes c.args.pair.right) (all_but vs)) same r.1,
    )

pub returns-in-None : goal.returns-in-None
returns-in-None c =
    let none : c.walk.turns.items ≡ [] = nil_from_length c.walk.turns.items (omega (arith, c.walk.turns.ok.0, c.in-None.ensures.cases.0)) in
    ends_barren c.args.self.now.nodes c.checked.ensures c.args.pair (contains pair_eq c.walk.barren) c.walk.turns.items c.in-Barren._ends none (at_barren (goal.at.returns-in-None c).In-Barren)

pub walk-smaller-in_ok-at-in-Look : goal.walk-smaller-in_ok-at-in-Look
walk-smaller-in_ok-at-in-Look c =
    let at = goal.at.walk-smaller-in_ok-at-in-Look c in
    subst (λ f. search_left c.look.new.turns.items c.in_ok-at-in-Look.at < search_left c.walk.turns.items f) (sym c.in-Look.is)
    (looked c.args.self.now.nodes c.checked.ensures c.args.pair (contains pair_eq c.walk.barren) c.walk.turns.items c.look.new.turns.items c.in-Look.pair c.in_ok-at-in-Look.at (at_pair at.In-Look) c.in_ok-at-in-Look.ensures).1

pub walk-preserved-in_ok-at-in-Look : goal.walk-preserved-in_ok-at-in-Look
walk-preserved-in_ok-at-in-Look c =
    let at = goal.at.walk-preserved-in_ok-at-in-Look c in
    (looked c.args.self.now.nodes c.checked.ensures c.args.pair (contains pair_eq c.walk.barren) c.walk.turns.items c.look.new.turns.items c.in-Look.pair c.in_ok-at-in-Look.at (at_pair at.In-Look) c.in_ok-at-in-Look.ensures).0

pub walk-smaller-in_ok-push-in-Some-High : goal.walk-smaller-in_ok-push-in-Some-High
walk-smaller-in_ok-push-in-Some-High c =
    let at = goal.at.walk-smaller-in_ok-push-in-Some-High c in
    let step = turned_low c.args.self.now.nodes c.checked.ensures c.args.pair (contains pair_eq c.walk.barren) c.walk.turns.items c.pop.new.self.items c.in-Some-High.pair c.in-Some-High.variable c.in-Some-High.low c.in-Barren._ends (high_taken at.In-Some-High) (at_barren at.In-Barren) in
    subst (λ f. search_left c.push.new.self.items (Look c.in-Some-High.low) < search_left c.walk.turns.items f) (sym c.in-Barren.is)
    (subst (λ ts. search_left ts (Look c.in-Some-High.low) < search_left c.walk.turns.items (Barren c.in-Barren._ends)) (sym c.in_ok-push-in-Some-High.ensures.items) step.1)

pub walk-preserved-in_ok-push-in-Some-High : goal.walk-preserved-in_ok-push-in-Some-High
walk-preserved-in_ok-push-in-Some-High c =
    let at = goal.at.walk-preserved-in_ok-push-in-Some-High c in
    let step = turned_low c.args.self.now.nodes c.checked.ensures c.args.pair (contains pair_eq c.walk.barren) c.walk.turns.items c.pop.new.self.items c.in-Some-High.pair c.in-Some-High.variable c.in-Some-High.low c.in-Barren._ends (high_taken at.In-Some-High) (at_barren at.In-Barren) in
    subst (λ ts. IsSearching c.args.self.now.nodes c.args.pair ts (contains pair_eq c.walk.barren) (Look c.in-Some-High.low)) (sym c.in_ok-push-in-Some-High.ensures.items) step.0

-- a key of the set is the pair put in, or was one
noted : (q : Pair) (x : Pair) (now before : Bool) → now ≡ cond (pair_eq q x) true before → now ≡ true → (pair_eq q x ≡ true) ⊎ (before ≡ true)
noted q x now before e k = cases (pair_eq q x) refl
  where
    cases : (b : Bool) → pair_eq q x ≡ b → (pair_eq q x ≡ true) ⊎ (before ≡ true)
    cases true s = inl s
    cases false s = inr (sym (e ∙ ap (λ b. cond b true before) s) ∙ k)

pub walk-smaller : goal.walk-smaller
walk-smaller c =
    let at = goal.at.walk-smaller c in
    let q = c.in-Some-Low.pair in
    let now = contains pair_eq c.insert.new.self in
    let step = noted_barren c.args.self.now.nodes c.checked.ensures c.args.pair (contains pair_eq c.walk.barren) c.walk.turns.items c.pop.new.self.items q c.in-Some-Low.field-0-1 c.in-Barren._ends (low_taken at.In-Some-Low) (at_barren at.In-Barren) now
    (λ x k. noted q x (now x) (contains pair_eq c.walk.barren x) (c.in_ok-insert-in-Some-Low.ensures.updates.0 x) k) in
    subst (λ f. search_left c.pop.new.self.items (Barren q) < search_left c.walk.turns.items f) (sym c.in-Barren.is) step.1

pub walk-preserved : goal.walk-preserved
walk-preserved c =
    let at = goal.at.walk-preserved c in
    let q = c.in-Some-Low.pair in
    let now = contains pair_eq c.insert.new.self in
    (noted_barren c.args.self.now.nodes c.checked.ensures c.args.pair (contains pair_eq c.walk.barren) c.walk.turns.items c.pop.new.self.items q c.in-Some-Low.field-0-1 c.in-Barren._ends (low_taken at.In-Some-Low) (at_barren at.In-Barren) now
    (λ x k. noted q x (now x) (contains pair_eq c.walk.barren x) (c.in_ok-insert-in-Some-Low.ensures.updates.0 x) k)).0
