-- Where what neighbors say leaves the choice as it stands, the same is chosen anew.
use Rattle.std.proofs.Common.{◌≡◌, ◌⊎◌, ℕ, suc, ◌<◌, Bool, true, false, not, ◌||◌, ◌==◌, List, [], ◌∷◌, ◌++◌, Option, Some, None, append_assoc, refl, sym, ap, subst, ◌∙◌, eq-eqb, eqb-true, inl, inr}
use Rattle.std.specs.List.{list_any}
use Rattle.std.specs.Option.{option_map, option_map_or}
use Rattle.std.specs.Ordering.{is_lt}
use Rattle.std.proofs.lemmas.Bool.{and_parts}
use Rattle.nc_types.specs.Cidr.{Cidr}
use Rattle.nc_types.specs.Config.{ConfigView, ProcessView}
use Rattle.nc_types.specs.declared.config.Neighbor.{Neighbor}
use Rattle.nc_types.proofs.Members.{In, passes_some}
use Rattle.nc_tables.specs.declared.base.BaseRow.{BaseRow}
use Rattle.nc_tables.specs.declared.bgp.SessionRow.{SessionRow}
use Rattle.nc_tables.specs.declared.bgp.Chosen.{Chosen}
use Rattle.nc_tables.specs.declared.bgp.BgpFrom.TheVariants.{Entry}
use Rattle.nc_tables.specs.Choice.{is_equal_to, preference_cmp}
use Rattle.nc_tables.specs.Rounds.{BgpRowView, Accepted, made_from, chosen_at, accepted_at, learnt_from, entry_at, origin_at, aggregate_at, candidates_at, chosen_by, chosen_anew}
use Rattle.nc_tables.specs.Sessions.{process_of}
use Rattle.nc_select.proofs.Unchosen.{chosen_without, chosen_beside}
use Rattle.nc_decision.specs.BestPath.{is_from, is_beaten, leaves_best_beside, leaves_best_path}

-- what is there before others, if anything is
abbrev before_others : Option Chosen → List Chosen → List Chosen
before_others o others = option_map_or (λ x. x ∷ others) o others

-- ---- one neighbor after another

module _ (p : ProcessView) (some : 0 < p.max_paths) (chosen : List Chosen) where
  -- one that isn't from a neighbor may be missing
  said : (k : ℕ) (front back : List Chosen) (o : Option Chosen) → ((x : Chosen) → o ≡ Some x → x.from ≡ Entry k) → list_any (λ x. is_from k x.from) chosen ≡ false → chosen_by p (front ++ before_others o back) ≡ chosen → chosen_by p (front ++ back) ≡ chosen
  said k front back None own none is = is
  said k front back (Some x) own none is = chosen_without p.max_paths p.relax some front x back (λ i. out (subst (In x) is i)) ∙ is
    where
      out : In x chosen → ⊥
      out i =
          let from : is_from k x.from ≡ true = ap (is_from k) (own x refl) ∙ eq-eqb k k refl in
          let found : list_any (λ (y : Chosen). is_from k y.from) chosen ≡ true = passes_some (λ (y : Chosen). is_from k y.from) chosen x i from in absurd cc

  apart : (best x : Chosen) (b : Bool) → (p.max_paths == 1) ≡ b → (b || not (is_equal_to p.relax best x)) ≡ true → (p.max_paths ≡ 1) ⊎ (is_equal_to p.relax best x ≡ false)
  apart best x true e f = inl (eqb-true p.max_paths 1 e)
  apart best x false e f = inr (by_test (is_equal_to p.relax best x) f)
    where
      by_test : (b : Bool) → not b ≡ true → b ≡ false
      by_test true f = absurd cc
      by_test false f = refl

  -- one that the best beats may be there
  says : (front back : List Chosen) (best : Chosen) (others : List Chosen) → chosen ≡ best ∷ others → (o : Option Chosen) → option_map_or (is_beaten p best) o true ≡ true → chosen_by p (front ++ back) ≡ chosen → chosen_by p (front ++ before_others o back) ≡ chosen
  says front back best others first None beaten is = is
  says front back best others first (Some x) beaten is =
      let parts = and_parts (is_lt (preference_cmp best x)) ((p.max_paths == 1) || not (is_equal_to p.relax best x)) beaten in
      sym (chosen_beside p.max_paths p.relax some front x back best others (is ∙ first) parts.0 (apart best x (p.max_paths == 1) refl parts.1)) ∙ is

  not_true : (b : Bool) → not b ≡ true → b ≡ false
  not_true true e = absurd cc
  not_true false e = refl

  module _ (f g : ℕ → Option Chosen) (own : (k : ℕ) (x : Chosen) → f k ≡ Some x → x.from ≡ Entry k) (each : (k : ℕ) → (f k ≡ g k) ⊎ (leaves_best_beside p k (g k) chosen ≡ true)) where
    one : (k : ℕ) (front back : List Chosen) → chosen_by p (front ++ before_others (f k) back) ≡ chosen → chosen_by p (front ++ before_others (g k) back) ≡ chosen
    one k front back is = by_case (each k)
      where
        idle : (l : List Chosen) → chosen ≡ l → leaves_best_beside p k (g k) l ≡ true → chosen_by p (front ++ before_others (g k) back) ≡ chosen
        idle [] e t = absurd cc
        idle (best ∷ others) e t =
            let parts = and_parts (not (list_any (λ x. is_from k x.from) (best ∷ others))) (option_map_or (is_beaten p best) (g k) true) t in
            let none : list_any (λ x. is_from k x.from) chosen ≡ false = ap (list_any (λ x. is_from k x.from)) e ∙ not_true (list_any (λ x. is_from k x.from) (best ∷ others)) parts.0 in
            says front back best others e (g k) parts.1 (said k front back (f k) (own k) none is)

        by_case : (f k ≡ g k) ⊎ (leaves_best_beside p k (g k) chosen ≡ true) → chosen_by p (front ++ before_others (g k) back) ≡ chosen
        by_case (inl e) = ap (λ (o : Option Chosen). chosen_by p (front ++ before_others o back)) (sym e) ∙ is
        by_case (inr t) = idle chosen refl t

    all : (k : ℕ) (ns : List Neighbor) (front : List Chosen) → chosen_by p (front ++ made_from (λ place n. f place) k ns) ≡ chosen → chosen_by p (front ++ made_from (λ place n. g place) k ns) ≡ chosen
    all k [] front is = is
    all k (n ∷ ns) front is = later (all (suc k) ns) (g k) (one k front (made_from (λ place n. f place) (suc k) ns) is)
      where
        later : ((front : List Chosen) → chosen_by p (front ++ made_from (λ place n. f place) (suc k) ns) ≡ chosen → chosen_by p (front ++ made_from (λ place n. g place) (suc k) ns) ≡ chosen) → (o : Option Chosen)
            → chosen_by p (front ++ before_others o (made_from (λ place n. f place) (suc k) ns)) ≡ chosen → chosen_by p (front ++ before_others o (made_from (λ place n. g place) (suc k) ns)) ≡ chosen
        later rest None first = rest front first
        later rest (Some y) first =
            ap (chosen_by p) (sym (append_assoc front (y ∷ []) (made_from (λ place n. g place) (suc k) ns)))
            ∙ rest (front ++ y ∷ []) (ap (chosen_by p) (append_assoc front (y ∷ []) (made_from (λ place n. f place) (suc k) ns)) ∙ first)

-- ---- a row

module _ (routers : List ConfigView) (tables : List (List BaseRow)) (sessions : List (List SessionRow)) (old new : List (List BgpRowView)) (router : ℕ) (prefix : Cidr) where
  learnt_by : (place : ℕ) (x : Chosen) → entry_at routers tables sessions old router place prefix ≡ Some x → x.from ≡ Entry place
  learnt_by place x e = on (accepted_at routers tables sessions old router place prefix) e
    where
      on : (o : Option Accepted) → option_map (learnt_from place) o ≡ Some x → x.from ≡ Entry place
      on None f = absurd cc
      on (Some a) f = let same : learnt_from place a ≡ x = cc in sym (ap (λ (c : Chosen). c.from) same)

  idle_of : (p : ProcessView) (place : ℕ) → process_of routers router ≡ Some p → leaves_best_path routers tables sessions new router place prefix ≡ true
      → leaves_best_beside p place (entry_at routers tables sessions new router place prefix) (chosen_at new router prefix) ≡ true
  unfolding leaves_best_path
  idle_of p place e idle =
      sym (ap (λ (o : Option ProcessView). option_map_or (λ (q : ProcessView). leaves_best_beside q place (entry_at routers tables sessions new router place prefix) (chosen_at new router prefix)) o false) e) ∙ idle

  -- where the router's process chooses the same, the same is chosen anew
  pub chosen_by_process : ((p : ProcessView) → process_of routers router ≡ Some p → chosen_by p (candidates_at routers tables sessions old router p prefix) ≡ chosen_by p (candidates_at routers tables sessions new router p prefix))
      → chosen_anew routers tables sessions old router prefix ≡ chosen_anew routers tables sessions new router prefix
  chosen_by_process same = on (process_of routers router) refl
    where
      on : (o : Option ProcessView) → process_of routers router ≡ o → option_map_or (λ p. chosen_by p (candidates_at routers tables sessions old router p prefix)) o [] ≡ option_map_or (λ p. chosen_by p (candidates_at routers tables sessions new router p prefix)) o []
      on None e = refl
      on (Some p) e = same p e

  -- where a table has what comes from an earlier one, and each neighbor says the same as then, or what leaves that as it stands
  pub same_beside : ((p : ProcessView) → process_of routers router ≡ Some p → 0 < p.max_paths) → chosen_at new router prefix ≡ chosen_anew routers tables sessions old router prefix
      → ((p : ProcessView) → process_of routers router ≡ Some p → made_from (λ place a. aggregate_at routers tables sessions old router place a prefix) 0 p.aggregates ≡ made_from (λ place a. aggregate_at routers tables sessions new router place a prefix) 0 p.aggregates)
      → ((place : ℕ) → (entry_at routers tables sessions old router place prefix ≡ entry_at routers tables sessions new router place prefix) ⊎ (leaves_best_path routers tables sessions new router place prefix ≡ true))
      → chosen_anew routers tables sessions old router prefix ≡ chosen_anew routers tables sessions new router prefix
  same_beside some stands aggregates each = chosen_by_process chosen
    where
      chosen : (p : ProcessView) → process_of routers router ≡ Some p → chosen_by p (candidates_at routers tables sessions old router p prefix) ≡ chosen_by p (candidates_at routers tables sessions new router p prefix)
      chosen p e =
          let networks : List Chosen = made_from (λ place n. origin_at routers tables sessions new router place n prefix) 0 p.networks in
          let before : List Chosen = made_from (λ place a. aggregate_at routers tables sessions old router place a prefix) 0 p.aggregates in
          let now : List Chosen = made_from (λ place a. aggregate_at routers tables sessions new router place a prefix) 0 p.aggregates in
          let f : ℕ → Option Chosen = λ place. entry_at routers tables sessions old router place prefix in
          let g : ℕ → Option Chosen = λ place. entry_at routers tables sessions new router place prefix in
          let first : chosen_at new router prefix ≡ chosen_by p (candidates_at routers tables sessions old router p prefix) =
          stands ∙ ap (λ (o : Option ProcessView). option_map_or (λ (q : ProcessView). chosen_by q (candidates_at routers tables sessions old router q prefix)) o []) e in
          let same : (k : ℕ) → (f k ≡ g k) ⊎ (leaves_best_beside p k (g k) (chosen_at new router prefix) ≡ true) = λ k. elim (each k) [
            | inl s ↦ inl s
            | inr idle ↦ inr (idle_of p k e idle)
          ] in
          let entries : List Chosen = made_from (λ place (n : Neighbor). g place) 0 p.neighbors in
          sym first
          ∙ sym (ap (chosen_by p) (ap (λ (l : List Chosen). networks ++ (l ++ entries)) (sym (aggregates p e)) ∙ sym (append_assoc networks before entries))
          ∙ all p (some p e) (chosen_at new router prefix) f g learnt_by same 0 p.neighbors (networks ++ before)
          (ap (chosen_by p) (append_assoc networks before (made_from (λ place (n : Neighbor). f place) 0 p.neighbors)) ∙ sym first))
