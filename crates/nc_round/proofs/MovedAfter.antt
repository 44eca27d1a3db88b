-- Of prefixes that are alike the same is chosen, after any number of rounds.
use Rattle.std.proofs.Common.{◌≡◌, ℕ, zero, suc, ◌+◌, Bool, true, false, cond, ◌||◌, ◌&&◌, List, [], ◌∷◌, ◌++◌, length, map, All, IfSome, Option, Some, None, refl, sym, ap, subst, ◌∙◌, inl, inr}
use Rattle.std.specs.Prelude.{position}
use Rattle.std.specs.List.{list_any, position_from}
use Rattle.std.specs.Option.{is_some, option_and_then, option_map_or}
use Rattle.std.proofs.lemmas.Bool.{cases_lt}
use Rattle.std.proofs.lemmas.Iterator.Adapters.{position_from-zero}
use Rattle.std.proofs.lemmas.List.{map-append}
use Rattle.nc_types.specs.Cidr.{Cidr, same_prefix}
use Rattle.nc_types.specs.Config.{ConfigView, ProcessView}
use Rattle.nc_types.specs.WellFormed.{IsProcess, IsWellFormed}
use Rattle.nc_types.specs.declared.config.Neighbor.{Neighbor}
use Rattle.nc_types.specs.declared.config.NetworkStatement.{NetworkStatement}
use Rattle.nc_types.proofs.Members.{In, all_in, in_by_get}
use Rattle.nc_tables.specs.declared.base.BaseRow.{BaseRow}
use Rattle.nc_tables.specs.declared.bgp.BgpFrom.TheVariants.{Origin}
use Rattle.nc_tables.specs.declared.bgp.Chosen.{Chosen}
use Rattle.nc_tables.specs.declared.bgp.SessionRow.{SessionRow}
use Rattle.nc_tables.specs.Reach.{rows_of}
use Rattle.nc_tables.specs.Rounds.{BgpRowView, chosen_at, made_from, begun, origin_at, aggregate_at, entry_at, candidates_at, chosen_by, chosen_anew, prefixes, round, after}
use Rattle.nc_tables.specs.Sessions.{process_of}
use Rattle.nc_decision.proofs.Making.{one_has, single_made}
use Rattle.nc_decision.proofs.Processes.{has_config}
use Rattle.nc_round.specs.Likeness.{ArePlain, AreAlike, begins, network_at, moved}
use Rattle.nc_round.proofs.MovedChoice.{chosen_moved}
use Rattle.nc_round.proofs.MovedEntries.{made_moved, entry_moved}
use Rattle.nc_round.proofs.NextRows.{next_chosen, next_known, past_chosen}
use Rattle.nc_round.proofs.Woken.{none_there}

-- ---- where a router begins a prefix

any_from : {Y : Type 0} (test : Y → Bool) (k : ℕ) (ys : List Y) → list_any test ys ≡ is_some (position_from test k ys)
any_from test k [] = refl
any_from test k (y ∷ ys) = on (test y) (any_from test (k + 1) ys)
  where
    on : (b : Bool) → list_any test ys ≡ is_some (position_from test (k + 1) ys) → (b || list_any test ys) ≡ is_some (cond b (Some k) (position_from test (k + 1) ys))
    on true rest = refl
    on false rest = rest

any_position : {Y : Type 0} (test : Y → Bool) (ys : List Y) → list_any test ys ≡ is_some (position test ys)
any_position test ys = any_from test 0 ys ∙ sym (ap is_some (position_from-zero test ys))

module _ (p q : Cidr) where
  abbrev begun_at : Cidr → Option ℕ → Bool → List Chosen
  begun_at x o holds = option_map_or (λ place. cond holds (begun x (Origin place) ∷ []) []) o []

  begun_moved : (there here : Option ℕ) (known_there known_here : Bool) → (is_some there && known_there) ≡ (is_some here && known_here) → begun_at q there known_there ≡ map (moved q there) (begun_at p here known_here)
  begun_moved None None a b e = refl
  begun_moved None (Some j) a true e = absurd cc
  begun_moved None (Some j) a false e = refl
  begun_moved (Some i) None true b e = absurd cc
  begun_moved (Some i) None false b e = refl
  begun_moved (Some i) (Some j) true true e = refl
  begun_moved (Some i) (Some j) true false e = absurd cc
  begun_moved (Some i) (Some j) false true e = absurd cc
  begun_moved (Some i) (Some j) false false e = refl

module _ (routers : List ConfigView) (tables : List (List BaseRow)) (sessions : List (List SessionRow)) (p q : Cidr) (formed : All IsWellFormed routers) (plain : ArePlain routers) (alike : AreAlike routers tables p q) where
  abbrev at : ℕ → List (List BgpRowView)
  at k = after routers tables sessions k

  process_formed : (router : ℕ) (process : ProcessView) → process_of routers router ≡ Some process → IsProcess process
  process_formed router process e =
      let c = has_config routers router process e in
      subst (λ (o : Option ProcessView). IfSome o IsProcess) c.2 (all_in IsWellFormed routers formed c.0 (in_by_get routers router c.0 c.1)).process

  -- ---- what is chosen anew

  module _ (table : List (List BgpRowView)) (before : (peer : ℕ) → chosen_at table peer q ≡ map (moved q (network_at routers peer q)) (chosen_at table peer p)) (router : ℕ) where
    module _ (process : ProcessView) (is : process_of routers router ≡ Some process) where
      abbrev has : Cidr → NetworkStatement → Bool
      has x n = same_prefix n.prefix x

      abbrev known : Cidr → Bool
      known x = list_any (λ (row : BaseRow). same_prefix row.prefix x) (rows_of tables router)

      abbrev networks : Cidr → List Chosen
      networks x = made_from (λ place n. origin_at routers tables sessions table router place n x) 0 process.networks

      networks_single : (x : Cidr) → networks x ≡ begun_at p q x (position (has x) process.networks) (known x)
      networks_single x =
          single_made (has x) (known x) (λ place. begun x (Origin place)) process.networks
          (one_has (λ (n : NetworkStatement). n.prefix) x process.networks (process_formed router process is).networks)

      begins_is : (x : Cidr) → begins routers tables router x ≡ (is_some (position (has x) process.networks) && known x)
      begins_is x =
          ap (λ (o : Option ProcessView). option_map_or (λ (r : ProcessView). list_any (has x) r.networks) o false && known x) is
          ∙ ap (λ (b : Bool). b && known x) (any_position (has x) process.networks)

      place_is : network_at routers router q ≡ position (has q) process.networks
      place_is = ap (λ (o : Option ProcessView). option_and_then (λ (r : ProcessView). position (has q) r.networks) o) is

      networks_moved : networks q ≡ map (moved q (network_at routers router q)) (networks p)
      networks_moved =
          networks_single q
          ∙ begun_moved p q (position (has q) process.networks) (position (has p) process.networks) (known q) (known p) (sym (begins_is q) ∙ sym (alike router) ∙ begins_is p)
          ∙ ap (λ (o : Option ℕ). map (moved q o) (begun_at p q p (position (has p) process.networks) (known p))) (sym place_is)
          ∙ ap (map (moved q (network_at routers router q))) (sym (networks_single p))

      abbrev aggregates : Cidr → List Chosen
      aggregates x = made_from (λ place a. aggregate_at routers tables sessions table router place a x) 0 process.aggregates

      no_aggregates : (x : Cidr) → aggregates x ≡ []
      no_aggregates x = ap (made_from (λ place a. aggregate_at routers tables sessions table router place a x) 0) (plain router process is).aggregates

      abbrev entries : Cidr → List Chosen
      entries x = made_from (λ place (n : Neighbor). entry_at routers tables sessions table router place x) 0 process.neighbors

      entries_moved : entries q ≡ map (moved q (network_at routers router q)) (entries p)
      entries_moved =
          made_moved (moved q (network_at routers router q)) (λ place (n : Neighbor). entry_at routers tables sessions table router place p) (λ place (n : Neighbor). entry_at routers tables sessions table router place q)
          (λ place n. entry_moved routers tables sessions table plain p q (λ peer. network_at routers peer q) before router (network_at routers router q) place) 0 process.neighbors

      candidates_are : (x : Cidr) → candidates_at routers tables sessions table router process x ≡ networks x ++ entries x
      candidates_are x = ap (λ (l : List Chosen). networks x ++ (l ++ entries x)) (no_aggregates x)

      candidates_moved : candidates_at routers tables sessions table router process q ≡ map (moved q (network_at routers router q)) (candidates_at routers tables sessions table router process p)
      candidates_moved =
          let move : Chosen → Chosen = moved q (network_at routers router q) in
          candidates_are q
          ∙ ap (λ (l : List Chosen). l ++ entries q) networks_moved
          ∙ ap (λ (l : List Chosen). map move (networks p) ++ l) entries_moved
          ∙ sym (map-append move (networks p) (entries p))
          ∙ ap (map move) (sym (candidates_are p))

      process_moved : chosen_by process (candidates_at routers tables sessions table router process q) ≡ map (moved q (network_at routers router q)) (chosen_by process (candidates_at routers tables sessions table router process p))
      process_moved =
          ap (chosen_by process) candidates_moved
          ∙ chosen_moved q (network_at routers router q) process (candidates_at routers tables sessions table router process p)

    abbrev chosen : Cidr → Option ProcessView → List Chosen
    chosen x o = option_map_or (λ r. chosen_by r (candidates_at routers tables sessions table router r x)) o []

    anew_moved : chosen_anew routers tables sessions table router q ≡ map (moved q (network_at routers router q)) (chosen_anew routers tables sessions table router p)
    anew_moved = on (process_of routers router) refl
      where
        on : (o : Option ProcessView) → process_of routers router ≡ o → chosen q o ≡ map (moved q (network_at routers router q)) (chosen p o)
        on None is = refl
        on (Some process) is = process_moved process is

  -- ---- round by round

  known_after : (k router : ℕ) (x : Cidr) → (In x (prefixes routers) → ⊥) → chosen_at (at k) router x ≡ []
  unfolding after
  known_after zero router x none = none_there routers router x
  known_after (suc k) router x none = next_known routers tables sessions (at k) router x none

  each_round : (k router : ℕ) → chosen_at (at k) router q ≡ map (moved q (network_at routers router q)) (chosen_at (at k) router p)
  unfolding after
  each_round zero router = none_there routers router q ∙ ap (map (moved q (network_at routers router q))) (sym (none_there routers router p))
  each_round (suc k) router = by_place (each_round k)
    where
      by_place : ((peer : ℕ) → chosen_at (at k) peer q ≡ map (moved q (network_at routers peer q)) (chosen_at (at k) peer p))
          → chosen_at (round routers tables sessions (at k)) router q ≡ map (moved q (network_at routers router q)) (chosen_at (round routers tables sessions (at k)) router p)
      by_place before = elim (cases_lt router (length routers)) [
        | inl lt ↦
            next_chosen routers tables sessions (at k) (known_after k) router q lt
            ∙ anew_moved (at k) before router
            ∙ ap (map (moved q (network_at routers router q))) (sym (next_chosen routers tables sessions (at k) (known_after k) router p lt))
        | inr le ↦
            past_chosen routers tables sessions (at k) router q le
            ∙ ap (map (moved q (network_at routers router q))) (sym (past_chosen routers tables sessions (at k) router p le))
      ]

pub moved_after : (routers : List ConfigView) (tables : List (List BaseRow)) (sessions : List (List SessionRow)) (p q : Cidr) (rounds router : ℕ)
    → All IsWellFormed routers → ArePlain routers → AreAlike routers tables p q
    → chosen_at (after routers tables sessions rounds) router q ≡ map (moved q (network_at routers router q)) (chosen_at (after routers tables sessions rounds) router p)
moved_after routers tables sessions p q rounds router formed plain alike = each_round routers tables sessions p q formed plain alike rounds router
