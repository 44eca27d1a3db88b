-- What isn't stable, no state and not valid: what each condition of these says, on the smallest networks.
use Rattle.std.specs.Prelude.{◌≡◌, ℕ, zero, suc, ◌<◌, ◌≤◌, List, [], ◌∷◌, length, slice_index_or, Some, None, codes, refl}
use Rattle.std.proofs.Common.{ap, ◌∙◌, arith}
use Rattle.std.proofs.Math.Nat.{suc-ne-zero}
use Rattle.nc_types.specs.Config.{ConfigView}
use Rattle.nc_types.specs.Joining.{IsValid}
use Rattle.nc_types.specs.declared.config.Via.TheVariants.{Through}
use Rattle.nc_tables.specs.Base.{base_tables, base_table}
use Rattle.nc_tables.specs.Longest.{longest}
use Rattle.nc_tables.specs.Reach.{reaches}
use Rattle.nc_tables.specs.Sessions.{sessions}
use Rattle.nc_tables.specs.Policy.{verdict}
use Rattle.nc_tables.specs.Choice.{choose, preference_cmp}
use Rattle.nc_tables.specs.Rounds.{BgpRowView, IsSettled, IsStable, IsUnstable, after, message_at, accepted_at}
use Rattle.nc_tables.specs.Main.{main_tables}
use Rattle.nc_tables.specs.State.{StateView, IsState, state_at}
use Rattle.nc_tables.specs.Cases.{address, prefix, interface, process, router, refers}

-- ---- valid networks

abbrev pub named : List ℕ → ConfigView
named name = record (router [] [] None [] []) { name = name }

pub not_of_one_name : IsValid (named (codes "a") ∷ named (codes "a") ∷ []) → ⊥
not_of_one_name v = suc-ne-zero 0 (ap length v.names)

abbrev pub overlapping : ConfigView
overlapping = router (interface [] (address 10 1 0 1) (prefix 10 1 0 0 24) ∷ interface [] (address 10 1 1 1) (prefix 10 1 0 0 16) ∷ []) [] None [] []

pub not_overlapping : IsValid (overlapping ∷ []) → ⊥
not_overlapping v = suc-ne-zero 0 (ap length v.prefixes)

abbrev pub addressed : List ℕ → ConfigView
addressed name = record (router (interface [] (address 10 1 0 1) (prefix 10 1 0 0 24) ∷ []) [] None [] []) { name = name }

pub not_of_one_address : IsValid (addressed (codes "a") ∷ addressed (codes "b") ∷ []) → ⊥
not_of_one_address v = suc-ne-zero 0 (ap length v.addresses)

abbrev pub undefining : ConfigView
undefining = router [] (record { prefix = prefix 10 1 0 0 24; via = Through (refers (codes "X")) (record { 0 = 1 }); distance = 1; element = 0 } ∷ []) None [] []

pub not_undefined : IsValid (undefining ∷ []) → ⊥
not_undefined v = suc-ne-zero 0 (ap length v.references)

-- ---- stable tables: of a router without a process none has a route, from the start on

abbrev pub alone : List ConfigView
alone = router [] [] None [] [] ∷ []

abbrev pub Stable : ℕ → List (List BgpRowView) → Type 0
Stable rounds table = IsStable alone (base_tables alone) (sessions alone (base_tables alone)) rounds table

pub stable_at_once : Stable 1 ([] ∷ [])
unfolding after base_table
stable_at_once = record { count = 0; within = omega arith; settled = refl; least = λ k h. absurd (omega (arith, h)); state = refl }

-- without a round nothing is stable
pub none_without_a_round : (table : List (List BgpRowView)) → Stable 0 table → ⊥
none_without_a_round table s = omega (arith, s.within)

-- the least number of rounds counts
pub least_count : (rounds : ℕ) (table : List (List BgpRowView)) (s : Stable rounds table) → 0 < s.count → ⊥
unfolding after base_table
least_count rounds table s h = s.least 0 h refl

-- and the table is that behind them
pub stable_table : (table : List (List BgpRowView)) → Stable 1 table → table ≡ [] ∷ []
unfolding after base_table
stable_table table s = s.state ∙ ap (after alone (base_tables alone) (sessions alone (base_tables alone))) (none_before s.count s.within) where
  none_before : (count : ℕ) → count < 1 → count ≡ 0
  none_before count h = omega (arith, h)

-- what the next round changes isn't stable: here the first router has a network to begin with
abbrev pub begins : List ConfigView
begins = router (interface [] (address 10 1 0 1) (prefix 10 1 0 0 24) ∷ []) [] (Some (process 65001 1 [] (prefix 10 1 0 0 24 ∷ []) [])) [] [] ∷ []

pub not_at_once : (table : List (List BgpRowView)) → IsStable begins (base_tables begins) (sessions begins (base_tables begins)) 1 table → ⊥
unfolding after base_table longest reaches message_at accepted_at choose preference_cmp verdict
not_at_once table s = suc-ne-zero 0 (ap (λ t. length (slice_index_or t 0 [])) (at_once s.count s.within s.settled)) where
  at_once : (count : ℕ) → count < 1 → IsSettled begins (base_tables begins) (sessions begins (base_tables begins)) count
      → IsSettled begins (base_tables begins) (sessions begins (base_tables begins)) 0
  at_once zero h e = e
  at_once (suc count) h e = absurd (omega (arith, h))

-- a network is unstable over no round, and this one over no other number
pub unstable_over_none : IsUnstable alone (base_tables alone) (sessions alone (base_tables alone)) 0
unstable_over_none k h = absurd (omega (arith, h))

pub not_unstable : IsUnstable alone (base_tables alone) (sessions alone (base_tables alone)) 1 → ⊥
unfolding after base_table
not_unstable u = u 0 (omega arith) refl

-- ---- states: each table is that of the routers, and the table of BGP is stable

pub state_base : (s : StateView) → IsState s → s.base ≡ base_tables s.routers
unfolding state_at
state_base s is = ap (λ t. t.base) is.tables

pub state_sessions : (s : StateView) → IsState s → s.sessions ≡ sessions s.routers (base_tables s.routers)
unfolding state_at
state_sessions s is = ap (λ t. t.sessions) is.tables

pub state_main : (s : StateView) → IsState s → s.main ≡ main_tables s.routers (base_tables s.routers) s.bgp
unfolding state_at
state_main s is = ap (λ t. t.main) is.tables

pub state_valid : (s : StateView) → IsState s → IsValid s.routers
state_valid s is = is.valid

pub state_stable : (s : StateView) (is : IsState s) → IsStable s.routers s.base s.sessions is.rounds s.bgp
state_stable s is = is.stable

pub state_few : (s : StateView) → IsState s → length s.routers ≤ 256
state_few s is = is.few
