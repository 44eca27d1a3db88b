-- The choice between candidates: each comparison of the order of preference by itself, and each condition on which another candidate
-- is used with the best.
use Rattle.std.specs.Prelude.{◌≡◌, ℕ, Bool, true, false, List, [], ◌∷◌, refl}
use Rattle.std.specs.declared.cmp.Ordering.TheVariants.{Less, Equal}
use Rattle.nc_types.specs.declared.config.OriginCode.{OriginCode}
use Rattle.nc_types.specs.declared.config.OriginCode.TheVariants.{Igp, Incomplete}
use Rattle.nc_tables.specs.declared.bgp.Chosen.{Chosen}
use Rattle.nc_tables.specs.declared.bgp.BgpFrom.TheVariants.{Origin, Aggregate, Entry}
use Rattle.nc_tables.specs.Choice.{choose, preference_cmp}
use Rattle.nc_tables.specs.Rounds.{chosen_by}
use Rattle.nc_tables.specs.Cases.{candidate, process}

-- ---- preference

-- In each case the first candidate is the better one by one comparison, equal in all that come before it, and the worse one in all
-- that come behind it.

pub network_before_aggregate : preference_cmp (candidate (Origin 1) 90 (7 ∷ 8 ∷ 9 ∷ []) Incomplete 9 true 9 9) (candidate (Aggregate 0) 100 [] Igp 0 false 0 0)
    ≡ Less
unfolding preference_cmp
network_before_aggregate = refl

pub aggregate_before_learnt : preference_cmp (candidate (Aggregate 1) 90 (7 ∷ 8 ∷ 9 ∷ []) Incomplete 9 true 9 9) (candidate (Entry 0) 100 [] Igp 0 false 0 0)
    ≡ Less
unfolding preference_cmp
aggregate_before_learnt = refl

pub higher_preference : preference_cmp (candidate (Entry 1) 101 (7 ∷ 8 ∷ 9 ∷ []) Incomplete 9 true 9 9) (candidate (Entry 0) 100 [] Igp 0 false 0 0)
    ≡ Less
unfolding preference_cmp
higher_preference = refl

pub shorter_path : preference_cmp (candidate (Entry 1) 100 (7 ∷ []) Incomplete 9 true 9 9) (candidate (Entry 0) 100 (1 ∷ 1 ∷ []) Igp 0 false 0 0) ≡ Less
unfolding preference_cmp
shorter_path = refl

pub igp_first : preference_cmp (candidate (Entry 1) 100 (7 ∷ []) Igp 9 true 9 9) (candidate (Entry 0) 100 (1 ∷ []) Incomplete 0 false 0 0) ≡ Less
unfolding preference_cmp
igp_first = refl

pub lower_metric : preference_cmp (candidate (Entry 1) 100 (7 ∷ []) Igp 8 true 9 9) (candidate (Entry 0) 100 (1 ∷ []) Igp 9 false 0 0) ≡ Less
unfolding preference_cmp
lower_metric = refl

pub external_first : preference_cmp (candidate (Entry 1) 100 (7 ∷ []) Igp 9 false 9 9) (candidate (Entry 0) 100 (1 ∷ []) Igp 9 true 0 0) ≡ Less
unfolding preference_cmp
external_first = refl

pub lower_router_id : preference_cmp (candidate (Entry 1) 100 (7 ∷ []) Igp 9 false 8 9) (candidate (Entry 0) 100 (1 ∷ []) Igp 9 false 9 0) ≡ Less
unfolding preference_cmp
lower_router_id = refl

pub lower_address : preference_cmp (candidate (Entry 1) 100 (7 ∷ []) Igp 9 false 9 8) (candidate (Entry 0) 100 (1 ∷ []) Igp 9 false 9 9) ≡ Less
unfolding preference_cmp
lower_address = refl

-- neither the numbers of a path nor the place of a statement are compared
pub nothing_else : preference_cmp (candidate (Entry 1) 100 (7 ∷ []) Igp 9 false 9 9) (candidate (Entry 0) 100 (1 ∷ []) Igp 9 false 9 9) ≡ Equal
unfolding preference_cmp
nothing_else = refl

-- ---- what is used with the best

-- the best of all candidates below, and one that is as good but for its sender
abbrev pub best : Chosen
best = candidate (Entry 0) 100 (7 ∷ 8 ∷ []) Igp 5 false 1 1

abbrev pub beside : ℕ → List ℕ → OriginCode → ℕ → Bool → Chosen
beside preference path origin metric internal = candidate (Entry 1) preference path origin metric internal 2 2

abbrev pub chosen_of : Chosen → Bool → List ℕ
chosen_of other relax = choose (other ∷ best ∷ []) 2 relax

pub as_good : chosen_of (beside 100 (7 ∷ 8 ∷ []) Igp 5 false) false ≡ 1 ∷ 0 ∷ []
unfolding choose preference_cmp
as_good = refl

pub less_preferred : chosen_of (beside 99 (7 ∷ 8 ∷ []) Igp 5 false) true ≡ 1 ∷ []
unfolding choose preference_cmp
less_preferred = refl

pub longer_path : chosen_of (beside 100 (7 ∷ 8 ∷ 8 ∷ []) Igp 5 false) true ≡ 1 ∷ []
unfolding choose preference_cmp
longer_path = refl

pub another_path : chosen_of (beside 100 (7 ∷ 9 ∷ []) Igp 5 false) false ≡ 1 ∷ []
unfolding choose preference_cmp
another_path = refl

pub another_path_relaxed : chosen_of (beside 100 (7 ∷ 9 ∷ []) Igp 5 false) true ≡ 1 ∷ 0 ∷ []
unfolding choose preference_cmp
another_path_relaxed = refl

pub another_origin : chosen_of (beside 100 (7 ∷ 8 ∷ []) Incomplete 5 false) true ≡ 1 ∷ []
unfolding choose preference_cmp
another_origin = refl

pub higher_metric : chosen_of (beside 100 (7 ∷ 8 ∷ []) Igp 6 false) true ≡ 1 ∷ []
unfolding choose preference_cmp
higher_metric = refl

pub internal_beside : chosen_of (beside 100 (7 ∷ 8 ∷ []) Igp 5 true) true ≡ 1 ∷ []
unfolding choose preference_cmp
internal_beside = refl

-- of what is learnt inside the system the best alone is chosen
pub internal_alone : choose (candidate (Entry 0) 100 [] Igp 5 true 2 2 ∷ candidate (Entry 1) 100 [] Igp 5 true 1 1 ∷ []) 2 true ≡ 1 ∷ []
unfolding choose preference_cmp
internal_alone = refl

-- and beside a network nothing that is learnt
pub own_alone : choose (candidate (Entry 0) 100 [] Igp 0 false 0 0 ∷ candidate (Origin 0) 100 [] Igp 0 false 0 0 ∷ []) 2 true ≡ 1 ∷ []
unfolding choose preference_cmp
own_alone = refl

-- the limit counts the best
abbrev pub three : List Chosen
three = candidate (Entry 0) 100 [] Igp 0 false 3 3 ∷ candidate (Entry 1) 100 [] Igp 0 false 2 2 ∷ candidate (Entry 2) 100 [] Igp 0 false 1 1 ∷ []

pub two_of_three : choose three 2 false ≡ 2 ∷ 1 ∷ []
unfolding choose preference_cmp
two_of_three = refl

pub all_three : choose three 3 false ≡ 2 ∷ 1 ∷ 0 ∷ []
unfolding choose preference_cmp
all_three = refl

-- a process chooses by its own limit, and is relaxed where it says so
pub by_limit : chosen_by (process 65001 1 [] [] []) three ≡ candidate (Entry 2) 100 [] Igp 0 false 1 1 ∷ []
unfolding choose preference_cmp
by_limit = refl

pub by_relaxation : chosen_by (record (process 65001 2 [] [] []) { relax = true }) (beside 100 (7 ∷ 9 ∷ []) Igp 5 false ∷ best ∷ [])
    ≡ best ∷ beside 100 (7 ∷ 9 ∷ []) Igp 5 false ∷ []
unfolding choose preference_cmp
by_relaxation = refl
