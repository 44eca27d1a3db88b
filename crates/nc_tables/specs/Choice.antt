-- Which candidates of a prefix are chosen.
use Rattle.std.specs.Prelude.{ℕ, ◌+◌, Bool, true, false, not, ◌&&◌, ◌==◌, List, [], ◌∷◌, length, map, take, filter, if◌then◌else◌}
use Rattle.std.specs.Ordering.{nat_cmp, ordering_then}
use Rattle.std.specs.Str.{bytes_eq}
use Rattle.std.specs.declared.cmp.Ordering.{Ordering}
use Rattle.nc_types.specs.declared.config.OriginCode.{OriginCode}
use Rattle.nc_types.specs.declared.config.OriginCode.TheVariants.{Igp, Incomplete}
use Rattle.nc_tables.specs.declared.bgp.Chosen.{Chosen}
use Rattle.nc_tables.specs.declared.bgp.BgpFrom.{BgpFrom}
use Rattle.nc_tables.specs.declared.bgp.BgpFrom.TheVariants.{Origin, Aggregate, Entry}
use Rattle.nc_tables.specs.Order.{in_order}

-- networks come first, then aggregates, then what was learnt
abbrev pub class_of : BgpFrom → ℕ
class_of (Origin place) = 0
class_of (Aggregate place) = 1
class_of (Entry place) = 2

abbrev pub is_learnt : BgpFrom → Bool
is_learnt (Entry place) = true
is_learnt from = false

abbrev pub origin_rank : OriginCode → ℕ
origin_rank Igp = 0
origin_rank Incomplete = 1

abbrev pub internal_rank : Bool → ℕ
internal_rank false = 0
internal_rank true = 1

-- the order of preference, the preferred one first: by the first of these that differs
unfoldable pub preference_cmp : Chosen → Chosen → Ordering
preference_cmp a b =
    ordering_then (nat_cmp (class_of a.from) (class_of b.from))
    (ordering_then (nat_cmp b.route.preference a.route.preference)
    (ordering_then (nat_cmp (length a.route.path) (length b.route.path))
    (ordering_then (nat_cmp (origin_rank a.route.origin) (origin_rank b.route.origin))
    (ordering_then (nat_cmp a.route.metric b.route.metric)
    (ordering_then (nat_cmp (internal_rank a.internal) (internal_rank b.internal))
    (ordering_then (nat_cmp a.sender_id.0 b.sender_id.0) (nat_cmp a.sender.0 b.sender.0)))))))

abbrev pub is_external : Chosen → Bool
is_external x = is_learnt x.from && not x.internal

-- paths are equal, or equally long where the process is relaxed
abbrev pub same_path : Bool → List ℕ → List ℕ → Bool
same_path relax p q = if relax then length p == length q else bytes_eq p q

-- a learnt external candidate that is as good as the best, but for who sent it
abbrev pub is_equal_to : Bool → Chosen → Chosen → Bool
is_equal_to relax best x =
    is_external x && ((x.route.preference == best.route.preference)
    && ((origin_rank x.route.origin == origin_rank best.route.origin) && ((x.route.metric == best.route.metric) && same_path relax x.route.path best.route.path)))

-- a candidate with its place among the candidates of its prefix
pub record Ranked : Type 0 where
  pub place : ℕ
  pub candidate : Chosen

-- candidates with their places, the first of which has this place
abbrev pub ranked_from : ℕ → List Chosen → List Ranked
ranked_from place [] = []
ranked_from place (x ∷ xs) = record { place = place; candidate = x } ∷ ranked_from (place + 1) xs

-- candidates with their places, the preferred ones first
abbrev pub by_preference : List Chosen → List Ranked
by_preference candidates = in_order (λ a b. preference_cmp a.candidate b.candidate) (ranked_from 0 candidates)

-- the best, and those that are used with it, at most so many
abbrev pub used_with : ℕ → Bool → List Ranked → List Ranked
used_with limit relax [] = []
used_with limit relax (best ∷ others) =
    if is_external best.candidate then take limit (best ∷ filter (λ x. is_equal_to relax best.candidate x.candidate) others) else best ∷ []

-- the places of those candidates of a prefix that are chosen, best first, at most so many
unfoldable pub choose : List Chosen → ℕ → Bool → List ℕ
choose candidates limit relax = map (λ x. x.place) (used_with limit relax (by_preference candidates))
