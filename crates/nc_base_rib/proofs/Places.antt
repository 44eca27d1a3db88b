-- The rows that a router's table may have stand in order of their places.
use Rattle.std.proofs.Common.{◌≡◌, ◌⊎◌, ℕ, zero, suc, ◌+◌, ◌<◌, ◌≤◌, Bool, true, false, cond, nat_lt, List, [], ◌∷◌, ◌++◌, get_or, refl, sym, subst, ◌∙◌, arith, inl, inr, Option, Some, None}
use Rattle.std.specs.List.{AllPairs}
use Rattle.std.specs.Option.{option_map, option_map_or}
use Rattle.std.specs.declared.cmp.Ordering.TheVariants.{Less}
use Rattle.std.specs.Ordering.{ordering_then, nat_cmp}
use Rattle.std.proofs.lemmas.Bool.Decides.{nat_tests}
use Rattle.nc_types.specs.Config.{ConfigView}
use Rattle.nc_types.specs.Network.{up_of}
use Rattle.nc_types.specs.declared.config.IfaceAddr.{IfaceAddr}
use Rattle.nc_types.specs.declared.config.Interface.{Interface}
use Rattle.nc_types.specs.declared.config.StaticRoute.{StaticRoute}
use Rattle.nc_types.specs.declared.config.Via.{Via}
use Rattle.nc_types.specs.declared.config.Via.TheVariants.{Null, Hop, Through}
use Rattle.nc_tables.specs.declared.base.BaseRow.{BaseRow}
use Rattle.nc_tables.specs.declared.base.BaseFrom.{BaseFrom}
use Rattle.nc_tables.specs.declared.base.BaseFrom.TheVariants.{Connected, Static}
use Rattle.nc_tables.specs.Base.{connected_from, statics_from, static_row, static_from, interface_toward, hop_is_own, candidates, rank_of, from_cmp}
use Rattle.nc_types.proofs.Members.{In, in_at, in_either}
use Rattle.nc_base_rib.proofs.Members.{Rises}

-- ---- lists that rise

module _ {X : Type 0} (before : X → X → Type 0) where
  pub pairs_by_rises : (xs : List X) → Rises before xs → AllPairs before xs
  pairs_by_rises [] r i j d lt within = absurd (omega arith)
  pairs_by_rises (x ∷ xs) r i zero d lt within = absurd (omega arith)
  pairs_by_rises (x ∷ xs) r zero (suc j) d lt within = r.0 (get_or xs j d) (in_at xs j d (omega arith))
  pairs_by_rises (x ∷ xs) r (suc i) (suc j) d lt within = pairs_by_rises xs r.1 i j d (omega arith) (omega arith)

rises_append : {X : Type 0} (before : X → X → Type 0) (xs ys : List X) → Rises before xs → Rises before ys → ((x z : X) → In x xs → In z ys → before x z) → Rises before (xs ++ ys)
rises_append before [] ys r s cross = s
rises_append {X} before (x ∷ xs) ys r s cross = ((λ z i. by_cases z (in_either xs ys z i)), rises_append before xs ys r.1 s (λ y z i j. cross y z (inr i) j))
  where
    by_cases : (z : X) → In z xs ⊎ In z ys → before x z
    by_cases z (inl i) = r.0 z i
    by_cases z (inr j) = cross x z (inl refl) j

-- ---- ranks

less_place : (k p l q : ℕ) → k ≡ l → p < q → ordering_then (nat_cmp k l) (nat_cmp p q) ≡ Less
less_place k p l q e lt = grind (arith, nat_tests)

less_kind : (k p l q : ℕ) → k < l → ordering_then (nat_cmp k l) (nat_cmp p q) ≡ Less
less_kind k p l q lt = grind (arith, nat_tests)

-- a row of this kind, of a place that isn't lower
abbrev IsFrom : ℕ → ℕ → BaseRow → Type 0
IsFrom kind place row = ((rank_of row.from).0 ≡ kind) × (place ≤ (rank_of row.from).1)

abbrev Before : BaseRow → BaseRow → Type 0
Before a b = from_cmp a.from b.from ≡ Less

next : (kind place : ℕ) (row : BaseRow) → IsFrom kind (place + 1) row → IsFrom kind place row
next kind place row f = (f.0, (let le : place + 1 ≤ (rank_of row.from).1 = f.1 in omega arith))

connected_ranks : (place : ℕ) (is : List Interface) (z : BaseRow) → In z (connected_from place is) → IsFrom 0 place z
connected_ranks place [] z i = absurd i
connected_ranks place (x ∷ is) z i = by_up (up_of x) (connected_ranks (place + 1) is z) i
  where
    by_up : (o : Option IfaceAddr) → (In z (connected_from (place + 1) is) → IsFrom 0 (place + 1) z)
        → In z (option_map_or (λ a. record { prefix = a.prefix; distance = 0; from = Connected (record { 0 = place }) } ∷ connected_from (place + 1) is) o (connected_from (place + 1) is)) → IsFrom 0 place z
    by_up None rest j = next 0 place z (rest j)
    by_up (Some a) rest (inl e) = subst (λ (r : BaseRow). IsFrom 0 place r) e (refl, (omega arith))
    by_up (Some a) rest (inr j) = next 0 place z (rest j)

connected_rises : (place : ℕ) (is : List Interface) → Rises Before (connected_from place is)
connected_rises place [] = tt
connected_rises place (x ∷ is) = by_up (up_of x) (connected_rises (place + 1) is) (connected_ranks (place + 1) is)
  where
    by_up : (o : Option IfaceAddr) → Rises Before (connected_from (place + 1) is) → ((z : BaseRow) → In z (connected_from (place + 1) is) → IsFrom 0 (place + 1) z)
        → Rises Before (option_map_or (λ a. record { prefix = a.prefix; distance = 0; from = Connected (record { 0 = place }) } ∷ connected_from (place + 1) is) o (connected_from (place + 1) is))
    by_up None rest ranks = rest
    by_up (Some a) rest ranks = ((λ z i. less_place 0 place (rank_of z.from).0 (rank_of z.from).1 (sym (ranks z i).0) (let le : place + 1 ≤ (rank_of z.from).1 = (ranks z i).1 in omega arith)), rest)

-- a row at exactly this place
abbrev HasPlace : ℕ → Option BaseRow → Type 0
HasPlace place None = Unit {0}
HasPlace place (Some row) = ((rank_of row.from).0 ≡ 1) × ((rank_of row.from).1 ≡ place)

abbrev FromPlace : ℕ → Option BaseFrom → Type 0
FromPlace place None = Unit {0}
FromPlace place (Some from) = ((rank_of from).0 ≡ 1) × ((rank_of from).1 ≡ place)

static_place : (is : List Interface) (place : ℕ) (s : StaticRoute) → HasPlace place (static_row is place s)
static_place is place s = by_distance (nat_lt s.distance 255) (static_from is place s.via) (by_via s.via)
  where
    through : (b : Bool) (o : Option ℕ) → FromPlace place (cond b None (option_map (λ iface. Static place (record { 0 = iface })) o))
    through true o = tt
    through false None = tt
    through false (Some iface) = (refl, refl)

    by_via : (via : Via) → FromPlace place (static_from is place via)
    by_via Null = (refl, refl)
    by_via (Hop hop) = through (hop_is_own is (Hop hop)) (interface_toward is (Hop hop))
    by_via (Through reference hop) = through (hop_is_own is (Through reference hop)) (interface_toward is (Through reference hop))

    by_distance : (b : Bool) (o : Option BaseFrom) → FromPlace place o → HasPlace place (cond b (option_map (λ from. record { prefix = s.prefix; distance = s.distance; from = from }) o) None)
    by_distance false o f = tt
    by_distance true None f = tt
    by_distance true (Some from) f = f

statics_ranks : (is : List Interface) (place : ℕ) (ss : List StaticRoute) (z : BaseRow) → In z (statics_from is place ss) → IsFrom 1 place z
statics_ranks is place [] z i = absurd i
statics_ranks is place (s ∷ ss) z i = by_row (static_row is place s) (static_place is place s) (statics_ranks is (place + 1) ss z) i
  where
    by_row : (o : Option BaseRow) → HasPlace place o → (In z (statics_from is (place + 1) ss) → IsFrom 1 (place + 1) z) → In z (option_map_or (λ row. row ∷ statics_from is (place + 1) ss) o (statics_from is (place + 1) ss)) → IsFrom 1 place z
    by_row None h rest j = next 1 place z (rest j)
    by_row (Some row) h rest (inl e) = subst (λ (r : BaseRow). IsFrom 1 place r) e (h.0, (let same : (rank_of row.from).1 ≡ place = h.1 in omega arith))
    by_row (Some row) h rest (inr j) = next 1 place z (rest j)

statics_rises : (is : List Interface) (place : ℕ) (ss : List StaticRoute) → Rises Before (statics_from is place ss)
statics_rises is place [] = tt
statics_rises is place (s ∷ ss) = by_row (static_row is place s) (static_place is place s) (statics_rises is (place + 1) ss) (statics_ranks is (place + 1) ss)
  where
    by_row : (o : Option BaseRow) → HasPlace place o → Rises Before (statics_from is (place + 1) ss) → ((z : BaseRow) → In z (statics_from is (place + 1) ss) → IsFrom 1 (place + 1) z)
        → Rises Before (option_map_or (λ row. row ∷ statics_from is (place + 1) ss) o (statics_from is (place + 1) ss))
    by_row None h rest ranks = rest
    by_row (Some row) h rest ranks =
        ((λ z i. less_place (rank_of row.from).0 (rank_of row.from).1 (rank_of z.from).0 (rank_of z.from).1 (h.0 ∙ sym (ranks z i).0) (let same : (rank_of row.from).1 ≡ place = h.1 in let le : place + 1 ≤ (rank_of z.from).1 = (ranks z i).1 in omega arith)), rest)

pub places_rise : (c : ConfigView) → AllPairs (λ a b. from_cmp a.from b.from ≡ Less) (candidates c)
places_rise c =
    pairs_by_rises Before (candidates c)
    (rises_append Before (connected_from 0 c.interfaces) (statics_from c.interfaces 0 c.statics) (connected_rises 0 c.interfaces) (statics_rises c.interfaces 0 c.statics)
    (λ a b i j. less_kind (rank_of a.from).0 (rank_of a.from).1 (rank_of b.from).0 (rank_of b.from).1 (let e : (rank_of a.from).0 ≡ 0 = (connected_ranks 0 c.interfaces a i).0 in let f : (rank_of b.from).0 ≡ 1 = (statics_ranks c.interfaces 0 c.statics b j).0 in omega arith)))
