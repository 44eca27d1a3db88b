-- The test whether two tables are the same tells it.
use Rattle.std.proofs.Common.{◌≡◌, ℕ, Bool, true, false, ◌==◌, List, [], ◌∷◌, refl, ap, ◌∙◌}
use Rattle.std.specs.Str.{bytes_eq}
use Rattle.std.proofs.lemmas.Bool.{eqb-true, eq-eqb, and_parts, and_from}
use Rattle.std.proofs.lemmas.Slice.Eq.{bytes_eq-Decides}
use Rattle.nc_types.specs.Cidr.{Cidr}
use Rattle.nc_types.specs.declared.addr.Addr.{Addr}
use Rattle.nc_types.specs.declared.config.OriginCode.{OriginCode}
use Rattle.nc_types.specs.declared.config.OriginCode.TheVariants.{Igp, Incomplete}
use Rattle.nc_tables.specs.declared.bgp.Route.{Route}
use Rattle.nc_tables.specs.declared.bgp.Chosen.{Chosen}
use Rattle.nc_tables.specs.declared.bgp.BgpFrom.{BgpFrom}
use Rattle.nc_tables.specs.declared.bgp.BgpFrom.TheVariants.{Origin, Aggregate, Entry}
use Rattle.nc_tables.specs.Base.{same_prefix}
use Rattle.nc_tables.specs.Choice.{class_of, origin_rank, internal_rank}
use Rattle.nc_tables.specs.Rounds.{BgpRowView}
use Rattle.nc_tables.specs.Settling.{same_list, same_route, place_of, same_from, same_candidate, same_row, same_table}
use Rattle.nc_types.proofs.Sameness.{same_prefix_is, same_bytes_is}
use Rattle.nc_tables.proofs.ByPrefix.{same_itself}

-- ---- lists

module _ {A : Type 0} (same : A → A → Bool) where
  pub same_list_is : ((a b : A) → same a b ≡ true → a ≡ b) → (xs ys : List A) → same_list same xs ys ≡ true → xs ≡ ys
  same_list_is is [] [] e = refl
  same_list_is is [] (y ∷ ys) e = absurd cc
  same_list_is is (x ∷ xs) [] e = absurd cc
  same_list_is is (x ∷ xs) (y ∷ ys) e =
      ap (λ (v : A). v ∷ xs) (is x y (and_parts (same x y) (same_list same xs ys) e).0)
      ∙ ap (λ (vs : List A). y ∷ vs) (same_list_is is xs ys (and_parts (same x y) (same_list same xs ys) e).1)

  pub same_list_itself : ((a : A) → same a a ≡ true) → (xs : List A) → same_list same xs xs ≡ true
  same_list_itself itself [] = refl
  same_list_itself itself (x ∷ xs) = and_from (same x x) (same_list same xs xs) (itself x) (same_list_itself itself xs)

-- ---- parts

nat_itself : (n : ℕ) → (n == n) ≡ true
nat_itself n = eq-eqb n n refl

numbers_itself : (p : List ℕ) → bytes_eq p p ≡ true
numbers_itself p = (bytes_eq-Decides p p).1 refl

origin_is : (a b : OriginCode) → (origin_rank a == origin_rank b) ≡ true → a ≡ b
origin_is Igp Igp e = refl
origin_is Igp Incomplete e = absurd cc
origin_is Incomplete Igp e = absurd cc
origin_is Incomplete Incomplete e = refl

internal_is : (a b : Bool) → (internal_rank a == internal_rank b) ≡ true → a ≡ b
internal_is true true e = refl
internal_is true false e = absurd cc
internal_is false true e = absurd cc
internal_is false false e = refl

from_is : (a b : BgpFrom) → same_from a b ≡ true → a ≡ b
from_is (Origin m) (Origin n) e = ap Origin (eqb-true m n e)
from_is (Origin m) (Aggregate n) e = absurd cc
from_is (Origin m) (Entry n) e = absurd cc
from_is (Aggregate m) (Origin n) e = absurd cc
from_is (Aggregate m) (Aggregate n) e = ap Aggregate (eqb-true m n e)
from_is (Aggregate m) (Entry n) e = absurd cc
from_is (Entry m) (Origin n) e = absurd cc
from_is (Entry m) (Aggregate n) e = absurd cc
from_is (Entry m) (Entry n) e = ap Entry (eqb-true m n e)

addr_is : (a b : Addr) → (a.0 == b.0) ≡ true → a ≡ b
addr_is a b e = ap (λ (n : ℕ). record { 0 = n }) (eqb-true a.0 b.0 e)

-- ---- routes and candidates

route_is : (a b : Route) → same_route a b ≡ true → a ≡ b
route_is a b e =
    let e1 = (and_parts (same_prefix a.prefix b.prefix) _ e).1 in
    let e2 = (and_parts (bytes_eq a.path b.path) _ e1).1 in
    let e3 = (and_parts (a.next_hop.0 == b.next_hop.0) _ e2).1 in
    let e4 = (and_parts (a.preference == b.preference) _ e3).1 in
    let p0 = same_prefix_is a.prefix b.prefix (and_parts (same_prefix a.prefix b.prefix) _ e).0 in
    let p1 = same_bytes_is a.path b.path (and_parts (bytes_eq a.path b.path) _ e1).0 in
    let p2 = addr_is a.next_hop b.next_hop (and_parts (a.next_hop.0 == b.next_hop.0) _ e2).0 in
    let p3 = eqb-true a.preference b.preference (and_parts (a.preference == b.preference) _ e3).0 in
    let p4 = eqb-true a.metric b.metric (and_parts (a.metric == b.metric) _ e4).0 in
    let e5 = (and_parts (a.metric == b.metric) _ e4).1 in
    let p5 = origin_is a.origin b.origin (and_parts (origin_rank a.origin == origin_rank b.origin) _ e5).0 in
    let p6 = same_bytes_is a.communities b.communities (and_parts (origin_rank a.origin == origin_rank b.origin) _ e5).1 in
    ap (λ (v : Cidr). record a { prefix = v }) p0
    ∙ ap (λ (v : List ℕ). record a { prefix = b.prefix; path = v }) p1
    ∙ ap (λ (v : Addr). record a { prefix = b.prefix; path = b.path; next_hop = v }) p2
    ∙ ap (λ (v : ℕ). record b { preference = v; metric = a.metric; origin = a.origin; communities = a.communities }) p3
    ∙ ap (λ (v : ℕ). record b { metric = v; origin = a.origin; communities = a.communities }) p4
    ∙ ap (λ (v : OriginCode). record b { origin = v; communities = a.communities }) p5
    ∙ ap (λ (v : List ℕ). record b { communities = v }) p6

route_itself : (a : Route) → same_route a a ≡ true
route_itself a =
    and_from _ _ (same_itself a.prefix) (and_from _ _ (numbers_itself a.path) (and_from _ _ (nat_itself a.next_hop.0) (and_from _ _ (nat_itself a.preference)
    (and_from _ _ (nat_itself a.metric) (and_from _ _ (nat_itself (origin_rank a.origin)) (numbers_itself a.communities))))))

pub candidate_is : (a b : Chosen) → same_candidate a b ≡ true → a ≡ b
candidate_is a b e =
    let e1 = (and_parts (same_route a.route b.route) _ e).1 in
    let e2 = (and_parts (same_from a.from b.from) _ e1).1 in
    let e3 = (and_parts (internal_rank a.internal == internal_rank b.internal) _ e2).1 in
    let p0 = route_is a.route b.route (and_parts (same_route a.route b.route) _ e).0 in
    let p1 = from_is a.from b.from (and_parts (same_from a.from b.from) _ e1).0 in
    let p2 = internal_is a.internal b.internal (and_parts (internal_rank a.internal == internal_rank b.internal) _ e2).0 in
    let p3 = addr_is a.sender_id b.sender_id (and_parts (a.sender_id.0 == b.sender_id.0) _ e3).0 in
    let p4 = addr_is a.sender b.sender (and_parts (a.sender_id.0 == b.sender_id.0) _ e3).1 in
    ap (λ (v : Route). record a { route = v }) p0
    ∙ ap (λ (v : BgpFrom). record a { route = b.route; from = v }) p1
    ∙ ap (λ (v : Bool). record b { internal = v; sender_id = a.sender_id; sender = a.sender }) p2
    ∙ ap (λ (v : Addr). record b { sender_id = v; sender = a.sender }) p3
    ∙ ap (λ (v : Addr). record b { sender = v }) p4

pub candidate_itself : (a : Chosen) → same_candidate a a ≡ true
candidate_itself a =
    and_from _ _ (route_itself a.route) (and_from _ _ (and_from _ _ (nat_itself (class_of a.from)) (nat_itself (place_of a.from))) (and_from _ _ (nat_itself (internal_rank a.internal))
    (and_from _ _ (nat_itself a.sender_id.0) (nat_itself a.sender.0))))

-- ---- tables

row_is : (a b : BgpRowView) → same_row a b ≡ true → a ≡ b
row_is a b e =
    ap (λ (v : Cidr). record a { prefix = v }) (same_prefix_is a.prefix b.prefix (and_parts (same_prefix a.prefix b.prefix) _ e).0)
    ∙ ap (λ (v : List Chosen). record b { chosen = v }) (same_list_is same_candidate candidate_is a.chosen b.chosen (and_parts (same_prefix a.prefix b.prefix) _ e).1)

row_itself : (a : BgpRowView) → same_row a a ≡ true
row_itself a = and_from _ _ (same_itself a.prefix) (same_list_itself same_candidate candidate_itself a.chosen)

pub table_is : (a b : List (List BgpRowView)) → same_table a b ≡ true → a ≡ b
table_is = same_list_is (same_list same_row) (same_list_is same_row row_is)

pub table_itself : (a : List (List BgpRowView)) → same_table a a ≡ true
table_itself = same_list_itself (same_list same_row) (same_list_itself same_row row_itself)
