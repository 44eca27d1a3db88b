-- A router has no more base rows than elements.
use Rattle.std.proofs.Common.{◌≡◌, ℕ, suc, ◌+◌, ◌^◌, ◌<◌, ◌≤◌, Bool, true, false, cond, List, [], ◌∷◌, length, get_or, filter, Option, Some, None, ap, inl, inr, arith}
use Rattle.std.specs.Option.{option_map_or}
use Rattle.nc_tables.specs.declared.base.BaseFrom.TheVariants.{Connected}
use Rattle.std.proofs.lemmas.Bool.{cases_lt}
use Rattle.std.proofs.lemmas.List.{length-append, length-map, get_or-map, get_or_past}
use Rattle.std.proofs.lemmas.List.Sums.{get_or-le-sum_by}
use Rattle.nc_types.specs.declared.config.IfaceAddr.{IfaceAddr}
use Rattle.nc_types.specs.declared.config.Interface.{Interface}
use Rattle.nc_types.specs.declared.config.StaticRoute.{StaticRoute}
use Rattle.nc_types.specs.Config.{ConfigView}
use Rattle.nc_types.specs.WellFormed.{IsWellFormed}
use Rattle.nc_types.specs.Joining.{IsValid}
use Rattle.nc_types.specs.Network.{up_of, element_count}
use Rattle.nc_tables.specs.declared.base.BaseRow.{BaseRow}
use Rattle.nc_tables.specs.Base.{connected_from, static_row, statics_from, candidates, is_nearest, row_cmp, base_table, base_tables}
use Rattle.nc_types.proofs.Few.{few_parts}
use Rattle.nc_tables.proofs.Ordered.{length_in_order}

filter_count : {X : Type 0} (test : X → Bool) (xs : List X) → length (filter test xs) ≤ length xs
filter_count test [] = omega arith
filter_count test (x ∷ xs) = on (test x) (filter_count test xs)
  where
    on : (b : Bool) → length (filter test xs) ≤ length xs → length (cond b (x ∷ filter test xs) (filter test xs)) ≤ suc (length xs)
    on true le = omega arith
    on false le = omega arith

one_more : {A X : Type 0} (make : A → X) (rest : List X) (n : ℕ) (o : Option A) → length rest ≤ n → length (option_map_or (λ a. make a ∷ rest) o rest) ≤ suc n
one_more make rest n None le = omega arith
one_more make rest n (Some a) le = omega arith

connected_count : (place : ℕ) (is : List Interface) → length (connected_from place is) ≤ length is
connected_count place [] = omega arith
connected_count place (i ∷ is) =
    one_more {X = BaseRow} (λ (a : IfaceAddr). record { prefix = a.prefix; distance = 0; from = Connected (record { 0 = place }) }) (connected_from (place + 1) is) (length is) (up_of i) (connected_count (place + 1) is)

statics_count : (is : List Interface) (place : ℕ) (ss : List StaticRoute) → length (statics_from is place ss) ≤ length ss
statics_count is place [] = omega arith
statics_count is place (s ∷ ss) = one_more (λ (row : BaseRow). row) (statics_from is (place + 1) ss) (length ss) (static_row is place s) (statics_count is (place + 1) ss)

pub few_rows : (c : ConfigView) → IsWellFormed c → length (base_table c) ≤ length c.elements
unfolding base_table
few_rows c formed =
    let sorted : length (base_table c) ≡ length (filter (is_nearest (candidates c)) (candidates c)) = length_in_order row_cmp (filter (is_nearest (candidates c)) (candidates c)) in
    let kept : length (filter (is_nearest (candidates c)) (candidates c)) ≤ length (candidates c) = filter_count (is_nearest (candidates c)) (candidates c) in
    let all : length (candidates c) ≡ length (connected_from 0 c.interfaces) + length (statics_from c.interfaces 0 c.statics) = length-append (connected_from 0 c.interfaces) (statics_from c.interfaces 0 c.statics) in
    let connected = connected_count 0 c.interfaces in
    let statics = statics_count c.interfaces 0 c.statics in
    let parts = few_parts c formed in
    omega arith

-- the base rows of each router of a valid network can be numbered
pub few_base_rows : (routers : List ConfigView) → IsValid routers → element_count routers < 2 ^ 32 → (router : ℕ) → length (get_or (base_tables routers) router []) < 2 ^ 32
few_base_rows [] valid count router = omega arith
few_base_rows (c ∷ cs) valid count router = elim (cases_lt router (length (c ∷ cs))) [
  | inl lt ↦ here lt
  | inr past ↦ let none : get_or (base_tables (c ∷ cs)) router [] ≡ [] = get_or_past (base_tables (c ∷ cs)) router [] (omega (arith, length-map (c ∷ cs) base_table)) in let zero_rows = ap length none in omega arith
]
  where
    here : router < length (c ∷ cs) → length (get_or (base_tables (c ∷ cs)) router []) < 2 ^ 32
    here lt =
        let row_count : length (get_or (base_tables (c ∷ cs)) router []) ≡ length (base_table (get_or (c ∷ cs) router c)) = ap length (get_or-map base_table (c ∷ cs) router c [] lt) in
        let few = few_rows (get_or (c ∷ cs) router c) (valid.each router c lt) in
        let of_all : length (get_or (c ∷ cs) router c).elements ≤ element_count (c ∷ cs) = get_or-le-sum_by (λ (c : ConfigView). length c.elements) (c ∷ cs) router c lt in
        omega arith
