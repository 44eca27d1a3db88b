-- The main rows of a prefix, from its base rows, its discard and what is chosen of it.
use Rattle.std.proofs.Common.{◌≡◌, ℕ, zero, suc, ◌+◌, ◌≤◌, Bool, true, false, cond, ◌&&◌, List, [], ◌∷◌, length, map, take, drop, slice_index_or, All, Option, Some, None, refl, sym, ap, subst, ◌∙◌, arith, inl, inr}
use Rattle.std.specs.List.{find, range_with_len}
use Rattle.std.specs.Option.{option_map, option_map_or}
use Rattle.std.proofs.lemmas.List.Elements.{All-head, All-tail}
use Rattle.nc_types.specs.Cidr.{Cidr}
use Rattle.nc_types.specs.Config.{ConfigView, ProcessView}
use Rattle.nc_types.specs.declared.TheConstants.{MULTIPATH_LIMIT}
use Rattle.nc_types.specs.declared.config.AggregateStatement.{AggregateStatement}
use Rattle.nc_types.proofs.Members.{In, in_by_map}
use Rattle.nc_tables.specs.declared.TheConstants.{LOCAL_DISTANCE}
use Rattle.nc_tables.specs.declared.base.BaseRow.{BaseRow}
use Rattle.nc_tables.specs.declared.bgp.Chosen.{Chosen}
use Rattle.nc_tables.specs.declared.bgp.MainRow.{MainRow}
use Rattle.nc_tables.specs.declared.bgp.MainFrom.TheVariants.{Discard}
use Rattle.nc_tables.specs.Base.{same_prefix}
use Rattle.nc_tables.specs.Choice.{is_learnt}
use Rattle.nc_tables.specs.Longest.{places_from}
use Rattle.nc_tables.specs.Distances.{distance_of}
use Rattle.nc_tables.specs.Main.{base_side, bgp_side, learnt_rows, main_rows_at, nearer}
use Rattle.nc_tables.specs.Rounds.{BgpRowView, chosen_at, chosen_in, is_active, made_from}
use Rattle.nc_tables.specs.Sessions.{first_of, process_of}
use Rattle.nc_main_rib.specs.Sides.{active_from, base_in, base_row, base_rows, bgp_rows, first_distance, learnt_row, stands}

-- ---- which side stands

pub nearer_is : (base bgp : List MainRow) → nearer base bgp ≡ cond (stands (first_distance base) (first_distance bgp)) base bgp
nearer_is [] bgp = refl
nearer_is (row ∷ rows) [] = refl
nearer_is (row ∷ rows) (other ∷ others) = refl

-- ---- base rows of a prefix

low : {A : Type 0} (test : A → Bool) (place : ℕ) (xs : List A) (p : ℕ) (ps : List ℕ) → places_from test place xs ≡ p ∷ ps → place ≤ p
low test place [] p ps e = absurd cc
low test place (x ∷ xs) p ps e = on (test x) e (low test (place + 1) xs p ps)
  where
    on : (b : Bool) → cond b (place ∷ places_from test (place + 1) xs) (places_from test (place + 1) xs) ≡ p ∷ ps → (places_from test (place + 1) xs ≡ p ∷ ps → place + 1 ≤ p) → place ≤ p
    on true is rest = let same : place ≡ p = cc in omega arith
    on false is rest = let later : place + 1 ≤ p = rest is in omega arith

module _ {A B : Type 0} (test : A → Bool) (make : ℕ → A → B) where
  abbrev some_made : ℕ → A → Option B
  some_made place x = cond (test x) (Some (make place x)) None

  abbrev all_made : ℕ → A → Option B
  all_made place x = Some (make place x)

  -- what is made of the items that pass, which stand side by side
  pub made_within : (place : ℕ) (xs : List A) (from n : ℕ) → places_from test place xs ≡ range_with_len (place + from) n
      → made_from some_made place xs ≡ made_from all_made (place + from) (take n (drop from xs))
  made_within place [] zero zero e = refl
  made_within place [] (suc from) zero e = refl
  made_within place [] from (suc n) e = absurd cc
  made_within place (x ∷ xs) from n e = on (test x) from n e (made_within (suc place) xs)
    where
      next : suc place ≡ place + 1
      next = omega arith

      on : (b : Bool) (f m : ℕ) → cond b (place ∷ places_from test (place + 1) xs) (places_from test (place + 1) xs) ≡ range_with_len (place + f) m
          → ((f m : ℕ) → places_from test (suc place) xs ≡ range_with_len (suc place + f) m → made_from some_made (suc place) xs ≡ made_from all_made (suc place + f) (take m (drop f xs)))
          → option_map_or (λ y. y ∷ made_from some_made (suc place) xs) (cond b (Some (make place x)) None) (made_from some_made (suc place) xs) ≡ made_from all_made (place + f) (take m (drop f (x ∷ xs)))
      on true f zero is rest = absurd cc
      on true (suc f) (suc m) is rest =
          let cut : place ∷ places_from test (place + 1) xs ≡ (place + suc f) ∷ range_with_len (place + suc f + 1) m = is in
          let same : place ≡ place + suc f = cc in
          absurd (omega arith)
      on true zero (suc m) is rest =
          let cut : place ∷ places_from test (place + 1) xs ≡ (place + 0) ∷ range_with_len (place + 0 + 1) m = is in
          let tail : places_from test (place + 1) xs ≡ range_with_len (place + 0 + 1) m = cc in
          let start : place + 0 + 1 ≡ suc place + 0 = omega arith in
          let here : place + 0 ≡ place = omega arith in
          let there : suc place + 0 ≡ suc place = omega arith in
          let more = rest 0 m (ap (λ (k : ℕ). places_from test k xs) next ∙ tail ∙ ap (λ (k : ℕ). range_with_len k m) start) in
          ap (λ (l : List B). make place x ∷ l) (more ∙ ap (λ (k : ℕ). made_from all_made k (take m xs)) there)
          ∙ sym (ap (λ (k : ℕ). made_from all_made k (x ∷ take m xs)) here)
      on false f zero is rest = rest 0 0 (ap (λ (k : ℕ). places_from test k xs) next ∙ is)
      on false zero (suc m) is rest =
          let late : place + 1 ≤ place + 0 = low test (place + 1) xs (place + 0) (range_with_len (place + 0 + 1) m) is in absurd (omega arith)
      on false (suc f) (suc m) is rest =
          let there : place + suc f ≡ suc place + f = omega arith in
          rest f (suc m) (ap (λ (k : ℕ). places_from test k xs) next ∙ is ∙ ap (λ (k : ℕ). range_with_len k (suc m)) there)
          ∙ ap (λ (k : ℕ). made_from all_made k (take (suc m) (drop f xs))) (sym there)

pub base_is : (rows : List BaseRow) (prefix : Cidr) (from n : ℕ) → places_from (λ row. same_prefix row.prefix prefix) 0 rows ≡ range_with_len from n
    → base_in prefix rows ≡ base_rows prefix from (take n (drop from rows))
base_is rows prefix from n places =
    let here : 0 + from ≡ from = omega arith in
    made_within (λ row. same_prefix row.prefix prefix) (base_row prefix) 0 rows from n (places ∙ ap (λ (k : ℕ). range_with_len k n) (sym here))
    ∙ ap (λ (k : ℕ). base_rows prefix k (take n (drop from rows))) here

-- ---- what BGP has of a prefix

abbrev discard_row : Cidr → ℕ → MainRow
discard_row prefix place = record { prefix = prefix; distance = LOCAL_DISTANCE; from = Discard place }

module _ (table : List (List BgpRowView)) (router : ℕ) (prefix : Cidr) where
  abbrev rows : List BgpRowView
  rows = slice_index_or table router []

  abbrev discard_by : ℕ → AggregateStatement → Option MainRow
  discard_by place a = cond (same_prefix a.prefix prefix && is_active table router a) (Some (discard_row prefix place)) None

  first_discard : (place : ℕ) (aggregates : List AggregateStatement) → first_of (made_from discard_by place aggregates) ≡ option_map (discard_row prefix) (active_from rows prefix place aggregates)
  first_discard place [] = refl
  first_discard place (a ∷ later) = on (same_prefix a.prefix prefix && is_active table router a) (first_discard (suc place) later)
    where
      next : suc place ≡ place + 1
      next = omega arith

      on : (b : Bool) → first_of (made_from discard_by (suc place) later) ≡ option_map (discard_row prefix) (active_from rows prefix (suc place) later)
          → first_of (option_map_or (λ y. y ∷ made_from discard_by (suc place) later) (cond b (Some (discard_row prefix place)) None) (made_from discard_by (suc place) later))
          ≡ option_map (discard_row prefix) (cond b (Some place) (active_from rows prefix (place + 1) later))
      on true rest = refl
      on false rest = rest ∙ ap (λ (k : ℕ). option_map (discard_row prefix) (active_from rows prefix k later)) next

  side_by : (chosen : List Chosen) (o : Option ℕ) → option_map_or (λ row. row ∷ []) (option_map (discard_row prefix) o) (learnt_rows prefix chosen) ≡ bgp_rows prefix o chosen
  side_by chosen None = refl
  side_by chosen (Some place) = refl

  pub bgp_is : (routers : List ConfigView) → bgp_side routers table router prefix
      ≡ bgp_rows prefix (active_from rows prefix 0 (option_map_or (λ p. p.aggregates) (process_of routers router) [])) (chosen_at table router prefix)
  bgp_is routers = on (process_of routers router)
    where
      on : (o : Option ProcessView) → option_map_or (λ row. row ∷ []) (first_of (option_map_or (λ p. made_from discard_by 0 p.aggregates) o [])) (learnt_rows prefix (chosen_at table router prefix))
          ≡ bgp_rows prefix (active_from rows prefix 0 (option_map_or (λ p. p.aggregates) o [])) (chosen_at table router prefix)
      on None = refl
      on (Some p) =
          ap (λ (o : Option MainRow). option_map_or (λ row. row ∷ []) o (learnt_rows prefix (chosen_at table router prefix))) (first_discard 0 p.aggregates)
          ∙ side_by (chosen_at table router prefix) (active_from rows prefix 0 p.aggregates)

-- no more are chosen of a prefix than are used at once
pub few_chosen : (rows : List BgpRowView) (prefix : Cidr) → All (λ row. length row.chosen ≤ MULTIPATH_LIMIT) rows → length (chosen_in rows prefix) ≤ MULTIPATH_LIMIT
few_chosen [] prefix few = omega arith
few_chosen (row ∷ rows) prefix few =
    on (same_prefix row.prefix prefix) (few_chosen rows prefix (All-tail (λ (r : BgpRowView). length r.chosen ≤ MULTIPATH_LIMIT) row rows few))
  where
    here : length row.chosen ≤ MULTIPATH_LIMIT
    here = All-head (λ (r : BgpRowView). length r.chosen ≤ MULTIPATH_LIMIT) row rows few

    on : (b : Bool) → length (chosen_in rows prefix) ≤ MULTIPATH_LIMIT
        → length (option_map_or (λ (r : BgpRowView). r.chosen) (cond b (Some row) (find (λ (r : BgpRowView). same_prefix r.prefix prefix) rows)) []) ≤ MULTIPATH_LIMIT
    on true rest = here
    on false rest = rest

-- ---- the prefix of each row

abbrev pub IsOf : Cidr → MainRow → Type 0
IsOf prefix row = row.prefix ≡ prefix

learnt_of : (prefix : Cidr) (chosen : List Chosen) (z : MainRow) → In z (learnt_rows prefix chosen) → IsOf prefix z
learnt_of prefix [] z i = absurd i
learnt_of prefix (best ∷ others) z i = on (is_learnt best.from) i
  where
    on : (b : Bool) → In z (cond b (map (learnt_row prefix (distance_of best)) (range_with_len 0 (length others + 1))) []) → IsOf prefix z
    on true j = let made = in_by_map (learnt_row prefix (distance_of best)) (range_with_len 0 (length others + 1)) z j in sym (ap (λ (row : MainRow). row.prefix) made.2)
    on false j = absurd j

bgp_of : (prefix : Cidr) (o : Option ℕ) (chosen : List Chosen) (z : MainRow) → In z (bgp_rows prefix o chosen) → IsOf prefix z
bgp_of prefix None chosen z i = learnt_of prefix chosen z i
bgp_of prefix (Some place) chosen z (inl same) = sym (ap (λ (row : MainRow). row.prefix) same)
bgp_of prefix (Some place) chosen z (inr i) = absurd i

abbrev pub base_by : Cidr → ℕ → BaseRow → Option MainRow
base_by prefix place row = cond (same_prefix row.prefix prefix) (Some (base_row prefix place row)) None

base_of : (prefix : Cidr) (place : ℕ) (rows : List BaseRow) (z : MainRow) → In z (made_from (base_by prefix) place rows) → IsOf prefix z
base_of prefix place [] z i = absurd i
base_of prefix place (row ∷ rows) z i = on (same_prefix row.prefix prefix) i (base_of prefix (suc place) rows z)
  where
    on : (b : Bool) → In z (option_map_or (λ y. y ∷ made_from (base_by prefix) (suc place) rows) (cond b (Some (base_row prefix place row)) None) (made_from (base_by prefix) (suc place) rows))
        → (In z (made_from (base_by prefix) (suc place) rows) → IsOf prefix z) → IsOf prefix z
    on true (inl same) rest = sym (ap (λ (r : MainRow). r.prefix) same)
    on true (inr j) rest = rest j
    on false j rest = rest j

-- each main row of a prefix has it
pub each_of : (routers : List ConfigView) (tables : List (List BaseRow)) (table : List (List BgpRowView)) (router : ℕ) (prefix : Cidr) (z : MainRow)
    → In z (main_rows_at routers tables table router prefix) → IsOf prefix z
each_of routers tables table router prefix z i =
    let place = active_from (slice_index_or table router []) prefix 0 (option_map_or (λ p. p.aggregates) (process_of routers router) []) in
    let base = base_side tables router prefix in
    let bgp = bgp_rows prefix place (chosen_at table router prefix) in
    on place (stands (first_distance base) (first_distance bgp)) (subst (λ (l : List MainRow). In z l) (ap (nearer base) (bgp_is table router prefix routers) ∙ nearer_is base bgp) i)
  where
    on : (place : Option ℕ) (b : Bool) → In z (cond b (base_side tables router prefix) (bgp_rows prefix place (chosen_at table router prefix))) → IsOf prefix z
    on place true j = base_of prefix 0 (slice_index_or tables router []) z j
    on place false j = bgp_of prefix place (chosen_at table router prefix) z j
