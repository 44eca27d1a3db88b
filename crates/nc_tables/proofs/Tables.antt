-- The tables of all routers, by what each chooses of the prefixes that stand for others.
use Rattle.std.proofs.Common.{◌≡◌, ℕ, zero, suc, ◌<◌, ◌≤◌, List, Vec, Global, [], ◌∷◌, length, map, get_or, replicate, All, Some, slice_get, refl, sym, ap, subst, ◌∙◌, arith}
use Rattle.std.proofs.lemmas.List.Elements.{All-nil, All-cons, All-head, All-tail}
use Rattle.std.proofs.lemmas.Option.{get_or_from_slice_get, slice_get-get_or, slice_get_within}
use Rattle.nc_types.specs.Cidr.{Cidr, IsCidr}
use Rattle.nc_types.specs.declared.TheConstants.{MULTIPATH_LIMIT}
use Rattle.nc_tables.specs.declared.bgp.BgpRow.{BgpRow}
use Rattle.nc_tables.specs.declared.bgp.Chosen.{Chosen}
use Rattle.nc_tables.specs.declared.routes.Choices.{Choices}
use Rattle.nc_tables.specs.LocRibs.{rows_by, Ascend, AreChoices}
use Rattle.nc_tables.specs.Rounds.{BgpRowView, bgp_row_view, chosen_at, AreBgpRows}
use Rattle.nc_tables.specs.Spread.{with_prefix, choices_of, spread_rows}
use Rattle.nc_tables.specs.SpreadView.{rows_by_places, AreKept}
use Rattle.nc_tables.proofs.Choices.{at_number, none_by}
use Rattle.nc_tables.proofs.Spread.{count_of, item_of, same_by_places}

-- ---- views of the parts

abbrev pub own_rows : Vec BgpRow Global → List BgpRowView
own_rows rows = map bgp_row_view rows.items

abbrev pub own_kept : Choices → List BgpRowView
own_kept c = map bgp_row_view c.own.items

abbrev pub standing_kept : Choices → List (List Chosen)
standing_kept c = c.standing.items

abbrev pub items_of : Vec (List Chosen) Global → List (List Chosen)
items_of t = t.items

-- ---- nothing stands

none_spread : (ps : List Cidr) (ks : List ℕ) → spread_rows [] [] ps ks ≡ []
none_spread ps ks = none_by ps (choices_of [] [] ps ks) (each ps ks)
  where
    each : (qs : List Cidr) (js : List ℕ) → All (λ cs. cs ≡ []) (choices_of [] [] qs js)
    each [] js = All-nil (λ (cs : List Chosen). cs ≡ [])
    each (q ∷ qs) [] = All-nil (λ (cs : List Chosen). cs ≡ [])
    each (q ∷ qs) (j ∷ js) = All-cons (λ (cs : List Chosen). cs ≡ []) [] (choices_of [] [] qs js) refl (each qs js)

rows_of_none : (ps : List Cidr) → rows_by ps [] ≡ []
rows_of_none [] = refl
rows_of_none (p ∷ ps) = refl

-- ---- the rows of one router

module _ (ps : List Cidr) (ks : List ℕ) where
  pub router_rows : (all : List Choices) (router : ℕ) → get_or (map (rows_by_places ps ks) all) router [] ≡ spread_rows (get_or (map own_kept all) router []) (get_or (map standing_kept all) router []) ps ks
  router_rows [] router = sym (none_spread ps ks)
  router_rows (c ∷ all) zero = refl
  router_rows (c ∷ all) (suc router) = router_rows all router

-- what it chooses of a prefix that stands for others
module _ (ps : List Cidr) where
  abbrev seen : Vec (List Chosen) Global → List BgpRowView
  seen t = rows_by ps t.items

  pub standing_rows : (tables : List (Vec (List Chosen) Global)) (router : ℕ) → get_or (map seen tables) router [] ≡ rows_by ps (get_or (map items_of tables) router [])
  standing_rows [] router = sym (rows_of_none ps)
  standing_rows (t ∷ ts) zero = refl
  standing_rows (t ∷ ts) (suc router) = standing_rows ts router

  pub standing_chosen : (tables : List (Vec (List Chosen) Global)) (router place : ℕ) (p : Cidr) → Ascend ps → All (λ t. AreChoices ps t.items) tables → slice_get ps place ≡ Some p
      → chosen_at (map seen tables) router p ≡ get_or (get_or (map items_of tables) router []) place []
  standing_chosen [] router place p up each at = refl
  standing_chosen (t ∷ ts) zero place p up each at = at_number ps t.items place p up (All-head (λ (s : Vec (List Chosen) Global). AreChoices ps s.items) t ts each).count at
  standing_chosen (t ∷ ts) (suc router) place p up each at = standing_chosen ts router place p up (All-tail (λ (s : Vec (List Chosen) Global). AreChoices ps s.items) t ts each) at

-- ---- what is kept is as it was

module _ (places : List ℕ) (count : ℕ) (within : All (λ place. place < count) places) where
  pub all_kept : (all : List Choices) (tables : List (Vec (List Chosen) Global)) (own : List (Vec BgpRow Global)) (ps : List Cidr) → length ps ≡ count → map standing_kept all ≡ map items_of tables → map own_kept all ≡ map own_rows own
      → All (λ t. AreChoices ps t.items) tables → All (λ rows. AreBgpRows (own_rows rows)) own → All (AreKept places) all
  all_kept [] tables own ps size standing owned each rows = All-nil (AreKept places)
  all_kept (c ∷ all) [] own ps size standing owned each rows = absurd cc
  all_kept (c ∷ all) (t ∷ ts) [] ps size standing owned each rows = absurd cc
  all_kept (c ∷ all) (t ∷ ts) (o ∷ os) ps size standing owned each rows =
      let same : standing_kept c ≡ items_of t = cc in
      let same_own : own_kept c ≡ own_rows o = cc in
      let others : map standing_kept all ≡ map items_of ts = cc in
      let others_own : map own_kept all ≡ map own_rows os = cc in
      let are = All-head (λ (s : Vec (List Chosen) Global). AreChoices ps s.items) t ts each in
      All-cons (AreKept places) c all
      (record {
        own = subst AreBgpRows (sym same_own) (All-head (λ (r : Vec BgpRow Global). AreBgpRows (own_rows r)) o os rows);
        few = subst (All (λ cs. length cs ≤ MULTIPATH_LIMIT)) (sym same) are.few;
        within = λ k e less. let here : get_or places k e < count = within k e less in let size_is = ap (λ (l : List (List Chosen)). length l) same in omega (arith, here, size_is, are.count, size);
      })
      (all_kept all ts os ps size others others_own (All-tail (λ (s : Vec (List Chosen) Global). AreChoices ps s.items) t ts each) (All-tail (λ (r : Vec BgpRow Global). AreBgpRows (own_rows r)) o os rows))

-- no rows are rows
no_rows : AreBgpRows []
no_rows = record {
  ordered = λ i j d less lt. absurd (omega arith);
  valid = All-nil (λ row. IsCidr row.prefix.base row.prefix.len);
  some = All-nil (λ row. 0 < length row.chosen);
  few = All-nil (λ row. length row.chosen ≤ MULTIPATH_LIMIT);
  own = All-nil (λ row. All (λ x. x.route.prefix ≡ row.prefix) row.chosen);
}

pub none_own : (own : List (Vec BgpRow Global)) (n : ℕ) → map own_rows own ≡ replicate n [] → All (λ rows. AreBgpRows (own_rows rows)) own
none_own [] n none = All-nil (λ (r : Vec BgpRow Global). AreBgpRows (own_rows r))
none_own (o ∷ os) zero none = absurd cc
none_own (o ∷ os) (suc n) none =
    let first : own_rows o ≡ [] = cc in
    let others : map own_rows os ≡ replicate n [] = cc in
    All-cons (λ (r : Vec BgpRow Global). AreBgpRows (own_rows r)) o os (subst AreBgpRows (sym first) no_rows) (none_own os n others)

-- ---- where each prefix stands for itself

own_same : (p : Cidr) (cs : List Chosen) → All (λ x. x.route.prefix ≡ p) cs → map (with_prefix p) cs ≡ cs
own_same p [] own = refl
own_same p (x ∷ xs) own =
    ap (λ (q : Cidr). record x { route = record x.route { prefix = q } } ∷ map (with_prefix p) xs) (sym (All-head (λ (y : Chosen). y.route.prefix ≡ p) x xs own))
    ∙ ap (λ (ys : List Chosen). x ∷ ys) (own_same p xs (All-tail (λ (y : Chosen). y.route.prefix ≡ p) x xs own))

module _ (ps : List Cidr) (ks : List ℕ) (count : length ks ≡ length ps) (each : (k : ℕ) → k < length ps → slice_get ks k ≡ Some k) where
  pub themselves : (css : List (List Chosen)) → AreChoices ps css → choices_of [] css ps ks ≡ css
  themselves css are = sym (same_by_places css (choices_of [] css ps ks) (are.count ∙ sym (count_of [] css ps ks count)) at)
    where
      at : (k : ℕ) (cs : List Chosen) → slice_get css k ≡ Some cs → slice_get (choices_of [] css ps ks) k ≡ Some cs
      at k cs there =
          let lt : k < length ps = omega (arith, slice_get_within css k cs there, are.count) in
          let p = get_or ps k (record { base = 0; len = 0 }) in
          let here : slice_get ps k ≡ Some p = slice_get-get_or ps k (record { base = 0; len = 0 }) lt in
          item_of [] css ps ks k p k here (each k lt)
          ∙ ap (λ (l : List Chosen). Some (map (with_prefix p) l)) (get_or_from_slice_get css k cs [] there)
          ∙ ap Some (own_same p cs (are.own k p cs here there))

  pub tables_themselves : (all : List Choices) (tables : List (Vec (List Chosen) Global)) → map standing_kept all ≡ map items_of tables → map own_kept all ≡ replicate (length tables) [] → All (λ t. AreChoices ps t.items) tables
      → map (rows_by_places ps ks) all ≡ map (λ t. rows_by ps t.items) tables
  tables_themselves [] [] standing own each_are = refl
  tables_themselves [] (t ∷ ts) standing own each_are = absurd cc
  tables_themselves (c ∷ all) [] standing own each_are = absurd cc
  tables_themselves (c ∷ all) (t ∷ ts) standing own each_are =
      let same : standing_kept c ≡ items_of t = cc in
      let none : own_kept c ≡ [] = cc in
      let others : map standing_kept all ≡ map items_of ts = cc in
      let others_own : map own_kept all ≡ replicate (length ts) [] = cc in
      let are = All-head (λ (s : Vec (List Chosen) Global). AreChoices ps s.items) t ts each_are in
      ap (λ (rows : List BgpRowView). spread_rows rows (standing_kept c) ps ks ∷ map (rows_by_places ps ks) all) none
      ∙ ap (λ (css : List (List Chosen)). spread_rows [] css ps ks ∷ map (rows_by_places ps ks) all) same
      ∙ ap (λ (css : List (List Chosen)). rows_by ps css ∷ map (rows_by_places ps ks) all) (themselves t.items are)
      ∙ ap (λ (rows : List (List BgpRowView)). rows_by ps t.items ∷ rows) (tables_themselves all ts others others_own (All-tail (λ (s : Vec (List Chosen) Global). AreChoices ps s.items) t ts each_are))
