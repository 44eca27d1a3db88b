-- What is chosen of prefixes for which others stand, and the rows that come of it.
use Rattle.std.proofs.Common.{◌≡◌, ℕ, zero, suc, ◌+◌, ◌<◌, ◌≤◌, Bool, true, false, cond, ◌&&◌, ◌||◌, nat_lt, List, [], ◌∷◌, ◌++◌, length, map, filter, take, drop, get_or, All, Option, Some, None, slice_get, refl, sym, ap, subst, ◌∙◌, append_assoc, append-nil, arith, inl, inr}
use Rattle.std.specs.List.{find, AllWithin}
use Rattle.std.specs.Option.{option_map_or}
use Rattle.std.specs.declared.cmp.Ordering.TheVariants.{Less}
use Rattle.std.proofs.lemmas.Bool.{and_from, lt-ltb}
use Rattle.std.proofs.lemmas.List.{length-map, drop_all}
use Rattle.std.proofs.lemmas.List.Elements.{All-nil, All-cons, All-head, All-tail, filter-append}
use Rattle.std.proofs.lemmas.Option.{get_or_from_slice_get, slice_get-get_or, same_Some}
use Rattle.nc_types.specs.Cidr.{Cidr, IsCidr}
use Rattle.nc_types.specs.declared.TheConstants.{MULTIPATH_LIMIT}
use Rattle.nc_types.proofs.Members.{In, in_by_get, all_in, in_by_filter, passes_some}
use Rattle.nc_tables.specs.declared.bgp.Chosen.{Chosen}
use Rattle.nc_tables.specs.Base.{prefix_cmp, same_prefix}
use Rattle.nc_tables.specs.LocRibs.{row_before, rows_by, Ascend, AreChoices}
use Rattle.nc_tables.specs.Rounds.{BgpRowView, chosen_in, has_longer, is_longer_in, AreBgpRows}
use Rattle.nc_tables.specs.Spread.{with_prefix, chosen_or, choice_of, choices_of, spread_rows}
use Rattle.nc_tables.proofs.Choices.{all_by, at_number, joined, rows_valid}
use Rattle.nc_tables.proofs.ByPrefix.{pairs_head, pairs_tail}

-- ---- lists

-- lists of the same items at the same places
pub same_by_places : {A : Type 0} (xs ys : List A) → length xs ≡ length ys → ((k : ℕ) (x : A) → slice_get xs k ≡ Some x → slice_get ys k ≡ Some x) → xs ≡ ys
same_by_places [] [] count each = refl
same_by_places [] (y ∷ ys) count each = absurd (omega arith)
same_by_places (x ∷ xs) [] count each = absurd (omega arith)
same_by_places (x ∷ xs) (y ∷ ys) count each =
    ap (λ (z : _). z ∷ xs) (same_Some x y (sym (each zero x refl)))
    ∙ ap (λ (zs : List _). y ∷ zs) (same_by_places xs ys (omega arith) (λ k. each (suc k)))

filter_none : {A : Type 0} (p : A → Bool) (xs : List A) → All (λ x. p x ≡ false) xs → filter p xs ≡ []
filter_none p [] none = refl
filter_none p (x ∷ xs) none =
    ap (λ (b : Bool). cond b (x ∷ filter p xs) (filter p xs)) (All-head (λ y. p y ≡ false) x xs none)
    ∙ filter_none p xs (All-tail (λ y. p y ≡ false) x xs none)

filter_all : {A : Type 0} (p : A → Bool) (xs : List A) → All (λ x. p x ≡ true) xs → filter p xs ≡ xs
filter_all p [] each = refl
filter_all p (x ∷ xs) each =
    ap (λ (b : Bool). cond b (x ∷ filter p xs) (filter p xs)) (All-head (λ y. p y ≡ true) x xs each)
    ∙ ap (λ (ys : List _). x ∷ ys) (filter_all p xs (All-tail (λ y. p y ≡ true) x xs each))

-- what is found is an item
found_is_in : {A : Type 0} (test : A → Bool) (xs : List A) (x : A) → find test xs ≡ Some x → In x xs
found_is_in test [] x e = absurd cc
found_is_in test (y ∷ ys) x e = on (test y) e (found_is_in test ys x)
  where
    on : (b : Bool) → cond b (Some y) (find test ys) ≡ Some x → (find test ys ≡ Some x → In x ys) → In x (y ∷ ys)
    on true is later = inl (same_Some y x is)
    on false is later = inr (later is)

pub few_at : (css : List (List Chosen)) (k : ℕ) → All (λ cs. length cs ≤ MULTIPATH_LIMIT) css → length (get_or css k []) ≤ MULTIPATH_LIMIT
few_at [] k few = omega arith
few_at (cs ∷ css) zero few = All-head (λ (l : List Chosen). length l ≤ MULTIPATH_LIMIT) cs css few
few_at (cs ∷ css) (suc k) few = few_at css k (All-tail (λ (l : List Chosen). length l ≤ MULTIPATH_LIMIT) cs css few)

-- ---- what is chosen of each prefix

module _ (own : List BgpRowView) (standing : List (List Chosen)) where
  pub count_of : (ps : List Cidr) (ks : List ℕ) → length ks ≡ length ps → length (choices_of own standing ps ks) ≡ length ps
  count_of [] ks count = refl
  count_of (p ∷ ps) [] count = absurd (omega arith)
  count_of (p ∷ ps) (k ∷ ks) count = let rest = count_of ps ks (omega arith) in omega arith

  pub item_of : (ps : List Cidr) (ks : List ℕ) (i : ℕ) (p : Cidr) (k : ℕ) → slice_get ps i ≡ Some p → slice_get ks i ≡ Some k → slice_get (choices_of own standing ps ks) i ≡ Some (choice_of own standing p k)
  item_of [] ks i p k at there = absurd cc
  item_of (q ∷ ps) [] i p k at there = absurd cc
  item_of (q ∷ ps) (j ∷ ks) zero p k at there = ap Some (ap (λ (r : Cidr). choice_of own standing r j) (same_Some q p at) ∙ ap (choice_of own standing p) (same_Some j k there))
  item_of (q ∷ ps) (j ∷ ks) (suc i) p k at there = item_of ps ks i p k at there

  -- and of the one at a place
  pub choice_at : (ps : List Cidr) (ks : List ℕ) (i : ℕ) (p : Cidr) (k : ℕ) → slice_get ps i ≡ Some p → slice_get ks i ≡ Some k → get_or (choices_of own standing ps ks) i [] ≡ choice_of own standing p k
  choice_at ps ks i p k at there = get_or_from_slice_get (choices_of own standing ps ks) i (choice_of own standing p k) [] (item_of ps ks i p k at there)

  few_or : AreBgpRows own → (p : Cidr) (others : List Chosen) → length others ≤ MULTIPATH_LIMIT → length (chosen_or own p others) ≤ MULTIPATH_LIMIT
  few_or are p others few = on (find (λ row. same_prefix row.prefix p) own) refl
    where
      on : (o : Option BgpRowView) → find (λ row. same_prefix row.prefix p) own ≡ o → length (option_map_or (λ (row : BgpRowView). row.chosen) o others) ≤ MULTIPATH_LIMIT
      on None e = few
      on (Some row) e = all_in (λ (r : BgpRowView). length r.chosen ≤ MULTIPATH_LIMIT) own are.few row (found_is_in (λ r. same_prefix r.prefix p) own row e)

  own_of : (p : Cidr) (xs : List Chosen) → All (λ x. x.route.prefix ≡ p) (map (with_prefix p) xs)
  own_of p [] = All-nil (λ x. x.route.prefix ≡ p)
  own_of p (x ∷ xs) = All-cons (λ (y : Chosen). y.route.prefix ≡ p) (with_prefix p x) (map (with_prefix p) xs) refl (own_of p xs)

  pub few_choices : AreBgpRows own → All (λ cs. length cs ≤ MULTIPATH_LIMIT) standing → (ps : List Cidr) (ks : List ℕ) → All (λ cs. length cs ≤ MULTIPATH_LIMIT) (choices_of own standing ps ks)
  few_choices are few [] ks = All-nil (λ (l : List Chosen). length l ≤ MULTIPATH_LIMIT)
  few_choices are few (p ∷ ps) [] = All-nil (λ (l : List Chosen). length l ≤ MULTIPATH_LIMIT)
  few_choices are few (p ∷ ps) (k ∷ ks) =
      let held = chosen_or own p (get_or standing k []) in
      let most : length held ≤ MULTIPATH_LIMIT = few_or are p (get_or standing k []) (few_at standing k few) in
      let same : length (map (with_prefix p) held) ≡ length held = length-map held (with_prefix p) in
      let here : length (choice_of own standing p k) ≤ MULTIPATH_LIMIT = omega (arith, most, same) in
      All-cons (λ (l : List Chosen). length l ≤ MULTIPATH_LIMIT) (choice_of own standing p k) (choices_of own standing ps ks) here (few_choices are few ps ks)

  own_choices : (ps : List Cidr) (ks : List ℕ) (i : ℕ) (p : Cidr) (cs : List Chosen) → slice_get ps i ≡ Some p → slice_get (choices_of own standing ps ks) i ≡ Some cs → All (λ x. x.route.prefix ≡ p) cs
  own_choices [] ks i p cs at there = absurd cc
  own_choices (q ∷ ps) [] i p cs at there = absurd cc
  own_choices (q ∷ ps) (k ∷ ks) zero p cs at there =
      subst (λ (l : List Chosen). All (λ x. x.route.prefix ≡ p) l) (same_Some (choice_of own standing q k) cs there)
      (subst (λ (r : Cidr). All (λ x. x.route.prefix ≡ r) (choice_of own standing q k)) (same_Some q p at) (own_of q (chosen_or own q (get_or standing k []))))
  own_choices (q ∷ ps) (k ∷ ks) (suc i) p cs at there = own_choices ps ks i p cs at there

  pub are_choices : (ps : List Cidr) (ks : List ℕ) → AreBgpRows own → All (λ cs. length cs ≤ MULTIPATH_LIMIT) standing → length ks ≡ length ps → AreChoices ps (choices_of own standing ps ks)
  are_choices ps ks are few count = record { count = count_of ps ks count; few = few_choices are few ps ks; own = own_choices ps ks }

  pub rows_are : (ps : List Cidr) (ks : List ℕ) → Ascend ps → All (λ p. IsCidr p.base p.len) ps → length ks ≡ length ps → AreBgpRows own → All (λ cs. length cs ≤ MULTIPATH_LIMIT) standing → AreBgpRows (spread_rows own standing ps ks)
  rows_are ps ks up valid count are few = rows_valid ps (choices_of own standing ps ks) up (are_choices ps ks are few count) valid

  -- what is chosen of a prefix, by its number
  pub chosen_by_number : (ps : List Cidr) (ks : List ℕ) (i : ℕ) (p : Cidr) (k : ℕ) → Ascend ps → length ks ≡ length ps → slice_get ps i ≡ Some p → slice_get ks i ≡ Some k → chosen_in (spread_rows own standing ps ks) p ≡ choice_of own standing p k
  chosen_by_number ps ks i p k up count at there = at_number ps (choices_of own standing ps ks) i p up (count_of ps ks count) at ∙ choice_at ps ks i p k at there

  -- ---- parts

  parted_rows : (ps : List Cidr) (ks : List ℕ) (n : ℕ) → spread_rows own standing ps ks ≡ spread_rows own standing (take n ps) (take n ks) ++ spread_rows own standing (drop n ps) (drop n ks)
  parted_rows ps ks zero = refl
  parted_rows [] ks (suc n) = refl
  parted_rows (p ∷ ps) [] (suc n) = sym (none (drop n ps))
    where
      none : (qs : List Cidr) → spread_rows own standing qs [] ≡ []
      none [] = refl
      none (q ∷ qs) = refl
  parted_rows (p ∷ ps) (k ∷ ks) (suc n) =
      let cs = choice_of own standing p k in
      let front = spread_rows own standing (take n ps) (take n ks) in
      let back = spread_rows own standing (drop n ps) (drop n ks) in
      joined p cs (spread_rows own standing ps ks)
      ∙ ap (λ (rows : List BgpRowView). row_before p cs [] ++ rows) (parted_rows ps ks n)
      ∙ sym (append_assoc (row_before p cs []) front back)
      ∙ ap (λ (rows : List BgpRowView). rows ++ back) (sym (joined p cs front))

  pub in_parts : (ps : List Cidr) (ks : List ℕ) (n : ℕ) → spread_rows own standing ps ks ≡ spread_rows own standing (take n ps) (take n ks) ++ spread_rows own standing (drop n ps) (drop n ks)
  in_parts = parted_rows

  -- what holds of the prefixes holds of those of the rows
  pub rows_have : (P : Cidr → Type 0) (ps : List Cidr) (ks : List ℕ) → All P ps → All (λ row. P row.prefix) (spread_rows own standing ps ks)
  rows_have P ps ks each = all_by (λ row. P row.prefix) ps (choices_of own standing ps ks) (λ k p cs at there some. all_in P ps each p (in_by_get ps k p at))

  -- ---- longer prefixes inside another

  module _ (ps : List Cidr) (ks : List ℕ) (outer : Cidr) (first count : ℕ) (before : All (λ p. is_longer_in p outer ≡ false) (take first ps)) (here : All (λ p. is_longer_in p outer ≡ true) (take count (drop first ps)))
      (after : All (λ p. is_longer_in p outer ≡ false) (drop count (drop first ps))) where
    abbrev passes : BgpRowView → Bool
    passes row = is_longer_in row.prefix outer

    pub rows_inside : spread_rows own standing (take count (drop first ps)) (take count (drop first ks)) ≡ filter passes (spread_rows own standing ps ks)
    rows_inside =
        let part = spread_rows own standing in
        let front = part (take first ps) (take first ks) in
        let inner = part (take count (drop first ps)) (take count (drop first ks)) in
        let back = part (drop count (drop first ps)) (drop count (drop first ks)) in
        let all : part ps ks ≡ front ++ (inner ++ back) = in_parts ps ks first ∙ ap (λ (rows : List BgpRowView). front ++ rows) (in_parts (drop first ps) (drop first ks) count) in
        sym (ap (filter passes) all
        ∙ filter-append passes front (inner ++ back)
        ∙ ap (λ (rows : List BgpRowView). rows ++ filter passes (inner ++ back)) (filter_none passes front (rows_have (λ p. is_longer_in p outer ≡ false) (take first ps) (take first ks) before))
        ∙ filter-append passes inner back
        ∙ ap (λ (rows : List BgpRowView). filter passes inner ++ rows) (filter_none passes back (rows_have (λ p. is_longer_in p outer ≡ false) (drop count (drop first ps)) (drop count (drop first ks)) after))
        ∙ append-nil (filter passes inner)
        ∙ filter_all passes inner (rows_have (λ p. is_longer_in p outer ≡ true) (take count (drop first ps)) (take count (drop first ks)) here))

-- ---- whether there is a row of a longer prefix

module _ (rows : List BgpRowView) (outer : Cidr) where
  abbrev inside : BgpRowView → Bool
  inside row = is_longer_in row.prefix outer

  abbrev counts : BgpRowView → Bool
  counts row = is_longer_in row.prefix outer && nat_lt 0 (length row.chosen)

  pub longer_there : (x : BgpRowView) (rest : List BgpRowView) → All (λ row. 0 < length row.chosen) rows → filter inside rows ≡ x ∷ rest → has_longer rows outer ≡ true
  longer_there x rest some is =
      let in_it : In x (filter inside rows) = subst (λ (l : List BgpRowView). In x l) (sym is) (inl refl) in
      let parts = in_by_filter inside rows x in_it in
      let has : 0 < length x.chosen = all_in (λ (row : BgpRowView). 0 < length row.chosen) rows some x parts.0 in
      passes_some counts rows x parts.0 (and_from (is_longer_in x.prefix outer) (nat_lt 0 (length x.chosen)) parts.1 (lt-ltb 0 (length x.chosen) has))

pub longer_nowhere : (rows : List BgpRowView) (outer : Cidr) → filter (λ row. is_longer_in row.prefix outer) rows ≡ [] → has_longer rows outer ≡ false
longer_nowhere [] outer none = refl
longer_nowhere (row ∷ rows) outer none = on (is_longer_in row.prefix outer) none (longer_nowhere rows outer)
  where
    test : BgpRowView → Bool
    test r = is_longer_in r.prefix outer

    on : (b : Bool) → cond b (row ∷ filter test rows) (filter test rows) ≡ [] → (filter test rows ≡ [] → has_longer rows outer ≡ false) → ((b && nat_lt 0 (length row.chosen)) || has_longer rows outer) ≡ false
    on true e rest = absurd cc
    on false e rest = rest e

-- ---- parts of a list in order

pub within_first : {A : Type 0} (P : A → Type 0) (xs : List A) (n : ℕ) → n ≤ length xs → AllWithin P xs 0 n → All P (take n xs)
within_first P xs zero le each = All-nil P
within_first P [] (suc n) le each = All-nil P
within_first P (x ∷ xs) (suc n) le each =
    All-cons P x (take n xs) (each 0 x (omega arith) (omega arith)) (within_first P xs n (omega arith) (λ k d lo hi. each (suc k) d (omega arith) (omega arith)))

pub within_last : {A : Type 0} (P : A → Type 0) (xs : List A) (n : ℕ) → AllWithin P xs n (length xs) → All P (drop n xs)
within_last P xs zero each = λ k d lt. each k d (omega arith) lt
within_last P [] (suc n) each = All-nil P
within_last P (x ∷ xs) (suc n) each = within_last P xs n (λ k d lo hi. each (suc k) d (omega arith) (omega arith))

abbrev IsAbove : Cidr → Cidr → Type 0
IsAbove p q = prefix_cmp p q ≡ Less

abbrev pub AreBelow : Cidr → List Cidr → Type 0
AreBelow q ps = All (λ p. prefix_cmp p q ≡ Less) ps

-- those before and behind one
pub before_one : (ps : List Cidr) (n : ℕ) (q : Cidr) → Ascend ps → slice_get ps n ≡ Some q → AreBelow q (take n ps)
before_one [] n q up at = absurd cc
before_one (p ∷ ps) zero q up at = All-nil (λ (r : Cidr). prefix_cmp r q ≡ Less)
before_one (p ∷ ps) (suc n) q up at =
    All-cons (λ (r : Cidr). prefix_cmp r q ≡ Less) p (take n ps) (all_in (IsAbove p) ps (pairs_head IsAbove p ps up) q (in_by_get ps n q at)) (before_one ps n q (pairs_tail IsAbove p ps up) at)

pub behind_one : (ps : List Cidr) (n : ℕ) (q : Cidr) → Ascend ps → slice_get ps n ≡ Some q → All (IsAbove q) (drop (n + 1) ps)
behind_one [] n q up at = absurd cc
behind_one (p ∷ ps) zero q up at = subst (λ (r : Cidr). All (IsAbove r) ps) (same_Some p q at) (pairs_head IsAbove p ps up)
behind_one (p ∷ ps) (suc n) q up at =
    let same : suc n + 1 ≡ suc (n + 1) = omega arith in
    subst (λ (k : ℕ). All (IsAbove q) (drop k (p ∷ ps))) (sym same) (behind_one ps n q (pairs_tail IsAbove p ps up) at)

-- ---- what is read of one

module _ (own : List BgpRowView) (standing : List (List Chosen)) (ps : List Cidr) (ks : List ℕ) where
  pub choice_read : (i : ℕ) (d : Cidr) (e : ℕ) (held : List Chosen) → length ks ≡ length ps → i < length ps → held ≡ chosen_or own (get_or ps i d) (get_or standing (get_or ks i e) []) → map (with_prefix (get_or ps i d)) held ≡ get_or (choices_of own standing ps ks) i []
  choice_read i d e held count lt is =
      let there : i < length ks = omega arith in
      ap (map (with_prefix (get_or ps i d))) is ∙ sym (choice_at own standing ps ks i (get_or ps i d) (get_or ks i e) (slice_get-get_or ps i d lt) (slice_get-get_or ks i e there))

  -- behind the last there is no row
  pub none_left : (n : ℕ) → length ps ≤ n → spread_rows own standing (drop n ps) (drop n ks) ≡ []
  none_left n le = ap (λ (qs : List Cidr). spread_rows own standing qs (drop n ks)) (drop_all n ps le)

  pub most_rows : length ks ≡ length ps → length (spread_rows own standing ps ks) ≤ length ps
  most_rows count = on ps (choices_of own standing ps ks)
    where
      before : (p : Cidr) (cs : List Chosen) (rows : List BgpRowView) → length (row_before p cs rows) ≤ length rows + 1
      before p [] rows = omega arith
      before p (c ∷ cs) rows = omega arith

      on : (qs : List Cidr) (css : List (List Chosen)) → length (rows_by qs css) ≤ length qs
      on [] css = omega arith
      on (q ∷ qs) [] = omega arith
      on (q ∷ qs) (cs ∷ css) = let here = before q cs (rows_by qs css) in let rest = on qs css in omega arith

pub none_of : {A : Type 0} (xs : List A) → length xs ≡ 0 → xs ≡ []
none_of [] e = refl
none_of (x ∷ xs) e = absurd (omega arith)
