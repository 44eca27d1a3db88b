-- Rows of BGP in order: in two lists of them the same is found exactly where they are the same, and one before others keeps them in order.
use Rattle.std.proofs.Common.{◌≡◌, ◌<◌, Bool, true, false, cond, List, [], ◌∷◌, length, get_or, All, Some, Option, refl, sym, ap, subst, ◌∙◌, arith}
use Rattle.std.specs.List.{AllPairs, find}
use Rattle.std.specs.Option.{option_map_or}
use Rattle.std.specs.Ordering.{ordering_reverse, is_eq}
use Rattle.std.specs.declared.cmp.Ordering.{Ordering}
use Rattle.std.specs.declared.cmp.Ordering.TheVariants.{Less, Equal, Greater}
use Rattle.std.proofs.lemmas.List.Elements.{All-nil, All-cons, All-head, All-tail}
use Rattle.nc_types.specs.Cidr.{Cidr}
use Rattle.nc_types.proofs.Sameness.{same_prefix_is}
use Rattle.nc_tables.specs.declared.bgp.Chosen.{Chosen}
use Rattle.nc_tables.specs.Base.{prefix_cmp, same_prefix}
use Rattle.nc_tables.specs.Rounds.{BgpRowView, chosen_in}
use Rattle.nc_tables.specs.LocRibs.{row_before}
use Rattle.nc_tables.proofs.SideBySide.{prefix_total, same_by_cmp}
use Rattle.nc_tables.proofs.ByPrefix.{same_itself, less_differs_back, pairs_cons, pairs_head, pairs_tail}
use Rattle.nc_tables.proofs.Finding.{found_none}

abbrev pub IsBelow : BgpRowView → BgpRowView → Type 0
IsBelow a b = prefix_cmp a.prefix b.prefix ≡ Less

-- strictly in order of prefix
abbrev pub Up : List BgpRowView → Type 0
Up rows = AllPairs IsBelow rows

-- each with a candidate
abbrev pub HaveSome : List BgpRowView → Type 0
HaveSome rows = All (λ row. 0 < length row.chosen) rows

-- behind a prefix
abbrev pub AreAbove : Cidr → List BgpRowView → Type 0
AreAbove p rows = All (λ row. prefix_cmp p row.prefix ≡ Less) rows

-- ---- what is found

abbrev found : Option BgpRowView → List Chosen
found o = option_map_or (λ (row : BgpRowView). row.chosen) o []

pub at_head : (row : BgpRowView) (rows : List BgpRowView) (p : Cidr) → same_prefix row.prefix p ≡ true → chosen_in (row ∷ rows) p ≡ row.chosen
at_head row rows p same = ap (λ (b : Bool). found (cond b (Some row) (find (λ (r : BgpRowView). same_prefix r.prefix p) rows))) same

pub past_head : (row : BgpRowView) (rows : List BgpRowView) (p : Cidr) → same_prefix row.prefix p ≡ false → chosen_in (row ∷ rows) p ≡ chosen_in rows p
past_head row rows p other = ap (λ (b : Bool). found (cond b (Some row) (find (λ (r : BgpRowView). same_prefix r.prefix p) rows))) other

pub none_above : (p : Cidr) (rows : List BgpRowView) → AreAbove p rows → chosen_in rows p ≡ []
none_above p rows above = ap found (found_none (λ (row : BgpRowView). same_prefix row.prefix p) rows (λ k d lt. less_differs_back p (get_or rows k d).prefix (above k d lt)))

all_above : (p q : Cidr) (rows : List BgpRowView) → prefix_cmp p q ≡ Less → AreAbove q rows → AreAbove p rows
all_above p q rows less above k d lt = prefix_total.trans p q (get_or rows k d).prefix less (above k d lt)

-- rows behind a first one
behind : (row : BgpRowView) (rows : List BgpRowView) → Up (row ∷ rows) → AreAbove row.prefix rows
behind row rows up = pairs_head IsBelow row rows up

-- rows from one on that is behind a prefix
from_one : (p : Cidr) (row : BgpRowView) (rows : List BgpRowView) → prefix_cmp p row.prefix ≡ Less → Up (row ∷ rows) → AreAbove p (row ∷ rows)
from_one p row rows less up = All-cons (λ (r : BgpRowView). prefix_cmp p r.prefix ≡ Less) row rows less (all_above p row.prefix rows less (behind row rows up))

pub equal_is : (p q : Cidr) → prefix_cmp p q ≡ Equal → p ≡ q
equal_is p q e = same_prefix_is p q (same_by_cmp p q ∙ ap is_eq e)

pub back : (p q : Cidr) (o : Ordering) → prefix_cmp p q ≡ o → prefix_cmp q p ≡ ordering_reverse o
back p q o e = prefix_total.antisymm q p ∙ ap ordering_reverse e

-- ---- the same is found

none_is_some : (xs : List Chosen) → xs ≡ [] → 0 < length xs → ⊥
none_is_some xs e some = let none : length xs ≡ 0 = ap length e in absurd (omega arith)

-- the first row of one list isn't before all of another
not_before : (x : BgpRowView) (xs ys : List BgpRowView) → 0 < length x.chosen → AreAbove x.prefix ys → chosen_in (x ∷ xs) x.prefix ≡ chosen_in ys x.prefix → ⊥
not_before x xs ys some above same = none_is_some x.chosen (sym (at_head x xs x.prefix (same_itself x.prefix)) ∙ same ∙ none_above x.prefix ys above) some

pub same_rows : (xs ys : List BgpRowView) → Up xs → Up ys → HaveSome xs → HaveSome ys → ((p : Cidr) → chosen_in xs p ≡ chosen_in ys p) → xs ≡ ys
same_rows [] [] up_x up_y some_x some_y same = refl
same_rows [] (y ∷ ys) up_x up_y some_x some_y same = absurd (not_before y ys [] (All-head (λ (row : BgpRowView). 0 < length row.chosen) y ys some_y) (All-nil (λ (row : BgpRowView). prefix_cmp y.prefix row.prefix ≡ Less)) (sym (same y.prefix)))
same_rows (x ∷ xs) [] up_x up_y some_x some_y same = absurd (not_before x xs [] (All-head (λ (row : BgpRowView). 0 < length row.chosen) x xs some_x) (All-nil (λ (row : BgpRowView). prefix_cmp x.prefix row.prefix ≡ Less)) (same x.prefix))
same_rows (x ∷ xs) (y ∷ ys) up_x up_y some_x some_y same =
    on (prefix_cmp x.prefix y.prefix) refl
    (same_rows xs ys (pairs_tail IsBelow x xs up_x) (pairs_tail IsBelow y ys up_y) (All-tail (λ (row : BgpRowView). 0 < length row.chosen) x xs some_x) (All-tail (λ (row : BgpRowView). 0 < length row.chosen) y ys some_y))
  where
    first : x.prefix ≡ y.prefix → x ≡ y
    first e =
        let at_x = at_head x xs x.prefix (same_itself x.prefix) in
        let at_y = at_head y ys x.prefix (ap (λ (p : Cidr). same_prefix p x.prefix) (sym e) ∙ same_itself x.prefix) in
        let chosen : x.chosen ≡ y.chosen = sym at_x ∙ same x.prefix ∙ at_y in
        ap (λ (p : Cidr). record { prefix = p; chosen = x.chosen }) e ∙ ap (λ (cs : List Chosen). record { prefix = y.prefix; chosen = cs }) chosen

    others : x.prefix ≡ y.prefix → (p : Cidr) → chosen_in xs p ≡ chosen_in ys p
    others e p = by_test (same_prefix x.prefix p) refl
      where
        by_test : (b : Bool) → same_prefix x.prefix p ≡ b → chosen_in xs p ≡ chosen_in ys p
        by_test true here =
            let is : x.prefix ≡ p = same_prefix_is x.prefix p here in
            none_above p xs (subst (λ (q : Cidr). AreAbove q xs) is (behind x xs up_x)) ∙ sym (none_above p ys (subst (λ (q : Cidr). AreAbove q ys) (sym e ∙ is) (behind y ys up_y)))
        by_test false other =
            sym (past_head x xs p other) ∙ same p ∙ past_head y ys p (ap (λ (q : Cidr). same_prefix q p) (sym e) ∙ other)

    on : (o : Ordering) → prefix_cmp x.prefix y.prefix ≡ o → (((p : Cidr) → chosen_in xs p ≡ chosen_in ys p) → xs ≡ ys) → x ∷ xs ≡ y ∷ ys
    on Less e rest = absurd (not_before x xs (y ∷ ys) (All-head (λ (row : BgpRowView). 0 < length row.chosen) x xs some_x) (from_one x.prefix y ys e up_y) (same x.prefix))
    on Equal e rest = let is = equal_is x.prefix y.prefix e in ap (λ (r : BgpRowView). r ∷ xs) (first is) ∙ ap (λ (rs : List BgpRowView). y ∷ rs) (rest (others is))
    on Greater e rest = absurd (not_before y ys (x ∷ xs) (All-head (λ (row : BgpRowView). 0 < length row.chosen) y ys some_y) (from_one y.prefix x xs (back x.prefix y.prefix Greater e) up_x) (sym (same y.prefix)))

-- ---- what is found with one row more

module _ (p : Cidr) (cs : List Chosen) where
  pub found_before : (rows : List BgpRowView) (q : Cidr) → (same_prefix p q ≡ true → chosen_in rows q ≡ []) → chosen_in (row_before p cs rows) q ≡ cond (same_prefix p q) cs (chosen_in rows q)
  found_before rows q none = on cs (same_prefix p q) refl
    where
      on : (l : List Chosen) (b : Bool) → same_prefix p q ≡ b → chosen_in (row_before p l rows) q ≡ cond b l (chosen_in rows q)
      on [] true e = none e
      on [] false e = refl
      on (x ∷ xs) true e = at_head (record { prefix = p; chosen = x ∷ xs }) rows q e
      on (x ∷ xs) false e = past_head (record { prefix = p; chosen = x ∷ xs }) rows q e

  -- ---- rows are kept in order

  module _ (P : BgpRowView → Type 0) (own : 0 < length cs → P (record { prefix = p; chosen = cs })) where
    pub all_before : (rows : List BgpRowView) → All P rows → All P (row_before p cs rows)
    all_before rows each = on cs own
      where
        on : (l : List Chosen) → (0 < length l → P (record { prefix = p; chosen = l })) → All P (row_before p l rows)
        on [] here = each
        on (x ∷ xs) here = All-cons P (record { prefix = p; chosen = x ∷ xs }) rows (here (omega arith)) each

  pub up_before : (rows : List BgpRowView) → AreAbove p rows → Up rows → Up (row_before p cs rows)
  up_before rows above up = on cs
    where
      on : (l : List Chosen) → Up (row_before p l rows)
      on [] = up
      on (x ∷ xs) = pairs_cons IsBelow (record { prefix = p; chosen = x ∷ xs }) rows above up
