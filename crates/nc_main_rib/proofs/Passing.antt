-- The BGP rows of a router are passed prefix by prefix: what is known of those that are left.
use Rattle.std.proofs.Common.{◌≡◌, ◌⊎◌, ◌≤◌, ◌++◌, Bool, false, cond, List, [], ◌∷◌, length, All, append-nil, Option, Some, None, IfSome, refl, sym, ap, subst, ◌∙◌, inl, inr}
use Rattle.std.specs.List.{cons_option, find}
use Rattle.std.specs.Option.{option_map, option_map_or}
use Rattle.std.specs.declared.cmp.Ordering.TheVariants.{Less}
use Rattle.nc_types.specs.Cidr.{Cidr}
use Rattle.nc_types.specs.declared.TheConstants.{MULTIPATH_LIMIT}
use Rattle.nc_types.proofs.Members.{In, all_by_in, all_in, in_left, in_right}
use Rattle.nc_tables.specs.declared.router_rows.ChosenRow.{ChosenRow}
use Rattle.nc_tables.specs.Base.{prefix_cmp, same_prefix}
use Rattle.nc_tables.specs.Rounds.{BgpRowView, chosen_in, AreBgpRows}
use Rattle.nc_tables.specs.SpreadView.{row_view}
use Rattle.nc_tables.proofs.ByPrefix.{less_differs, less_differs_back, same_itself}
use Rattle.nc_tables.proofs.SideBySide.{prefix_total}
use Rattle.nc_base_rib.proofs.Members.{Ascends, Rises, rises_by_pairs}
use Rattle.nc_main_rib.specs.Sides.{chosen_of}

-- ---- parts of lists

module _ {X : Type 0} where
  in_option : (o : Option X) (xs : List X) (x : X) → In x xs → In x (cons_option o xs)
  in_option None xs x i = i
  in_option (Some y) xs x i = inr i

  module _ (before : X → X → Type 0) where
    rises_behind : (xs ys : List X) → Rises before (xs ++ ys) → Rises before ys
    rises_behind [] ys r = r
    rises_behind (x ∷ xs) ys r = rises_behind xs ys r.1

    rises_option : (o : Option X) (xs : List X) → Rises before (cons_option o xs) → Rises before xs
    rises_option None xs r = r
    rises_option (Some x) xs r = r.1

-- ---- rows in order

abbrev pub AreUp : List BgpRowView → Type 0
AreUp rows = Rises (λ (a b : BgpRowView). prefix_cmp a.prefix b.prefix ≡ Less) rows

pub rows_up : (rows : List BgpRowView) → AreBgpRows rows → AreUp rows
rows_up rows are = rises_by_pairs (λ (a b : BgpRowView). prefix_cmp a.prefix b.prefix ≡ Less) rows are.ordered

-- rows of lower prefixes, and of later ones
abbrev pub AreLower : List BgpRowView → Cidr → Type 0
AreLower rows p = (row : BgpRowView) → In row rows → prefix_cmp row.prefix p ≡ Less

abbrev pub AreLater : List BgpRowView → Cidr → Type 0
AreLater rows p = (row : BgpRowView) → In row rows → prefix_cmp p row.prefix ≡ Less

-- ---- what is chosen of a prefix

module _ (p : Cidr) where
  chosen_first : (row : BgpRowView) (rows : List BgpRowView) → row.prefix ≡ p → chosen_in (row ∷ rows) p ≡ row.chosen
  chosen_first row rows same =
      ap (λ (b : Bool). option_map_or (λ (r : BgpRowView). r.chosen) (cond b (Some row) (find (λ (r : BgpRowView). same_prefix r.prefix p) rows)) [])
      (ap (λ (q : Cidr). same_prefix q p) same ∙ same_itself p)

  chosen_next : (row : BgpRowView) (rows : List BgpRowView) → same_prefix row.prefix p ≡ false → chosen_in (row ∷ rows) p ≡ chosen_in rows p
  chosen_next row rows other =
      ap (λ (b : Bool). option_map_or (λ (r : BgpRowView). r.chosen) (cond b (Some row) (find (λ (r : BgpRowView). same_prefix r.prefix p) rows)) []) other

  -- the first rows have other prefixes
  chosen_behind : (rows left : List BgpRowView) → ((row : BgpRowView) → In row rows → same_prefix row.prefix p ≡ false) → chosen_in (rows ++ left) p ≡ chosen_in left p
  chosen_behind [] left other = refl
  chosen_behind (row ∷ rows) left other = chosen_next row (rows ++ left) (other row (inl refl)) ∙ chosen_behind rows left (λ r i. other r (inr i))

  -- all do
  chosen_none : (rows : List BgpRowView) → ((row : BgpRowView) → In row rows → same_prefix row.prefix p ≡ false) → chosen_in rows p ≡ []
  chosen_none rows other = ap (λ (l : List BgpRowView). chosen_in l p) (sym (append-nil rows)) ∙ chosen_behind rows [] other

-- what is chosen of the prefix of a row
pub chosen_is : (rows : List BgpRowView) → AreUp rows → (row : BgpRowView) → In row rows → chosen_in rows row.prefix ≡ row.chosen
chosen_is [] up row i = absurd i
chosen_is (x ∷ xs) up row (inl same) = subst (λ (r : BgpRowView). chosen_in (x ∷ xs) r.prefix ≡ r.chosen) same (chosen_first x.prefix x xs refl)
chosen_is (x ∷ xs) up row (inr i) = chosen_next row.prefix x xs (less_differs x.prefix row.prefix (up.0 row i)) ∙ chosen_is xs up.1 row i

-- ---- one prefix

-- what is passed at a prefix: the rows of lower prefixes, and its own if it has one
pub record Passes (rows lower : List BgpRowView) (own : Option ChosenRow) (left : List BgpRowView) (p : Cidr) : Type 0 where
  pub parts : rows ≡ lower ++ cons_option (option_map row_view own) left
  pub before : AreLower lower p
  pub same : IfSome own (λ row. row.prefix.now ≡ p)
  pub later : AreLater left p

pub passes_by : (rows lower : List BgpRowView) (own : Option ChosenRow) (left : List BgpRowView) (p : Cidr) → rows ≡ lower ++ cons_option (option_map row_view own) left
    → All (λ (row : BgpRowView). prefix_cmp row.prefix p ≡ Less) lower → IfSome own (λ row. row.prefix.now ≡ p) → All (λ (row : BgpRowView). prefix_cmp p row.prefix ≡ Less) left → Passes rows lower own left p
passes_by rows lower own left p parts before same later = record {
  parts = parts;
  before = all_in (λ (row : BgpRowView). prefix_cmp row.prefix p ≡ Less) lower before;
  same = same;
  later = all_in (λ (row : BgpRowView). prefix_cmp p row.prefix ≡ Less) left later;
}

module _ (rows lower : List BgpRowView) (own : Option ChosenRow) (left : List BgpRowView) (p : Cidr) (pass : Passes rows lower own left p) where
  abbrev behind : List BgpRowView
  behind = cons_option (option_map row_view own) left

  pub lower_in : (row : BgpRowView) → In row lower → In row rows
  lower_in row i = subst (λ (l : List BgpRowView). In row l) (sym pass.parts) (in_left lower behind row i)

  left_in : (row : BgpRowView) → In row left → In row rows
  left_in row i = subst (λ (l : List BgpRowView). In row l) (sym pass.parts) (in_right lower behind row (in_option (option_map row_view own) left row i))

  left_up : AreUp rows → AreUp left
  left_up up =
      let before = λ (a b : BgpRowView). prefix_cmp a.prefix b.prefix ≡ Less in
      rises_option before (option_map row_view own) left (rises_behind before lower behind (subst AreUp pass.parts up))

  -- what is chosen of the prefix is in its own row
  pub own_chosen : chosen_in rows p ≡ chosen_of own
  own_chosen =
      ap (λ (l : List BgpRowView). chosen_in l p) pass.parts
      ∙ chosen_behind p lower behind (λ row i. less_differs row.prefix p (pass.before row i))
      ∙ on own pass.same
    where
      on : (o : Option ChosenRow) → IfSome o (λ row. row.prefix.now ≡ p) → chosen_in (cons_option (option_map row_view o) left) p ≡ chosen_of o
      on None same = chosen_none p left (λ row i. less_differs_back p row.prefix (pass.later row i))
      on (Some row) same = chosen_first p (row_view row) left same

  -- of a later prefix, it is in those that are left
  later_chosen : (q : Cidr) → prefix_cmp p q ≡ Less → chosen_in rows q ≡ chosen_in left q
  later_chosen q less =
      ap (λ (l : List BgpRowView). chosen_in l q) pass.parts
      ∙ chosen_behind q lower behind (λ row i. less_differs row.prefix q (prefix_total.trans row.prefix p q (pass.before row i) less))
      ∙ on own pass.same
    where
      on : (o : Option ChosenRow) → IfSome o (λ row. row.prefix.now ≡ p) → chosen_in (cons_option (option_map row_view o) left) q ≡ chosen_in left q
      on None same = refl
      on (Some row) same = chosen_next q (row_view row) left (ap (λ (r : Cidr). same_prefix r q) same ∙ less_differs p q less)

-- ---- the way along the prefixes

-- of all rows these are left, and of all prefixes those
pub record AreLeft (all rows : List BgpRowView) (items left : List Cidr) : Type 0 where
  pub among : (row : BgpRowView) → In row rows → In row all
  pub up : AreUp rows
  -- they have what is chosen of each prefix that is left
  pub chosen : (p : Cidr) → In p left → chosen_in all p ≡ chosen_in rows p
  -- and are later than each that was passed
  pub known : (z : Cidr) → In z items → In z left ⊎ AreLater rows z

pub all_left : (rows : List BgpRowView) (items : List Cidr) → AreBgpRows rows → AreLeft rows rows items items
all_left rows items are = record {
  among = λ row i. i;
  up = rows_up rows are;
  chosen = λ p i. refl;
  known = λ z i. inl i;
}

-- one prefix more
pub left_later : (all rows lower : List BgpRowView) (own : Option ChosenRow) (left : List BgpRowView) (items : List Cidr) (p : Cidr) (later : List Cidr)
    → Passes rows lower own left p → Ascends prefix_cmp prefix_total (p ∷ later) → AreLeft all rows items (p ∷ later) → AreLeft all left items later
left_later all rows lower own left items p later pass up are = record {
  among = λ row i. are.among row (left_in rows lower own left p pass row i);
  up = left_up rows lower own left p pass are.up;
  chosen = λ q i. are.chosen q (inr i) ∙ later_chosen rows lower own left p pass q (up.0 q i);
  known = λ z i. on z (are.known z i);
}
  where
    on : (z : Cidr) → In z (p ∷ later) ⊎ AreLater rows z → In z later ⊎ AreLater left z
    on z (inl (inl same)) = inr (subst (AreLater left) same pass.later)
    on z (inl (inr i)) = inl i
    on z (inr past) = inr (λ row i. past row (left_in rows lower own left p pass row i))

-- no more are chosen in a row than are used at once
pub few_of : (all rows : List BgpRowView) → AreBgpRows all → ((row : BgpRowView) → In row rows → In row all) → All (λ (row : BgpRowView). length row.chosen ≤ MULTIPATH_LIMIT) rows
few_of all rows are among =
    all_by_in (λ (row : BgpRowView). length row.chosen ≤ MULTIPATH_LIMIT) rows
    (λ row i. all_in (λ (row : BgpRowView). length row.chosen ≤ MULTIPATH_LIMIT) all are.few row (among row i))
