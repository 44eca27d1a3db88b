-- Prefixes in order, of which some are special and the others those of BGP rows alone: what is left of both at a place.
use Rattle.std.proofs.Common.{◌≡◌, ◌⊎◌, ℕ, suc, ◌+◌, ◌++◌, Bool, false, cond, ◌&&◌, List, [], ◌∷◌, map, append_assoc, Option, Some, None, IfSome, refl, sym, ap, subst, ◌∙◌, inl, inr}
use Rattle.std.specs.List.{cons_option, flat_map}
use Rattle.std.specs.Option.{option_map, option_map_or}
use Rattle.std.specs.declared.cmp.Ordering.TheVariants.{Less}
use Rattle.nc_types.specs.Cidr.{Cidr}
use Rattle.nc_types.specs.declared.config.AggregateStatement.{AggregateStatement}
use Rattle.nc_types.proofs.Members.{In, in_by_map, in_either, in_left, in_right}
use Rattle.nc_tables.specs.declared.base.BaseRow.{BaseRow}
use Rattle.nc_tables.specs.declared.bgp.MainRow.{MainRow}
use Rattle.nc_tables.specs.declared.router_rows.ChosenRow.{ChosenRow}
use Rattle.nc_tables.specs.Base.{prefix_cmp, same_prefix}
use Rattle.nc_tables.specs.Main.{learnt_rows}
use Rattle.nc_tables.specs.Order.{in_order}
use Rattle.nc_tables.specs.Rounds.{BgpRowView, distinct, has_longer, made_from}
use Rattle.nc_tables.specs.SpreadView.{row_view}
use Rattle.nc_tables.proofs.Ordered.{in_its_order}
use Rattle.nc_tables.proofs.SideBySide.{prefix_total}
use Rattle.nc_base_rib.proofs.Members.{one_list}
use Rattle.nc_main_rib.specs.Sides.{active_from, base_row, learnt_of}
use Rattle.nc_main_rib.proofs.Ascending.{distinct_ascend, in_distinct, of_distinct}
use Rattle.nc_main_rib.proofs.Parts.{base_by}
use Rattle.nc_main_rib.proofs.Passing.{AreLater, AreUp}

-- ---- prefixes in order, each once

abbrev pub ordered : List Cidr → List Cidr
ordered ps = in_order prefix_cmp (distinct ps)

pub in_ordered : (ps : List Cidr) (z : Cidr) → In z ps → In z (ordered ps)
in_ordered ps z i = in_its_order prefix_cmp (distinct ps) z (in_distinct ps z i)

-- two lists with the same members are one in order
pub same_ordered : (ps qs : List Cidr) → ((z : Cidr) → In z ps → In z qs) → ((z : Cidr) → In z qs → In z ps) → ordered ps ≡ ordered qs
same_ordered ps qs to from =
    one_list prefix_cmp prefix_total (ordered ps) (ordered qs) (distinct_ascend ps) (distinct_ascend qs)
    (λ z i. in_ordered qs z (to z (of_distinct ps z i)))
    (λ z i. in_ordered ps z (from z (of_distinct qs z i)))

-- one that is below all others comes first
pub first_ordered : (ps later : List Cidr) (p : Cidr) → In p ps → ((z : Cidr) → In z ps → In z (p ∷ later)) → ((z : Cidr) → In z later → In z ps) → ((z : Cidr) → In z later → prefix_cmp p z ≡ Less)
    → ordered ps ≡ p ∷ ordered later
first_ordered ps later p here to from below =
    one_list prefix_cmp prefix_total (ordered ps) (p ∷ ordered later) (distinct_ascend ps) ((λ z i. below z (of_distinct later z i)), distinct_ascend later)
    (λ z i. there z (to z (of_distinct ps z i)))
    back
  where
    there : (z : Cidr) → In z (p ∷ later) → In z (p ∷ ordered later)
    there z (inl same) = inl same
    there z (inr i) = inr (in_ordered later z i)

    back : (z : Cidr) → In z (p ∷ ordered later) → In z (ordered ps)
    back z (inl same) = in_ordered ps z (subst (λ (y : Cidr). In y ps) same here)
    back z (inr i) = in_ordered ps z (from z (of_distinct later z i))

-- ---- what is left

module _ (rows_of : Cidr → List MainRow) where
  -- the main rows of special prefixes and of those of BGP rows
  abbrev pub left_of : List Cidr → List BgpRowView → List MainRow
  left_of ps rows = flat_map rows_of (ordered (ps ++ map (λ (row : BgpRowView). row.prefix) rows))

  -- BGP rows that stand before all special prefixes, and alone, and others behind them
  pub run_is : (ps : List Cidr) (rows others : List BgpRowView) → AreUp (rows ++ others)
      → ((row : BgpRowView) → In row rows → (z : Cidr) → In z ps → prefix_cmp row.prefix z ≡ Less)
      → ((row : BgpRowView) → In row rows → rows_of row.prefix ≡ learnt_rows row.prefix row.chosen)
      → left_of ps (rows ++ others) ≡ learnt_of rows ++ left_of ps others
  run_is ps [] others up below alone = refl
  run_is ps (row ∷ rows) others up below alone =
      ap (flat_map rows_of) (first_ordered (ps ++ row.prefix ∷ later) (ps ++ later) row.prefix (in_right ps (row.prefix ∷ later) row.prefix (inl refl)) to from less)
      ∙ ap (λ (l : List MainRow). l ++ left_of ps (rows ++ others)) (alone row (inl refl))
      ∙ ap (λ (l : List MainRow). learnt_rows row.prefix row.chosen ++ l) (run_is ps rows others up.1 (λ r i. below r (inr i)) (λ r i. alone r (inr i)))
      ∙ sym (append_assoc (learnt_rows row.prefix row.chosen) (learnt_of rows) (left_of ps others))
    where
      later : List Cidr
      later = map (λ (r : BgpRowView). r.prefix) (rows ++ others)

      moved : (z : Cidr) → In z ps ⊎ In z (row.prefix ∷ later) → In z (row.prefix ∷ (ps ++ later))
      moved z (inl i) = inr (in_left ps later z i)
      moved z (inr (inl same)) = inl same
      moved z (inr (inr i)) = inr (in_right ps later z i)

      to : (z : Cidr) → In z (ps ++ row.prefix ∷ later) → In z (row.prefix ∷ (ps ++ later))
      to z i = moved z (in_either ps (row.prefix ∷ later) z i)

      kept : (z : Cidr) → In z ps ⊎ In z later → In z (ps ++ row.prefix ∷ later)
      kept z (inl i) = in_left ps (row.prefix ∷ later) z i
      kept z (inr i) = in_right ps (row.prefix ∷ later) z (inr i)

      from : (z : Cidr) → In z (ps ++ later) → In z (ps ++ row.prefix ∷ later)
      from z i = kept z (in_either ps later z i)

      above : (z : Cidr) → In z ps ⊎ In z later → prefix_cmp row.prefix z ≡ Less
      above z (inl i) = below row (inl refl) z i
      above z (inr i) =
          let made = in_by_map (λ (r : BgpRowView). r.prefix) (rows ++ others) z i in
          subst (λ (q : Cidr). prefix_cmp row.prefix q ≡ Less) made.2 (up.0 made.0 made.1)

      less : (z : Cidr) → In z (ps ++ later) → prefix_cmp row.prefix z ≡ Less
      less z i = above z (in_either ps later z i)

  -- a special prefix, with its own BGP row if it has one, and behind it the rows of later ones
  pub special_is : (p : Cidr) (ps : List Cidr) (own : Option ChosenRow) (rows : List BgpRowView) → ((z : Cidr) → In z ps → prefix_cmp p z ≡ Less) → IfSome own (λ row. row.prefix.now ≡ p) → AreLater rows p
      → left_of (p ∷ ps) (cons_option (option_map row_view own) rows) ≡ rows_of p ++ left_of ps rows
  special_is p ps own rows above same later = ap (flat_map rows_of) (by_own own same)
    where
      behind : List Cidr
      behind = map (λ (row : BgpRowView). row.prefix) rows

      higher : (z : Cidr) → In z ps ⊎ In z behind → prefix_cmp p z ≡ Less
      higher z (inl i) = above z i
      higher z (inr i) = let made = in_by_map (λ (row : BgpRowView). row.prefix) rows z i in subst (λ (q : Cidr). prefix_cmp p q ≡ Less) made.2 (later made.0 made.1)

      less : (z : Cidr) → In z (ps ++ behind) → prefix_cmp p z ≡ Less
      less z i = higher z (in_either ps behind z i)

      by_own : (o : Option ChosenRow) → IfSome o (λ row. row.prefix.now ≡ p) → ordered (p ∷ (ps ++ map (λ (row : BgpRowView). row.prefix) (cons_option (option_map row_view o) rows))) ≡ p ∷ ordered (ps ++ behind)
      by_own None same = first_ordered (p ∷ (ps ++ behind)) (ps ++ behind) p (inl refl) (λ z i. i) (λ z i. inr i) less
      by_own (Some row) same = first_ordered (p ∷ (ps ++ row.prefix.now ∷ behind)) (ps ++ behind) p (inl refl) to from less
        where
          moved : (z : Cidr) → In z ps ⊎ In z (row.prefix.now ∷ behind) → In z (p ∷ (ps ++ behind))
          moved z (inl i) = inr (in_left ps behind z i)
          moved z (inr (inl e)) = inl (sym same ∙ e)
          moved z (inr (inr i)) = inr (in_right ps behind z i)

          to : (z : Cidr) → In z (p ∷ (ps ++ row.prefix.now ∷ behind)) → In z (p ∷ (ps ++ behind))
          to z (inl e) = inl e
          to z (inr i) = moved z (in_either ps (row.prefix.now ∷ behind) z i)

          kept : (z : Cidr) → In z ps ⊎ In z behind → In z (p ∷ (ps ++ row.prefix.now ∷ behind))
          kept z (inl i) = inr (in_left ps (row.prefix.now ∷ behind) z i)
          kept z (inr i) = inr (in_right ps (row.prefix.now ∷ behind) z (inr i))

          from : (z : Cidr) → In z (ps ++ behind) → In z (p ∷ (ps ++ row.prefix.now ∷ behind))
          from z i = kept z (in_either ps behind z i)

-- ---- a prefix of a BGP row alone

pub no_base : (p : Cidr) (place : ℕ) (rows : List BaseRow) → ((row : BaseRow) → In row rows → same_prefix row.prefix p ≡ false) → made_from (base_by p) place rows ≡ []
no_base p place [] other = refl
no_base p place (row ∷ rows) other =
    ap (λ (b : Bool). option_map_or (λ y. y ∷ made_from (base_by p) (suc place) rows) (cond b (Some (base_row p place row)) None) (made_from (base_by p) (suc place) rows)) (other row (inl refl))
    ∙ no_base p (suc place) rows (λ r i. other r (inr i))

pub no_active : (views : List BgpRowView) (p : Cidr) (place : ℕ) (aggregates : List AggregateStatement) → ((a : AggregateStatement) → In a aggregates → same_prefix a.prefix p ≡ false) → active_from views p place aggregates ≡ None
no_active views p place [] other = refl
no_active views p place (a ∷ later) other =
    ap (λ (b : Bool). cond (b && has_longer views a.prefix) (Some place) (active_from views p (place + 1) later)) (other a (inl refl))
    ∙ no_active views p (place + 1) later (λ r i. other r (inr i))
