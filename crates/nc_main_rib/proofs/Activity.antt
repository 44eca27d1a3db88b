-- Which aggregates are active: the first of each prefix among those from a place on.
use Rattle.std.proofs.Common.{◌≡◌, ℕ, ◌+◌, ◌<◌, Bool, true, false, ◌&&◌, cond, List, length, drop, get_or, Option, Some, refl, sym, ap, ◌∙◌}
use Rattle.std.specs.Ordering.{is_eq}
use Rattle.std.proofs.Math.Seq.{drop-length}
use Rattle.std.specs.BTreeMap.{BTreeMap, IsEmpty}
use Rattle.nc_types.specs.Cidr.{Cidr}
use Rattle.nc_types.specs.declared.config.AggregateStatement.{AggregateStatement}
use Rattle.nc_types.proofs.Walks.{drop_back}
use Rattle.nc_tables.specs.Base.{prefix_cmp, same_prefix}
use Rattle.nc_tables.specs.Rounds.{BgpRowView, has_longer}
use Rattle.nc_tables.proofs.SideBySide.{same_by_cmp}
use Rattle.nc_main_rib.specs.Sides.{active_from, place_by}

-- one more aggregate, before those whose first active one of a prefix is known
pub one_before : (views : List BgpRowView) (p : Cidr) (aggregates : List AggregateStatement) (k next : ℕ) (a : AggregateStatement) → k + 1 ≡ next → a ≡ get_or aggregates k a → k < length aggregates
    → (later : Option ℕ) → later ≡ active_from views p next (drop next aggregates) → cond (same_prefix a.prefix p && has_longer views a.prefix) (Some k) later ≡ active_from views p k (drop k aggregates)
one_before views p aggregates k next a e read lt later is =
    ap (λ (o : Option ℕ). cond (same_prefix a.prefix p && has_longer views a.prefix) (Some k) o) (is ∙ ap (λ (n : ℕ). active_from views p n (drop next aggregates)) (sym e))
    ∙ sym (ap (active_from views p k) (drop_back aggregates k next a e read lt))

-- what a table has of a prefix, after an aggregate that is active is put into it
pub put_active : (views : List BgpRowView) (a : AggregateStatement) (p : Cidr) (place : ℕ) (before : Option ℕ) → has_longer views a.prefix ≡ true
    → cond (is_eq (prefix_cmp a.prefix p)) (Some place) before ≡ cond (same_prefix a.prefix p && has_longer views a.prefix) (Some place) before
put_active views a p place before active =
    ap (λ (b : Bool). cond b (Some place) before) (sym (same_by_cmp a.prefix p))
    ∙ sym (on (same_prefix a.prefix p))
  where
    on : (b : Bool) → cond (b && has_longer views a.prefix) (Some place) before ≡ cond b (Some place) before
    on true = ap (λ (t : Bool). cond t (Some place) before) active
    on false = refl

pub put_none : (views : List BgpRowView) (a : AggregateStatement) (p : Cidr) (place : ℕ) (before : Option ℕ) → has_longer views a.prefix ≡ false
    → before ≡ cond (same_prefix a.prefix p && has_longer views a.prefix) (Some place) before
put_none views a p place before none = sym (on (same_prefix a.prefix p))
  where
    on : (b : Bool) → cond (b && has_longer views a.prefix) (Some place) before ≡ before
    on true = ap (λ (t : Bool). cond t (Some place) before) none
    on false = refl

-- a table of no places, and no aggregates
pub empty_at : (places : BTreeMap Cidr ℕ) → IsEmpty places → (views : List BgpRowView) (p : Cidr) (aggregates : List AggregateStatement)
    → place_by places p ≡ active_from views p (length aggregates) (drop (length aggregates) aggregates)
empty_at places e views p aggregates = rw e (sym (ap (active_from views p (length aggregates)) (drop-length aggregates)))
