-- The rows of a router's BGP table: each prefix has one.
use Rattle.std.proofs.Common.{◌≡◌, suc, ◌<◌, Bool, false, cond, List, [], ◌∷◌, length, Option, Some, ap, subst, ◌∙◌, arith, inl, inr}
use Rattle.std.specs.List.{AllPairs, find}
use Rattle.std.specs.Option.{option_map_or}
use Rattle.std.specs.Ordering.{is_eq}
use Rattle.std.specs.declared.cmp.Ordering.TheVariants.{Less}
use Rattle.nc_types.specs.Cidr.{Cidr}
use Rattle.nc_types.proofs.Members.{In, contains_by_in}
use Rattle.nc_tables.specs.Base.{prefix_cmp, same_prefix}
use Rattle.nc_tables.specs.Rounds.{BgpRowView, AreBgpRows, chosen_in}
use Rattle.nc_tables.proofs.SideBySide.{same_by_cmp}
use Rattle.nc_tables.proofs.ByPrefix.{same_itself}

abbrev has : Cidr → BgpRowView → Bool
has prefix row = same_prefix row.prefix prefix

find_row : (rows : List BgpRowView) → AllPairs (λ a b. prefix_cmp a.prefix b.prefix ≡ Less) rows → (row : BgpRowView) → In row rows → find (has row.prefix) rows ≡ Some row
find_row [] ordered row i = absurd i
find_row (r ∷ rows) ordered row (inl same) = subst (λ (z : BgpRowView). find (has z.prefix) (r ∷ rows) ≡ Some z) same (ap (λ (b : Bool). cond b (Some r) (find (has r.prefix) rows)) (same_itself r.prefix))
find_row (r ∷ rows) ordered row (inr i) =
    let at = contains_by_in rows row i in
    let lt : at.0 < length rows = at.1 in
    let before : prefix_cmp r.prefix row.prefix ≡ Less = subst (λ (z : BgpRowView). prefix_cmp r.prefix z.prefix ≡ Less) at.2 (ordered 0 (suc at.0) row (omega arith) (omega arith)) in
    let other : same_prefix r.prefix row.prefix ≡ false = same_by_cmp r.prefix row.prefix ∙ ap is_eq before in
    ap (λ (b : Bool). cond b (Some r) (find (has row.prefix) rows)) other ∙ find_row rows (λ i j d lt within. ordered (suc i) (suc j) d (omega arith) (omega arith)) row i

-- what is chosen of a row's prefix is what the row has
pub row_found : (rows : List BgpRowView) → AreBgpRows rows → (row : BgpRowView) → In row rows → chosen_in rows row.prefix ≡ row.chosen
row_found rows are row i = ap (λ (o : Option BgpRowView). option_map_or (λ (r : BgpRowView). r.chosen) o []) (find_row rows are.ordered row i)
