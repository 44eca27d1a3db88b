use Rattle.std.proofs.Common.{◌≡◌, ◌+◌, true, false, sym, ap, subst, ◌∙◌, All, ◌++◌, ◌∷◌, [], List, Option}
use Rattle.std.proofs.lemmas.List.Elements.{All-push}
use Rattle.nc_types.specs.Cidr.{IsCidr}
use Rattle.nc_tables.specs.declared.base.BaseRow.{BaseRow}
use Rattle.nc_base_rib.specs.declared.nearest.Key.{Key}
use Rattle.nc_base_rib.proofs.Keeping.{key_of, loses, kept_more, kept_last, lost_more, lost_last, LastIs}
use Rattle.nc_base_rib.proofs.nearest.keep_nearest.Goals as goal
use Rattle.nc_base_rib.proofs.nearest.keep_nearest.Goals.{then-not-loses_to+in_ok-push, else-not-loses_to}

pub rows-preserved : goal.rows-preserved
rows-preserved c =
    let rows = c.args.rows.now in
    let y = c.row-item.result in
    let k = c.rows.row-index in
    let inv = c.rows.invariant in
    let e : c.loses_to.result ≡ loses (key_of y) c.rows.last = c.loses_to.ensures ∙ ap (λ (o : Key). loses o c.rows.last) c.of-key.ensures.key in
    elim c.if-not-loses_to.branch [
      | then-not-loses_to+in_ok-push w ↦
          let h : c.loses_to.result ≡ false = w.if-not-loses_to.true in
          let items : c.if-not-loses_to.kept.items ≡ c.rows.kept.items ++ y ∷ [] = ap (λ v. v.items) w.kept-is ∙ w.in_ok-push.ensures.items in
          record {
            nearest = items ∙ kept_more rows c.requires k y c.rows-test.true c.row-item.is c.rows.last inv.last (sym e ∙ h) c.rows.kept.items inv.nearest;
            valid = subst (λ (l : List BaseRow). All (λ (row : BaseRow). IsCidr row.prefix.base row.prefix.len) l) (sym items) (All-push (λ (row : BaseRow). IsCidr row.prefix.base row.prefix.len) c.rows.kept.items y inv.valid c.of-key.ensures.valid);
            last = subst (λ (o : Option Key). LastIs rows (k + 1) o) (sym w.last-is) (kept_last rows c.requires k y c.rows-test.true c.row-item.is c.rows.last inv.last (sym e ∙ h) c.of-key.result c.of-key.ensures.key);
          }
      | else-not-loses_to w ↦
          let h : c.loses_to.result ≡ true = w.if-not-loses_to.false in
          let items : c.if-not-loses_to.kept.items ≡ c.rows.kept.items = ap (λ v. v.items) w.kept-is in
          record {
            nearest = items ∙ lost_more rows c.requires k y c.rows-test.true c.row-item.is c.rows.last inv.last (sym e ∙ h) c.rows.kept.items inv.nearest;
            valid = subst (λ (l : List BaseRow). All (λ (row : BaseRow). IsCidr row.prefix.base row.prefix.len) l) (sym items) inv.valid;
            last = subst (λ (o : Option Key). LastIs rows (k + 1) o) (sym w.last-is) (lost_last rows k y c.rows-test.true c.row-item.is c.rows.last inv.last (sym e ∙ h));
          }
    ]
