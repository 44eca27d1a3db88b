use Rattle.std.proofs.Common.{◌≡◌, ◌+◌, ◌<◌, ◌++◌, ◌∷◌, ℕ, List, [], length, map, drop, get_or, append-nil, sym, ap, subst, ◌∙◌, arith, inl, inr}
use Rattle.std.specs.Vec.Iter.{into_iter_items}
use Rattle.nc_types.specs.Cidr.{Cidr, IsCidr}
use Rattle.std.proofs.lemmas.List.{at_drop_more, drop_all}
use Rattle.std.proofs.lemmas.Bool.{cases_lt}
use Rattle.std.proofs.lemmas.Grind.{common_steps}
use Rattle.nc_tables.specs.LocRibs.{rows_by}
use Rattle.nc_tables.specs.Rounds.{BgpRowView, bgp_row_view, AreBgpRows}
use Rattle.nc_tables.proofs.Choices.{rows_valid}
use Rattle.nc_round.proofs.Expanding.{one_more}
use Rattle.nc_round.proofs.expansion.rows_of.Goals as goal
use Rattle.nc_round.proofs.expansion.rows_of.Goals.{else-prefixes-test, then-prefixes-test+in_default}

pub returns-clause-valid : goal.returns-clause-valid
returns-clause-valid c =
    let ps = c.args.prefixes.now in
    let css = c.args.choices.items in
    let index = c.prefixes.prefix-index in
    let all : index ≡ length ps = elim c.prefixes-test.branch [
      | else-prefixes-test w ↦ omega arith
      | then-prefixes-test+in_default w ↦ omega (arith, c.prefixes.invariant.count, w.in_default.ensures.cases.0)
    ] in
    let left = into_iter_items c.prefixes.left in
    let none : drop index ps ≡ [] = ap (λ (k : ℕ). drop k ps) all ∙ drop_all (length ps) ps (omega arith) in
    let is : map bgp_row_view c.prefixes.rows.items ≡ rows_by ps css = sym (append-nil (map bgp_row_view c.prefixes.rows.items)) ∙ sym (ap (λ (l : List Cidr). map bgp_row_view c.prefixes.rows.items ++ rows_by l left) none) ∙ c.prefixes.invariant.rows in
    subst AreBgpRows (sym is) (rows_valid ps css c.requires.ordered c.requires.choices (λ k d lt. c.prefixes.invariant.valid k d (omega arith)))

pub prefixes-preserved : goal.prefixes-preserved
prefixes-preserved c =
    let ps = c.args.prefixes.now in
    let css = c.args.choices.items in
    let index = c.prefixes.prefix-index in
    let p = c.prefix-item.result in
    let x = c.in-Some.chosen in
    let made = map bgp_row_view c.prefixes.rows.items in
    let left = into_iter_items c.prefixes.left in
    let rest = into_iter_items c.next.new.self in
    let lt : index < length ps = omega arith in
    let is : get_or ps index p ≡ p = grind (arith, common_steps) in
    let before : made ++ rows_by (p ∷ drop (index + 1) ps) (x ∷ rest) ≡ rows_by ps css =
    ap (λ (q : Cidr). made ++ rows_by (q ∷ drop (index + 1) ps) (x ∷ rest)) (sym is)
    ∙ sym (at_drop_more (λ (l : List Cidr). made ++ rows_by l (x ∷ rest)) ps index p lt)
    ∙ ap (λ l. made ++ rows_by (drop index ps) l) (sym c.in-Some.ensures.items)
    ∙ c.prefixes.invariant.rows in
    record {
      count = omega (arith, c.prefixes.invariant.count, c.in-Some.ensures.len);
      rows = ap (λ (rows : List BgpRowView). rows ++ rows_by (drop (index + 1) ps) rest) c.in_ok-push_row.ensures ∙ one_more p (drop (index + 1) ps) x rest made (rows_by ps css) before;
      valid = λ k d less. elim (cases_lt k index) [
        | inl before ↦ c.prefixes.invariant.valid k d before
        | inr behind ↦
            let same : k ≡ index = omega arith in
            let here : get_or ps index d ≡ p = grind (arith, common_steps) in
            let there : p ≡ get_or ps k d = sym (ap (λ (j : ℕ). get_or ps j d) same ∙ here) in
            subst (λ (q : Cidr). IsCidr q.base q.len) there c.len-len.ensures.valid
      ];
    }
