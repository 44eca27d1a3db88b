use Rattle.std.proofs.Common.{◌≡◌, ◌+◌, ◌≤◌, ◌-◌, ℕ, [], All, List, length, map, drop, get_or, drop-drop, length-drop, sym, ap, subst, ◌∙◌, refl, arith}
use Rattle.std.specs.List.{take_while}
use Rattle.std.proofs.lemmas.List.{length_push, take_rest}
use Rattle.std.proofs.lemmas.List.Elements.{All-nil, All-push}
use Rattle.std.proofs.lemmas.List.Folds.{length-prefix_len}
use Rattle.nc_round.specs.declared.by_router.Part.{Part}
use Rattle.nc_round.specs.declared.changed.NumberedRow.{NumberedRow}
use Rattle.nc_round.specs.Parts.{cut_at}
use Rattle.nc_round.specs.Rows.{listed, prefixes_of, row_key}
use Rattle.nc_round.specs.Waking.{changed_at}
use Rattle.nc_round.proofs.OfRouter.{all_of, front, go_by_router, is_cut, is_of, one_more, part_is, GoByRouter, IsCut}
use Rattle.nc_round.proofs.by_router.parts_of.Goals as goal

abbrev IsWithin : ℕ → Part → Type 0
IsWithin count p = (p.from ≤ p.to) × (p.to ≤ count)

pub routers-init : goal.routers-init
routers-init c = record {
  few = omega arith;
  up = go_by_router c.args.rows.now c.requires;
  behind = λ k d lt. omega arith;
  left = λ r le. refl;
  count = ap length c.in_ok-parts.ensures.items;
  within = subst (All (IsWithin (length c.args.rows.now))) (sym c.in_ok-parts.ensures.items) (All-nil (IsWithin (length c.args.rows.now)));
  each = λ r lt. absurd (omega arith);
}

pub routers-preserved : goal.routers-preserved
routers-preserved c =
    let rows : List NumberedRow = c.args.rows.now in
    let router = c.routers.router in
    let from = c.routers.from in
    let rest = drop from rows in
    let n = c.count_of.result in
    let is : n ≡ front router rest = c.count_of.ensures ∙ ap (λ (l : List NumberedRow). length (take_while (is_of router) l)) (take_rest rows from) ∙ length-prefix_len (is_of router) rest in
    let cut : IsCut router rest n = subst (IsCut router rest) (sym is) (is_cut router rest c.routers.invariant.up c.routers.invariant.behind) in
    let next : drop (from + n) rows ≡ drop n rest = sym (drop-drop n from rows) in
    let long : length rest ≡ length rows - from = length-drop from rows in
    let few : from + n ≤ length rows = let le = cut.few in let within = c.routers.invariant.few in omega arith in
    let p : Part = record { from = from; to = from + n } in
    record {
      few = few;
      up = subst GoByRouter (sym next) cut.up;
      behind = subst (All (λ r. router + 1 ≤ r.router.0)) (sym next) (λ k d lt. let above = cut.later k d lt in omega arith);
      left = λ r le. ap (λ (l : List NumberedRow). changed_at (map row_key l) r) next ∙ cut.others r (omega arith) ∙ c.routers.invariant.left r (omega arith);
      count = ap length c.in_ok-push.ensures.items ∙ length_push c.routers.parts.items p ∙ ap (λ (k : ℕ). k + 1) c.routers.invariant.count;
      within = subst (All (IsWithin (length rows))) (sym c.in_ok-push.ensures.items) (All-push (IsWithin (length rows)) c.routers.parts.items p c.routers.invariant.within (omega arith, few));
      each = λ r lt.
          ap (λ (l : List Part). get_or (listed (cut_at (all_of rows) l)) r []) c.in_ok-push.ensures.items
          ∙ one_more (all_of rows) c.routers.parts.items p r (changed_at (map row_key rows) r) (omega (arith, c.routers.invariant.count)) (λ less. c.routers.invariant.each r (omega (arith, c.routers.invariant.count)))
          (λ here. ap prefixes_of (part_is rows from n) ∙ sym cut.own ∙ c.routers.invariant.left router (omega arith) ∙ ap (changed_at (map row_key rows)) (let same : router ≡ r = omega (arith, c.routers.invariant.count) in same));
    }
