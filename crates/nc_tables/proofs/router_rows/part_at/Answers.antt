use Rattle.std.proofs.Common.{◌≡◌, ◌++◌, ◌+◌, All, List, Option, None, Some, IfSome, drop, get_or, map, slice_get, take, sym, ap, subst, ◌∙◌}
use Rattle.std.specs.List.{cons_option}
use Rattle.std.specs.Option.{option_map}
use Rattle.std.specs.declared.cmp.Ordering.TheVariants.{Less, Greater}
use Rattle.std.proofs.lemmas.Option.{slice_get-get_or, same_Some}
use Rattle.nc_types.specs.Cidr.{Cidr}
use Rattle.nc_tables.specs.declared.router_rows.ChosenRow.{ChosenRow}
use Rattle.nc_tables.specs.Base.{prefix_cmp}
use Rattle.nc_tables.specs.Rounds.{BgpRowView, bgp_row_view}
use Rattle.nc_tables.specs.SpreadView.{row_view, rows_behind, rows_in}
use Rattle.nc_tables.proofs.Choices.{searchable}
use Rattle.nc_tables.proofs.InOrder.{back, equal_is}
use Rattle.nc_tables.proofs.Spread.{before_one, behind_one, in_parts, rows_have, within_first, within_last}
use Rattle.nc_tables.proofs.router_rows.part_at.Goals as goal
use Rattle.nc_tables.proofs.router_rows.part_at.Goals.{After-behind, After-behind-in-Err}

abbrev IsLower : Cidr → BgpRowView → Type 0
IsLower q row = prefix_cmp row.prefix q ≡ Less

abbrev IsLater : Cidr → BgpRowView → Type 0
IsLater q row = prefix_cmp q row.prefix ≡ Less

-- ---- it is one of the prefixes

there : (c : After-behind) → slice_get c.args.spread.prefixes.now c.in-Ok.number ≡ Some c.args.prefix
there c =
    let ps = c.args.spread.prefixes.now in
    slice_get-get_or ps c.in-Ok.number c.args.prefix c.in-Ok.ensures.bound ∙ ap Some (equal_is (get_or ps c.in-Ok.number c.args.prefix) c.args.prefix (c.in-Ok.ensures.ok c.args.prefix))

pub returns-in-Ok-clause-parts : goal.returns-in-Ok-clause-parts
returns-in-Ok-clause-parts c =
    let s = c.args.spread in
    in_parts (map bgp_row_view s.own.now) s.standing.now s.prefixes.now s.places.now c.in-Ok.number
    ∙ ap (λ (rows : List BgpRowView). rows ++ rows_behind s c.in-Ok.number) (sym c.upto.ensures.rows)
    ∙ ap (λ (rows : List BgpRowView). rows_in c.upto.result ++ rows) c.row_at.ensures.row
    ∙ ap (λ (rows : List BgpRowView). rows_in c.upto.result ++ cons_option (option_map row_view c.row_at.result) rows) (sym c.behind.ensures.rows)

pub returns-in-Ok-clause-lower : goal.returns-in-Ok-clause-lower
returns-in-Ok-clause-lower c =
    let s = c.args.spread in
    let q = c.args.prefix in
    subst (All (IsLower q)) (sym c.upto.ensures.rows)
    (rows_have (map bgp_row_view s.own.now) s.standing.now (λ (p : Cidr). prefix_cmp p q ≡ Less) (take c.in-Ok.number s.prefixes.now) (take c.in-Ok.number s.places.now) (before_one s.prefixes.now c.in-Ok.number q c.requires.0.ordered (there c)))

pub returns-in-Ok-clause-row : goal.returns-in-Ok-clause-row
returns-in-Ok-clause-row c = on c.row_at.result c.row_at.ensures.prefix
  where
    on : (o : Option ChosenRow) → IfSome o (λ row. slice_get c.args.spread.prefixes.now c.in-Ok.number ≡ Some row.prefix.now) → IfSome o (λ row. row.prefix.now ≡ c.args.prefix)
    on None e = tt
    on (Some row) e = same_Some row.prefix.now c.args.prefix (sym e ∙ there c)

pub returns-in-Ok-clause-later : goal.returns-in-Ok-clause-later
returns-in-Ok-clause-later c =
    let s = c.args.spread in
    let q = c.args.prefix in
    let next = c.in-Ok.number + 1 in
    subst (All (IsLater q)) (sym c.behind.ensures.rows)
    (rows_have (map bgp_row_view s.own.now) s.standing.now (λ (p : Cidr). prefix_cmp q p ≡ Less) (drop next s.prefixes.now) (drop next s.places.now) (behind_one s.prefixes.now c.in-Ok.number q c.requires.0.ordered (there c)))

-- ---- it isn't

pub returns-in-Err-clause-parts : goal.returns-in-Err-clause-parts
returns-in-Err-clause-parts c =
    let s = c.args.spread in
    in_parts (map bgp_row_view s.own.now) s.standing.now s.prefixes.now s.places.now c.in-Err.number
    ∙ ap (λ (rows : List BgpRowView). rows ++ rows_behind s c.in-Err.number) (sym c.upto-in-Err.ensures.rows)
    ∙ ap (λ (rows : List BgpRowView). rows_in c.upto-in-Err.result ++ rows) (sym c.behind-in-Err.ensures.rows)

pub returns-in-Err-clause-lower : goal.returns-in-Err-clause-lower
returns-in-Err-clause-lower c =
    let s = c.args.spread in
    let q = c.args.prefix in
    let parted = c.in-Err.ensures.position (searchable s.prefixes.now q c.requires.0.ordered) in
    subst (All (IsLower q)) (sym c.upto-in-Err.ensures.rows)
    (rows_have (map bgp_row_view s.own.now) s.standing.now (λ (p : Cidr). prefix_cmp p q ≡ Less) (take c.in-Err.number s.prefixes.now) (take c.in-Err.number s.places.now)
    (within_first (λ (p : Cidr). prefix_cmp p q ≡ Less) s.prefixes.now c.in-Err.number c.in-Err.ensures.bound parted.0))

pub returns-in-Err-clause-later : goal.returns-in-Err-clause-later
returns-in-Err-clause-later c =
    let s = c.args.spread in
    let q = c.args.prefix in
    let number = c.in-Err.number in
    let parted = c.in-Err.ensures.position (searchable s.prefixes.now q c.requires.0.ordered) in
    let above : All (λ (p : Cidr). prefix_cmp q p ≡ Less) (drop number s.prefixes.now) = λ k d lt. back (get_or (drop number s.prefixes.now) k d) q Greater (within_last (λ (p : Cidr). prefix_cmp p q ≡ Greater) s.prefixes.now number parted.1 k d lt) in
    subst (All (IsLater q)) (sym c.behind-in-Err.ensures.rows)
    (rows_have (map bgp_row_view s.own.now) s.standing.now (λ (p : Cidr). prefix_cmp q p ≡ Less) (drop number s.prefixes.now) (drop number s.places.now) above)
