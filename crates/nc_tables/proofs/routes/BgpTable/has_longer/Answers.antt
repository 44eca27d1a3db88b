use Rattle.std.proofs.Common.{◌≡◌, ◌∷◌, [], List, Option, None, Some, IfNone, IfSome, sym, ap, ◌∙◌}
use Rattle.std.specs.Option.{is_some}
use Rattle.nc_tables.specs.declared.router_rows.ChosenRow.{ChosenRow}
use Rattle.nc_tables.specs.Rounds.{BgpRowView, has_longer}
use Rattle.nc_tables.specs.SpreadView.{row_view}
use Rattle.nc_tables.proofs.Spread.{longer_there, longer_nowhere}
use Rattle.nc_tables.proofs.routes.BgpTable.has_longer.Goals as goal

pub returns : goal.returns
returns c = c.is_some.ensures ∙ on c.next_row.result c.next_row.ensures.some c.next_row.ensures.none ∙ ap (λ (rows : List BgpRowView). has_longer rows c.args.outer) c.rows.ensures.rows
  where
    on : (o : Option ChosenRow) → IfSome o (λ row. c.inside-inside.result ≡ row_view row ∷ c.next_row.new.self) → IfNone o (c.inside-inside.result ≡ []) → is_some o ≡ has_longer c.rows.result c.args.outer
    on None some none = sym (longer_nowhere c.rows.result c.args.outer (sym c.inside-inside.ensures ∙ none))
    on (Some row) some none = sym (longer_there c.rows.result c.args.outer (row_view row) c.next_row.new.self c.rows.ensures.valid.some (sym c.inside-inside.ensures ∙ some))
