use Rattle.std.proofs.Common.{List, map, sym, ap, subst, ◌∙◌}
use Rattle.nc_types.specs.Cidr.{Cidr}
use Rattle.nc_tables.specs.Rounds.{prefixes}
use Rattle.nc_round.specs.Changes.{IsRoundOver}
use Rattle.nc_round.specs.Next.{next_of}
use Rattle.nc_round.specs.Rows.{row_key}
use Rattle.nc_round.specs.Waking.{HaveAggregates}
use Rattle.nc_round.proofs.NumberedRows.{aggregates_known}
use Rattle.nc_round.proofs.rounds.round_changed.Goals as goal

pub next_by-requires-clause-known : goal.next_by-requires-clause-known
next_by-requires-clause-known c =
    subst (HaveAggregates c.args.inputs.network.now) (sym c.requires.prefixes) (aggregates_known c.args.inputs.network.now)

pub next_by-requires-clause-made : goal.next_by-requires-clause-made
next_by-requires-clause-made c =
    let i = c.args.inputs in
    let before = c.requires.made.0 in
    let is = c.requires.made.1 in
    let over : IsRoundOver i.network.now i.base.now i.sessions.now (prefixes i.network.now) before c.args.old.rows (map row_key c.args.changed.rows.items) =
    record { count = is.count; some = is.some; made = is.made; difference = is.difference } in
    (before, subst (λ (ps : List Cidr). IsRoundOver i.network.now i.base.now i.sessions.now ps before c.args.old.rows (map row_key c.args.changed.rows.items)) (sym c.requires.prefixes) over)

pub returns-clause-table : goal.returns-clause-table
returns-clause-table c = c.in_ok-made.ensures.table ∙ ap (λ (ps : List Cidr). next_of ps c.args.inputs c.args.old.rows) c.requires.prefixes
