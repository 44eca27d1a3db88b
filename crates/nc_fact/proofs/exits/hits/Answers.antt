use Rattle.std.proofs.Common.{sym, ◌∙◌, inl, inr}
use Rattle.nc_fact.proofs.Hits.{hit_there, not_there}
use Rattle.nc_fact.proofs.exits.hits.Goals as goal
use Rattle.nc_fact.proofs.exits.hits.Goals.{then-place-rows-via-then-place-rows, then-place-rows-via-else-place-rows+then-rows-place}

pub returns-then-place-rows : goal.returns-then-place-rows
returns-then-place-rows c =
    let rows = c.longest_rows-rows in
    sym (not_there c.args.state.now c.args.router.0 c.args.addr.0 rows.result.from rows.result.to rows.ensures.rows c.args.row
    (elim c.then-place-rows.branch [
      | then-place-rows-via-then-place-rows w ↦ inl w.if-place-rows.true
      | then-place-rows-via-else-place-rows+then-rows-place w ↦ inr w.if-rows-place.true
    ]))

pub returns : goal.returns
returns c =
    let rows = c.longest_rows-rows in
    c.is_hit.ensures ∙ sym (hit_there c.args.state.now c.args.router.0 c.args.addr.0 rows.result.from rows.result.to rows.ensures.rows c.args.row c.if-place-rows.false c.if-rows-place.false)
