use Rattle.std.proofs.Common.{Bool, sym, ◌∙◌}
use Rattle.nc_tables.specs.Rounds.{BgpRowView}
use Rattle.nc_tables.specs.SpreadView.{row_view}
use Rattle.nc_sessions.specs.Views.{link_view}
use Rattle.nc_fact.specs.declared.fact.Fact.{Fact}
use Rattle.nc_fact.specs.declared.fact.Fact.TheVariants.{Entry}
use Rattle.nc_fact.specs.Accepting.{accepts}
use Rattle.nc_fact.proofs.Adding.{kept_more}
use Rattle.nc_fact.proofs.all.add_entries_by.Goals as goal

pub rows-preserved-in-Continue-1 : goal.rows-preserved-in-Continue-1
rows-preserved-in-Continue-1 c =
    let test : BgpRowView → Bool = accepts c.args.inputs.now.base.now c.args.router.0 (link_view c.args.adjacency.link) in
    let make : BgpRowView → Fact = λ row. Entry (record { 0 = c.args.router.0 }) c.args.place row.prefix in
    kept_more (row_view c.in-Some.row) c.rows.rows c.next_row.new.self c.in-Some.ensures.some c.rows.facts.items c.push.new.self.items test make (sym c.accepts.ensures ∙ c.if-accepts.true) c.in_ok-push.ensures.items
    ∙ c.rows.invariant
