use Rattle.std.proofs.Common.{◌&&◌, ap, sym, ◌∙◌}
use Rattle.std.specs.Prelude.{position}
use Rattle.nc_types.specs.declared.addr.Addr.{Addr}
use Rattle.nc_types.specs.Config.{config_view}
use Rattle.nc_types.specs.declared.filters.FilterEntry.{FilterEntry}
use Rattle.nc_tables.specs.Filters.{decides, deciding, is_of}
use Rattle.nc_filter.specs.Tables.{kept_at, IsDeciding}
use Rattle.nc_filter.proofs.Saying.{of_list, right_more}
use Rattle.nc_filter.proofs.tables.deciding.Goals as goal

decided : (c : goal.In_ok-put) → IsDeciding c.args.network.now c.args.kept.now.from.0 c.args.kept.now.to.0 c.args.router.0 c.args.list c.deciding_in-entry.result
decided c =
    let old = c.args.kept.now in
    let view = config_view c.args.config.now in
    of_list c.args.network.now old.from.0 old.to.0 c.args.router.0 c.args.list view c.deciding_in-entry.result c.requires.config (λ q first.
    c.deciding_in-entry.ensures q (ap (position (is_of q)) c.deref.ensures.value ∙ first)
    ∙ ap (position (λ (e : FilterEntry). is_of q e && decides old.from.0 old.to.0 e)) c.deref.ensures.value)

pub returns-clause-kept : goal.returns-clause-kept
returns-clause-kept c router first x there d list config at =
    let routers = c.args.network.now in
    let old = c.args.kept.now in
    let new = c.put.new.self in
    right_more routers old.from.0 old.to.0 c.args.router.0 c.args.list (kept_at old) (kept_at new) c.deciding_in-entry.result c.in_ok-put.ensures.put (decided c) c.requires.kept router first x there d list config at
    ∙ ap (λ (a : Addr). deciding a.0 old.to.0 d list) (sym c.put.ensures.from)
    ∙ ap (λ (a : Addr). deciding new.from.0 a.0 d list) (sym c.put.ensures.to)

pub returns-clause-deciding : goal.returns-clause-deciding
returns-clause-deciding c d list config first = decided c d list config first

pub returns-in-Some-clause-deciding : goal.returns-in-Some-clause-deciding
returns-in-Some-clause-deciding c d list config first = c.requires.kept c.args.router.0 c.args.list c.in-Some.entry (sym c.get.ensures ∙ c.in-Some.is) d list config first
