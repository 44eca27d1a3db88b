use Rattle.std.proofs.Common.{◌≡◌, ◌++◌, List, OnOk, Some, filter, map, append-nil, sym, ap, subst, ◌∙◌}
use Rattle.nc_types.specs.Config.{ConfigView}
use Rattle.nc_types.proofs.Members.{in_by_contains}
use Rattle.nc_tables.specs.declared.base.BaseRow.{BaseRow}
use Rattle.nc_tables.specs.declared.bgp.SessionRow.{SessionRow}
use Rattle.nc_tables.specs.Rounds.{BgpRowView, link_at}
use Rattle.nc_sessions.specs.Views.{link_view}
use Rattle.nc_fact.specs.declared.fact.Fact.{Fact}
use Rattle.nc_fact.specs.declared.fact.Fact.TheVariants.{Entry}
use Rattle.nc_fact.specs.Accepting.{entries_by}
use Rattle.nc_fact.specs.Facts.{holds}
use Rattle.nc_fact.specs.Roots.{sessions_at}
use Rattle.nc_fact.proofs.Accepting.{entries_are, none_over}
use Rattle.nc_fact.proofs.all.add_entries_over.Goals as goal

pub returns-in_default : goal.returns-in_default
returns-in_default c =
    let k = c.args.session.now in
    sym (append-nil c.args.facts.now.items)
    ∙ ap (λ (rows : List BgpRowView). c.args.facts.now.items ++ filter (holds c.args.state.now) (map (λ row. Entry (record { 0 = c.args.router.0 }) k.neighbor row.prefix) rows)) (sym c.in_default.ensures.none)

pub returns-in-Some-adjacency_of : goal.returns-in-Some-adjacency_of
returns-in-Some-adjacency_of c =
    let s = c.args.state.now in
    let g = c.args.inputs.now in
    let router = c.args.router.0 in
    let k = c.args.session.now in
    let l = link_view c.in-Some-adjacency_of.adjacency.link in
    let all : List BgpRowView = c.in-Some.rows in
    let ends : Some l ≡ link_at s.routers s.sessions router k.neighbor =
    c.in-Some-adjacency_of.ensures.link
    ∙ ap (λ (n : List ConfigView). link_at n g.sessions.now router k.neighbor) c.requires.inputs.network
    ∙ ap (λ (t : List (List SessionRow)). link_at s.routers t router k.neighbor) c.requires.inputs.sessions in
    let same =
    ap (λ (t : List (List BaseRow)). entries_by t router k.neighbor l all) c.requires.inputs.base
    ∙ ap (λ (rows : List BgpRowView). entries_by s.base router k.neighbor l rows) c.in-Some.ensures.some
    ∙ entries_are s router c.network-valid.ensures.state k (in_by_contains (sessions_at s router) k c.requires.own) l ends in
    subst (λ (fs : List Fact). OnOk c.add_entries_by.result (c.add_entries_by.new.facts.items ≡ c.args.facts.now.items ++ fs)) same c.add_entries_by.ensures

pub returns-in-None : goal.returns-in-None
returns-in-None c =
    let s = c.args.state.now in
    let g = c.args.inputs.now in
    let router = c.args.router.0 in
    let k = c.args.session.now in
    let none =
    c.in-None.ensures.link
    ∙ ap (λ (n : List ConfigView). link_at n g.sessions.now router k.neighbor) c.requires.inputs.network
    ∙ ap (λ (t : List (List SessionRow)). link_at s.routers t router k.neighbor) c.requires.inputs.sessions in
    sym (append-nil c.args.facts.now.items) ∙ ap (λ (fs : List Fact). c.args.facts.now.items ++ fs) (sym (none_over s router k none))
