use Rattle.std.proofs.Common.{◌≡◌, ◌+◌, ◌<◌, ◌++◌, List, [], All, Contains, map, filter, slice_index_or, sym, ap, subst, ◌∙◌, arith}
use Rattle.std.specs.List.{AllPairs, flat_map, list_any}
use Rattle.std.proofs.lemmas.List.Elements.{All-nil}
use Rattle.nc_types.specs.Cidr.{Cidr}
use Rattle.nc_types.specs.declared.config.AggregateStatement.{AggregateStatement}
use Rattle.nc_types.proofs.Members.{in_by_map, in_by_contains, contains_by_in}
use Rattle.nc_tables.specs.declared.bgp.SessionRow.{SessionRow}
use Rattle.nc_tables.specs.declared.ribs.Numbered.{Numbered}
use Rattle.nc_tables.specs.LocRibs.{IsNumbered}
use Rattle.nc_tables.specs.Rounds.{is_longer_in}
use Rattle.nc_round.specs.declared.changed.NumberedRow.{NumberedRow}
use Rattle.nc_round.specs.Rows.{listed, numbered_row, prefixes_of, row_key}
use Rattle.nc_round.specs.Waking.{aggregates_of, affected_over, AreWoken}
use Rattle.nc_round.proofs.NumberedRows.{more_woken, row_kept, row_woken}
use Rattle.nc_round.proofs.waking.wake.Goals as goal

pub get-peerings-requires : goal.get-peerings-requires
get-peerings-requires c = omega (arith, c.requires.router, c.requires.all.count)

pub add_affected-requires-clause-peerings : goal.add_affected-requires-clause-peerings
add_affected-requires-clause-peerings c = c.requires.all.each c.args.router.0 c.get-peerings.result.now c.get-peerings.ensures

pub add_affected-requires-clause-noted : goal.add_affected-requires-clause-noted
add_affected-requires-clause-noted c = subst (All (IsNumbered c.args.ribs.now.prefixes)) (sym c.clear.ensures.items) (All-nil (IsNumbered c.args.ribs.now.prefixes))

pub add_around-requires-clause-known : goal.add_around-requires-clause-known
add_around-requires-clause-known c =
    subst (All (λ (a : AggregateStatement). Contains c.args.ribs.now.prefixes a.prefix)) (sym (c.aggregate_statements-aggregates.ensures c.args.inputs.now.network.now c.args.inputs.now.base.now c.args.inputs.now.sessions.now c.args.router.0 (c.requires.all.each c.args.router.0 c.get-peerings.result.now c.get-peerings.ensures))) (c.requires.known c.args.router.0)

pub returns-clause-added : goal.returns-clause-added
returns-clause-added c = c.in_ok-wake_each.ensures ∙ ap (λ (l : List Numbered). c.args.woken.now.items ++ map (numbered_row c.args.router) l) c.deref.ensures.value

pub returns-clause-noted : goal.returns-clause-noted
returns-clause-noted c = c.keep_once.ensures.numbers c.args.ribs.now.prefixes c.in_ok-add_around.ensures.numbers

pub returns-clause-kept : goal.returns-clause-kept
returns-clause-kept c k some =
    subst (λ (l : List NumberedRow). Contains (map row_key l) k) (sym c.in_ok-wake_each.ensures)
    (row_kept c.args.ribs.now.prefixes c.args.router c.args.woken.now.items c.deref.result.now k some)

-- what is noted of a router, in two parts
abbrev around : List Cidr → List AggregateStatement → List Cidr
around changed aggregates = map (λ a. a.prefix) (filter (λ a. list_any (λ q. is_longer_in q a.prefix) changed) aggregates)

noted_is : (f : SessionRow → List Cidr) (before first second changed there : List Cidr) (rows read : List SessionRow) (aggregates known : List AggregateStatement) → before ≡ [] → first ≡ before ++ flat_map f rows → second ≡ first ++ around changed aggregates
    → rows ≡ read → changed ≡ there → aggregates ≡ known → second ≡ flat_map f read ++ around there known
noted_is f before first second changed there rows read aggregates known none e1 e2 e3 e4 e5 =
    e2 ∙ ap (λ (l : List Cidr). l ++ around changed aggregates) (e1 ∙ ap (λ (l : List Cidr). l ++ flat_map f rows) none ∙ ap (flat_map f) e3)
    ∙ ap (λ (l : List Cidr). flat_map f read ++ around l aggregates) e4
    ∙ ap (λ (l : List AggregateStatement). flat_map f read ++ around there l) e5

pub returns-clause-woken : goal.returns-clause-woken
returns-clause-woken c p some =
    let lists : List (List Cidr) = listed c.args.lists.now in
    let i = c.args.inputs.now in
    let router = c.args.router.0 in
    let all : List Numbered = c.add_around.new.noted.items in
    let noted = noted_is (affected_over i c.args.ribs.now.rows lists router) (prefixes_of c.clear.new.self.items) (prefixes_of c.add_affected.new.noted.items) (prefixes_of all) (prefixes_of c.changed_at.result.now) (slice_index_or lists router []) c.rows-rows.result.now (slice_index_or i.sessions.now router [])
    c.aggregate_statements-aggregates.result.now (aggregates_of i.network.now router) (ap prefixes_of c.clear.ensures.items) c.in_ok-add_affected.ensures.prefixes c.in_ok-add_around.ensures.prefixes c.rows-rows.ensures.rows c.changed_at.ensures.prefixes (c.aggregate_statements-aggregates.ensures c.args.inputs.now.network.now c.args.inputs.now.base.now c.args.inputs.now.sessions.now c.args.router.0 (c.requires.all.each c.args.router.0 c.get-peerings.result.now c.get-peerings.ensures)) in
    let at = in_by_map (λ (n : Numbered). n.prefix) all p (in_by_contains (prefixes_of all) p (subst (λ (l : List Cidr). Contains l p) (sym noted) some)) in
    let once : Contains c.keep_once.new.noted.items at.0 = c.keep_once.ensures.kept c.args.ribs.now.prefixes c.in_ok-add_around.ensures.numbers at.0 (contains_by_in all at.0 at.1) in
    subst (λ (l : List NumberedRow). Contains (map row_key l) (c.args.router, p)) (sym c.in_ok-wake_each.ensures)
    (subst (λ (q : Cidr). Contains (map row_key (c.args.woken.now.items ++ map (numbered_row c.args.router) c.deref.result.now)) (c.args.router, q)) at.2
    (row_woken c.args.ribs.now.prefixes c.args.router c.args.woken.now.items c.deref.result.now at.0 (subst (λ (l : List Numbered). Contains l at.0) (sym c.deref.ensures.value) once)))

pub returns-clause-rows : goal.returns-clause-rows
returns-clause-rows c =
    let ps = c.args.ribs.now.prefixes in
    subst (AreWoken (c.args.router.0 + 1) ps) (sym c.in_ok-wake_each.ensures)
    (more_woken ps c.args.router c.args.woken.now.items c.deref.result.now c.requires.ordered c.requires.woken
    (subst (AllPairs (λ (a b : Numbered). a.number < b.number)) (sym c.deref.ensures.value) c.keep_once.ensures.ordered)
    (subst (All (IsNumbered ps)) (sym c.deref.ensures.value) (c.keep_once.ensures.numbers ps c.in_ok-add_around.ensures.numbers)))
