use Rattle.std.proofs.Common.{◌≡◌, [], length, map, sym, ap, ◌∙◌}
use Rattle.std.proofs.lemmas.Bool.{eqb-true}
use Rattle.std.proofs.lemmas.Option.{slice_get-get_or}
use Rattle.nc_tables.specs.Rounds.{bgp_row_view}
use Rattle.nc_tables.specs.Spread.{with_prefix}
use Rattle.nc_tables.proofs.Spread.{choice_read, none_of}
use Rattle.nc_tables.proofs.router_rows.row_at.Goals as goal

pub returns-then-is_empty-clause-chosen : goal.returns-then-is_empty-clause-chosen
returns-then-is_empty-clause-chosen c =
    let s = c.args.spread in
    let held = c.held_of-held.result.now in
    let none : held ≡ [] = none_of held (eqb-true (length held) 0 (sym c.is_empty.ensures ∙ c.if-is_empty.true)) in
    sym (ap (map (with_prefix _)) none) ∙ choice_read (map bgp_row_view s.own.now) s.standing.now s.prefixes.now s.places.now c.args.number _ _ held c.requires.spread.0.count c.requires.number c.held_of-held.ensures

pub returns-clause-prefix : goal.returns-clause-prefix
returns-clause-prefix c = slice_get-get_or c.args.spread.prefixes.now c.args.number c.index-spread-number.result c.requires.number

pub returns-clause-chosen : goal.returns-clause-chosen
returns-clause-chosen c =
    let s = c.args.spread in
    choice_read (map bgp_row_view s.own.now) s.standing.now s.prefixes.now s.places.now c.args.number _ _ c.held_of-held.result.now c.requires.spread.0.count c.requires.number c.held_of-held.ensures
