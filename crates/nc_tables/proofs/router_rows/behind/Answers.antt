use Rattle.std.proofs.Common.{◌<◌, ◌-◌, List, ℕ, All, drop, length, map, take, ap, subst, sym, ◌∙◌}
use Rattle.std.proofs.lemmas.List.{take_rest}
use Rattle.std.proofs.lemmas.List.Elements.{All-drop}
use Rattle.nc_types.specs.Cidr.{Cidr}
use Rattle.nc_tables.specs.Rounds.{bgp_row_view}
use Rattle.nc_tables.specs.Spread.{spread_rows}
use Rattle.nc_tables.specs.SpreadView.{ArePlaced}
use Rattle.nc_tables.proofs.OwnRows.{placed_left, same_spread}
use Rattle.nc_tables.proofs.router_rows.behind.Goals as goal

pub returns-clause-rows : goal.returns-clause-rows
returns-clause-rows c =
    let s = c.args.spread in
    let n = c.args.count in
    let own = map bgp_row_view c.left_behind.result.now in
    ap (λ (l : List Cidr). spread_rows own s.standing.now l (take (length s.places.now - n) (drop n s.places.now))) (take_rest s.prefixes.now n)
    ∙ ap (λ (l : List ℕ). spread_rows own s.standing.now (drop n s.prefixes.now) l) (take_rest s.places.now n)
    ∙ same_spread own (map bgp_row_view s.own.now) s.standing.now (drop n s.prefixes.now) (drop n s.places.now) c.left_behind.ensures.same

pub returns-clause-spread : goal.returns-clause-spread
returns-clause-spread c =
    let s = c.args.spread in
    let n = c.args.count in
    let placed = placed_left n s.prefixes.now s.places.now c.requires.spread.0 in
    let within : All (λ place. place < length s.standing.now) (drop n s.places.now) = All-drop (λ (place : ℕ). place < length s.standing.now) n s.places.now c.requires.spread.1.within in (
      subst (λ (l : List Cidr). ArePlaced l (take (length s.places.now - n) (drop n s.places.now))) (sym (take_rest s.prefixes.now n)) (subst (λ (l : List ℕ). ArePlaced (drop n s.prefixes.now) l) (sym (take_rest s.places.now n)) placed),
      record { own = c.left_behind.ensures.valid; few = c.requires.spread.1.few; within = subst (All (λ place. place < length s.standing.now)) (sym (take_rest s.places.now n)) within },
    )
