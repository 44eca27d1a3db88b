use Rattle.std.proofs.Common.{◌≡◌, ◌+◌, Bool, true, false, cond, Some, map, sym, ap, ◌∙◌}
use Rattle.std.specs.Str.{bytes_eq}
use Rattle.nc_types.specs.declared.config.Clause.{Clause}
use Rattle.nc_types.specs.Config.{ClauseView, clause_view}
use Rattle.nc_policy.specs.Indexes.{place_from}
use Rattle.nc_policy.proofs.Naming.{views_back}
use Rattle.nc_policy.proofs.clauses.clause_from.Goals as goal

pub returns-then-eq : goal.returns-then-eq
returns-then-eq c =
    let clauses = c.args.clauses.now in
    let place = c.clauses.place in
    let clause = c.index-clauses-place.result in
    let name = c.args.name.now in
    let behind = place_from name (place + 1) (map (λ (k : ClauseView). k.map_name) (map clause_view clauses)) in
    let same : bytes_eq name clause.map ≡ true = ap (λ (x : Clause). bytes_eq name x.map) c.index-clauses-place.is ∙ ap (bytes_eq name) (sym c.bytes.ensures) ∙ sym c.eq.ensures ∙ c.if-eq.true in
    sym (ap (λ (b : Bool). cond b (Some place) behind) same) ∙ sym (views_back (λ (k : ClauseView). k.map_name) clause_view clauses place clause c.index-clauses-place.is c.clauses-test.true name)
    ∙ c.clauses.invariant

pub clauses-preserved : goal.clauses-preserved
clauses-preserved c =
    let clauses = c.args.clauses.now in
    let place = c.clauses.place in
    let clause = c.index-clauses-place.result in
    let name = c.args.name.now in
    let behind = place_from name (place + 1) (map (λ (k : ClauseView). k.map_name) (map clause_view clauses)) in
    let other : bytes_eq name clause.map ≡ false = ap (λ (x : Clause). bytes_eq name x.map) c.index-clauses-place.is ∙ ap (bytes_eq name) (sym c.bytes.ensures) ∙ sym c.eq.ensures ∙ c.if-eq.false in
    sym (ap (λ (b : Bool). cond b (Some place) behind) other) ∙ sym (views_back (λ (k : ClauseView). k.map_name) clause_view clauses place clause c.index-clauses-place.is c.clauses-test.true name)
    ∙ c.clauses.invariant
