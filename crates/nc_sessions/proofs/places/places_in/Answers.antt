use Rattle.std.proofs.Common.{◌≡◌, ◌==◌, ℕ, None, Option, ap, sym, ◌∙◌, rules}
use Rattle.std.specs.List.{position_from}
use Rattle.std.specs.Option.{option_or}
use Rattle.std.proofs.lemmas.Iterator.Adapters.{position_from-zero}
use Rattle.nc_types.specs.declared.config.Neighbor.{Neighbor}
use Rattle.nc_sessions.specs.Statements.{place_by}
use Rattle.nc_sessions.proofs.places.places_in.Goals as goal

pub neighbors-init : goal.neighbors-init
neighbors-init c addr =
    let none : place_by c.new-places.result addr ≡ None = search rules in
    ap (λ (o : Option ℕ). option_or o (position_from (λ (n : Neighbor). n.addr.0 == addr) 0 c.args.neighbors.now)) none ∙ sym (position_from-zero (λ (n : Neighbor). n.addr.0 == addr) c.args.neighbors.now)
