use Rattle.std.proofs.Common.{◌<◌, List, ℕ, length, ap, arith}
use Rattle.nc_reader.specs.Parts.{with_statement, static_part}
use Rattle.nc_reader.proofs.GroupLemmas.{map-set_changed}
use Rattle.nc_reader.proofs.routes.renew.Goals as goal

pub returns : goal.returns
returns c =
    let within : c.args.place < length c.args.parts.now.items = omega (arith, c.args.parts.now.ok.0, c.requires) in
    map-set_changed static_part (with_statement c.args.line c.args.route) c.args.parts.now.items c.args.place c.index_mut-part.result.now _ within c.index_mut-part.ensures.value (ap (λ (ls : List ℕ). record { route = c.args.route; lines = ls }) c.in_ok-push.ensures.items)
