use Rattle.std.proofs.Common.{◌≡◌, ◌+◌, ◌-◌, ◌<◌, List, ◌++◌, drop, length, subst, arith}
use Rattle.std.specs.List.{filter_map}
use Rattle.nc_types.specs.Joining.{Used}
use Rattle.nc_network.specs.Steps.{used_of, Heads, by_address}
use Rattle.nc_types.proofs.Walks.{drop_back}
use Rattle.nc_network.proofs.Walks.{kept-before}
use Rattle.nc_network.proofs.addresses.note_all.Goals as goal

pub interfaces-preserved : goal.interfaces-preserved
interfaces-preserved c =
    let items = c.args.interfaces.now in
    let item = c.index-interfaces-at.result in
    let at = c.interfaces.at - 1 in
    let next : at + 1 ≡ c.interfaces.at = omega arith in
    let within : at < length items = omega (arith, c.interfaces.invariant.within) in
    let cut = drop_back items at c.interfaces.at item next c.index-interfaces-at.is within in
    record {
      within = omega (arith, c.interfaces.invariant.within);
      heads = λ later heads.
          subst (λ (xs : List Used). Heads by_address c.note_one.new.heads.entries xs) (kept-before (used_of c.args.router) item (drop c.interfaces.at items) (drop at items) later cut)
          (c.in_ok-note_one.ensures (filter_map (used_of c.args.router) (drop c.interfaces.at items) ++ later) (c.interfaces.invariant.heads later heads));
    }
