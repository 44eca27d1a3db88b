use Rattle.std.proofs.Common.{◌≡◌, ◌+◌, ◌-◌, ◌<◌, List, ◌++◌, map, drop, length, sym, ap, ◌∙◌, subst, arith}
use Rattle.std.specs.List.{flat_map, filter_map}
use Rattle.nc_types.specs.declared.config.Interface.{Interface}
use Rattle.nc_types.specs.Config.{config_view}
use Rattle.nc_types.specs.Joining.{Numbered, earliest, with_later, numbered_from, used_by}
use Rattle.nc_network.specs.Steps.{merge, first_of_all, used_of, Heads, by_address, address_pairs, router_addresses}
use Rattle.nc_network.proofs.Walks.{numbered, numbered_back}
use Rattle.nc_network.proofs.HeadLemmas.{routers-more}
use Rattle.nc_network.proofs.addresses.address_clash.Goals as goal

pub routers-preserved : goal.routers-preserved
routers-preserved c =
    let routers = c.args.routers.now in
    let config = c.index-routers-at.result in
    let at = c.routers.at - 1 in
    let next : at + 1 ≡ c.routers.at = omega arith in
    let within : at < length routers = omega (arith, c.routers.invariant.within) in
    let ns = numbered_from c.routers.at (drop c.routers.at (map config_view routers)) in
    let cut = numbered_back routers at c.routers.at config next c.index-routers-at.is within in
    let later = flat_map used_by ns in
    record {
      within = omega (arith, c.routers.invariant.within);
      heads =
          subst (λ (ms : List Numbered). Heads by_address c.note_all.new.heads.entries (flat_map used_by ms)) (sym cut)
          (subst (λ (is : List Interface). Heads by_address c.note_all.new.heads.entries (filter_map (used_of at) is ++ later)) c.deref-in-routers.ensures.value (c.in_ok-note_all.ensures later c.routers.invariant.heads));
      found =
          routers-more (numbered at config) ns c.routers.found c.find_all-found.result c.routers.invariant.found
          (c.find_all-found.ensures later c.routers.invariant.heads ∙ ap (λ (is : List Interface). merge c.routers.found (first_of_all (address_pairs later) (filter_map (used_of at) is))) c.deref.ensures.value)
          ∙ ap (λ (ms : List Numbered). earliest (with_later router_addresses ms)) (sym cut);
    }
