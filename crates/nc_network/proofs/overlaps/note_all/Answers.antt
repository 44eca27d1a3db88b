use Rattle.std.proofs.Common.{◌≡◌, ℕ, ◌+◌, ◌-◌, ◌<◌, List, [], ◌++◌, drop, length, ap, sym, ◌∙◌, subst, arith}
use Rattle.std.specs.List.{filter_map}
use Rattle.std.specs.Option.{option_to_list}
use Rattle.std.proofs.lemmas.List.{append-nil}
use Rattle.nc_types.specs.Joining.{Used, earliest, with_later}
use Rattle.nc_network.specs.Steps.{merge, used_of, Heads, by_prefix, same_pairs}
use Rattle.nc_types.proofs.Walks.{drop_back}
use Rattle.nc_network.proofs.Walks.{kept-before}
use Rattle.nc_network.proofs.OverlapTotals.{cidrs-more, same-more}
use Rattle.nc_network.proofs.overlaps.note_all.Goals as goal

pub interfaces-preserved : goal.interfaces-preserved
interfaces-preserved c =
    let r = c.args.router in
    let items = c.args.interfaces.now in
    let item = c.index-interfaces-at.result in
    let at = c.interfaces.at - 1 in
    let next : at + 1 ≡ c.interfaces.at = omega arith in
    let within : at < length items = omega (arith, c.interfaces.invariant.within) in
    let later = filter_map (used_of r) (drop c.interfaces.at items) in
    let cut = drop_back items at c.interfaces.at item next c.index-interfaces-at.is within in
    let joined : option_to_list (used_of r item) ++ later ≡ filter_map (used_of r) (drop at items) =
    ap (λ (xs : List Used). option_to_list (used_of r item) ++ xs) (sym (append-nil later)) ∙ kept-before (used_of r) item (drop c.interfaces.at items) (drop at items) [] cut ∙ append-nil (filter_map (used_of r) (drop at items)) in
    record {
      within = omega (arith, c.interfaces.invariant.within);
      heads = subst (λ (xs : List Used). Heads by_prefix c.note_one.new.heads.entries xs) joined (c.in_ok-found.ensures.heads later c.interfaces.invariant.heads);
      cidrs = cidrs-more r item (drop c.interfaces.at items) (drop at items) cut c.in_ok-found.ensures.cidrs c.interfaces.invariant.cidrs;
      found =
          same-more r item (drop c.interfaces.at items) (drop at items) c.args.found c.interfaces.found c.in_ok-found.found cut c.interfaces.invariant.found
          (c.in_ok-found.ensures.found later c.interfaces.invariant.heads c.interfaces.invariant.cidrs);
    }

pub returns-clause-found : goal.returns-clause-found
returns-clause-found c =
    let r = c.args.router in
    let items = c.args.interfaces.now in
    let none : c.interfaces.at ≡ 0 = omega arith in
    c.interfaces.invariant.found ∙ ap (λ (n : ℕ). merge c.args.found (earliest (with_later (same_pairs r) (filter_map (used_of r) (drop n items))))) none
