use Rattle.std.proofs.Common.{rules, ◌≡◌, ℕ, ◌≤◌, Option, sym, ap, ◌∙◌, arith}
use Rattle.std.specs.Option.{option_map}
use Rattle.std.specs.Map.{lookup}
use Rattle.nc_types.specs.Cidr.{Cidr}
use Rattle.nc_types.specs.Masks.{network_of}
use Rattle.nc_types.specs.Joining.{Clash, Used}
use Rattle.nc_network.specs.Steps.{merge, first_of_all, by_prefix, lines_clash, in_shorter, in_length}
use Rattle.nc_network.proofs.ClashOrder.{merge-none, merge_assoc}
use Rattle.nc_network.proofs.OverlapLemmas.{length-found, shorter-none, shorter-more}
use Rattle.nc_network.proofs.overlaps.find_shorter.Goals as goal

pub lengths-init : goal.lengths-init
lengths-init c = λ all heads valid long.
    let x : Used = record { router = c.args.router; line = c.args.line; address = c.args.address } in
    sym (merge-none c.args.found) ∙ ap (merge c.args.found) (sym (shorter-none c.args.router c.args.least x all long c.min-len.result (search rules)))

pub lengths-preserved : goal.lengths-preserved
lengths-preserved c = λ all heads valid long.
    let r = c.args.router in
    let x : Used = record { router = r; line = c.args.line; address = c.args.address } in
    let len = c.lengths.len in
    let own : len ≤ x.address.prefix.len = omega (arith, c.len-own.ensures.len) in
    let q : Cidr = record { base = network_of x.address.prefix.base len; len = len } in
    let same : c.around.result ≡ q = c.around.ensures ∙ ap (λ (base : ℕ). let p : Cidr = record { base = network_of base len; len = len } in p) c.addr-base.ensures.base in
    let here = first_of_all (in_length r len x) all in
    c.find-found.ensures ∙ ap (λ (p : Cidr). merge c.lengths.found (option_map (lines_clash r c.args.line) (lookup (by_prefix.same p) c.args.heads.now.entries))) same
    ∙ ap (λ (o : Option ℕ). merge c.lengths.found (option_map (lines_clash r c.args.line) o)) (heads q) ∙ ap (merge c.lengths.found) (sym (length-found r len x all valid own))
    ∙ ap (λ (o : Option Clash). merge o here) (c.lengths.invariant all heads valid long) ∙ merge_assoc c.args.found (first_of_all (in_shorter r len x) all) here
    ∙ ap (merge c.args.found) (sym (shorter-more r len x all))
