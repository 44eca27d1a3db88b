use Rattle.std.proofs.Common.{List, map, subst}
use Rattle.nc_types.specs.Cidr.{Cidr}
use Rattle.nc_types.specs.declared.config.NetworkStatement.{NetworkStatement}
use Rattle.nc_types.specs.declared.config.AggregateStatement.{AggregateStatement}
use Rattle.nc_network.specs.Steps.{Fits}
use Rattle.nc_network.proofs.Counted.{both, many-first}
use Rattle.nc_network.proofs.limits.add_process.Goals as goal

abbrev of_networks : List NetworkStatement → List Cidr
of_networks ns = map (λ n. n.prefix) ns

abbrev of_aggregates : List AggregateStatement → List Cidr
of_aggregates as_of = map (λ a. a.prefix) as_of

pub returns-then-not-branch : goal.returns-then-not-branch
returns-then-not-branch c =
    let old = c.args.seen.now.keys in
    let p = c.args.process.now in
    let first = subst (λ (ns : List NetworkStatement). Fits c.in_ok-add_networks.field-0 old c.add_networks.new.seen.keys (of_networks ns)) c.deref.ensures.value c.in_ok-add_networks.ensures in
    many-first _ old c.add_networks.new.seen.keys _ (of_networks p.networks.items) (of_aggregates p.aggregates.items) first c.if-not-branch.true

pub returns : goal.returns
returns c =
    let old = c.args.seen.now.keys in
    let p = c.args.process.now in
    let first = subst (λ (ns : List NetworkStatement). Fits c.in_ok-add_networks.field-0 old c.add_networks.new.seen.keys (of_networks ns)) c.deref.ensures.value c.in_ok-add_networks.ensures in
    let second = subst (λ (ns : List AggregateStatement). Fits c.in_ok-fits.fits c.add_networks.new.seen.keys c.add_aggregates.new.seen.keys (of_aggregates ns)) c.deref-2.ensures.value c.in_ok-fits.ensures in
    both _ c.in_ok-fits.fits old c.add_networks.new.seen.keys c.add_aggregates.new.seen.keys (of_networks p.networks.items) (of_aggregates p.aggregates.items) first c.if-not-branch.false second
