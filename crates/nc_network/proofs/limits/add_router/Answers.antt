use Rattle.std.proofs.Common.{List, [], ◌++◌, map, subst}
use Rattle.std.specs.List.{filter_map}
use Rattle.std.specs.Option.{option_map, option_map_or}
use Rattle.nc_types.specs.Cidr.{Cidr}
use Rattle.nc_types.specs.declared.config.Interface.{Interface}
use Rattle.nc_types.specs.declared.config.StaticRoute.{StaticRoute}
use Rattle.nc_types.specs.declared.config.RouterConfig.{RouterConfig}
use Rattle.nc_types.specs.Config.{process_view}
use Rattle.nc_network.specs.Judged.{process_prefixes}
use Rattle.nc_network.specs.Steps.{Fits}
use Rattle.nc_network.proofs.Counted.{both, many-first}
use Rattle.nc_network.proofs.limits.add_router.Goals as goal

abbrev of_interfaces : List Interface → List Cidr
of_interfaces is = filter_map (λ i. option_map (λ a. a.prefix) i.address) is

abbrev of_statics : List StaticRoute → List Cidr
of_statics ss = map (λ s. s.prefix) ss

abbrev of_process : RouterConfig → List Cidr
of_process config = option_map_or process_prefixes (option_map process_view config.process) []

pub returns-then-not-branch : goal.returns-then-not-branch
returns-then-not-branch c =
    let old = c.args.seen.now.keys in
    let config = c.args.config.now in
    let first = subst (λ (is : List Interface). Fits c.in_ok-add_interfaces.field-0 old c.add_interfaces.new.seen.keys (of_interfaces is)) c.deref.ensures.value c.in_ok-add_interfaces.ensures in
    many-first _ old c.add_interfaces.new.seen.keys _ (of_interfaces config.interfaces.items) (of_statics config.statics.items ++ of_process config) first c.if-not-branch.true

pub returns-then-not-branch-2 : goal.returns-then-not-branch-2
returns-then-not-branch-2 c =
    let old = c.args.seen.now.keys in
    let config = c.args.config.now in
    let first = subst (λ (is : List Interface). Fits c.in_ok-add_interfaces.field-0 old c.add_interfaces.new.seen.keys (of_interfaces is)) c.deref.ensures.value c.in_ok-add_interfaces.ensures in
    let second = subst (λ (ss : List StaticRoute). Fits c.in_ok-add_statics.field-0 c.add_interfaces.new.seen.keys c.add_statics.new.seen.keys (of_statics ss)) c.deref-2.ensures.value c.in_ok-add_statics.ensures in
    let stop = many-first _ c.add_interfaces.new.seen.keys c.add_statics.new.seen.keys c.add_statics.new.seen.keys (of_statics config.statics.items) (of_process config) second c.if-not-branch-2.true in
    both _ _ old c.add_interfaces.new.seen.keys c.add_statics.new.seen.keys (of_interfaces config.interfaces.items) (of_statics config.statics.items ++ of_process config) first c.if-not-branch.false stop

pub returns : goal.returns
returns c =
    let old = c.args.seen.now.keys in
    let config = c.args.config.now in
    let first = subst (λ (is : List Interface). Fits c.in_ok-add_interfaces.field-0 old c.add_interfaces.new.seen.keys (of_interfaces is)) c.deref.ensures.value c.in_ok-add_interfaces.ensures in
    let second = subst (λ (ss : List StaticRoute). Fits c.in_ok-add_statics.field-0 c.add_interfaces.new.seen.keys c.add_statics.new.seen.keys (of_statics ss)) c.deref-2.ensures.value c.in_ok-add_statics.ensures in
    let rest = both _ c.in_ok-fits.fits c.add_interfaces.new.seen.keys c.add_statics.new.seen.keys c.add_some.new.seen.keys (of_statics config.statics.items) (of_process config) second c.if-not-branch-2.false c.in_ok-fits.ensures in
    both _ c.in_ok-fits.fits old c.add_interfaces.new.seen.keys c.add_some.new.seen.keys (of_interfaces config.interfaces.items) (of_statics config.statics.items ++ of_process config) first c.if-not-branch.false rest
