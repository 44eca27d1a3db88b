use Rattle.std.proofs.Common.{◌≤◌, ℕ, [], Option, Some, None, All, IfSome, length, option_to_list, slice_index_or, refl, sym, ap, subst, ◌∙◌, arith}
use Rattle.std.proofs.lemmas.List.Elements.{All-append}
use Rattle.nc_types.specs.Config.{process_view}
use Rattle.nc_types.specs.declared.TheConstants.{MULTIPATH_LIMIT}
use Rattle.nc_types.specs.declared.config.AggregateStatement.{AggregateStatement}
use Rattle.nc_types.specs.declared.config.NetworkStatement.{NetworkStatement}
use Rattle.nc_tables.specs.Base.{same_prefix}
use Rattle.nc_tables.specs.declared.bgp.BgpFrom.TheVariants.{Aggregate, Origin}
use Rattle.nc_tables.specs.declared.bgp.Chosen.{Chosen}
use Rattle.nc_tables.specs.Rounds.{begun, has_longer}
use Rattle.nc_decision.specs.Beginning.{aggregates_of, has_base_row, networks_of}
use Rattle.nc_message.specs.Inputs.{IsOf}
use Rattle.nc_decision.proofs.Making.{kept_all}
use Rattle.nc_decision.proofs.Preferred.{alone_own, best_chosen, from_own}
use Rattle.nc_decision.proofs.Standing.{as_many}
use Rattle.nc_decision.proofs.choosing.best_alone.Goals as goal

pub best_learnt-best-requires-clause-all : goal.best_learnt-best-requires-clause-all
best_learnt-best-requires-clause-all c =
    let i = c.args.inputs.now in
    as_many i.network.now i.base.now i.sessions.now c.args.router.0 c.args.peerings.now c.requires.peerings (process_view c.args.process.now) c.requires.process

one_at_most : (o : Option Chosen) → length (option_to_list o) ≤ MULTIPATH_LIMIT
one_at_most None = omega arith
one_at_most (Some x) = omega arith

pub returns-clause-chosen : goal.returns-clause-chosen
returns-clause-chosen c =
    let i = c.args.inputs.now in
    c.in_ok-chosen.ensures
    ∙ best_chosen i.network.now i.base.now i.sessions.now c.args.ribs.now.rows c.args.router.0 (process_view c.args.process.now) c.args.of.now.prefix c.requires.single
    c.in_ok-begun.begun.items c.best_learnt-best.result c.prefer_each.new.best c.in_ok-begun.ensures
    c.best_learnt-best.ensures.best c.prefer_each.ensures

pub returns-clause-own : goal.returns-clause-own
returns-clause-own c =
    let p = c.args.of.now.prefix in
    let holds = has_base_row c.args.inputs.now.base.now c.args.router.0 p in
    let longer = has_longer (slice_index_or c.args.ribs.now.rows c.args.router.0 []) p in
    let first : All (IsOf p) (networks_of holds p c.args.process.now.networks.items) = kept_all (IsOf p) (λ (n : NetworkStatement). same_prefix n.prefix p) holds (λ (k : ℕ). begun p (Origin k)) (λ k. refl) c.args.process.now.networks.items in
    let second : All (IsOf p) (aggregates_of longer p c.args.process.now.aggregates.items) = kept_all (IsOf p) (λ (a : AggregateStatement). same_prefix a.prefix p) longer (λ (k : ℕ). begun p (Aggregate k)) (λ k. refl) c.args.process.now.aggregates.items in
    let both : All (IsOf p) c.in_ok-begun.begun.items = subst (All (IsOf p)) (sym c.in_ok-begun.ensures) (All-append (IsOf p) (networks_of holds p c.args.process.now.networks.items) (aggregates_of longer p c.args.process.now.aggregates.items) first second) in
    let best : IfSome c.prefer_each.new.best (IsOf p) = subst (λ (o : Option Chosen). IfSome o (IsOf p)) (sym c.prefer_each.ensures) (from_own (IsOf p) c.in_ok-begun.begun.items c.best_learnt-best.result both c.best_learnt-best.ensures.own) in
    subst (All (IsOf p)) (sym c.in_ok-chosen.ensures) (alone_own (IsOf p) c.prefer_each.new.best best)

pub returns-clause-few : goal.returns-clause-few
returns-clause-few c = omega (arith, ap (length {A = Chosen}) c.in_ok-chosen.ensures, one_at_most c.prefer_each.new.best)
