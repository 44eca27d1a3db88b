use Rattle.std.proofs.Common.{ℕ, Option, ap, ◌∙◌}
use Rattle.nc_tables.specs.declared.bgp.Chosen.{Chosen}
use Rattle.nc_tables.specs.Rounds.{entry_at}
use Rattle.nc_decision.specs.BestPath.{best_with}
use Rattle.nc_message.proofs.PeerFirst.{none_learnt_alone}
use Rattle.nc_decision.proofs.Standing.{stands_at}
use Rattle.nc_decision.proofs.best_learnt.prefer_at.Goals as goal

pub prefer-requires-clause-peering : goal.prefer-requires-clause-peering
prefer-requires-clause-peering c =
    let i = c.args.inputs.now in
    (stands_at i.network.now i.base.now i.sessions.now c.args.router.0 c.args.peerings.now c.requires.peerings c.args.place c.requires.place _ c.in-Some.ensures).peering

pub returns-in_default-clause-best : goal.returns-in_default-clause-best
returns-in_default-clause-best c =
    let i = c.args.inputs.now in
    ap (λ (o : Option Chosen). best_with o c.args.best.now)
    (none_learnt_alone i.network.now i.base.now i.sessions.now c.args.ribs.now.rows c.args.router.0 c.args.place c.args.of.now.prefix
    (stands_at i.network.now i.base.now i.sessions.now c.args.router.0 c.args.peerings.now c.requires.peerings c.args.place c.requires.place _ c.in_default.ensures).none)

pub returns-clause-best : goal.returns-clause-best
returns-clause-best c =
    let i = c.args.inputs.now in
    c.prefer.ensures.best
    ∙ ap (λ (n : ℕ). best_with (entry_at i.network.now i.base.now i.sessions.now c.args.ribs.now.rows c.args.router.0 n c.args.of.now.prefix) c.args.best.now)
    (stands_at i.network.now i.base.now i.sessions.now c.args.router.0 c.args.peerings.now c.requires.peerings c.args.place c.requires.place _ c.in-Some.ensures).own
