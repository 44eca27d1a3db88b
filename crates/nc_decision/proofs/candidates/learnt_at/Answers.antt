use Rattle.std.proofs.Common.{ℕ, ap, ◌∙◌}
use Rattle.nc_tables.specs.Rounds.{entry_at}
use Rattle.nc_message.proofs.PeerFirst.{none_learnt_alone}
use Rattle.nc_decision.proofs.Standing.{stands_at}
use Rattle.nc_decision.proofs.candidates.learnt_at.Goals as goal

pub feasible_by-requires-clause-peering : goal.feasible_by-requires-clause-peering
feasible_by-requires-clause-peering c =
    let i = c.args.inputs.now in
    (stands_at i.network.now i.base.now i.sessions.now c.args.router.0 c.args.peerings.now c.requires.peerings c.args.place c.requires.place _ c.in_ok-peering.ensures).peering

pub returns-in_err-peering-clause-feasible : goal.returns-in_err-peering-clause-feasible
returns-in_err-peering-clause-feasible c =
    let i = c.args.inputs.now in
    c.from_residual.ensures
    ∙ none_learnt_alone i.network.now i.base.now i.sessions.now c.args.ribs.now.rows c.args.router.0 c.args.place c.args.of.now.prefix
    (stands_at i.network.now i.base.now i.sessions.now c.args.router.0 c.args.peerings.now c.requires.peerings c.args.place c.requires.place _ c.in_err-peering.ensures).none

pub returns-clause-feasible : goal.returns-clause-feasible
returns-clause-feasible c =
    let i = c.args.inputs.now in
    c.feasible_by.ensures.feasible
    ∙ ap (λ (n : ℕ). entry_at i.network.now i.base.now i.sessions.now c.args.ribs.now.rows c.args.router.0 n c.args.of.now.prefix)
    (stands_at i.network.now i.base.now i.sessions.now c.args.router.0 c.args.peerings.now c.requires.peerings c.args.place c.requires.place _ c.in_ok-peering.ensures).own
