use Rattle.std.proofs.Common.{map}
use Rattle.nc_report.specs.Views.{file_view}
use Rattle.nc_engine.specs.File.{LoadedView}
use Rattle.nc_session.proofs.TakenPieces.{nothing_begun}
use Rattle.nc_session.proofs.pieces.serve.Goals as goal

pub returns-in_default-clause-leaves : goal.returns-in_default-clause-leaves
returns-in_default-clause-leaves g c =
    let loaded : LoadedView = record { state = c.args.settled.state; files = map file_view c.args.files.items; listed = c.args.listed } in
    nothing_begun loaded (g.S.Source.rest c.args.input.now) (g.K.Sink.written c.args.output.now)
    (c.sessions_go_on.ensures loaded c.network-state.ensures.state)

pub returns-clause-leaves : goal.returns-clause-leaves
returns-clause-leaves g c =
    let loaded : LoadedView = record { state = c.args.settled.state; files = map file_view c.args.files.items; listed = c.args.listed } in
    c.serve_pieces-status.ensures.leaves loaded c.in-Ok.ensures.progress (c.sessions_go_on.ensures loaded c.network-state.ensures.state)
