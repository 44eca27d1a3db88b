use Rattle.std.proofs.Common.{ℕ, List, false, map, subst}
use Rattle.nc_outside.specs.Memory.{faults_of}
use Rattle.nc_report.specs.Views.{file_view}
use Rattle.nc_words.specs.Words.{Generated, texts}
use Rattle.nc_engine.specs.File.{LoadedView}
use Rattle.nc_session.specs.Output.{heading_in}
use Rattle.nc_session.specs.Ending.{SinkSeen, EndsRefused, ServesBehind}
use Rattle.nc_session.proofs.GeneratedEnds.{refused_calm, tree_fault, tree_inside, tree_loaded, tree_refused, tree_served}
use Rattle.nc_session.proofs.generated.run_network.Goals as goal

pub returns-in-Ok-clause-ends : goal.returns-in-Ok-clause-ends
returns-in-Ok-clause-ends g c files rest faults source =
    let before : SinkSeen = record { written = g.K.Sink.written c.args.output.now; faults = g.K.Sink.faults c.args.output.now } in
    let now : SinkSeen = record { written = g.K.Sink.written c.serve_behind.new.output; faults = g.K.Sink.faults c.serve_behind.new.output } in
    let loaded : LoadedView = record { state = c.in-Ok.loaded.settled.state; files = map file_view c.in-Ok.loaded.files.items; listed = false } in
    tree_served c.args.rounds c.args.pods files rest faults source before now c.serve_behind.result loaded
    (tree_loaded c.args.rounds c.args.pods (texts c.args.names.now) c.args.files.now.files c.requires.names c.requires.files loaded.state loaded.files c.in-Ok.ensures.loaded c.in-Ok.ensures.named)
    (subst (λ (session : List ℕ). ServesBehind (heading_in (Generated c.args.pods) loaded) loaded session before now c.serve_behind.result) c.requires.session c.serve_behind.ensures)

pub returns-in-Err-clause-ends : goal.returns-in-Err-clause-ends
returns-in-Err-clause-ends g c files rest faults source =
    let before : SinkSeen = record { written = g.K.Sink.written c.args.output.now; faults = g.K.Sink.faults c.args.output.now } in
    let now : SinkSeen = record { written = g.K.Sink.written c.refuse.new.output; faults = g.K.Sink.faults c.refuse.new.output } in
    let names = texts c.args.names.now in
    let own = c.args.files.now.files in
    let fault = c.in-Err.fault in
    tree_refused c.args.rounds c.args.pods files rest faults source before now c.refuse.result fault
    (tree_inside c.args.rounds c.args.pods names own c.requires.names c.requires.files (faults_of c.args.files.now.calls) (faults_of c.load.new.files.calls) fault c.requires.steady c.in-Err.ensures.cause)
    (tree_fault c.args.rounds c.args.pods names own c.requires.names c.requires.files fault c.in-Err.ensures.loaded)
    (subst (λ (ns : List (List ℕ)). EndsRefused ns fault before now c.refuse.result) c.requires.names c.refuse.ensures)

pub returns-in-Err-clause-calm : goal.returns-in-Err-clause-calm
returns-in-Err-clause-calm g c =
    refused_calm (texts c.args.names.now) c.in-Err.fault _ _ c.refuse.result
    (tree_inside c.args.rounds c.args.pods (texts c.args.names.now) c.args.files.now.files c.requires.names c.requires.files (faults_of c.args.files.now.calls) (faults_of c.load.new.files.calls)
    c.in-Err.fault c.requires.steady c.in-Err.ensures.cause) c.refuse.ensures
