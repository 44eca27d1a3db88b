use Rattle.std.proofs.Common.{ℕ, List, ap, sym, subst}
use Rattle.nc_load.specs.declared.refusal.LoadFault.{LoadFault}
use Rattle.nc_session.specs.declared.status.Status.TheVariants.{Config, Limit, Unstable}
use Rattle.nc_words.specs.Words.{texts}
use Rattle.nc_session.specs.Refusals.{limit_text, fault_text, unsettled_text}
use Rattle.nc_load.specs.Load.{file_named}
use Rattle.nc_session.specs.Ending.{SinkSeen, EndsRefused}
use Rattle.nc_session.proofs.Ends.{said_made, made_as}
use Rattle.nc_session.proofs.runs.refuse.Goals as goal

pub returns-in-Over : goal.returns-in-Over
returns-in-Over g c =
    let before : SinkSeen = record { written = g.K.Sink.written c.args.output.now; faults = g.K.Sink.faults c.args.output.now } in
    let now : SinkSeen = record { written = g.K.Sink.written c.say_made.new.output; faults = g.K.Sink.faults c.say_made.new.output } in
    subst (λ (fault : LoadFault). EndsRefused (texts c.args.names.now) fault before now c.say_made.result) (sym c.in-Over.is)
    (said_made (λ t. t.items) Limit (limit_text c.in-Over.quantity) c.limit_line.result before now c.say_made.result c.limit_line.ensures c.say_made.ensures)

pub returns-in-Bad : goal.returns-in-Bad
returns-in-Bad g c =
    let before : SinkSeen = record { written = g.K.Sink.written c.args.output.now; faults = g.K.Sink.faults c.args.output.now } in
    let now : SinkSeen = record { written = g.K.Sink.written c.say_made-in-Bad.new.output; faults = g.K.Sink.faults c.say_made-in-Bad.new.output } in
    let text = fault_text (file_named (texts c.args.names.now) c.in-Bad.file) c.in-Bad.line c.in-Bad.reason in
    subst (λ (fault : LoadFault). EndsRefused (texts c.args.names.now) fault before now c.say_made-in-Bad.result) (sym c.in-Bad.is)
    (said_made (λ t. t.items) Config text c.fault_line-text.result before now c.say_made-in-Bad.result
    (made_as (λ t. t.items) c.fault_line-text.result (fault_text c.name_at.result.now c.in-Bad.line c.in-Bad.reason) text
    (ap (λ (name : List ℕ). fault_text name c.in-Bad.line c.in-Bad.reason) c.name_at.ensures) c.fault_line-text.ensures)
    c.say_made-in-Bad.ensures)

pub returns-in-Unsettled : goal.returns-in-Unsettled
returns-in-Unsettled g c =
    let before : SinkSeen = record { written = g.K.Sink.written c.args.output.now; faults = g.K.Sink.faults c.args.output.now } in
    let now : SinkSeen = record { written = g.K.Sink.written c.say_made-in-Unsettled.new.output; faults = g.K.Sink.faults c.say_made-in-Unsettled.new.output } in
    subst (λ (fault : LoadFault). EndsRefused (texts c.args.names.now) fault before now c.say_made-in-Unsettled.result) (sym c.in-Unsettled.is)
    (said_made (λ t. t.items) Unstable (unsettled_text c.in-Unsettled.rounds) c.unsettled_line.result before now c.say_made-in-Unsettled.result c.unsettled_line.ensures c.say_made-in-Unsettled.ensures)
