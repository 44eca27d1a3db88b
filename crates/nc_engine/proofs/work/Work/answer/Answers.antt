use Rattle.std.proofs.Common.{◌≡◌, ◌∙◌, [], map, ap, sym, subst, rules}
use Rattle.std.specs.Prelude.{Option, Ok}
use Rattle.nc_command.specs.declared.command.Command.{Command}
use Rattle.nc_command.specs.declared.command.Command.TheVariants.{Implies, Cut}
use Rattle.nc_command.specs.Command.{Line, Asks, IsRead, command_of}
use Rattle.nc_report.specs.Texts.{json_of}
use Rattle.nc_report.specs.Views.{file_view}
use Rattle.nc_rules.specs.Seen.{state_of}
use Rattle.nc_engine.specs.Engine.{HasDrawnFor, asked_about}
use Rattle.nc_engine.specs.Work.{Forms, progress_of, tests_of}
use Rattle.nc_engine.proofs.Drawing.{drawn-for}
use Rattle.nc_engine.proofs.Gaining.{draws-none, draws-same, draws-so}
use Rattle.nc_engine.proofs.work.Work.answer.Goals as goal

pub returns-in_ok-json-in-Ok-Some-Json-clause-answered : goal.returns-in_ok-json-in-Ok-Some-Json-clause-answered
returns-in_ok-json-in-Ok-Some-Json-clause-answered c =
    let files = map file_view c.args.files.now in
    let told : Forms files c.args.self.now json_of c.args.out.now.items c.json.new.out.items = c.in_ok-json-in-Ok-Some-Json.ensures files in
    let draws = draws-none (state_of c.args.self.now.rules) [] c.args.self.now.store in
    search rules

pub returns-in_ok-cut-in-Ok-Some-Cut-clause-drawn : goal.returns-in_ok-cut-in-Ok-Some-Cut-clause-drawn
returns-in_ok-cut-in-Ok-Some-Cut-clause-drawn c =
    let files = map file_view c.args.files.now in
    let new = c.cut.new.self in
    let told = c.in_ok-cut-in-Ok-Some-Cut.ensures in
    let asked = c.in-Ok-Some-Cut in
    let is : command_of c.args.line.now ≡ Asks (Cut asked.number asked.names) = subst (λ (o : Option Command). IsRead (command_of c.args.line.now) (Ok o)) asked.field-0-is asked.ensures ∙ ap Asks asked.field-0-0-is in
    subst (λ (line : Line). HasDrawnFor (progress_of files new) line c.args.out.now.items c.cut.new.out.items) (sym is)
    (drawn-for files new told.work asked.number asked.names c.args.out.now.items c.cut.new.out.items told.drawn)

pub returns-in-Ok-None-clause-answered : goal.returns-in-Ok-None-clause-answered
returns-in-Ok-None-clause-answered c =
    let draws = draws-none (state_of c.args.self.now.rules) [] c.args.self.now.store in
    search rules

pub returns-in-Ok-Some-Quit-clause-answered : goal.returns-in-Ok-Some-Quit-clause-answered
returns-in-Ok-Some-Quit-clause-answered c =
    let draws = draws-none (state_of c.args.self.now.rules) [] c.args.self.now.store in
    search rules

pub returns-in_ok-push_line-in-Err-Long-clause-answered : goal.returns-in_ok-push_line-in-Err-Long-clause-answered
returns-in_ok-push_line-in-Err-Long-clause-answered c =
    let draws = draws-none (state_of c.args.self.now.rules) [] c.args.self.now.store in
    search rules

pub returns-in_ok-push_line-in-Err-Syntax-clause-answered : goal.returns-in_ok-push_line-in-Err-Syntax-clause-answered
returns-in_ok-push_line-in-Err-Syntax-clause-answered c =
    let draws = draws-none (state_of c.args.self.now.rules) [] c.args.self.now.store in
    search rules

pub returns-in_ok-suite-in-Ok-Some-Suite-clause-answered : goal.returns-in_ok-suite-in-Ok-Some-Suite-clause-answered
returns-in_ok-suite-in-Ok-Some-Suite-clause-answered c =
    let draws = draws-none (state_of c.args.self.now.rules) [] c.args.self.now.store in
    search rules

pub returns-in_ok-show-in-Ok-Some-Show-clause-answered : goal.returns-in_ok-show-in-Ok-Some-Show-clause-answered
returns-in_ok-show-in-Ok-Some-Show-clause-answered c =
    let draws = draws-none (state_of c.args.self.now.rules) [] c.args.self.now.store in
    search rules

pub returns-in_ok-lcov-in-Ok-Some-Lcov-clause-answered : goal.returns-in_ok-lcov-in-Ok-Some-Lcov-clause-answered
returns-in_ok-lcov-in-Ok-Some-Lcov-clause-answered c =
    let draws = draws-none (state_of c.args.self.now.rules) [] c.args.self.now.store in
    search rules

pub returns-in_ok-lends-in-Ok-Some-Test-clause-answered : goal.returns-in_ok-lends-in-Ok-Some-Test-clause-answered
returns-in_ok-lends-in-Ok-Some-Test-clause-answered c =
    let draws = draws-so c.args.self.now c.test.new.self [] c.in_ok-lends-in-Ok-Some-Test.ensures.tests.draws in
    search rules

pub returns-in_ok-lends-in-Ok-Some-Forget-clause-answered : goal.returns-in_ok-lends-in-Ok-Some-Forget-clause-answered
returns-in_ok-lends-in-Ok-Some-Forget-clause-answered c =
    let draws = draws-so c.args.self.now c.forget.new.self [] c.in_ok-lends-in-Ok-Some-Forget.ensures.forgotten.draws in
    search rules

pub returns-in_ok-question-in-Ok-Some-Implies-clause-answered : goal.returns-in_ok-question-in-Ok-Some-Implies-clause-answered
returns-in_ok-question-in-Ok-Some-Implies-clause-answered c =
    let old = c.args.self.now in
    let asked = c.in-Ok-Some-Implies in
    let draws = draws-so old c.question.new.self (asked_about (tests_of old) (Asks (Implies asked.first asked.second))) c.in_ok-question-in-Ok-Some-Implies.ensures.questioned.draws in
    search rules

pub returns-in_ok-cut-in-Ok-Some-Cut-clause-answered : goal.returns-in_ok-cut-in-Ok-Some-Cut-clause-answered
returns-in_ok-cut-in-Ok-Some-Cut-clause-answered c =
    let old = c.args.self.now in
    let asked = c.in-Ok-Some-Cut in
    let draws = draws-so old c.cut.new.self (asked_about (tests_of old) (Asks (Cut asked.number asked.names))) c.in_ok-cut-in-Ok-Some-Cut.ensures.cut.draws in
    search rules

pub returns-in_ok-dead-in-Ok-Some-Dead-clause-answered : goal.returns-in_ok-dead-in-Ok-Some-Dead-clause-answered
returns-in_ok-dead-in-Ok-Some-Dead-clause-answered c =
    let old = c.args.self.now in
    let told = c.in_ok-dead-in-Ok-Some-Dead.ensures.told in
    let draws = draws-same (state_of old.rules) [] old.store c.dead.new.self.store told.store in
    search rules
