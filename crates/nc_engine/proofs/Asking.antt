-- A test is asked of the rules before it is answered; but for what they know of the ways of packets all stays as it is.
use Rattle.std.proofs.Common.{◌≡◌, ℕ, Bool, List, [], subst, ◌∙◌}
use Rattle.nc_types.specs.declared.command.TestCommand.{TestCommand}
use Rattle.nc_tables.specs.State.{StateView}
use Rattle.nc_fact.specs.Tested.{tested_facts}
use Rattle.nc_rules.specs.Seen.{state_of, asked_of}
use Rattle.nc_command.specs.declared.command.Command.TheVariants.{Test}
use Rattle.nc_command.specs.Command.{Asks, text_of}
use Rattle.nc_engine.specs.declared.work.Work.{Work}
use Rattle.nc_engine.specs.Session.{State, Tests}
use Rattle.nc_engine.specs.Engine.{Infers, asked_for}
use Rattle.nc_engine.specs.Work.{SameNetwork, Told, kept_of, tests_of}
use Rattle.nc_engine.proofs.Gaining.{draws-before}

-- what is told then is told of what was before
pub told_before : (old now new : Work) (test : TestCommand) (before after : List ℕ) → SameNetwork old now → kept_of now ≡ kept_of old → asked_of now.rules ≡ asked_of old.rules → now.store ≡ old.store → Told now new test before after
    → Told old new test before after
told_before old now new test before after network kept asked store told = record {
  reply = told.reply;
  answer =
      subst (λ (s : StateView). Tests s old.listed (kept_of old) (tested_facts s test) (text_of test) told.reply (kept_of new)) network.state
      (subst (λ (listed : Bool). Tests (state_of now.rules) listed (kept_of old) (tested_facts (state_of now.rules) test) (text_of test) told.reply (kept_of new)) network.listed
      (subst (λ (k : State). Tests (state_of now.rules) now.listed k (tested_facts (state_of now.rules) test) (text_of test) told.reply (kept_of new)) kept told.answer));
  text = told.text;
  network = record { state = told.network.state ∙ network.state; listed = told.network.listed ∙ network.listed; dead = told.network.dead ∙ network.dead };
  infers =
      subst (λ (s : StateView). Infers s (tests_of old) (asked_for s (tests_of old) (Asks (Test test))) (asked_of old.rules) (asked_of new.rules)) network.state
      (subst (λ (k : State). Infers (state_of now.rules) k.tests (asked_for (state_of now.rules) k.tests (Asks (Test test))) (asked_of old.rules) (asked_of new.rules)) kept
      (subst (λ (n : ℕ). Infers (state_of now.rules) (tests_of now) (asked_for (state_of now.rules) (tests_of now) (Asks (Test test))) n (asked_of new.rules)) asked told.infers));
  draws = draws-before old now new [] network.state store told.draws;
}
