use Rattle.std.proofs.Common.{◌≡◌, ◌++◌, ◌∙◌, Bool, List, is_some, refl, sym, ap, subst}
use Rattle.nc_types.specs.Config.{ConfigView}
use Rattle.nc_tables.specs.State.{StateView, IsState}
use Rattle.nc_formula.specs.Session.{AreDrawn}
use Rattle.nc_report.specs.Sheets.{sheets_from}
use Rattle.nc_rules.specs.Rules.{flow_of}
use Rattle.nc_rules.specs.Seen.{state_of, asked_of}
use Rattle.nc_command.specs.declared.command.Command.TheVariants.{Dead}
use Rattle.nc_command.specs.Command.{Asks}
use Rattle.nc_engine.specs.Engine.{InfersFor}
use Rattle.nc_engine.specs.Session.{IsCrowded, posed_in}
use Rattle.nc_engine.specs.Work.{IsMarked, IsKnownDead, kept_of, known_text, tests_of}
use Rattle.nc_engine.proofs.Unmarked.{told-by}
use Rattle.nc_engine.proofs.work.Work.dead.Goals as goal

pub returns-clause-work : goal.returns-clause-work
returns-clause-work c =
    let old = c.args.self.now in
    let was = c.requires in
    let same = c.known_dead.ensures.state in
    record {
      state = subst IsState (sym same) was.state;
      marked = subst (λ (s : StateView). IsMarked s (tests_of old) old.graph old.marks) (sym same) was.marked;
      nodes = was.nodes;
      drawn = subst (λ (s : StateView). AreDrawn (flow_of s) (posed_in (kept_of old)) old.graph old.store old.formulas) (sym same) was.drawn;
      answered = was.answered;
      room = was.room;
      shown = subst (λ (s : StateView). old.shown ≡ sheets_from s.routers old.marks.marks 0 s.routers) (sym same) was.shown;
      few = was.few;
      crowded = λ place raised. subst (λ (s : StateView). IsCrowded s (kept_of old)) (sym same) (was.crowded place raised);
      dead = λ known is.
          let known_is : c.in_ok-known.known ≡ known = cc in
          subst (λ (s : StateView). IsKnownDead s known) (sym same) (subst (IsKnownDead (state_of old.rules)) known_is c.in_ok-known.ensures.known);
    }

pub returns-clause-told : goal.returns-clause-told
returns-clause-told c =
    let old = c.args.self.now in
    let s = state_of old.rules in
    let known = c.in_ok-known.known in
    let net : c.network.result.now ≡ s.routers = c.network.ensures.network ∙ ap (λ (st : StateView). st.routers) (c.state.ensures ∙ c.known_dead.ensures.state) in
    record {
      reply = known_text s.routers known;
      answer = told-by s (kept_of old) known c.in_ok-known.ensures.known;
      text = c.in_ok-push_known.ensures ∙ ap (λ (cs : List ConfigView). c.args.out.now.items ++ known_text cs known) net;
      state = c.known_dead.ensures.state;
      listed = refl;
      store = refl;
      infers = subst (λ (known : Bool). InfersFor s (tests_of old) (Asks Dead) known (asked_of old.rules) (asked_of c.known_dead.new.rules)) (ap is_some c.take.ensures.value) (c.in_ok-known.ensures.infers (tests_of old));
      known = refl;
    }
