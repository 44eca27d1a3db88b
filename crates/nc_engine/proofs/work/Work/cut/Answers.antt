use Rattle.std.proofs.Common.{◌≡◌, ◌++◌, ◌∙◌, ℕ, List, Option, Some, None, inr, sym, ap, subst}
use Rattle.std.specs.Prelude.{codes}
use Rattle.std.specs.Option.{option_map}
use Rattle.nc_types.specs.Config.{ConfigView}
use Rattle.nc_tables.specs.State.{StateView}
use Rattle.nc_rules.specs.Seen.{state_of}
use Rattle.nc_engine.specs.Cuts.{unknown_among}
use Rattle.nc_engine.specs.Session.{Cuts, CutsNamed, live_place}
use Rattle.nc_engine.specs.Work.{kept_of, tests_of}
use Rattle.nc_engine.proofs.Gaining.{draws-cut}
use Rattle.nc_engine.proofs.work.Work.cut.Goals as goal

pub returns-in-Some-clause-drawn : goal.returns-in-Some-clause-drawn
returns-in-Some-clause-drawn c = λ place at. inr (codes "router " ++ c.bytes.result.now, c.in_ok-push_unknown.ensures)

pub returns-clause-cut : goal.returns-clause-cut
returns-clause-cut c =
    let w = c.args.self.now in
    let s = state_of w.rules in
    let names = c.args.names.now in
    let number = c.args.number in
    let new = c.cut_at.new.self in
    let told = c.in_ok-cut_at.ensures.cut in
    let place = c.in-Some-live_place.place in
    let net : c.network-network.result.now ≡ s.routers = c.network-network.ensures.network ∙ ap (λ (st : StateView). st.routers) c.state.ensures in
    let none : unknown_among s.routers names ≡ None =
    ap (λ (cs : List ConfigView). unknown_among cs names) (sym net)
    ∙ ap (unknown_among c.network-network.result.now) (sym c.list.ensures)
    ∙ sym c.unknown_among.ensures ∙ ap (option_map (λ name. name.now)) c.in_default.is in
    let at : live_place (tests_of w) number ≡ Some place = sym c.live_place.ensures.place ∙ c.in-Some-live_place.is in
    record {
      reply = told.reply;
      answer = subst (λ (unknown : Option (List ℕ)). CutsNamed s unknown (live_place (tests_of w) number) (kept_of w) number names told.reply (kept_of new)) (sym none)
          (subst (λ (there : Option ℕ). CutsNamed s None there (kept_of w) number names told.reply (kept_of new)) (sym at)
          (subst (λ (ns : List (List ℕ)). Cuts s (kept_of w) place number ns told.reply (kept_of new)) c.list-2.ensures told.answer));
      text = told.text;
      network = told.network;
      infers = told.infers;
      draws = draws-cut w new number names place at told.draws;
    }
