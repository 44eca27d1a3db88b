use Rattle.std.proofs.Common.{◌≡◌, ◌++◌, ℕ, List, Option, None, Some, map, refl, sym, ap, ◌∙◌, subst, arith}
use Rattle.std.proofs.lemmas.List.{length-map}
use Rattle.std.specs.Option.{option_map}
use Rattle.nc_types.specs.Network.{router_named}
use Rattle.nc_rules.specs.Seen.{state_of}
use Rattle.nc_report.specs.Texts.{line_of, sheet_in, show_of}
use Rattle.nc_report.specs.Views.{FileView, file_view}
use Rattle.nc_engine.specs.Session.{Shows, listing_at, unknown_of}
use Rattle.nc_engine.specs.Work.{loaded_of, kept_of}
use Rattle.nc_engine.proofs.Replying.{forms, named-within}
use Rattle.nc_engine.proofs.work.Work.show.Goals as goal

pub returns-in_default : goal.returns-in_default
returns-in_default c =
    let w = c.args.self.now in
    let n = loaded_of (map file_view c.args.files.now) w in
    let name = c.args.name.now in
    let none : router_named n.state.routers name ≡ None = sym c.router.ensures ∙ ap (option_map (λ r. r.0)) c.in_default.is in
    let reply = line_of (unknown_of name) in
    record {
      reply = reply;
      answer = subst (λ (r : Option ℕ). Shows n r (kept_of w) name reply (kept_of w)) (sym none) (refl, refl);
      text = c.in_ok-push_unknown.ensures ∙ ap (λ (word : List ℕ). c.args.out.now.items ++ line_of (unknown_of word)) c.bytes.ensures;
    }

pub file_at-requires : goal.file_at-requires
file_at-requires c =
    let s = state_of c.args.self.now.rules in
    let at : router_named s.routers c.args.name.now ≡ Some c.in-Some.router.0 = sym c.router.ensures ∙ ap (option_map (λ r. r.0)) c.in-Some.is in
    omega (arith, named-within s.routers c.args.name.now c.in-Some.router.0 at, c.requires.files.count, length-map c.args.files.now file_view)

pub returns : goal.returns
returns c =
    let w = c.args.self.now in
    let files = map file_view c.args.files.now in
    let n = loaded_of files w in
    let router = c.in-Some.router.0 in
    let at : router_named n.state.routers c.args.name.now ≡ Some router = sym c.router.ensures ∙ ap (option_map (λ r. r.0)) c.in-Some.is in
    let told = forms w c.requires.work c.marks_are_kept.ensures files (listing_at n router) c.args.out.now.items c.push_show.new.out.items
    (c.in_ok-push_show.ensures ∙ ap (λ (f : FileView). c.args.out.now.items ++ show_of (sheet_in w.shown router).letters f.lines) c.file_at.ensures) in
    record {
      reply = told.reply;
      answer = subst (λ (r : Option ℕ). Shows n r (kept_of w) c.args.name.now told.reply (kept_of w)) (sym at) told.answer;
      text = told.text;
    }
