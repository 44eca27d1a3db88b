use Rattle.std.proofs.Common.{◌-◌, ◌<◌, ◌∙◌, List, ℕ, length, take, drop, ap, arith}
use Rattle.std.proofs.lemmas.List.{length-map}
use Rattle.nc_report.specs.Listings.{sheet_between}
use Rattle.nc_report.specs.Texts.{Sheet, sheet_in}
use Rattle.nc_report.proofs.Listed.{line-seen, line-within}
use Rattle.nc_report.proofs.listing.Listing.letters.Goals as goal

pub part-requires-clause-order : goal.part-requires-clause-order
part-requires-clause-order c =
    let text = c.self.inside.text.items in
    let places = c.self.inside.places.items in
    let lt : c.args.router < length places = omega (arith, c.requires, ap length c.self.view_is, length-map places (sheet_between text)) in
    (line-within text places c.self.invariant c.args.router c.index-place.result.now lt c.index-place.ensures).1

pub part-requires-clause-within : goal.part-requires-clause-within
part-requires-clause-within c =
    let text = c.self.inside.text.items in
    let places = c.self.inside.places.items in
    let lt : c.args.router < length places = omega (arith, c.requires, ap length c.self.view_is, length-map places (sheet_between text)) in
    let within = (line-within text places c.self.invariant c.args.router c.index-place.result.now lt c.index-place.ensures).2 in
    omega (arith, ap length c.deref.ensures.value)

pub returns : goal.returns
returns c =
    let text = c.self.inside.text.items in
    let places = c.self.inside.places.items in
    let place = c.index-place.result.now in
    let lt : c.args.router < length places = omega (arith, c.requires, ap length c.self.view_is, length-map places (sheet_between text)) in
    c.part.ensures ∙ ap (λ (t : List ℕ). take (place.end - place.letters) (drop place.letters t)) c.deref.ensures.value
    ∙ ap (λ (s : Sheet). s.letters) (line-seen text places c.self.invariant c.args.router place lt c.index-place.ensures)
    ∙ ap (λ (ss : List Sheet). (sheet_in ss c.args.router).letters) c.self.view_is
