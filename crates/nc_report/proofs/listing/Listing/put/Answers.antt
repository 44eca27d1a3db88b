use Rattle.std.proofs.Common.{◌+◌, ◌-◌, ◌<◌, ◌∙◌, List, length, get_or, ap, subst, arith}
use Rattle.std.proofs.lemmas.List.{get_or_default}
use Rattle.nc_report.specs.Shown.{put_letter}
use Rattle.nc_report.specs.Texts.{Sheet, sheet_in}
use Rattle.nc_report.proofs.Listed.{letter-before, letter-put, letter-within, line-within}
use Rattle.nc_report.proofs.listing.Listing.put.Goals as goal

pub overflow_sub-line : goal.overflow_sub-line
overflow_sub-line c =
    let text = c.self.inside.text.items in
    let places = c.self.inside.places.items in
    let lt : c.args.router < length places = omega (arith, c.if-router-len.false, c.len.ensures, c.self.inside.places.ok.0) in
    (line-within text places c.self.invariant c.args.router c.index-line.result.now lt c.index-line.ensures).1

pub index-before-requires : goal.index-before-requires
index-before-requires c =
    let text = c.self.inside.text.items in
    let places = c.self.inside.places.items in
    let lt : c.args.router < length places = omega (arith, c.if-router-len.false, c.len.ensures, c.self.inside.places.ok.0) in
    let all = line-within text places c.self.invariant c.args.router c.index-line.result.now lt c.index-line.ensures in
    omega (arith, all.1, all.2, c.if-place-line.false, c.self.inside.text.ok.0)

pub index_mut-requires : goal.index_mut-requires
index_mut-requires c =
    let text = c.self.inside.text.items in
    let places = c.self.inside.places.items in
    let lt : c.args.router < length places = omega (arith, c.if-router-len.false, c.len.ensures, c.self.inside.places.ok.0) in
    let all = line-within text places c.self.invariant c.args.router c.index-line.result.now lt c.index-line.ensures in
    omega (arith, all.1, all.2, c.if-place-line.false, c.self.inside.text.ok.0)

pub invariant_of-self : goal.invariant_of-self
invariant_of-self c =
    let text = c.self.inside.text.items in
    let places = c.self.inside.places.items in
    let line = c.index-line.result.now in
    let lt : c.args.router < length places = omega (arith, c.if-router-len.false, c.len.ensures, c.self.inside.places.ok.0) in
    let within : c.args.place < line.end - line.letters = omega (arith, c.if-place-line.false) in
    (letter-put text places c.self.invariant c.args.router line lt c.index-line.ensures c.args.place within c.args.letter).0

pub returns-clause-put : goal.returns-clause-put
returns-clause-put c =
    let text = c.self.inside.text.items in
    let places = c.self.inside.places.items in
    let line = c.index-line.result.now in
    let lt : c.args.router < length places = omega (arith, c.if-router-len.false, c.len.ensures, c.self.inside.places.ok.0) in
    let within : c.args.place < line.end - line.letters = omega (arith, c.if-place-line.false) in
    (letter-put text places c.self.invariant c.args.router line lt c.index-line.ensures c.args.place within c.args.letter).1
    ∙ ap (λ (ss : List Sheet). put_letter ss c.args.router c.args.place c.args.letter) c.self.view_is

pub returns-clause-within : goal.returns-clause-within
returns-clause-within c =
    let text = c.self.inside.text.items in
    let places = c.self.inside.places.items in
    let line = c.index-line.result.now in
    let lt : c.args.router < length places = omega (arith, c.if-router-len.false, c.len.ensures, c.self.inside.places.ok.0) in
    let within : c.args.place < line.end - line.letters = omega (arith, c.if-place-line.false) in
    subst (λ (ss : List Sheet). c.args.place < length (sheet_in ss c.args.router).letters) c.self.view_is
    (letter-within text places c.self.invariant c.args.router line lt c.index-line.ensures c.args.place within)

pub returns-clause-before : goal.returns-clause-before
returns-clause-before c =
    let text = c.self.inside.text.items in
    let places = c.self.inside.places.items in
    let line = c.index-line.result.now in
    let lt : c.args.router < length places = omega (arith, c.if-router-len.false, c.len.ensures, c.self.inside.places.ok.0) in
    let within : c.args.place < line.end - line.letters = omega (arith, c.if-place-line.false) in
    let all = line-within text places c.self.invariant c.args.router line lt c.index-line.ensures in
    let inside : line.letters + c.args.place < length text = omega (arith, all.1, all.2) in
    c.index-before.ensures ∙ get_or_default text (line.letters + c.args.place) c.index-before.result.now 0 inside
    ∙ letter-before text places c.self.invariant c.args.router line lt c.index-line.ensures c.args.place within
    ∙ ap (λ (ss : List Sheet). get_or (sheet_in ss c.args.router).letters c.args.place 0) c.self.view_is
