use Rattle.std.proofs.Common.{◌≡◌, ◌<◌, [], arith, All, List, length, get_or, sym, ap, subst, ◌∙◌}
use Rattle.std.proofs.lemmas.List.{length-map}
use Rattle.std.proofs.lemmas.List.Elements.{All-get_or}
use Rattle.nc_tables.specs.LocRibs.{IsNumbered}
use Rattle.nc_tables.specs.declared.ribs.Numbered.{Numbered}
use Rattle.nc_round.specs.declared.by_router.Part.{Part}
use Rattle.nc_round.specs.Rows.{listed, prefixes_of}
use Rattle.nc_round.proofs.OfRouter.{cut, list_at, prefixes_at}
use Rattle.nc_round.proofs.by_router.ByRouter.changed_at.Goals as goal

pub returns-in-Some-clause-prefixes : goal.returns-in-Some-clause-prefixes
returns-in-Some-clause-prefixes c =
    let all : List Numbered = c.self.inside.all.items in
    let parts : List Part = c.self.inside.parts.items in
    let part = c.in-Some.part.now in
    let there : c.deref.result.now ≡ parts = c.deref.ensures.value in
    let is : get_or parts c.args.router.0 part ≡ part = ap (λ (l : List Part). get_or l c.args.router.0 part) (sym there) ∙ sym c.in-Some.ensures.lookup.1 in
    ap (λ (l : List Numbered). prefixes_of (cut l part)) c.deref-in-Some.ensures.value
    ∙ sym (prefixes_at all parts c.args.router.0 part part (omega (arith, c.in-Some.ensures.lookup.3.0, ap (length {A = Part}) there)) is)
    ∙ ap (λ (ls : List (List Numbered)). get_or (listed ls) c.args.router.0 []) c.self.view_is

pub returns-in-Some-clause-numbers : goal.returns-in-Some-clause-numbers
returns-in-Some-clause-numbers c prefixes are =
    let all : List Numbered = c.self.inside.all.items in
    let parts : List Part = c.self.inside.parts.items in
    let part = c.in-Some.part.now in
    let there : c.deref.result.now ≡ parts = c.deref.ensures.value in
    let is : get_or parts c.args.router.0 part ≡ part = ap (λ (l : List Part). get_or l c.args.router.0 part) (sym there) ∙ sym c.in-Some.ensures.lookup.1 in
    let lt : c.args.router.0 < length parts = omega (arith, c.in-Some.ensures.lookup.3.0, ap (length {A = Part}) there) in
    let within : c.args.router.0 < length c.args.self.now = omega (arith, lt, length-map parts (cut all), ap (length {A = List Numbered}) c.self.view_is) in
    subst (All (IsNumbered prefixes))
    (ap (λ (ls : List (List Numbered)). get_or ls c.args.router.0 []) (sym c.self.view_is) ∙ list_at all parts c.args.router.0 part part lt is ∙ ap (λ (l : List Numbered). cut l part) (sym c.deref-in-Some.ensures.value))
    (All-get_or (All (IsNumbered prefixes)) c.args.self.now c.args.router.0 [] within are)
