use Rattle.std.proofs.Common.{◌≡◌, [], map, filter, take, get_or, true, false, sym, ap, ◌∙◌, eqb-true, List, arith}
use Rattle.std.proofs.lemmas.List.{length-map, nil_from_length}
use Rattle.nc_tables.specs.declared.bgp.Chosen.{Chosen}
use Rattle.nc_tables.specs.Choice.{by_preference, choose, is_external, Ranked}
use Rattle.nc_select.proofs.Alike.{is_equal}
use Rattle.nc_select.proofs.Choosing.{chosen_alone, chosen_first, chosen_many, only_one}
use Rattle.nc_select.proofs.Mapped.{read_view}
use Rattle.nc_select.proofs.choice.choose.Goals as goal

pub returns-then-is_empty : goal.returns-then-is_empty
unfolding choose
returns-then-is_empty g c =
    let f = g.C.Candidate.candidate_of in
    let all = map f c.args.candidates.now in
    let none : all ≡ [] = ap (map f) (nil_from_length c.args.candidates.now (eqb-true _ _ (sym c.is_empty.ensures ∙ c.if-is_empty.true))) in
    c.new.ensures.items ∙ sym (ap (λ (l : List Chosen). choose l c.args.limit c.args.relax) none)

pub returns-then-limit-gt0 : goal.returns-then-limit-gt0
returns-then-limit-gt0 g c =
    let f = g.C.Candidate.candidate_of in
    let all = map f c.args.candidates.now in
    c.in_ok-only.ensures ∙ only_one all c.args.limit c.args.relax (omega (arith, length-map c.args.candidates.now f, c.if-candidates-eq1.true)) (omega (arith, c.if-limit-gt0.true))

pub returns-then-limit-eq1 : goal.returns-then-limit-eq1
returns-then-limit-eq1 g c =
    let f = g.C.Candidate.candidate_of in
    let all = map f c.args.candidates.now in
    let place = c.best_place-place.result in
    let best = f c.index-candidates-place.result in
    c.in_ok-single.ensures ∙ chosen_first all place best c.best_place-place.ensures.best c.args.limit c.args.relax c.if-limit-eq1.true

pub returns-then-is_external : goal.returns-then-is_external
returns-then-is_external g c =
    let f = g.C.Candidate.candidate_of in
    let all = map f c.args.candidates.now in
    let limit = c.args.limit in
    let relax = c.args.relax in
    let place = c.best_place-place.result in
    let best = f c.index-candidates-place.result in
    let at : best ≡ get_or all place best = read_view f c.args.candidates.now place c.index-candidates-place.result c.index-candidates-place.is c.best_place-place.ensures.within in
    let outer : is_external (get_or all place best) ≡ true = ap is_external (sym at) ∙ sym c.is_external.ensures ∙ c.if-is_external.true in
    c.in_ok-used.ensures ∙ ap (λ (b : Chosen). map (λ (x : Ranked). x.place) (take limit (filter (is_equal relax b) (by_preference all)))) at
    ∙ chosen_many all place best c.best_place-place.ensures.best limit relax outer

pub returns : goal.returns
returns g c =
    let f = g.C.Candidate.candidate_of in
    let all = map f c.args.candidates.now in
    let place = c.best_place-place.result in
    let best = f c.index-candidates-place.result in
    let at : best ≡ get_or all place best = read_view f c.args.candidates.now place c.index-candidates-place.result c.index-candidates-place.is c.best_place-place.ensures.within in
    let inner : is_external (get_or all place best) ≡ false = ap is_external (sym at) ∙ sym c.is_external.ensures ∙ c.if-is_external.false in
    c.in_ok-first.ensures ∙ chosen_alone all place best c.best_place-place.ensures.best c.args.limit c.args.relax inner
