use Rattle.std.proofs.Common.{◌≡◌, ◌+◌, ◌<◌, map, length, sym, ap, subst, ◌∙◌, arith}
use Rattle.std.specs.List.{IsFirstBest}
use Rattle.std.specs.Ordering.{is_lt}
use Rattle.std.proofs.lemmas.List.{length-map}
use Rattle.std.proofs.lemmas.List.MinMax.{IsFirstBest-none, IsFirstBest-keeps, IsFirstBest-takes}
use Rattle.nc_select.proofs.Best.{is_preferred, preferred_order}
use Rattle.nc_select.proofs.Mapped.{read_view}
use Rattle.nc_select.proofs.choice.best_place.Goals as goal
use Rattle.nc_select.proofs.choice.best_place.Goals.{then-is_lt, else-is_lt}

pub candidates-init : goal.candidates-init
candidates-init g c = record { first = IsFirstBest-none preferred_order (map g.C.Candidate.candidate_of c.args.candidates.now); within = omega arith }

pub candidates-preserved : goal.candidates-preserved
candidates-preserved g c =
    let f = g.C.Candidate.candidate_of in
    let all = map f c.args.candidates.now in
    let x = c.index-candidates-place.result in
    let y = c.index-candidates-best.result in
    let lt : c.candidates.place < length c.args.candidates.now = omega arith in
    let many : c.candidates.place < length all = omega (arith, length-map c.args.candidates.now f) in
    let at_x = read_view f c.args.candidates.now c.candidates.place x c.index-candidates-place.is lt in
    let at_y = read_view f c.args.candidates.now c.candidates.best y c.index-candidates-best.is c.candidates.invariant.within in
    let e : c.is_lt.result ≡ is_preferred (f x) (f y) = c.is_lt.ensures ∙ ap is_lt c.preference_cmp.ensures in
    elim c.if-is_lt.branch [
      | then-is_lt w ↦ record {
        first = subst (IsFirstBest is_preferred all (c.candidates.place + 1)) (sym w.best-is) (IsFirstBest-takes preferred_order all c.candidates.place c.candidates.best (f x) (f y) c.candidates.invariant.first many at_x at_y (sym e ∙ w.if-is_lt.true));
        within = omega (arith, w.best-is);
      }
      | else-is_lt w ↦ record {
        first = subst (IsFirstBest is_preferred all (c.candidates.place + 1)) (sym w.best-is) (IsFirstBest-keeps preferred_order all c.candidates.place c.candidates.best (f x) (f y) c.candidates.invariant.first many at_x at_y (sym e ∙ w.if-is_lt.false));
        within = omega (arith, w.best-is, c.candidates.invariant.within);
      }
    ]
