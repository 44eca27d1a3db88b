use Rattle.std.proofs.Common.{◌≡◌, ◌++◌, ◌∷◌, [], ◌∙◌, List, ℕ, Option, Ok, refl, sym, ap, subst, append_assoc, append-nil}
use Rattle.std.proofs.lemmas.Option.{MatchOption-at_none, MatchOption-at_some}
use Rattle.nc_lines.specs.Lines.{without_return}
use Rattle.nc_lines.specs.WholeLines.{whole_lines_of, open_of}
use Rattle.nc_command.specs.Cutting.{held_of}
use Rattle.nc_engine.specs.declared.engine.Flow.TheVariants.{Go}
use Rattle.nc_engine.specs.Engine.{Progress}
use Rattle.nc_session.specs.Serving.{AppendsPart, AreBroken, ArePending, ServesLines, AnswersLine, AnswersFirst, AnswersNone}
use Rattle.nc_session.proofs.ServedLines.{served_pending, pending_less}
use Rattle.nc_session.proofs.TakenPieces.{joined, fed, fed_lines, held_on, nothing_open, answer_broken, go_ends, memory_ends, quit_ends, ok_after}
use Rattle.nc_session.proofs.serving.take_piece.Goals as goal

pub lines-init : goal.lines-init
lines-init g c = record {
  faults = refl;
  front = [];
  parts = refl;
  held = λ taken held. held ∙ ap held_of (sym (append-nil taken));
  served = λ from taken start held a.
      let new = g.K.Sink.written c.args.output.now in
      subst (λ (bs : List ℕ). ArePending from (whole_lines_of bs) c.args.engine.now.progress c.new-pending.result.items start new) (sym (append-nil taken))
      (subst (λ (bs : List ℕ). ArePending from (whole_lines_of taken) c.args.engine.now.progress bs start new) (sym c.new-pending.ensures.items)
      (served_pending from (whole_lines_of taken) c.args.engine.now.progress start new a));
}

-- memory gave out
pub returns-in_default-clause-serves : goal.returns-in_default-clause-serves
returns-in_default-clause-serves g c from taken start held a =
    let front = c.lines.invariant.front in
    let new = g.K.Sink.written c.end_with.new.output in
    subst (λ (bs : List ℕ). ServesLines from (whole_lines_of bs) c.answer_next.new.engine.progress start new c.end_with.result) (joined taken front c.lines.rest.now c.args.piece.now c.lines.invariant.parts)
    (memory_ends from (taken ++ front) c.lines.engine.progress c.lines.pending.items c.deref.result.now (c.deref.ensures.value ∙ c.in_default.ensures.kept) start (g.K.Sink.written c.lines.output) new
    (c.lines.invariant.served from taken start held a) c.end_with.result c.answer_next.new.engine.progress c.lines.rest.now c.end_with.ensures.ends)

-- the piece is at its end
pub returns-in_default-next-clause-serves : goal.returns-in_default-next-clause-serves
returns-in_default-next-clause-serves g c from taken start held a =
    let front = c.lines.invariant.front in
    let old = g.K.Sink.written c.lines.output in
    let new = g.K.Sink.written c.end_with-in_default-next.new.output in
    let none : AnswersNone c.lines.rest.now c.lines.cutter c.answer_next.new.cutter c.lines.engine.progress c.answer_next.new.engine.progress c.lines.pending.items c.answer_next.new.pending.items =
    MatchOption-at_none (AnswersNone c.lines.rest.now c.lines.cutter c.answer_next.new.cutter c.lines.engine.progress c.answer_next.new.engine.progress c.lines.pending.items c.answer_next.new.pending.items) (λ cut. AnswersFirst c.lines.rest.now cut.1.now c.lines.cutter c.answer_next.new.cutter c.lines.engine.progress c.answer_next.new.engine.progress c.lines.pending.items (c.answer_next.new.pending.items ++ c.answer_next.new.engine.lent) cut.0) c.in_default-next.is c.in-Ok.ensures.answers in
    let p = subst (λ (e : Option Progress). ArePending from (whole_lines_of (taken ++ front)) e c.lines.pending.items start old) (sym none.engine_is) (c.lines.invariant.served from taken start held a) in
    subst (λ (bs : List ℕ). ServesLines from (whole_lines_of bs) c.answer_next.new.engine.progress start new c.end_with-in_default-next.result) (joined taken front c.lines.rest.now c.args.piece.now c.lines.invariant.parts)
    (go_ends from (taken ++ front) c.answer_next.new.engine.progress c.lines.pending.items c.deref-in_default-next.result.now (c.deref-in_default-next.ensures.value ∙ none.pending_is) start old new
    p c.end_with-in_default-next.result c.lines.rest.now none.all.none c.end_with-in_default-next.ensures.ends)

pub returns-in_default-next-clause-held : goal.returns-in_default-next-clause-held
returns-in_default-next-clause-held g c =
    let front = c.lines.invariant.front in
    let none : AnswersNone c.lines.rest.now c.lines.cutter c.answer_next.new.cutter c.lines.engine.progress c.answer_next.new.engine.progress c.lines.pending.items c.answer_next.new.pending.items =
    MatchOption-at_none (AnswersNone c.lines.rest.now c.lines.cutter c.answer_next.new.cutter c.lines.engine.progress c.answer_next.new.engine.progress c.lines.pending.items c.answer_next.new.pending.items) (λ cut. AnswersFirst c.lines.rest.now cut.1.now c.lines.cutter c.answer_next.new.cutter c.lines.engine.progress c.answer_next.new.engine.progress c.lines.pending.items (c.answer_next.new.pending.items ++ c.answer_next.new.engine.lent) cut.0) c.in_default-next.is c.in-Ok.ensures.answers in
    ok_after (Ok Go) (g.K.Sink.written c.lines.output) (g.K.Sink.written c.end_with-in_default-next.new.output) c.deref-in_default-next.result.now c.end_with-in_default-next.result
    (λ how. how ≡ Go → (taken : List ℕ) → c.args.cutter.now ≡ held_of taken → c.answer_next.new.cutter ≡ held_of (taken ++ c.args.piece.now)) c.end_with-in_default-next.ensures.ends
    (λ go taken held.
    held_on (taken ++ front) c.lines.rest.now c.lines.cutter c.answer_next.new.cutter none.all.none (c.lines.invariant.held taken held) none.all.held
    ∙ ap held_of (joined taken front c.lines.rest.now c.args.piece.now c.lines.invariant.parts))

-- a line ends the session
pub returns-in-Stop-clause-serves : goal.returns-in-Stop-clause-serves
returns-in-Stop-clause-serves g c from taken start held a =
    let front = c.lines.invariant.front in
    let before = c.lines.pending.items in
    let next = c.answer_next.new.engine in
    let after = c.answer_next.new.pending.items ++ next.lent in
    let less = c.keep_few.new.pending.items in
    let old = g.K.Sink.written c.lines.output in
    let mid = g.K.Sink.written c.keep_few.new.output in
    let new = g.K.Sink.written c.end_with-in-Stop.new.output in
    let first : AnswersFirst c.lines.rest.now c.in-Some.behind.now c.lines.cutter c.answer_next.new.cutter c.lines.engine.progress next.progress before after c.in-Some.how =
    MatchOption-at_some (AnswersNone c.lines.rest.now c.lines.cutter c.answer_next.new.cutter c.lines.engine.progress next.progress before c.answer_next.new.pending.items) (λ cut. AnswersFirst c.lines.rest.now cut.1.now c.lines.cutter c.answer_next.new.cutter c.lines.engine.progress next.progress before after cut.0) _ c.in-Some.is c.in-Ok.ensures.answers in
    let lines = whole_lines_of (taken ++ front) in
    let line = without_return (open_of (taken ++ front) ++ first.front) in
    let p = c.lines.invariant.served from taken start held a in
    let quits = subst (AnswersLine from lines line next.progress before after start old) c.in-Stop.is (first.answers from (taken ++ front) start old (c.lines.invariant.held taken held) p) in
    let sent = pending_less from lines c.lines.engine.progress before start old p less mid (subst (λ (bytes : List ℕ). AppendsPart old mid bytes less) quits.1 c.in_default-keep_few.ensures.part) in
    subst (λ (bs : List ℕ). ServesLines from (whole_lines_of bs) c.keep_few.new.engine.progress start new c.end_with-in-Stop.result)
    (ap (λ (bs : List ℕ). (taken ++ front) ++ bs) (sym first.parts) ∙ joined taken front c.lines.rest.now c.args.piece.now c.lines.invariant.parts)
    (quit_ends from (taken ++ front) c.lines.engine.progress less c.deref-in-Stop.result.now c.deref-in-Stop.ensures.value start mid new sent
    c.end_with-in-Stop.result c.keep_few.new.engine.progress first.front c.in-Some.behind.now first.first quits.0 c.end_with-in-Stop.ensures.ends)

-- the sink failed within many replies, or within one that is lent
pub returns-in-Err-clause-serves : goal.returns-in-Err-clause-serves
returns-in-Err-clause-serves g c from taken start held a =
    let front = c.lines.invariant.front in
    let before = c.lines.pending.items in
    let next = c.answer_next.new.engine in
    let after = c.answer_next.new.pending.items ++ next.lent in
    let old = g.K.Sink.written c.lines.output in
    let new = g.K.Sink.written c.keep_few.new.output in
    let first : AnswersFirst c.lines.rest.now c.in-Some.behind.now c.lines.cutter c.answer_next.new.cutter c.lines.engine.progress next.progress before after c.in-Some.how =
    MatchOption-at_some (AnswersNone c.lines.rest.now c.lines.cutter c.answer_next.new.cutter c.lines.engine.progress next.progress before c.answer_next.new.pending.items) (λ cut. AnswersFirst c.lines.rest.now cut.1.now c.lines.cutter c.answer_next.new.cutter c.lines.engine.progress next.progress before after cut.0) _ c.in-Some.is c.in-Ok.ensures.answers in
    let p = c.lines.invariant.served from taken start held a in
    subst (λ (bs : List ℕ). AreBroken from (whole_lines_of bs) start new)
    (ap (λ (bs : List ℕ). (taken ++ front) ++ bs) (sym first.parts) ∙ joined taken front c.lines.rest.now c.args.piece.now c.lines.invariant.parts)
    (answer_broken from (taken ++ front) first.front c.in-Some.behind.now first.first c.lines.engine.progress next.progress before after start old new p c.in-Err.ensures.begun
    c.in-Some.how (first.answers from (taken ++ front) start old (c.lines.invariant.held taken held) p))

pub lines-preserved : goal.lines-preserved
lines-preserved g c =
    let front = c.lines.invariant.front in
    let before = c.lines.pending.items in
    let next = c.answer_next.new.engine in
    let after = c.answer_next.new.pending.items ++ next.lent in
    let less = c.keep_few.new.pending.items in
    let old = g.K.Sink.written c.lines.output in
    let new = g.K.Sink.written c.keep_few.new.output in
    let first : AnswersFirst c.lines.rest.now c.in-Some.behind.now c.lines.cutter c.answer_next.new.cutter c.lines.engine.progress next.progress before after c.in-Some.how =
    MatchOption-at_some (AnswersNone c.lines.rest.now c.lines.cutter c.answer_next.new.cutter c.lines.engine.progress next.progress before c.answer_next.new.pending.items) (λ cut. AnswersFirst c.lines.rest.now cut.1.now c.lines.cutter c.answer_next.new.cutter c.lines.engine.progress next.progress before after cut.0) _ c.in-Some.is c.in-Ok.ensures.answers in
    record {
      faults = c.in_default-keep_few.ensures.cause ∙ c.lines.invariant.faults;
      front = front ++ (first.front ++ 10 ∷ []);
      parts = c.lines.invariant.parts ∙ ap (λ (bs : List ℕ). front ++ bs) first.parts ∙ fed front first.front c.in-Some.behind.now;
      held = λ taken held. first.emptied ∙ nothing_open (taken ++ front) first.front first.first ∙ ap held_of (append_assoc taken front (first.front ++ 10 ∷ []));
      served = λ from taken start held a.
          let lines = whole_lines_of (taken ++ front) in
          let line = without_return (open_of (taken ++ front) ++ first.front) in
          let answers = subst (AnswersLine from lines line next.progress before after start old) c.in-Go.is
          (first.answers from (taken ++ front) start old (c.lines.invariant.held taken held) (c.lines.invariant.served from taken start held a)) in
          subst (λ (ls : List (List ℕ)). ArePending from ls c.keep_few.new.engine.progress less start new) (fed_lines taken front first.front first.first)
          (subst (λ (now : Option Progress). ArePending from (lines ++ line ∷ []) now less start new) (sym c.keep_few.ensures.progress)
          (pending_less from (lines ++ line ∷ []) next.progress after start old answers less new c.in_default-keep_few.ensures.part));
    }
