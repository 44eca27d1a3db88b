-- Lines that are served one after another.
use Rattle.std.proofs.Common.{◌≡◌, ℕ, ◌<◌, Bool, true, false, ◌||◌, nat_lt, cond, List, [], ◌∷◌, ◌++◌, length, Option, Some, inl, inr, refl, sym, ap, ◌∙◌, subst, append_assoc, append-nil}
use Rattle.std.specs.Prelude.{codes, Result, Ok, Err, is_err, IfOk, OnOk, OnErr}
use Rattle.std.specs.Io.KnownBytes.{Appends}
use Rattle.std.proofs.KnownBytes.{Appends-trans, Appends-nil}
use Rattle.std.proofs.lemmas.Bool.{lt-ltb, ltb-true, or_left, or_right, or_from}
use Rattle.std.proofs.lemmas.List.Folds.{list_any-append}
use Rattle.nc_engine.specs.File.{LoadedView}
use Rattle.nc_command.specs.declared.TheConstants as command
use Rattle.nc_command.specs.declared.command.Command.TheVariants.{Test, Forget, Implies, Cut, Suite, Dead, Show, Lcov, Json, Quit}
use Rattle.nc_command.specs.Command.{Line, Passed, TooLong, Unread, Asks, command_of, asked_by}
use Rattle.nc_command.specs.declared.cutter.Cut.TheVariants as cut
use Rattle.nc_command.specs.Cutting.{cut_of}
use Rattle.nc_lines.specs.Lines.{words_of, without_return}
use Rattle.nc_engine.specs.declared.engine.Flow.{Flow}
use Rattle.nc_engine.specs.declared.engine.Flow.TheVariants.{Go, Stop}
use Rattle.nc_load.specs.declared.reading.Stop as stop
use Rattle.nc_engine.specs.Session.{State, Step, Answers, Run, ends, is_quit, until_quit}
use Rattle.nc_session.specs.Output.{has_quit}
use Rattle.nc_engine.specs.Engine.{Progress, flow_behind, Turns}
use Rattle.nc_report.specs.Texts.{line_of}
use Rattle.nc_session.specs.Serving.{AppendsFront, AppendsPart, EndsWith, AreServed, ArePending, AreEnded, AreBroken, AreAnswered, ServesLines, AnswersLine}

-- ---- runs, and the lines up to the end of a session

pub run_then : (n : LoadedView) (a b c : State) (xs ys : List (List ℕ)) (r q : List ℕ) → Run n a xs r b → Run n b ys q c → Run n a (xs ++ ys) (r ++ q) c
run_then n a b c [] ys r q first second =
    subst (λ (l : List ℕ). Run n a ys l c) (sym (ap (λ (l : List ℕ). l ++ q) first.0)) (subst (λ (st : State). Run n st ys q c) first.1 second)
run_then n a b c (x ∷ xs) ys r q first second = (
  first.0,
  first.1,
  first.2 ++ q,
  first.3,
  run_then n first.1 b c xs ys first.2 q first.4 second,
  ap (λ (l : List ℕ). l ++ q) first.5 ∙ append_assoc first.0 first.2 q,
)

-- one line more
pub run_line : (n : LoadedView) (a b c : State) (xs : List (List ℕ)) (line r reply : List ℕ) → Run n a xs r b → Step n b line reply c → Run n a (xs ++ line ∷ []) (r ++ reply) c
run_line n a b c xs line r reply first step =
    run_then n a b c xs (line ∷ []) r reply first (reply, c, [], step, (refl, refl), sym (append-nil reply))

pub until_then : (xs ys : List (List ℕ)) → has_quit xs ≡ false → until_quit (xs ++ ys) ≡ xs ++ until_quit ys
until_then [] ys none = refl
until_then (x ∷ xs) ys none = on (is_quit x) none (until_then xs ys)
  where
    on : (b : Bool) → (b || has_quit xs) ≡ false → (has_quit xs ≡ false → until_quit (xs ++ ys) ≡ xs ++ until_quit ys)
        → cond b [] (x ∷ until_quit (xs ++ ys)) ≡ x ∷ (xs ++ until_quit ys)
    on true e rest = absurd cc
    on false e rest = ap (λ (ls : List (List ℕ)). x ∷ ls) (rest e)

pub until_all : (xs : List (List ℕ)) → has_quit xs ≡ false → until_quit xs ≡ xs
until_all xs none = ap until_quit (sym (append-nil xs)) ∙ until_then xs [] none ∙ append-nil xs

pub until_ended : (xs ys : List (List ℕ)) → has_quit xs ≡ true → until_quit (xs ++ ys) ≡ until_quit xs
until_ended [] ys some = absurd cc
until_ended (x ∷ xs) ys some = on (is_quit x) some (until_ended xs ys)
  where
    on : (b : Bool) → (b || has_quit xs) ≡ true → (has_quit xs ≡ true → until_quit (xs ++ ys) ≡ until_quit xs)
        → cond b [] (x ∷ until_quit (xs ++ ys)) ≡ cond b [] (x ∷ until_quit xs)
    on true e rest = refl
    on false e rest = ap (λ (ls : List (List ℕ)). x ∷ ls) (rest e)

-- lines behind add some, or none, to those up to the end
pub until_more : (xs ys : List (List ℕ)) → (more : List (List ℕ)) × (until_quit (xs ++ ys) ≡ until_quit xs ++ more)
until_more xs ys = on (has_quit xs) refl
  where
    on : (b : Bool) → has_quit xs ≡ b → (more : List (List ℕ)) × (until_quit (xs ++ ys) ≡ until_quit xs ++ more)
    on true e = ([], until_ended xs ys e ∙ sym (append-nil (until_quit xs)))
    on false e = (until_quit ys, until_then xs ys e ∙ ap (λ (ls : List (List ℕ)). ls ++ until_quit ys) (sym (until_all xs e)))

quits_more : (xs ys : List (List ℕ)) → has_quit xs ≡ true → has_quit (xs ++ ys) ≡ true
quits_more xs ys some = list_any-append is_quit xs ys ∙ or_left (has_quit xs) (has_quit ys) some

-- ---- what is cut of a line

pub line_is : (raw line : List ℕ) → cut.Line line ≡ cut_of raw → line ≡ without_return raw
unfolding cut_of
line_is raw line is = on (nat_lt command.LINE_LIMIT (length (without_return raw))) is
  where
    on : (b : Bool) → cut.Line line ≡ cond b cut.Long (cut.Line (without_return raw)) → line ≡ without_return raw
    on true e = absurd cc
    on false e = cc

pub long_is : (raw : List ℕ) → cut.Long ≡ cut_of raw → command.LINE_LIMIT < length (without_return raw)
unfolding cut_of
long_is raw is = ltb-true command.LINE_LIMIT (length (without_return raw)) (on (nat_lt command.LINE_LIMIT (length (without_return raw))) is)
  where
    on : (b : Bool) → cut.Long ≡ cond b cut.Long (cut.Line (without_return raw)) → b ≡ true
    on true e = refl
    on false e = absurd cc

-- ---- one line

-- whether a line ends the session, by how the session goes on
goes_by : (line : List ℕ) → Go ≡ flow_behind (command_of line) → is_quit line ≡ false
goes_by line is = on (ends (command_of line)) is
  where
    on : (b : Bool) → Go ≡ cond b Stop Go → b ≡ false
    on true e = absurd cc
    on false e = refl

stops_by : (line : List ℕ) → Stop ≡ flow_behind (command_of line) → is_quit line ≡ true
stops_by line is = on (ends (command_of line)) is
  where
    on : (b : Bool) → Stop ≡ cond b Stop Go → b ≡ true
    on true e = refl
    on false e = absurd cc

some_same : (o : Option Progress) (p q : Progress) → o ≡ Some p → o ≡ Some q → p ≡ q
some_same o p q e f = let same : Some p ≡ Some q = sym e ∙ f in cc

-- a line that ends the session has no reply
quit_reply : (n : LoadedView) (line reply : List ℕ) (a b : State) → is_quit line ≡ true → Step n a line reply b → reply ≡ []
quit_reply n line reply a b quits step = on (command_of line) quits step
  where
    on : (l : Line) → ends l ≡ true → Answers n a l reply b → reply ≡ []
    on (Asks Quit) quits answers = answers.0
    on (Asks (Show name)) quits answers = absurd cc
    on (Asks Lcov) quits answers = absurd cc
    on (Asks Json) quits answers = absurd cc
    on (Asks Suite) quits answers = absurd cc
    on (Asks Dead) quits answers = absurd cc
    on (Asks (Test test)) quits answers = absurd cc
    on (Asks (Forget number)) quits answers = absurd cc
    on (Asks (Implies first second)) quits answers = absurd cc
    on (Asks (Cut number names)) quits answers = absurd cc
    on Passed quits answers = absurd cc
    on TooLong quits answers = absurd cc
    on Unread quits answers = absurd cc

-- ---- bytes that were written, or of which a front was

-- what is ensured where a call failed
pub on_err : {T E : Type 0} → (r : Result T E) (P : Type 0) → P → OnErr r P
on_err (Ok x) P holds = tt
on_err (Err error) P holds = holds

-- a front of the first bytes is one of both
pub front_of_first : (old new : Option (List ℕ)) (first second : List ℕ) → AppendsFront old new first → AppendsFront old new (first ++ second)
front_of_first old new first second begun = record {
  front = begun.front;
  behind = begun.behind ++ second;
  parts = ap (λ (l : List ℕ). l ++ second) begun.parts ∙ append_assoc begun.front begun.behind second;
  written = begun.written;
}

-- and so are the first and a front of the second
pub front_of_second : (old mid new : Option (List ℕ)) (first second : List ℕ) → Appends old mid first → AppendsFront mid new second → AppendsFront old new (first ++ second)
front_of_second old mid new first second written begun = record {
  front = first ++ begun.front;
  behind = begun.behind;
  parts = ap (λ (l : List ℕ). first ++ l) begun.parts ∙ sym (append_assoc first begun.front begun.behind);
  written = Appends-trans old mid new first begun.front written begun.written;
}

-- all of what is pending was written
pub part_all : (old new : Option (List ℕ)) (before after : List ℕ) → after ≡ [] → Appends old new before → AppendsPart old new before after
part_all old new before after none written =
    record { part = before; parts = sym (ap (λ (l : List ℕ). before ++ l) none ∙ append-nil before); written = written }

-- ---- replies that are pending

module _ (from : Progress) (lines : List (List ℕ)) (now : Option Progress) (pending : List ℕ) (start mid : Option (List ℕ)) (p : ArePending from lines now pending start mid) where
  -- they were written
  pub pending_served : (new : Option (List ℕ)) → Appends mid new pending → AreServed from lines now start new
  pending_served new written = record {
    to = p.to;
    to_is = p.to_is;
    loaded = p.loaded;
    replies = p.sent ++ pending;
    run = p.run;
    goes = p.goes;
    written = Appends-trans start mid new p.sent pending p.written written;
  }

  -- the sink failed within them
  pub pending_broken : (more : List (List ℕ)) (new : Option (List ℕ)) → AppendsFront mid new pending → AreBroken from (lines ++ more) start new
  pending_broken more new begun = record {
    answered = lines;
    others = until_quit more;
    parts = until_then lines more p.goes;
    replies = p.sent ++ pending;
    last = p.to.session;
    run = p.run;
    begun = front_of_second start mid new p.sent pending p.written begun;
  }

  -- they were written, or the sink failed within them
  pub pending_ends : (bytes : List ℕ) → bytes ≡ pending → (new : Option (List ℕ)) (r : Result Flow stop.Stop) → EndsWith (Ok Go) mid new bytes r → ServesLines from lines now start new r
  pending_ends bytes same new r (inl done) =
      subst (λ (r : Result Flow stop.Stop). ServesLines from lines now start new r) (sym done.0) (pending_served new (subst (Appends mid new) same done.1))
  pending_ends bytes same new r (inr failed) =
      subst (λ (r : Result Flow stop.Stop). ServesLines from lines now start new r) (sym failed.0)
      (subst (λ (ls : List (List ℕ)). AreBroken from ls start new) (append-nil lines) (pending_broken [] new (subst (AppendsFront mid new) same failed.1)))

  -- the sink failed within them, and that was the end
  pub pending_fails : (new : Option (List ℕ)) (r : Result Flow stop.Stop) → is_err r ≡ true → AppendsFront mid new pending → ServesLines from lines now start new r
  pending_fails new (Ok how) failed begun = absurd cc
  pending_fails new (Err why) failed begun = subst (λ (ls : List (List ℕ)). AreBroken from ls start new) (append-nil lines) (pending_broken [] new begun)

  -- a part of them was written
  pub pending_less : (after : List ℕ) (new : Option (List ℕ)) → AppendsPart mid new pending after → ArePending from lines now after start new
  pending_less after new some = record {
    to = p.to;
    to_is = p.to_is;
    loaded = p.loaded;
    sent = p.sent ++ some.part;
    run = subst (λ (r : List ℕ). Run from.loaded from.session lines r p.to.session)
        (ap (λ (l : List ℕ). p.sent ++ l) some.parts ∙ sym (append_assoc p.sent some.part after)) p.run;
    goes = p.goes;
    written = Appends-trans start mid new p.sent some.part p.written some.written;
  }

  -- the reply to a further line is behind them
  pub pending_more : (line reply : List ℕ) (next : Option Progress) (to : Progress) → is_quit line ≡ false → next ≡ Some to → to.loaded ≡ p.to.loaded
      → Step p.to.loaded p.to.session line reply to.session → ArePending from (lines ++ line ∷ []) next (pending ++ reply) start mid
  pending_more line reply next to goes is loaded step = record {
    to = to;
    to_is = is;
    loaded = loaded ∙ p.loaded;
    sent = p.sent;
    run = subst (λ (r : List ℕ). Run from.loaded from.session (lines ++ line ∷ []) r to.session) (append_assoc p.sent pending reply)
        (run_line from.loaded from.session p.to.session to.session lines line (p.sent ++ pending) reply p.run
        (subst (λ (n : LoadedView). Step n p.to.session line reply to.session) p.loaded step));
    goes = list_any-append is_quit lines (line ∷ []) ∙ or_from (has_quit lines) (is_quit line || false) p.goes (or_from (is_quit line) false goes refl);
    written = p.written;
  }

  -- the engine answered a line
  module _ (line : List ℕ) (next : Option Progress) (after : List ℕ) (t : Turns now next line pending after) where
    at : t.from ≡ p.to
    at = some_same now t.from p.to t.from_is p.to_is

    step_is : Step p.to.loaded p.to.session line t.answered.reply t.to.session
    step_is = subst (λ (q : Progress). Step q.loaded q.session line t.answered.reply t.to.session) at t.answered.step

    line_more : is_quit line ≡ false → ArePending from (lines ++ line ∷ []) next after start mid
    line_more goes = subst (λ (bytes : List ℕ). ArePending from (lines ++ line ∷ []) next bytes start mid) (sym t.answered.text)
        (pending_more line t.answered.reply next t.to goes t.to_is (t.answered.loaded ∙ ap (λ (q : Progress). q.loaded) at) step_is)

    line_none : is_quit line ≡ true → after ≡ pending
    line_none quits =
        t.answered.text ∙ ap (λ (l : List ℕ). pending ++ l) (quit_reply p.to.loaded line t.answered.reply p.to.session t.to.session quits step_is) ∙ append-nil pending

    pub line_answered : (how : Flow) → how ≡ flow_behind (command_of line) → AnswersLine from lines line next pending after start mid how
    line_answered Go is = line_more (goes_by line is)
    line_answered Stop is = (stops_by line is, line_none (stops_by line is))

  pub line_replied : {E : Type 0} → (line : List ℕ) (next : Option Progress) (after : List ℕ) (r : Result Flow E) → OnOk r (Turns now next line pending after)
      → IfOk r (λ how. how ≡ flow_behind (command_of line)) → IfOk r (AnswersLine from lines line next pending after start mid)
  line_replied line next after (Ok how) turns flow = line_answered line next after turns how flow
  line_replied line next after (Err error) turns flow = tt

  -- a line that is too long
  module _ (line : List ℕ) (long : command.LINE_LIMIT < length line) where
    too_long : command_of line ≡ TooLong
    unfolding command_of
    too_long = ap (λ (b : Bool). cond b TooLong (asked_by (words_of line))) (lt-ltb command.LINE_LIMIT (length line) long)

    long_step : Step p.to.loaded p.to.session line (line_of (codes "refused long")) p.to.session
    long_step = subst (λ (l : Line). Answers p.to.loaded p.to.session l (line_of (codes "refused long")) p.to.session) (sym too_long) (refl, refl)

    pub long_replied : {E : Type 0} → (after : List ℕ) (r : Result Flow E) → IfOk r (λ how. (how ≡ Go) × (after ≡ pending ++ line_of (codes "refused long")))
        → IfOk r (AnswersLine from lines line now pending after start mid)
    long_replied after (Ok how) done =
        subst (AnswersLine from lines line now pending after start mid) (sym done.0)
        (subst (λ (bytes : List ℕ). ArePending from (lines ++ line ∷ []) now bytes start mid) (sym done.1)
        (pending_more line (line_of (codes "refused long")) now p.to (ap ends too_long) p.to_is refl long_step))
    long_replied after (Err error) done = tt

module _ (from : Progress) (lines : List (List ℕ)) (now : Option Progress) (start mid : Option (List ℕ)) (a : AreServed from lines now start mid) where
  -- nothing is pending where all is written
  pub served_pending : ArePending from lines now [] start mid
  served_pending = record {
    to = a.to;
    to_is = a.to_is;
    loaded = a.loaded;
    sent = a.replies;
    run = subst (λ (r : List ℕ). Run from.loaded from.session lines r a.to.session) (sym (append-nil a.replies)) a.run;
    goes = a.goes;
    written = a.written;
  }

  -- memory gave out behind them
  pub served_broken : (more : List (List ℕ)) → AreBroken from (lines ++ more) start mid
  served_broken more =
      pending_broken from lines now [] start mid served_pending more mid (record { front = []; behind = []; parts = refl; written = Appends-nil mid })

  -- a line that ends the session has no reply
  pub served_quit : (line : List ℕ) → is_quit line ≡ true → AreEnded from (lines ++ line ∷ []) start mid
  served_quit line stops =
      let up : until_quit (lines ++ line ∷ []) ≡ lines =
      until_then lines (line ∷ []) a.goes ∙ ap (λ (b : Bool). lines ++ cond b [] (line ∷ [])) stops ∙ append-nil lines in
      record {
        replies = a.replies;
        last = a.to.session;
        run = subst (λ (ls : List (List ℕ)). Run from.loaded from.session ls a.replies a.to.session) (sym up) a.run;
        quits = list_any-append is_quit lines (line ∷ []) ∙ ap (λ (b : Bool). has_quit lines || (b || false)) stops ∙ or_right (has_quit lines) true refl;
        written = a.written;
      }

-- ---- lines behind

module _ (from : Progress) (xs ys : List (List ℕ)) (old new : Option (List ℕ)) where
  pub ended_on : AreEnded from xs old new → AreEnded from (xs ++ ys) old new
  ended_on e = record {
    replies = e.replies;
    last = e.last;
    run = subst (λ (ls : List (List ℕ)). Run from.loaded from.session ls e.replies e.last) (sym (until_ended xs ys e.quits)) e.run;
    quits = quits_more xs ys e.quits;
    written = e.written;
  }

pub served_answered : (from : Progress) (lines : List (List ℕ)) (now : Option Progress) (old new : Option (List ℕ)) → AreServed from lines now old new → AreAnswered from lines old new
served_answered from lines now old new a = record {
  replies = a.replies;
  last = a.to.session;
  run = subst (λ (ls : List (List ℕ)). Run from.loaded from.session ls a.replies a.to.session) (sym (until_all lines a.goes)) a.run;
  written = a.written;
}

pub ended_answered : (from : Progress) (lines : List (List ℕ)) (old new : Option (List ℕ)) → AreEnded from lines old new → AreAnswered from lines old new
ended_answered from lines old new e = record { replies = e.replies; last = e.last; run = e.run; written = e.written }
