-- A session that is served piece by piece.
use Rattle.std.proofs.Common.{◌≡◌, ◌≢◌, ℕ, ◌+◌, ◌<◌, ◌≤◌, min, true, false, List, [], ◌∷◌, ◌++◌, length, take, map, Option, Some, Result, Ok, Err, inl, inr, refl, sym, ap, ◌∙◌, subst, append_assoc, append-nil, length-append, arith}
use Rattle.std.specs.Prelude.{if◌then◌else◌, IfOk}
use Rattle.std.specs.List.{list_any}
use Rattle.std.specs.Io.KnownBytes.{Appends, Keeps, Consumes, IsAtEnd}
use Rattle.std.proofs.KnownBytes.{Appends-nil, Consumes-nil, Consumes-trans, Consumes-kept}
use Rattle.nc_outside.specs.Counts.{Faults}
use Rattle.std.proofs.lemmas.List.{length-take}
use Rattle.nc_lines.specs.Lines.{is_empty, is_feed, lines_of, without_return}
use Rattle.nc_lines.specs.WholeLines.{whole_lines_of, open_of}
use Rattle.nc_lines.proofs.WholeLines.{whole_more, whole_held, open_held, whole_fed, open_fed, lines_end, whole_of_open, open_of_open}
use Rattle.nc_command.specs.declared.cutter.Cut.{Cut}
use Rattle.nc_command.specs.Cutting.{most_held_bytes, cut_of, front_of, held_of}
use Rattle.nc_command.proofs.CutLemmas.{cut_front, front_more}
use Rattle.nc_session.specs.Limits.{most_session_bytes}
use Rattle.nc_engine.specs.declared.engine.Flow.{Flow}
use Rattle.nc_engine.specs.declared.engine.Flow.TheVariants as flow
use Rattle.nc_load.specs.declared.reading.Stop.{Stop}
use Rattle.nc_load.specs.declared.reading.Stop.TheVariants as stop
use Rattle.nc_session.specs.declared.status.Status.{Status}
use Rattle.nc_session.specs.declared.status.Status.TheVariants.{Done, Config, Usage, Unstable, InputFault, OutputFault, FileFault, Memory, Limit}
use Rattle.nc_engine.specs.File.{LoadedView}
use Rattle.nc_engine.specs.Session.{no_tests, Run, is_quit}
use Rattle.nc_session.specs.Output.{has_quit}
use Rattle.nc_engine.specs.Engine.{Progress, begin_at}
use Rattle.nc_session.specs.Serving.{AppendsFront, EndsWith, AreServed, ArePending, AreEnded, AreBroken, AreAnswered, ServesLines, AnswersLine}
use Rattle.nc_session.specs.Leaving.{Told, told, failures, Leaves, FailsAs, stopped_as}
use Rattle.nc_engine.specs.Session.{GoesOn}
use Rattle.nc_session.specs.SoFar.{IsTaken, RefusesRest}
use Rattle.nc_session.proofs.ServedLines.{pending_served, pending_broken, pending_ends, served_broken, served_quit, served_answered, ended_answered, ended_on}
use Rattle.nc_session.proofs.SessionLeft.{quit_leaves, end_leaves, fault_leaves, broken_leaves, last_broken, limit_leaves, limit_broken}

-- ---- a piece, line by line

empty_front : (xs : List ℕ) → front_of xs ≡ [] → xs ≡ []
empty_front [] e = refl
empty_front (x ∷ xs) e =
    let none : length (front_of (x ∷ xs)) ≡ 0 = ap length e in
    let taken : length (front_of (x ∷ xs)) ≡ min most_held_bytes (length (x ∷ xs)) = length-take most_held_bytes (x ∷ xs) in
    absurd (omega arith)

pub nothing_held : (held : List ℕ) → length held ≡ 0 → held ≡ []
nothing_held [] none = refl
nothing_held (b ∷ bs) none = absurd (omega arith)

-- a line that stands whole in a piece, where nothing is held in front
pub first_is : (taken front held line : List ℕ) → held ≡ [] → held ≡ held_of taken → line ≡ without_return front → line ≡ without_return (open_of taken ++ front)
first_is taken front held line none is e =
    e ∙ ap (λ (bs : List ℕ). without_return (bs ++ front)) (sym (empty_front (open_of taken) (sym is ∙ none)))

-- the line that is cut, by what was taken and the bytes in front of the line feed
module _ (taken front : List ℕ) (first : list_any is_feed front ≡ false) where
  pub cut_is : (held : List ℕ) (cut : Cut) → held ≡ held_of taken → cut ≡ cut_of (held ++ front) → cut ≡ cut_of (open_of taken ++ front)
  cut_is held cut is e =
      e ∙ ap (λ (h : List ℕ). cut_of (h ++ front)) is ∙ sym (cut_front (held_of taken ++ front))
      ∙ ap cut_of (front_more (open_of taken) front) ∙ cut_front (open_of taken ++ front)

  pub lines_fed : whole_lines_of taken ++ without_return (open_of taken ++ front) ∷ [] ≡ whole_lines_of (taken ++ (front ++ 10 ∷ []))
  lines_fed = sym (whole_fed taken front first)

  pub nothing_open : [] ≡ held_of (taken ++ (front ++ 10 ∷ []))
  nothing_open = sym (ap front_of (open_fed taken front first))

-- whole lines of what was taken stand in front of those of more
pub lines_on : (xs ys : List ℕ) → (more : List (List ℕ)) × (whole_lines_of (xs ++ ys) ≡ whole_lines_of xs ++ more)
lines_on xs ys = (whole_lines_of (open_of xs ++ ys), whole_more xs ys)

module _ (from : Progress) (xs ys : List ℕ) (old new : Option (List ℕ)) where
  ended_behind : AreEnded from (whole_lines_of xs) old new → AreEnded from (whole_lines_of (xs ++ ys)) old new
  ended_behind e = let on = lines_on xs ys in subst (λ (ls : List (List ℕ)). AreEnded from ls old new) (sym on.1) (ended_on from (whole_lines_of xs) on.0 old new e)

  pub memory_behind : (now : Option Progress) → AreServed from (whole_lines_of xs) now old new → AreBroken from (whole_lines_of (xs ++ ys)) old new
  memory_behind now a = let on = lines_on xs ys in subst (λ (ls : List (List ℕ)). AreBroken from ls old new) (sym on.1) (served_broken from (whole_lines_of xs) now old new a on.0)

-- what was taken, and the front and the rest of a piece
pub joined : (taken front rest piece : List ℕ) → piece ≡ front ++ rest → (taken ++ front) ++ rest ≡ taken ++ piece
joined taken front rest piece parts = append_assoc taken front rest ∙ ap (λ (bs : List ℕ). taken ++ bs) (sym parts)

-- a piece through the line feed behind some bytes of it
pub fed : (front line behind : List ℕ) → front ++ (line ++ 10 ∷ behind) ≡ (front ++ (line ++ 10 ∷ [])) ++ behind
fed front line behind =
    ap (λ (bs : List ℕ). front ++ bs) (sym (append_assoc line (10 ∷ []) behind)) ∙ sym (append_assoc front (line ++ 10 ∷ []) behind)

pub fed_lines : (taken front line : List ℕ) → list_any is_feed line ≡ false
    → whole_lines_of (taken ++ front) ++ without_return (open_of (taken ++ front) ++ line) ∷ [] ≡ whole_lines_of (taken ++ (front ++ (line ++ 10 ∷ [])))
fed_lines taken front line first = lines_fed (taken ++ front) line first ∙ ap whole_lines_of (append_assoc taken front (line ++ 10 ∷ []))

-- what holds where it ends as was said
pub ok_after : (end : Result Flow Stop) (old new : Option (List ℕ)) (bytes : List ℕ) (result : Result Flow Stop) (P : Flow → Type 0) → EndsWith end old new bytes result → IfOk end P → IfOk result P
ok_after end old new bytes result P (inl done) holds = subst (λ (r : Result Flow Stop). IfOk r P) (sym done.0) holds
ok_after end old new bytes result P (inr failed) holds = subst (λ (r : Result Flow Stop). IfOk r P) (sym failed.0) tt

-- the replies to the whole lines so far are pending: they are written, and the piece is left
module _ (from : Progress) (xs : List ℕ) (now : Option Progress) (pending bytes : List ℕ) (same : bytes ≡ pending) (old mid new : Option (List ℕ))
    (p : ArePending from (whole_lines_of xs) now pending old mid) where
  pub pending_behind : (ys : List ℕ) → AppendsFront mid new bytes → AreBroken from (whole_lines_of (xs ++ ys)) old new
  pending_behind ys begun =
      let on = lines_on xs ys in
      subst (λ (ls : List (List ℕ)). AreBroken from ls old new) (sym on.1)
      (pending_broken from (whole_lines_of xs) now pending old mid p on.0 new (subst (AppendsFront mid new) same begun))

  all_served : Appends mid new bytes → AreServed from (whole_lines_of xs) now old new
  all_served written = pending_served from (whole_lines_of xs) now pending old mid p new (subst (Appends mid new) same written)

  module _ (result : Result Flow Stop) where
    -- at the end of the piece
    pub go_ends : (ys : List ℕ) → list_any is_feed ys ≡ false → EndsWith (Ok flow.Go) mid new bytes result → ServesLines from (whole_lines_of (xs ++ ys)) now old new result
    go_ends ys none ends =
        subst (λ (ls : List (List ℕ)). ServesLines from ls now old new result) (sym (whole_held xs ys none))
        (pending_ends from (whole_lines_of xs) now pending old mid p bytes same new result ends)

    -- where memory gave out
    pub memory_ends : (next : Option Progress) (ys : List ℕ) → EndsWith (Err stop.Memory) mid new bytes result → ServesLines from (whole_lines_of (xs ++ ys)) next old new result
    memory_ends next ys (inl done) =
        subst (λ (r : Result Flow Stop). ServesLines from (whole_lines_of (xs ++ ys)) next old new r) (sym done.0) (memory_behind from xs ys old new now (all_served done.1))
    memory_ends next ys (inr failed) =
        subst (λ (r : Result Flow Stop). ServesLines from (whole_lines_of (xs ++ ys)) next old new r) (sym failed.0) (pending_behind ys failed.1)

    -- at a line that ends the session
    pub quit_ends : (next : Option Progress) (line rest : List ℕ) → list_any is_feed line ≡ false → is_quit (without_return (open_of xs ++ line)) ≡ true
        → EndsWith (Ok flow.Stop) mid new bytes result → ServesLines from (whole_lines_of (xs ++ (line ++ 10 ∷ rest))) next old new result
    quit_ends next line rest first quits (inl done) =
        let ended : AreEnded from (whole_lines_of (xs ++ (line ++ 10 ∷ []))) old new =
        subst (λ (ls : List (List ℕ)). AreEnded from ls old new) (lines_fed xs line first)
        (served_quit from (whole_lines_of xs) now old new (all_served done.1) (without_return (open_of xs ++ line)) quits) in
        subst (λ (r : Result Flow Stop). ServesLines from (whole_lines_of (xs ++ (line ++ 10 ∷ rest))) next old new r) (sym done.0)
        (subst (λ (bs : List ℕ). AreEnded from (whole_lines_of bs) old new) (sym (fed xs line rest))
        (ended_behind from (xs ++ (line ++ 10 ∷ [])) rest old new ended))
    quit_ends next line rest first quits (inr failed) =
        subst (λ (r : Result Flow Stop). ServesLines from (whole_lines_of (xs ++ (line ++ 10 ∷ rest))) next old new r) (sym failed.0) (pending_behind (line ++ 10 ∷ rest) failed.1)

-- the sink failed behind a line that was answered, whether the line ends the session or doesn't
module _ (from : Progress) (xs line rest : List ℕ) (first : list_any is_feed line ≡ false) (engine next : Option Progress) (before after : List ℕ) (old mid new : Option (List ℕ))
    (p : ArePending from (whole_lines_of xs) engine before old mid) (begun : AppendsFront mid new after) where
  pub answer_broken : (how : Flow) → AnswersLine from (whole_lines_of xs) (without_return (open_of xs ++ line)) next before after old mid how → AreBroken from (whole_lines_of (xs ++ (line ++ 10 ∷ rest))) old new
  answer_broken flow.Go answers =
      subst (λ (bs : List ℕ). AreBroken from (whole_lines_of bs) old new) (sym (fed xs line rest))
      (pending_behind from (xs ++ (line ++ 10 ∷ [])) next after after refl old mid new
      (subst (λ (ls : List (List ℕ)). ArePending from ls next after old mid) (lines_fed xs line first) answers) rest begun)
  answer_broken flow.Stop quits = pending_behind from xs engine before after quits.1 old mid new p (line ++ 10 ∷ rest) begun

pub held_on : (xs ys held now : List ℕ) → list_any is_feed ys ≡ false → held ≡ held_of xs → now ≡ front_of (held ++ ys) → now ≡ held_of (xs ++ ys)
held_on xs ys held now none is e =
    e ∙ ap (λ (h : List ℕ). front_of (h ++ ys)) is ∙ front_more (open_of xs) ys ∙ sym (ap front_of (open_held xs ys none))

-- ---- the end of a session

no_line : (xs : List ℕ) → open_of xs ≡ [] → lines_of xs ≡ whole_lines_of xs
no_line xs e =
    lines_end xs ∙ ap (λ (bs : List ℕ). whole_lines_of xs ++ map without_return (if is_empty bs then [] else (bs ∷ []))) e ∙ append-nil (whole_lines_of xs)

one_line : (xs : List ℕ) → (open_of xs ≡ [] → ⊥) → lines_of xs ≡ whole_lines_of xs ++ without_return (open_of xs) ∷ []
one_line xs some = lines_end xs ∙ on (open_of xs) some
  where
    on : (bs : List ℕ) → (bs ≡ [] → ⊥) → whole_lines_of xs ++ map without_return (if is_empty bs then [] else (bs ∷ [])) ≡ whole_lines_of xs ++ without_return bs ∷ []
    on [] some = absurd (some refl)
    on (b ∷ bs) some = refl

module _ (n : LoadedView) (before : Told) (rest mid new : Option (List ℕ)) (engine : Option Progress) (held : List ℕ) (room : ℕ)
    (t : IsTaken (begin_at n) before (told rest mid) engine held room) (ended : IsAtEnd rest) where
  few : length t.taken ≤ most_session_bytes
  few = omega (arith, t.count)

  -- nothing is open
  pub nothing_left : held ≡ [] → Leaves n before (told rest mid) Done
  nothing_left none =
      let empty : open_of t.taken ≡ [] = empty_front (open_of t.taken) (sym t.held_is ∙ none) in
      let answered : AreAnswered (begin_at n) (lines_of t.taken) before.written mid =
      subst (λ (ls : List (List ℕ)). AreAnswered (begin_at n) ls before.written mid) (sym (no_line t.taken empty))
      (served_answered (begin_at n) (whole_lines_of t.taken) engine before.written mid t.served) in
      end_leaves n before rest mid t.taken t.consumed few ended answered

  -- the open line is cut
  pub last_cut_is : (cut : Cut) → cut ≡ cut_of held → cut ≡ cut_of (open_of t.taken)
  last_cut_is cut e = e ∙ ap cut_of t.held_is ∙ cut_front (open_of t.taken)

  module _ (some : 0 ≢ length held) (next : Option Progress) where
    abbrev last_lines : List (List ℕ)
    last_lines = whole_lines_of t.taken ++ without_return (open_of t.taken) ∷ []

    is_last : last_lines ≡ lines_of t.taken
    is_last = sym (one_line t.taken (λ empty. some (sym (ap length (t.held_is ∙ ap front_of empty)))))

    answered_by : (how : Flow) → ServesLines (begin_at n) last_lines next before.written new (Ok how) → AreAnswered (begin_at n) last_lines before.written new
    answered_by flow.Go served = served_answered (begin_at n) last_lines next before.written new served
    answered_by flow.Stop served = ended_answered (begin_at n) last_lines before.written new served

    -- and answered
    pub line_left : (how : Flow) → ServesLines (begin_at n) last_lines next before.written new (Ok how) → Leaves n before (told rest new) Done
    line_left how served =
        end_leaves n before rest new t.taken t.consumed few ended
        (subst (λ (ls : List (List ℕ)). AreAnswered (begin_at n) ls before.written new) is_last (answered_by how served))

    pub line_broken : GoesOn n → (why : Stop) → AreBroken (begin_at n) last_lines before.written new → Leaves n before (told rest new) (stopped_as why)
    line_broken goes why b = on why
      where
        on : (why : Stop) → Leaves n before (told rest new) (stopped_as why)
        on stop.Outside = last_broken n before rest new t.taken t.consumed few goes ended (subst (λ (ls : List (List ℕ)). AreBroken (begin_at n) ls before.written new) is_last b)
        on stop.Memory = last_broken n before rest new t.taken t.consumed few goes ended (subst (λ (ls : List (List ℕ)). AreBroken (begin_at n) ls before.written new) is_last b)

-- ---- a session, piece by piece

-- nothing was taken yet
pub taken_none : (n : LoadedView) (rest written : Option (List ℕ)) (engine : Option Progress) (held : List ℕ) → engine ≡ Some (begin_at n) → held ≡ []
    → IsTaken (begin_at n) (told rest written) (told rest written) engine held most_session_bytes
taken_none n rest written engine held is none = record {
  taken = [];
  consumed = Consumes-nil rest;
  held_is = none ∙ sym (ap front_of (open_of_open [] refl));
  served = record {
    to = begin_at n;
    to_is = is;
    loaded = refl;
    replies = [];
    run = subst (λ (ls : List (List ℕ)). Run n no_tests ls [] no_tests) (sym (whole_of_open [] refl)) (refl, refl);
    goes = ap has_quit (whole_of_open [] refl);
    written = Appends-nil written;
  };
  count = omega arith;
}

module _ (n : LoadedView) (before : Told) (rest mid : Option (List ℕ)) (engine : Option Progress) (held : List ℕ) (room : ℕ)
    (t : IsTaken (begin_at n) before (told rest mid) engine held room) where
  module _ (left : Option (List ℕ)) (piece : List ℕ) (consumed : Consumes rest left piece) (few : length piece ≤ room) (new : Option (List ℕ)) where
    further : Consumes before.rest left (t.taken ++ piece)
    further = Consumes-trans before.rest rest left t.taken piece t.consumed consumed

    within : length (t.taken ++ piece) ≤ most_session_bytes
    within = omega (arith, length-append t.taken piece, t.count)

    -- a piece more was taken
    pub taken_more : (next : Option Progress) (now : List ℕ) (less : ℕ) → AreServed (begin_at n) (whole_lines_of (t.taken ++ piece)) next before.written new
        → now ≡ held_of (t.taken ++ piece) → less + length piece ≡ room → IsTaken (begin_at n) before (told left new) next now less
    taken_more next now less served held_is count = record {
      taken = t.taken ++ piece;
      consumed = further;
      held_is = held_is;
      served = served;
      count = omega (arith, length-append t.taken piece, t.count);
    }

    -- a line of it ended the session
    pub taken_quit : AreEnded (begin_at n) (whole_lines_of (t.taken ++ piece)) before.written new → Leaves n before (told left new) Done
    taken_quit e = quit_leaves n before left new (t.taken ++ piece) further within e

    -- memory or the sink gave out
    pub taken_broken : GoesOn n → (why : Stop) → AreBroken (begin_at n) (whole_lines_of (t.taken ++ piece)) before.written new → Leaves n before (told left new) (stopped_as why)
    taken_broken goes stop.Outside b = broken_leaves n before left new (t.taken ++ piece) further within goes b
    taken_broken goes stop.Memory b = broken_leaves n before left new (t.taken ++ piece) further within goes b

  -- a read failed
  pub taken_fault : (left : Option (List ℕ)) → Keeps rest left → Leaves n before (told left mid) InputFault
  taken_fault left keeps =
      fault_leaves n before left mid t.taken (Consumes-kept before.rest rest left t.taken t.consumed keeps) (omega (arith, t.count)) engine t.served

  -- a read gave nothing
  pub taken_end : (left : Option (List ℕ)) (count : ℕ) (into : List ℕ) → count ≡ 0 → Consumes rest left (take count into) → IsTaken (begin_at n) before (told left mid) engine held room
  taken_end left count into none consumed = record {
    taken = t.taken;
    consumed = subst (Consumes before.rest left) (append-nil t.taken)
        (subst (λ (n : ℕ). Consumes before.rest left (t.taken ++ take n into)) none (Consumes-trans before.rest rest left t.taken (take count into) t.consumed consumed));
    held_is = t.held_is;
    served = t.served;
    count = t.count;
  }

-- an engine that wasn't made leaves nothing
pub nothing_begun : (n : LoadedView) (rest written : Option (List ℕ)) → GoesOn n → Leaves n (told rest written) (told rest written) Memory
nothing_begun n rest written goes =
    let t : IsTaken (begin_at n) (told rest written) (told rest written) (Some (begin_at n)) [] most_session_bytes =
    taken_none n rest written (Some (begin_at n)) [] refl refl in
    taken_broken n (told rest written) rest written (Some (begin_at n)) [] most_session_bytes t rest [] (Consumes-nil rest) (omega arith) written goes stop.Memory
    (memory_behind (begin_at n) t.taken [] written written (Some (begin_at n)) t.served)

-- as many bytes as the limit allows were taken, and one more
module _ (n : LoadedView) (before : Told) (rest mid : Option (List ℕ)) (engine : Option Progress) (held : List ℕ)
    (t : IsTaken (begin_at n) before (told rest mid) engine held 0) (left : Option (List ℕ)) (piece : List ℕ) (consumed : Consumes rest left piece) (some : 0 < length piece) (new : Option (List ℕ)) where
  pub past_leaves : (status : Status) → RefusesRest mid new status → Leaves n before (told left new) status
  past_leaves status refuses = on status refuses
    where
      full : length t.taken ≡ most_session_bytes
      full = omega (arith, t.count)

      more : Consumes before.rest left (t.taken ++ piece)
      more = Consumes-trans before.rest rest left t.taken piece t.consumed consumed

      on : (status : Status) → RefusesRest mid new status → Leaves n before (told left new) status
      on Limit said = limit_leaves n before left mid new t.taken piece full some more engine t.served said
      on OutputFault begun = limit_broken n before left mid new t.taken piece full some more engine t.served begun
      on Done refuses = absurd refuses
      on Config refuses = absurd refuses
      on Usage refuses = absurd refuses
      on Unstable refuses = absurd refuses
      on InputFault refuses = absurd refuses
      on FileFault refuses = absurd refuses
      on Memory refuses = absurd refuses

-- whose count rose, where neither did before
pub fails_from : (source now sink mid new : Faults) (status : Status) → now ≡ source → mid ≡ sink → ((source : Faults) → FailsAs (failures source mid) (failures source new) status)
    → FailsAs (failures source sink) (failures now new) status
fails_from source now sink mid new status is same fails =
    subst (λ (f : Faults). FailsAs (failures source sink) (failures f new) status) (sym is)
    (subst (λ (f : Faults). FailsAs (failures source f) (failures source new) status) same (fails source))
