-- What a session leaves, from what was taken of it and answered.
use Rattle.std.proofs.Common.{◌≡◌, ℕ, ◌+◌, ◌-◌, ◌<◌, ◌≤◌, Bool, true, false, cond, List, [], ◌++◌, length, take, Option, None, Some, IfSome, refl, sym, ap, ◌∙◌, subst, append_assoc, append-nil, length-append, inl, inr, arith}
use Rattle.std.specs.Io.KnownBytes.{Appends, Consumes, IsAtEnd}
use Rattle.std.proofs.KnownBytes.{Appends-trans}
use Rattle.std.proofs.Math.Seq.{take-append-add, take-append_seam}
use Rattle.std.proofs.lemmas.Bool.{cases_lt, le-leb, lt-leb, or_left}
use Rattle.std.proofs.lemmas.List.{take_all}
use Rattle.std.proofs.lemmas.List.Folds.{list_any-append}
use Rattle.nc_lines.specs.Lines.{lines_of}
use Rattle.nc_lines.specs.WholeLines.{whole_lines_of, open_of}
use Rattle.nc_lines.proofs.WholeLines.{whole_more, lines_more}
use Rattle.nc_session.specs.Limits.{most_session_bytes}
use Rattle.nc_session.specs.declared.status.Status.TheVariants.{Done, InputFault, Limit}
use Rattle.nc_engine.specs.File.{LoadedView}
use Rattle.nc_engine.specs.Session.{State, no_tests, Run, AreReplies, is_quit, until_quit}
use Rattle.nc_engine.specs.Engine.{Progress, begin_at}
use Rattle.nc_session.specs.Output.{Writes, Serves, ServesWithin, has_quit, is_within, lines_within, served_lines, TookQuit}
use Rattle.nc_session.specs.Refusals.{long_session_text}
use Rattle.nc_session.specs.Serving.{AppendsFront, AreServed, AreEnded, AreBroken, AreAnswered}
use Rattle.nc_session.specs.Leaving.{Told, told, Takes, IsCutShort, Begins, IsBegun, Leaves}
use Rattle.nc_engine.specs.Session.{GoesOn}
use Rattle.nc_session.proofs.Options.{writes}
use Rattle.nc_session.proofs.ServedLines.{run_then, until_all, until_ended, until_more}

-- ---- the lines that are served

module _ (session : List ℕ) where
  pub short_served : length session ≤ most_session_bytes → served_lines session ≡ lines_of session
  short_served short = ap (λ (b : Bool). cond b (lines_of session) (lines_within session)) (le-leb (length session) most_session_bytes short)

  pub short_within : length session ≤ most_session_bytes → is_within session ≡ true
  short_within short = ap (λ (b : Bool). cond b true (has_quit (lines_within session))) (le-leb (length session) most_session_bytes short)

  pub long_served : most_session_bytes < length session → served_lines session ≡ lines_within session
  long_served long = ap (λ (b : Bool). cond b (lines_of session) (lines_within session)) (lt-leb (length session) most_session_bytes long)

  pub long_within : most_session_bytes < length session → is_within session ≡ has_quit (lines_within session)
  long_within long = ap (λ (b : Bool). cond b true (has_quit (lines_within session))) (lt-leb (length session) most_session_bytes long)

-- the lines within the limit of bytes that stay within it
few_within : (taken : List ℕ) → length taken ≤ most_session_bytes → lines_within taken ≡ whole_lines_of taken
few_within taken few = ap whole_lines_of (take_all most_session_bytes taken few)

module _ (taken rest : List ℕ) (few : length taken ≤ most_session_bytes) where
  -- the whole lines of what was taken are in front of those within the limit, and of those that are served
  front_within : (more : List (List ℕ)) × (lines_within (taken ++ rest) ≡ whole_lines_of taken ++ more)
  front_within =
      let room : ℕ = most_session_bytes - length taken in
      let sum : length taken + room ≡ most_session_bytes = omega arith in (
        whole_lines_of (open_of taken ++ take room rest),
        ap (λ (n : ℕ). whole_lines_of (take n (taken ++ rest))) (sym sum) ∙ ap whole_lines_of (take-append-add taken rest room) ∙ whole_more taken (take room rest),
      )

  pub front_served : (more : List (List ℕ)) × (served_lines (taken ++ rest) ≡ whole_lines_of taken ++ more)
  front_served = elim (cases_lt most_session_bytes (length (taken ++ rest))) [
    | inl long ↦ (front_within.0, long_served (taken ++ rest) long ∙ front_within.1)
    | inr short ↦ (lines_of (open_of taken ++ rest), short_served (taken ++ rest) short ∙ lines_more taken rest)
  ]

  -- a line that ends the session keeps it within the limit
  pub quit_within : has_quit (whole_lines_of taken) ≡ true → is_within (taken ++ rest) ≡ true
  quit_within quits = elim (cases_lt most_session_bytes (length (taken ++ rest))) [
    | inl long ↦
        long_within (taken ++ rest) long ∙ ap has_quit front_within.1 ∙ list_any-append is_quit (whole_lines_of taken) front_within.0
        ∙ or_left (has_quit (whole_lines_of taken)) (has_quit front_within.0) quits
    | inr short ↦ short_within (taken ++ rest) short
  ]

-- ---- what is served of a session

module _ (n : LoadedView) (session : List ℕ) where
  serves_within : (bytes : List ℕ) → is_within session ≡ true → AreReplies n (served_lines session) bytes → Serves n session Done bytes
  serves_within bytes within replies = subst (λ (b : Bool). ServesWithin n session b Done bytes) (sym within) (refl, replies)

  serves_past : (replies : List ℕ) → is_within session ≡ false → AreReplies n (served_lines session) replies → Serves n session Limit (replies ++ long_session_text)
  serves_past replies past are = subst (λ (b : Bool). ServesWithin n session b Limit (replies ++ long_session_text)) (sym past) (refl, replies, are, refl)

  -- the lines in front have these replies, and the lines behind go on
  module _ (lines more : List (List ℕ)) (served : served_lines session ≡ lines ++ more) (goes : GoesOn n) where
    module _ (answered others : List (List ℕ)) (parts : until_quit lines ≡ answered ++ others) (replies : List ℕ) (last : State) (run : Run n no_tests answered replies last) where
      -- the replies go on to all
      replies_on : (rest : List ℕ) × AreReplies n (served_lines session) (replies ++ rest)
      replies_on =
          let further = until_more lines more in
          let behind : List (List ℕ) = others ++ further.0 in
          let up : until_quit (served_lines session) ≡ answered ++ behind =
          ap until_quit served ∙ further.1 ∙ ap (λ (ls : List (List ℕ)). ls ++ further.0) parts ∙ append_assoc answered others further.0 in
          let on = goes answered behind replies last run in (
            on.0,
            record {
              last = on.1;
              run = subst (λ (ls : List (List ℕ)). Run n no_tests ls (replies ++ on.0) on.1) (sym up) (run_then n no_tests last on.1 answered behind replies on.0 run on.2);
            },
          )

      begins_of : (front behind : List ℕ) → replies ≡ front ++ behind → Begins n session front
      begins_of front behind cut = on (is_within session) refl
        where
          text : (tail : List ℕ) → (replies ++ replies_on.0) ++ tail ≡ front ++ (behind ++ (replies_on.0 ++ tail))
          text tail =
              append_assoc replies replies_on.0 tail ∙ ap (λ (l : List ℕ). l ++ (replies_on.0 ++ tail)) cut ∙ append_assoc front behind (replies_on.0 ++ tail)

          on : (b : Bool) → is_within session ≡ b → Begins n session front
          on true e = (
            Done,
            behind ++ (replies_on.0 ++ []),
            subst (λ (l : List ℕ). Serves n session Done l) (sym (append-nil (replies ++ replies_on.0)) ∙ text []) (serves_within (replies ++ replies_on.0) e replies_on.1),
          )
          on false e = (
            Limit,
            behind ++ (replies_on.0 ++ long_session_text),
            subst (λ (l : List ℕ). Serves n session Limit l) (text long_session_text) (serves_past (replies ++ replies_on.0) e replies_on.1),
          )

    pub broken_begins : (old new : Option (List ℕ)) → AreBroken (begin_at n) lines old new → Writes old new (Begins n session)
    broken_begins old new b =
        writes old new b.begun.front (Begins n session) b.begun.written (begins_of b.answered b.others b.parts b.replies b.last b.run b.begun.front b.begun.behind b.begun.parts)

-- ---- by status

-- what holds of a session of which something was taken
of_rest : (rest left : Option (List ℕ)) (taken : List ℕ) (P : List ℕ → Type 0) → Consumes rest left taken → ((more : List ℕ) → P (taken ++ more)) → IfSome rest P
of_rest None left taken P consumed holds = tt
of_rest (Some session) None taken P consumed holds = absurd consumed
of_rest (Some session) (Some more) taken P consumed holds = subst P (sym consumed) (holds more)

-- the same where nothing is left
of_all : (rest left : Option (List ℕ)) (taken : List ℕ) (P : List ℕ → Type 0) → Consumes rest left taken → IsAtEnd left → P taken → IfSome rest P
of_all None left taken P consumed ended holds = tt
of_all (Some session) None taken P consumed ended holds = absurd consumed
of_all (Some session) (Some more) taken P consumed ended holds =
    subst P (sym (consumed ∙ ap (λ (l : List ℕ). taken ++ l) ended ∙ append-nil taken)) holds

-- something of which P holds was taken
takes_of : (rest left : Option (List ℕ)) (taken : List ℕ) (P : List ℕ → Type 0) → Consumes rest left taken → P taken → Takes rest left P
takes_of None left taken P consumed holds = tt
takes_of (Some session) None taken P consumed holds = absurd consumed
takes_of (Some session) (Some more) taken P consumed holds = (taken, consumed, holds)

took_quit : (rest left : Option (List ℕ)) (taken : List ℕ) → Consumes rest left taken → has_quit (lines_within taken) ≡ true → TookQuit rest left
took_quit None left taken consumed quits = tt
took_quit (Some session) None taken consumed quits = absurd consumed
took_quit (Some session) (Some more) taken consumed quits = (taken, consumed, quits)

module _ (n : LoadedView) (before : Told) (rest new : Option (List ℕ)) (taken : List ℕ) (consumed : Consumes before.rest rest taken) where
  module _ (few : length taken ≤ most_session_bytes) where
    -- a line ended the session
    pub quit_leaves : AreEnded (begin_at n) (whole_lines_of taken) before.written new → Leaves n before (told rest new) Done
    quit_leaves e = (
      of_rest before.rest rest taken (λ session. (is_within session ≡ true) × Writes before.written new (λ bytes. Serves n session Done bytes)) consumed
          (λ more.
          let within : is_within (taken ++ more) ≡ true = quit_within taken more few e.quits in
          let served = front_served taken more few in
          let up : until_quit (served_lines (taken ++ more)) ≡ until_quit (whole_lines_of taken) = ap until_quit served.1 ∙ until_ended (whole_lines_of taken) served.0 e.quits in
          let run : Run n no_tests (until_quit (served_lines (taken ++ more))) e.replies e.last = subst (λ (ls : List (List ℕ)). Run n no_tests ls e.replies e.last) (sym up) e.run in
          (within, writes before.written new e.replies (λ bytes. Serves n (taken ++ more) Done bytes) e.written (serves_within n (taken ++ more) e.replies within (record { last = e.last; run = run })))),
      inr (took_quit before.rest rest taken consumed (ap has_quit (few_within taken few) ∙ e.quits)),
    )

    -- the session was answered to its end
    pub end_leaves : IsAtEnd rest → AreAnswered (begin_at n) (lines_of taken) before.written new → Leaves n before (told rest new) Done
    end_leaves ended a = (
      of_all before.rest rest taken (λ session. (is_within session ≡ true) × Writes before.written new (λ bytes. Serves n session Done bytes)) consumed ended
          (let within : is_within taken ≡ true = short_within taken few in
          let run : Run n no_tests (until_quit (served_lines taken)) a.replies a.last = subst (λ (ls : List (List ℕ)). Run n no_tests (until_quit ls) a.replies a.last) (sym (short_served taken few)) a.run in
          (within, writes before.written new a.replies (λ bytes. Serves n taken Done bytes) a.written (serves_within n taken a.replies within (record { last = a.last; run = run })))),
      inl ended,
    )

    -- the source failed
    pub fault_leaves : (now : Option Progress) → AreServed (begin_at n) (whole_lines_of taken) now before.written new → Leaves n before (told rest new) InputFault
    fault_leaves now a =
        let run : Run n no_tests (until_quit (whole_lines_of taken)) a.replies a.to.session = subst (λ (ls : List (List ℕ)). Run n no_tests ls a.replies a.to.session) (sym (until_all (whole_lines_of taken) a.goes)) a.run in
        takes_of before.rest rest taken (IsCutShort n before.written new) consumed (record {
          few = few;
          goes = a.goes;
          replied = writes before.written new a.replies (λ bytes. AreReplies n (whole_lines_of taken) bytes) a.written (record { last = a.to.session; run = run });
        })

    -- memory or the sink gave out behind the whole lines
    pub broken_leaves : GoesOn n → AreBroken (begin_at n) (whole_lines_of taken) before.written new → IsBegun n before (told rest new)
    broken_leaves goes b =
        of_rest before.rest rest taken (λ session. Writes before.written new (Begins n session)) consumed
        (λ more. let served = front_served taken more few in broken_begins n (taken ++ more) (whole_lines_of taken) served.0 served.1 goes before.written new b)

    -- the same at the end of the session
    pub last_broken : GoesOn n → IsAtEnd rest → AreBroken (begin_at n) (lines_of taken) before.written new → IsBegun n before (told rest new)
    last_broken goes ended b =
        of_all before.rest rest taken (λ session. Writes before.written new (Begins n session)) consumed ended
        (broken_begins n taken (lines_of taken) [] (short_served taken few ∙ sym (append-nil (lines_of taken))) goes before.written new b)

-- ---- past the limit

module _ (n : LoadedView) (before : Told) (rest mid new : Option (List ℕ)) (taken extra : List ℕ) (full : length taken ≡ most_session_bytes) (some : 0 < length extra)
    (consumed : Consumes before.rest rest (taken ++ extra)) (now : Option Progress) (a : AreServed (begin_at n) (whole_lines_of taken) now before.written mid) where
  module _ (more : List ℕ) where
    abbrev session : List ℕ
    session = (taken ++ extra) ++ more

    long : most_session_bytes < length session
    long = omega (arith, length-append (taken ++ extra) more, length-append taken extra)

    front : lines_within session ≡ whole_lines_of taken
    front =
        ap (λ (l : List ℕ). whole_lines_of (take most_session_bytes l)) (append_assoc taken extra more)
        ∙ ap (λ (n : ℕ). whole_lines_of (take n (taken ++ (extra ++ more)))) (sym full) ∙ ap whole_lines_of (take-append_seam taken (extra ++ more))

    past : is_within session ≡ false
    past = long_within session long ∙ ap has_quit front ∙ a.goes

    are : AreReplies n (served_lines session) a.replies
    are = record {
      last = a.to.session;
      run = subst (λ (ls : List (List ℕ)). Run n no_tests ls a.replies a.to.session) (sym (ap until_quit (long_served session long ∙ front) ∙ until_all (whole_lines_of taken) a.goes)) a.run;
    }

    limit_served : Serves n session Limit (a.replies ++ long_session_text)
    limit_served = serves_past n session a.replies past are

  -- the refusal was written
  pub limit_leaves : Appends mid new long_session_text → Leaves n before (told rest new) Limit
  limit_leaves said =
      of_rest before.rest rest (taken ++ extra) (λ session. (is_within session ≡ false) × Writes before.written new (λ bytes. Serves n session Limit bytes)) consumed
      (λ more. (
        past more,
        writes before.written new (a.replies ++ long_session_text) (λ bytes. Serves n ((taken ++ extra) ++ more) Limit bytes)
            (Appends-trans before.written mid new a.replies long_session_text a.written said) (limit_served more),
      ))

  -- the sink failed within it
  pub limit_broken : AppendsFront mid new long_session_text → IsBegun n before (told rest new)
  limit_broken begun =
      of_rest before.rest rest (taken ++ extra) (λ session. Writes before.written new (Begins n session)) consumed
      (λ more.
      let text : a.replies ++ long_session_text ≡ (a.replies ++ begun.front) ++ begun.behind =
      ap (λ (l : List ℕ). a.replies ++ l) begun.parts ∙ sym (append_assoc a.replies begun.front begun.behind) in
      writes before.written new (a.replies ++ begun.front) (Begins n ((taken ++ extra) ++ more)) (Appends-trans before.written mid new a.replies begun.front a.written begun.written)
      (Limit, begun.behind, subst (λ (l : List ℕ). Serves n ((taken ++ extra) ++ more) Limit l) text (limit_served more)))
