-- The whole lines of a text that grows, and what it leaves open.
use Rattle.std.proofs.Common.{◌≡◌, ℕ, Bool, true, false, ◌||◌, ◌==◌, cond, List, [], ◌∷◌, ◌++◌, length, take, map, refl, sym, ap, ◌∙◌, append_assoc, append-nil}
use Rattle.std.specs.Prelude.{if◌then◌else◌}
use Rattle.std.specs.List.{slice_split, onto_first, list_any}
use Rattle.std.proofs.lemmas.List.{map-append}
use Rattle.std.proofs.lemmas.List.Folds.{list_any-append}
use Rattle.nc_lines.specs.Lines.{is_empty, is_feed, without_empty_last, without_return, lines_of}
use Rattle.nc_lines.specs.WholeLines.{all_but_last, last_part, whole_lines_of, open_of, LinesGoOn, TakesBytes, last_line}

-- ---- parts

module _ (p : ℕ → Bool) where
  cut_some : (b : Bool) (x : ℕ) (parts : List (List ℕ)) → cond b ([] ∷ parts) (onto_first x parts) ≡ [] → ⊥
  cut_some true x parts e = absurd cc
  cut_some false x [] e = absurd cc
  cut_some false x (part ∷ parts) e = absurd cc

  -- a text has a part at least
  some_part : (xs : List ℕ) → slice_split p xs ≡ [] → ⊥
  some_part [] e = absurd cc
  some_part (x ∷ xs) e = cut_some (p x) x (slice_split p xs) e

  -- the parts of a text that is cut in two: what the front leaves open stands in front of the rest
  split_more : (xs ys : List ℕ) → slice_split p (xs ++ ys) ≡ all_but_last (slice_split p xs) ++ slice_split p (last_part (slice_split p xs) ++ ys)
  split_more [] ys = refl
  split_more (x ∷ xs) ys = on (p x) (slice_split p xs) (slice_split p (xs ++ ys)) refl (some_part xs) (split_more xs ys)
    where
      on : (b : Bool) (front all : List (List ℕ)) → p x ≡ b → (front ≡ [] → ⊥) → all ≡ all_but_last front ++ slice_split p (last_part front ++ ys)
          → cond b ([] ∷ all) (onto_first x all) ≡ all_but_last (cond b ([] ∷ front) (onto_first x front)) ++ slice_split p (last_part (cond b ([] ∷ front) (onto_first x front)) ++ ys)
      on b [] all is some e = absurd (some refl)
      on true (part ∷ parts) all is some e = ap (λ (ps : List (List ℕ)). [] ∷ ps) e
      on false (part ∷ []) all is some e =
          ap (onto_first x) e ∙ sym (ap (λ (t : Bool). cond t ([] ∷ slice_split p (part ++ ys)) (onto_first x (slice_split p (part ++ ys)))) is)
      on false (part ∷ next ∷ parts) all is some e = ap (onto_first x) e

-- the last of parts of which some stand behind
last_behind : (front parts : List (List ℕ)) → (parts ≡ [] → ⊥) → last_part (front ++ parts) ≡ last_part parts
last_behind [] parts some = refl
last_behind (part ∷ []) [] some = absurd (some refl)
last_behind (part ∷ []) (next ∷ parts) some = refl
last_behind (part ∷ next ∷ front) parts some = last_behind (next ∷ front) parts some

all_but_behind : (front parts : List (List ℕ)) → (parts ≡ [] → ⊥) → all_but_last (front ++ parts) ≡ front ++ all_but_last parts
all_but_behind [] parts some = refl
all_but_behind (part ∷ []) [] some = absurd (some refl)
all_but_behind (part ∷ []) (next ∷ parts) some = refl
all_but_behind (part ∷ next ∷ front) parts some = ap (λ (ps : List (List ℕ)). part ∷ ps) (all_but_behind (next ∷ front) parts some)

empty_behind : (front parts : List (List ℕ)) → (parts ≡ [] → ⊥) → without_empty_last (front ++ parts) ≡ front ++ without_empty_last parts
empty_behind [] parts some = refl
empty_behind (part ∷ []) [] some = absurd (some refl)
empty_behind (part ∷ []) (next ∷ parts) some = refl
empty_behind (part ∷ next ∷ front) parts some = ap (λ (ps : List (List ℕ)). part ∷ ps) (empty_behind (next ∷ front) parts some)

-- ---- texts that are cut in two

module _ (xs ys : List ℕ) where
  parts_more : slice_split is_feed (xs ++ ys) ≡ all_but_last (slice_split is_feed xs) ++ slice_split is_feed (last_part (slice_split is_feed xs) ++ ys)
  parts_more = split_more is_feed xs ys

  some_behind : slice_split is_feed (last_part (slice_split is_feed xs) ++ ys) ≡ [] → ⊥
  some_behind = some_part is_feed (last_part (slice_split is_feed xs) ++ ys)

  pub whole_more : whole_lines_of (xs ++ ys) ≡ whole_lines_of xs ++ whole_lines_of (open_of xs ++ ys)
  unfolding whole_lines_of open_of
  whole_more =
      let front : List (List ℕ) = all_but_last (slice_split is_feed xs) in
      let behind : List (List ℕ) = slice_split is_feed (last_part (slice_split is_feed xs) ++ ys) in
      ap (λ (parts : List (List ℕ)). map without_return (all_but_last parts)) parts_more
      ∙ ap (map without_return) (all_but_behind front behind some_behind) ∙ map-append without_return front (all_but_last behind)

  pub lines_more : lines_of (xs ++ ys) ≡ whole_lines_of xs ++ lines_of (open_of xs ++ ys)
  unfolding lines_of whole_lines_of open_of
  lines_more =
      let front : List (List ℕ) = all_but_last (slice_split is_feed xs) in
      let behind : List (List ℕ) = slice_split is_feed (last_part (slice_split is_feed xs) ++ ys) in
      ap (λ (parts : List (List ℕ)). map without_return (without_empty_last parts)) parts_more
      ∙ ap (map without_return) (empty_behind front behind some_behind) ∙ map-append without_return front (without_empty_last behind)

  pub open_more : open_of (xs ++ ys) ≡ open_of (open_of xs ++ ys)
  unfolding open_of
  open_more =
      let front : List (List ℕ) = all_but_last (slice_split is_feed xs) in
      ap last_part parts_more ∙ last_behind front (slice_split is_feed (last_part (slice_split is_feed xs) ++ ys)) some_behind

  pub lines_go_on : LinesGoOn xs ys
  lines_go_on = record { whole = whole_more; lines = lines_more; rest = open_more }

-- ---- a text and some bytes of the line that it leaves open

-- no part of a text but the whole has a line feed in it
pub no_feed_parts : (xs : List ℕ) → list_any is_feed xs ≡ false → slice_split is_feed xs ≡ xs ∷ []
no_feed_parts [] none = refl
no_feed_parts (x ∷ xs) none = on (is_feed x) none (no_feed_parts xs)
  where
    on : (b : Bool) → (b || list_any is_feed xs) ≡ false → (list_any is_feed xs ≡ false → slice_split is_feed xs ≡ xs ∷ [])
        → cond b ([] ∷ slice_split is_feed xs) (onto_first x (slice_split is_feed xs)) ≡ (x ∷ xs) ∷ []
    on true e rest = absurd cc
    on false e rest = ap (onto_first x) (rest e)

-- a line feed ends the first part
feed_parts : (xs ys : List ℕ) → list_any is_feed xs ≡ false → slice_split is_feed (xs ++ 10 ∷ ys) ≡ xs ∷ slice_split is_feed ys
feed_parts [] ys none = refl
feed_parts (x ∷ xs) ys none = on (is_feed x) none (feed_parts xs ys)
  where
    on : (b : Bool) → (b || list_any is_feed xs) ≡ false → (list_any is_feed xs ≡ false → slice_split is_feed (xs ++ 10 ∷ ys) ≡ xs ∷ slice_split is_feed ys)
        → cond b ([] ∷ slice_split is_feed (xs ++ 10 ∷ ys)) (onto_first x (slice_split is_feed (xs ++ 10 ∷ ys))) ≡ (x ∷ xs) ∷ slice_split is_feed ys
    on true e rest = absurd cc
    on false e rest = ap (onto_first x) (rest e)

-- what is open has no line feed
last_uncut : (xs : List ℕ) → list_any is_feed (last_part (slice_split is_feed xs)) ≡ false
last_uncut [] = refl
last_uncut (x ∷ xs) = on (is_feed x) (slice_split is_feed xs) refl (some_part is_feed xs) (last_uncut xs)
  where
    on : (b : Bool) (parts : List (List ℕ)) → is_feed x ≡ b → (parts ≡ [] → ⊥) → list_any is_feed (last_part parts) ≡ false
        → list_any is_feed (last_part (cond b ([] ∷ parts) (onto_first x parts))) ≡ false
    on b [] is some e = absurd (some refl)
    on true (part ∷ parts) is some e = e
    on false (part ∷ []) is some e = ap (λ (t : Bool). t || list_any is_feed part) is ∙ e
    on false (part ∷ next ∷ parts) is some e = e

pub open_uncut : (xs : List ℕ) → list_any is_feed (open_of xs) ≡ false
unfolding open_of
open_uncut xs = last_uncut xs

module _ (xs : List ℕ) (none : list_any is_feed xs ≡ false) where
  -- a text without a line feed is open
  pub whole_of_open : whole_lines_of xs ≡ []
  unfolding whole_lines_of
  whole_of_open = ap (λ (parts : List (List ℕ)). map without_return (all_but_last parts)) (no_feed_parts xs none)

  pub open_of_open : open_of xs ≡ xs
  unfolding open_of
  open_of_open = ap last_part (no_feed_parts xs none)

  pub lines_of_open : lines_of xs ≡ map without_return (if is_empty xs then [] else (xs ∷ []))
  unfolding lines_of
  lines_of_open = ap (λ (parts : List (List ℕ)). map without_return (without_empty_last parts)) (no_feed_parts xs none)

  -- a line feed ends the open line
  pub whole_of_ended : whole_lines_of (xs ++ 10 ∷ []) ≡ without_return xs ∷ []
  unfolding whole_lines_of
  whole_of_ended = ap (λ (parts : List (List ℕ)). map without_return (all_but_last parts)) (feed_parts xs [] none)

  pub open_of_ended : open_of (xs ++ 10 ∷ []) ≡ []
  unfolding open_of
  open_of_ended = ap last_part (feed_parts xs [] none)

-- ---- what more bytes do to a text

module _ (xs ys : List ℕ) (none : list_any is_feed ys ≡ false) where
  open_on : list_any is_feed (open_of xs ++ ys) ≡ false
  open_on = list_any-append is_feed (open_of xs) ys ∙ ap (λ (t : Bool). t || list_any is_feed ys) (open_uncut xs) ∙ none

  -- bytes without a line feed go to the end of the open line
  pub whole_held : whole_lines_of (xs ++ ys) ≡ whole_lines_of xs
  whole_held = whole_more xs ys ∙ ap (λ (ls : List (List ℕ)). whole_lines_of xs ++ ls) (whole_of_open (open_of xs ++ ys) open_on) ∙ append-nil (whole_lines_of xs)

  pub open_held : open_of (xs ++ ys) ≡ open_of xs ++ ys
  open_held = open_more xs ys ∙ open_of_open (open_of xs ++ ys) open_on

  -- a line feed behind them ends it
  pub whole_fed : whole_lines_of (xs ++ (ys ++ 10 ∷ [])) ≡ whole_lines_of xs ++ without_return (open_of xs ++ ys) ∷ []
  whole_fed =
      whole_more xs (ys ++ 10 ∷ []) ∙ ap (λ (bs : List ℕ). whole_lines_of xs ++ whole_lines_of bs) (sym (append_assoc (open_of xs) ys (10 ∷ [])))
      ∙ ap (λ (ls : List (List ℕ)). whole_lines_of xs ++ ls) (whole_of_ended (open_of xs ++ ys) open_on)

  pub open_fed : open_of (xs ++ (ys ++ 10 ∷ [])) ≡ []
  open_fed = open_more xs (ys ++ 10 ∷ []) ∙ ap open_of (sym (append_assoc (open_of xs) ys (10 ∷ []))) ∙ open_of_ended (open_of xs ++ ys) open_on

  pub held_and_fed : TakesBytes xs ys
  held_and_fed = record { whole = whole_held; open_line = open_held; ended = whole_fed; none_open = open_fed }

-- the lines of a text are its whole lines and the open one, where that has bytes
pub lines_end : (xs : List ℕ) → lines_of xs ≡ whole_lines_of xs ++ last_line xs
lines_end xs =
    ap lines_of (sym (append-nil xs)) ∙ lines_more xs [] ∙ ap (λ (bs : List ℕ). whole_lines_of xs ++ lines_of bs) (append-nil (open_of xs))
    ∙ ap (λ (ls : List (List ℕ)). whole_lines_of xs ++ ls) (lines_of_open (open_of xs) (open_uncut xs))

-- a line without its carriage return is a front of it
pub return_front : (xs : List ℕ) → take (length (without_return xs)) xs ≡ without_return xs
return_front [] = refl
return_front (b ∷ []) = elim (b == 13) as (λ (t : Bool). take (length (cond t [] (b ∷ []))) (b ∷ []) ≡ cond t [] (b ∷ [])) [ true ↦ refl | false ↦ refl ]
return_front (b ∷ next ∷ bs) = ap (λ (l : List ℕ). b ∷ l) (return_front (next ∷ bs))
