-- Cutting a session into its lines while it is read.
use Rattle.std.proofs.Common.{◌≡◌, ℕ, suc, ◌+◌, ◌-◌, ◌≤◌, ◌<◌, ◌==◌, min, Bool, true, false, not, ◌||◌, cond, nat_lt, List, [], ◌∷◌, ◌++◌, length, get_or, take, drop, map, Some, None, refl, sym, ap, ◌∙◌, append_assoc, append-nil, arith, inl, inr}
use Rattle.std.specs.Prelude.{position, if◌then◌else◌}
use Rattle.std.specs.List.{list_any, position_or_len}
use Rattle.std.proofs.Math.Seq.{take-append-add}
use Rattle.std.proofs.lemmas.Bool.{cases_lt, lt-ltb, le-ltb, ltb-false, eqb-true}
use Rattle.std.proofs.lemmas.List.{take_all, take-append-le, take-append-drop, length-take, length-take-le, get_or-take, drop_more, map-append}
use Rattle.std.proofs.lemmas.List.Folds.{list_any_none}
use Rattle.std.proofs.lemmas.List.Quantifiers.{position-Some}
use Rattle.nc_lines.specs.Lines.{is_empty, is_feed, without_return}
use Rattle.nc_lines.specs.WholeLines.{whole_lines_of, open_of, last_line}
use Rattle.nc_lines.proofs.WholeLines.{whole_held, open_held, whole_fed, open_fed, lines_end, whole_of_open, open_of_open}
use Rattle.nc_command.specs.Command.{most_line_bytes}
use Rattle.nc_command.specs.declared.cutter.Cut.{Cut}
use Rattle.nc_command.specs.declared.cutter.Cut.TheVariants.{Line, Long}
use Rattle.nc_command.specs.Cutting.{most_held_bytes, line_cut, cut_of, front_of, held_of, IsAtFeed, held_after, cuts_after, last_cut, CutsLines}

-- ---- what is held of a line tells how it is cut

-- a line loses at most one byte at its end
pub return_len : (xs : List ℕ) → (length (without_return xs) ≤ length xs) × (length xs ≤ length (without_return xs) + 1)
return_len [] = (omega arith, omega arith)
return_len (b ∷ []) =
    elim (b == 13) as (λ (t : Bool). (length (cond t [] (b ∷ [])) ≤ 1) × (1 ≤ length (cond t [] (b ∷ [])) + 1)) [
      | true ↦ (omega arith, omega arith)
      | false ↦ (omega arith, omega arith)
    ]
return_len (b ∷ next ∷ bs) = let more = return_len (next ∷ bs) in (omega arith, omega arith)

pub cut_long : (xs : List ℕ) → most_line_bytes < length (without_return xs) → cut_of xs ≡ Long
unfolding cut_of
cut_long xs long = ap (λ (t : Bool). cond t Long (Line (without_return xs))) (lt-ltb most_line_bytes (length (without_return xs)) long)

pub cut_short : (xs : List ℕ) → length (without_return xs) ≤ most_line_bytes → cut_of xs ≡ Line (without_return xs)
unfolding cut_of
cut_short xs short = ap (λ (t : Bool). cond t Long (Line (without_return xs))) (le-ltb most_line_bytes (length (without_return xs)) short)

pub front_all : (xs : List ℕ) → length xs ≤ most_held_bytes → front_of xs ≡ xs
front_all xs short = take_all most_held_bytes xs short

-- the front of a line that is held suffices
pub cut_front : (xs : List ℕ) → cut_of (front_of xs) ≡ cut_of xs
cut_front xs =
    elim (cases_lt most_held_bytes (length xs)) [
      | inl long ↦
          let held : length (front_of xs) ≡ most_held_bytes = length-take-le most_held_bytes xs (omega arith) in
          cut_long (front_of xs) (omega (arith, return_len (front_of xs))) ∙ sym (cut_long xs (omega (arith, return_len xs)))
      | inr short ↦ ap cut_of (front_all xs short)
    ]

-- bytes go to the end of what is held
pub front_more : (xs ys : List ℕ) → front_of (front_of xs ++ ys) ≡ front_of (xs ++ ys)
front_more xs ys =
    elim (cases_lt most_held_bytes (length xs)) [
      | inl long ↦
          let held : length (front_of xs) ≡ most_held_bytes = length-take-le most_held_bytes xs (omega arith) in
          take-append-le most_held_bytes (front_of xs) ys (omega arith) ∙ take_all most_held_bytes (front_of xs) (omega arith)
          ∙ sym (take-append-le most_held_bytes xs ys (omega arith))
      | inr short ↦ ap (λ (bs : List ℕ). front_of (bs ++ ys)) (front_all xs short)
    ]

taken_min : (n : ℕ) (bytes : List ℕ) → take (min (length bytes) n) bytes ≡ take n bytes
taken_min n bytes =
    elim (cases_lt (length bytes) n) [
      | inl few ↦ take_all (min (length bytes) n) bytes (omega arith) ∙ sym (take_all n bytes (omega arith))
      | inr many ↦ ap (λ (k : ℕ). take k bytes) (omega arith)
    ]

pub front_taken : (old bytes : List ℕ) (count : ℕ) → length old ≤ most_held_bytes → count ≡ min (length bytes) (most_held_bytes - length old) → old ++ take count bytes ≡ front_of (old ++ bytes)
front_taken old bytes count within is =
    let room : length old + (most_held_bytes - length old) ≡ most_held_bytes = omega arith in
    ap (λ (k : ℕ). old ++ take k bytes) is ∙ ap (λ (bs : List ℕ). old ++ bs) (taken_min (most_held_bytes - length old) bytes)
    ∙ sym (take-append-add old bytes (most_held_bytes - length old)) ∙ ap (λ (k : ℕ). take k (old ++ bytes)) room

-- ---- the first line feed of a piece

none_past : (xs : List ℕ) → length xs ≤ position_or_len is_feed xs → list_any is_feed xs ≡ false
none_past [] past = refl
none_past (x ∷ xs) past = on (is_feed x) past (none_past xs)
  where
    on : (b : Bool) → suc (length xs) ≤ cond (not b) (1 + position_or_len is_feed xs) 0 → (length xs ≤ position_or_len is_feed xs → list_any is_feed xs ≡ false)
        → (b || list_any is_feed xs) ≡ false
    on true h rest = absurd (omega arith)
    on false h rest = rest (omega arith)

pub feed_none : (xs : List ℕ) → position is_feed xs ≡ None → list_any is_feed xs ≡ false
feed_none xs none = none_past xs (on (nat_lt (position_or_len is_feed xs) (length xs)) refl none)
  where
    on : (b : Bool) → nat_lt (position_or_len is_feed xs) (length xs) ≡ b → cond b (Some (position_or_len is_feed xs)) None ≡ None → length xs ≤ position_or_len is_feed xs
    on true is e = absurd cc
    on false is e = ltb-false (position_or_len is_feed xs) (length xs) is

module _ (xs : List ℕ) (i : ℕ) (found : position is_feed xs ≡ Some i) where
  feed_parts : xs ≡ take i xs ++ 10 ∷ drop (i + 1) xs
  feed_parts =
      let at = position-Some is_feed xs i 0 found in
      let feed : get_or xs i 0 ≡ 10 = eqb-true (get_or xs i 0) 10 at.1 in
      sym (take-append-drop i xs) ∙ ap (λ (bs : List ℕ). take i xs ++ bs) (drop_more xs i 0 at.0 ∙ ap (λ (b : ℕ). b ∷ drop (i + 1) xs) feed)

  feed_first : list_any is_feed (take i xs) ≡ false
  feed_first =
      list_any_none is_feed (take i xs) (λ k d below.
      let before : k < i = omega (arith, length-take i xs) in
      ap is_feed (get_or-take i xs k d before) ∙ (position-Some is_feed xs i d found).2 k before)

  pub at_feed : (front rest : List ℕ) → front ≡ take i xs → rest ≡ drop (i + 1) xs → IsAtFeed xs front rest
  at_feed front rest fronts rests = record {
    parts = feed_parts ∙ ap (λ (l : List ℕ). take i xs ++ 10 ∷ l) (sym rests) ∙ ap (λ (l : List ℕ). l ++ 10 ∷ rest) (sym fronts);
    first = ap (list_any is_feed) fronts ∙ feed_first;
  }

-- ---- all bytes of a session

-- one byte more
held_step : (xs : List ℕ) (byte : ℕ) → (if is_feed byte then [] else front_of (held_of xs ++ byte ∷ [])) ≡ held_of (xs ++ byte ∷ [])
held_step xs byte = on (is_feed byte) refl
  where
    on : (b : Bool) → is_feed byte ≡ b → cond b [] (front_of (held_of xs ++ byte ∷ [])) ≡ held_of (xs ++ byte ∷ [])
    on true is =
        let feed : byte ≡ 10 = eqb-true byte 10 is in
        sym (ap (λ (b : ℕ). held_of (xs ++ b ∷ [])) feed ∙ ap front_of (open_fed xs [] refl))
    on false is =
        let none : list_any is_feed (byte ∷ []) ≡ false = ap (λ (t : Bool). t || false) is in
        front_more (open_of xs) (byte ∷ []) ∙ sym (ap front_of (open_held xs (byte ∷ []) none))

pub held_more : (xs bytes : List ℕ) → held_after (held_of xs) bytes ≡ held_of (xs ++ bytes)
held_more xs [] = ap held_of (sym (append-nil xs))
held_more xs (byte ∷ bytes) =
    ap (λ (held : List ℕ). held_after held bytes) (held_step xs byte) ∙ held_more (xs ++ byte ∷ []) bytes ∙ ap held_of (append_assoc xs (byte ∷ []) bytes)

cuts_step : (xs : List ℕ) (byte : ℕ) (bytes : List ℕ) → map line_cut (whole_lines_of xs) ++ cuts_after (held_of xs) (byte ∷ bytes)
    ≡ map line_cut (whole_lines_of (xs ++ byte ∷ [])) ++ cuts_after (held_of (xs ++ byte ∷ [])) bytes
unfolding cut_of
cuts_step xs byte bytes = on (is_feed byte) refl
  where
    on : (b : Bool) → is_feed byte ≡ b → map line_cut (whole_lines_of xs) ++ cond b (cut_of (held_of xs) ∷ cuts_after [] bytes) (cuts_after (front_of (held_of xs ++ byte ∷ [])) bytes)
        ≡ map line_cut (whole_lines_of (xs ++ byte ∷ [])) ++ cuts_after (held_of (xs ++ byte ∷ [])) bytes
    on true is =
        let feed : byte ≡ 10 = eqb-true byte 10 is in
        let line : List ℕ = without_return (open_of xs) in
        let cut : cut_of (held_of xs) ≡ line_cut line = cut_front (open_of xs) in
        let whole : whole_lines_of (xs ++ byte ∷ []) ≡ whole_lines_of xs ++ line ∷ [] =
        ap (λ (b : ℕ). whole_lines_of (xs ++ b ∷ [])) feed ∙ whole_fed xs [] refl
        ∙ ap (λ (bs : List ℕ). whole_lines_of xs ++ without_return bs ∷ []) (append-nil (open_of xs)) in
        let emptied : held_of (xs ++ byte ∷ []) ≡ [] = ap (λ (b : ℕ). held_of (xs ++ b ∷ [])) feed ∙ ap front_of (open_fed xs [] refl) in
        ap (λ (c : Cut). map line_cut (whole_lines_of xs) ++ c ∷ cuts_after [] bytes) cut
        ∙ sym (append_assoc (map line_cut (whole_lines_of xs)) (line_cut line ∷ []) (cuts_after [] bytes))
        ∙ sym (ap (λ (cs : List Cut). cs ++ cuts_after [] bytes) (map-append line_cut (whole_lines_of xs) (line ∷ [])))
        ∙ sym (ap (λ (ls : List (List ℕ)). map line_cut ls ++ cuts_after (held_of (xs ++ byte ∷ [])) bytes) whole
        ∙ ap (λ (h : List ℕ). map line_cut (whole_lines_of xs ++ line ∷ []) ++ cuts_after h bytes) emptied)
    on false is =
        let none : list_any is_feed (byte ∷ []) ≡ false = ap (λ (t : Bool). t || false) is in
        let held : front_of (held_of xs ++ byte ∷ []) ≡ held_of (xs ++ byte ∷ []) = front_more (open_of xs) (byte ∷ []) ∙ sym (ap front_of (open_held xs (byte ∷ []) none)) in
        ap (λ (h : List ℕ). map line_cut (whole_lines_of xs) ++ cuts_after h bytes) held
        ∙ sym (ap (λ (ls : List (List ℕ)). map line_cut ls ++ cuts_after (held_of (xs ++ byte ∷ [])) bytes) (whole_held xs (byte ∷ []) none))

pub cuts_more : (xs bytes : List ℕ) → map line_cut (whole_lines_of xs) ++ cuts_after (held_of xs) bytes ≡ map line_cut (whole_lines_of (xs ++ bytes))
cuts_more xs [] = append-nil (map line_cut (whole_lines_of xs)) ∙ ap (λ (bs : List ℕ). map line_cut (whole_lines_of bs)) (sym (append-nil xs))
cuts_more xs (byte ∷ bytes) =
    cuts_step xs byte bytes ∙ cuts_more (xs ++ byte ∷ []) bytes ∙ ap (λ (bs : List ℕ). map line_cut (whole_lines_of bs)) (append_assoc xs (byte ∷ []) bytes)

-- what is held in the end is the open line
last_is : (line : List ℕ) → last_cut (front_of line) ≡ map line_cut (map without_return (if is_empty line then [] else (line ∷ [])))
unfolding cut_of
last_is [] = refl
last_is (b ∷ bs) = ap (λ (cut : Cut). cut ∷ []) (cut_front (b ∷ bs))

nothing_held : held_of [] ≡ []
nothing_held = ap front_of (open_of_open [] refl) ∙ front_all [] (omega arith)

pub cuts_lines : (bytes : List ℕ) → CutsLines bytes
cuts_lines bytes =
    let held : held_after [] bytes ≡ held_of bytes = ap (λ (h : List ℕ). held_after h bytes) (sym nothing_held) ∙ held_more [] bytes in
    let cuts : cuts_after [] bytes ≡ map line_cut (whole_lines_of bytes) =
    ap (λ (h : List ℕ). cuts_after h bytes) (sym nothing_held)
    ∙ sym (ap (λ (ls : List (List ℕ)). map line_cut ls ++ cuts_after (held_of []) bytes) (whole_of_open [] refl)) ∙ cuts_more [] bytes in
    record {
      held = held;
      cuts = cuts;
      all =
          ap (λ (cs : List Cut). cs ++ last_cut (held_after [] bytes)) cuts
          ∙ ap (λ (h : List ℕ). map line_cut (whole_lines_of bytes) ++ last_cut h) held
          ∙ ap (λ (cs : List Cut). map line_cut (whole_lines_of bytes) ++ cs) (last_is (open_of bytes))
          ∙ sym (ap (map line_cut) (lines_end bytes) ∙ map-append line_cut (whole_lines_of bytes) (last_line bytes));
    }
