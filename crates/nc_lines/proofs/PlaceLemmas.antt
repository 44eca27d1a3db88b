-- Lines by their places in a text.
use Rattle.std.proofs.Common.{◌≡◌, ℕ, ◌+◌, ◌-◌, ◌<◌, ◌≤◌, min, Bool, true, false, cond, List, [], ◌∷◌, length, take, drop, Option, Some, None, refl, sym, ap, ◌∙◌, subst, arith}
use Rattle.std.specs.Prelude.{position, unwrap_or, ◌==◌, slice_range}
use Rattle.std.proofs.lemmas.List.{take_all, drop_all, take-take, drop-drop, drop_min, length-take}
use Rattle.nc_lines.specs.Lines.{is_feed, without_return, lines_of}
use Rattle.nc_lines.proofs.LineLemmas.{split_missed, split_found, lines_of-cut, lines_of-nil, lines_of-last}

-- ---- lines

-- a line without its return is a front of it
without_return-front : (line : List ℕ) → take (length (without_return line)) line ≡ without_return line
without_return-front [] = refl
without_return-front (b ∷ []) =
    elim (b == 13) as (λ (t : Bool). take (length (cond t [] (b ∷ []))) (b ∷ []) ≡ cond t [] (b ∷ [])) [ true ↦ refl | false ↦ refl ]
without_return-front (b ∷ c ∷ bs) = ap (λ (bytes : List ℕ). b ∷ bytes) (without_return-front (c ∷ bs))

pub without_return-within : (line : List ℕ) → length (without_return line) ≤ length line
without_return-within [] = omega arith
without_return-within (b ∷ []) = elim (b == 13) as (λ (t : Bool). length (cond t [] (b ∷ [])) ≤ 1) [ true ↦ omega arith | false ↦ omega arith ]
without_return-within (b ∷ c ∷ bs) = omega (arith, without_return-within (c ∷ bs))

-- the first line of a text, up to its first line feed or its end
lines_of-first : (text : List ℕ) (end : ℕ) → 0 < length text → end ≡ unwrap_or (position is_feed text) (length text)
    → lines_of text ≡ without_return (take end text) ∷ lines_of (drop (end + 1) text)
lines_of-first text end some end-is =
    let Cut : ℕ → Type 0 = λ k. lines_of text ≡ without_return (take k text) ∷ lines_of (drop (k + 1) text) in
    let whole : lines_of (drop (length text + 1) text) ≡ [] = ap lines_of (drop_all (length text + 1) text (omega arith)) ∙ lines_of-nil in
    let on : (o : Option ℕ) → position is_feed text ≡ o → Cut (unwrap_or o (length text)) =
    λ o. elim o as (λ (o : Option ℕ). position is_feed text ≡ o → Cut (unwrap_or o (length text))) [
      | None ↦ λ e. lines_of-last text (split_missed is_feed text e) some ∙ sym (ap (λ (line : List ℕ). without_return line ∷ lines_of (drop (length text + 1) text)) (take_all (length text) text (omega arith)) ∙ ap (λ (lines : List (List ℕ)). without_return text ∷ lines) whole)
      | Some i ↦ λ e. lines_of-cut text (take i text) (drop (i + 1) text) (split_found is_feed text i e)
    ] in
    subst Cut (sym end-is) (on (position is_feed text) refl)

-- the length of a line in its text
pub line_within : (text line : List ℕ) (end : ℕ) → line ≡ without_return (take end text) → (length line ≤ end) × (length line ≤ length text)
line_within text line end line-is =
    let short = without_return-within (take end text) in
    let len : length line ≡ length (without_return (take end text)) = ap length line-is in
    (omega (arith, len, short, length-take end text), omega (arith, len, short, length-take end text))

-- the first line from a place on
pub line_placed : (bytes rest line : List ℕ) (from end : ℕ) → rest ≡ drop from bytes → 0 < length rest → end ≡ unwrap_or (position is_feed rest) (length rest) → line ≡ without_return (take end rest)
    → lines_of (drop from bytes) ≡ slice_range bytes from (from + length line) ∷ lines_of (drop (min (from + end + 1) (length bytes)) bytes)
line_placed bytes rest line from end rest-is some end-is line-is =
    let front : line ≡ take (length line) rest =
    line-is ∙ sym (without_return-front (take end rest)) ∙ ap (λ (bs : List ℕ). take (length bs) (take end rest)) (sym line-is) ∙ take-take (length line) end rest (line_within rest line end line-is).0 in
    let len : length line ≡ from + length line - from = omega arith in
    let placed : line ≡ slice_range bytes from (from + length line) = front ∙ ap (λ (bs : List ℕ). take (length line) bs) rest-is ∙ ap (λ (k : ℕ). take k (drop from bytes)) len in
    let next : drop (end + 1) rest ≡ drop (min (from + end + 1) (length bytes)) bytes =
    ap (drop (end + 1)) rest-is ∙ drop-drop (end + 1) from bytes ∙ ap (λ (k : ℕ). drop k bytes) (omega arith) ∙ sym (drop_min (from + end + 1) bytes) in
    ap lines_of (sym rest-is) ∙ lines_of-first rest end some end-is ∙ ap (λ (l : List ℕ). l ∷ lines_of (drop (end + 1) rest)) (sym line-is ∙ placed) ∙ ap (λ (bs : List ℕ). slice_range bytes from (from + length line) ∷ lines_of bs) next
