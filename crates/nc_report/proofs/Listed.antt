-- The lines of routers in one text.
use Rattle.std.proofs.Common.{◌≡◌, ℕ, suc, zero, ◌+◌, ◌-◌, ◌<◌, ◌≤◌, List, [], ◌∷◌, ◌++◌, length, get_or, map, set, take, drop, refl, sym, ap, ◌∙◌, arith, append_assoc, length-append}
use Rattle.std.specs.List.{flat_map}
use Rattle.std.proofs.lemmas.List.{drop_at, get_or-drop, get_or-map, get_or-take, length-map, length-set, set-append_left, set-append_right, set_past, take_at}
use Rattle.std.proofs.lemmas.List.Concat.{flat_map-cons}
use Rattle.nc_report.specs.declared.listing.Place.{Place}
use Rattle.nc_report.specs.Texts.{Sheet, sheet_in, sheet_of}
use Rattle.nc_report.specs.Shown.{with_letter, put_letter}
use Rattle.nc_report.specs.Listings.{sheet_between, place_at, places_from, AreListed}

abbrev none : Sheet
none = record { name = []; letters = [] }

long-line : (s : Sheet) → length (sheet_of s) ≡ length s.name + length s.letters + 2
long-line s = omega (arith, length-append (s.name ++ (32 ∷ s.letters)) (10 ∷ []), length-append s.name (32 ∷ s.letters))

-- the line of a router is what stands at its place
between : (before : List ℕ) (s : Sheet) (rest : List ℕ) → sheet_between (before ++ (sheet_of s ++ rest)) (place_at (length before) s) ≡ s
between before s rest =
    ap (λ (ns : List ℕ). record { name = ns; letters = take (start + length s.name + 1 + length s.letters - (start + length s.name + 1)) (drop (start + length s.name + 1) text) }) name
    ∙ ap (λ (ls : List ℕ). record { name = s.name; letters = ls }) letters
  where
    start : ℕ
    start = length before

    text : List ℕ
    text = before ++ (sheet_of s ++ rest)

    parts : sheet_of s ++ rest ≡ s.name ++ (32 ∷ (s.letters ++ (10 ∷ rest)))
    parts = append_assoc (s.name ++ (32 ∷ s.letters)) (10 ∷ []) rest ∙ append_assoc s.name (32 ∷ s.letters) (10 ∷ rest)

    name : take (start + length s.name + 1 - 1 - start) (drop start text) ≡ s.name
    name = ap (take (start + length s.name + 1 - 1 - start)) (drop_at before (sheet_of s ++ rest) start refl ∙ parts)
        ∙ take_at s.name (32 ∷ (s.letters ++ (10 ∷ rest))) (start + length s.name + 1 - 1 - start) (omega arith)

    front : List ℕ
    front = before ++ (s.name ++ 32 ∷ [])

    whole : text ≡ front ++ (s.letters ++ (10 ∷ rest))
    whole = ap (λ (t : List ℕ). before ++ t) (parts ∙ sym (append_assoc s.name (32 ∷ []) (s.letters ++ (10 ∷ rest)))) ∙ sym (append_assoc before (s.name ++ 32 ∷ []) (s.letters ++ (10 ∷ rest)))

    letters : take (start + length s.name + 1 + length s.letters - (start + length s.name + 1)) (drop (start + length s.name + 1) text) ≡ s.letters
    letters = ap (take (start + length s.name + 1 + length s.letters - (start + length s.name + 1)))
        (ap (drop (start + length s.name + 1)) whole
        ∙ drop_at front (s.letters ++ (10 ∷ rest)) (start + length s.name + 1) (omega (arith, length-append before (s.name ++ 32 ∷ []), length-append s.name (32 ∷ []))))
        ∙ take_at s.letters (10 ∷ rest) (start + length s.name + 1 + length s.letters - (start + length s.name + 1)) (omega arith)

-- and so are all lines
read : (before : List ℕ) (ss : List Sheet) → map (sheet_between (before ++ flat_map sheet_of ss)) (places_from (length before) ss) ≡ ss
read before [] = refl
read before (s ∷ ss) =
    ap (λ (t : List ℕ). map (sheet_between t) (places_from (length before) (s ∷ ss))) (ap (λ (t : List ℕ). before ++ t) (flat_map-cons sheet_of s ss))
    ∙ ap (λ (x : Sheet). x ∷ map (sheet_between (before ++ (sheet_of s ++ flat_map sheet_of ss))) (places_from (length before + length (sheet_of s)) ss)) (between before s (flat_map sheet_of ss))
    ∙ ap (λ (xs : List Sheet). s ∷ xs)
    (ap (λ (t : List ℕ). map (sheet_between t) (places_from (length before + length (sheet_of s)) ss)) (sym (append_assoc before (sheet_of s) (flat_map sheet_of ss)))
    ∙ ap (λ (n : ℕ). map (sheet_between ((before ++ sheet_of s) ++ flat_map sheet_of ss)) (places_from n ss)) (sym (length-append before (sheet_of s)))
    ∙ read (before ++ sheet_of s) ss)

-- a text that is made of lines
pub listed : (ss : List Sheet) (text : List ℕ) (places : List Place) → text ≡ flat_map sheet_of ss → places ≡ places_from 0 ss → AreListed text places × (map (sheet_between text) places ≡ ss)
listed ss text places is at =
    let seen : map (sheet_between text) places ≡ ss = ap (λ (t : List ℕ). map (sheet_between t) places) is ∙ ap (map (sheet_between (flat_map sheet_of ss))) at ∙ read [] ss in (
      record { lines = is ∙ ap (flat_map sheet_of) (sym seen); stand = at ∙ ap (places_from 0) (sym seen) },
      seen,
    )

-- where the line of a router begins
abbrev start_of : List Sheet → ℕ → ℕ
start_of [] router = 0
start_of (s ∷ ss) zero = 0
start_of (s ∷ ss) (suc router) = length (sheet_of s) + start_of ss router

place-in : (start : ℕ) (ss : List Sheet) (router : ℕ) (p : Place) → router < length ss → get_or (places_from start ss) router p ≡ place_at (start + start_of ss router) (sheet_in ss router)
place-in start [] router p lt = absurd (omega arith)
place-in start (s ∷ ss) zero p lt = ap (λ (n : ℕ). place_at n s) {x = start} {y = start + 0} (omega arith)
place-in start (s ∷ ss) (suc router) p lt =
    let count : start + length (sheet_of s) + start_of ss router ≡ start + (length (sheet_of s) + start_of ss router) = omega arith in
    place-in (start + length (sheet_of s)) ss router p (omega arith) ∙ ap (λ (n : ℕ). place_at n (sheet_in ss router)) count

start-within : (ss : List Sheet) (router : ℕ) → router < length ss → start_of ss router + length (sheet_of (sheet_in ss router)) ≤ length (flat_map sheet_of ss)
start-within [] router lt = absurd (omega arith)
start-within (s ∷ ss) zero lt = omega (arith, ap length (flat_map-cons sheet_of s ss), length-append (sheet_of s) (flat_map sheet_of ss))
start-within (s ∷ ss) (suc router) lt = omega (arith, ap length (flat_map-cons sheet_of s ss), length-append (sheet_of s) (flat_map sheet_of ss), start-within ss router (omega arith))

-- ---- a letter is put

put-line : (s : Sheet) (place v i : ℕ) → i ≡ length s.name + 1 + place → place < length s.letters → set (sheet_of s) i v ≡ sheet_of (with_letter s place v)
put-line s place v i at within =
    let count : i - length s.name ≡ suc place = omega arith in
    set-append_left (s.name ++ (32 ∷ s.letters)) (10 ∷ []) i v (omega (arith, length-append s.name (32 ∷ s.letters)))
    ∙ ap (λ (t : List ℕ). t ++ 10 ∷ []) (set-append_right s.name (32 ∷ s.letters) (length s.name) i v refl (omega arith) ∙ ap (λ (n : ℕ). s.name ++ set (32 ∷ s.letters) n v) count)

put-lines : (ss : List Sheet) (router place v i : ℕ) → i ≡ start_of ss router + length (sheet_in ss router).name + 1 + place → router < length ss → place < length (sheet_in ss router).letters
    → set (flat_map sheet_of ss) i v ≡ flat_map sheet_of (put_letter ss router place v)
put-lines [] router place v i at lt within = absurd (omega arith)
put-lines (s ∷ ss) zero place v i at lt within =
    ap (λ (t : List ℕ). set t i v) (flat_map-cons sheet_of s ss) ∙ set-append_left (sheet_of s) (flat_map sheet_of ss) i v (omega (arith, long-line s))
    ∙ ap (λ (t : List ℕ). t ++ flat_map sheet_of ss) (put-line s place v i (omega arith) within) ∙ sym (flat_map-cons sheet_of (with_letter s place v) ss)
put-lines (s ∷ ss) (suc router) place v i at lt within =
    ap (λ (t : List ℕ). set t i v) (flat_map-cons sheet_of s ss) ∙ set-append_right (sheet_of s) (flat_map sheet_of ss) (length (sheet_of s)) i v refl (omega arith)
    ∙ ap (λ (t : List ℕ). sheet_of s ++ t) (put-lines ss router place v (i - length (sheet_of s)) (omega arith) (omega arith) within) ∙ sym (flat_map-cons sheet_of s (put_letter ss router place v))

put-places : (start : ℕ) (ss : List Sheet) (router place v : ℕ) → places_from start (put_letter ss router place v) ≡ places_from start ss
put-places start [] router place v = refl
put-places start (s ∷ ss) zero place v =
    let long : length (set s.letters place v) ≡ length s.letters = length-set s.letters place v in
    let count : start + length (sheet_of (with_letter s place v)) ≡ start + length (sheet_of s) = omega (arith, long-line s, long-line (with_letter s place v)) in
    ap (λ (n : ℕ). record { start = start; letters = start + length s.name + 1; end = start + length s.name + 1 + n } ∷ places_from (start + length (sheet_of (with_letter s place v))) ss) long
    ∙ ap (λ (n : ℕ). place_at start s ∷ places_from n ss) count
put-places start (s ∷ ss) (suc router) place v = ap (λ (ps : List Place). place_at start s ∷ ps) (put-places (start + length (sheet_of s)) ss router place v)

-- ---- in a text of lines

module _ (text : List ℕ) (places : List Place) (are : AreListed text places) (router : ℕ) (line : Place) (lt : router < length places) (at : line ≡ get_or places router line) where
  abbrev pub seen : List Sheet
  seen = map (sheet_between text) places

  there : router < length seen
  there = omega (arith, length-map places (sheet_between text))

  line-is : line ≡ place_at (start_of seen router) (sheet_in seen router)
  line-is =
      let first : 0 + start_of seen router ≡ start_of seen router = omega arith in
      at ∙ ap (λ (ps : List Place). get_or ps router line) are.stand ∙ place-in 0 seen router line there ∙ ap (λ (n : ℕ). place_at n (sheet_in seen router)) first

  -- the places of a line are in order, and within the text
  pub line-within : (line.start < line.letters) × (line.letters ≤ line.end) × (line.end < length text)
  line-within =
      let a = ap (λ (p : Place). p.start) line-is in
      let b = ap (λ (p : Place). p.letters) line-is in
      let c = ap (λ (p : Place). p.end) line-is in
      let long = long-line (sheet_in seen router) in
      let whole = start-within seen router there in
      let all = ap length are.lines in (omega arith, omega arith, omega arith)

  pub line-seen : sheet_between text line ≡ sheet_in seen router
  line-seen = sym (get_or-map (sheet_between text) places router line none lt ∙ ap (sheet_between text) (sym at))

  module _ (place : ℕ) (within : place < line.end - line.letters) where
    pub letter-within : place < length (sheet_in seen router).letters
    letter-within = omega (arith, ap (λ (p : Place). p.letters) line-is, ap (λ (p : Place). p.end) line-is)

    pub letter-before : get_or text (line.letters + place) 0 ≡ get_or (sheet_in seen router).letters place 0
    letter-before = sym (ap (λ (s : Sheet). get_or s.letters place 0) (sym line-seen) ∙ get_or-take (line.end - line.letters) (drop line.letters text) place 0 within ∙ get_or-drop line.letters text place 0)

    pub letter-put : (v : ℕ) → AreListed (set text (line.letters + place) v) places × (map (sheet_between (set text (line.letters + place) v)) places ≡ put_letter seen router place v)
    letter-put v =
        listed (put_letter seen router place v) (set text (line.letters + place) v) places
        (ap (λ (t : List ℕ). set t (line.letters + place) v) are.lines ∙ put-lines seen router place v (line.letters + place) (omega (arith, ap (λ (p : Place). p.letters) line-is)) there letter-within)
        (are.stand ∙ sym (put-places 0 seen router place v))

-- there is no such letter
pub put-none : (ss : List Sheet) (router place v : ℕ) → length ss ≤ router → put_letter ss router place v ≡ ss
put-none ss router place v le = set_past ss router _ le
