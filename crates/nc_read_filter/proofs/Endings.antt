-- The last byte of a line is that of its last word, or a gap, and no word is longer than the line.
use Rattle.std.proofs.Common.{◌≡◌, ℕ, ◌<◌, ◌≤◌, ◌-◌, Bool, true, false, not, cond, eqb, List, [], ◌∷◌, length, map, filter, get_or, Option, Some, None, refl, sym, ap, ◌∙◌, subst, arith, inl, inr, codes}
use Rattle.std.specs.Prelude.{slice_get, option_and_then}
use Rattle.std.specs.List.{slice_split, onto_first, last_or}
use Rattle.std.specs.Option.{option_map}
use Rattle.std.specs.Str.{bytes_eq}
use Rattle.std.proofs.lemmas.Bool.{cases_Bool, or_parts, both_ways, eq-eqb}
use Rattle.std.proofs.lemmas.Option.{slice_get-get_or}
use Rattle.std.proofs.lemmas.Slice.Eq.{bytes_eq-Decides}
use Rattle.nc_types.proofs.Members.{in_by_filter}
use Rattle.nc_lines.proofs.Pairs.{Has}
use Rattle.nc_lines.specs.Lines.{is_empty, is_gap, words_of, line_at}
use Rattle.nc_lines.specs.Parts.{Numbered, numbered}
use Rattle.nc_read_filter.specs.Groups.{direction_of, behind_group, is_end, group_says}

-- ---- the last of a list

pub last_get : {X : Type 0} (x : X) (xs : List X) (d : X) → last_or (Some x) xs ≡ Some (get_or (x ∷ xs) (length xs) d)
last_get x [] d = refl
last_get x (y ∷ ys) d = last_get y ys d

pub last_at : {X : Type 0} (xs : List X) → last_or None xs ≡ slice_get xs (length xs - 1)
last_at [] = refl
last_at (x ∷ xs) =
    let k : length (x ∷ xs) - 1 ≡ length xs = omega arith in
    last_get x xs x ∙ sym (ap (slice_get (x ∷ xs)) k ∙ slice_get-get_or (x ∷ xs) (length xs) x (omega arith))

last_more : {X : Type 0} (o : Option X) (xs : List X) (x : X) → last_or None xs ≡ Some x → last_or o xs ≡ Some x
last_more o [] x e = absurd cc
last_more o (y ∷ ys) x e = e

pub last_map : {X Y : Type 0} (f : X → Y) (o : Option X) (xs : List X) → last_or (option_map f o) (map f xs) ≡ option_map f (last_or o xs)
last_map f o [] = refl
last_map f o (x ∷ xs) = last_map f (Some x) xs

-- ---- words

-- the last of these words ends in this byte
abbrev Ends : List (List ℕ) → ℕ → Type 0
Ends words b = (w : List ℕ) × (last_or None words ≡ Some w) × (last_or None w ≡ Some b)

split_ends : (line : List ℕ) (b : ℕ) → last_or None line ≡ Some b → is_gap b ≡ false → Ends (slice_split is_gap line) b
split_ends [] b e no_gap = absurd cc
split_ends (x ∷ []) b e no_gap =
    let same : x ≡ b = cc in
    let word : is_gap x ≡ false = ap is_gap same ∙ no_gap in
    subst (λ (t : Bool). Ends (cond t ([] ∷ [] ∷ []) ((x ∷ []) ∷ [])) b) (sym word) (x ∷ [], refl, e)
split_ends (x ∷ y ∷ ys) b e no_gap = on (is_gap x) (slice_split is_gap (y ∷ ys)) (split_ends (y ∷ ys) b e no_gap)
  where
    on : (t : Bool) (parts : List (List ℕ)) → Ends parts b → Ends (cond t ([] ∷ parts) (onto_first x parts)) b
    on true parts h = (h.0, last_more (Some []) parts h.0 h.1, h.2)
    on false [] h = absurd (let never = h.1 in cc)
    on false (p ∷ []) h =
        let same : p ≡ h.0 = (let is = h.1 in cc) in
        (x ∷ p, refl, last_more (Some x) p b (ap (λ (w : List ℕ). last_or None w) same ∙ h.2))
    on false (p ∷ q ∷ qs) h = h

full_ends : (parts : List (List ℕ)) (b : ℕ) → Ends parts b → Ends (filter (λ (word : List ℕ). not (is_empty word)) parts) b
full_ends [] b h = absurd (let never = h.1 in cc)
full_ends ([] ∷ []) b h =
    let same : [] ≡ h.0 = (let is = h.1 in cc) in
    absurd (let never : None ≡ Some b = ap (λ (w : List ℕ). last_or None w) same ∙ h.2 in cc)
full_ends ((x ∷ p) ∷ []) b h = h
full_ends (p ∷ q ∷ qs) b h = on (not (is_empty p)) (full_ends (q ∷ qs) b h)
  where
    on : (t : Bool) → Ends (filter (λ (word : List ℕ). not (is_empty word)) (q ∷ qs)) b
        → Ends (cond t (p ∷ filter (λ (word : List ℕ). not (is_empty word)) (q ∷ qs)) (filter (λ (word : List ℕ). not (is_empty word)) (q ∷ qs))) b
    on true rest = (rest.0, last_more (Some p) (filter (λ (word : List ℕ). not (is_empty word)) (q ∷ qs)) rest.0 rest.1, rest.2)
    on false rest = rest

words_end : (line : List ℕ) (b : ℕ) → last_or None line ≡ Some b → is_gap b ≡ false → Ends (words_of line) b
unfolding words_of
words_end line b e no_gap = full_ends (slice_split is_gap line) b (split_ends line b e no_gap)

-- ---- directions

no_direction : (word : List ℕ) (b : ℕ) → last_or None word ≡ Some b → (b ≡ 110 → ⊥) → (b ≡ 116 → ⊥) → direction_of word ≡ None
no_direction word b e no_n no_t =
    elim (cases_Bool (bytes_eq word (codes "in"))) [
      | inl inward ↦
          let last : Some 110 ≡ Some b = sym (ap (λ (w : List ℕ). last_or None w) ((bytes_eq-Decides word (codes "in")).0 inward)) ∙ e in
          absurd (no_n (let same : b ≡ 110 = cc in same))
      | inr other ↦ elim (cases_Bool (bytes_eq word (codes "out"))) [
        | inl outward ↦
            let last : Some 116 ≡ Some b = sym (ap (λ (w : List ℕ). last_or None w) ((bytes_eq-Decides word (codes "out")).0 outward)) ∙ e in
            absurd (no_t (let same : b ≡ 116 = cc in same))
        | inr neither ↦
            ap (λ (t : Bool). cond t (Some true) (cond (bytes_eq word (codes "out")) (Some false) None)) other ∙ ap (λ (t : Bool). cond t (Some false) None) neither
      ]
    ]

not_applied : (rest : List (List ℕ)) (b : ℕ) → ((w : List ℕ) → last_or None rest ≡ Some w → last_or None w ≡ Some b) → (b ≡ 110 → ⊥) → (b ≡ 116 → ⊥) → behind_group rest ≡ None
not_applied [] b e no_n no_t = refl
not_applied (list ∷ []) b e no_n no_t = refl
not_applied (list ∷ word ∷ []) b e no_n no_t = ap (option_map (λ (inward : Bool). record { list = list; inward = inward })) (no_direction word b (e word refl) no_n no_t)
not_applied (list ∷ word ∷ next ∷ more) b e no_n no_t = refl

no_group : (words : List (List ℕ)) (b : ℕ) → Ends words b → (b ≡ 110 → ⊥) → (b ≡ 116 → ⊥) → group_says words ≡ None
unfolding group_says
no_group [] b h no_n no_t = refl
no_group (first ∷ []) b h no_n no_t = on (bytes_eq first (codes "ip"))
  where
    on : (t : Bool) → option_and_then behind_group (cond t None None) ≡ None
    on true = refl
    on false = refl
no_group (first ∷ second ∷ rest) b h no_n no_t =
    on (bytes_eq first (codes "ip")) (bytes_eq second (codes "access-group")) (not_applied rest b (λ w e. ends w e) no_n no_t)
  where
    ends : (w : List ℕ) → last_or None rest ≡ Some w → last_or None w ≡ Some b
    ends w e =
        let same : h.0 ≡ w = (let is : Some h.0 ≡ Some w = sym h.1 ∙ last_more (Some second) rest w e in cc) in
        ap (λ (w : List ℕ). last_or None w) (sym same) ∙ h.2

    on : (s t : Bool) → behind_group rest ≡ None → option_and_then behind_group (cond s (cond t (Some rest) None) None) ≡ None
    on true true none = none
    on true false none = refl
    on false t none = refl

-- a line without a byte applies no list, nor does one whose last byte is another
pub ends_nowhere : (line : List ℕ) → None ≡ slice_get line (length line - 1) → group_says (words_of line) ≡ None
unfolding words_of group_says
ends_nowhere [] at = refl
ends_nowhere (x ∷ xs) at = absurd (let clash : Some (get_or (x ∷ xs) (length xs) x) ≡ None = sym (last_get x xs x) ∙ last_at (x ∷ xs) ∙ sym at in cc)

pub ends_otherwise : (line : List ℕ) (b : ℕ) → Some b ≡ slice_get line (length line - 1) → is_end b ≡ false → group_says (words_of line) ≡ None
ends_otherwise line b at e =
    let one = or_parts (eqb b 110) _ e in
    let two = or_parts (eqb b 116) _ one.1 in
    no_group (words_of line) b (words_end line b (last_at line ∙ sym at) two.1) (λ same. both_ways (eqb b 110) one.0 (eq-eqb b 110 same)) (λ same. both_ways (eqb b 116) two.0 (eq-eqb b 116 same))

-- ---- lengths

-- no part is longer than the line
part_short : (line w : List ℕ) → Has (slice_split is_gap line) w → length w ≤ length line
part_short [] w (inl same) = subst (λ (w : List ℕ). length w ≤ 0) same (omega arith)
part_short [] w (inr later) = absurd later
part_short (x ∷ xs) w h = on (is_gap x) (slice_split is_gap xs) (λ w h. part_short xs w h) h
  where
    on : (t : Bool) (parts : List (List ℕ)) → ((w : List ℕ) → Has parts w → length w ≤ length xs) → Has (cond t ([] ∷ parts) (onto_first x parts)) w → length w ≤ length (x ∷ xs)
    on true parts each (inl same) = subst (λ (w : List ℕ). length w ≤ length (x ∷ xs)) same (omega arith)
    on true parts each (inr later) = omega (arith, each w later)
    on false [] each (inl same) = subst (λ (w : List ℕ). length w ≤ length (x ∷ xs)) same (omega arith)
    on false [] each (inr later) = absurd later
    on false (p ∷ ps) each (inl same) = subst (λ (w : List ℕ). length w ≤ length (x ∷ xs)) same (omega (arith, each p (inl refl)))
    on false (p ∷ ps) each (inr later) = omega (arith, each w (inr later))

word_short : (line w : List ℕ) → Has (words_of line) w → length w ≤ length line
unfolding words_of
word_short line w h = part_short line w (in_by_filter (λ (word : List ℕ). not (is_empty word)) (slice_split is_gap line) w h).0

short_words : (words : List (List ℕ)) (n : ℕ) → ((w : List ℕ) → Has words w → length w ≤ n) → n < 12 → group_says words ≡ None
unfolding group_says
short_words [] n each few = refl
short_words (first ∷ []) n each few = on (bytes_eq first (codes "ip"))
  where
    on : (t : Bool) → option_and_then behind_group (cond t None None) ≡ None
    on true = refl
    on false = refl
short_words (first ∷ second ∷ rest) n each few = on (bytes_eq first (codes "ip")) (bytes_eq second (codes "access-group")) (λ same. (bytes_eq-Decides second (codes "access-group")).0 same)
  where
    on : (s t : Bool) → (t ≡ true → second ≡ codes "access-group") → option_and_then behind_group (cond s (cond t (Some rest) None) None) ≡ None
    on true true is = absurd (let long = ap length (is refl) in omega (arith, long, each second (inr (inl refl)), few))
    on true false is = refl
    on false t is = refl

-- a line that is shorter than the word `access-group` applies no list
pub short_line : (line : List ℕ) → length line < 12 → group_says (words_of line) ≡ None
short_line line few = short_words (words_of line) (length line) (word_short line) few

-- ---- the last line

pub last_of_block : (lines : List (List ℕ)) (ks : List ℕ) → last_or None (numbered lines ks) ≡ option_map (λ (k : ℕ). record { line = k; text = line_at k lines }) (slice_get ks (length ks - 1))
last_of_block lines ks =
    let at : ℕ → Numbered = λ k. record { line = k; text = line_at k lines } in
    last_map at None ks ∙ ap (option_map at) (last_at ks)
