-- The first word of a line by its second byte, and what usual lines say.
use Rattle.std.proofs.Common.{◌≡◌, ℕ, ltb, Bool, true, false, not, cond, eqb, List, [], ◌∷◌, length, filter, get_or, refl, sym, ap, ◌∙◌, subst, codes}
use Rattle.std.specs.Prelude.{◌==◌}
use Rattle.std.specs.List.{slice_split, onto_first}
use Rattle.std.specs.Str.{bytes_eq}
use Rattle.std.proofs.lemmas.Bool.{or_parts}
use Rattle.std.proofs.lemmas.Slice.Eq.{bytes_eq-Decides}
use Rattle.nc_lines.specs.Lines.{is_empty, is_gap, is_indented, words_of}
use Rattle.nc_lines.specs.Statements.{Outside, Says}
use Rattle.nc_read_link.specs.declared.setting.Setting.{Setting}
use Rattle.nc_read_link.specs.declared.setting.Setting.TheVariants.{NoAddress, Shut}
use Rattle.nc_read_link.specs.Firsts.{may_begin}
use Rattle.nc_read_link.specs.Interfaces.{is_unsupported, read_says, setting_says}

-- a gap in front is no part of a word
pub gap_before : (b : ℕ) (bs : List ℕ) → is_gap b ≡ true → words_of (b ∷ bs) ≡ words_of bs
unfolding words_of
gap_before b bs gap = ap (λ (t : Bool). filter (λ (word : List ℕ). not (is_empty word)) (cond t ([] ∷ slice_split is_gap bs) (onto_first b (slice_split is_gap bs)))) gap

-- the first word of a line that doesn't begin with a gap has its first byte
abbrev pub Begins : ℕ → List (List ℕ) → Type 0
Begins b words = (p : List ℕ) × (ps : List (List ℕ)) × (words ≡ (b ∷ p) ∷ ps)

pub first_word : (b : ℕ) (bs : List ℕ) → is_gap b ≡ false → Begins b (words_of (b ∷ bs))
unfolding words_of
first_word b bs e =
    subst (λ (t : Bool). Begins b (filter (λ (word : List ℕ). not (is_empty word)) (cond t ([] ∷ slice_split is_gap bs) (onto_first b (slice_split is_gap bs))))) (sym e) (on (slice_split is_gap bs))
  where
    on : (parts : List (List ℕ)) → Begins b (filter (λ (word : List ℕ). not (is_empty word)) (onto_first b parts))
    on [] = ([], [], refl)
    on (part ∷ parts) = (part, filter (λ (word : List ℕ). not (is_empty word)) parts, refl)

-- a word that is none of the first words
other_word : (w : List ℕ) (ws : List (List ℕ)) → bytes_eq w (codes "ip") ≡ false → bytes_eq w (codes "no") ≡ false → bytes_eq w (codes "shutdown") ≡ false → bytes_eq w (codes "vrf") ≡ false
    → setting_says (w ∷ ws) ≡ Outside
unfolding is_unsupported read_says
other_word w ws e f g h = rw (e, f, g, h) refl

other_byte : (b : ℕ) (p : List ℕ) (c : ℕ) (q : List ℕ) → (b == c) ≡ false → bytes_eq (b ∷ p) (c ∷ q) ≡ false
other_byte b p c q e = rw e refl

-- a line whose second byte begins no statement says nothing that is read
pub outside_by_byte : (line : List ℕ) (byte : ℕ) → true ≡ ltb 1 (length line) → byte ≡ get_or line 1 byte → is_indented line ≡ true → may_begin byte ≡ false → setting_says (words_of line) ≡ Outside
outside_by_byte [] byte some at gap other = absurd cc
outside_by_byte (g ∷ []) byte some at gap other = absurd cc
outside_by_byte (g ∷ b ∷ bs) byte some same gap other =
    let one = or_parts (eqb b 105) _ (ap may_begin (sym same) ∙ other) in
    let two = or_parts (eqb b 110) _ one.1 in
    let three = or_parts (eqb b 115) _ two.1 in
    let four = or_parts (eqb b 118) _ three.1 in
    let w = first_word b bs four.1 in
    ap setting_says (gap_before g (b ∷ bs) gap ∙ w.2)
    ∙ other_word (b ∷ w.0) w.1 (other_byte b w.0 105 _ one.0) (other_byte b w.0 110 _ two.0) (other_byte b w.0 115 _ three.0) (other_byte b w.0 118 _ four.0)

-- usual lines
pub is_usual : (line text : List ℕ) (s : Setting) → bytes_eq line text ≡ true → setting_says (words_of text) ≡ Says s → setting_says (words_of line) ≡ Says s
is_usual line text s same says = ap (λ (l : List ℕ). setting_says (words_of l)) ((bytes_eq-Decides line text).0 same) ∙ says

pub shut_says : setting_says (words_of (codes " shutdown")) ≡ Says (Shut true)
unfolding words_of is_unsupported read_says
shut_says = refl

pub open_says : setting_says (words_of (codes " no shutdown")) ≡ Says (Shut false)
unfolding words_of is_unsupported read_says
open_says = refl

pub bare_says : setting_says (words_of (codes " no ip address")) ≡ Says NoAddress
unfolding words_of is_unsupported read_says
bare_says = refl
