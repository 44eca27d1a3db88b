-- What a line is by its first two bytes.
use Rattle.std.proofs.Common.{◌≡◌, ℕ, ltb, Bool, true, false, not, cond, eqb, List, [], ◌∷◌, length, get_or, Option, None, refl, sym, ap, ◌∙◌}
use Rattle.std.specs.Prelude.{◌==◌, ◌&&◌}
use Rattle.std.proofs.lemmas.Bool.{or_parts}
use Rattle.nc_lines.specs.Lines.{is_indented, words_of}
use Rattle.nc_lines.specs.Blocks.{is_idle, first_is_banner, leaves_open}
use Rattle.nc_read_link.proofs.UsualLemmas.{first_word, gap_before}
use Rattle.nc_read_filter.specs.Groups.{group_says}
use Rattle.nc_reader.specs.Firsts.{is_open}
use Rattle.nc_reader.specs.Roles.{header_role}
use Rattle.nc_reader.specs.Steps.{Kind, Banner, Idle, Member, Heads, banner_fault, kind_of}

-- what a line is, by whether it is indented and by its words
abbrev pub kind_by : List ℕ → List (List ℕ) → Bool → List (List ℕ) → Kind
kind_by line later gap words =
    cond (not gap && first_is_banner words) (Banner (leaves_open line) (banner_fault line later)) (cond (is_idle words) Idle (cond gap (Member (group_says words)) (Heads (header_role words))))

pub by_words : (line : List ℕ) (later : List (List ℕ)) → kind_of false line later ≡ kind_by line later (is_indented line) (words_of line)
unfolding kind_of
by_words line later = refl

-- a comment
pub comment_line : (b : ℕ) (bs : List ℕ) (later : List (List ℕ)) → b ≡ 33 → kind_of false (b ∷ bs) later ≡ Idle
comment_line b bs later e =
    let w = first_word 33 bs refl in
    ap (λ (c : ℕ). kind_of false (c ∷ bs) later) e ∙ by_words (33 ∷ bs) later ∙ ap (kind_by (33 ∷ bs) later false) w.2

-- a word that begins otherwise applies no list
other_group : (b : ℕ) (p : List ℕ) (ps : List (List ℕ)) → (b == 105) ≡ false → group_says ((b ∷ p) ∷ ps) ≡ None
unfolding group_says
other_group b p ps e = rw e refl

-- an indented line that is no comment and applies no list
pub plain_line : (line : List ℕ) (byte : ℕ) (later : List (List ℕ)) → true ≡ ltb 1 (length line) → byte ≡ get_or line 1 byte → is_indented line ≡ true → is_open byte ≡ false → kind_of false line later ≡ Member None
plain_line [] byte later some at gap other = absurd cc
plain_line (g ∷ []) byte later some at gap other = absurd cc
plain_line (g ∷ b ∷ bs) byte later some same gap other =
    let line : List ℕ = g ∷ b ∷ bs in
    let one = or_parts (eqb b 105) _ (ap is_open (sym same) ∙ other) in
    let two = or_parts (eqb b 33) _ one.1 in
    let w = first_word b bs two.1 in
    let words : List (List ℕ) = (b ∷ w.0) ∷ w.1 in
    by_words line later ∙ ap (λ (t : Bool). kind_by line later t (words_of line)) gap ∙ ap (kind_by line later true) (gap_before g (b ∷ bs) gap ∙ w.2)
    ∙ ap (λ (t : Bool). cond t Idle (Member (group_says words))) two.0 ∙ ap (λ (o : Option _). Member o) (other_group b w.0 w.1 one.0)
