-- Text that is written line by line.
use Rattle.std.proofs.Common.{◌≡◌, ℕ, List, [], ◌∷◌, ◌++◌, sym, ap, ◌∙◌, append_assoc, append-nil}
use Rattle.std.proofs.lemmas.List.Concat.{flat_map-append}
use Rattle.nc_gen.specs.Files.{text_of}

-- the text of no line, and of one
pub no-line : (old : List ℕ) → old ≡ old ++ text_of []
unfolding text_of
no-line old = sym (append-nil old)

pub this-line : (old mid new line : List ℕ) → mid ≡ old ++ line → new ≡ mid ++ 10 ∷ [] → new ≡ old ++ text_of (line ∷ [])
unfolding text_of
this-line old mid new line m n =
    n ∙ ap (λ t. t ++ 10 ∷ []) m ∙ append_assoc old line (10 ∷ []) ∙ ap (λ t. old ++ t) (sym (append-nil (line ++ 10 ∷ [])))

-- text that goes on behind text
pub text-append : (front back : List (List ℕ)) → text_of (front ++ back) ≡ text_of front ++ text_of back
unfolding text_of
text-append front back = flat_map-append (λ line. line ++ 10 ∷ []) front back

pub then-text : (old mid new : List ℕ) (front back : List (List ℕ)) → mid ≡ old ++ text_of front → new ≡ mid ++ text_of back → new ≡ old ++ text_of (front ++ back)
then-text old mid new front back m n =
    n ∙ ap (λ t. t ++ text_of back) m ∙ append_assoc old (text_of front) (text_of back) ∙ ap (λ t. old ++ t) (sym (text-append front back))

-- a line by what it is
pub one-line : (old new line said : List ℕ) → new ≡ old ++ text_of (line ∷ []) → line ≡ said → new ≡ old ++ text_of (said ∷ [])
one-line old new line said n is = n ∙ ap (λ l. old ++ text_of (l ∷ [])) is

-- one step of a loop that writes the lines of items: those so far and those that are left are all
pub next-text : (so_far next all : List ℕ) (front back : List (List ℕ)) → so_far ++ text_of (front ++ back) ≡ all → next ≡ so_far ++ text_of front → next ++ text_of back ≡ all
next-text so_far next all front back h n =
    ap (λ t. t ++ text_of back) n ∙ append_assoc so_far (text_of front) (text_of back) ∙ ap (λ t. so_far ++ t) (sym (text-append front back)) ∙ h

-- it ends with no item left
pub all-text : (so_far all : List ℕ) → so_far ++ text_of [] ≡ all → so_far ≡ all
all-text so_far all h = no-line so_far ∙ h
