-- A line that begins as another one: its words are those of the beginning and those behind it.
use Rattle.std.proofs.Common.{◌≡◌, ℕ, Bool, true, false, cond, not, List, [], ◌∷◌, ◌++◌, filter, Option, Some, None, refl, sym, ap, ◌∙◌}
use Rattle.std.specs.Prelude.{codes, option_and_then}
use Rattle.std.specs.List.{slice_split, onto_first}
use Rattle.std.specs.Str.{bytes_eq}
use Rattle.std.proofs.lemmas.List.Elements.{filter-append}
use Rattle.nc_lines.specs.Lines.{is_empty, is_gap, is_indented, words_of}
use Rattle.nc_lines.specs.Statements.{after}
use Rattle.nc_read_policy.specs.Lists.{behind_word, behind_name}
use Rattle.nc_read_policy.specs.Heads.{IsHead}

-- ---- words

split_some : (a : List ℕ) → (q : List ℕ) × ((qs : List (List ℕ)) × (slice_split is_gap a ≡ q ∷ qs))
split_some [] = ([], ([], refl))
split_some (x ∷ a) = on (is_gap x) (split_some a)
  where
    on : (b : Bool) → (q : List ℕ) × ((qs : List (List ℕ)) × (slice_split is_gap a ≡ q ∷ qs)) → (q : List ℕ) × ((qs : List (List ℕ)) × (cond b ([] ∷ slice_split is_gap a) (onto_first x (slice_split is_gap a)) ≡ q ∷ qs))
    on true s = ([], (slice_split is_gap a, refl))
    on false s = (x ∷ s.0, (s.1.0, ap (onto_first x) s.1.1))

onto_more : (x : ℕ) (ps qs : List (List ℕ)) (q : List ℕ) (rest : List (List ℕ)) → ps ≡ q ∷ rest → onto_first x (ps ++ qs) ≡ onto_first x ps ++ qs
onto_more x ps qs q rest e = ap (λ (ps : List (List ℕ)). onto_first x (ps ++ qs)) e ∙ sym (ap (λ (ps : List (List ℕ)). onto_first x ps ++ qs) e)

split_append : (a b : List ℕ) (g : ℕ) → is_gap g ≡ true → slice_split is_gap (a ++ g ∷ b) ≡ slice_split is_gap a ++ slice_split is_gap b
split_append [] b g gap = ap (λ (t : Bool). cond t ([] ∷ slice_split is_gap b) (onto_first g (slice_split is_gap b))) gap
split_append (x ∷ a) b g gap = on (is_gap x) (split_append a b g gap)
  where
    on : (t : Bool) → slice_split is_gap (a ++ g ∷ b) ≡ slice_split is_gap a ++ slice_split is_gap b
        → cond t ([] ∷ slice_split is_gap (a ++ g ∷ b)) (onto_first x (slice_split is_gap (a ++ g ∷ b))) ≡ cond t ([] ∷ slice_split is_gap a) (onto_first x (slice_split is_gap a)) ++ slice_split is_gap b
    on true e = ap (λ (ps : List (List ℕ)). [] ∷ ps) e
    on false e =
        let s = split_some a in
        ap (onto_first x) e ∙ onto_more x (slice_split is_gap a) (slice_split is_gap b) s.0 s.1.0 s.1.1

abbrev full : List (List ℕ) → List (List ℕ)
full parts = filter (λ (word : List ℕ). not (is_empty word)) parts

pub words_append : (head rest : List ℕ) → is_indented rest ≡ true → words_of (head ++ rest) ≡ words_of head ++ words_of rest
unfolding words_of
words_append head [] gap = absurd (cc)
words_append head (g ∷ rest) gap =
    let behind : slice_split is_gap (g ∷ rest) ≡ [] ∷ slice_split is_gap rest = ap (λ (t : Bool). cond t ([] ∷ slice_split is_gap rest) (onto_first g (slice_split is_gap rest))) gap in
    ap full (split_append head rest g gap) ∙ filter-append (λ (word : List ℕ). not (is_empty word)) (slice_split is_gap head) (slice_split is_gap rest)
    ∙ ap (λ (ws : List (List ℕ)). full (slice_split is_gap head) ++ ws) (sym (ap full behind))

-- ---- beginnings

after_more : (firsts words rest more : List (List ℕ)) → after firsts words ≡ Some rest → after firsts (words ++ more) ≡ Some (rest ++ more)
after_more [] words rest more e = let same : words ≡ rest = cc in ap (λ (ws : List (List ℕ)). Some (ws ++ more)) same
after_more (first ∷ firsts) [] rest more e = absurd (cc)
after_more (first ∷ firsts) (word ∷ words) rest more e = on (bytes_eq word first) (after_more firsts words rest more) e
  where
    on : (t : Bool) → (after firsts words ≡ Some rest → after firsts (words ++ more) ≡ Some (rest ++ more)) → cond t (after firsts words) None ≡ Some rest → cond t (after firsts (words ++ more)) None ≡ Some (rest ++ more)
    on true further e = further e
    on false further e = absurd (cc)

name_more : (words more : List (List ℕ)) → behind_name words ≡ Some [] → behind_name (words ++ more) ≡ Some more
name_more words more e = on (after (codes "ip" ∷ codes "prefix-list" ∷ []) words) refl e
  where
    on : (o : Option (List (List ℕ))) → after (codes "ip" ∷ codes "prefix-list" ∷ []) words ≡ o → option_and_then behind_word o ≡ Some [] → behind_name (words ++ more) ≡ Some more
    on None is e = absurd (cc)
    on (Some []) is e = absurd (cc)
    on (Some (name ∷ rest)) is e =
        let none : rest ≡ [] = cc in
        ap (option_and_then behind_word) (after_more (codes "ip" ∷ codes "prefix-list" ∷ []) words (name ∷ rest) more is) ∙ ap (λ (ws : List (List ℕ)). Some (ws ++ more)) none

-- a line that begins as another one of a list has behind its name what is behind that beginning
pub behind_head : (text head rest : List ℕ) → IsHead head → text ≡ head ++ rest → is_indented rest ≡ true → behind_name (words_of text) ≡ Some (words_of rest)
behind_head text head rest is cut gap =
    ap (λ (line : List ℕ). behind_name (words_of line)) cut ∙ ap behind_name (words_append head rest gap) ∙ name_more (words_of head) (words_of rest) is
