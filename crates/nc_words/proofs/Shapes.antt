-- How a word may be spelled, and what the definition and `clap` see in it.
use Rattle.std.proofs.Common.{suc, ◌≡◌, ◌+◌, ◌⊎◌, ◌∙◌, ◌++◌, ◌==◌, ℕ, Bool, true, false, List, [], ◌∷◌, Some, None, take, drop, codes, refl, sym, ap, inl, inr, arith, true≢false}
use Rattle.std.specs.Prelude.{slice_get}
use Rattle.std.specs.List.{before_first}
use Rattle.std.specs.Char.{encode_utf8}
use Rattle.std.specs.Str.{IsUtf8, bytes_eq, chars, encode_utf8_all}
use Rattle.std.proofs.lemmas.List.{append-nil, take-append-drop}
use Rattle.std.proofs.lemmas.Bool.Decides.{nat_tests}
use Rattle.std.proofs.lemmas.Slice.Eq.{bytes_eq-Decides}
use Rattle.std.proofs.lemmas.Str.{chars-encodes, encode_ascii}
use Rattle.clap.specs.Lexer.{long_of, short_of}
use Rattle.nc_words.specs.Words.{FatTree, Plain, Rounds, Setting, Unknown, Word, form_of, is_dashed}

abbrev pub id_of : Setting → Word
id_of Rounds = codes "rounds"
id_of FatTree = codes "fat-tree"

-- a setting as a word
abbrev pub long_word_of : Setting → Word
long_word_of setting = 45 ∷ 45 ∷ id_of setting

-- what stands before the first `=`
abbrev pub name_in : Word → Word
name_in = before_first (λ x. x == 61)

-- a word that begins with a dash and is none of a setting
pub record IsOther (word : Word) : Type 0 where
  pub form : form_of word ≡ Unknown
  pub dashed : is_dashed word ≡ true

-- a word that `clap` takes for no flag
pub record IsNoFlag (word : Word) : Type 0 where
  pub form : form_of word ≡ Plain
  pub dashed : is_dashed word ≡ false
  pub dashes : bytes_eq word (45 ∷ 45 ∷ []) ≡ false
  pub long : long_of word ≡ None
  pub short : short_of word ≡ None

-- a word that `clap` takes for letters behind a dash
pub record IsLetters (word letters : Word) : Type 0 where
  pub dashes : bytes_eq word (45 ∷ 45 ∷ []) ≡ false
  pub long : long_of word ≡ None
  pub short : short_of word ≡ Some letters

pub data Spelling (word : Word) : Type 0 where
  dashes : word ≡ 45 ∷ 45 ∷ [] → Spelling word
  opens : (setting : Setting) → word ≡ long_word_of setting → Spelling word
  holds : (setting : Setting) (value : Word) → word ≡ long_word_of setting ++ 61 ∷ value → Spelling word
  long : (c : ℕ) (cs : Word) → word ≡ 45 ∷ 45 ∷ c ∷ cs → bytes_eq (codes "rounds") (name_in (c ∷ cs)) ≡ false → bytes_eq (codes "fat-tree") (name_in (c ∷ cs)) ≡ false → IsOther word → Spelling word
  short : (c : ℕ) (cs : Word) → word ≡ 45 ∷ c ∷ cs → IsLetters word (c ∷ cs) → IsOther word → Spelling word
  no_flag : IsNoFlag word → Spelling word

-- ---- a word whose first two bytes are dashes

prefix : (x : ℕ) (xs : Word) (k : ℕ) → take (1 + k) (x ∷ xs) ≡ x ∷ take k xs
prefix x xs k =
    let e : 1 + k ≡ suc k = omega arith in
    ap (λ (n : ℕ). take n (x ∷ xs)) e

-- a text ends where its name does, or goes on with `=`
cut_name : (text : Word) → (text ≡ name_in text) ⊎ ((rest : Word) × (text ≡ name_in text ++ 61 ∷ rest))
cut_name [] = inl refl
cut_name (x ∷ xs) = go (x == 61) refl (cut_name xs)
  where
    go : (t : Bool) → (x == 61) ≡ t → (xs ≡ name_in xs) ⊎ ((rest : Word) × (xs ≡ name_in xs ++ 61 ∷ rest))
        → (x ∷ xs ≡ name_in (x ∷ xs)) ⊎ ((rest : Word) × (x ∷ xs ≡ name_in (x ∷ xs) ++ 61 ∷ rest))
    go true t further =
        let same : x ≡ 61 = grind (arith, nat_tests) in
        inr (xs, rw t (ap (λ (n : ℕ). n ∷ xs) same))
    go false t (inl e) = inl (rw (t, prefix x xs) (ap (λ (l : Word). x ∷ l) e))
    go false t (inr p) = inr (p.0, rw (t, prefix x xs) (ap (λ (l : Word). x ∷ l) p.1))

same_bytes : (a b : Word) → bytes_eq a b ≡ true → a ≡ b
same_bytes a b e = (bytes_eq-Decides a b).0 e

-- a text whose name is none that stands alone or before `=` has another name
other_name : (text name : Word) → (text ≡ name → ⊥) → ((rest : Word) → text ≡ name ++ 61 ∷ rest → ⊥) → bytes_eq name (name_in text) ≡ false
other_name text name alone before = go (bytes_eq name (name_in text)) refl
  where
    cut : name ≡ name_in text → (text ≡ name_in text) ⊎ ((rest : Word) × (text ≡ name_in text ++ 61 ∷ rest)) → ⊥
    cut same (inl e) = alone (e ∙ sym same)
    cut same (inr p) = before p.0 (p.1 ∙ ap (λ (l : Word). l ++ 61 ∷ p.0) (sym same))

    go : (t : Bool) → bytes_eq name (name_in text) ≡ t → bytes_eq name (name_in text) ≡ false
    go true t = absurd (cut (same_bytes name (name_in text) t) (cut_name text))
    go false t = t

-- a word that begins with these bytes
begun : (n : ℕ) (start word : Word) → bytes_eq (take n word) start ≡ true → word ≡ start ++ drop n word
begun n start word e = sym (take-append-drop n word) ∙ ap (λ (l : Word). l ++ drop n word) (same_bytes (take n word) start e)

-- ---- every word is spelled in some way

module _ (c : ℕ) (cs : Word) where
  abbrev word : Word
  word = 45 ∷ 45 ∷ c ∷ cs

  other : bytes_eq word (codes "--rounds") ≡ false → bytes_eq word (codes "--fat-tree") ≡ false
      → bytes_eq (take 9 word) (codes "--rounds=") ≡ false → bytes_eq (take 11 word) (codes "--fat-tree=") ≡ false → Spelling word
  other a b d e = long c cs refl
      (other_name (c ∷ cs) (codes "rounds") (λ same. true≢false (sym (ap (λ (l : Word). bytes_eq (45 ∷ 45 ∷ l) (codes "--rounds")) same) ∙ a)) (λ rest same. true≢false (sym (ap (λ (l : Word). bytes_eq (take 9 (45 ∷ 45 ∷ l)) (codes "--rounds=")) same) ∙ d)))
      (other_name (c ∷ cs) (codes "fat-tree") (λ same. true≢false (sym (ap (λ (l : Word). bytes_eq (45 ∷ 45 ∷ l) (codes "--fat-tree")) same) ∙ b)) (λ rest same. true≢false (sym (ap (λ (l : Word). bytes_eq (take 11 (45 ∷ 45 ∷ l)) (codes "--fat-tree=")) same) ∙ e)))
      (record { form = rw (a, b, d, e) refl; dashed = refl })

  spelled_long : Spelling word
  spelled_long = on (bytes_eq word (codes "--rounds")) (bytes_eq word (codes "--fat-tree")) (bytes_eq (take 9 word) (codes "--rounds=")) (bytes_eq (take 11 word) (codes "--fat-tree=")) refl refl refl refl
    where
      on : (a b d e : Bool) → bytes_eq word (codes "--rounds") ≡ a → bytes_eq word (codes "--fat-tree") ≡ b
          → bytes_eq (take 9 word) (codes "--rounds=") ≡ d → bytes_eq (take 11 word) (codes "--fat-tree=") ≡ e → Spelling word
      on true b d e is _ _ _ = opens Rounds (same_bytes word (codes "--rounds") is)
      on false true d e _ is _ _ = opens FatTree (same_bytes word (codes "--fat-tree") is)
      on false false true e _ _ is _ = holds Rounds (drop 9 word) (begun 9 (codes "--rounds=") word is)
      on false false false true _ _ _ is = holds FatTree (drop 11 word) (begun 11 (codes "--fat-tree=") word is)
      on false false false false i j k l = other i j k l

spelled_short : (b c : ℕ) (cs : Word) → b ≡ 45 → (c == 45) ≡ false → Spelling (b ∷ c ∷ cs)
spelled_short b c cs is not = short c cs (ap (λ (n : ℕ). n ∷ c ∷ cs) is)
    (record { dashes = rw (is, not) refl; long = rw (is, not) refl; short = rw (is, not) refl })
    (record { form = rw (is, not) refl; dashed = rw is refl })

pub spelled : (word : Word) → Spelling word
spelled [] = no_flag (record { form = refl; dashed = refl; dashes = refl; long = refl; short = refl })
spelled (b ∷ []) = go (b == 45) refl
  where
    go : (t : Bool) → (b == 45) ≡ t → Spelling (b ∷ [])
    go true t = no_flag (record { form = rw t refl; dashed = refl; dashes = rw t refl; long = rw t refl; short = rw t refl })
    go false t = no_flag (record { form = rw t refl; dashed = refl; dashes = rw t refl; long = rw t refl; short = rw t refl })
spelled (b ∷ c ∷ cs) = go (b == 45) (c == 45) refl refl
  where
    two : (cs : Word) → Spelling (45 ∷ 45 ∷ cs)
    two [] = dashes refl
    two (c ∷ cs) = spelled_long c cs

    go : (t u : Bool) → (b == 45) ≡ t → (c == 45) ≡ u → Spelling (b ∷ c ∷ cs)
    go false u t e = no_flag (record { form = rw t refl; dashed = t; dashes = rw t refl; long = rw t refl; short = rw t refl })
    go true false t u = spelled_short b c cs (grind (arith, nat_tests)) u
    go true true t u =
        let first : b ≡ 45 = grind (arith, nat_tests) in
        let second : c ≡ 45 = grind (arith, nat_tests) in
        rw (first, second) (two cs)

-- ---- the first character

pub first_char : (c : ℕ) (cs : Word) → IsUtf8 (45 ∷ c ∷ cs) → (x : ℕ) × (slice_get (chars (c ∷ cs)) 0 ≡ Some x)
unfolding chars
first_char c cs text = go (chars (c ∷ cs)) refl
  where
    go : (l : List ℕ) → chars (c ∷ cs) ≡ l → (x : ℕ) × (slice_get (chars (c ∷ cs)) 0 ≡ Some x)
    go [] e =
        let all : text.0 ≡ 45 ∷ [] = sym (chars-encodes text.0 text.1.0) ∙ ap chars text.1.1 ∙ ap (λ (l : List ℕ). 45 ∷ l) e in
        let bytes : 45 ∷ [] ≡ 45 ∷ c ∷ cs = sym (encode_ascii 45 (omega arith)) ∙ sym (append-nil (encode_utf8 45)) ∙ ap encode_utf8_all (sym all) ∙ text.1.1 in
        cc
    go (x ∷ xs) e = (x, ap (λ (l : List ℕ). slice_get l 0) e)
