-- Entries in their frequent form.
use Rattle.std.proofs.Common.{◌≡◌, ◌≢◌, ℕ, Bool, true, false, cond, List, [], ◌∷◌, ◌++◌, length, Some, None, refl, sym, ap, ◌∙◌, arith}
use Rattle.std.specs.Prelude.{codes, option_and_then}
use Rattle.std.proofs.lemmas.Bool.{ne_eqb}
use Rattle.nc_types.specs.Cidr.{Cidr}
use Rattle.nc_types.specs.Masks.{network_of}
use Rattle.nc_lines.specs.Lines.{is_indented, words_of}
use Rattle.nc_lines.specs.Statements.{after, Says}
use Rattle.nc_lines.proofs.LineLemmas.{words_of-nil}
use Rattle.nc_read_policy.specs.Entries.{greatest_seq, seq_of, entry_of, numbered_entry, written_bounds}
use Rattle.nc_read_policy.specs.Fronts.{IsFrontBound, IsFrontNumber, IsFrontPrefix, ends_word, action_word, entry_behind}
use Rattle.nc_read_policy.specs.Lists.{list_name_says}
use Rattle.nc_read_policy.proofs.HeadLemmas.{words_append}
use Rattle.nc_read_policy.proofs.FrontLemmas.{behind_gap, first_word, first_number}

-- ---- words that are known

known : (text head word rest : List ℕ) → words_of head ≡ word ∷ [] → text ≡ head ++ rest → is_indented rest ≡ true → words_of text ≡ word ∷ words_of rest
known text head word rest is whole gap = ap words_of whole ∙ words_append head rest gap ∙ ap (λ (ws : List (List ℕ)). ws ++ words_of rest) is

is_seq : words_of (codes " seq") ≡ codes "seq" ∷ []
unfolding words_of
is_seq = refl

is_permit : words_of (codes " permit") ≡ codes "permit" ∷ []
unfolding words_of
is_permit = refl

is_deny : words_of (codes " deny") ≡ codes "deny" ∷ []
unfolding words_of
is_deny = refl

pub seq_first : (text rest : List ℕ) → text ≡ codes " seq" ++ rest → is_indented rest ≡ true → words_of text ≡ codes "seq" ∷ words_of rest
seq_first text rest whole gap = known text (codes " seq") (codes "seq") rest is_seq whole gap

-- what begins with a word that is known and a blank
blank_behind : (head word rest : List ℕ) → words_of head ≡ word ∷ [] → words_of (head ++ 32 ∷ rest) ≡ word ∷ words_of rest
blank_behind head word rest is = known (head ++ 32 ∷ rest) head word (32 ∷ rest) is refl refl ∙ ap (λ (ws : List (List ℕ)). word ∷ ws) (behind_gap 32 rest refl)

pub permit_first : (text first rest : List ℕ) → text ≡ codes " per" ++ first → first ≡ codes "mit " ++ rest → words_of text ≡ codes "permit" ∷ words_of rest
permit_first text first rest front back = ap words_of (front ∙ ap (λ (bs : List ℕ). codes " per" ++ bs) back) ∙ blank_behind (codes " permit") (codes "permit") rest is_permit

pub deny_first : (text first rest : List ℕ) → text ≡ codes " den" ++ first → first ≡ codes "y " ++ rest → words_of text ≡ codes "deny" ∷ words_of rest
deny_first text first rest front back = ap words_of (front ∙ ap (λ (bs : List ℕ). codes " den" ++ bs) back) ∙ blank_behind (codes " deny") (codes "deny") rest is_deny

pub no_seq : (permit : Bool) (text rest : List ℕ) → words_of text ≡ action_word permit ∷ words_of rest → after (codes "seq" ∷ []) (words_of text) ≡ None
no_seq true text rest words = ap (after (codes "seq" ∷ [])) words
no_seq false text rest words = ap (after (codes "seq" ∷ [])) words

pub says_name : (text rest : List ℕ) → text ≡ codes " seq" ++ rest → is_indented rest ≡ true → (name : List ℕ) → list_name_says (name ∷ words_of text) ≡ Says name
says_name text rest whole gap name = ap (λ (ws : List (List ℕ)). list_name_says (name ∷ ws)) (seq_first text rest whole gap)

-- ---- entries

pub seq_number : (text digits : List ℕ) (n : ℕ) (behind : List ℕ) → words_of text ≡ words_of digits → IsFrontNumber greatest_seq digits n behind → n ≢ 0 → ends_word behind ≡ true
    → (line : ℕ) → numbered_entry line (words_of text) ≡ entry_of line n (words_of behind)
seq_number text digits n behind same front some ends line =
    let seq : seq_of front.word ≡ Some n = rw front.writes (ap (λ (b : Bool). cond b None (Some n)) (ne_eqb n 0 some)) in
    ap (numbered_entry line) (same ∙ first_number greatest_seq digits n behind front ends) ∙ ap (option_and_then (λ (seq : ℕ). entry_of line seq (words_of behind))) seq

pub target_first : (text prefix behind : List ℕ) (permit : Bool) (address len : ℕ) (p : Cidr) → words_of text ≡ action_word permit ∷ words_of prefix
    → IsFrontPrefix prefix address len behind → ends_word behind ≡ true → p ≡ record { base = network_of address len; len = len } → (line seq : ℕ) → entry_of line seq (words_of text) ≡ entry_behind line seq permit p (words_of behind)
target_first text prefix behind permit address len p words front ends is line seq =
    let all : words_of text ≡ action_word permit ∷ front.word ∷ words_of behind =
    words ∙ ap (λ (ws : List (List ℕ)). action_word permit ∷ ws) (first_word prefix front.word behind front.whole front.some front.no_gap ends) in
    ap (entry_of line seq) all ∙ on permit ∙ ap (λ (p : Cidr). entry_behind line seq permit p (words_of behind)) (sym is)
  where
    on : (b : Bool) → entry_of line seq (action_word b ∷ front.word ∷ words_of behind) ≡ entry_behind line seq b (record { base = network_of address len; len = len }) (words_of behind)
    on true = rw front.writes refl
    on false = rw front.writes refl

-- ---- bounds

is_le : words_of (codes " le") ≡ codes "le" ∷ []
unfolding words_of
is_le = refl

is_ge : words_of (codes " ge") ≡ codes "ge" ∷ []
unfolding words_of
is_ge = refl

pub front_bound : (text head rest digits behind : List ℕ) (bound : ℕ) → text ≡ head ++ rest → is_indented rest ≡ true → words_of rest ≡ words_of digits → IsFrontNumber 32 digits bound behind → ends_word behind ≡ true
    → IsFrontBound text head bound behind
front_bound text head rest digits behind bound whole gap same front ends = record {
  value = front.word;
  words = λ word is. known text head word rest is whole gap ∙ ap (λ (ws : List (List ℕ)). word ∷ ws) (same ∙ first_number 32 digits bound behind front ends);
  writes = front.writes;
}

pub no_words : (behind : List ℕ) → length behind ≡ 0 → words_of behind ≡ []
no_words [] none = words_of-nil
no_words (b ∷ behind) none = absurd (omega arith)

pub le_alone : (len : ℕ) (text behind : List ℕ) (high : ℕ) → IsFrontBound text (codes " le") high behind → length behind ≡ 0 → written_bounds len (words_of text) ≡ Some (len, high)
le_alone len text behind high front none =
    ap (written_bounds len) (front.words (codes "le") is_le ∙ ap (λ (ws : List (List ℕ)). codes "le" ∷ front.value ∷ ws) (no_words behind none)) ∙ rw front.writes refl

pub ge_alone : (len : ℕ) (text behind : List ℕ) (low : ℕ) → IsFrontBound text (codes " ge") low behind → length behind ≡ 0 → written_bounds len (words_of text) ≡ Some (low, 32)
ge_alone len text behind low front none =
    ap (written_bounds len) (front.words (codes "ge") is_ge ∙ ap (λ (ws : List (List ℕ)). codes "ge" ∷ front.value ∷ ws) (no_words behind none)) ∙ rw front.writes refl

pub both_bounds : (len : ℕ) (text rest behind : List ℕ) (low high : ℕ) → IsFrontBound text (codes " ge") low rest → IsFrontBound rest (codes " le") high behind → length behind ≡ 0 → written_bounds len (words_of text) ≡ Some (low, high)
both_bounds len text rest behind low high front next none =
    ap (written_bounds len) (front.words (codes "ge") is_ge ∙ ap (λ (ws : List (List ℕ)). codes "ge" ∷ front.value ∷ ws) (next.words (codes "le") is_le ∙ ap (λ (ws : List (List ℕ)). codes "le" ∷ next.value ∷ ws) (no_words behind none)))
    ∙ rw (front.writes, next.writes) refl
