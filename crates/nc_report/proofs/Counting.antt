-- How often letters are in the sheets of a report.
use Rattle.std.proofs.Common.{◌≡◌, ℕ, ◌+◌, ◌-◌, ◌<◌, ◌≤◌, ◌^◌, inl, inr, Bool, true, false, ◌==◌, nat_eq, cond, List, [], ◌∷◌, length, get_or, set, take, refl, sym, ap, ◌∙◌, subst, arith}
use Rattle.std.proofs.lemmas.Bool.{eqb-true, eq-eqb, cases_eq}
use Rattle.std.proofs.lemmas.List.{length-set, get_or-set_same, get_or-set_other}
use Rattle.std.proofs.lemmas.List.Sums.{sum_by-set, sum_by-cons, sum_by-append, count_by-le-length, count_by_more_yes, count_by_more_no}
use Rattle.std.proofs.lemmas.List.Elements.{All-get_or, All-set}
use Rattle.std.proofs.lemmas.List.Concat.{flat_map-cons}
use Rattle.std.specs.List.{flat_map, sum_by}
use Rattle.nc_report.specs.Texts.{Sheet, sheet_in, count_of}
use Rattle.nc_report.specs.Shown.{with_letter, put_letter, count_in, one, IsText, AreKept}
use Rattle.nc_report.proofs.Ascii.{text-put}

abbrev pub none : Sheet
none = record { name = []; letters = [] }

-- how many letters there are
abbrev pub total : List Sheet → ℕ
total sheets = sum_by (λ s. length s.letters) sheets

one-same : (sign : ℕ) → one sign sign ≡ 1
one-same sign = ap (λ b. cond {A = ℕ} b 1 0) (eq-eqb sign sign refl)

one-other : (sign letter : ℕ) → (letter ≡ sign → ⊥) → one sign letter ≡ 0
one-other sign letter other = by_test (nat_eq letter sign) refl
  where
    by_test : (b : Bool) → nat_eq letter sign ≡ b → one sign letter ≡ 0
    by_test true is = absurd (other (eqb-true letter sign is))
    by_test false is = ap (λ b. cond {A = ℕ} b 1 0) is

module _ (sheets : List Sheet) (router place letter : ℕ) (lt : router < length sheets) (within : place < length (sheet_in sheets router).letters) where
  -- the letter that is there
  abbrev pub old : ℕ
  old = get_or (sheet_in sheets router).letters place 0

  pub total-put : total (put_letter sheets router place letter) ≡ total sheets
  total-put = omega (arith, sum_by-set (λ (s : Sheet). length s.letters) sheets router (with_letter (sheet_in sheets router) place letter) none lt, length-set (sheet_in sheets router).letters place letter)

  pub count-put : (sign : ℕ) → count_in sign (put_letter sheets router place letter) + one sign old ≡ count_in sign sheets + one sign letter
  count-put sign = omega (
    arith,
    sum_by-set (λ (s : Sheet). count_of sign s.letters) sheets router (with_letter (sheet_in sheets router) place letter) none lt,
    sum_by-set (λ b. cond {A = ℕ} (b == sign) 1 0) (sheet_in sheets router).letters place letter 0 within,
  )

-- a letter that is somewhere is counted
pub count-some : (sheets : List Sheet) (router place : ℕ) → router < length sheets → place < length (sheet_in sheets router).letters
    → 0 < count_in (get_or (sheet_in sheets router).letters place 0) sheets
count-some sheets router place lt within =
    let sign = get_or (sheet_in sheets router).letters place 0 in
    omega (arith, count-put sheets router place (sign + 1) lt within sign, one-same sign, one-other sign (sign + 1) (λ e. omega arith))

-- no letter is counted more often than there are letters
pub count-few : (sign : ℕ) (sheets : List Sheet) → count_in sign sheets ≤ total sheets
count-few sign [] = omega arith
count-few sign (s ∷ ss) =
    omega (arith, sum_by-cons (λ (s : Sheet). count_of sign s.letters) s ss, sum_by-cons (λ (s : Sheet). length s.letters) s ss, count_by-le-length (λ b. b == sign) s.letters, count-few sign ss)

-- the letters of all sheets in a row
pub count-flat : (sign : ℕ) (sheets : List Sheet) → count_of sign (flat_map (λ s. s.letters) sheets) ≡ count_in sign sheets
count-flat sign [] = refl
count-flat sign (s ∷ ss) =
    ap (count_of sign) (flat_map-cons (λ s. s.letters) s ss) ∙ sum_by-append (λ b. cond {A = ℕ} (b == sign) 1 0) s.letters (flat_map (λ s. s.letters) ss)
    ∙ ap (λ n. count_of sign s.letters + n) (count-flat sign ss) ∙ sym (sum_by-cons (λ s. count_of sign s.letters) s ss)

-- one letter more was counted
pub counted-more : (counts letters : List ℕ) (at x : ℕ) → at < length letters → length counts ≡ 256 → get_or letters at 0 < 256 → x ≡ get_or counts (get_or letters at 0) 0
    → ((sign : ℕ) → sign < 256 → get_or counts sign 0 ≡ count_of sign (take at letters))
    → (sign : ℕ) → sign < 256 → get_or (set counts (get_or letters at 0) (x + 1)) sign 0 ≡ count_of sign (take (at + 1) letters)
counted-more counts letters at x lt long small value each sign within = elim (cases_eq sign (get_or letters at 0)) [
  | inl e ↦ subst (λ (k : ℕ). get_or (set counts k (x + 1)) sign 0 ≡ count_of sign (take (at + 1) letters)) e
      (let same = get_or-set_same counts sign (x + 1) 0 (omega (arith, long)) in
      let old : x ≡ count_of sign (take at letters) = value ∙ ap (λ k. get_or counts k 0) (sym e) ∙ each sign within in
      omega (arith, count_by_more_yes (λ b. b == sign) letters at 0 lt (eq-eqb (get_or letters at 0) sign (sym e))))
  | inr ne ↦ get_or-set_other counts (get_or letters at 0) sign (x + 1) 0 ne ∙ each sign within
      ∙ sym (count_by_more_no (λ b. b == sign) letters at 0 lt (not-same (get_or letters at 0) sign (λ e. ne (sym e))))
]
  where
    not-same : (a b : ℕ) → (a ≡ b → ⊥) → nat_eq a b ≡ false
    not-same a b ne = by_test (nat_eq a b) refl
      where
        by_test : (t : Bool) → nat_eq a b ≡ t → nat_eq a b ≡ false
        by_test true is = absurd (ne (eqb-true a b is))
        by_test false is = is

-- the counts after a letter took the place of another
pub recounted : (counts : List ℕ) (before letter : ℕ) → before < length counts → letter < length counts → 0 < get_or counts before 0
    → (sign : ℕ) → get_or (set (set counts before (get_or counts before 0 - 1)) letter (get_or (set counts before (get_or counts before 0 - 1)) letter 0 + 1)) sign 0 + one sign before ≡ get_or counts sign 0 + one sign letter
recounted counts before letter lt here some sign = elim (cases_eq sign letter) [
  | inl e ↦ subst (λ (k : ℕ). get_or (set less k (get_or less k 0 + 1)) sign 0 + one sign before ≡ get_or counts sign 0 + one sign k) e
      (let more = get_or-set_same less sign (get_or less sign 0 + 1) 0 (let l = length-set counts before (get_or counts before 0 - 1) in let same = e in omega arith) in omega (arith, lessened, one-same sign))
  | inr ne ↦ let other = get_or-set_other less letter sign (get_or less letter 0 + 1) 0 ne in omega (arith, lessened, one-other sign letter (λ e. ne (sym e)))
]
  where
    less : List ℕ
    less = set counts before (get_or counts before 0 - 1)

    lessened : get_or less sign 0 + one sign before ≡ get_or counts sign 0
    lessened = elim (cases_eq sign before) [
      | inl e ↦ subst (λ (k : ℕ). get_or (set counts k (get_or counts k 0 - 1)) sign 0 + one sign k ≡ get_or counts sign 0) e
          (let same : get_or (set counts sign (get_or counts sign 0 - 1)) sign 0 ≡ get_or counts sign 0 - 1 = get_or-set_same counts sign (get_or counts sign 0 - 1) 0 (let s = e in omega arith) in
          let positive : 0 < get_or counts sign 0 = subst (λ (k : ℕ). 0 < get_or counts k 0) (sym e) some in omega (arith, one-same sign))
      | inr ne ↦ let other = get_or-set_other counts before sign (get_or counts before 0 - 1) 0 ne in omega (arith, one-other sign before (λ e. ne (sym e)))
    ]

-- and of all sheets
pub counts-put : (sheets : List Sheet) (counts after : List ℕ) (router place letter : ℕ) → letter < 128 → router < length sheets → place < length (sheet_in sheets router).letters → AreKept sheets counts
    → length after ≡ 256 → ((sign : ℕ) → sign < 256 → get_or after sign 0 + one sign (get_or (sheet_in sheets router).letters place 0) ≡ get_or counts sign 0 + one sign letter)
    → AreKept (put_letter sheets router place letter) after
counts-put sheets counts after router place letter small lt within are long moved = record {
  len = long;
  each = λ sign little. omega (arith, moved sign little, are.each sign little, count-put sheets router place letter lt within sign);
  few = subst (λ n. n < 2 ^ 63) (sym (total-put sheets router place letter lt within)) are.few;
  texts = All-set IsText sheets router (with_letter (sheet_in sheets router) place letter) (text-put (sheet_in sheets router) place letter small (All-get_or IsText sheets router none lt are.texts)) are.texts;
}
