-- What is written line by line, with a number that is counted up.
use Rattle.std.proofs.Common.{◌≡◌, ℕ, ◌+◌, ◌≤◌, [], ◌∷◌, length, Option, Some, None, codes, sym, ap, ◌∙◌, arith}
use Rattle.nc_report.specs.Counters.{Numbered, IsRecord, IsFront}
use Rattle.nc_report.specs.Texts.{Hit, listed}

-- the number was counted up
abbrev pub Next : Numbered → Numbered → Type 0
Next n next = next ≡ record { head = n.head; number = n.number + 1; tail = n.tail }

pub record-first : (n : Numbered) (count : ℕ) → n ≡ record { head = codes "DA:"; number = 1; tail = 44 ∷ count ∷ 10 ∷ [] } → IsRecord n
record-first n count is = record { count = count; is = is ∙ ap (λ (m : ℕ). record { head = codes "DA:"; number = m; tail = 44 ∷ count ∷ 10 ∷ [] }) (sym (ap (λ (v : Numbered). v.number) is)) }

pub record-next : (n next : Numbered) → IsRecord n → Next n next → IsRecord next
record-next n next h is = record {
  count = h.count;
  is = is ∙ ap (λ (v : Numbered). record { head = v.head; number = n.number + 1; tail = v.tail }) h.is
      ∙ ap (λ (m : ℕ). record { head = codes "DA:"; number = m; tail = 44 ∷ h.count ∷ 10 ∷ [] }) (sym (ap (λ (v : Numbered). v.number) is));
}

pub front-first : (n : Numbered) (letter : ℕ) → n ≡ record { head = letter ∷ 32 ∷ []; number = 1; tail = 32 ∷ [] } → IsFront n
front-first n letter is = record { letter = letter; is = is ∙ ap (λ (m : ℕ). record { head = letter ∷ 32 ∷ []; number = m; tail = 32 ∷ [] }) (sym (ap (λ (v : Numbered). v.number) is)) }

pub front-next : (n next : Numbered) → IsFront n → Next n next → IsFront next
front-next n next h is = record {
  letter = h.letter;
  is = is ∙ ap (λ (v : Numbered). record { head = v.head; number = n.number + 1; tail = v.tail }) h.is
      ∙ ap (λ (m : ℕ). record { head = h.letter ∷ 32 ∷ []; number = m; tail = 32 ∷ [] }) (sym (ap (λ (v : Numbered). v.number) is));
}

pub few-listed : (x : Option Hit) → length (listed x) ≤ 1
few-listed None = omega arith
few-listed (Some x) = omega arith
