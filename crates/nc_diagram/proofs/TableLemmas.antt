-- The slots of answers: how many a call has, and that it leaves some.
use Rattle.std.proofs.Common.{◌≡◌, ℕ, suc, ◌+◌, ◌*◌, ◌<◌, ◌≤◌, ◌==◌, cond, Bool, List, [], ◌∷◌, ◌++◌, length, get_or, set, take, replicate, All, refl, ap, inl, inr, arith}
use Rattle.std.proofs.lemmas.Bool.{cases_eq, eq-eqb, ne_eqb}
use Rattle.std.proofs.lemmas.List.{length-set}
use Rattle.std.proofs.lemmas.List.Elements.{All-append, All-replicate, All-take}
use Rattle.std.proofs.lemmas.List.Folds.{sum_by-replicate}
use Rattle.std.proofs.lemmas.List.Sums.{count_by-le-length, sum_by-append, sum_by-cons, sum_by-set, sum_by-take-le}
use Rattle.nc_diagram.specs.declared.table.Slot.{Slot}
use Rattle.nc_diagram.specs.Table.{of_call}
use Rattle.nc_diagram.proofs.WayLemmas.{ComesTo, ComesTo-first}

abbrev counts : ℕ → Slot → ℕ
counts call e = cond (e.call == call) 1 0

count_one : (call : ℕ) (e : Slot) → e.call ≡ call → counts call e ≡ 1
count_one call e same = ap (λ (b : Bool). cond b 1 0) (eq-eqb e.call call same)

count_none : (call : ℕ) (e : Slot) → (e.call ≡ call → ⊥) → counts call e ≡ 0
count_none call e other = ap (λ (b : Bool). cond b 1 0) (ne_eqb e.call call other)

abbrev pub none_yet : Slot
none_yet = record { pair = record { left = 0; right = 0 }; place = 0; call = 0 }

-- the slot isn't of this call
abbrev pub IsVacant : ℕ → List Slot → ℕ → Type 0
IsVacant call slots at = (d : Slot) → (get_or slots at d).call ≡ call → ⊥

vacant_slot : (call : ℕ) (slots : List Slot) → of_call call slots < length slots → (to : ℕ) × (to < length slots) × IsVacant call slots to
vacant_slot call [] some = absurd (omega (arith, some))
vacant_slot call (e ∷ slots) some = elim (cases_eq e.call call) [
  | inl same ↦
      (let more : of_call call (e ∷ slots) ≡ counts call e + of_call call slots = sum_by-cons (counts call) e slots in
      let found = vacant_slot call slots (omega (arith, some, more, count_one call e same)) in
      (suc found.0, omega (arith, found.1), found.2))
  | inr other ↦ (0, omega arith, λ d. other)
]

pub ComesTo-vacant : (call : ℕ) (slots : List Slot) (from : ℕ) → from < length slots → of_call call slots < length slots → ComesTo (IsVacant call slots) (length slots) (length slots) from
ComesTo-vacant call slots from within some = let found = vacant_slot call slots some in ComesTo-first (IsVacant call slots) (length slots) from found.0 found.1 found.2 within

-- an answer that is taken out leaves its slot
pub of_call-out : (call : ℕ) (slots : List Slot) (at : ℕ) (d : Slot) → 0 < call → at < length slots → of_call call (set slots at none_yet) < length (set slots at none_yet)
of_call-out call slots at d some within =
    let full : Slot = record { pair = record { left = 0; right = 0 }; place = 0; call = call } in
    let out : of_call call (set slots at none_yet) + counts call (get_or slots at d) ≡ of_call call slots + counts call none_yet = sum_by-set (counts call) slots at none_yet d within in
    let used : of_call call (set slots at full) + counts call (get_or slots at d) ≡ of_call call slots + counts call full = sum_by-set (counts call) slots at full d within in
    let most : of_call call (set slots at full) ≤ length (set slots at full) = count_by-le-length (λ (e : Slot). e.call == call) (set slots at full) in
    omega (arith, out, used, most, count_one call full refl, count_none call none_yet (λ e. omega (arith, e, some)), length-set slots at none_yet, length-set slots at full)

-- the next call has none yet
pub of_call-next : (call : ℕ) (slots : List Slot) → All (λ e. e.call ≤ call) slots → of_call (call + 1) slots ≡ 0
of_call-next call [] are = refl
of_call-next call (e ∷ slots) are =
    let first : e.call ≤ call = are 0 e (omega arith) in
    let more : of_call (call + 1) (e ∷ slots) ≡ counts (call + 1) e + of_call (call + 1) slots = sum_by-cons (counts (call + 1)) e slots in
    omega (arith, more, count_none (call + 1) e (λ same. omega (arith, same, first)), of_call-next call slots (λ k d h. are (suc k) d (omega (arith, h))))

-- slots that are made have no answer of a call
pub of_call-room : (call n k : ℕ) (slots : List Slot) → 0 < call → of_call call (take n slots ++ replicate k none_yet) ≤ of_call call slots
of_call-room call n k slots some =
    let both : of_call call (take n slots ++ replicate k none_yet) ≡ of_call call (take n slots) + of_call call (replicate k none_yet) = sum_by-append (counts call) (take n slots) (replicate k none_yet) in
    let made : of_call call (replicate k none_yet) ≡ k * counts call none_yet = sum_by-replicate (counts call) k none_yet in
    let none : k * counts call none_yet ≡ k * 0 = ap (λ m. k * m) (count_none call none_yet (λ e. omega (arith, e, some))) in
    let kept : of_call call (take n slots) ≤ of_call call slots = sum_by-take-le (counts call) slots n in
    omega (arith, both, made, none, kept)

-- and are of no later call
pub earlier-room : (call n k : ℕ) (slots : List Slot) → All (λ e. e.call ≤ call) slots → All (λ e. e.call ≤ call) (take n slots ++ replicate k none_yet)
earlier-room call n k slots are =
    let low : Slot → Type 0 = λ e. e.call ≤ call in
    let none : low none_yet = omega arith in
    All-append low (take n slots) (replicate k none_yet) (All-take low n slots are) (All-replicate low k none_yet none)

-- one bound after another
pub at-most : (a b c d : ℕ) → a ≤ b → b ≤ c → c ≤ d → a ≤ d
at-most a b c d first second third = omega arith
