-- Slots: how many have a number, the way to a free one, and that slots are for more nodes and for fewer.
use Rattle.std.proofs.Common.{◌≡◌, ◌⊎◌, ℕ, zero, suc, ◌+◌, ◌*◌, ◌/◌, ◌%◌, ◌^◌, ◌<◌, ◌≤◌, cond, List, [], ◌∷◌, ◌++◌, length, get_or, set, take, Contains, refl, sym, ap, subst, ◌∙◌, inl, inr, arith}
use Rattle.std.proofs.Math.Nat.{mod-le, mul-lt-mul_of_pos_right}
use Rattle.std.proofs.lemmas.Bool.{cases_lt}
use Rattle.std.proofs.lemmas.Nat.{div_below}
use Rattle.std.proofs.lemmas.List.{get_or_default, get_or_past, length-set, length-take-le, take_all, take_more}
use Rattle.std.proofs.lemmas.List.Sums.{sum_by-cons, sum_by-set}
use Rattle.nc_diagram.specs.declared.node.Node.{Node}
use Rattle.nc_diagram.specs.Index.{home, is_number, numbered, IsIndexed, IsFreeFrom, AreFor}
use Rattle.nc_diagram.proofs.IndexLemmas.{IsIndexed-last, IsIndexed-put, IsIndexed-set}
use Rattle.nc_diagram.proofs.WayLemmas.{ComesTo, ComesTo-first}

-- a way begins at a slot that there is
scaled : (x count : ℕ) → 0 < count → (x % 2 ^ 32 * count) % 2 ^ 64 / 2 ^ 32 < count
scaled x count some =
    let low : x % 2 ^ 32 < 2 ^ 32 = omega arith in
    let product : x % 2 ^ 32 * count < 2 ^ 32 * count = mul-lt-mul_of_pos_right low some in
    let less : (x % 2 ^ 32 * count) % 2 ^ 64 ≤ x % 2 ^ 32 * count = mod-le (x % 2 ^ 32 * count) (2 ^ 64) in
    div_below ((x % 2 ^ 32 * count) % 2 ^ 64) (2 ^ 32) count (omega arith) (omega (arith, product, less))

pub home-within : (n : Node) (count : ℕ) → 0 < count → home n count < count
unfolding home
home-within n count some = scaled (n.variable * 1013904223 + n.low * 739982445 + n.high * 695872825) count some

-- ---- how many slots have a number

abbrev counts : ℕ → ℕ
counts number = cond (is_number number) 1 0

one_most : (number : ℕ) → counts number ≤ 1
one_most zero = omega arith
one_most (suc n) = omega arith

one_some : (number : ℕ) → 0 < number → counts number ≡ 1
one_some zero some = absurd (omega (arith, some))
one_some (suc n) some = refl

numbered-put : (slots : List ℕ) (at number : ℕ) → at < length slots → numbered (set slots at number) ≤ numbered slots + 1
numbered-put slots at number within =
    let e : numbered (set slots at number) + counts (get_or slots at 0) ≡ numbered slots + counts number = sum_by-set counts slots at number 0 within in
    omega (arith, e, one_most number)

numbered-clear : (slots : List ℕ) (at : ℕ) → at < length slots → 0 < get_or slots at 0 → numbered (set slots at 0) + 1 ≡ numbered slots
numbered-clear slots at within some =
    let e : numbered (set slots at 0) + counts (get_or slots at 0) ≡ numbered slots + counts 0 = sum_by-set counts slots at 0 0 within in
    let none : counts 0 ≡ 0 = refl in
    omega (arith, e, none, one_some (get_or slots at 0) some)

-- where fewer have a number than there are, one has none
free_slot : (slots : List ℕ) → numbered slots < length slots → (to : ℕ) × (to < length slots) × (get_or slots to 0 ≡ 0)
free_slot [] some = absurd (omega (arith, some))
free_slot (zero ∷ slots) some = (0, omega arith, refl)
free_slot (suc n ∷ slots) some =
    let e : numbered (suc n ∷ slots) ≡ 1 + numbered slots = sum_by-cons counts (suc n) slots in
    let found = free_slot slots (omega (arith, some, e)) in
    (suc found.0, omega (arith, found.1), found.2)

-- ---- the way to a slot

-- the slot has this
abbrev pub Has : List ℕ → ℕ → ℕ → Type 0
Has slots number at = get_or slots at 0 ≡ number

pub ComesTo-free : (slots : List ℕ) (from : ℕ) → from < length slots → numbered slots < length slots → ComesTo (Has slots 0) (length slots) (length slots) from
ComesTo-free slots from within some = let found = free_slot slots some in ComesTo-first (Has slots 0) (length slots) from found.0 found.1 found.2 within

pub ComesTo-contained : (slots : List ℕ) (number from : ℕ) → from < length slots → Contains slots number → ComesTo (Has slots number) (length slots) (length slots) from
ComesTo-contained slots number from within some = ComesTo-first (Has slots number) (length slots) from some.0 some.1 (get_or_default slots some.0 0 number some.1 ∙ some.2) within

-- ---- slots for nodes

pub AreFor-put : (slots : List ℕ) (nodes : List Node) (index at : ℕ) (d : Node) → index < length nodes → at < length slots → 4 * (index + 1) ≤ 3 * length slots → IsFreeFrom slots index (home (get_or nodes index d) (length slots)) at
    → AreFor slots (take index nodes) → AreFor (set slots at (index + 1)) (take (index + 1) nodes)
AreFor-put slots nodes index at d within there room free are =
    let older = take index nodes in
    let node = get_or nodes index d in
    let count : length older ≡ index = length-take-le index nodes (omega arith) in
    let more : length (take (index + 1) nodes) ≡ index + 1 = length-take-le (index + 1) nodes (omega arith) in
    let indexed : IsIndexed (set slots at (index + 1)) (older ++ node ∷ []) =
    subst (λ k. IsIndexed (set slots at (k + 1)) (older ++ node ∷ [])) count
    (IsIndexed-put slots older node at there (subst (λ k. IsFreeFrom slots k (home node (length slots)) at) (sym count) free) are.indexed) in
    record {
      indexed = subst (IsIndexed (set slots at (index + 1))) (sym (take_more nodes index d within)) indexed;
      used = omega (arith, numbered-put slots at (index + 1) there, are.used, count, more);
      roomy = omega (arith, room, length-set slots at (index + 1), more);
    }

-- the number of the newest node is in a slot
pub AreFor-has : (slots : List ℕ) (nodes : List Node) (index : ℕ) → index < length nodes → AreFor slots (take (index + 1) nodes) → Contains slots (index + 1)
AreFor-has slots nodes index within are =
    let none : Node = record { variable = 0; low = 0; high = 0 } in
    let more : length (take (index + 1) nodes) ≡ index + 1 = length-take-le (index + 1) nodes (omega arith) in
    let is = are.indexed index none (omega (arith, more)) in
    let there = is.there in
    elim (cases_lt is.slot (length slots)) [
      | inl within_slots ↦ (is.slot, within_slots, get_or_default slots is.slot (index + 1) 0 within_slots ∙ there)
      | inr past ↦ absurd (omega (arith, there, get_or_past slots is.slot 0 past))
    ]

pub AreFor-some : (slots : List ℕ) (nodes : List Node) (index : ℕ) → index < length nodes → AreFor slots (take (index + 1) nodes) → 0 < length slots
AreFor-some slots nodes index within are = let has = AreFor-has slots nodes index within are in omega (arith, has.1)

pub AreFor-clear : (slots : List ℕ) (nodes : List Node) (index at : ℕ) → index < length nodes → at < length slots → get_or slots at 0 ≡ index + 1 → AreFor slots (take (index + 1) nodes) → AreFor (set slots at 0) (take index nodes)
AreFor-clear slots nodes index at within there number are =
    let none : Node = record { variable = 0; low = 0; high = 0 } in
    let older = take index nodes in
    let count : length older ≡ index = length-take-le index nodes (omega arith) in
    let more : length (take (index + 1) nodes) ≡ index + 1 = length-take-le (index + 1) nodes (omega arith) in
    let indexed : IsIndexed slots older = IsIndexed-last slots older (get_or nodes index none) (subst (IsIndexed slots) (take_more nodes index none within) are.indexed) in
    record {
      indexed = IsIndexed-set slots older at 0 (inr (omega (arith, count, number))) indexed;
      used = omega (arith, numbered-clear slots at there (omega (arith, number)), are.used, count, more);
      roomy = omega (arith, are.roomy, count, more, length-set slots at 0);
    }

-- the same nodes are left, whether some were taken or all are
pub taken_same : (nodes : List Node) (count index : ℕ) → index ≤ count → (count ≤ index) ⊎ (index ≡ length nodes) → take index nodes ≡ take count nodes
taken_same nodes count index most left = elim left [
  | inl least ↦ ap (λ (k : ℕ). take k nodes) (let same : index ≡ count = omega arith in same)
  | inr all ↦ take_all index nodes (omega arith) ∙ sym (take_all count nodes (omega arith))
]
