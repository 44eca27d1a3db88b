-- Nodes in slots: each is found on its way, also when more are put, and one that isn't found isn't there.
use Rattle.std.proofs.Common.{◌≡◌, ℕ, zero, suc, ◌+◌, ◌-◌, ◌<◌, ◌≤◌, List, [], ◌∷◌, ◌++◌, length, get_or, set, refl, sym, ap, subst, ◌∙◌, inl, inr, arith, Contains, Bool, true, ◌&&◌, ◌==◌, eq-eqb}
use Rattle.std.proofs.lemmas.Bool.{cases_lt, and_parts, eqb-true}
use Rattle.std.proofs.lemmas.List.{length-append, get_or_append_left, get_or-append_right, get_or-set_other, get_or-set_same, length-set}
use Rattle.nc_diagram.specs.declared.node.Node.{Node}
use Rattle.nc_diagram.proofs.Canonicity.{same_node}
use Rattle.nc_diagram.specs.Index.{home, next, IsRun, IsFoundFrom, IsFound, IsIndexed, IsFree, IsFreeFrom}

-- one step more
IsRun-longer : (slots : List ℕ) (count bound steps from to : ℕ) → IsRun slots count bound steps from to → 0 < get_or slots to 0 → get_or slots to 0 < bound → IsRun slots count bound (suc steps) from (next count to)
unfolding IsRun
IsRun-longer slots count bound zero from to run some less =
    let same = ap (λ i. get_or slots i 0) run in
    (omega (arith, same, some), omega (arith, same, less), ap (next count) run)
IsRun-longer slots count bound (suc steps) from to run some less =
    (run.0, run.1, IsRun-longer slots count bound steps (next count from) to run.2 some less)

pub IsRun-more : (slots : List ℕ) (count bound steps from to : ℕ) → IsRun slots count bound steps from to → 0 < get_or slots to 0 → get_or slots to 0 < bound → IsRun slots count bound (steps + 1) from (next count to)
IsRun-more slots count bound steps from to run some less =
    let e : suc steps ≡ steps + 1 = omega arith in
    subst (λ n. IsRun slots count bound n from (next count to)) e (IsRun-longer slots count bound steps from to run some less)

pub IsRun-none : (slots : List ℕ) (count bound from : ℕ) → IsRun slots count bound 0 from from
unfolding IsRun
IsRun-none slots count bound from = refl

-- a free slot is on no way
away : (slots : List ℕ) (nodes at i : ℕ) → IsFree slots nodes at → 0 < get_or slots i 0 → get_or slots i 0 ≤ nodes → i ≡ at → ⊥
away slots nodes at i free some less e =
    let same = ap (λ j. get_or slots j 0) e in
    elim free [ inl none ↦ omega (arith, same, none) | inr more ↦ omega (arith, same, more) ]

-- a number that is put into a free slot leaves all ways as they are
IsRun-set : (slots : List ℕ) (nodes at v : ℕ) → IsFree slots nodes at → (count bound steps from to : ℕ) → bound ≤ nodes + 1 → IsRun slots count bound steps from to → IsRun (set slots at v) count bound steps from to
unfolding IsRun
IsRun-set slots nodes at v free count bound zero from to low run = run
IsRun-set slots nodes at v free count bound (suc steps) from to low run =
    let same : get_or (set slots at v) from 0 ≡ get_or slots from 0 = get_or-set_other slots at from v 0 (away slots nodes at from free run.0 (omega (arith, run.1))) in
    (omega (arith, same, run.0), omega (arith, same, run.1), IsRun-set slots nodes at v free count bound steps (next count from) to low run.2)

IsFoundFrom-set : (slots : List ℕ) (nodes at v : ℕ) → IsFree slots nodes at → (count room from k : ℕ) → k < nodes → IsFoundFrom slots count room from k → IsFoundFrom (set slots at v) count room from k
IsFoundFrom-set slots nodes at v free count room from k within is =
    let there = is.there in
    let same : get_or (set slots at v) is.slot 0 ≡ get_or slots is.slot 0 = get_or-set_other slots at is.slot v 0 (away slots nodes at is.slot free (omega arith) (omega arith)) in
    record {
      steps = is.steps;
      slot = is.slot;
      few = is.few;
      run = IsRun-set slots nodes at v free count (k + 1) is.steps from is.slot (omega arith) is.run;
      there = same ∙ there;
    }

-- the same for as many slots
IsFound-set : (slots : List ℕ) (nodes at v : ℕ) → IsFree slots nodes at → (n : Node) (k : ℕ) → k < nodes → IsFound slots (length slots) n k → IsFound (set slots at v) (length (set slots at v)) n k
IsFound-set slots nodes at v free n k within is =
    subst (λ count. IsFound (set slots at v) count n k) (sym (length-set slots at v))
    (IsFoundFrom-set slots nodes at v free (length slots) (length slots) (home n (length slots)) k within is)

pub IsIndexed-set : (slots : List ℕ) (nodes : List Node) (at v : ℕ) → IsFree slots (length nodes) at → IsIndexed slots nodes → IsIndexed (set slots at v) nodes
IsIndexed-set slots nodes at v free are k d within = IsFound-set slots (length nodes) at v free (get_or nodes k d) k within (are k d within)

-- a node is put into the free slot on its way
IsFound-put : (slots : List ℕ) (nodes : ℕ) (n : Node) (at : ℕ) → at < length slots → IsFreeFrom slots nodes (home n (length slots)) at → IsFound (set slots at (nodes + 1)) (length (set slots at (nodes + 1))) n nodes
IsFound-put slots nodes n at within free =
    let v = nodes + 1 in
    let count = length slots in
    let found : IsFound (set slots at v) count n nodes =
    record {
      steps = free.steps;
      slot = at;
      few = free.few;
      run = IsRun-set slots nodes at v free.free count v free.steps (home n count) at (omega arith) free.run;
      there = get_or-set_same slots at v 0 within;
    } in
    subst (λ c. IsFound (set slots at v) c n nodes) (sym (length-set slots at v)) found

pub IsIndexed-put : (slots : List ℕ) (nodes : List Node) (n : Node) (at : ℕ) → at < length slots → IsFreeFrom slots (length nodes) (home n (length slots)) at → IsIndexed slots nodes → IsIndexed (set slots at (length nodes + 1)) (nodes ++ n ∷ [])
IsIndexed-put slots nodes n at within free are k d h =
    let new = set slots at (length nodes + 1) in
    let count : length (nodes ++ n ∷ []) ≡ length nodes + 1 = length-append nodes (n ∷ []) in
    elim (cases_lt k (length nodes)) [
      | inl older ↦
          subst (λ m. IsFound new (length new) m k) (sym (get_or_append_left nodes (n ∷ []) d k older))
          (IsFound-set slots (length nodes) at (length nodes + 1) free.free (get_or nodes k d) k older (are k d older))
      | inr last ↦
          (let here : k ≡ length nodes = omega arith in
          let zero_left : k - length nodes ≡ 0 = omega arith in
          let read : get_or (nodes ++ n ∷ []) k d ≡ n = get_or-append_right nodes (n ∷ []) (length nodes) k d refl (omega arith) ∙ ap (λ i. get_or (n ∷ []) i d) zero_left in
          subst (λ m. IsFound new (length new) m k) (sym read)
          (subst (λ j. IsFound new (length new) n j) (sym here) (IsFound-put slots (length nodes) n at within free)))
    ]

-- the oldest nodes, and all but the newest
IsIndexed-front : (slots : List ℕ) (nodes later : List Node) → IsIndexed slots (nodes ++ later) → IsIndexed slots nodes
IsIndexed-front slots nodes later are k d h =
    subst (λ m. IsFound slots (length slots) m k) (get_or_append_left nodes later d k h) (are k d (omega (arith, h, length-append nodes later)))

pub IsIndexed-last : (slots : List ℕ) (nodes : List Node) (n : Node) → IsIndexed slots (nodes ++ n ∷ []) → IsIndexed slots nodes
IsIndexed-last slots nodes n are = IsIndexed-front slots nodes (n ∷ []) are

-- a node that is found later isn't in this slot, and its way goes on
found_later : (slots : List ℕ) (count room from k steps slot : ℕ) → steps < room → IsRun slots count (k + 1) steps from slot → get_or slots slot 0 ≡ k + 1 → (get_or slots from 0 ≡ k + 1 → ⊥) → IsFoundFrom slots count (room - 1) (next count from) k
unfolding IsRun
found_later slots count room from k zero slot few run there other = absurd (other (ap (λ i. get_or slots i 0) run ∙ there))
found_later slots count room from k (suc steps) slot few run there other =
    record { steps = steps; slot = slot; few = omega arith; run = run.2; there = there }

pub IsFoundFrom-next : (slots : List ℕ) (count room from k : ℕ) → IsFoundFrom slots count room from k → (get_or slots from 0 ≡ k + 1 → ⊥) → IsFoundFrom slots count (room - 1) (next count from) k
IsFoundFrom-next slots count room from k is other = found_later slots count room from k is.steps is.slot is.few is.run is.there other

-- where a node is to be found the slot isn't free
in_use : (slots : List ℕ) (count nodes from k steps slot : ℕ) → k < nodes → IsRun slots count (k + 1) steps from slot → get_or slots slot 0 ≡ k + 1 → IsFree slots nodes from → ⊥
unfolding IsRun
in_use slots count nodes from k zero slot within run there free =
    away slots nodes from slot free (omega (arith, there)) (omega (arith, there)) (sym run)
in_use slots count nodes from k (suc steps) slot within run there free =
    away slots nodes from from free run.0 (omega (arith, run.1)) refl

pub IsFoundFrom-in_use : (slots : List ℕ) (count room nodes from k : ℕ) → k < nodes → IsFoundFrom slots count room from k → IsFree slots nodes from → ⊥
IsFoundFrom-in_use slots count room nodes from k within is free = in_use slots count nodes from k is.steps is.slot within is.run is.there free

-- past the last slot nothing is
pub IsFree-past : (slots : List ℕ) (nodes at : ℕ) → length slots ≤ at → IsFree slots nodes at
IsFree-past slots nodes at h = inl (past slots at h)
  where
    past : (xs : List ℕ) (i : ℕ) → length xs ≤ i → get_or xs i 0 ≡ 0
    past [] i h = refl
    past (x ∷ xs) zero h = absurd (omega (arith, h))
    past (x ∷ xs) (suc i) h = past xs i (omega (arith, h))

-- wherever the node is among these, it is found from a slot on, in fewer steps than some
abbrev pub IsSought : List ℕ → List Node → Node → ℕ → ℕ → Type 0
IsSought slots nodes n room at = (k : ℕ) (d : Node) → k < length nodes → get_or nodes k d ≡ n → IsFoundFrom slots (length slots) room at k

pub IsSought-first : (slots : List ℕ) (nodes : List Node) (n : Node) → IsIndexed slots nodes → IsSought slots nodes n (length slots) (home n (length slots))
IsSought-first slots nodes n are k d within same = subst (λ m. IsFound slots (length slots) m k) same (are k d within)

pub IsSought-next : (slots : List ℕ) (nodes : List Node) (n : Node) (room at index : ℕ) → get_or slots at 0 ≡ index + 1 → ((d : Node) → get_or nodes index d ≡ n → ⊥) → IsSought slots nodes n room at → IsSought slots nodes n (room - 1) (next (length slots) at)
IsSought-next slots nodes n room at index held other is k d within same =
    IsFoundFrom-next slots (length slots) room at k (is k d within same)
    (λ e. let here : k ≡ index = omega (arith, e, held) in other d (ap (λ i. get_or nodes i d) (sym here) ∙ same))

pub IsSought-free : (slots : List ℕ) (nodes : List Node) (n : Node) (room at : ℕ) → IsFree slots (length nodes) at → IsSought slots nodes n room at → Contains nodes n → ⊥
IsSought-free slots nodes n room at free is c = IsFoundFrom-in_use slots (length slots) room (length nodes) at c.0 c.1 (is c.0 n c.1 c.2) free

pub IsSought-none : (slots : List ℕ) (nodes : List Node) (n : Node) (room at : ℕ) → room ≡ 0 → IsSought slots nodes n room at → Contains nodes n → ⊥
IsSought-none slots nodes n room at none is c = let found = is c.0 n c.1 c.2 in let few = found.few in omega (arith, few, none)

-- the comparison of nodes tells them apart
abbrev pub node_eq : Node → Node → Bool
node_eq n m = (n.variable == m.variable) && ((n.low == m.low) && (n.high == m.high))

pub node_same : (n m : Node) → node_eq n m ≡ true → n ≡ m
node_same n m h =
    let p = and_parts (n.variable == m.variable) ((n.low == m.low) && (n.high == m.high)) h in
    let q = and_parts (n.low == m.low) (n.high == m.high) p.1 in
    same_node n m (eqb-true n.variable m.variable p.0) (eqb-true n.low m.low q.0) (eqb-true n.high m.high q.1)

pub node_itself : (n : Node) → node_eq n n ≡ true
node_itself n =
    ap (λ x. x && ((n.low == n.low) && (n.high == n.high))) (eq-eqb n.variable n.variable refl)
    ∙ ap (λ x. x && (n.high == n.high)) (eq-eqb n.low n.low refl) ∙ eq-eqb n.high n.high refl
