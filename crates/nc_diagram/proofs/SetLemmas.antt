-- Reading a set whose lowest variables are fixed, and fixing twice.
use Rattle.std.proofs.Common.{◌≡◌, ℕ, ◌+◌, ◌-◌, ◌<◌, ◌≤◌, Bool, true, false, List, [], ◌∷◌, ◌++◌, length, drop, replicate, get_or, refl, sym, ap, ◌∙◌, inl, inr, ◌⊎◌, arith, eq-eqb, ne_eqb, if◌then◌else◌, ◌==◌, append-nil, append_assoc, length-append, length-drop}
use Rattle.std.proofs.lemmas.List.{get_or-append_right, get_or-drop, get_or_append_left, get_or_default, get_or_at, get_or_past, get_or-replicate, length-replicate, drop-append-le, drop_all}
use Rattle.std.proofs.lemmas.Slice.{drop-append-drop}
use Rattle.std.proofs.lemmas.Bool.{cases_lt, cases_order, cond-true, cond-false}
use Rattle.nc_diagram.specs.Sets.{Members, has, fixing, all_but, Same, IsLowestFixed, below}

-- a variable past the fixed ones is read from the set
pub has-fixing-high : (ls : List Bool) (s : Members) (v : ℕ) → length ls ≤ v → has (fixing ls s) v ≡ has s v
unfolding fixing
has-fixing-high ls s v h =
    get_or-append_right ls (drop (length ls) s.places) (length ls) v s.rest refl h
    ∙ get_or-drop (length ls) s.places (v - length ls) s.rest
    ∙ (let e : length ls + (v - length ls) ≡ v = omega arith in ap (λ k. get_or s.places k s.rest) e)

-- a fixed variable is read from the list
pub has-fixing-low : (ls : List Bool) (s : Members) (v : ℕ) (d : Bool) → v < length ls → has (fixing ls s) v ≡ get_or ls v d
unfolding fixing
has-fixing-low ls s v d h =
    get_or_append_left ls (drop (length ls) s.places) s.rest v h ∙ get_or_default ls v s.rest d h

-- fixing at least as many variables again hides the first fixing
pub fixing-fixing-shorter : (bs cs : List Bool) (s : Members) → length cs ≤ length bs → fixing bs (fixing cs s) ≡ fixing bs s
unfolding fixing
fixing-fixing-shorter bs cs s h =
    ap (λ (ps : List Bool). record { places = bs ++ ps; rest = s.rest })
    (drop-append-drop (length cs) s.places cs (length bs) h refl)

-- fixing twice is fixing once
pub fixing-fixing : (bs cs : List Bool) (s : Members) → fixing bs (fixing cs s) ≡ fixing (bs ++ drop (length bs) cs) s
unfolding fixing
fixing-fixing bs cs s = by (cases_lt (length cs) (length bs))
  where
    by : (length cs < length bs) ⊎ (length bs ≤ length cs) → fixing bs (fixing cs s) ≡ fixing (bs ++ drop (length bs) cs) s
    by (inl h) =
        let shorter : length cs ≤ length bs = omega arith in
        fixing-fixing-shorter bs cs s shorter
        ∙ ap (λ ls. fixing ls s) (sym (ap (λ ds. bs ++ ds) (drop_all (length bs) cs shorter) ∙ append-nil bs))
    by (inr h) =
        let long : length (bs ++ drop (length bs) cs) ≡ length cs = omega (arith, length-append bs (drop (length bs) cs), length-drop (length bs) cs) in
        ap (λ (ps : List Bool). record { places = ps; rest = s.rest })
        (ap (λ ds. bs ++ ds) (drop-append-le (length bs) cs (drop (length cs) s.places) h)
        ∙ sym (append_assoc bs (drop (length bs) cs) (drop (length cs) s.places))
        ∙ ap (λ k. (bs ++ drop (length bs) cs) ++ drop k s.places) (sym long))

pub length-below : (v : ℕ) (b : Bool) → length (below v b) ≡ v + 1
unfolding below
length-below v b = omega (arith, length-append (replicate v false) (b ∷ []), length-replicate v false)

pub has-fixing-below : (v : ℕ) (b : Bool) (s : Members) → has (fixing (below v b) s) v ≡ b
unfolding below
has-fixing-below v b s =
    has-fixing-low (below v b) s v b (omega (arith, length-below v b))
    ∙ get_or_at (replicate v false) b [] b v (length-replicate v false)

pub has-fixing-above : (v : ℕ) (b : Bool) (s : Members) (w : ℕ) → v < w → has (fixing (below v b) s) w ≡ has s w
has-fixing-above v b s w h = has-fixing-high (below v b) s w (omega (arith, length-below v b))

-- a function with no variable fixed is itself
pub IsLowestFixed-itself : (f g : Members → Bool) → Same g f → IsLowestFixed f g
unfolding fixing
IsLowestFixed-itself f g h = ([], h)

-- fixing more of the lowest variables
pub IsLowestFixed-more : (f g h : Members → Bool) → IsLowestFixed f g → (ls : List Bool) → Same h (λ s. g (fixing ls s)) → IsLowestFixed f h
IsLowestFixed-more f g h p ls e =
    (p.0 ++ drop (length p.0) ls, λ s. e s ∙ p.1 (fixing ls s) ∙ ap f (fixing-fixing p.0 ls s))

-- the set of all variables but one
pub has-all_but_one : (v w : ℕ) → has (all_but (v ∷ [])) w ≡ (if w == v then false else true)
unfolding all_but
has-all_but_one v w =
    let front = replicate (v - 0) true in
    let count : length front ≡ v = length-replicate (v - 0) true ∙ (omega arith) in
    elim (cases_order w v) [
      | inl e ↦ get_or_at front false [] true w (count ∙ sym e) ∙ sym (cond-true (w == v) false true (eq-eqb w v e))
      | inr either ↦
          (let differ : (w ≡ v → ⊥) = elim either [ inl l ↦ (λ e. omega arith) | inr l ↦ (λ e. omega arith) ] in
          let answer = sym (cond-false (w == v) false true (ne_eqb w v differ)) in
          elim either [
            | inl l ↦ get_or_append_left front (false ∷ []) true w (omega arith) ∙ get_or-replicate (v - 0) w true true (omega arith) ∙ answer
            | inr l ↦ get_or_past (front ++ false ∷ []) w true (omega (arith, length-append front (false ∷ []))) ∙ answer
          ])
    ]
