-- Two references are equal where their functions are.
use Rattle.std.proofs.Common.{◌≡◌, ℕ, zero, suc, ◌+◌, ◌^◌, ◌<◌, ◌≤◌, Bool, true, false, List, [], length, Some, refl, sym, ap, subst, ◌∙◌, inl, inr, ◌⊎◌, arith, if◌then◌else◌}
use Rattle.std.proofs.lemmas.Bool.{cases_lt, cases_order, true≢false}
use Rattle.nc_diagram.specs.declared.node.Node.{Node}
use Rattle.nc_diagram.specs.Sets.{Members, has, fixing, below, Same}
use Rattle.nc_diagram.specs.Diagrams.{Belongs, meaning, level, IsReduced}
use Rattle.nc_diagram.specs.Places.{node_at, IsNodeAt}
use Rattle.nc_diagram.proofs.SetLemmas.{length-below, has-fixing-below, has-fixing-above, fixing-fixing-shorter}
use Rattle.nc_diagram.proofs.DiagramLemmas.{meaning-false, meaning-true, level-constant, node_at-some, IsNodeAt-found, node_at-unique}

empty : Members
empty = record { places = []; rest = false }

-- a reference is a constant or a node's
pub cases_reference : (nodes : List Node) → IsReduced nodes → (r : ℕ) → Belongs nodes r → (r < 2) ⊎ ((n : Node) × IsNodeAt nodes r n)
cases_reference nodes o r b =
    elim (cases_lt r 2) [
      | inl h ↦ inl h
      | inr h ↦ (let n = node_at-some nodes r h b in inr (n.0, IsNodeAt-found nodes o r n.0 n.1))
    ]

-- the end of a node on one side
abbrev pub end_of : Node → Bool → ℕ
end_of n b = if b then n.high else n.low

pub end-older : (nodes : List Node) (r : ℕ) (n : Node) → IsNodeAt nodes r n → (b : Bool) → end_of n b < r
end-older nodes r n h true = h.high_older
end-older nodes r n h false = h.low_older

pub end-later : (nodes : List Node) (r : ℕ) (n : Node) → IsNodeAt nodes r n → (b : Bool) → n.variable < level nodes (end_of n b)
end-later nodes r n h true = h.high_later
end-later nodes r n h false = h.low_later

pub end-value : (nodes : List Node) (r : ℕ) (n : Node) → IsNodeAt nodes r n → (s : Members) → meaning nodes r s ≡ meaning nodes (end_of n (has s n.variable)) s
end-value nodes r n h s = h.value s

-- a constant has one value
pub constant_agrees : (nodes : List Node) (r : ℕ) → r < 2 → (s t : Members) → meaning nodes r s ≡ meaning nodes r t
constant_agrees nodes zero h s t = meaning-false nodes s ∙ sym (meaning-false nodes t)
constant_agrees nodes (suc zero) h s t = meaning-true nodes s ∙ sym (meaning-true nodes t)
constant_agrees nodes (suc (suc r)) h s t = absurd (omega arith)

-- a function asks for no variable above its level
agree_to : (fuel : ℕ) (nodes : List Node) → IsReduced nodes → (r : ℕ) → r < fuel → Belongs nodes r → (s t : Members) → ((v : ℕ) → level nodes r ≤ v → has s v ≡ has t v) → meaning nodes r s ≡ meaning nodes r t
agree_to zero nodes o r f b s t same = absurd (omega arith)
agree_to (suc fuel) nodes o r f b s t same =
    elim (cases_reference nodes o r b) [
      | inl h ↦ constant_agrees nodes r h s t
      | inr m ↦
          (let n = m.0 in
          let h = m.1 in
          let here : has s n.variable ≡ has t n.variable = same n.variable (omega (arith, h.asks)) in
          let e = end_of n (has s n.variable) in
          let older = end-older nodes r n h (has s n.variable) in
          let later = end-later nodes r n h (has s n.variable) in
          end-value nodes r n h s
          ∙ agree_to fuel nodes o e (omega (arith, older)) (omega (arith, older)) s t (λ v l. same v (omega (arith, later, h.asks)))
          ∙ ap (λ c. meaning nodes (end_of n c) t) here
          ∙ sym (end-value nodes r n h t))
    ]

pub meaning-agree : (nodes : List Node) → IsReduced nodes → (r : ℕ) → Belongs nodes r → (s t : Members) → ((v : ℕ) → level nodes r ≤ v → has s v ≡ has t v) → meaning nodes r s ≡ meaning nodes r t
meaning-agree nodes o r b s t same = agree_to (suc r) nodes o r (omega arith) b s t same

-- fixing variables above its level leaves a function's value
pub meaning-fixing_above : (nodes : List Node) → IsReduced nodes → (r : ℕ) → Belongs nodes r → (v : ℕ) → v < level nodes r → (b : Bool) (s : Members) → meaning nodes r (fixing (below v b) s) ≡ meaning nodes r s
meaning-fixing_above nodes o r h v l b s = meaning-agree nodes o r h (fixing (below v b) s) s (λ w above. has-fixing-above v b s w (omega arith))

-- an end is the function with the node's variable fixed
pub meaning-end : (nodes : List Node) → IsReduced nodes → (r : ℕ) (n : Node) → IsNodeAt nodes r n → (b : Bool) (s : Members) → meaning nodes r (fixing (below n.variable b) s) ≡ meaning nodes (end_of n b) s
meaning-end nodes o r n h b s =
    let older = end-older nodes r n h b in
    let within : Belongs nodes (end_of n b) = omega (arith, older, h.belongs) in
    end-value nodes r n h (fixing (below n.variable b) s)
    ∙ ap (λ c. meaning nodes (end_of n c) (fixing (below n.variable b) s)) (has-fixing-below n.variable b s)
    ∙ meaning-fixing_above nodes o (end_of n b) within n.variable (end-later nodes r n h b) b s

pub same_node : (n m : Node) → n.variable ≡ m.variable → n.low ≡ m.low → n.high ≡ m.high → n ≡ m
same_node n m v l h = λ i. record { variable = v i; low = l i; high = h i }

low-high : (n : Node) (t : ℕ) → end_of n false ≡ t → end_of n true ≡ t → n.low ≡ n.high
low-high n t low high = low ∙ sym high

ends_low : (n m : Node) → end_of n false ≡ end_of m false → n.low ≡ m.low
ends_low n m e = e

ends_high : (n m : Node) → end_of n true ≡ end_of m true → n.high ≡ m.high
ends_high n m e = e

same_constants : (nodes : List Node) (p q : ℕ) → p < 2 → q < 2 → Same (meaning nodes p) (meaning nodes q) → p ≡ q
same_constants nodes zero zero h k same = refl
same_constants nodes (suc zero) (suc zero) h k same = refl
same_constants nodes zero (suc zero) h k same = absurd (true≢false (sym (meaning-true nodes empty) ∙ sym (same empty) ∙ meaning-false nodes empty))
same_constants nodes (suc zero) zero h k same = absurd (true≢false (sym (meaning-true nodes empty) ∙ same empty ∙ meaning-false nodes empty))
same_constants nodes zero (suc (suc q)) h k same = absurd (omega arith)
same_constants nodes (suc zero) (suc (suc q)) h k same = absurd (omega arith)
same_constants nodes (suc (suc p)) q h k same = absurd (omega arith)

-- canonicity, by induction on the sum of the two references
canonical_to : (fuel : ℕ) (nodes : List Node) → IsReduced nodes → (p q : ℕ) → p + q < fuel → Belongs nodes p → Belongs nodes q → Same (meaning nodes p) (meaning nodes q) → p ≡ q
canonical_to zero nodes o p q f b c same = absurd (omega arith)
canonical_to (suc fuel) nodes o p q f b c same =
    let above : (r t : ℕ) → r + t ≡ p + q → Belongs nodes r → Belongs nodes t → Same (meaning nodes r) (meaning nodes t) → (n : Node) → IsNodeAt nodes r n → n.variable < level nodes t → ⊥ =
    λ r t sum rb tb alike n h l.
    let one : (side : Bool) → end_of n side ≡ t =
    λ side.
    let older = end-older nodes r n h side in
    canonical_to fuel nodes o (end_of n side) t (omega (arith, older)) (omega (arith, older)) tb
    (λ s. sym (meaning-end nodes o r n h side s) ∙ alike (fixing (below n.variable side) s) ∙ meaning-fixing_above nodes o t tb n.variable l side s) in
    h.ends_differ (low-high n t (one false) (one true)) in
    elim (cases_reference nodes o p b) [
      | inl h ↦
          elim (cases_reference nodes o q c) [
            | inl k ↦ same_constants nodes p q h k same
            | inr m ↦ absurd (above q p (omega arith) c b (λ s. sym (same s)) m.0 m.1 (omega (arith, m.1.narrow, level-constant nodes p h)))
          ]
      | inr n ↦
          elim (cases_reference nodes o q c) [
            | inl k ↦ absurd (above p q refl b c same n.0 n.1 (omega (arith, n.1.narrow, level-constant nodes q k)))
            | inr m ↦
                elim (cases_order n.0.variable m.0.variable) [
                  | inl e ↦
                      (let side : (b : Bool) → end_of n.0 b ≡ end_of m.0 b =
                      λ b.
                      let n_older = end-older nodes p n.0 n.1 b in
                      let m_older = end-older nodes q m.0 m.1 b in
                      canonical_to fuel nodes o (end_of n.0 b) (end_of m.0 b) (omega (arith, n_older, m_older)) (omega (arith, n_older)) (omega (arith, m_older))
                      (λ s. sym (meaning-end nodes o p n.0 n.1 b s) ∙ same (fixing (below n.0.variable b) s) ∙ ap (λ v. meaning nodes q (fixing (below v b) s)) e ∙ meaning-end nodes o q m.0 m.1 b s) in
                      let alike : n.0 ≡ m.0 = same_node n.0 m.0 e (ends_low n.0 m.0 (side false)) (ends_high n.0 m.0 (side true)) in
                      node_at-unique nodes o p q m.0 (subst (λ k. node_at nodes p ≡ Some k) alike n.1.found) m.1.found)
                  | inr either ↦
                      elim either [
                        | inl l ↦ absurd (above p q refl b c same n.0 n.1 (omega (arith, m.1.asks)))
                        | inr l ↦ absurd (above q p (omega arith) c b (λ s. sym (same s)) m.0 m.1 (omega (arith, n.1.asks)))
                      ]
                ]
          ]
    ]

pub canonical : (nodes : List Node) → IsReduced nodes → (p q : ℕ) → Belongs nodes p → Belongs nodes q → Same (meaning nodes p) (meaning nodes q) → p ≡ q
canonical nodes o p q b c same = canonical_to (suc (p + q)) nodes o p q (omega arith) b c same

-- no node is a constant function
pub node_varies : (nodes : List Node) → IsReduced nodes → (r : ℕ) → 2 ≤ r → Belongs nodes r → (b : Bool) → Same (meaning nodes r) (λ _. b) → ⊥
node_varies nodes o r two h true same = let e : r ≡ 1 = canonical nodes o r 1 h (omega arith) (λ s. same s ∙ sym (meaning-true nodes s)) in omega arith
node_varies nodes o r two h false same = let e : r ≡ 0 = canonical nodes o r 0 h (omega arith) (λ s. same s ∙ sym (meaning-false nodes s)) in omega arith

-- a reference whose function has its lowest variables fixed asks for none of them
pub level-fixed : (nodes : List Node) → IsReduced nodes → (r : ℕ) → Belongs nodes r → (f : Members → Bool) (lowest : List Bool) → length lowest ≤ 2 ^ 32 → Same (meaning nodes r) (λ s. f (fixing lowest s)) → length lowest ≤ level nodes r
level-fixed nodes o r b f lowest narrow same =
    elim (cases_reference nodes o r b) [
      | inl h ↦ omega (arith, level-constant nodes r h)
      | inr m ↦
          (let n = m.0 in
          let h = m.1 in
          elim (cases_lt n.variable (length lowest)) [
            | inl l ↦
                (let side : (c : Bool) → Same (meaning nodes (end_of n c)) (meaning nodes r) =
                λ c s.
                sym (meaning-end nodes o r n h c s)
                ∙ same (fixing (below n.variable c) s)
                ∙ ap f (fixing-fixing-shorter lowest (below n.variable c) s (omega (arith, length-below n.variable c)))
                ∙ sym (same s) in
                let low = end-older nodes r n h false in
                let high = end-older nodes r n h true in
                let one : end_of n false ≡ end_of n true =
                canonical nodes o (end_of n false) (end_of n true) (omega (arith, low)) (omega (arith, high)) (λ s. side false s ∙ sym (side true s)) in
                absurd (h.ends_differ (low-high n (end_of n true) one refl)))
            | inr l ↦ omega (arith, h.asks)
          ])
    ]
