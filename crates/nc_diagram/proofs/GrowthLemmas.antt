-- Nodes that are added keep all functions, are parts of the result, and show that a full store is crowded.
use Rattle.std.proofs.Common.{◌≡◌, ℕ, zero, suc, ◌+◌, ◌-◌, ◌<◌, ◌≤◌, Bool, true, false, List, [], ◌∷◌, ◌++◌, length, get_or, refl, sym, ap, subst, ◌∙◌, inl, inr, ◌⊎◌, arith, if◌then◌else◌}
use Rattle.std.proofs.lemmas.Bool.{cases_lt}
use Rattle.nc_diagram.specs.declared.node.Node.{Node}
use Rattle.nc_diagram.specs.Sets.{Members, has, Same, IsNotConstant, IsLowestFixed}
use Rattle.nc_diagram.specs.Diagrams.{Diagrams, Belongs, meaning, IsReduced, IsNode, Adds, IsHeld, IsCrowded}
use Rattle.nc_diagram.specs.Places.{Makes}
use Rattle.nc_diagram.proofs.DiagramLemmas.{meaning-keep, meaning-newest}
use Rattle.nc_diagram.proofs.Canonicity.{canonical, node_varies}

-- the references of some nodes belong and mean the same in others
abbrev pub Keeps : List Node → List Node → Type 0
Keeps now new = (r : ℕ) → Belongs now r → Belongs new r × Same (meaning new r) (meaning now r)

pub Keeps-added : (added older : List Node) → Keeps older (added ++ older)
Keeps-added [] older r b = (b, λ s. refl)
Keeps-added (n ∷ added) older r b =
    let k = Keeps-added added older r b in
    (omega (arith, k.0), λ s. meaning-keep n (added ++ older) r k.0 s ∙ k.1 s)

pub Keeps-adds : (f : Members → Bool) (old new : Diagrams) → Adds f old new → Keeps old.nodes new.nodes
Keeps-adds f old new a = a.unchanged

pub Keeps-makes : (v l h : ℕ) (now new : Diagrams) (r : ℕ) → Makes v l h now new r → Keeps now.nodes new.nodes
Keeps-makes v l h now new r m =
    elim m.nodes [
      | inl e ↦ subst (Keeps now.nodes) (sym e) (Keeps-added [] now.nodes)
      | inr e ↦ subst (Keeps now.nodes) (sym e) (Keeps-added (record { variable = v; low = l; high = h } ∷ []) now.nodes)
    ]

-- a part stays one under another name
pub IsLowestFixed-same : (f g h : Members → Bool) → IsLowestFixed f g → Same h g → IsLowestFixed f h
IsLowestFixed-same f g h p e = (p.0, λ s. e s ∙ p.1 s)

pub Adds-none : (f : Members → Bool) (old : Diagrams) → Adds f old old
Adds-none f old = record { same_limit = refl; kept = ([], refl); unchanged = Keeps-added [] old.nodes; parts = λ r low high. absurd (omega arith) }

-- one more node that is a part
pub Adds-makes : (f : Members → Bool) (old now new : Diagrams) (v l h r : ℕ) → Adds f old now → Makes v l h now new r → IsLowestFixed f (meaning new.nodes r) → Adds f old new
Adds-makes f old now new v l h r a m part =
    let keeps = Keeps-makes v l h now new r m in
    let n : Node = record { variable = v; low = l; high = h } in
    let earlier : (q : ℕ) → length old.nodes + 2 ≤ q → Belongs now.nodes q → IsLowestFixed f (meaning new.nodes q) =
    λ q low high. IsLowestFixed-same f (meaning now.nodes q) (meaning new.nodes q) (a.parts q low high) (keeps q high).1 in
    record {
      same_limit = m.same_limit ∙ a.same_limit;
      kept = elim m.nodes [ inl e ↦ (a.kept.0, e ∙ a.kept.1) | inr e ↦ (n ∷ a.kept.0, e ∙ ap (λ ns. n ∷ ns) a.kept.1) ];
      unchanged = λ q b. (let first = a.unchanged q b in let then_ = keeps q first.0 in (then_.0, λ s. then_.1 s ∙ first.1 s));
      parts = λ q low high.
          elim (cases_lt q (length now.nodes + 2)) [
            | inl h ↦ earlier q low h
            | inr h ↦
                elim m.nodes [
                  | inl e ↦ absurd (omega (arith, ap length e))
                  | inr e ↦
                      (let last : q ≡ length now.nodes + 2 = omega (arith, ap length e) in
                      let alike : Same (meaning new.nodes q) (meaning new.nodes r) =
                      λ s.
                      ap (λ p. meaning new.nodes p s) last
                      ∙ ap (λ ns. meaning ns (length now.nodes + 2) s) e
                      ∙ meaning-newest n now.nodes s
                      ∙ choice now.nodes (has s v) n.high n.low s
                      ∙ sym (m.value s) in
                      IsLowestFixed-same f (meaning new.nodes r) (meaning new.nodes q) part alike)
                ]
          ];
    }
  where
    choice : (nodes : List Node) (b : Bool) (high low : ℕ) (s : Members) → meaning nodes (if b then high else low) s ≡ (if b then meaning nodes high s else meaning nodes low s)
    choice nodes true high low s = refl
    choice nodes false high low s = refl

-- the functions of the references from 2 on
meanings : List Node → ℕ → List (Members → Bool)
meanings nodes zero = []
meanings nodes (suc k) = meaning nodes (k + 2) ∷ meanings nodes k

length-meanings : (nodes : List Node) (k : ℕ) → length (meanings nodes k) ≡ k
unfolding meanings
length-meanings nodes zero = refl
length-meanings nodes (suc k) = ap suc (length-meanings nodes k)

get_or-meanings : (nodes : List Node) (k i : ℕ) (d : Members → Bool) → i < k → get_or (meanings nodes k) i d ≡ meaning nodes ((k - 1 - i) + 2)
unfolding meanings
get_or-meanings nodes zero i d h = absurd (omega arith)
get_or-meanings nodes (suc k) zero d h = let e : k ≡ suc k - 1 - 0 = omega arith in ap (λ j. meaning nodes (j + 2)) e
get_or-meanings nodes (suc k) (suc i) d h = let e : k - 1 - i ≡ suc k - 1 - suc i = omega arith in get_or-meanings nodes k i d (omega arith) ∙ ap (λ j. meaning nodes (j + 2)) e

-- a store with no room for a further part is crowded
pub IsCrowded-full : (f : Members → Bool) (old now : Diagrams) (n : Node) → Adds f old now → IsReduced now.nodes → now.limit ≤ length now.nodes → IsNode now.nodes n → IsLowestFixed f (meaning (n ∷ now.nodes) (length now.nodes + 2)) → IsCrowded f old
unfolding IsReduced
IsCrowded-full f old now n a o full node part =
    let all : List Node = n ∷ now.nodes in
    let reduced : IsReduced all = (node, o) in
    let count : ℕ = length now.nodes + 1 in
    let many = length-meanings all count in
    let place : ℕ → ℕ = λ i. (count - 1 - i) + 2 in
    record {
      functions = meanings all count;
      more = omega (arith, a.same_limit);
      distinct = λ i j d less within.
          rw (get_or-meanings all count i d (omega arith), get_or-meanings all count j d (omega arith))
          (λ same. let e : place i ≡ place j = canonical all reduced (place i) (place j) (omega arith) (omega arith) same in omega arith);
      not_constant = λ i d within.
          subst IsNotConstant (sym (get_or-meanings all count i d (omega arith)))
          (node_varies all reduced (place i) (omega arith) (omega arith));
      each = λ i d within.
          subst (λ g. IsHeld old.nodes g ⊎ IsLowestFixed f g) (sym (get_or-meanings all count i d (omega arith)))
          (member all (place i) (omega arith) (omega arith));
    }
  where
    member : (all : List Node) → (r : ℕ) → 2 ≤ r → r < length now.nodes + 3 → IsHeld old.nodes (meaning (n ∷ now.nodes) r) ⊎ IsLowestFixed f (meaning (n ∷ now.nodes) r)
    member all r two within =
        elim (cases_lt r (length old.nodes + 2)) [
          | inl early ↦
              (let k = Keeps-adds f old now a r early in
              inl (r, two, early, λ s. meaning-keep n now.nodes r k.0 s ∙ k.1 s))
          | inr late ↦
              elim (cases_lt r (length now.nodes + 2)) [
                | inl inside ↦ inr (IsLowestFixed-same f (meaning now.nodes r) (meaning (n ∷ now.nodes) r) (a.parts r late inside) (λ s. meaning-keep n now.nodes r inside s))
                | inr last ↦ (let e : r ≡ length now.nodes + 2 = omega arith in inr (subst (λ q. IsLowestFixed f (meaning (n ∷ now.nodes) q)) (sym e) part))
              ]
        ]
