-- What a node's reference means, and that references keep their functions while nodes are added.
use Rattle.std.proofs.Common.{◌≡◌, ℕ, zero, suc, ◌+◌, ◌^◌, ◌<◌, ◌≤◌, Bool, true, false, cond, List, [], ◌∷◌, length, Some, Contains, refl, sym, ap, subst, ◌∙◌, inl, inr, arith, eq-eqb, ne_eqb, if◌then◌else◌, ◌==◌}
use Rattle.std.proofs.lemmas.Bool.{cases_eq, cond-true, cond-false}
use Rattle.nc_diagram.specs.declared.node.Node.{Node}
use Rattle.nc_diagram.specs.Sets.{Members, has}
use Rattle.nc_diagram.specs.Diagrams.{Belongs, meaning, level, IsNode, IsReduced}
use Rattle.nc_diagram.specs.Places.{node_at, IsNodeAt}

-- a new node leaves the functions, levels and nodes of the others
pub meaning-keep : (n : Node) (older : List Node) (r : ℕ) → Belongs older r → (s : Members) → meaning (n ∷ older) r s ≡ meaning older r s
unfolding meaning
meaning-keep n older r b s =
    let e : r == length older + 2 ≡ false = ne_eqb r (length older + 2) (λ h. omega arith) in
    cond-false (r == length older + 2) _ _ e

pub level-keep : (n : Node) (older : List Node) (r : ℕ) → Belongs older r → level (n ∷ older) r ≡ level older r
unfolding level
level-keep n older r b =
    let e : r == length older + 2 ≡ false = ne_eqb r (length older + 2) (λ h. omega arith) in
    cond-false (r == length older + 2) _ _ e

pub node_at-keep : (n : Node) (older : List Node) (r : ℕ) → Belongs older r → node_at (n ∷ older) r ≡ node_at older r
unfolding node_at
node_at-keep n older r b =
    let e : r == length older + 2 ≡ false = ne_eqb r (length older + 2) (λ h. omega arith) in
    cond-false (r == length older + 2) _ _ e

-- the newest node
pub meaning-newest : (n : Node) (older : List Node) (s : Members) → meaning (n ∷ older) (length older + 2) s ≡ meaning older (if has s n.variable then n.high else n.low) s
unfolding meaning
meaning-newest n older s = cond-true (length older + 2 == length older + 2) _ _ (eq-eqb (length older + 2) (length older + 2) refl)

pub level-newest : (n : Node) (older : List Node) → level (n ∷ older) (length older + 2) ≡ n.variable
unfolding level
level-newest n older = cond-true (length older + 2 == length older + 2) _ _ (eq-eqb (length older + 2) (length older + 2) refl)

pub node_at-newest : (n : Node) (older : List Node) → node_at (n ∷ older) (length older + 2) ≡ Some n
unfolding node_at
node_at-newest n older = cond-true (length older + 2 == length older + 2) _ _ (eq-eqb (length older + 2) (length older + 2) refl)

-- the constants
pub meaning-false : (nodes : List Node) (s : Members) → meaning nodes 0 s ≡ false
unfolding meaning
meaning-false [] s = refl
meaning-false (n ∷ older) s = meaning-keep n older 0 (omega arith) s ∙ meaning-false older s

pub meaning-true : (nodes : List Node) (s : Members) → meaning nodes 1 s ≡ true
unfolding meaning
meaning-true [] s = refl
meaning-true (n ∷ older) s = meaning-keep n older 1 (omega arith) s ∙ meaning-true older s

pub level-constant : (nodes : List Node) (r : ℕ) → r < 2 → level nodes r ≡ 2 ^ 32
unfolding level
level-constant [] r h = refl
level-constant (n ∷ older) r h = level-keep n older r (omega arith) ∙ level-constant older r h

-- no level is past that of the constants
pub level-narrow : (nodes : List Node) → IsReduced nodes → (r : ℕ) → level nodes r ≤ 2 ^ 32
unfolding level IsReduced
level-narrow [] o r = omega arith
level-narrow (n ∷ older) o r =
    elim (r == length older + 2) as (λ b. cond b n.variable (level older r) ≤ 2 ^ 32) [
      | true ↦ (let h : level older n.low ≤ 2 ^ 32 = level-narrow older o.1 n.low in omega (arith, o.0.low_later))
      | false ↦ level-narrow older o.1 r
    ]

-- a reference that is no constant has a node
pub node_at-some : (nodes : List Node) (r : ℕ) → 2 ≤ r → Belongs nodes r → (n : Node) × (node_at nodes r ≡ Some n)
unfolding node_at
node_at-some [] r low b = absurd (omega arith)
node_at-some (n ∷ older) r low b =
    elim (cases_eq r (length older + 2)) [
      | inl e ↦ (n, ap (node_at (n ∷ older)) e ∙ node_at-newest n older)
      | inr ne ↦
          (let within : Belongs older r = omega arith in
          let m = node_at-some older r low within in
          (m.0, node_at-keep n older r within ∙ m.1))
    ]

pub node_at-belongs : (nodes : List Node) (r : ℕ) (n : Node) → node_at nodes r ≡ Some n → (2 ≤ r) × Belongs nodes r
unfolding node_at
node_at-belongs [] r n h = absurd (cc)
node_at-belongs (m ∷ older) r n h =
    elim (cases_eq r (length older + 2)) [
      | inl e ↦ (omega arith, omega arith)
      | inr ne ↦
          (let other : node_at older r ≡ Some n = sym (cond-false (r == length older + 2) (Some m) (node_at older r) (ne_eqb r (length older + 2) ne)) ∙ h in
          let below = node_at-belongs older r n other in
          (below.0, omega (arith, below.1)))
    ]

-- what holds of a node's reference in older nodes holds of it after a new one
IsNodeAt-keep : (m : Node) (older : List Node) (r : ℕ) (n : Node) → IsNodeAt older r n → IsNodeAt (m ∷ older) r n
IsNodeAt-keep m older r n h =
    let low : Belongs older n.low = omega (arith, h.low_older, h.belongs) in
    let high : Belongs older n.high = omega (arith, h.high_older, h.belongs) in
    let either : (b : Bool) → Belongs older (if b then n.high else n.low) = λ b. elim b as (λ b. Belongs older (if b then n.high else n.low)) [ true ↦ high | false ↦ low ] in
    record {
      node = h.node;
      belongs = omega (arith, h.belongs);
      low_older = h.low_older;
      high_older = h.high_older;
      narrow = h.narrow;
      asks = level-keep m older r h.belongs ∙ h.asks;
      low_later = omega (arith, level-keep m older n.low low, h.low_later);
      high_later = omega (arith, level-keep m older n.high high, h.high_later);
      ends_differ = h.ends_differ;
      value = λ s. meaning-keep m older r h.belongs s ∙ h.value s ∙ sym (meaning-keep m older (if has s n.variable then n.high else n.low) (either (has s n.variable)) s);
      found = node_at-keep m older r h.belongs ∙ h.found;
    }

-- what holds of the newest node's reference
IsNodeAt-newest : (n : Node) (older : List Node) → IsReduced older → IsNode older n → IsNodeAt (n ∷ older) (length older + 2) n
IsNodeAt-newest n older o h =
    let either : (b : Bool) → Belongs older (if b then n.high else n.low) = λ b. elim b as (λ b. Belongs older (if b then n.high else n.low)) [ true ↦ h.high_older | false ↦ h.low_older ] in
    record {
      node = omega arith;
      belongs = omega arith;
      low_older = h.low_older;
      high_older = h.high_older;
      narrow = omega (arith, h.low_later, level-narrow older o n.low);
      asks = level-newest n older;
      low_later = omega (arith, level-keep n older n.low h.low_older, h.low_later);
      high_later = omega (arith, level-keep n older n.high h.high_older, h.high_later);
      ends_differ = h.ends_differ;
      value = λ s. meaning-newest n older s ∙ sym (meaning-keep n older (if has s n.variable then n.high else n.low) (either (has s n.variable)) s);
      found = node_at-newest n older;
    }

-- what holds of the reference of a node
pub IsNodeAt-found : (nodes : List Node) → IsReduced nodes → (r : ℕ) (n : Node) → node_at nodes r ≡ Some n → IsNodeAt nodes r n
unfolding node_at IsReduced
IsNodeAt-found [] o r n h = absurd (cc)
IsNodeAt-found (m ∷ older) o r n h =
    elim (cases_eq r (length older + 2)) [
      | inl e ↦
          (let same : m ≡ n = (let k : Some m ≡ Some n = sym (cond-true (r == length older + 2) (Some m) (node_at older r) (eq-eqb r (length older + 2) e)) ∙ h in cc) in
          subst (λ k. IsNodeAt (m ∷ older) r k) same (subst (λ k. IsNodeAt (m ∷ older) k m) (sym e) (IsNodeAt-newest m older o.1 o.0)))
      | inr ne ↦
          (let other : node_at older r ≡ Some n = sym (cond-false (r == length older + 2) (Some m) (node_at older r) (ne_eqb r (length older + 2) ne)) ∙ h in
          IsNodeAt-keep m older r n (IsNodeAt-found older o.1 r n other))
    ]

-- a node that is found is among the nodes
pub Contains-found : (nodes : List Node) (r : ℕ) (n : Node) → node_at nodes r ≡ Some n → Contains nodes n
unfolding node_at
Contains-found [] r n h = absurd (cc)
Contains-found (m ∷ older) r n h =
    elim (cases_eq r (length older + 2)) [
      | inl e ↦
          (let same : m ≡ n = (let k : Some m ≡ Some n = sym (cond-true (r == length older + 2) (Some m) (node_at older r) (eq-eqb r (length older + 2) e)) ∙ h in cc) in
          (0, omega arith, same))
      | inr ne ↦
          (let other : node_at older r ≡ Some n = sym (cond-false (r == length older + 2) (Some m) (node_at older r) (ne_eqb r (length older + 2) ne)) ∙ h in
          let c = Contains-found older r n other in
          (suc c.0, omega (arith, c.1), c.2))
    ]

-- no two references are those of one node
pub node_at-unique : (nodes : List Node) → IsReduced nodes → (r q : ℕ) (n : Node) → node_at nodes r ≡ Some n → node_at nodes q ≡ Some n → r ≡ q
unfolding node_at IsReduced
node_at-unique [] o r q n h k = absurd (cc)
node_at-unique (m ∷ older) o r q n h k =
    let same : (p : ℕ) → p ≡ length older + 2 → node_at (m ∷ older) p ≡ Some n → m ≡ n = λ p e f. (let g : Some m ≡ Some n = sym (cond-true (p == length older + 2) (Some m) (node_at older p) (eq-eqb p (length older + 2) e)) ∙ f in cc) in
    let other : (p : ℕ) → (p ≡ length older + 2 → ⊥) → node_at (m ∷ older) p ≡ Some n → node_at older p ≡ Some n = λ p ne f. sym (cond-false (p == length older + 2) (Some m) (node_at older p) (ne_eqb p (length older + 2) ne)) ∙ f in
    elim (cases_eq r (length older + 2)) [
      | inl e ↦
          elim (cases_eq q (length older + 2)) [
            | inl f ↦ e ∙ sym f
            | inr f ↦ absurd (o.0.fresh (subst (Contains older) (sym (same r e h)) (Contains-found older q n (other q f k))))
          ]
      | inr e ↦
          elim (cases_eq q (length older + 2)) [
            | inl f ↦ absurd (o.0.fresh (subst (Contains older) (sym (same q f k)) (Contains-found older r n (other r e h))))
            | inr f ↦ node_at-unique older o.1 r q n (other r e h) (other q f k)
          ]
    ]

-- a constant's value
pub meaning-constant : (nodes : List Node) (r : ℕ) → r < 2 → (s : Members) → meaning nodes r s ≡ (r == 1)
meaning-constant nodes zero h s = meaning-false nodes s
meaning-constant nodes (suc zero) h s = meaning-true nodes s
meaning-constant nodes (suc (suc r)) h s = absurd (omega arith)
