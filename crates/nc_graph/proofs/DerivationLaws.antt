-- The laws of derivations over a flow graph.
use Rattle.std.proofs.Common.{◌≡◌, ◌↔◌, ℕ, suc, zero, ◌<◌, inl, inr, Bool, true, false, not, cond, ◌||◌, ◌&&◌, List, [], ◌∷◌, length, map, Some, None, slice_get, nat_eq, nat_lt, sym, ap, ◌∙◌, subst, refl, arith}
use Rattle.std.proofs.lemmas.Bool.{false≢true, lt-ltb, ltb-true, eqb-true, eq-eqb, not-true}
use Rattle.std.specs.List.{list_any, list_all, flat_map}
use Rattle.std.specs.Map.{lookup}
use Rattle.std.specs.Option.{option_map_or}
use Rattle.nc_graph.specs.declared.node.NodeKind.{NodeKind}
use Rattle.nc_graph.specs.declared.node.NodeKind.TheVariants.{Leaf, Every, Any}
use Rattle.nc_graph.specs.Flow.{Flow, IsFlow, by_kind}
use Rattle.nc_graph.specs.Derivation.{Choice, all_but, value_to, value_of, pick, stands, IsStrong, IsInSome, Carries, evaluated, carried, strong, occurs}
use Rattle.nc_graph.proofs.Members.{In, any_in, in_any, all_in, in_all, any_same, all_same, get_in, at_within, in_flat_map, flat_map_in, of_all}

-- `step` looks at the parents alone
abbrev pub IsLocal : {F : Type 0} → Flow F → (F → (F → Bool) → Bool) → Type 0
IsLocal {F} g step = (f : F) (p q : F → Bool) → ((x : F) → In x (g.parents f) → p x ≡ q x) → step f p ≡ step f q

module _ {F : Type 0} (g : Flow F) (law : IsFlow g) where
  pub parent_holds : (f p : F) → g.holds f ≡ true → In p (g.parents f) → g.holds p ≡ true
  parent_holds f p h i = (of_all (λ p. (g.holds p ≡ true) × (g.rank p < g.rank f)) (g.parents f) p (law.below f h) i).0

  pub parent_lower : (f p : F) → g.holds f ≡ true → In p (g.parents f) → g.rank p < g.rank f
  parent_lower f p h i = (of_all (λ p. (g.holds p ≡ true) × (g.rank p < g.rank f)) (g.parents f) p (law.below f h) i).1

  -- induction: from the parents to the fact
  pub by_rank : (P : F → Type 0) → ((f : F) → g.holds f ≡ true → ((p : F) → In p (g.parents f) → P p) → P f) → (f : F) → g.holds f ≡ true → P f
  by_rank P step f h = to (suc (g.rank f)) f (omega arith) h
    where
      to : (n : ℕ) (f : F) → g.rank f < n → g.holds f ≡ true → P f
      to zero f l h = absurd (omega arith)
      to (suc n) f l h = step f h (λ p i. let low = parent_lower f p h i in to n p (omega arith) (parent_holds f p h i))

  module _ (step : F → (F → Bool) → Bool) (local : IsLocal g step) where
    -- a value is the same at all depths past the rank
    value_to-past : (n m : ℕ) (f : F) → g.holds f ≡ true → g.rank f < n → g.rank f < m → value_to step n f ≡ value_to step m f
    value_to-past zero m f h l k = absurd (omega arith)
    value_to-past (suc n) zero f h l k = absurd (omega arith)
    value_to-past (suc n) (suc m) f h l k =
        local f (value_to step n) (value_to step m) (λ x i.
        let low = parent_lower f x h i in
        value_to-past n m x (parent_holds f x h i) (omega arith) (omega arith))

    -- the value of a fact from those of its parents
    pub value_of-step : (f : F) → g.holds f ≡ true → value_of g step f ≡ step f (value_of g step)
    unfolding value_of
    value_of-step f h =
        local f (value_to step (g.rank f)) (λ x. value_to step (suc (g.rank x)) x) (λ x i.
        let low = parent_lower f x h i in
        value_to-past (g.rank f) (suc (g.rank x)) x (parent_holds f x h i) low (omega arith))

-- a test of a list that looks at its elements alone
abbrev pub IsByElements : {F : Type 0} → ((F → Bool) → List F → Bool) → Type 0
IsByElements {F} t = (p q : F → Bool) (xs : List F) → ((x : F) → In x xs → p x ≡ q x) → t p xs ≡ t q xs

by_kind-same : (k : NodeKind) (leaf : ℕ → Bool) (a b c d : Bool) → a ≡ b → c ≡ d → by_kind k leaf a c ≡ by_kind k leaf b d
by_kind-same k leaf a b c d e s = ap (λ v. by_kind k leaf v c) e ∙ ap (λ v. by_kind k leaf b v) s

picked_same : {F : Type 0} (p q : F → Bool) (xs : List F) (n : ℕ) → ((x : F) → In x xs → p x ≡ q x) → option_map_or p (slice_get xs n) false ≡ option_map_or q (slice_get xs n) false
picked_same p q xs n h =
    elim (slice_get xs n) as (λ o. slice_get xs n ≡ o → option_map_or p o false ≡ option_map_or q o false)
    [ None ↦ λ e. refl | Some x ↦ λ e. h x (get_in xs n x e) ] refl

module _ {F : Type 0} (g : Flow F) (law : IsFlow g) where
  evaluated-step : (leaf : ℕ → Bool) (every any : (F → Bool) → List F → Bool) → IsByElements every → IsByElements any → (f : F) → g.holds f ≡ true
      → evaluated g leaf every any f ≡ by_kind (g.kind f) leaf (every (evaluated g leaf every any) (g.parents f)) (any (evaluated g leaf every any) (g.parents f))
  evaluated-step leaf every any he ha f h =
      value_of-step g law (λ f below. by_kind (g.kind f) leaf (every below (g.parents f)) (any below (g.parents f)))
      (λ f p q s. by_kind-same (g.kind f) leaf _ _ _ _ (he p q (g.parents f) s) (ha p q (g.parents f) s)) f h

  pub carried-step : (x : ℕ → Bool) (f : F) → g.holds f ≡ true → carried g x f ≡ by_kind (g.kind f) x (list_all (carried g x) (g.parents f)) (list_any (carried g x) (g.parents f))
  unfolding carried
  carried-step x f h = evaluated-step x list_all list_any all_same any_same f h

  pub strong-step : (e : ℕ) (f : F) → g.holds f ≡ true → strong g e f ≡ by_kind (g.kind f) (nat_eq e) (list_any (strong g e) (g.parents f)) (list_all (strong g e) (g.parents f))
  unfolding strong
  strong-step e f h = evaluated-step (nat_eq e) list_any list_all any_same all_same f h

  pub occurs-step : (e : ℕ) (f : F) → g.holds f ≡ true → occurs g e f ≡ by_kind (g.kind f) (nat_eq e) (list_any (occurs g e) (g.parents f)) (list_any (occurs g e) (g.parents f))
  unfolding occurs
  occurs-step e f h = evaluated-step (nat_eq e) list_any list_any any_same any_same f h

  pub stands-step : (e : ℕ) (c : Choice F) (f : F) → g.holds f ≡ true
      → stands g e c f ≡ by_kind (g.kind f) (nat_eq e) (list_any (stands g e c) (g.parents f)) (option_map_or (stands g e c) (slice_get (g.parents f) (pick g c f)) false)
  unfolding stands
  stands-step e c f h =
      value_of-step g law (λ f below. by_kind (g.kind f) (nat_eq e) (list_any below (g.parents f)) (option_map_or below (slice_get (g.parents f) (pick g c f)) false))
      (λ f p q s. by_kind-same (g.kind f) (nat_eq e) _ _ _ _ (any_same p q (g.parents f) s) (picked_same p q (g.parents f) (pick g c f) s)) f h

  -- the place picked is one of the parents
  pub pick-within : (c : Choice F) (f : F) → 0 < length (g.parents f) → pick g c f < length (g.parents f)
  pick-within c f some =
      elim (lookup (g.same f) c) as (λ o. option_map_or (λ n. cond (nat_lt n (length (g.parents f))) n 0) o 0 < length (g.parents f))
      [ None ↦ some | Some n ↦ elim (nat_lt n (length (g.parents f))) as (λ b. nat_lt n (length (g.parents f)) ≡ b → cond b n 0 < length (g.parents f)) [ true ↦ λ e. ltb-true n (length (g.parents f)) e | false ↦ λ e. some ] refl ]

-- the place of the first element that passes
first_place : {X : Type 0} → (X → Bool) → List X → ℕ
first_place p [] = 0
first_place p (x ∷ xs) = cond (p x) 0 (suc (first_place p xs))

-- an element at a place, that passes
abbrev PassesAt : {X : Type 0} → (X → Bool) → List X → ℕ → Type 0
PassesAt {X} p xs n = (x : X) × (slice_get xs n ≡ Some x) × (p x ≡ true)

first_place-passes : {X : Type 0} (p : X → Bool) (xs : List X) → list_any p xs ≡ true → (first_place p xs < length xs) × PassesAt p xs (first_place p xs)
unfolding first_place
first_place-passes p [] h = absurd (false≢true h)
first_place-passes p (y ∷ ys) h =
    elim (p y) as (λ b. p y ≡ b → (b || list_any p ys) ≡ true → (cond b 0 (suc (first_place p ys)) < suc (length ys)) × PassesAt p (y ∷ ys) (cond b 0 (suc (first_place p ys))))
    [ true ↦ λ e w. (omega arith, (y, refl, e)) | false ↦ λ e w. let r = first_place-passes p ys w in (omega (arith, r.0), r.1) ] refl h

module _ {F : Type 0} (g : Flow F) where
  -- the choice that takes at each fact of a list its first parent that passes
  first_choice : (F → Bool) → List F → Choice F
  first_choice p fs = map (λ f. (f, first_place p (g.parents f))) fs

  -- the facts of the list include the parents of each
  abbrev pub IsCovering : List F → Type 0
  IsCovering fs = (f p : F) → In f fs → In p (g.parents f) → In p fs

  -- a fact with all that is reached from it, down to the depth n
  unfoldable pub cover : ℕ → F → List F
  cover zero f = []
  cover (suc n) f = f ∷ flat_map (cover n) (g.parents f)

module _ {F : Type 0} (g : Flow F) (law : IsFlow g) where
  lookup-first_choice : (p : F → Bool) (fs : List F) (f : F) → In f fs → lookup (g.same f) (first_choice g p fs) ≡ Some (first_place p (g.parents f))
  unfolding first_choice
  lookup-first_choice p [] f i = absurd i
  lookup-first_choice p (h ∷ hs) f i =
      elim (g.same f h) as (λ b. g.same f h ≡ b → cond b (Some (first_place p (g.parents h))) (lookup (g.same f) (first_choice g p hs)) ≡ Some (first_place p (g.parents f))) [
        | true ↦ λ e. ap (λ x. Some (first_place p (g.parents x))) (sym ((law.same f h).0 e))
        | false ↦ λ e. elim i [ inl s ↦ absurd (false≢true (sym e ∙ (law.same f h).1 (sym s))) | inr i' ↦ lookup-first_choice p hs f i' ]
      ] refl

  -- at a fact of the list that has such a parent, the choice picks one
  pick-first_choice : (p : F → Bool) (fs : List F) (f : F) → In f fs → list_any p (g.parents f) ≡ true → PassesAt p (g.parents f) (pick g (first_choice g p fs) f)
  pick-first_choice p fs f i some =
      let r = first_place-passes p (g.parents f) some in
      let n = first_place p (g.parents f) in
      let place : pick g (first_choice g p fs) f ≡ n = ap (λ o. option_map_or (λ n. cond (nat_lt n (length (g.parents f))) n 0) o 0) (lookup-first_choice p fs f i) ∙ ap (λ b. cond b n 0) (lt-ltb n (length (g.parents f)) r.0) in
      subst (PassesAt p (g.parents f)) (sym place) r.1

  pub cover-self : (n : ℕ) (f : F) → 0 < n → In f (cover g n f)
  unfolding cover
  cover-self zero f h = absurd (omega arith)
  cover-self (suc n) f h = inl refl

  pub cover-covers : (n : ℕ) (f : F) → g.rank f < n → g.holds f ≡ true → IsCovering g (cover g n f)
  unfolding cover
  cover-covers zero f l h q p i j = absurd i
  cover-covers (suc n) f l h q p i j =
      elim i [
        | inl e ↦ (let j' : In p (g.parents f) = subst (λ w. In p (g.parents w)) (sym e) j in
            let low = parent_lower g law f p h j' in
            inr (in_flat_map (cover g n) (g.parents f) p p j' (cover-self n p (omega arith))))
        | inr i' ↦ (let r = flat_map_in (cover g n) (g.parents f) q i' in
            let low = parent_lower g law f r.0 h r.1 in
            inr (in_flat_map (cover g n) (g.parents f) r.0 p r.1
            (cover-covers n r.0 (omega arith) (parent_holds g law f r.0 h r.1) q p r.2 j)))
      ]

  -- a list of facts that has f and the parents of each
  pub covering : (f : F) → g.holds f ≡ true → (fs : List F) × In f fs × IsCovering g fs
  covering f h = (cover g (suc (g.rank f)) f, cover-self (suc (g.rank f)) f (omega arith), cover-covers (suc (g.rank f)) f (omega arith) h)

-- `strong` is the dual of `carried`
any_not : {X : Type 0} (p : X → Bool) (xs : List X) → list_any (λ x. not (p x)) xs ≡ not (list_all p xs)
any_not p [] = refl
any_not p (y ∷ ys) = elim (p y) as (λ b. (not b || list_any (λ x. not (p x)) ys) ≡ not (b && list_all p ys)) [ true ↦ any_not p ys | false ↦ refl ]

all_not : {X : Type 0} (p : X → Bool) (xs : List X) → list_all (λ x. not (p x)) xs ≡ not (list_any p xs)
all_not p [] = refl
all_not p (y ∷ ys) = elim (p y) as (λ b. (not b && list_all (λ x. not (p x)) ys) ≡ not (b || list_any p ys)) [ true ↦ refl | false ↦ all_not p ys ]

not-not : (b : Bool) → b ≡ not (not b)
not-not true = refl
not-not false = refl

module _ {F : Type 0} (g : Flow F) (law : IsFlow g) where
  -- each evaluation at a fact whose kind is known
  carried-at : (x : ℕ → Bool) (f : F) → g.holds f ≡ true → (k : NodeKind) → g.kind f ≡ k → carried g x f ≡ by_kind k x (list_all (carried g x) (g.parents f)) (list_any (carried g x) (g.parents f))
  carried-at x f h k q = carried-step g law x f h ∙ ap (λ v. by_kind v x (list_all (carried g x) (g.parents f)) (list_any (carried g x) (g.parents f))) q

  strong-at : (e : ℕ) (f : F) → g.holds f ≡ true → (k : NodeKind) → g.kind f ≡ k → strong g e f ≡ by_kind k (nat_eq e) (list_any (strong g e) (g.parents f)) (list_all (strong g e) (g.parents f))
  strong-at e f h k q = strong-step g law e f h ∙ ap (λ v. by_kind v (nat_eq e) (list_any (strong g e) (g.parents f)) (list_all (strong g e) (g.parents f))) q

  occurs-at : (e : ℕ) (f : F) → g.holds f ≡ true → (k : NodeKind) → g.kind f ≡ k → occurs g e f ≡ by_kind k (nat_eq e) (list_any (occurs g e) (g.parents f)) (list_any (occurs g e) (g.parents f))
  occurs-at e f h k q = occurs-step g law e f h ∙ ap (λ v. by_kind v (nat_eq e) (list_any (occurs g e) (g.parents f)) (list_any (occurs g e) (g.parents f))) q

  stands-at : (e : ℕ) (c : Choice F) (f : F) → g.holds f ≡ true → (k : NodeKind) → g.kind f ≡ k
      → stands g e c f ≡ by_kind k (nat_eq e) (list_any (stands g e c) (g.parents f)) (option_map_or (stands g e c) (slice_get (g.parents f) (pick g c f)) false)
  stands-at e c f h k q = stands-step g law e c f h ∙ ap (λ v. by_kind v (nat_eq e) (list_any (stands g e c) (g.parents f)) (option_map_or (stands g e c) (slice_get (g.parents f) (pick g c f)) false)) q

  -- what stands in a derivation is had, so the fact comes out true
  carried-from_choice : (x : ℕ → Bool) (c : Choice F) (f : F) → g.holds f ≡ true → ((e : ℕ) → stands g e c f ≡ true → x e ≡ true) → carried g x f ≡ true
  carried-from_choice x c =
      by_rank g law (λ f. ((e : ℕ) → stands g e c f ≡ true → x e ≡ true) → carried g x f ≡ true) (λ f h ih had. on f h ih had (g.kind f) refl)
    where
      on : (f : F) → g.holds f ≡ true → ((p : F) → In p (g.parents f) → ((e : ℕ) → stands g e c p ≡ true → x e ≡ true) → carried g x p ≡ true)
          → ((e : ℕ) → stands g e c f ≡ true → x e ≡ true) → (k : NodeKind) → g.kind f ≡ k → carried g x f ≡ true
      on f h ih had (Leaf m) k =
          (carried-at x f h (Leaf m) k)
          ∙ had m (stands-at m c f h (Leaf m) k ∙ eq-eqb m m refl)
      on f h ih had Every k =
          (carried-at x f h Every k)
          ∙ in_all (carried g x) (g.parents f) (λ p i. ih p i (λ e s.
          had e (stands-at e c f h Every k
          ∙ in_any (stands g e c) (g.parents f) p i s)))
      on f h ih had Any k =
          let n = at_within (g.parents f) (pick g c f) (pick-within g law c f (law.chosen f h k)) in
          let i : In n.0 (g.parents f) = get_in (g.parents f) (pick g c f) n.0 n.1 in
          (carried-at x f h Any k)
          ∙ in_any (carried g x) (g.parents f) n.0 i (ih n.0 i (λ e s.
          had e (stands-at e c f h Any k
          ∙ ap (λ o. option_map_or (stands g e c) o false) n.1 ∙ s)))

  -- taking the first parent that comes out true at each disjunctive fact makes one derivation for all of them
  choice-from_carried : (x : ℕ → Bool) (fs : List F) → IsCovering g fs → (f : F) → g.holds f ≡ true → In f fs → carried g x f ≡ true
      → (e : ℕ) → stands g e (first_choice g (carried g x) fs) f ≡ true → x e ≡ true
  choice-from_carried x fs covers =
      by_rank g law (λ f. In f fs → carried g x f ≡ true → (e : ℕ) → stands g e (first_choice g (carried g x) fs) f ≡ true → x e ≡ true)
      (λ f h ih i t e s. on f h ih i
      t e s (g.kind f) refl)
    where
      on : (f : F) → g.holds f ≡ true
          → ((p : F) → In p (g.parents f) → In p fs → carried g x p ≡ true → (e : ℕ) → stands g e (first_choice g (carried g x) fs) p ≡ true → x e ≡ true)
          → In f fs → carried g x f ≡ true → (e : ℕ) → stands g e (first_choice g (carried g x) fs) f ≡ true → (k : NodeKind) → g.kind f ≡ k → x e ≡ true
      on f h ih i t e s (Leaf m) k =
          let c = first_choice g (carried g x) fs in
          let same : nat_eq e m ≡ true = sym (stands-at e c f h (Leaf m) k) ∙ s in
          let had : x m ≡ true = sym (carried-at x f h (Leaf m) k) ∙ t in
          ap x (eqb-true e m same) ∙ had
      on f h ih i t e s Every k =
          let c = first_choice g (carried g x) fs in
          let found = any_in (stands g e c) (g.parents f) (sym (stands-at e c f h Every k) ∙ s) in
          let had : list_all (carried g x) (g.parents f) ≡ true = sym (carried-at x f h Every k) ∙ t in
          ih found.0 found.1 (covers f found.0 i found.1) (all_in (carried g x) (g.parents f) found.0 had found.1) e found.2
      on f h ih i t e s Any k =
          let c = first_choice g (carried g x) fs in
          let had : list_any (carried g x) (g.parents f) ≡ true = sym (carried-at x f h Any k) ∙ t in
          let p = pick-first_choice g law (carried g x) fs f i had in
          let j : In p.0 (g.parents f) = get_in (g.parents f) (pick g c f) p.0 p.1 in
          ih p.0 j (covers f p.0 i j) p.2 e
          (sym (stands-at e c f h Any k
          ∙ ap (λ o. option_map_or (stands g e c) o false) p.1) ∙ s)

  -- carrying is plain evaluation
  pub Carries-is : (x : ℕ → Bool) (f : F) → g.holds f ≡ true → Carries g x f ↔ (carried g x f ≡ true)
  Carries-is x f h = (
    λ w. carried-from_choice x w.0 f h w.1,
    λ t. let fs = covering g law f h in (first_choice g (carried g x) fs.0, choice-from_carried x fs.0 fs.2 f h fs.1 t),
  )

  -- an element in a derivation occurs
  occurs-from_choice : (e : ℕ) (c : Choice F) (f : F) → g.holds f ≡ true → stands g e c f ≡ true → occurs g e f ≡ true
  occurs-from_choice e c = by_rank g law (λ f. stands g e c f ≡ true → occurs g e f ≡ true) (λ f h ih s. on f h ih s (g.kind f) refl)
    where
      on : (f : F) → g.holds f ≡ true → ((p : F) → In p (g.parents f) → stands g e c p ≡ true → occurs g e p ≡ true) → stands g e c f ≡ true
          → (k : NodeKind) → g.kind f ≡ k → occurs g e f ≡ true
      on f h ih s (Leaf m) k =
          (occurs-at e f h (Leaf m) k)
          ∙ (sym (stands-at e c f h (Leaf m) k) ∙ s)
      on f h ih s Every k =
          let found = any_in (stands g e c) (g.parents f) (sym (stands-at e c f h Every k) ∙ s) in
          (occurs-at e f h Every k)
          ∙ in_any (occurs g e) (g.parents f) found.0 found.1 (ih found.0 found.1 found.2)
      on f h ih s Any k =
          let n = at_within (g.parents f) (pick g c f) (pick-within g law c f (law.chosen f h k)) in
          let i : In n.0 (g.parents f) = get_in (g.parents f) (pick g c f) n.0 n.1 in
          (occurs-at e f h Any k)
          ∙ in_any (occurs g e) (g.parents f) n.0 i (ih n.0 i
          (sym (stands-at e c f h Any k
          ∙ ap (λ o. option_map_or (stands g e c) o false) n.1) ∙ s))

  -- taking the first parent in which it occurs makes a derivation with the element
  choice-from_occurs : (e : ℕ) (fs : List F) → IsCovering g fs → (f : F) → g.holds f ≡ true → In f fs → occurs g e f ≡ true → stands g e (first_choice g (occurs g e) fs) f ≡ true
  choice-from_occurs e fs covers =
      by_rank g law (λ f. In f fs → occurs g e f ≡ true → stands g e (first_choice g (occurs g e) fs) f ≡ true)
      (λ f h ih i t. on f h ih i t (g.kind f) refl)
    where
      on : (f : F) → g.holds f ≡ true → ((p : F) → In p (g.parents f) → In p fs → occurs g e p ≡ true → stands g e (first_choice g (occurs g e) fs) p ≡ true)
          → In f fs → occurs g e f ≡ true → (k : NodeKind) → g.kind f ≡ k → stands g e (first_choice g (occurs g e) fs) f ≡ true
      on f h ih i t (Leaf m) k =
          let c = first_choice g (occurs g e) fs in
          (stands-at e c f h (Leaf m) k)
          ∙ (sym (occurs-at e f h (Leaf m) k) ∙ t)
      on f h ih i t Every k =
          let c = first_choice g (occurs g e) fs in
          let found = any_in (occurs g e) (g.parents f) (sym (occurs-at e f h Every k) ∙ t) in
          (stands-at e c f h Every k)
          ∙ in_any (stands g e c) (g.parents f) found.0 found.1 (ih found.0 found.1 (covers f found.0 i found.1) found.2)
      on f h ih i t Any k =
          let c = first_choice g (occurs g e) fs in
          let had : list_any (occurs g e) (g.parents f) ≡ true = sym (occurs-at e f h Any k) ∙ t in
          let p = pick-first_choice g law (occurs g e) fs f i had in
          let j : In p.0 (g.parents f) = get_in (g.parents f) (pick g c f) p.0 p.1 in
          (stands-at e c f h Any k)
          ∙ ap (λ o. option_map_or (stands g e c) o false) p.1 ∙ ih p.0 j (covers f p.0 i j) p.2

  -- being in some derivation is plain evaluation too
  pub IsInSome-is : (e : ℕ) (f : F) → g.holds f ≡ true → IsInSome g e f ↔ (occurs g e f ≡ true)
  IsInSome-is e f h = (
    λ w. occurs-from_choice e w.0 f h w.1,
    λ t. let fs = covering g law f h in (first_choice g (occurs g e) fs.0, choice-from_occurs e fs.0 fs.2 f h fs.1 t),
  )

  pub strong-carried : (e : ℕ) (f : F) → g.holds f ≡ true → strong g e f ≡ not (carried g (all_but e) f)
  strong-carried e = by_rank g law (λ f. strong g e f ≡ not (carried g (all_but e) f)) (λ f h ih. on f h ih (g.kind f) refl)
    where
      on : (f : F) → g.holds f ≡ true → ((p : F) → In p (g.parents f) → strong g e p ≡ not (carried g (all_but e) p)) → (k : NodeKind) → g.kind f ≡ k
          → strong g e f ≡ not (carried g (all_but e) f)
      on f h ih k q =
          let x = all_but e in
          let to = strong-at e f h k q in
          let of = carried-at x f h k q in
          to ∙ at k _ _ _ _ (any_same (strong g e) (λ p. not (carried g x p)) (g.parents f) ih ∙ any_not (carried g x) (g.parents f))
          (all_same (strong g e) (λ p. not (carried g x p)) (g.parents f) ih ∙ all_not (carried g x) (g.parents f)) ∙ sym (ap not of)
        where
          at : (k : NodeKind) (a b c d : Bool) → a ≡ not c → b ≡ not d → by_kind k (nat_eq e) a b ≡ not (by_kind k (all_but e) c d)
          at (Leaf m) a b c d s t = not-not (nat_eq e m)
          at Every a b c d s t = s
          at Any a b c d s t = t

  -- strong means that the evaluation at all elements but this one is false
  pub IsStrong-carried : (e : ℕ) (f : F) → g.holds f ≡ true → IsStrong g e f ↔ (carried g (all_but e) f ≡ false)
  IsStrong-carried e f h = (to, from)
    where
      to : IsStrong g e f → carried g (all_but e) f ≡ false
      to all =
          elim (carried g (all_but e) f) as (λ b. carried g (all_but e) f ≡ b → b ≡ false)
          [ true ↦ λ t. (let w = (Carries-is (all_but e) f h).1 t in absurd (false≢true (sym (ap not (eq-eqb e e refl)) ∙ w.1 e (all w.0)))) | false ↦ λ t. refl ] refl

      from : carried g (all_but e) f ≡ false → IsStrong g e f
      from none c =
          elim (stands g e c f) as (λ b. stands g e c f ≡ b → b ≡ true) [
            | true ↦ λ s. refl
            | false ↦ λ s. absurd (false≢true (sym none ∙ carried-from_choice (all_but e) c f h (λ m t.
                elim (nat_eq e m) as (λ b. nat_eq e m ≡ b → not b ≡ true) [ true ↦ λ q. absurd (false≢true (sym s ∙ ap (λ v. stands g v c f) (eqb-true e m q) ∙ t)) | false ↦ λ q. refl ] refl)))
          ] refl

  -- and strong is plain evaluation
  pub IsStrong-is : (e : ℕ) (f : F) → g.holds f ≡ true → IsStrong g e f ↔ (strong g e f ≡ true)
  IsStrong-is e f h =
      let both = IsStrong-carried e f h in
      (λ s. strong-carried e f h ∙ ap not (both.0 s), λ t. both.1 (not-true (carried g (all_but e) f) (sym (strong-carried e f h) ∙ t)))
