-- Where each conjunctive fact follows from some fact, no fact is carried without elements; and what carries a fact is told by the elements that leaves have.
use Rattle.std.proofs.Common.{◌≡◌, ℕ, ◌<◌, Bool, true, false, ◌&&◌, ◌||◌, List, [], ◌∷◌, length, inl, inr, refl, sym, ap, ◌∙◌, arith}
use Rattle.std.specs.List.{list_any, list_all}
use Rattle.nc_graph.specs.declared.node.NodeKind.TheVariants.{Leaf, Every, Any}
use Rattle.nc_graph.specs.Flow.{Flow, IsFlow, by_kind}
use Rattle.nc_graph.specs.Derivation.{carried}
use Rattle.nc_graph.proofs.Members.{In, any_same, all_same}
use Rattle.nc_graph.proofs.DerivationLaws.{by_rank, carried-step}

module _ {X : Type 0} (p : X → Bool) where
  -- where no item passes, none of a list does, and not all of one that has an item
  none_pass : (xs : List X) → ((x : X) → In x xs → p x ≡ false) → list_any p xs ≡ false
  none_pass [] each = refl
  none_pass (x ∷ xs) each = ap (λ b. b || list_any p xs) (each x (inl refl)) ∙ none_pass xs (λ y i. each y (inr i))

  some_fails : (xs : List X) → 0 < length xs → ((x : X) → In x xs → p x ≡ false) → list_all p xs ≡ false
  some_fails [] some each = absurd (omega arith)
  some_fails (x ∷ xs) some each = ap (λ b. b && list_all p xs) (each x (inl refl))

module _ {F : Type 0} (g : Flow F) where
  -- each conjunctive fact that holds follows from some fact
  abbrev pub Rest : Type 0
  Rest = (f : F) → g.holds f ≡ true → g.kind f ≡ Every → 0 < length (g.parents f)

  -- the elements of leaves that hold are those below a number
  abbrev pub HaveElementsBelow : ℕ → Type 0
  HaveElementsBelow n = (f : F) (e : ℕ) → g.holds f ≡ true → g.kind f ≡ Leaf e → e < n

module _ {F : Type 0} (g : Flow F) (law : IsFlow g) where
  -- no fact is carried without elements
  pub carried_by_none : Rest g → (x : ℕ → Bool) → ((e : ℕ) → x e ≡ false) → (f : F) → g.holds f ≡ true → carried g x f ≡ false
  carried_by_none rest x none = by_rank g law (λ f. carried g x f ≡ false) (λ f h below.
      carried-step g law x f h
      ∙ elim (g.kind f) as (λ k. g.kind f ≡ k → by_kind k x (list_all (carried g x) (g.parents f)) (list_any (carried g x) (g.parents f)) ≡ false) [
        | Leaf e ↦ λ is. none e
        | Every ↦ λ is. some_fails (carried g x) (g.parents f) (rest f h is) below
        | Any ↦ λ is. none_pass (carried g x) (g.parents f) below
      ] refl)

  -- elements that are alike below the number carry the same
  pub carried_alike : (n : ℕ) → HaveElementsBelow g n → (x y : ℕ → Bool) → ((e : ℕ) → e < n → x e ≡ y e) → (f : F) → g.holds f ≡ true → carried g x f ≡ carried g y f
  carried_alike n leaves x y alike = by_rank g law (λ f. carried g x f ≡ carried g y f) (λ f h below.
      carried-step g law x f h
      ∙ elim (g.kind f) as (λ k. g.kind f ≡ k
      → by_kind k x (list_all (carried g x) (g.parents f)) (list_any (carried g x) (g.parents f)) ≡ by_kind k y (list_all (carried g y) (g.parents f)) (list_any (carried g y) (g.parents f))) [
        | Leaf e ↦ λ is. alike e (leaves f e h is)
        | Every ↦ λ is. all_same (carried g x) (carried g y) (g.parents f) below
        | Any ↦ λ is. any_same (carried g x) (carried g y) (g.parents f) below
      ] refl
      ∙ sym (carried-step g law y f h))
