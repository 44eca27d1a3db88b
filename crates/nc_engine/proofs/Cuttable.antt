-- Where no router is kept, facts that hold have a cut: all elements together are one.
use Rattle.std.proofs.Common.{◌≡◌, ◌↔◌, ℕ, zero, suc, ◌+◌, ◌<◌, Bool, true, false, not, ◌&&◌, List, [], ◌∷◌, length, replicate, All, refl, sym, ap, ◌∙◌, subst, length-append}
use Rattle.std.proofs.lemmas.List.{length-replicate}
use Rattle.std.proofs.lemmas.List.Sums.{sum_by-cons}
use Rattle.std.proofs.lemmas.List.Elements.{All-nil, All-cons, All-head, All-tail, All-append}
use Rattle.nc_types.specs.Config.{ConfigView}
use Rattle.nc_types.specs.Network.{element_count}
use Rattle.nc_graph.specs.Flow.{Flow}
use Rattle.nc_graph.specs.Derivation.{Carries, carried}
use Rattle.nc_diagram.specs.Sets.{Members, has, among}
use Rattle.nc_cut.specs.Cuts as plain
use Rattle.nc_formula.specs.Parts.{carrying_each}
use Rattle.nc_fact.specs.declared.fact.Fact.{Fact}
use Rattle.nc_engine.specs.Cuts.{IsUncut, is_kept}
use Rattle.nc_engine.proofs.Carrying.{Hold}
use Rattle.nc_engine.proofs.Cutting.{free_from, free_of, uncut-to}

all_true : (n : ℕ) → All (λ (b : Bool). b ≡ true) (replicate n true)
all_true zero = All-nil (λ (b : Bool). b ≡ true)
all_true (suc n) = All-cons (λ (b : Bool). b ≡ true) true (replicate n true) refl (all_true n)

-- every element may be cut
all_free : (routers : List ConfigView) (router : ℕ) (cs : List ConfigView) → All (λ (b : Bool). b ≡ true) (free_from (is_kept routers []) router cs)
unfolding free_from
all_free routers router [] = All-nil (λ (b : Bool). b ≡ true)
all_free routers router (c ∷ cs) =
    All-append (λ (b : Bool). b ≡ true) (replicate (length c.elements) true) (free_from (is_kept routers []) (router + 1) cs) (all_true (length c.elements)) (all_free routers (router + 1) cs)

pub free_count : (kept : ℕ → Bool) (router : ℕ) (cs : List ConfigView) → length (free_from kept router cs) ≡ element_count cs
unfolding free_from
free_count kept router [] = refl
free_count kept router (c ∷ cs) =
    length-append (replicate (length c.elements) (not (kept router))) (free_from kept (router + 1) cs)
    ∙ ap (λ (n : ℕ). n + length (free_from kept (router + 1) cs)) (length-replicate (length c.elements) (not (kept router)))
    ∙ ap (λ (n : ℕ). length c.elements + n) (free_count kept (router + 1) cs)
    ∙ sym (sum_by-cons (λ (d : ConfigView). length d.elements) c cs)

module _ (g : Flow Fact) (evaluated : (x : ℕ → Bool) (f : Fact) → g.holds f ≡ true → Carries g x f ↔ (carried g x f ≡ true)) (routers : List ConfigView)
    (none : (x : ℕ → Bool) → ((e : ℕ) → x e ≡ false) → (f : Fact) → g.holds f ≡ true → carried g x f ≡ false)
    (below : (x y : ℕ → Bool) → ((e : ℕ) → e < element_count routers → x e ≡ y e) → (f : Fact) → g.holds f ≡ true → carried g x f ≡ carried g y f)
    (some_cut : (f : Members → Bool) (free : List Bool) → plain.IsBelow (length free) f → All (λ b. b ≡ true) free → f (among []) ≡ false → plain.HasNoCut f free → ⊥) where
  each_below : (fs : List Fact) → Hold g fs → plain.IsBelow (element_count routers) (carrying_each g fs)
  each_below [] hold s t same = refl
  each_below (f ∷ fs) hold s t same =
      ap (λ (b : Bool). b && carrying_each g fs s) (below (has s) (has t) same f (All-head (λ h. g.holds h ≡ true) f fs hold))
      ∙ ap (λ (b : Bool). carried g (has t) f && b) (each_below fs (All-tail (λ h. g.holds h ≡ true) f fs hold) s t same)

  pub some-cut : (fact : Fact) (facts : List Fact) → Hold g (fact ∷ facts) → IsUncut g routers [] (fact ∷ facts) → ⊥
  some-cut fact facts hold uncut =
      let free = free_from (is_kept routers []) 0 routers in
      some_cut (carrying_each g (fact ∷ facts)) free
      (subst (λ (n : ℕ). plain.IsBelow n (carrying_each g (fact ∷ facts))) (sym (free_count (is_kept routers []) 0 routers)) (each_below (fact ∷ facts) hold))
      (all_free routers 0 routers)
      (ap (λ (b : Bool). b && carrying_each g facts (among [])) (none (has (among [])) (λ e. refl) fact (All-head (λ h. g.holds h ≡ true) fact facts hold)))
      (uncut-to g evaluated routers [] (fact ∷ facts) hold free (free_of routers []) uncut)
