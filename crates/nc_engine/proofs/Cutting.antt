-- Cuts of a test, and cuts of the function that is true at the sets of elements that carry it.
use Rattle.std.proofs.Common.{◌≡◌, ◌↔◌, ℕ, zero, suc, ◌+◌, ◌-◌, ◌<◌, ◌≤◌, Bool, true, false, cond, not, nat_lt, List, [], ◌∷◌, ◌++◌, length, drop, replicate, Option, inl, inr, refl, sym, ap, ◌∙◌, arith}
use Rattle.std.specs.Prelude.{slice_get, slice_index_or}
use Rattle.std.specs.Option.{option_map, option_map_or}
use Rattle.std.proofs.lemmas.Bool.{true≢false, ltb-true, ltb-false}
use Rattle.std.proofs.lemmas.List.{drop_all, get_or-append_right, get_or_append_left, get_or-replicate, length-replicate}
use Rattle.std.proofs.lemmas.List.Elements.{All-weaker}
use Rattle.nc_types.specs.Config.{ConfigView, ElementView}
use Rattle.nc_types.specs.Network.{ElementIn, element_from}
use Rattle.nc_graph.specs.Flow.{Flow}
use Rattle.nc_graph.specs.Derivation.{Carries, carried}
use Rattle.nc_diagram.specs.Sets.{Members, all_but}
use Rattle.nc_cut.specs.Cuts as plain
use Rattle.nc_cut.proofs.LawLemmas.{ordered}
use Rattle.nc_formula.specs.Parts.{carrying_each}
use Rattle.nc_fact.specs.declared.fact.Fact.{Fact}
use Rattle.nc_engine.specs.Questions.{CarriesEach}
use Rattle.nc_engine.specs.Cuts.{IsCut, IsLeastCut, IsUncut, IsCutAnswer, is_kept, may_be_cut, least_of}
use Rattle.nc_engine.proofs.Carrying.{Hold, carry-to, carry-from}

-- ---- which elements may be cut

-- of each element of these routers, of which the first has this number, whether it may be cut
unfoldable pub free_from : (ℕ → Bool) → ℕ → List ConfigView → List Bool
free_from kept router [] = []
free_from kept router (c ∷ cs) = replicate (length c.elements) (not (kept router)) ++ free_from kept (router + 1) cs

-- whether an element may be cut
abbrev free_in : (ℕ → Bool) → Option ElementIn → Bool
free_in kept x = option_map_or (λ e. not (kept e.router)) x false

element_there : (kept : ℕ → Bool) (router v : ℕ) (es : List ElementView) → v < length es → free_in kept (option_map (λ e. record { router = router; element = e }) (slice_get es v)) ≡ not (kept router)
element_there kept router v [] lt = absurd (omega arith)
element_there kept router zero (e ∷ es) lt = refl
element_there kept router (suc v) (e ∷ es) lt = element_there kept router v es (omega arith)

pub free_at : (kept : ℕ → Bool) (router : ℕ) (cs : List ConfigView) (v : ℕ) → slice_index_or (free_from kept router cs) v false ≡ free_in kept (element_from router cs v)
unfolding free_from
free_at kept router [] v = refl
free_at kept router (c ∷ cs) v = on (nat_lt v (length c.elements)) refl (free_at kept (router + 1) cs (v - length c.elements))
  where
    on : (b : Bool) → nat_lt v (length c.elements) ≡ b
        → slice_index_or (free_from kept (router + 1) cs) (v - length c.elements) false ≡ free_in kept (element_from (router + 1) cs (v - length c.elements))
        → slice_index_or (replicate (length c.elements) (not (kept router)) ++ free_from kept (router + 1) cs) v false
        ≡ free_in kept (cond b (option_map (λ e. record { router = router; element = e }) (slice_get c.elements v)) (element_from (router + 1) cs (v - length c.elements)))
    on true is behind =
        let lt : v < length c.elements = ltb-true v (length c.elements) is in
        get_or_append_left (replicate (length c.elements) (not (kept router))) (free_from kept (router + 1) cs) false v (omega (arith, length-replicate (length c.elements) (not (kept router))))
        ∙ get_or-replicate (length c.elements) v (not (kept router)) false lt
        ∙ sym (element_there kept router v c.elements lt)
    on false is behind =
        let le : length c.elements ≤ v = ltb-false v (length c.elements) is in
        get_or-append_right (replicate (length c.elements) (not (kept router))) (free_from kept (router + 1) cs) (length c.elements) v false (length-replicate (length c.elements) (not (kept router))) le
        ∙ behind

pub free_next : (kept : ℕ → Bool) (router : ℕ) (c : ConfigView) (cs all : List ConfigView) → all ≡ c ∷ cs
    → free_from kept router all ≡ replicate (length c.elements) (not (kept router)) ++ free_from kept (router + 1) cs
unfolding free_from
free_next kept router c cs all same = ap (free_from kept router) same

pub free_end : (kept : ℕ → Bool) (router n : ℕ) (cs : List ConfigView) → length cs ≤ n → free_from kept router (drop n cs) ≡ []
unfolding free_from
free_end kept router n cs few = ap (free_from kept router) (drop_all n cs few)

-- that of a network's elements
pub free_of : (routers : List ConfigView) (names : List (List ℕ)) (v : ℕ) → plain.is_free (free_from (is_kept routers names) 0 routers) v ≡ may_be_cut routers names v
free_of routers names v = free_at (is_kept routers names) 0 routers v

-- ---- cuts of the test and of the function

module _ (g : Flow Fact) (evaluated : (x : ℕ → Bool) (f : Fact) → g.holds f ≡ true → Carries g x f ↔ (carried g x f ≡ true))
    (routers : List ConfigView) (names : List (List ℕ)) (facts : List Fact) (hold : Hold g facts)
    (free : List Bool) (frees : (v : ℕ) → plain.is_free free v ≡ may_be_cut routers names v) where
  not_carried : (set : Members) → (CarriesEach g facts set → ⊥) → carrying_each g facts set ≡ false
  not_carried set broken = on (carrying_each g facts set) refl
    where
      on : (b : Bool) → carrying_each g facts set ≡ b → carrying_each g facts set ≡ false
      on true is = absurd (broken (carry-from g evaluated facts hold set is))
      on false is = is

  pub cut-to : (cut : List ℕ) → IsCut g routers names facts cut → plain.IsCut (carrying_each g facts) free cut
  cut-to cut c = record {
    ascends = c.ascends;
    allowed = All-weaker (λ v. may_be_cut routers names v ≡ true) (λ v. plain.is_free free v ≡ true) (λ v is. frees v ∙ is) cut c.allowed;
    never = not_carried (all_but cut) c.breaks;
  }

  pub cut-from : (cut : List ℕ) → plain.IsCut (carrying_each g facts) free cut → IsCut g routers names facts cut
  cut-from cut c = record {
    ascends = c.ascends;
    allowed = All-weaker (λ v. plain.is_free free v ≡ true) (λ v. may_be_cut routers names v ≡ true) (λ v is. sym (frees v) ∙ is) cut c.allowed;
    breaks = λ carries. true≢false (sym (carry-to g evaluated facts hold (all_but cut) carries) ∙ c.never);
  }

  pub uncut-from : plain.HasNoCut (carrying_each g facts) free → IsUncut g routers names facts
  uncut-from none cut c = none cut (cut-to cut c)

  pub uncut-to : IsUncut g routers names facts → plain.HasNoCut (carrying_each g facts) free
  uncut-to none cut c = none cut (cut-from cut c)

  pub least-from : (cut : List ℕ) → plain.IsLeastCut (carrying_each g facts) free cut → IsLeastCut g routers names facts cut
  least-from cut least = record {
    is_cut = cut-from cut least.is_cut;
    fewest = λ other c. least.fewest other (cut-to other c);
    first = λ other c. least.first other (cut-to other c);
  }

-- ---- one answer

module _ (g : Flow Fact) (routers : List ConfigView) (names : List (List ℕ)) (facts : List Fact) where
  least_once : (one other : List ℕ) → IsLeastCut g routers names facts one → IsLeastCut g routers names facts other → one ≡ other
  least_once one other p q =
      let same : length one ≡ length other = omega (arith, p.fewest other q.is_cut, q.fewest one p.is_cut) in
      elim (ordered one other same) [
        | inl equal ↦ equal
        | inr (inl before) ↦ absurd (q.first one p.is_cut same before)
        | inr (inr behind) ↦ absurd (p.first other q.is_cut (sym same) behind)
      ]

  pub cut_once : (n : ℕ) (r t : List ℕ) → IsCutAnswer g routers names facts n r → IsCutAnswer g routers names facts n t → r ≡ t
  cut_once n r t (inl p) (inl q) = p.1 ∙ sym q.1
  cut_once n r t (inl p) (inr q) = absurd (p.0 q.cut q.least.is_cut)
  cut_once n r t (inr p) (inl q) = absurd (q.0 p.cut p.least.is_cut)
  cut_once n r t (inr p) (inr q) = p.text ∙ ap (least_of routers n) (least_once p.cut q.cut p.least q.least) ∙ sym q.text
