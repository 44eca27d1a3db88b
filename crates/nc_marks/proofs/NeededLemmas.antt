-- What the diagram of a node needs is strong for it.
use Rattle.std.proofs.Common.{◌≡◌, ℕ, ◌+◌, ◌<◌, ◌≤◌, inl, inr, Bool, true, not, ◌||◌, List, [], ◌∷◌, ◌++◌, length, map, take, get_or, sym, ap, ◌∙◌, subst, arith}
use Rattle.std.proofs.lemmas.Bool.{cases_lt}
use Rattle.std.proofs.lemmas.List.Elements.{Contains-get_or}
use Rattle.std.proofs.lemmas.List.Folds.{list_any_more}
use Rattle.std.proofs.Math.Seq.{take-append_seam}
use Rattle.std.specs.List.{list_any}
use Rattle.nc_diagram.specs.declared.node.Node.{Node}
use Rattle.nc_diagram.specs.Diagrams.{Diagrams, meaning}
use Rattle.nc_diagram.specs.Sets.{Same, all_but}
use Rattle.nc_formula.specs.Parts.{carrying, IsBaseFrom, Gains}
use Rattle.nc_formula.proofs.GainLemmas.{Within, gains-more, gains-wider}
use Rattle.nc_formula.proofs.LawLemmas.{alike_but}
use Rattle.nc_graph.specs.declared.node.NodeId.{NodeId}
use Rattle.nc_graph.specs.Derivation.{carried, strong}
use Rattle.nc_graph.specs.Flow.{Flow, IsFlow}
use Rattle.nc_graph.proofs.DerivationLaws.{strong-carried}
use Rattle.nc_graph.proofs.Members.{In}
use Rattle.nc_graph.proofs.Parents.{in-map}
use Rattle.nc_graph.proofs.WalkLemmas.{Contains-in, in-Contains}
use Rattle.nc_marks.specs.Needed.{needed}
use Rattle.nc_marks.specs.Sets.{flag}
use Rattle.nc_marks.proofs.KeptLemmas.{or_swap}

pub needed-strong : (g : Flow ℕ) → IsFlow g → (nodes : List Node) (r i : ℕ) → g.holds i ≡ true → Same (meaning nodes r) (carrying g i) → (e : ℕ) → needed nodes r e ≡ strong g e i
needed-strong g law nodes r i holds means e =
    ap not (means (all_but (e ∷ [])) ∙ ap (λ x. carried g x i) (λ j v. alike_but e v j)) ∙ sym (strong-carried g law e i holds)

-- one more tested node
pub strong-step : (g : Flow ℕ) (ids : List NodeId) (k : ℕ) (d : NodeId) (e : ℕ) → k < length ids → (before now need : Bool) → now ≡ (need || before)
    → before ≡ list_any (λ p. strong g e p.0) (take k ids) → need ≡ strong g e (get_or ids k d).0 → now ≡ list_any (λ p. strong g e p.0) (take (k + 1) ids)
strong-step g ids k d e lt before now need step old is =
    step ∙ or_swap need before ∙ ap (λ b. b || need) old ∙ ap (λ b. list_any (λ p. strong g e p.0) (take k ids) || b) is
    ∙ sym (list_any_more (λ p. strong g e p.0) ids k d lt)

-- the bases of one of some nodes are among those of all
one-from : (g : Flow ℕ) (i : ℕ) (tops : List ℕ) → In i tops → Within (IsBaseFrom g (i ∷ [])) (IsBaseFrom g tops)
one-from g i tops within b (h, (f, at, reaches), base) = elim (Contains-in (i ∷ []) f at) [
  | inl e ↦ (h, (f, in-Contains tops f (subst (λ j. In j tops) e within), reaches), base)
  | inr none ↦ absurd none
]

pub gained-more : (g : Flow ℕ) (ids : List NodeId) (k : ℕ) (d : NodeId) → k < length ids → (old mid new : Diagrams)
    → Gains (IsBaseFrom g (map (λ p. p.0) ids)) old mid → Gains (IsBaseFrom g ((get_or ids k d).0 ∷ [])) mid new → Gains (IsBaseFrom g (map (λ p. p.0) ids)) old new
gained-more g ids k d lt old mid new so_far gained =
    let node = get_or ids k d in
    let within = one-from g node.0 (map (λ p. p.0) ids) (in-map ids node (Contains-in ids node (Contains-get_or ids k d lt))) in
    gains-more (IsBaseFrom g (map (λ p. p.0) ids)) old mid new so_far (gains-wider (IsBaseFrom g (node.0 ∷ [])) (IsBaseFrom g (map (λ p. p.0) ids)) mid new within gained)

-- flags in a vector after flags were written through a slice of all of it
pub flags-back : (flags rest : List Bool) (len : ℕ) → length flags ≡ len → take len (flags ++ rest) ≡ flags
flags-back flags rest len long = ap (λ m. take m (flags ++ rest)) (sym long) ∙ take-append_seam flags rest

-- one more element
pub flags-more : (need : ℕ → Bool) (first before after : List Bool) (k : ℕ) → ((e : ℕ) → e < k → flag before e ≡ (need e || flag first e)) → ((e : ℕ) → k ≤ e → flag before e ≡ flag first e)
    → flag after k ≡ (need k || flag before k) → ((e : ℕ) → (e ≡ k → ⊥) → flag after e ≡ flag before e)
    → (e : ℕ) → e < k + 1 → flag after e ≡ (need e || flag first e)
flags-more need first before after k done left here others e lt = elim (cases_lt e k) [
  | inl early ↦ others e (λ same. omega (arith, same, early)) ∙ done e early
  | inr late ↦ (let last : k ≡ e = omega arith in subst (λ j. flag after j ≡ (need j || flag first j)) last (here ∙ ap (λ b. need k || b) (left k (omega arith))))
]
