-- The marks of a list that is made of what is kept of a test's nodes, and of what they reach.
use Rattle.std.proofs.Common.{◌≡◌, ℕ, ◌<◌, Bool, true, false, List, map, sym, ap, ◌∙◌, refl, All}
use Rattle.std.specs.List.{list_any}
use Rattle.nc_graph.specs.declared.node.NodeId.{NodeId}
use Rattle.nc_graph.specs.Derivation.{strong}
use Rattle.nc_graph.specs.Flow.{Flow}
use Rattle.nc_graph.proofs.Members.{any_same, of_all}
use Rattle.nc_marks.specs.declared.mark.Mark.{Mark}
use Rattle.nc_marks.specs.declared.mark.Mark.TheVariants.{Strong, Weak, Uncovered}
use Rattle.nc_marks.specs.Kept.{Kept, AreKept, strong_at}
use Rattle.nc_marks.specs.Reach.{strong_in}
use Rattle.nc_marks.specs.Sets.{has}
use Rattle.nc_marks.proofs.StrongLemmas.{any-map}
use Rattle.nc_suite.specs.Counts.{over, marked_if, mark_by}

pub by-lists : (s w : Bool) → over (over Uncovered (marked_if s Strong)) (marked_if w Weak) ≡ mark_by s w
by-lists true w = refl
by-lists false true = refl
by-lists false false = refl

-- the sets of the nodes tell what is strong for one
pub strong-kept : (g : Flow ℕ) (count : ℕ) (live : List ℕ) (elements : ℕ) (k : Kept) → AreKept g count live elements k → (ps : List NodeId) → All (λ p. p.0 < count) ps
    → (e : ℕ) → e < elements → list_any (λ p. has (strong_at k p.0) e) ps ≡ strong_in g e (map (λ p. p.0) ps)
strong-kept g count live elements k are ps valid e lt =
    any_same (λ p. has (strong_at k p.0) e) (λ p. strong g e p.0) ps (λ p i. are.sets p.0 (of_all (λ p. p.0 < count) ps p valid i) e lt)
    ∙ sym (any-map (strong g e) ps)

pub listed-mark : (last mid first : Mark) (s w s2 w2 : Bool) → first ≡ Uncovered → mid ≡ over first (marked_if s Strong) → last ≡ over mid (marked_if w Weak) → s ≡ s2 → w ≡ w2 → last ≡ mark_by s2 w2
listed-mark last mid first s w s2 w2 none strongs weaks a b =
    weaks ∙ ap (λ m. over m (marked_if w Weak)) (strongs ∙ ap (λ m. over m (marked_if s Strong)) none) ∙ by-lists s w ∙ ap (λ v. mark_by v w) a ∙ ap (mark_by s2) b
