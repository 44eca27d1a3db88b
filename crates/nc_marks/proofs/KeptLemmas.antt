-- What is kept of more nodes for more tests.
use Rattle.std.proofs.Common.{◌≡◌, ℕ, ◌<◌, ◌≤◌, inl, inr, Bool, true, false, ◌||◌, cond, List, [], ◌∷◌, ◌++◌, length, get_or, map, take, Some, sym, ap, ◌∙◌, subst, refl, arith, nat_eq, nat_lt, All}
use Rattle.std.proofs.lemmas.Bool.{eqb-true, lt-ltb, cases_lt}
use Rattle.std.proofs.lemmas.List.{length-map, get_or-map, length_push, get_or_append_left, get_or_push, take-append-le}
use Rattle.std.proofs.lemmas.List.Elements.{All-weaker, All-map}
use Rattle.std.proofs.lemmas.List.Folds.{list_any-append}
use Rattle.std.specs.List.{list_any}
use Rattle.nc_graph.specs.declared.node.NodeId.{NodeId}
use Rattle.nc_graph.specs.Derivation.{strong, occurs}
use Rattle.nc_graph.specs.Nodes.{Nodes, node_flow, IsGraph}
use Rattle.nc_types.proofs.Truth.{same_truth}
use Rattle.nc_graph.proofs.Members.{any_in, in_any, in_parts, of_all, all_from}
use Rattle.nc_graph.proofs.WalkLemmas.{prefix-length}
use Rattle.nc_marks.specs.declared.mark.Mark.TheVariants.{Strong, Weak, Uncovered}
use Rattle.nc_marks.specs.Kept.{Kept, AreKept}
use Rattle.nc_marks.specs.Marks.{ElementMarks, AreMarks, mark_of}
use Rattle.nc_marks.specs.Reach.{is_leaf_of, leaf_in, AreReached}
use Rattle.nc_marks.specs.Sets.{Table, Gathering, ArePlaced, IsTable, Grows, IsAt, has, has_node, flag, in_some}
use Rattle.nc_marks.proofs.MarkLemmas.{marks-are, strong-told, some-told}
use Rattle.nc_marks.proofs.StrongLemmas.{tested-strong}
use Rattle.nc_marks.proofs.RaiseLemmas.{node-in}
use Rattle.nc_marks.proofs.ReachLemmas.{or_cases, or_left, or_right, leaf-below, leaf-occurs, flag-within}

pub or_swap : (a b : Bool) → (a || b) ≡ (b || a)
or_swap true true = refl
or_swap true false = refl
or_swap false true = refl
or_swap false false = refl

or_rest : (a b : Bool) → (a || b) ≡ false → b ≡ false
or_rest true b h = absurd (cc)
or_rest false b h = h

pub all-append : (P : ℕ → Type 0) (xs ys : List ℕ) → All P xs → All P ys → All P (xs ++ ys)
all-append P xs ys a b = all_from P (xs ++ ys) (λ x i. elim (in_parts xs ys x i) [ inl j ↦ of_all P xs x a j | inr j ↦ of_all P ys x b j ])

module _ {F : Type 0} (n : Nodes F) (is : IsGraph n) (low : ℕ) (before tested : List ℕ) (elements : ℕ) (k : Kept) (are : AreKept (node_flow n) low before elements k) (few : low ≤ length n.facts)
    (valid : All (λ i. i < length n.facts) tested) (flags : List Bool) (raised : List NodeId) (long : length flags ≡ length n.facts)
    (made : (i : ℕ) → flag flags i ≡ (has_node raised i || flag k.reached i)) (reached : AreReached (node_flow n) (before ++ tested) flags) where
  before-valid : All (λ i. i < length n.facts) before
  before-valid = All-weaker (λ i. i < low) (λ i. i < length n.facts) (λ i lt. omega arith) before are.within

  pub all-valid : All (λ i. i < length n.facts) (before ++ tested)
  all-valid = all-append (λ i. i < length n.facts) before tested before-valid valid

  -- a flagged node is one of the graph's
  inside : (i : ℕ) → flag flags i ≡ true → nat_lt i (length n.facts) ≡ true
  inside i h = let lt = flag-within flags i h in lt-ltb i (length n.facts) (omega arith)

  -- where a flagged node is an element's leaf, the element occurs below the tops
  from-leaf : (e i : ℕ) → flag flags i ≡ true → is_leaf_of e ((node_flow n).kind i) ≡ true → list_any (occurs (node_flow n) e) (before ++ tested) ≡ true
  from-leaf e i up leaf = (reached.within e).each i up (leaf-occurs n is flags reached.closed e i (inside i up) ((node_flow n).kind i) refl leaf)

  module _ (new : ElementMarks) (count : length new.strong ≡ elements)
      (s : (e : ℕ) → e < elements → flag new.strong e ≡ (list_any (strong (node_flow n) e) tested || flag k.marks.strong e))
      (w : (e : ℕ) → e < elements → flag new.some e ≡ (leaf_in (node_flow n) e raised || flag k.marks.some e)) where
    strong-is : (e : ℕ) → e < elements → flag new.strong e ≡ list_any (strong (node_flow n) e) (before ++ tested)
    strong-is e lt =
        s e lt ∙ ap (λ b. list_any (strong (node_flow n) e) tested || b) (strong-told n is before before-valid e elements k.marks are.marks lt)
        ∙ or_swap (list_any (strong (node_flow n) e) tested) (list_any (strong (node_flow n) e) before) ∙ sym (list_any-append (strong (node_flow n) e) before tested)

    some-is : (e : ℕ) → e < elements → flag new.strong e ≡ false → flag new.some e ≡ list_any (occurs (node_flow n) e) (before ++ tested)
    some-is e lt unset = same_truth (flag new.some e) (list_any (occurs (node_flow n) e) (before ++ tested)) only each
      where
        was-some : flag k.marks.some e ≡ list_any (occurs (node_flow n) e) before
        was-some = some-told n is before before-valid e elements k.marks are.marks lt (or_rest (list_any (strong (node_flow n) e) tested) (flag k.marks.strong e) (sym (s e lt) ∙ unset))

        leaf : NodeId → Bool
        leaf p = is_leaf_of e ((node_flow n).kind p.0)

        only : flag new.some e ≡ true → list_any (occurs (node_flow n) e) (before ++ tested) ≡ true
        only h = elim (or_cases (leaf_in (node_flow n) e raised) (flag k.marks.some e) (sym (w e lt) ∙ h)) [
          | inl x ↦ let r = any_in leaf raised x in
              from-leaf e r.0.0 (made r.0.0 ∙ or_left (has_node raised r.0.0) (flag k.reached r.0.0) (node-in raised r.0 r.1)) r.2
          | inr old ↦ list_any-append (occurs (node_flow n) e) before tested ∙ or_left (list_any (occurs (node_flow n) e) before) (list_any (occurs (node_flow n) e) tested) (sym was-some ∙ old)
        ]

        each : list_any (occurs (node_flow n) e) (before ++ tested) ≡ true → flag new.some e ≡ true
        each h =
            let r = any_in (occurs (node_flow n) e) (before ++ tested) h in
            let top : flag flags r.0 ≡ true = of_all (λ i. flag flags i ≡ true) (before ++ tested) r.0 reached.tops r.1 in
            let l = leaf-below n is flags reached.closed e r.0 (inside r.0 top) top r.2 in
            elim (or_cases (has_node raised l.0) (flag k.reached l.0) (sym (made l.0) ∙ l.2)) [
              | inl x ↦ let q = any_in (λ (p : NodeId). nat_eq l.0 p.0) raised x in
                  w e lt ∙ or_left (leaf_in (node_flow n) e raised) (flag k.marks.some e)
                  (in_any leaf raised q.0 q.1 (subst (λ (i : ℕ). is_leaf_of e ((node_flow n).kind i) ≡ true) (eqb-true l.0 q.0.0 q.2) l.3))
              | inr x ↦ w e lt ∙ or_right (leaf_in (node_flow n) e raised) (flag k.marks.some e)
                  (was-some ∙ (are.reached.within e).each l.0 x (leaf-occurs n is flags reached.closed e l.0 (inside l.0 l.2) ((node_flow n).kind l.0) refl l.3))
            ]

    -- the marks for more tests
    pub marks-more : AreMarks (node_flow n) (before ++ tested) elements new
    marks-more = marks-are n is (before ++ tested) all-valid elements new count strong-is some-is

-- the sets of kept nodes, in a table
abbrev pub sets_at : Table → List ℕ → List (List ℕ)
sets_at t places = map (λ place. get_or t.sets place []) places

pub strong_at-place : (t : Table) (places : List ℕ) (i : ℕ) → i < length places → get_or (sets_at t places) i [] ≡ get_or t.sets (get_or places i 0) []
strong_at-place t places i lt = get_or-map (λ place. get_or t.sets place []) places i 0 [] lt

-- one more place
pub placed-more : (t next : Table) (places more : List ℕ) (place : ℕ) → Grows t next → more ≡ places ++ place ∷ [] → ArePlaced t places → place < length next.sets → ArePlaced next more
placed-more t next places more place grows pushed placed new = record { each = rw pushed each }
  where
    each : (i : ℕ) → i < length (places ++ place ∷ []) → get_or (places ++ place ∷ []) i 0 < length next.sets
    each i lt =
        let long = length_push places place in
        let larger : length t.sets ≤ length next.sets = grows.more in
        elim (cases_lt i (length places)) [
          | inl early ↦ (let old : get_or places i 0 < length t.sets = placed.each i early in
              subst (λ p. p < length next.sets) (sym (get_or_append_left places (place ∷ []) 0 i early)) (omega arith))
          | inr late ↦ let there : length places ≡ i = omega arith in
              subst (λ p. p < length next.sets) (sym (get_or_push places place 0 i there)) new
        ]

pub take-more : (first places more : List ℕ) (place : ℕ) → more ≡ places ++ place ∷ [] → take (length first) places ≡ first → take (length first) more ≡ first
take-more first places more place pushed kept =
    let short : length first ≤ length places = prefix-length first places kept in
    ap (take (length first)) pushed ∙ take-append-le (length first) places (place ∷ []) short ∙ kept

pub grows-on : (t mid next : Table) → Grows t mid → Grows mid next → Grows t next
grows-on t mid next a b =
    let l : length t.sets ≤ length mid.sets = a.more in
    let m : length mid.sets ≤ length next.sets = b.more in
    record {
      width = b.width ∙ a.width;
      more = omega arith;
      kept = λ place lt. b.kept place (omega arith) ∙ a.kept place lt;
    }

module _ {F : Type 0} (n : Nodes F) (is : IsGraph n) (t next : Table) (gathered : Gathering) (places more : List ℕ) (marks new : ElementMarks) (table : IsTable t gathered places (length marks.strong))
    (low elements : ℕ) (before : List ℕ) (ps : List NodeId) (old flags : List Bool) (raised : List NodeId)
    (are : AreKept (node_flow n) low before elements (record { strong = sets_at t places; reached = old; marks = marks })) (few : low ≤ length n.facts)
    (valid : All (λ p. p.0 < length n.facts) ps) (all : length flags ≡ length n.facts) (made : (i : ℕ) → flag flags i ≡ (has_node raised i || flag old i))
    (reached : AreReached (node_flow n) before old → AreReached (node_flow n) (before ++ map (λ p. p.0) ps) flags)
    (long : length more ≡ length n.facts) (grows : Grows t next)
    (step : ((i : ℕ) → i < length places → IsAt t (get_or places i 0) (λ e. strong (node_flow n) e i))
    → (i : ℕ) → i < length n.facts → IsAt next (get_or more i 0) (λ e. strong (node_flow n) e i))
    (count : length new.strong ≡ length marks.strong)
    (s : (e : ℕ) → e < length marks.strong → flag new.strong e ≡ (in_some next more ps e || flag marks.strong e))
    (w : (e : ℕ) → e < length marks.strong → flag new.some e ≡ (leaf_in (node_flow n) e raised || flag marks.some e)) where
  old-sets : (i : ℕ) → i < length places → IsAt t (get_or places i 0) (λ e. strong (node_flow n) e i)
  old-sets i lt =
      let nodes : length (sets_at t places) ≡ low = are.nodes in
      let same = length-map places (λ place. get_or t.sets place []) in
      let wide : length marks.strong ≡ t.width = table.marked in
      let all : length marks.strong ≡ elements = are.marks.count in
      record {
        within = table.placed.each i lt;
        exact = λ e below. ap (λ set. has set e) (sym (strong_at-place t places i lt)) ∙ are.sets i (omega arith) e (omega arith);
      }

  new-sets : (i : ℕ) → i < length n.facts → IsAt next (get_or more i 0) (λ e. strong (node_flow n) e i)
  new-sets = step old-sets

  within-elements : (e : ℕ) → e < elements → (e < length marks.strong) × (e < next.width)
  within-elements e lt =
      let wide : length marks.strong ≡ t.width = table.marked in
      let same : next.width ≡ t.width = grows.width in
      let all : length marks.strong ≡ elements = are.marks.count in
      (omega arith, omega arith)

  numbers : All (λ i. i < length n.facts) (map (λ p. p.0) ps)
  numbers = All-map (λ i. i < length n.facts) (λ p. p.0) ps valid

  strong-more : (e : ℕ) → e < elements → flag new.strong e ≡ (list_any (strong (node_flow n) e) (map (λ p. p.0) ps) || flag marks.strong e)
  strong-more e lt = s e (within-elements e lt).0 ∙ ap (λ b. b || flag marks.strong e)
      (tested-strong n next more ps e (within-elements e lt).1 (all_from (λ p. IsAt next (get_or more p.0 0) (λ e. strong (node_flow n) e p.0)) ps
      (λ p i. new-sets p.0 (of_all (λ p. p.0 < length n.facts) ps p valid i))))

  pub kept-more : AreKept (node_flow n) (length n.facts) (before ++ map (λ p. p.0) ps) elements (record { strong = sets_at next more; reached = flags; marks = new })
  kept-more = record {
    nodes = length-map more (λ place. get_or next.sets place []) ∙ long;
    within = all-valid n is low before (map (λ p. p.0) ps) elements (record { strong = sets_at t places; reached = old; marks = marks }) are few numbers flags raised all made (reached are.reached);
    sets = λ i lt e below. ap (λ set. has set e) (strong_at-place next more i (omega arith)) ∙ (new-sets i lt).exact e (within-elements e below).1;
    flags = all;
    reached = reached are.reached;
    marks = marks-more n is low before (map (λ p. p.0) ps) elements (record { strong = sets_at t places; reached = old; marks = marks }) are few numbers flags raised all made (reached are.reached)
        new (count ∙ are.marks.count) strong-more (λ e lt. w e (within-elements e lt).0);
  }

-- where no flag of an element is raised anew it has the mark that it had
pub mark-same : (old new : ElementMarks) (e : ℕ) (s w : Bool) → flag new.strong e ≡ (s || flag old.strong e) → flag new.some e ≡ (w || flag old.some e)
    → (flag old.strong e ≡ false → s ≡ false) → (flag old.some e ≡ false → w ≡ false) → mark_of new (Some e) ≡ mark_of old (Some e)
mark-same old new e s w strongs somes no-strong no-some = mark_by (flag new.strong e) (flag old.strong e) (flag new.some e) (flag old.some e) (strongs ∙ stays s (flag old.strong e) no-strong) (somes ∙ stays w (flag old.some e) no-some)
  where
    stays : (a b : Bool) → (b ≡ false → a ≡ false) → (a || b) ≡ b
    stays true true f = refl
    stays true false f = f refl
    stays false b f = refl

    mark_by : (a b c d : Bool) → a ≡ b → c ≡ d → cond a Strong (cond c Weak Uncovered) ≡ cond b Strong (cond d Weak Uncovered)
    mark_by a b c d e f = ap (λ v. cond v Strong (cond c Weak Uncovered)) e ∙ ap (λ v. cond b Strong (cond v Weak Uncovered)) f
