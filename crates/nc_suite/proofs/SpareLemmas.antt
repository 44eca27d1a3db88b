-- Whether a test is spare, as the counts of the tests that are still kept have it.
use Rattle.std.proofs.Common.{◌≡◌, ◌↔◌, ℕ, suc, zero, ◌+◌, ◌-◌, ◌^◌, ◌<◌, ◌≤◌, inl, inr, Bool, true, false, ◌||◌, cond, List, [], ◌∷◌, ◌++◌, length, take, get_or, Some, sym, ap, ◌∙◌, subst, refl, arith, All}
use Rattle.std.proofs.lemmas.Bool.{lt-ltb}
use Rattle.std.proofs.lemmas.List.Folds.{list_any-append}
use Rattle.std.proofs.lemmas.List.Sums.{sum_by-cons, sum_by-append, sum_by-le}
use Rattle.std.specs.List.{Any, list_any, sum_by}
use Rattle.nc_types.proofs.Truth.{or_assoc}
use Rattle.nc_graph.specs.Derivation.{IsStrong, IsInSome, strong, occurs}
use Rattle.nc_graph.specs.Flow.{Flow}
use Rattle.nc_graph.specs.Nodes.{Nodes, node_flow, IsGraph}
use Rattle.nc_graph.proofs.DerivationLaws.{IsStrong-is, IsInSome-is}
use Rattle.nc_graph.proofs.Members.{In, in_parts, flat_map_in, all_from}
use Rattle.nc_marks.specs.declared.mark.Mark.{Mark}
use Rattle.nc_marks.specs.declared.mark.Mark.TheVariants.{Strong, Weak, Uncovered, Outside}
use Rattle.nc_marks.specs.Marks.{IsMark}
use Rattle.nc_marks.specs.Reach.{strong_in, occurs_in}
use Rattle.nc_marks.proofs.MarkLemmas.{any-true, true-any}
use Rattle.nc_suite.specs.Counts.{Counts, strong_count, covered_count, strong_by, covered_by, Adds, AreAmong, AreCounts, HasRoom, IsSpared, AreSpared, mark_by, mark_for}
use Rattle.nc_suite.specs.Suite.{facts_of, tests_at, still, HasSameMarks, IsSpare, Leaves, IsSuite}
use Rattle.nc_suite.proofs.TouchLemmas.{or-moved}
use Rattle.nc_suite.proofs.SuiteLemmas.{still-stays, still-all, in-mapped}

unset : (b : Bool) → (b ≡ true → ⊥) → b ≡ false
unset true none = absurd (none refl)
unset false none = refl

-- ---- the marks of nodes, by what is worked out

module _ {F : Type 0} (n : Nodes F) (is : IsGraph n) where
  abbrev pub AreNodes : List ℕ → Type 0
  AreNodes xs = All (λ i. i < length n.facts) xs

  module _ (e : ℕ) (xs : List ℕ) (valid : AreNodes xs) where
    strongs : Any (IsStrong (node_flow n) e) xs ↔ (strong_in (node_flow n) e xs ≡ true)
    strongs =
        let decides : All (λ i. IsStrong (node_flow n) e i ↔ (strong (node_flow n) e i ≡ true)) xs =
        λ k d h. IsStrong-is (node_flow n) is.flow e (get_or xs k d) (lt-ltb (get_or xs k d) (length n.facts) (valid k d h)) in
        (true-any (IsStrong (node_flow n) e) (strong (node_flow n) e) xs decides, any-true (IsStrong (node_flow n) e) (strong (node_flow n) e) xs decides)

    somes : Any (IsInSome (node_flow n) e) xs ↔ (occurs_in (node_flow n) e xs ≡ true)
    somes =
        let decides : All (λ i. IsInSome (node_flow n) e i ↔ (occurs (node_flow n) e i ≡ true)) xs =
        λ k d h. IsInSome-is (node_flow n) is.flow e (get_or xs k d) (lt-ltb (get_or xs k d) (length n.facts) (valid k d h)) in
        (true-any (IsInSome (node_flow n) e) (occurs (node_flow n) e) xs decides, any-true (IsInSome (node_flow n) e) (occurs (node_flow n) e) xs decides)

    mark-told : (m : Mark) → IsMark (node_flow n) xs (Some e) m → m ≡ mark_for (node_flow n) xs e
    mark-told Strong i = sym (ap (λ s. mark_by s (occurs_in (node_flow n) e xs)) (strongs.0 i))
    mark-told Weak i =
        sym (ap (λ s. mark_by s (occurs_in (node_flow n) e xs)) (unset (strong_in (node_flow n) e xs) (λ h. i.0 (strongs.1 h))) ∙ ap (mark_by false) (somes.0 i.1))
    mark-told Uncovered i =
        sym (ap (λ s. mark_by s (occurs_in (node_flow n) e xs)) (unset (strong_in (node_flow n) e xs) (λ h. i.0 (strongs.1 h)))
        ∙ ap (mark_by false) (unset (occurs_in (node_flow n) e xs) (λ h. i.1 (somes.1 h))))
    mark-told Outside i = absurd i

    mark-at : (s w : Bool) → strong_in (node_flow n) e xs ≡ s → occurs_in (node_flow n) e xs ≡ w → IsMark (node_flow n) xs (Some e) (mark_by s w)
    mark-at true w a b = strongs.1 a
    mark-at false true a b = (λ x. let yes = strongs.0 x in absurd (cc), somes.1 b)
    mark-at false false a b = (λ x. let yes = strongs.0 x in absurd (cc), λ x. let yes = somes.0 x in absurd (cc))

    mark-made : (m : Mark) → m ≡ mark_for (node_flow n) xs e → IsMark (node_flow n) xs (Some e) m
    mark-made m same = subst (IsMark (node_flow n) xs (Some e)) (sym same) (mark-at (strong_in (node_flow n) e xs) (occurs_in (node_flow n) e xs) refl refl)

  -- facts have the same marks where these are worked out to be the same
  pub same-told : (elements : ℕ) (xs ys : List ℕ) → AreNodes xs → AreNodes ys → HasSameMarks (node_flow n) elements xs ys
      → (e : ℕ) → e < elements → mark_for (node_flow n) xs e ≡ mark_for (node_flow n) ys e
  same-told elements xs ys v w same e lt =
      mark-told e ys w (mark_for (node_flow n) xs e) ((same e lt (mark_for (node_flow n) xs e)).0 (mark-made e xs v (mark_for (node_flow n) xs e) refl))

  pub same-made : (elements : ℕ) (xs ys : List ℕ) → AreNodes xs → AreNodes ys → ((e : ℕ) → e < elements → mark_for (node_flow n) xs e ≡ mark_for (node_flow n) ys e)
      → HasSameMarks (node_flow n) elements xs ys
  same-made elements xs ys v w same e lt m = (
    λ i. mark-made e ys w m (mark-told e xs v m i ∙ same e lt),
    λ i. mark-made e xs v m (mark-told e ys w m i ∙ sym (same e lt)),
  )

-- ---- what holds of some test, and the number of those of which it holds

-- the condition tells that the number isn't 0
abbrev pub Tells : Bool → ℕ → Type 0
Tells b n = (b ≡ true → 1 ≤ n) × (b ≡ false → n ≡ 0)

tells-more : (p : Bool) (b : Bool) (f n : ℕ) → f ≡ cond p 1 0 → Tells b n → Tells (p || b) (f + n)
tells-more true b f n e t = (λ h. omega arith, λ h. absurd (cc))
tells-more false b f n e t = (λ h. let m = t.0 h in omega arith, λ h. let m = t.1 h in omega arith)

tells-sum : {X : Type 0} (p : X → Bool) (f : X → ℕ) (ts : List X) → ((t : X) → f t ≡ cond (p t) 1 0) → Tells (list_any p ts) (sum_by f ts)
tells-sum p f [] each = (λ h. absurd (cc), λ h. refl)
tells-sum p f (t ∷ ts) each =
    subst (Tells (p t || list_any p ts)) (sym (sum_by-cons f t ts)) (tells-more (p t) (list_any p ts) (f t) (sum_by f ts) (each t) (tells-sum p f ts each))

strong-by : (s w : Bool) → strong_by (mark_by s w) ≡ cond s 1 0
strong-by true w = refl
strong-by false true = refl
strong-by false false = refl

covered-by : (s w : Bool) → covered_by (mark_by s w) ≡ cond (s || w) 1 0
covered-by true w = refl
covered-by false true = refl
covered-by false false = refl

any-facts : (p : ℕ → Bool) (ts : List (List ℕ)) → list_any p (facts_of ts) ≡ list_any (list_any p) ts
any-facts p [] = refl
any-facts p (t ∷ ts) = list_any-append p t (facts_of ts) ∙ ap (λ b. list_any p t || b) (any-facts p ts)

any-both : {X : Type 0} (p q : X → Bool) (ts : List X) → list_any (λ t. p t || q t) ts ≡ (list_any p ts || list_any q ts)
any-both p q [] = refl
any-both p q (t ∷ ts) = ap (λ b. (p t || q t) || b) (any-both p q ts) ∙ four (p t) (q t) (list_any p ts) (list_any q ts)
  where
    four : (a b c d : Bool) → ((a || b) || (c || d)) ≡ ((a || c) || (b || d))
    four true b c d = refl
    four false true true d = refl
    four false true false d = refl
    four false false c d = refl

-- one test among others
module _ {X : Type 0} (before after : List X) (t : X) where
  any-one : (p : X → Bool) → list_any p (before ++ t ∷ after) ≡ (p t || list_any p (before ++ after))
  any-one p =
      list_any-append p before (t ∷ after) ∙ sym (or-moved (list_any p before) (p t) (list_any p after)) ∙ or_assoc (p t) (list_any p before) (list_any p after)
      ∙ ap (λ b. p t || b) (sym (list_any-append p before after))

  pub sum-one : (f : X → ℕ) → sum_by f (before ++ t ∷ after) ≡ f t + sum_by f (before ++ after)
  sum-one f =
      let a = sum_by-append f before (t ∷ after) in
      let b = sum_by-cons f t after in
      let c = sum_by-append f before after in
      omega arith

-- an element keeps its mark without a test exactly where its counts are as they have to be
decide : (s w rs rw : Bool) (c : Counts) (e ns nc : ℕ) → strong_count c e ≡ strong_by (mark_by s w) + ns → covered_count c e ≡ covered_by (mark_by s w) + nc → Tells rs ns → Tells (rs || rw) nc
    → (mark_by rs rw ≡ mark_by (s || rs) (w || rw)) ↔ IsSpared c e (mark_by s w)
decide true w true rw c e ns nc a b t u = (λ x. let m = t.0 refl in omega arith, λ x. refl)
decide true w false true c e ns nc a b t u = (λ x. absurd (cc), λ x. let m = t.1 refl in absurd (omega (arith, x)))
decide true w false false c e ns nc a b t u = (λ x. absurd (cc), λ x. let m = t.1 refl in absurd (omega (arith, x)))
decide false true true rw c e ns nc a b t u = (λ x. let m = t.0 refl in inl (omega arith), λ x. refl)
decide false true false true c e ns nc a b t u = (λ x. let m = u.0 refl in inr (omega arith), λ x. refl)
decide false true false false c e ns nc a b t u = (
  λ x. absurd (cc),
  λ x. let m = t.1 refl in let k = u.1 refl in elim x [ inl y ↦ absurd (omega (arith, y)) | inr y ↦ absurd (omega (arith, y)) ],
)
decide false false rs rw c e ns nc a b t u = (λ x. tt, λ x. refl)

-- ---- the tests that are still kept, and their counts

-- what a mark adds is 1 at most
pub strong-most : (m : Mark) → strong_by m ≤ 1
strong-most Strong = omega arith
strong-most Weak = omega arith
strong-most Uncovered = omega arith
strong-most Outside = omega arith

pub covered-most : (m : Mark) → covered_by m ≤ 1
covered-most Strong = omega arith
covered-most Weak = omega arith
covered-most Uncovered = omega arith
covered-most Outside = omega arith

module _ (g : Flow ℕ) (count : ℕ) where
  strongs-by : List ℕ → ℕ → ℕ
  strongs-by t e = strong_by (mark_for g t e)

  -- no more tests than 32 bits count leave room
  pub counts-room : (ts : List (List ℕ)) (c : Counts) → length ts < 2 ^ 32 - 1 → AreCounts g count ts c → HasRoom c
  counts-room ts c few are = record {
    strong = λ e lt. (let s = are.strong e (subst (λ n. e < n) are.elements lt) in
        let m = sum_by-le (λ test. strong_by (mark_for g test e)) 1 ts (λ k d h. strong-most (mark_for g (get_or ts k d) e)) in omega arith);
    covered = λ e lt. (let s = are.covered e (subst (λ n. e < n) are.elements lt) in
        let m = sum_by-le (λ test. covered_by (mark_for g test e)) 1 ts (λ k d h. covered-most (mark_for g (get_or ts k d) e)) in omega arith);
  }

  pub counts-more : (ts : List (List ℕ)) (t : List ℕ) (a b : Counts) → AreCounts g count ts a → Adds (mark_for g t) a b → AreCounts g count (ts ++ t ∷ []) b
  counts-more ts t a b are adds = record {
    elements = adds.elements ∙ are.elements;
    strong = λ e lt. (let s = are.strong e lt in let m = adds.strong e (subst (λ n. e < n) (sym are.elements) lt) in
        let k = sum_by-append (λ test. strong_by (mark_for g test e)) ts (t ∷ []) in let l = sum_by-cons (λ test. strong_by (mark_for g test e)) t [] in omega arith);
    covered = λ e lt. (let s = are.covered e lt in let m = adds.covered e (subst (λ n. e < n) (sym are.elements) lt) in
        let k = sum_by-append (λ test. covered_by (mark_for g test e)) ts (t ∷ []) in let l = sum_by-cons (λ test. covered_by (mark_for g test e)) t [] in omega arith);
  }

  pub room-less : (M : ℕ → Mark) (a b : Counts) → Adds M a b → HasRoom b → HasRoom a
  room-less M a b adds room = record {
    strong = λ e lt. (let m = adds.strong e lt in let r = room.strong e (subst (λ n. e < n) (sym adds.elements) lt) in omega arith);
    covered = λ e lt. (let m = adds.covered e lt in let r = room.covered e (subst (λ n. e < n) (sym adds.elements) lt) in omega arith);
  }

  -- of the tests that are still kept, the last to be looked at
  module _ (tests : List (List ℕ)) (turn : ℕ) (stay : List ℕ) (lt : turn < length tests) (c : Counts) (are : AreCounts g count (still tests (suc turn) stay) c) where
    abbrev pub here : List ℕ
    here = get_or tests turn []

    parts : still tests (suc turn) stay ≡ take turn tests ++ here ∷ tests_at tests stay
    parts = still-stays tests turn stay lt

    strong-parts : (e : ℕ) → e < count → strong_count c e ≡ strong_by (mark_for g here e) + sum_by (λ test. strong_by (mark_for g test e)) (still tests turn stay)
    strong-parts e below = are.strong e below ∙ ap (sum_by (λ test. strong_by (mark_for g test e))) parts ∙ sum-one (take turn tests) (tests_at tests stay) here (λ test. strong_by (mark_for g test e))

    covered-parts : (e : ℕ) → e < count → covered_count c e ≡ covered_by (mark_for g here e) + sum_by (λ test. covered_by (mark_for g test e)) (still tests turn stay)
    covered-parts e below = are.covered e below ∙ ap (sum_by (λ test. covered_by (mark_for g test e))) parts ∙ sum-one (take turn tests) (tests_at tests stay) here (λ test. covered_by (mark_for g test e))

    pub among-still : AreAmong (mark_for g here) c
    among-still = record {
      strong = λ e below. (let m = strong-parts e (subst (λ n. e < n) are.elements below) in omega arith);
      covered = λ e below. (let m = covered-parts e (subst (λ n. e < n) are.elements below) in omega arith);
    }

    pub counts-left : (b : Counts) → Adds (mark_for g here) b c → AreCounts g count (still tests turn stay) b
    counts-left b adds = record {
      elements = sym adds.elements ∙ are.elements;
      strong = λ e below. (let m = strong-parts e below in let a = adds.strong e (subst (λ n. e < n) (sym are.elements ∙ adds.elements) below) in omega arith);
      covered = λ e below. (let m = covered-parts e below in let a = adds.covered e (subst (λ n. e < n) (sym are.elements ∙ adds.elements) below) in omega arith);
    }

    pub counts-stay : AreCounts g count (still tests turn (turn ∷ stay)) c
    counts-stay = subst (λ ts. AreCounts g count ts c) parts are

    any-parts : (p : ℕ → Bool) → list_any p (facts_of (still tests (suc turn) stay)) ≡ (list_any p here || list_any p (facts_of (still tests turn stay)))
    any-parts p =
        any-facts p (still tests (suc turn) stay) ∙ ap (list_any (list_any p)) parts ∙ any-one (take turn tests) (tests_at tests stay) here (list_any p)
        ∙ ap (λ b. list_any p here || b) (sym (any-facts p (still tests turn stay)))

    pub spare-told : (e : ℕ) → e < count
        → (mark_for g (facts_of (still tests turn stay)) e ≡ mark_for g (facts_of (still tests (suc turn) stay)) e) ↔ IsSpared c e (mark_for g here e)
    spare-told e below =
        let rest = still tests turn stay in
        let d = decide (strong_in g e here) (occurs_in g e here) (strong_in g e (facts_of rest)) (occurs_in g e (facts_of rest)) c e
        (sum_by (λ test. strong_by (mark_for g test e)) rest) (sum_by (λ test. covered_by (mark_for g test e)) rest) (strong-parts e below) (covered-parts e below)
        (subst (λ b. Tells b (sum_by (λ test. strong_by (mark_for g test e)) rest)) (sym (any-facts (strong g e) rest))
        (tells-sum (strong_in g e) (λ test. strong_by (mark_for g test e)) rest (λ t. strong-by (strong_in g e t) (occurs_in g e t))))
        (subst (λ b. Tells b (sum_by (λ test. covered_by (mark_for g test e)) rest))
        (any-both (strong_in g e) (occurs_in g e) rest ∙ ap (λ b. b || list_any (occurs_in g e) rest) (sym (any-facts (strong g e) rest))
        ∙ ap (λ b. strong_in g e (facts_of rest) || b) (sym (any-facts (occurs g e) rest)))
        (tells-sum (λ t. strong_in g e t || occurs_in g e t) (λ test. covered_by (mark_for g test e)) rest (λ t. covered-by (strong_in g e t) (occurs_in g e t)))) in
        let whole : mark_for g (facts_of (still tests (suc turn) stay)) e
        ≡ mark_by (strong_in g e here || strong_in g e (facts_of rest)) (occurs_in g e here || occurs_in g e (facts_of rest))
        = ap (λ s. mark_by s (occurs_in g e (facts_of (still tests (suc turn) stay)))) (any-parts (strong g e))
        ∙ ap (mark_by (strong_in g e here || strong_in g e (facts_of rest))) (any-parts (occurs g e)) in
        (λ same. d.0 (same ∙ whole), λ spared. d.1 spared ∙ sym whole)

-- ---- the nodes of tests

in-take : {X : Type 0} (xs : List X) (m : ℕ) (x : X) → In x (take m xs) → In x xs
in-take [] zero x i = i
in-take [] (suc m) x i = i
in-take (y ∷ ys) zero x i = absurd i
in-take (y ∷ ys) (suc m) x i = elim i [ inl e ↦ inl e | inr j ↦ inr (in-take ys m x j) ]

in-at : (tests : List (List ℕ)) (p f : ℕ) → In f (get_or tests p []) → (t : List ℕ) × In t tests × In f t
in-at [] p f i = absurd i
in-at (t ∷ ts) zero f i = (t, inl refl, i)
in-at (t ∷ ts) (suc p) f i = let r = in-at ts p f i in (r.0, inr r.1, r.2)

module _ {F : Type 0} (n : Nodes F) (is : IsGraph n) (elements : ℕ) (tests : List (List ℕ)) (valid : (t : List ℕ) → In t tests → (f : ℕ) → In f t → f < length n.facts) where
  valid-still : (turn : ℕ) (stay : List ℕ) → All (λ i. i < length n.facts) (facts_of (still tests turn stay))
  valid-still turn stay = all_from (λ i. i < length n.facts) (facts_of (still tests turn stay)) (λ f i.
      let r = flat_map_in (λ t. t) (still tests turn stay) f i in
      elim (in_parts (take turn tests) (tests_at tests stay) r.0 r.1) [
        | inl j ↦ valid r.0 (in-take tests turn r.0 j) f r.2
        | inr j ↦ let q = in-mapped (λ place. get_or tests place []) stay r.0 j in
            let s = in-at tests q.0 f (subst (In f) (sym q.2) r.2) in valid s.0 s.1 f s.2
      ])

  module _ (turn : ℕ) (stay : List ℕ) (lt : turn < length tests) (c : Counts) (are : AreCounts (node_flow n) elements (still tests (suc turn) stay) c) where
    pub spare-is : AreSpared (mark_for (node_flow n) (get_or tests turn [])) c → IsSpare (node_flow n) elements tests turn stay
    spare-is spared = same-made n is elements (facts_of (still tests turn stay)) (facts_of (still tests (suc turn) stay)) (valid-still turn stay) (valid-still (suc turn) stay)
        (λ e below. (spare-told (node_flow n) elements tests turn stay lt c are e below).1 (spared e (subst (λ m. e < m) (sym are.elements) below)))

    pub is-spare : IsSpare (node_flow n) elements tests turn stay → AreSpared (mark_for (node_flow n) (get_or tests turn [])) c
    is-spare spare e below =
        let lt2 : e < elements = subst (λ m. e < m) are.elements below in
        (spare-told (node_flow n) elements tests turn stay lt c are e lt2).0
        (same-told n is elements (facts_of (still tests turn stay)) (facts_of (still tests (suc turn) stay)) (valid-still turn stay) (valid-still (suc turn) stay) spare e lt2)

  -- the next turn, where those of the places above are done
  module _ (turn k : ℕ) (next : turn ≡ suc k) (within : turn ≤ length tests) (stay : List ℕ) (c : Counts) (are : AreCounts (node_flow n) elements (still tests turn stay) c) where
    lt : k < length tests
    lt = omega arith

    are-next : AreCounts (node_flow n) elements (still tests (suc k) stay) c
    are-next = subst (λ m. AreCounts (node_flow n) elements (still tests m stay) c) next are

    pub turn-among : AreAmong (mark_for (node_flow n) (get_or tests k [])) c
    turn-among = among-still (node_flow n) elements tests k stay lt c are-next

    pub turn-left : (b : Counts) → Adds (mark_for (node_flow n) (get_or tests k [])) b c → AreCounts (node_flow n) elements (still tests k stay) b
    turn-left b adds = counts-left (node_flow n) elements tests k stay lt c are-next b adds

    pub turn-stays : AreCounts (node_flow n) elements (still tests k (k ∷ stay)) c
    turn-stays = counts-stay (node_flow n) elements tests k stay lt c are-next

    module _ (leaves : (suite : List ℕ) → Leaves (node_flow n) elements tests turn stay suite → IsSuite (node_flow n) elements tests suite) (suite : List ℕ) where
      pub leaves-left : AreSpared (mark_for (node_flow n) (get_or tests k [])) c → Leaves (node_flow n) elements tests k stay suite → IsSuite (node_flow n) elements tests suite
      leaves-left spared l = leaves suite (subst (λ m. Leaves (node_flow n) elements tests m stay suite) (sym next) (inl (spare-is k stay lt c are-next spared, l)))

      pub leaves-stays : (AreSpared (mark_for (node_flow n) (get_or tests k [])) c → ⊥) → Leaves (node_flow n) elements tests k (k ∷ stay) suite → IsSuite (node_flow n) elements tests suite
      leaves-stays none l = leaves suite (subst (λ m. Leaves (node_flow n) elements tests m stay suite) (sym next) (inr (λ s. none (is-spare k stay lt c are-next s), l)))

-- before the first turn all tests are still kept
pub counts-first : (g : Flow ℕ) (count : ℕ) (tests : List (List ℕ)) (turn : ℕ) (stay : List ℕ) (c : Counts) → turn ≡ length tests → stay ≡ [] → AreCounts g count tests c → AreCounts g count (still tests turn stay) c
counts-first g count tests turn stay c all none are = rw all (rw none (subst (λ ts. AreCounts g count ts c) (sym (still-all tests)) are))

pub leaves-first : (g : Flow ℕ) (elements : ℕ) (tests : List (List ℕ)) (turn : ℕ) (stay suite : List ℕ) → turn ≡ length tests → stay ≡ [] → Leaves g elements tests turn stay suite → IsSuite g elements tests suite
leaves-first g elements tests turn stay suite all none l = subst (λ s. Leaves g elements tests (length tests) s suite) none (subst (λ m. Leaves g elements tests m stay suite) all l)

-- and after the last one what stays is the suite
pub leaves-last : (g : Flow ℕ) (elements : ℕ) (tests : List (List ℕ)) (turn : ℕ) (stay : List ℕ) → turn ≡ 0 → Leaves g elements tests turn stay stay
leaves-last g elements tests turn stay last = subst (λ m. Leaves g elements tests m stay stay) (sym last) refl
