-- The counts of tests by their marks, where one is added and where one is taken away.
use Rattle.std.proofs.Common.{◌≡◌, ℕ, ◌+◌, ◌<◌, ◌≤◌, Bool, true, false, All, List, [], ◌∷◌, ◌++◌, length, get_or, Some, sym, ◌∙◌, subst, refl, arith, append_assoc}
use Rattle.std.proofs.lemmas.List.{length_push, get_or_push, get_or_append_left}
use Rattle.std.proofs.lemmas.List.Sums.{sum_by-cons, sum_by-append, sum_by-le}
use Rattle.std.specs.List.{sum_by}
use Rattle.nc_marks.specs.Kept.{Kept}
use Rattle.nc_marks.specs.Marks.{mark_of, marked_elements}
use Rattle.nc_marks.specs.declared.mark.Mark.{Mark}
use Rattle.nc_suite.specs.Counts.{Counts, counted, strong_count, covered_count, strong_by, covered_by, Adds, AreAmong, HasRoom}
use Rattle.nc_suite.proofs.SpareLemmas.{strong-most, covered-most, sum-one}
use Rattle.bench.specs.Sums.{AreSums}

-- the marks of a test
abbrev pub marks_of : Kept → ℕ → Mark
marks_of k e = mark_of k.marks (Some e)

module _ (count : ℕ) where
  pub sums-more : (tests : List Kept) (k : Kept) (a b : Counts) → AreSums count tests a → Adds (marks_of k) a b → AreSums count (tests ++ k ∷ []) b
  sums-more tests k a b are adds = record {
    elements = adds.elements ∙ are.elements;
    strong = λ e lt. (let s = are.strong e lt in let m = adds.strong e (subst (λ n. e < n) (sym are.elements) lt) in
        let p = sum_by-append (λ j. strong_by (marks_of j e)) tests (k ∷ []) in let q = sum_by-cons (λ j. strong_by (marks_of j e)) k [] in omega arith);
    covered = λ e lt. (let s = are.covered e lt in let m = adds.covered e (subst (λ n. e < n) (sym are.elements) lt) in
        let p = sum_by-append (λ j. covered_by (marks_of j e)) tests (k ∷ []) in let q = sum_by-cons (λ j. covered_by (marks_of j e)) k [] in omega arith);
  }

  pub sums-room : (tests : List Kept) (c : Counts) → length tests ≤ 1000 → AreSums count tests c → HasRoom c
  sums-room tests c few are = record {
    strong = λ e lt. (let s = are.strong e (subst (λ n. e < n) are.elements lt) in
        let m = sum_by-le (λ j. strong_by (marks_of j e)) 1 tests (λ i d h. strong-most (marks_of (get_or tests i d) e)) in omega arith);
    covered = λ e lt. (let s = are.covered e (subst (λ n. e < n) are.elements lt) in
        let m = sum_by-le (λ j. covered_by (marks_of j e)) 1 tests (λ i d h. covered-most (marks_of (get_or tests i d) e)) in omega arith);
  }

  -- a test among those that are counted
  module _ (before after : List Kept) (k : Kept) (c : Counts) (are : AreSums count (before ++ k ∷ after) c) where
    strong-parts : (e : ℕ) → e < count → strong_count c e ≡ strong_by (marks_of k e) + sum_by (λ j. strong_by (marks_of j e)) (before ++ after)
    strong-parts e lt = are.strong e lt ∙ sum-one before after k (λ j. strong_by (marks_of j e))

    covered-parts : (e : ℕ) → e < count → covered_count c e ≡ covered_by (marks_of k e) + sum_by (λ j. covered_by (marks_of j e)) (before ++ after)
    covered-parts e lt = are.covered e lt ∙ sum-one before after k (λ j. covered_by (marks_of j e))

    pub sums-among : AreAmong (marks_of k) c
    sums-among = record {
      strong = λ e lt. (let m = strong-parts e (subst (λ n. e < n) are.elements lt) in omega arith);
      covered = λ e lt. (let m = covered-parts e (subst (λ n. e < n) are.elements lt) in omega arith);
    }

    pub sums-less : (b : Counts) → Adds (marks_of k) b c → AreSums count (before ++ after) b
    sums-less b adds = record {
      elements = sym adds.elements ∙ are.elements;
      strong = λ e lt. (let m = strong-parts e lt in let a = adds.strong e (subst (λ n. e < n) (sym are.elements ∙ adds.elements) lt) in omega arith);
      covered = λ e lt. (let m = covered-parts e lt in let a = adds.covered e (subst (λ n. e < n) (sym are.elements ∙ adds.elements) lt) in omega arith);
    }

pub room-less : (k : Kept) (a b : Counts) → Adds (marks_of k) a b → HasRoom b → HasRoom a
room-less k a b adds room = record {
  strong = λ e lt. (let m = adds.strong e lt in let r = room.strong e (subst (λ n. e < n) (sym adds.elements) lt) in omega arith);
  covered = λ e lt. (let m = adds.covered e lt in let r = room.covered e (subst (λ n. e < n) (sym adds.elements) lt) in omega arith);
}

-- ---- turns

module _ (P : Kept → Type 0) (xs : List Kept) (k : Kept) where
  all-last : All P (xs ++ k ∷ []) → P k
  all-last all = subst P (get_or_push xs k k (length xs) refl) (all (length xs) k (omega (arith, length_push xs k)))

  all-front : All P (xs ++ k ∷ []) → All P xs
  all-front all = λ i d lt. subst P (get_or_append_left xs (k ∷ []) d i lt) (all i d (omega (arith, length_push xs k, lt)))

-- the tests that are left are counted, and those that were kept
abbrev pub AreCounted : List Kept → Counts → Type 0
AreCounted left c = (kept : List Kept) × AreSums 4 (left ++ kept) c × HasRoom c × All (λ k. marked_elements k.marks ≡ 4) left

module _ (left : List Kept) (test : Kept) (old : Counts) (are : AreCounted (left ++ test ∷ []) old) where
  sums-at : AreSums 4 (left ++ test ∷ are.0) old
  sums-at = subst (λ ks. AreSums 4 ks old) (append_assoc left (test ∷ []) are.0) are.1

  pub last-elements : marked_elements test.marks ≡ counted old
  last-elements = all-last (λ k. marked_elements k.marks ≡ 4) left test are.3 ∙ sym sums-at.elements

  pub last-among : AreAmong (marks_of test) old
  last-among = sums-among 4 left are.0 test old sums-at

  pub next-counted : (spare : Bool) (new : Counts) → (spare ≡ true → Adds (marks_of test) new old) → (spare ≡ false → new ≡ old) → AreCounted left new
  next-counted true new takes stays =
      (are.0, sums-less 4 left are.0 test old sums-at new (takes refl), room-less test new old (takes refl) are.2, all-front (λ k. marked_elements k.marks ≡ 4) left test are.3)
  next-counted false new takes stays =
      (test ∷ are.0, subst (AreSums 4 (left ++ test ∷ are.0)) (sym (stays refl)) sums-at, subst HasRoom (sym (stays refl)) are.2, all-front (λ k. marked_elements k.marks ≡ 4) left test are.3)
