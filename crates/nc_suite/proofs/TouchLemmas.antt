-- The marks that a list gives, as it is made and as it is gone through.
use Rattle.std.proofs.Common.{◌≡◌, ℕ, suc, zero, ◌+◌, ◌<◌, Bool, true, false, ◌||◌, cond, List, [], ◌∷◌, ◌++◌, length, map, take, get_or, set, sym, ap, ◌∙◌, subst, refl, arith, nat_eq, append-nil, inl, inr, Some, slice_get}
use Rattle.std.proofs.lemmas.Bool.{eqb-true, eq-eqb, ne_eqb, cases_eq, false≢true}
use Rattle.std.proofs.lemmas.Cmp.{nat_eq_equiv}
use Rattle.std.proofs.lemmas.Map.Keys.{IsDistinct-push}
use Rattle.std.proofs.lemmas.List.{take_more, get_or-set_same, get_or-set_other}
use Rattle.std.specs.List.{list_any, IsDistinct, AllByRecursion}
use Rattle.nc_graph.proofs.Members.{In, of_all, all_from, in_parts}
use Rattle.nc_types.proofs.Truth.{or_assoc}
use Rattle.nc_graph.specs.declared.node.NodeKind.{NodeKind}
use Rattle.nc_graph.specs.declared.node.NodeKind.TheVariants.{Leaf, Every, Any}
use Rattle.nc_marks.specs.Reach.{is_leaf_of}
use Rattle.nc_marks.specs.declared.mark.Mark.{Mark}
use Rattle.nc_marks.specs.declared.mark.Mark.TheVariants.{Strong, Weak, Uncovered, Outside}
use Rattle.nc_suite.specs.declared.touch.Touch.{Touch}
use Rattle.nc_suite.specs.Counts.{is_covered, over, marked_if, mark_in, is_listed, IsListing}

pub or-moved : (a b c : Bool) → ((b || a) || c) ≡ (a || (b || c))
or-moved true true c = refl
or-moved true false c = refl
or-moved false true c = refl
or-moved false false c = refl

over-assoc : (a b c : Mark) → over (over a b) c ≡ over a (over b c)
over-assoc Strong b c = refl
over-assoc Weak b c = refl
over-assoc Uncovered b c = refl
over-assoc Outside b c = refl

pub over-kept : (m n : Mark) → is_covered m ≡ true → over m n ≡ m
over-kept Strong n h = refl
over-kept Weak n h = refl
over-kept Uncovered n h = absurd (cc)
over-kept Outside n h = absurd (cc)

covered-over : (m n : Mark) → is_covered (over m n) ≡ (is_covered m || is_covered n)
covered-over Strong n = refl
covered-over Weak n = refl
covered-over Uncovered n = refl
covered-over Outside n = refl

covered-if : (b : Bool) (m : Mark) → is_covered m ≡ true → is_covered (marked_if b m) ≡ b
covered-if true m h = h
covered-if false m h = refl

-- one more condition of the same mark
pub over-or : (m s : Mark) (a b : Bool) → is_covered s ≡ true → over (over m (marked_if a s)) (marked_if b s) ≡ over m (marked_if (a || b) s)
over-or m s a b h = over-assoc m (marked_if a s) (marked_if b s) ∙ ap (over m) (both a)
  where
    both : (a : Bool) → over (marked_if a s) (marked_if b s) ≡ marked_if (a || b) s
    both true = over-kept s (marked_if b s) h
    both false = refl

-- a mark in two steps
pub marks-more : (old mid new s : Mark) (a b c : Bool) → is_covered s ≡ true → mid ≡ over old (marked_if a s) → new ≡ over mid (marked_if b s) → c ≡ (a || b) → new ≡ over old (marked_if c s)
marks-more old mid new s a b c cov first second both =
    second ∙ ap (λ m. over m (marked_if b s)) first ∙ over-or old s a b cov ∙ ap (λ v. over old (marked_if v s)) (sym both)

pub mark_in-append : (xs ys : List Touch) (e : ℕ) → mark_in (xs ++ ys) e ≡ over (mark_in xs e) (mark_in ys e)
mark_in-append [] ys e = refl
mark_in-append (t ∷ xs) ys e =
    ap (over (marked_if (nat_eq e t.element) t.mark)) (mark_in-append xs ys e) ∙ sym (over-assoc (marked_if (nat_eq e t.element) t.mark) (mark_in xs e) (mark_in ys e))

pub over-none : (ts : List Touch) (e : ℕ) → over (mark_in ts e) Uncovered ≡ mark_in ts e
over-none ts e = sym (mark_in-append ts [] e) ∙ ap (λ (l : List Touch). mark_in l e) (append-nil ts)

pub unlisted : (ts : List Touch) (e : ℕ) → is_listed ts e ≡ false → mark_in ts e ≡ Uncovered
unlisted [] e h = refl
unlisted (t ∷ ts) e h = here (nat_eq e t.element) refl h (unlisted ts e)
  where
    here : (b : Bool) → nat_eq e t.element ≡ b → (b || is_listed ts e) ≡ false → (is_listed ts e ≡ false → mark_in ts e ≡ Uncovered) → over (marked_if (nat_eq e t.element) t.mark) (mark_in ts e) ≡ Uncovered
    here true s h rest = absurd (cc)
    here false s h rest = ap (λ b. over (marked_if b t.mark) (mark_in ts e)) s ∙ rest h

-- where all that are listed are covered, just these are
pub covered-is : (ts : List Touch) → ((t : Touch) → In t ts → is_covered t.mark ≡ true) → (e : ℕ) → is_covered (mark_in ts e) ≡ is_listed ts e
covered-is [] all e = refl
covered-is (t ∷ ts) all e =
    covered-over (marked_if (nat_eq e t.element) t.mark) (mark_in ts e)
    ∙ ap (λ b. b || is_covered (mark_in ts e)) (covered-if (nat_eq e t.element) t.mark (all t (inl refl)))
    ∙ ap (λ b. nat_eq e t.element || b) (covered-is ts (λ u i. all u (inr i)) e)

listed-map : (ts : List Touch) (e : ℕ) → list_any (nat_eq e) (map (λ t. t.element) ts) ≡ is_listed ts e
listed-map [] e = refl
listed-map (t ∷ ts) e = ap (λ b. nat_eq e t.element || b) (listed-map ts e)

map-push : (ts : List Touch) (t : Touch) → map (λ t. t.element) (ts ++ t ∷ []) ≡ map (λ t. t.element) ts ++ t.element ∷ []
map-push [] t = refl
map-push (u ∷ ts) t = ap (λ l. u.element ∷ l) (map-push ts t)

-- ---- a list that is made

pub set-flag : (flags : List Bool) (k : ℕ) → k < length flags → (e : ℕ) → get_or (set flags k true) e false ≡ (nat_eq e k || get_or flags e false)
set-flag flags k lt e = elim (cases_eq e k) [
  | inl s ↦ ap (λ i. get_or (set flags k true) i false) s ∙ get_or-set_same flags k true false lt
      ∙ sym (ap (λ b. b || get_or flags e false) (eq-eqb e k s))
  | inr ne ↦ get_or-set_other flags k e true false ne ∙ sym (ap (λ b. b || get_or flags e false) (ne_eqb e k ne))
]

pub listing-none : (flags : List Bool) → ((e : ℕ) → e < length flags → get_or flags e false ≡ false) → IsListing flags []
unfolding IsDistinct
listing-none flags low = record {
  apart = record { within = all_from (λ t. t.element < length flags) [] (λ t i. absurd i); distinct = tt };
  covered = all_from (λ t. is_covered t.mark ≡ true) [] (λ t i. absurd i);
  told = low;
}

module _ (flags : List Bool) (touches : List Touch) (is : IsListing flags touches) where
  pub listed-covered : (e : ℕ) → is_covered (mark_in touches e) ≡ is_listed touches e
  listed-covered = covered-is touches (λ t i. of_all (λ t. is_covered t.mark ≡ true) touches t is.covered i)

  module _ (t : Touch) (cov : is_covered t.mark ≡ true) where
    -- an element that is listed stays as it is
    pub mark-stays : (flagged : get_or flags t.element false ≡ true) → (e : ℕ) → e < length flags → mark_in touches e ≡ over (mark_in touches e) (marked_if (nat_eq e t.element) t.mark)
    mark-stays flagged e lt = by_cases (nat_eq e t.element) refl
      where
        by_cases : (b : Bool) → nat_eq e t.element ≡ b → mark_in touches e ≡ over (mark_in touches e) (marked_if b t.mark)
        by_cases true s = sym (over-kept (mark_in touches e) t.mark
            (listed-covered e ∙ sym (is.told e lt) ∙ ap (λ i. get_or flags i false) (eqb-true e t.element s) ∙ flagged))
        by_cases false s = sym (over-none touches e)

    -- one past all that count changes nothing
    pub mark-past : (past : t.element < length flags → ⊥) → (e : ℕ) → e < length flags → mark_in touches e ≡ over (mark_in touches e) (marked_if (nat_eq e t.element) t.mark)
    mark-past past e lt = by_cases (nat_eq e t.element) refl
      where
        by_cases : (b : Bool) → nat_eq e t.element ≡ b → mark_in touches e ≡ over (mark_in touches e) (marked_if b t.mark)
        by_cases true s = absurd (past (subst (λ i. i < length flags) (eqb-true e t.element s) lt))
        by_cases false s = sym (over-none touches e)

    pub mark-pushed : (e : ℕ) → mark_in (touches ++ t ∷ []) e ≡ over (mark_in touches e) (marked_if (nat_eq e t.element) t.mark)
    mark-pushed e = mark_in-append touches (t ∷ []) e ∙ ap (over (mark_in touches e)) (single (nat_eq e t.element))
      where
        single : (b : Bool) → over (marked_if b t.mark) Uncovered ≡ marked_if b t.mark
        single true = over-kept t.mark Uncovered cov
        single false = refl

    pub listing-pushed : (next : List Bool) → length next ≡ length flags → t.element < length flags → get_or flags t.element false ≡ false
        → ((e : ℕ) → e < length flags → get_or next e false ≡ (nat_eq e t.element || get_or flags e false)) → IsListing next (touches ++ t ∷ [])
    listing-pushed next long lt low made = record {
      apart = record {
        within = all_from (λ t. t.element < length next) (touches ++ t ∷ []) (λ u i. subst (λ n. u.element < n) (sym long) (elim (in_parts touches (t ∷ []) u i) [
          | inl j ↦ of_all (λ t. t.element < length flags) touches u is.apart.within j
          | inr j ↦ elim j [ inl s ↦ subst (λ (v : Touch). v.element < length flags) s lt | inr z ↦ absurd z ]
        ]));
        distinct = subst (IsDistinct nat_eq) (sym (map-push touches t))
            (IsDistinct-push nat_eq_equiv (map (λ t. t.element) touches) t.element is.apart.distinct (listed-map touches t.element ∙ sym (is.told t.element lt) ∙ low));
      };
      covered = all_from (λ t. is_covered t.mark ≡ true) (touches ++ t ∷ []) (λ u i. elim (in_parts touches (t ∷ []) u i) [
        | inl j ↦ of_all (λ t. is_covered t.mark ≡ true) touches u is.covered j
        | inr j ↦ elim j [ inl s ↦ subst (λ (v : Touch). is_covered v.mark ≡ true) s cov | inr z ↦ absurd z ]
      ]);
      told = λ e below. made e (subst (λ n. e < n) long below) ∙ ap (λ b. nat_eq e t.element || b) (is.told e (subst (λ n. e < n) long below))
          ∙ listed-push touches e;
    }
      where
        listed-push : (ts : List Touch) (e : ℕ) → (nat_eq e t.element || is_listed ts e) ≡ is_listed (ts ++ t ∷ []) e
        listed-push [] e = refl
        listed-push (u ∷ ts) e = sym (or-moved (nat_eq e t.element) (nat_eq e u.element) (is_listed ts e)) ∙ or_assoc (nat_eq e u.element) (nat_eq e t.element) (is_listed ts e) ∙ ap (λ b. nat_eq e u.element || b) (listed-push ts e)

  -- all flags of listed elements are lowered
  pub listing-cleared : (next : List Bool) → length next ≡ length flags → ((e : ℕ) → e < length flags → get_or next e false ≡ cond (is_listed touches e) false (get_or flags e false)) → IsListing next []
  listing-cleared next long made = listing-none next (λ e below. let lt = subst (λ n. e < n) long below in
      made e lt ∙ ap (cond (is_listed touches e) false) (is.told e lt) ∙ lowered (is_listed touches e))
    where
      lowered : (b : Bool) → cond b false b ≡ false
      lowered true = refl
      lowered false = refl

-- ---- a list that is gone through

-- the whole mark is this one, or another behind it
abbrev pub Behind : Mark → Mark → Type 0
Behind first whole = (rest : Mark) × (whole ≡ over first rest)

-- in a list without an element twice, an element isn't listed before its place
module _ (d : Touch) where
  apart-at : (x : ℕ) (ts : List Touch) (i : ℕ) → i < length ts → AllByRecursion (λ y. nat_eq x y ≡ false) (map (λ t. t.element) ts) → nat_eq (get_or ts i d).element x ≡ false
  apart-at x [] i lt all = absurd (omega arith)
  apart-at x (t ∷ ts) zero lt all = ne_eqb t.element x (λ s. false≢true (sym all.0 ∙ eq-eqb x t.element (sym s)))
  apart-at x (t ∷ ts) (suc i) lt all = apart-at x ts i (omega arith) all.1

  pub absent-before : (ts : List Touch) (i : ℕ) → i < length ts → IsDistinct nat_eq (map (λ t. t.element) ts) → mark_in (take i ts) (get_or ts i d).element ≡ Uncovered
  unfolding IsDistinct
  absent-before [] i lt dis = absurd (omega arith)
  absent-before (t ∷ ts) zero lt dis = refl
  absent-before (t ∷ ts) (suc i) lt dis =
      ap (λ b. over (marked_if b t.mark) (mark_in (take i ts) (get_or ts i d).element)) (apart-at t.element ts i (omega arith) dis.0) ∙ absent-before ts i (omega arith) dis.1

  pub first-at : (ts : List Touch) (i : ℕ) → i < length ts → IsDistinct nat_eq (map (λ t. t.element) ts)
      → Behind (get_or ts i d).mark (mark_in ts (get_or ts i d).element)
  unfolding IsDistinct
  first-at [] i lt dis = absurd (omega arith)
  first-at (t ∷ ts) zero lt dis = (mark_in ts t.element, ap (λ b. over (marked_if b t.mark) (mark_in ts t.element)) (eq-eqb t.element t.element refl))
  first-at (t ∷ ts) (suc i) lt dis =
      let r = first-at ts i (omega arith) dis.1 in
      (r.0, ap (λ b. over (marked_if b t.mark) (mark_in ts (get_or ts i d).element)) (apart-at t.element ts i (omega arith) dis.0) ∙ r.1)

  pub mark_in-more : (ts : List Touch) (i : ℕ) → i < length ts → (e : ℕ)
      → mark_in (take (i + 1) ts) e ≡ over (mark_in (take i ts) e) (over (marked_if (nat_eq e (get_or ts i d).element) (get_or ts i d).mark) Uncovered)
  mark_in-more ts i lt e = ap (λ (l : List Touch). mark_in l e) (take_more ts i d lt) ∙ mark_in-append (take i ts) (get_or ts i d ∷ []) e

-- a kind that is no leaf's
pub no-leaf : (kinds : List NodeKind) (i : ℕ) (k : NodeKind) → slice_get kinds i ≡ Some k → ((m : ℕ) → k ≡ Leaf m → ⊥) → (e : ℕ) → is_leaf_of e (get_or kinds i Every) ≡ false
no-leaf kinds i k at none e = ap (is_leaf_of e) (kind-at kinds i at) ∙ by_cases k none
  where
    kind-at : (ks : List NodeKind) (i : ℕ) → slice_get ks i ≡ Some k → get_or ks i Every ≡ k
    kind-at [] i h = absurd (cc)
    kind-at (x ∷ xs) zero h = cc
    kind-at (x ∷ xs) (suc i) h = kind-at xs i h

    by_cases : (k : NodeKind) → ((m : ℕ) → k ≡ Leaf m → ⊥) → is_leaf_of e k ≡ false
    by_cases (Leaf m) none = absurd (none m refl)
    by_cases Every none = refl
    by_cases Any none = refl
