-- Dead elements: they are one list, and no other.
use Rattle.std.proofs.Common.{◌≡◌, ◌↔◌, ℕ, ◌+◌, ◌<◌, Bool, true, false, not, ◌||◌, if◌then◌else◌, List, [], ◌∷◌, map, filter, Contains, refl, sym, ap, ◌∙◌, subst, inl, inr, arith}
use Rattle.std.specs.List.{list_any, range_with_len}
use Rattle.std.specs.List.Sorted.{IsStrictlyIncreasing}
use Rattle.std.proofs.lemmas.List.FromFn.{length-range_with_len, get_or-range_with_len}
use Rattle.std.proofs.lemmas.List.Kept.{AllPairs-from_increasing, IsStrictlyIncreasing-filter}
use Rattle.nc_types.proofs.Members.{In, in_at, in_by_contains, contains_by_in, in_by_filter, in_filter}
use Rattle.nc_types.specs.Network.{element_count}
use Rattle.nc_types.specs.declared.config.ElementId.{ElementId}
use Rattle.nc_graph.specs.Derivation.{IsStrong, IsInSome, strong, occurs}
use Rattle.nc_tables.specs.State.{StateView}
use Rattle.nc_fact.specs.declared.fact.Fact.{Fact}
use Rattle.nc_fact.specs.Facts.{holds}
use Rattle.nc_fact.specs.Roots.{IsRoot, roots}
use Rattle.nc_rules.specs.Rules.{flow_of}
use Rattle.nc_suite.specs.Dead as plain
use Rattle.nc_engine.specs.DeadElements.{IsDead, AreDead, AreTold, is_in_access_list, dead_of}
use Rattle.nc_engine.specs.declared.dead_elements.DeadElements.{DeadElements}
use Rattle.nc_engine.specs.declared.dead_elements.DeadElements.TheVariants.{Known, TooMany}
use Rattle.nc_engine.specs.Session.{State, TellsDead}
use Rattle.nc_engine.specs.Work.{IsKnownDead, known_text}
use Rattle.nc_engine.proofs.Carrying.{Hold, same_rising}
use Rattle.nc_engine.proofs.Marked.{some_yes, some_no}

-- ---- no other

dead_once : (s : StateView) (xs ys : List ℕ) → AreDead s xs → AreDead s ys → xs ≡ ys
dead_once s xs ys p q =
    same_rising xs ys (AllPairs-from_increasing xs p.ascend) (AllPairs-from_increasing ys q.ascend)
    (λ v c. (q.exactly v).1 ((p.exactly v).0 c)) (λ v c. (p.exactly v).1 ((q.exactly v).0 c))

pub told_once : (s : StateView) (r t : List ℕ) → AreTold s r → AreTold s t → r ≡ t
told_once s r t p q = p.text ∙ ap (dead_of s.routers) (dead_once s p.elements q.elements p.dead q.dead) ∙ sym q.text

-- ---- those that stand in no derivation of a root

not_true : (b : Bool) → not b ≡ true → b ≡ false
not_true true is = absurd cc
not_true false is = refl

-- the numbers of what is kept are what is kept of the numbers
pub numbers_kept : (p : ℕ → Bool) (xs : List ElementId) → map (λ e. e.0) (filter (λ e. p e.0) xs) ≡ filter p (map (λ e. e.0) xs)
numbers_kept p [] = refl
numbers_kept p (x ∷ xs) = on (p x.0) (numbers_kept p xs)
  where
    on : (b : Bool) → map (λ e. e.0) (filter (λ e. p e.0) xs) ≡ filter p (map (λ e. e.0) xs)
        → map (λ e. e.0) (if b then x ∷ filter (λ e. p e.0) xs else filter (λ e. p e.0) xs) ≡ (if b then x.0 ∷ filter p (map (λ e. e.0) xs) else filter p (map (λ e. e.0) xs))
    on true rest = ap (λ (ns : List ℕ). x.0 ∷ ns) rest
    on false rest = rest

module _ (s : StateView) where
  -- the elements that aren't of access lists
  abbrev others : ℕ → Bool
  others e = not (is_in_access_list s.routers e)

  pub dead_from : (each : (f : Fact) → Contains (roots s) f ↔ (IsRoot f × (holds s f ≡ true))) (listed : List ℕ)
      → plain.AreDead (flow_of s) (roots s) (element_count s.routers) listed → AreDead s (filter others listed)
  dead_from each listed are = record {
    ascend = IsStrictlyIncreasing-filter others listed are.ascends;
    exactly = λ e. (
      (λ c.
          let i = in_by_filter others listed e (in_by_contains (filter others listed) e c) in
          let is = (are.exact e).0 (contains_by_in listed e i.0) in
          (is.0, not_true (is_in_access_list s.routers e) i.1, λ fact root held some. let at = (each fact).1 (root, held) in is.1 (at.0, fact, at.1, at.2, some))),
      (λ is.
          let c = (are.exact e).1 (is.0, λ some. let root = (each some.1).0 (some.0, some.2, some.3) in is.2 some.1 root.0 root.1 some.4) in
          contains_by_in (filter others listed) e (in_filter others listed e (in_by_contains listed e c) (ap not is.1))),
    );
  }

-- ---- there is one

range_rises : (n : ℕ) → IsStrictlyIncreasing (range_with_len 0 n)
range_rises n k within =
    let few : k + 1 < n = omega (arith, length-range_with_len 0 n, within) in
    omega (arith, get_or-range_with_len 0 n k 0 (omega (arith, few)), get_or-range_with_len 0 n (k + 1) 0 few)

below_range : (n v : ℕ) → Contains (range_with_len 0 n) v → v < n
below_range n v c =
    let few : c.0 < n = omega (arith, c.1, length-range_with_len 0 n) in
    omega (arith, few, c.2, get_or-range_with_len 0 n c.0 v few)

of_range : (n v : ℕ) → v < n → In v (range_with_len 0 n)
of_range n v lt =
    subst (λ (w : ℕ). In w (range_with_len 0 n)) (omega (arith, get_or-range_with_len 0 n v 0 lt)) (in_at (range_with_len 0 n) v 0 (omega (arith, lt, length-range_with_len 0 n)))

-- neither of two tests is met
neither : (a b : Bool) → not (a || b) ≡ true → (a ≡ false) × (b ≡ false)
neither true b is = absurd cc
neither false b is = (refl, not_true b is)

none : (a b : Bool) → a ≡ false → b ≡ false → not (a || b) ≡ true
none true b first second = absurd cc
none false b first second = ap not second

module _ (s : StateView) (somes : (e : ℕ) (f : Fact) → (flow_of s).holds f ≡ true → IsInSome (flow_of s) e f ↔ (occurs (flow_of s) e f ≡ true))
    (strongs : (e : ℕ) (f : Fact) → (flow_of s).holds f ≡ true → IsStrong (flow_of s) e f ↔ (strong (flow_of s) e f ≡ true))
    (each : (f : Fact) → Contains (roots s) f ↔ (IsRoot f × (holds s f ≡ true))) (hold : Hold (flow_of s) (roots s)) where
  -- some root has the element in a derivation
  met : ℕ → Bool
  met e = list_any (occurs (flow_of s) e) (roots s)

  to_dead : (e : ℕ) → met e ≡ false → IsDead s e
  unfolding met
  to_dead e is fact root holds some =
      let c = (each fact).1 (root, holds) in
      some_no (flow_of s) strongs somes (roots s) hold e is (c.0, fact, c.1, c.2, some)

  from_dead : (e : ℕ) → IsDead s e → met e ≡ false
  unfolding met
  from_dead e dead = on (met e) refl
    where
      on : (b : Bool) → met e ≡ b → met e ≡ false
      on false is = is
      on true is =
          let some = some_yes (flow_of s) strongs somes (roots s) hold e is in
          let root = (each some.1).0 (some.0, some.2, some.3) in
          absurd (dead some.1 root.0 root.1 some.4)

  -- the numbers of all elements, and those of them that are dead
  abbrev all_numbers : List ℕ
  all_numbers = range_with_len 0 (element_count s.routers)

  abbrev unmet : ℕ → Bool
  unmet e = not (is_in_access_list s.routers e || met e)

  pub dead_some : (elements : List ℕ) × AreDead s elements
  dead_some = (
    filter unmet all_numbers,
    record {
      ascend = IsStrictlyIncreasing-filter unmet all_numbers (range_rises (element_count s.routers));
      exactly = λ e. (
        (λ c.
            let i = in_by_filter unmet all_numbers e (in_by_contains (filter unmet all_numbers) e c) in
            let is = neither (is_in_access_list s.routers e) (met e) i.1 in
            (below_range (element_count s.routers) e (contains_by_in all_numbers e i.0), is.0, to_dead e is.1)),
        (λ is. contains_by_in (filter unmet all_numbers) e
            (in_filter unmet all_numbers e (of_range (element_count s.routers) e is.0) (none (is_in_access_list s.routers e) (met e) is.1 (from_dead e is.2)))),
      );
    },
  )

-- ---- the answer

pub told-by : (s : StateView) (kept : State) (known : DeadElements) → IsKnownDead s known → TellsDead s kept (known_text s.routers known) kept
told-by s kept (Known ids) is = inl (is.0, record { elements = map (λ e. e.0) ids.items; dead = is.1; text = refl }, refl)
told-by s kept TooMany is = inr (is, (refl, refl))
