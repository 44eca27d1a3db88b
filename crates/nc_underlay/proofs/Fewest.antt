-- Levels: from one count of hops to the next.
use Rattle.std.proofs.Common.{◌≡◌, ◌≢◌, ℕ, zero, suc, ◌+◌, ◌-◌, ◌<◌, ◌≤◌, Bool, true, false, cond, ◌&&◌, nat_lt, nat_le, List, get_or, replicate, refl, sym, ap, subst, ◌∙◌, arith, inl, inr}
use Rattle.std.proofs.lemmas.Bool.{cases_lt, le-leb, lt-leb, le-ltb, lt-ltb}
use Rattle.std.proofs.lemmas.Bool.Decides.{nat_tests}
use Rattle.nc_types.specs.declared.TheConstants.{HOP_LIMIT}
use Rattle.nc_types.proofs.Truth.{same_truth}
use Rattle.nc_underlay.specs.Distances.{fewest_of, is_earlier, IsRight, AreRight, IsMarked, AreMarked, AreFewest}

-- ---- numbers

-- before any hop is tried, no router has a number
pub never : (n router : ℕ) → get_or (replicate n (suc HOP_LIMIT)) router (suc HOP_LIMIT) ≡ suc HOP_LIMIT
never zero router = refl
never (suc n) zero = refl
never (suc n) (suc router) = never n router

below_zero : (n : ℕ) → nat_lt n 0 ≡ false
below_zero n = grind (arith, nat_tests)

below_next : (n k : ℕ) → nat_lt n (suc k) ≡ nat_le n k
below_next n k = grind (arith, nat_tests)

-- a test over hops, made of a step: without a hop nothing is known of the routers to which it leads
pub record IsStepped (over : ℕ → ℕ → Bool) (step : (ℕ → Bool) → ℕ → Bool) : Type 0 where
  pub none : (router : ℕ) → over 0 router ≡ step (λ r. false) router
  pub more : (hops router : ℕ) → over (suc hops) router ≡ step (over hops) router
  pub wider : (f g : ℕ → Bool) → ((r : ℕ) → f r ≡ true → g r ≡ true) → (router : ℕ) → step f router ≡ true → step g router ≡ true

module _ (over : ℕ → ℕ → Bool) (step : (ℕ → Bool) → ℕ → Bool) (is : IsStepped over step) where
  same : (f g : ℕ → Bool) → ((r : ℕ) → f r ≡ g r) → (router : ℕ) → step f router ≡ step g router
  same f g alike router = same_truth (step f router) (step g router) (is.wider f g (λ r e. sym (alike r) ∙ e) router) (is.wider g f (λ r e. alike r ∙ e) router)

  -- ---- more hops lead as far

  one_more : (hops router : ℕ) → over hops router ≡ true → over (suc hops) router ≡ true
  one_more zero router e = is.more 0 router ∙ is.wider (λ r. false) (over 0) (λ r (never : false ≡ true). absurd cc) router (sym (is.none router) ∙ e)
  one_more (suc hops) router e = is.more (suc hops) router ∙ is.wider (over hops) (over (suc hops)) (one_more hops) router (sym (is.more hops router) ∙ e)

  some_more : (hops more router : ℕ) → over hops router ≡ true → over (more + hops) router ≡ true
  some_more hops zero router e = let none : 0 + hops ≡ hops = omega arith in subst (λ (k : ℕ). over k router ≡ true) (sym none) e
  some_more hops (suc more) router e = let next : suc more + hops ≡ suc (more + hops) = omega arith in subst (λ (k : ℕ). over k router ≡ true) (sym next) (one_more (more + hops) router (some_more hops more router e))

  as_far : (fewer hops router : ℕ) → fewer ≤ hops → over fewer router ≡ true → over hops router ≡ true
  as_far fewer hops router le e = subst (λ (k : ℕ). over k router ≡ true) (omega arith) (some_more fewer (hops - fewer) router e)

  -- ---- the next level

  -- what is known of fewer hops tells the routers of a level
  pub level : (hops : ℕ) (fewest : List ℕ) → AreRight over hops fewest → (router : ℕ) → step (is_earlier fewest hops) router ≡ over hops router
  level zero fewest right router = same (is_earlier fewest 0) (λ r. false) (λ r. below_zero (fewest_of fewest r)) router ∙ sym (is.none router)
  level (suc hops) fewest right router =
      same (is_earlier fewest (suc hops)) (over hops) (λ r. below_next (fewest_of fewest r) hops ∙ right r hops (omega arith)) router
      ∙ sym (is.more hops router)

  -- a number for one hop more
  more_right : (hops number router : ℕ) → IsRight over hops number router → nat_le number hops ≡ over hops router → IsRight over (hops + 1) number router
  more_right hops number router right now k lt = elim (cases_lt k hops) [
    | inl less ↦ right k less
    | inr more ↦ let here : hops ≡ k = omega arith in subst (λ (n : ℕ). nat_le number n ≡ over n router) here now
  ]

  -- one that is no greater stays
  again : (hops number router : ℕ) → hops ≤ HOP_LIMIT → IsMarked over hops number router → number ≤ hops → IsMarked over (hops + 1) number router
  again hops number router few marked le = elim marked.known [
    | inl lt ↦ record {
      right =
          more_right hops number router marked.right
          (le-leb number hops le ∙ sym (as_far number hops router le (sym (marked.right number lt) ∙ le-leb number number (omega arith))));
      known = inl (omega arith);
    }
    | inr none ↦ absurd (omega (arith, none, few, le))
  ]

  -- so does one of a router that isn't of the level
  pub still : (hops number router : ℕ) → hops ≤ HOP_LIMIT → IsMarked over hops number router → over hops router ≡ false → IsMarked over (hops + 1) number router
  still hops number router few marked out = elim marked.known [
    | inl lt ↦
        let here : over hops router ≡ true = as_far number hops router (omega arith) (sym (marked.right number lt) ∙ le-leb number number (omega arith)) in
        absurd cc
    | inr none ↦ record {
      right = more_right hops number router marked.right (lt-leb number hops (omega (arith, none, few)) ∙ sym out);
      known = inr none;
    }
  ]

  -- and any other gets the number of hops
  reached : (hops number router : ℕ) → hops ≤ HOP_LIMIT → IsMarked over hops number router → hops < number → over hops router ≡ true → IsMarked over (hops + 1) hops router
  reached hops number router few marked lt there = record {
    right =
        more_right hops hops router (λ k less. lt-leb hops k less ∙ sym (lt-leb number k (omega (arith, less, lt))) ∙ marked.right k less) (le-leb hops hops (omega arith) ∙ sym there);
    known = inl (omega arith);
  }

  settled : (hops number router : ℕ) (new : Bool) → hops ≤ HOP_LIMIT → IsMarked over hops number router → new ≡ (nat_lt hops number && over hops router)
      → IsMarked over (hops + 1) (cond new hops number) router
  settled hops number router new few marked told = elim (cases_lt hops number) [
    | inl lt ↦ by_level (over hops router) refl lt (told ∙ ap (λ (b : Bool). b && over hops router) (lt-ltb hops number lt))
    | inr le ↦
        let old : new ≡ false = told ∙ ap (λ (b : Bool). b && over hops router) (le-ltb hops number le) in
        subst (λ (b : Bool). IsMarked over (hops + 1) (cond b hops number) router) (sym old) (again hops number router few marked le)
  ]
    where
      by_level : (there : Bool) → over hops router ≡ there → hops < number → new ≡ over hops router → IsMarked over (hops + 1) (cond new hops number) router
      by_level true there lt e = subst (λ (b : Bool). IsMarked over (hops + 1) (cond b hops number) router) (sym (e ∙ there)) (reached hops number router few marked lt there)
      by_level false there lt e = subst (λ (b : Bool). IsMarked over (hops + 1) (cond b hops number) router) (sym (e ∙ there)) (still hops number router few marked there)

  -- ---- one router after the other

  -- the routers before this one have their numbers, and this one gets its own; the others keep theirs
  module _ (hops : ℕ) (old now next : List ℕ) (router : ℕ) (new : Bool) (few : hops ≤ HOP_LIMIT) (before : AreMarked over hops old)
      (done : (r : ℕ) → r < router → IsMarked over (hops + 1) (fewest_of now r) r) (rest : (r : ℕ) → router ≤ r → fewest_of now r ≡ fewest_of old r) where
    open_yet : (r : ℕ) → router ≤ r → IsMarked over hops (fewest_of now r) r
    open_yet r le = subst (λ (n : ℕ). IsMarked over hops n r) (sym (rest r le)) (before r)

    pub now_right : AreRight over hops now
    now_right r = elim (cases_lt r router) [
      | inl lt ↦ λ k less. (done r lt).right k (omega (arith, less))
      | inr le ↦ (open_yet r le).right
    ]

    pub done_more : new ≡ (nat_lt hops (fewest_of now router) && over hops router) → fewest_of next router ≡ cond new hops (fewest_of now router)
        → ((r : ℕ) → r ≢ router → fewest_of next r ≡ fewest_of now r) → (r : ℕ) → r < router + 1 → IsMarked over (hops + 1) (fewest_of next r) r
    done_more told at apart r less = elim (cases_lt r router) [
      | inl lt ↦ subst (λ (n : ℕ). IsMarked over (hops + 1) n r) (sym (apart r (omega arith))) (done r lt)
      | inr le ↦
          let here : router ≡ r = omega arith in
          subst (λ (k : ℕ). IsMarked over (hops + 1) (fewest_of next k) k) here
          (subst (λ (n : ℕ). IsMarked over (hops + 1) n router) (sym at) (settled hops (fewest_of now router) router new few (open_yet router (omega arith)) told))
    ]

  -- ---- the last level

  -- all counts of hops were tried
  pub all_tried : (hops : ℕ) (fewest : List ℕ) → HOP_LIMIT < hops → AreMarked over hops fewest → AreFewest over fewest
  all_tried hops fewest past marked = record { hops = λ router k few. (marked router).right k (omega (arith, few, past)) }

  module _ (hops : ℕ) (fewest : List ℕ) (few : hops ≤ HOP_LIMIT) (before : AreMarked over hops fewest) (after : AreMarked over (hops + 1) fewest) where
    -- no number is that of the level
    none_at : (router : ℕ) → nat_le (fewest_of fewest router) hops ≡ is_earlier fewest hops router
    none_at router = elim (before router).known [
      | inl lt ↦ le-leb (fewest_of fewest router) hops (omega arith) ∙ sym (lt-ltb (fewest_of fewest router) hops lt)
      | inr none ↦ lt-leb (fewest_of fewest router) hops (omega (arith, none, few)) ∙ sym (le-ltb (fewest_of fewest router) hops (omega (arith, none, few)))
    ]

    here : (router : ℕ) → nat_le (fewest_of fewest router) hops ≡ over hops router
    here router = (after router).right hops (omega arith)

    -- so no later level has a router more
    later : (more router : ℕ) → nat_le (fewest_of fewest router) hops ≡ over (more + hops) router
    later zero router = let none : 0 + hops ≡ hops = omega arith in here router ∙ ap (λ (k : ℕ). over k router) (sym none)
    later (suc more) router =
        let next : suc more + hops ≡ suc (more + hops) = omega arith in
        here router ∙ sym (level hops fewest (λ r. (before r).right) router)
        ∙ same (is_earlier fewest hops) (over (more + hops)) (λ r. sym (none_at r) ∙ later more r) router
        ∙ sym (is.more (more + hops) router)
        ∙ ap (λ (k : ℕ). over k router) (sym next)

    alike : (router k : ℕ) → hops ≤ k → k ≤ HOP_LIMIT → nat_le (fewest_of fewest router) k ≡ nat_le (fewest_of fewest router) hops
    alike router k le most = elim (before router).known [
      | inl lt ↦ le-leb (fewest_of fewest router) k (omega arith) ∙ sym (le-leb (fewest_of fewest router) hops (omega arith))
      | inr none ↦ lt-leb (fewest_of fewest router) k (omega (arith, none, most)) ∙ sym (lt-leb (fewest_of fewest router) hops (omega (arith, none, few)))
    ]

    pub no_more : AreFewest over fewest
    no_more = record {
      hops = λ router k most. elim (cases_lt k hops) [
        | inl lt ↦ (before router).right k lt
        | inr le ↦ alike router k le most ∙ later (k - hops) router ∙ (let back : k - hops + hops ≡ k = omega arith in ap (λ (n : ℕ). over n router) back)
      ];
    }
