-- The search for the greatest set that has one function true and another false.
use Rattle.std.proofs.Common.{◌≡◌, ℕ, zero, suc, ◌+◌, ◌-◌, ◌*◌, ◌<◌, ◌≤◌, min, Bool, true, false, List, [], ◌∷◌, ◌++◌, length, replicate, reverse, take, sum_by, get_or, slice_index, refl, sym, ap, subst, ◌∙◌, inl, inr, ◌⊎◌, arith, length-append, append_assoc}
use Rattle.std.specs.List.Sorted.{IsStrictlyIncreasing}
use Rattle.std.proofs.lemmas.Bool.{cases_lt, cases_order, cases_Bool, true≢false, false≢true}
use Rattle.std.proofs.lemmas.List.{get_or-append_right, get_or_append_left, get_or-replicate, get_or_at, get_or_past, length-replicate, reverse-append, reverse-reverse, append-nil, take_more}
use Rattle.std.proofs.lemmas.List.Sums.{sum_by_push}
use Rattle.nc_diagram.specs.declared.node.Node.{Node}
use Rattle.nc_diagram.specs.declared.apply.Pair.{Pair}
use Rattle.nc_diagram.specs.declared.counter.Turn.{Turn}
use Rattle.nc_diagram.specs.declared.counter.Turn.TheVariants.{High, Low}
use Rattle.nc_diagram.specs.declared.counter.Search.{Search}
use Rattle.nc_diagram.specs.declared.counter.Search.TheVariants.{Look, Barren, Found}
use Rattle.nc_diagram.specs.Sets.{Members, has, fixing, below, all_but, places_but}
use Rattle.nc_diagram.specs.Diagrams.{Belongs, meaning, level, IsReduced}
use Rattle.nc_diagram.specs.Counter.{Separates, SameMembers, IsGreater, IsGreatest, IsEndAt}
use Rattle.nc_diagram.specs.Operations.{BothBelong, pair_eq}
use Rattle.nc_diagram.specs.Search.{AreEndsAt, Entails, Looks, low_variables}
use Rattle.nc_diagram.proofs.DiagramLemmas.{meaning-true, meaning-false}
use Rattle.nc_diagram.proofs.ApplyLemmas.{work, work-positive, work-mono, work-falls, pair_same}
use Rattle.nc_diagram.proofs.PairLemmas.{meaning-fixing_top}

-- ascending variables, from one on
unfoldable pub Ascends : ℕ → List ℕ → Type 0
Ascends from [] = Unit {0}
Ascends from (v ∷ vs) = (from ≤ v) × Ascends (v + 1) vs

-- one more, past the places so far
Ascends-push : (from : ℕ) (vs : List ℕ) (v : ℕ) → Ascends from vs → from + length (places_but from vs) ≤ v → Ascends from (vs ++ v ∷ [])
unfolding Ascends
Ascends-push from [] v a l = (omega arith, tt)
Ascends-push from (w ∷ vs) v a l =
    let count = length-append (replicate (w - from) true) (false ∷ places_but (w + 1) vs) in
    let ones = length-replicate (w - from) true in
    (a.0, Ascends-push (w + 1) vs v a.1 (omega (arith, a.0)))

places_but-push : (from : ℕ) (vs : List ℕ) (v : ℕ) → Ascends from vs → from + length (places_but from vs) ≤ v → places_but from (vs ++ v ∷ []) ≡ places_but from vs ++ (replicate (v - (from + length (places_but from vs))) true ++ false ∷ [])
unfolding Ascends
places_but-push from [] v a l = let e : v - from ≡ v - (from + 0) = omega arith in ap (λ k. replicate k true ++ false ∷ []) e
places_but-push from (w ∷ vs) v a l =
    let count = length-append (replicate (w - from) true) (false ∷ places_but (w + 1) vs) in
    let ones = length-replicate (w - from) true in
    let same : v - ((w + 1) + length (places_but (w + 1) vs)) ≡ v - (from + length (places_but from (w ∷ vs))) = omega (arith, a.0) in
    ap (λ ps. replicate (w - from) true ++ false ∷ ps) (places_but-push (w + 1) vs v a.1 (omega (arith, a.0)))
    ∙ sym (append_assoc (replicate (w - from) true) (false ∷ places_but (w + 1) vs) (replicate (v - ((w + 1) + length (places_but (w + 1) vs))) true ++ false ∷ []))
    ∙ ap (λ k. (replicate (w - from) true ++ false ∷ places_but (w + 1) vs) ++ (replicate k true ++ false ∷ [])) same

pub IsStrictlyIncreasing-ascends : (from : ℕ) (vs : List ℕ) → Ascends from vs → IsStrictlyIncreasing vs
unfolding Ascends
IsStrictlyIncreasing-ascends from [] a k h = absurd (omega arith)
IsStrictlyIncreasing-ascends from (v ∷ []) a k h = absurd (omega arith)
IsStrictlyIncreasing-ascends from (v ∷ w ∷ vs) a zero h = omega (arith, a.1.0)
IsStrictlyIncreasing-ascends from (v ∷ w ∷ vs) a (suc k) h =
    let e : suc k + 1 ≡ suc (k + 1) = omega arith in
    subst (λ j. slice_index (w ∷ vs) k < slice_index (v ∷ w ∷ vs) j) (sym e) (IsStrictlyIncreasing-ascends (v + 1) (w ∷ vs) a.1 k (omega arith))

-- reading the set of all variables but some
has-all_but-past : (vs : List ℕ) (w : ℕ) → length (places_but 0 vs) ≤ w → has (all_but vs) w ≡ true
unfolding all_but
has-all_but-past vs w h = get_or_past (places_but 0 vs) w true h

has-all_but-last : (vs : List ℕ) (v : ℕ) → Ascends 0 vs → length (places_but 0 vs) ≤ v → has (all_but (vs ++ v ∷ [])) v ≡ false
unfolding all_but
has-all_but-last vs v a l =
    let front = replicate (v - (0 + length (places_but 0 vs))) true in
    let count = length-append (places_but 0 vs) front in
    let ones = length-replicate (v - (0 + length (places_but 0 vs))) true in
    ap (λ ps. get_or ps v true) (places_but-push 0 vs v a (omega arith) ∙ sym (append_assoc (places_but 0 vs) front (false ∷ [])))
    ∙ get_or_at (places_but 0 vs ++ front) false [] true v (omega arith)

length-places_but-push : (vs : List ℕ) (v : ℕ) → Ascends 0 vs → length (places_but 0 vs) ≤ v → length (places_but 0 (vs ++ v ∷ [])) ≡ v + 1
length-places_but-push vs v a l =
    let front = replicate (v - (0 + length (places_but 0 vs))) true in
    let ones = length-replicate (v - (0 + length (places_but 0 vs))) true in
    ap length (places_but-push 0 vs v a (omega arith))
    ∙ length-append (places_but 0 vs) (front ++ false ∷ [])
    ∙ omega (arith, length-append front (false ∷ []))

has-all_but-other : (vs : List ℕ) (v w : ℕ) → Ascends 0 vs → length (places_but 0 vs) ≤ v → (w ≡ v → ⊥) → has (all_but (vs ++ v ∷ [])) w ≡ has (all_but vs) w
unfolding all_but
has-all_but-other vs v w a l ne =
    let front = replicate (v - (0 + length (places_but 0 vs))) true in
    let ones = length-replicate (v - (0 + length (places_but 0 vs))) true in
    let split = ap (λ ps. get_or ps w true) (places_but-push 0 vs v a (omega arith)) in
    elim (cases_lt w (length (places_but 0 vs))) [
      | inl early ↦ split ∙ get_or_append_left (places_but 0 vs) (front ++ false ∷ []) true w early
      | inr late ↦
          (let past : get_or (places_but 0 vs) w true ≡ true = get_or_past (places_but 0 vs) w true late in
          elim (cases_lt w v) [
            | inl before ↦
                split
                ∙ get_or-append_right (places_but 0 vs) (front ++ false ∷ []) (length (places_but 0 vs)) w true refl late
                ∙ get_or_append_left front (false ∷ []) true (w - length (places_but 0 vs)) (omega arith)
                ∙ get_or-replicate (v - (0 + length (places_but 0 vs))) (w - length (places_but 0 vs)) true true (omega arith)
                ∙ sym past
            | inr after ↦ get_or_past (places_but 0 (vs ++ v ∷ [])) w true (omega (arith, length-places_but-push vs v a l)) ∙ sym past
          ])
    ]

-- the order of sets is total: below a number, two sets are the same or one is greater
compared : (s t : Members) (n : ℕ) → ((v : ℕ) → v < n → has s v ≡ has t v) ⊎ (IsGreater s t ⊎ IsGreater t s)
compared s t zero = inl (λ v h. absurd (omega arith))
compared s t (suc n) =
    elim (compared s t n) [
      | inr one ↦ inr one
      | inl same ↦ next (has s n) (has t n) refl refl same
    ]
  where
    next : (b c : Bool) → has s n ≡ b → has t n ≡ c → ((v : ℕ) → v < n → has s v ≡ has t v) → ((v : ℕ) → v < suc n → has s v ≡ has t v) ⊎ (IsGreater s t ⊎ IsGreater t s)
    next true true e f same = inl (λ v h. elim (cases_lt v n) [ inl l ↦ same v l | inr l ↦ (let last : v ≡ n = omega arith in ap (has s) last ∙ e ∙ sym f ∙ ap (has t) (sym last)) ])
    next false false e f same = inl (λ v h. elim (cases_lt v n) [ inl l ↦ same v l | inr l ↦ (let last : v ≡ n = omega arith in ap (has s) last ∙ e ∙ sym f ∙ ap (has t) (sym last)) ])
    next true false e f same = inr (inl (record { variable = n; member = e; missing = f; same_below = same }))
    next false true e f same = inr (inr (record { variable = n; member = f; missing = e; same_below = λ v l. sym (same v l) }))

-- past both lists the sets have one value each
SameMembers-bounded : (s t : Members) (n : ℕ) → length s.places < n → length t.places < n → ((v : ℕ) → v < n → has s v ≡ has t v) → SameMembers s t
SameMembers-bounded s t n a b same v =
    elim (cases_lt v n) [
      | inl l ↦ same v l
      | inr l ↦
          (let last : (u : Members) → length u.places < n → has u v ≡ has u (n - 1) = λ u h. get_or_past u.places v u.rest (omega arith) ∙ sym (get_or_past u.places (n - 1) u.rest (omega arith)) in
          last s a ∙ same (n - 1) (omega arith) ∙ sym (last t b))
    ]

pub cases_sets : (s t : Members) → SameMembers s t ⊎ (IsGreater s t ⊎ IsGreater t s)
cases_sets s t =
    elim (compared s t (length s.places + length t.places + 1)) [
      | inr one ↦ inr one
      | inl same ↦ inl (SameMembers-bounded s t (length s.places + length t.places + 1) (omega arith) (omega arith) same)
    ]

-- a pair whose ends are searched, by the lowest variable that one of its references asks for
pub record IsTurnOf (nodes : List Node) (p : Pair) (v : ℕ) : Type 0 where
  pub belong : BothBelong nodes p
  pub top : v ≡ min (level nodes p.left) (level nodes p.right)

-- the walk: the pair is what is left of f and g where the settled variables are as in the set of all but the missing ones, and no
-- greater set has f true and g false
pub record IsWalk (f g : Members → Bool) (nodes : List Node) (p : Pair) (missing : List ℕ) : Type 0 where
  pub belong : BothBelong nodes p
  pub ascends : Ascends 0 missing
  pub settled : ℕ
  pub noted : length (places_but 0 missing) ≤ settled
  pub left_later : settled ≤ level nodes p.left
  pub right_later : settled ≤ level nodes p.right
  pub left_value : (t : Members) → ((w : ℕ) → w < settled → has t w ≡ has (all_but missing) w) → f t ≡ meaning nodes p.left t
  pub right_value : (t : Members) → ((w : ℕ) → w < settled → has t w ≡ has (all_but missing) w) → g t ≡ meaning nodes p.right t
  pub no_greater : (t : Members) → Separates f g t → IsGreater t (all_but missing) → ⊥

IsWalk-start : (nodes : List Node) (p : Pair) → BothBelong nodes p → IsWalk (meaning nodes p.left) (meaning nodes p.right) nodes p []
unfolding Ascends
IsWalk-start nodes p b = record {
  belong = b;
  ascends = tt;
  settled = 0;
  noted = omega arith;
  left_later = omega arith;
  right_later = omega arith;
  left_value = λ t h. refl;
  right_value = λ t h. refl;
  no_greater = λ t d g. true≢false (sym (has-all_but-past [] g.variable (omega arith)) ∙ g.missing);
}

module _ (nodes : List Node) (reduced : IsReduced nodes) where
  -- a reference at a set is its end on the set's side
  at_end : (v r : ℕ) → Belongs nodes r → v ≤ level nodes r → (side : Bool) (e : ℕ) → IsEndAt nodes r v side e → (t : Members) → has t v ≡ side → meaning nodes r t ≡ meaning nodes e t
  at_end v r b l side e is t here =
      meaning-fixing_top nodes reduced r b v l t ∙ ap (λ c. meaning nodes r (fixing (below v c) t)) here ∙ sym (is.value t)

  module _ (p : Pair) (v : ℕ) (turn : IsTurnOf nodes p v) (side : Bool) (e : Pair) (ends : AreEndsAt nodes p v side e) (t : Members) (here : has t v ≡ side) where
    left_end : meaning nodes p.left t ≡ meaning nodes e.left t
    left_end = let top = turn.top in at_end v p.left turn.belong.0 (omega arith) side e.left ends.left t here

    right_end : meaning nodes p.right t ≡ meaning nodes e.right t
    right_end = let top = turn.top in at_end v p.right turn.belong.1 (omega arith) side e.right ends.right t here

  -- the ends belong, and one of them is older
  ends_belong : (p : Pair) (v : ℕ) → IsTurnOf nodes p v → (side : Bool) (e : Pair) → AreEndsAt nodes p v side e → BothBelong nodes e
  ends_belong p v turn side e ends = (omega (arith, turn.belong.0, ends.left.no_newer), omega (arith, turn.belong.1, ends.right.no_newer))

  -- where both sides entail, the pair does
  pub Entails-ends : (p : Pair) (v : ℕ) → IsTurnOf nodes p v → (high low : Pair) → AreEndsAt nodes p v true high → AreEndsAt nodes p v false low → Entails nodes high → Entails nodes low → Entails nodes p
  Entails-ends p v turn high low p_high p_low up down s l = elim (cases_Bool (has s v)) [
    | inl member ↦ right_end p v turn true high p_high s member ∙ up s (sym (left_end p v turn true high p_high s member) ∙ l)
    | inr out ↦ right_end p v turn false low p_low s out ∙ down s (sym (left_end p v turn false low p_low s out) ∙ l)
  ]

  module _ (f g : Members → Bool) (p : Pair) (missing : List ℕ) (walk : IsWalk f g nodes p missing) where
    -- at the end the set has f true and g false
    IsGreatest-end : p.left ≡ 1 → p.right ≡ 0 → IsGreatest f g (all_but missing)
    IsGreatest-end l r =
        let s = all_but missing in
        record {
          separates = (walk.left_value s (λ w l. refl) ∙ ap (λ q. meaning nodes q s) l ∙ meaning-true nodes s, walk.right_value s (λ w l. refl) ∙ ap (λ q. meaning nodes q s) r ∙ meaning-false nodes s);
          greatest = λ t sep.
              elim (cases_sets s t) [
                | inl same ↦ inl same
                | inr either ↦ elim either [ inl more ↦ inr more | inr more ↦ absurd (walk.no_greater t sep more) ]
              ];
        }

    module _ (v : ℕ) (turn : IsTurnOf nodes p v) (high : Pair) (p_high : AreEndsAt nodes p v true high) where
      -- the high ends: the variable is a member
      IsWalk-high : IsWalk f g nodes high missing
      IsWalk-high =
          let top = turn.top in
          let past : length (places_but 0 missing) ≤ v = omega (arith, walk.noted, walk.left_later, walk.right_later) in
          let member : (t : Members) → ((w : ℕ) → w < v + 1 → has t w ≡ has (all_but missing) w) → has t v ≡ true =
          λ t h. h v (omega arith) ∙ has-all_but-past missing v past in
          let settled : walk.settled ≤ v = omega (arith, walk.left_later, walk.right_later) in
          record {
            belong = ends_belong p v turn true high p_high;
            ascends = walk.ascends;
            settled = v + 1;
            noted = omega arith;
            left_later = omega (arith, p_high.left.later);
            right_later = omega (arith, p_high.right.later);
            left_value = λ t h. walk.left_value t (λ w l. h w (omega arith)) ∙ left_end p v turn true high p_high t (member t h);
            right_value = λ t h. walk.right_value t (λ w l. h w (omega arith)) ∙ right_end p v turn true high p_high t (member t h);
            no_greater = walk.no_greater;
          }

      -- the low ends, where the high ones entail: the variable is missing
      IsWalk-low : Entails nodes high → (low : Pair) → AreEndsAt nodes p v false low → IsWalk f g nodes low (missing ++ v ∷ [])
      IsWalk-low up low p_low =
          let top = turn.top in
          let settled : walk.settled ≤ v = omega (arith, walk.left_later, walk.right_later) in
          let past : length (places_but 0 missing) ≤ v = omega (arith, walk.noted) in
          let last : has (all_but (missing ++ v ∷ [])) v ≡ false = has-all_but-last missing v walk.ascends past in
          let other : (w : ℕ) → (w ≡ v → ⊥) → has (all_but (missing ++ v ∷ [])) w ≡ has (all_but missing) w = λ w ne. has-all_but-other missing v w walk.ascends past ne in
          let out : (t : Members) → ((w : ℕ) → w < v + 1 → has t w ≡ has (all_but (missing ++ v ∷ [])) w) → has t v ≡ false = λ t h. h v (omega arith) ∙ last in
          let earlier : (t : Members) → ((w : ℕ) → w < v → has t w ≡ has (all_but (missing ++ v ∷ [])) w) → (w : ℕ) → w < walk.settled → has t w ≡ has (all_but missing) w =
          λ t h w l. h w (omega arith) ∙ other w (λ e. omega arith) in
          record {
            belong = ends_belong p v turn false low p_low;
            ascends = Ascends-push 0 missing v walk.ascends (omega arith);
            settled = v + 1;
            noted = omega (arith, length-places_but-push missing v walk.ascends past);
            left_later = omega (arith, p_low.left.later);
            right_later = omega (arith, p_low.right.later);
            left_value = λ t h. walk.left_value t (earlier t (λ w l. h w (omega arith))) ∙ left_end p v turn false low p_low t (out t h);
            right_value = λ t h. walk.right_value t (earlier t (λ w l. h w (omega arith))) ∙ right_end p v turn false low p_low t (out t h);
            no_greater = λ t sep more.
                elim (cases_order more.variable v) [
                  | inl e ↦
                      (let agrees : (w : ℕ) → w < v → has t w ≡ has (all_but (missing ++ v ∷ [])) w = λ w l. more.same_below w (omega arith) in
                      let member : has t v ≡ true = ap (has t) (sym e) ∙ more.member in
                      let left : meaning nodes high.left t ≡ true = sym (walk.left_value t (earlier t agrees) ∙ left_end p v turn true high p_high t member) ∙ sep.0 in
                      let right : g t ≡ true = walk.right_value t (earlier t agrees) ∙ right_end p v turn true high p_high t member ∙ up t left in
                      true≢false (sym right ∙ sep.1))
                  | inr either ↦
                      elim either [
                        | inl before ↦
                            walk.no_greater t sep (record {
                              variable = more.variable;
                              member = more.member;
                              missing = sym (other more.variable (λ e. omega arith)) ∙ more.missing;
                              same_below = λ w l. more.same_below w l ∙ other w (λ e. omega arith);
                            })
                        | inr after ↦ true≢false (sym (has-all_but-past missing more.variable (omega arith)) ∙ sym (other more.variable (λ e. omega arith)) ∙ more.missing)
                      ]
                ];
          }

-- the turns that led from the first pair to a pair, the newest first: each went on with the high ends, or with the low ones since
-- no set tells the high ones apart
unfoldable pub Trail : List Node → Pair → List Turn → Pair → Type 0
Trail nodes first [] p = p ≡ first
Trail nodes first (High q v low ∷ older) p = IsTurnOf nodes q v × AreEndsAt nodes q v true p × AreEndsAt nodes q v false low × Trail nodes first older q
Trail nodes first (Low q v ∷ older) p = IsTurnOf nodes q v × ((high : Pair) × AreEndsAt nodes q v true high × Entails nodes high) × AreEndsAt nodes q v false p × Trail nodes first older q

-- the variables at which turns, the newest first, went on with the low ends
unfoldable pub lacks : List Turn → List ℕ
lacks [] = []
lacks (High p v low ∷ older) = lacks older
lacks (Low p v ∷ older) = lacks older ++ v ∷ []

low_variables-append : (turns more : List Turn) → low_variables (turns ++ more) ≡ low_variables turns ++ low_variables more
unfolding low_variables
low_variables-append [] more = refl
low_variables-append (High p v low ∷ turns) more = low_variables-append turns more
low_variables-append (Low p v ∷ turns) more = ap (λ vs. v ∷ vs) (low_variables-append turns more)

reverse-cons : (turn : Turn) (turns : List Turn) → reverse (turn ∷ turns) ≡ reverse turns ++ turn ∷ []
reverse-cons turn turns = reverse-append (turn ∷ []) turns

low_variables-reverse : (turns : List Turn) → low_variables (reverse turns) ≡ lacks turns
unfolding low_variables lacks
low_variables-reverse [] = refl
low_variables-reverse (High p v low ∷ turns) =
    ap low_variables (reverse-cons (High p v low) turns) ∙ low_variables-append (reverse turns) (High p v low ∷ []) ∙ append-nil (low_variables (reverse turns)) ∙ low_variables-reverse turns
low_variables-reverse (Low p v ∷ turns) =
    ap low_variables (reverse-cons (Low p v) turns) ∙ low_variables-append (reverse turns) (Low p v ∷ []) ∙ ap (λ vs. vs ++ v ∷ []) (low_variables-reverse turns)

reverse-push : (turns : List Turn) (turn : Turn) → reverse (turns ++ turn ∷ []) ≡ turn ∷ reverse turns
reverse-push turns turn = reverse-append turns (turn ∷ [])

-- a trail is a walk: high ends come first, so that no greater set was passed over
IsWalk-trail : (nodes : List Node) → IsReduced nodes → (first : Pair) → BothBelong nodes first → (turns : List Turn) (p : Pair) → Trail nodes first turns p
    → IsWalk (meaning nodes first.left) (meaning nodes first.right) nodes p (lacks turns)
unfolding Trail lacks
IsWalk-trail nodes reduced first b [] p e =
    subst (λ q. IsWalk (meaning nodes first.left) (meaning nodes first.right) nodes q []) (sym e) (IsWalk-start nodes first b)
IsWalk-trail nodes reduced first b (High q v low ∷ older) p (turn, p_high, p_low, trail) =
    IsWalk-high nodes reduced (meaning nodes first.left) (meaning nodes first.right) q (lacks older) (IsWalk-trail nodes reduced first b older q trail) v turn p p_high
IsWalk-trail nodes reduced first b (Low q v ∷ older) p (turn, up, p_low, trail) =
    IsWalk-low nodes reduced (meaning nodes first.left) (meaning nodes first.right) q (lacks older) (IsWalk-trail nodes reduced first b older q trail) v turn up.0 up.1 up.2 p p_low

-- what the search has at a place
abbrev pub IsAt : List Node → Pair → List Turn → Search → Type 0
IsAt nodes first turns (Look p) = BothBelong nodes p × Trail nodes first (reverse turns) p
IsAt nodes first turns (Barren p) = Entails nodes p × Trail nodes first (reverse turns) p
IsAt nodes first turns Found = (p : Pair) × (p.left ≡ 1) × (p.right ≡ 0) × Trail nodes first (reverse turns) p

-- the search's invariant: its turns are a trail, and no set tells apart the functions of a pair that is known to be barren
pub record IsSearching (nodes : List Node) (first : Pair) (turns : List Turn) (known : Pair → Bool) (at : Search) : Type 0 where
  pub place : IsAt nodes first turns at
  pub barren : (p : Pair) → known p ≡ true → Entails nodes p

abbrev pub turn_weight : Turn → ℕ
turn_weight (High p v low) = 3 * work (p.left + p.right - 1)
turn_weight (Low p v) = work (p.left + p.right - 1)

abbrev pub search_weight : Search → ℕ
search_weight (Look p) = work (p.left + p.right)
search_weight (Barren p) = 0
search_weight Found = 0

-- the work that is left
abbrev pub search_left : List Turn → Search → ℕ
search_left turns at = sum_by turn_weight turns + search_weight at

turns-push : (turns : List Turn) (turn : Turn) → sum_by turn_weight (turns ++ turn ∷ []) ≡ sum_by turn_weight turns + turn_weight turn
turns-push turns turn = sum_by_push turn_weight turns turn

-- one of the ends is older
ends_fall : (nodes : List Node) (p : Pair) (v : ℕ) → IsTurnOf nodes p v → (side : Bool) (e : Pair) → AreEndsAt nodes p v side e → e.left + e.right < p.left + p.right
ends_fall nodes p v turn side e ends =
    let top = turn.top in
    let left = ends.left.no_newer in
    let right = ends.right.no_newer in
    elim (cases_lt (level nodes p.right) (level nodes p.left)) [
      | inl less ↦ let older : e.right < p.right = ends.right.older (omega arith) in omega arith
      | inr more ↦ let older : e.left < p.left = ends.left.older (omega arith) in omega arith
    ]

pub Entails-false : (nodes : List Node) (p : Pair) → p.left ≡ 0 → Entails nodes p
Entails-false nodes p e s l = absurd (false≢true (sym (meaning-false nodes s) ∙ sym (ap (λ q. meaning nodes q s) e) ∙ l))

pub Entails-true : (nodes : List Node) (p : Pair) → p.right ≡ 1 → Entails nodes p
Entails-true nodes p e s l = ap (λ q. meaning nodes q s) e ∙ meaning-true nodes s

pub Entails-same : (nodes : List Node) (p : Pair) → p.left ≡ p.right → Entails nodes p
Entails-same nodes p e s l = sym (ap (λ q. meaning nodes q s) e) ∙ l

module _ (nodes : List Node) (reduced : IsReduced nodes) (first : Pair) (known : Pair → Bool) where
  -- the search begins at the first pair
  pub begins : BothBelong nodes first → ((p : Pair) → known p ≡ false) → (turns : List Turn) → turns ≡ [] → IsSearching nodes first turns known (Look first)
  unfolding Trail
  begins b none turns empty = record {
    place = (b, subst (λ ts. Trail nodes first (reverse ts) first) (sym empty) refl);
    barren = λ p k. absurd (false≢true (sym (none p) ∙ k));
  }

  -- a pair is looked at
  pub looked : (turns next : List Turn) (p : Pair) (at : Search) → IsSearching nodes first turns known (Look p) → Looks nodes known p turns next at
      → IsSearching nodes first next known at × (search_left next at < search_left turns (Look p))
  unfolding Trail
  looked turns next p (Look high) s (v, low, pushed, top, p_high, p_low) =
      let turn : IsTurnOf nodes p v = record { belong = s.place.0; top = top } in
      let falls = ends_fall nodes p v turn true high p_high in (
        record {
          place = (ends_belong nodes reduced p v turn true high p_high, subst (λ ts. Trail nodes first ts high) (sym (ap reverse pushed ∙ reverse-push turns (High p v low))) (turn, p_high, p_low, s.place.1));
          barren = s.barren;
        },
        omega (arith, ap (sum_by turn_weight) pushed, turns-push turns (High p v low), work-falls (p.left + p.right) (omega arith), work-positive (p.left + p.right - 1), work-mono (high.left + high.right) (p.left + p.right - 1) (omega arith)),
      )
  looked turns next p (Barren q) s (same, it, why) = (
    record {
      place = (subst (Entails nodes) (sym it) (elim why [ inl is ↦ is | inr k ↦ s.barren p k ]), subst (λ ts. Trail nodes first (reverse ts) q) (sym same) (subst (Trail nodes first (reverse turns)) (sym it) s.place.1));
      barren = s.barren;
    },
    omega (arith, ap (sum_by turn_weight) same, work-positive (p.left + p.right)),
  )
  looked turns next p Found s (same, l, r) = (
    record {
      place = (p, l, r, subst (λ ts. Trail nodes first (reverse ts) p) (sym same) s.place.1);
      barren = s.barren;
    },
    omega (arith, ap (sum_by turn_weight) same, work-positive (p.left + p.right)),
  )

  -- no set tells the high ends apart, and the low ones are looked at
  pub turned_low : (all older : List Turn) (q : Pair) (v : ℕ) (low p : Pair) → all ≡ older ++ High q v low ∷ [] → IsSearching nodes first all known (Barren p)
      → IsSearching nodes first (older ++ Low q v ∷ []) known (Look low) × (search_left (older ++ Low q v ∷ []) (Look low) < search_left all (Barren p))
  unfolding Trail
  turned_low all older q v low p pushed s =
      let t : Trail nodes first (High q v low ∷ reverse older) p = subst (λ ts. Trail nodes first ts p) (ap reverse pushed ∙ reverse-push older (High q v low)) s.place.1 in
      let falls = ends_fall nodes q v t.0 false low t.2 in (
        record {
          place = (ends_belong nodes reduced q v t.0 false low t.2, subst (λ ts. Trail nodes first ts low) (sym (reverse-push older (Low q v))) (t.0, (p, t.1, s.place.0), t.2, t.3));
          barren = s.barren;
        },
        omega (arith, ap (sum_by turn_weight) pushed, turns-push older (High q v low), turns-push older (Low q v), work-positive (q.left + q.right - 1), work-mono (low.left + low.right) (q.left + q.right - 1) (omega arith)),
      )

  -- no set tells either ends apart, so that it is known of the pair
  pub noted_barren : (all older : List Turn) (q : Pair) (v : ℕ) (p : Pair) → all ≡ older ++ Low q v ∷ [] → IsSearching nodes first all known (Barren p)
      → (now : Pair → Bool) → ((x : Pair) → now x ≡ true → (pair_eq q x ≡ true) ⊎ (known x ≡ true))
      → IsSearching nodes first older now (Barren q) × (search_left older (Barren q) < search_left all (Barren p))
  unfolding Trail
  noted_barren all older q v p pushed s now noted =
      let t : Trail nodes first (Low q v ∷ reverse older) p = subst (λ ts. Trail nodes first ts p) (ap reverse pushed ∙ reverse-push older (Low q v)) s.place.1 in
      let is : Entails nodes q = Entails-ends nodes reduced q v t.0 t.1.0 p t.1.1 t.2 t.1.2 s.place.0 in (
        record {
          place = (is, t.3);
          barren = λ x k. elim (noted x k) [ inl same ↦ subst (Entails nodes) (pair_same q x same) is | inr old ↦ s.barren x old ];
        },
        omega (arith, ap (sum_by turn_weight) pushed, turns-push older (Low q v), work-positive (q.left + q.right - 1)),
      )

  -- no set tells the functions of the first pair apart
  pub ends_barren : (turns : List Turn) (p : Pair) → turns ≡ [] → IsSearching nodes first turns known (Barren p) → Entails nodes first
  unfolding Trail
  ends_barren turns p none s =
      let same : p ≡ first = subst (λ ts. Trail nodes first (reverse ts) p) none s.place.1 in
      subst (Entails nodes) same s.place.0

  -- the set that lacks the variables of the low turns is the greatest one
  pub ends_found : (turns : List Turn) → BothBelong nodes first → IsSearching nodes first turns known Found
      → IsStrictlyIncreasing (low_variables turns) × IsGreatest (meaning nodes first.left) (meaning nodes first.right) (all_but (low_variables turns))
  ends_found turns b s =
      let p = s.place.0 in
      let walk = IsWalk-trail nodes reduced first b (reverse turns) p s.place.3 in
      let same : lacks (reverse turns) ≡ low_variables turns = sym (low_variables-reverse (reverse turns)) ∙ ap low_variables (reverse-reverse turns) in (
        subst IsStrictlyIncreasing same (IsStrictlyIncreasing-ascends 0 (lacks (reverse turns)) walk.ascends),
        subst (λ vs. IsGreatest (meaning nodes first.left) (meaning nodes first.right) (all_but vs)) same
            (IsGreatest-end nodes reduced (meaning nodes first.left) (meaning nodes first.right) p (lacks (reverse turns)) walk s.place.1 s.place.2),
      )

-- one more turn that is read
pub lows-high : (turns : List Turn) (k : ℕ) (turn : Turn) (p : Pair) (v : ℕ) (low : Pair) → k < length turns → get_or turns k turn ≡ High p v low → low_variables (take (k + 1) turns) ≡ low_variables (take k turns)
unfolding low_variables
lows-high turns k turn p v low lt is =
    ap low_variables (take_more turns k turn lt) ∙ low_variables-append (take k turns) (get_or turns k turn ∷ []) ∙ ap (λ t. low_variables (take k turns) ++ low_variables (t ∷ [])) is ∙ append-nil (low_variables (take k turns))

pub lows-low : (turns : List Turn) (k : ℕ) (turn : Turn) (p : Pair) (v : ℕ) → k < length turns → get_or turns k turn ≡ Low p v → low_variables (take (k + 1) turns) ≡ low_variables (take k turns) ++ v ∷ []
unfolding low_variables
lows-low turns k turn p v lt is =
    ap low_variables (take_more turns k turn lt) ∙ low_variables-append (take k turns) (get_or turns k turn ∷ []) ∙ ap (λ t. low_variables (take k turns) ++ low_variables (t ∷ [])) is
