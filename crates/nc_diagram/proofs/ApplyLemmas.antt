-- The loop that combines two references: what its frames wait for, and that each turn keeps it and falls.
use Rattle.std.proofs.Common.{◌≡◌, ℕ, zero, suc, ◌+◌, ◌-◌, ◌*◌, ◌^◌, ◌<◌, ◌≤◌, Bool, true, false, List, [], ◌∷◌, ◌++◌, length, min, max, ◌⊎◌, sum_by, refl, sym, ap, subst, ◌∙◌, inl, inr, arith, if◌then◌else◌, ◌==◌}
use Rattle.std.proofs.lemmas.List.Sums.{sum_by_push}
use Rattle.std.proofs.lemmas.Bool.{cases_lt, and_parts, eqb-true}
use Rattle.nc_diagram.specs.declared.node.Node.{Node}
use Rattle.nc_diagram.specs.declared.apply.Operator.{Operator}
use Rattle.nc_diagram.specs.declared.apply.Operator.TheVariants.{And, Or}
use Rattle.nc_diagram.specs.declared.apply.Pair.{Pair}
use Rattle.nc_diagram.specs.declared.apply.Frame.{Frame}
use Rattle.nc_diagram.specs.declared.apply.Frame.TheVariants.{Low, High}
use Rattle.nc_diagram.specs.declared.apply.Focus.{Focus}
use Rattle.nc_diagram.specs.declared.apply.Focus.TheVariants.{Work, Done}
use Rattle.nc_diagram.specs.Sets.{Members, has, fixing, below, Same, IsLowestFixed}
use Rattle.nc_diagram.specs.Diagrams.{Diagrams, Belongs, meaning, level, IsReduced, IsNode, Adds, Means, IsCrowded}
use Rattle.nc_diagram.specs.Places.{Makes}
use Rattle.nc_diagram.specs.Operations.{combined, joint, BothBelong, BothNodes, ordered, pair_eq, IsCofactor, IsTop, IsAnswer, BeginsLow, BeginsHigh, Opens}
use Rattle.nc_diagram.proofs.SetLemmas.{length-below, IsLowestFixed-itself, IsLowestFixed-more}
use Rattle.nc_diagram.proofs.DiagramLemmas.{meaning-newest}
use Rattle.nc_diagram.proofs.Canonicity.{level-fixed}
use Rattle.nc_diagram.proofs.GrowthLemmas.{Keeps, Keeps-adds, Keeps-makes, Adds-none, Adds-makes, IsLowestFixed-same, IsCrowded-full}

-- weights of pairs: a pair weighs five times one with a lesser sum
pub work : ℕ → ℕ
work zero = 1
work (suc n) = 5 * work n

pub work-positive : (n : ℕ) → 0 < work n
unfolding work
work-positive zero = omega arith
work-positive (suc n) = omega (arith, work-positive n)

work-more : (m k : ℕ) → work m ≤ work (m + k)
unfolding work
work-more m zero = let e : m + 0 ≡ m = omega arith in omega (arith, ap work e)
work-more m (suc k) = let e : m + suc k ≡ suc (m + k) = omega arith in omega (arith, ap work e, work-more m k, work-positive (m + k))

pub work-mono : (m n : ℕ) → m ≤ n → work m ≤ work n
work-mono m n h = let e : m + (n - m) ≡ n = omega arith in omega (arith, work-more m (n - m), ap work e)

pub work-falls : (n : ℕ) → 0 < n → work n ≡ 5 * work (n - 1)
unfolding work
work-falls zero h = absurd (omega arith)
work-falls (suc n) h = let e : suc n - 1 ≡ n = omega arith in omega (arith, ap work e)

abbrev pub weight_of : Frame → ℕ
weight_of (Low p v high b) = 3 * work (p.left + p.right - 1)
weight_of (High p v low b) = work (p.left + p.right - 1)

abbrev pub focus_weight : Focus → ℕ
focus_weight (Work p) = work (p.left + p.right)
focus_weight (Done r) = 0

-- the work that is left
abbrev pub work_left : List Frame → Focus → ℕ
work_left frames focus = sum_by weight_of frames + focus_weight focus

sum_by-push : (frames : List Frame) (frame : Frame) → sum_by weight_of (frames ++ frame ∷ []) ≡ sum_by weight_of frames + weight_of frame
sum_by-push frames frame = sum_by_push weight_of frames frame

-- the pair that a frame is to finish, and the function of the side that it waits for
abbrev pub pair_of : Frame → Pair
pair_of (Low p v high b) = p
pair_of (High p v low b) = p

abbrev pub part_of : Operator → List Node → Frame → Members → Bool
part_of operator old (Low p v high b) s = joint operator old p (fixing (below v false) s)
part_of operator old (High p v low b) s = joint operator old p (fixing (below v true) s)

-- what a waiting frame has
pub record IsSet (operator : Operator) (old : List Node) (p : Pair) (v : ℕ) : Type 0 where
  pub belong : BothBelong old p
  pub narrow : v < 2 ^ 32
  pub some : 0 < p.left + p.right
  pub top : (s : Members) → joint operator old p s ≡ joint operator old p (fixing (below v (has s v)) s)

pub record HasHigh (operator : Operator) (old : List Node) (p : Pair) (v : ℕ) (high : Pair) : Type 0 where
  pub belong : BothBelong old high
  pub older : high.left + high.right < p.left + p.right
  pub value : Same (joint operator old high) (λ s. joint operator old p (fixing (below v true) s))

pub record HasLow (operator : Operator) (old now : List Node) (p : Pair) (v low : ℕ) : Type 0 where
  pub belongs : Belongs now low
  pub value : Same (meaning now low) (λ s. joint operator old p (fixing (below v false) s))

abbrev pub IsFrame : Operator → List Node → List Node → Frame → Type 0
IsFrame operator old now (Low p v high b) = IsSet operator old p v × HasHigh operator old p v high
IsFrame operator old now (High p v low b) = IsSet operator old p v × HasLow operator old now p v low

-- the frames wait for g: the oldest is to give f, each waits for what the next is to give, and the newest for g
unfoldable pub Waits : Operator → List Node → List Node → (Members → Bool) → List Frame → (Members → Bool) → Type 0
Waits operator old now f [] g = Same g f
Waits operator old now f (frame ∷ frames) g =
    IsFrame operator old now frame × Same (joint operator old (pair_of frame)) f × Waits operator old now (part_of operator old frame) frames g

module _ (operator : Operator) (old : List Node) where
  Waits-push : (now : List Node) (f : Members → Bool) (frames : List Frame) (frame : Frame) (g : Members → Bool) → Waits operator old now f frames (joint operator old (pair_of frame)) → IsFrame operator old now frame → Same g (part_of operator old frame) → Waits operator old now f (frames ++ frame ∷ []) g
  unfolding Waits
  Waits-push now f [] frame g w is e = (is, w, e)
  Waits-push now f (h ∷ frames) frame g w is e = (w.0, w.1, Waits-push now (part_of operator old h) frames frame g w.2 is e)

  Waits-pop : (now : List Node) (f : Members → Bool) (frames : List Frame) (frame : Frame) (g : Members → Bool) → Waits operator old now f (frames ++ frame ∷ []) g → Waits operator old now f frames (joint operator old (pair_of frame)) × IsFrame operator old now frame × Same g (part_of operator old frame)
  unfolding Waits
  Waits-pop now f [] frame g w = (w.1, w.0, w.2)
  Waits-pop now f (h ∷ frames) frame g w =
      let rest = Waits-pop now (part_of operator old h) frames frame g w.2 in
      ((w.0, w.1, rest.0), rest.1, rest.2)

  Waits-same : (now : List Node) (f : Members → Bool) (frames : List Frame) (g h : Members → Bool) → Waits operator old now f frames g → Same h g → Waits operator old now f frames h
  unfolding Waits
  Waits-same now f [] g h w e = λ s. e s ∙ w s
  Waits-same now f (frame ∷ frames) g h w e = (w.0, w.1, Waits-same now (part_of operator old frame) frames g h w.2 e)

  IsFrame-keep : (now new : List Node) → Keeps now new → (frame : Frame) → IsFrame operator old now frame → IsFrame operator old new frame
  IsFrame-keep now new keeps (Low p v high b) is = is
  IsFrame-keep now new keeps (High p v low b) is =
      let k = keeps low is.1.belongs in
      (is.0, record { belongs = k.0; value = λ s. k.1 s ∙ is.1.value s })

  Waits-keep : (now new : List Node) → Keeps now new → (f : Members → Bool) (frames : List Frame) (g : Members → Bool) → Waits operator old now f frames g → Waits operator old new f frames g
  unfolding Waits
  Waits-keep now new keeps f [] g w = w
  Waits-keep now new keeps f (frame ∷ frames) g w = (IsFrame-keep now new keeps frame w.0, w.1, Waits-keep now new keeps (part_of operator old frame) frames g w.2)

  -- what is waited for is a part of the result
  side_of : Frame → List Bool
  side_of (Low p v high b) = below v false
  side_of (High p v low b) = below v true

  part-fixed : (frame : Frame) → Same (part_of operator old frame) (λ s. joint operator old (pair_of frame) (fixing (side_of frame) s))
  unfolding side_of
  part-fixed (Low p v high b) s = refl
  part-fixed (High p v low b) s = refl

  Waits-fixed : (now : List Node) (f : Members → Bool) (frames : List Frame) (g : Members → Bool) → Waits operator old now f frames g → IsLowestFixed f g
  unfolding Waits
  Waits-fixed now f [] g w = IsLowestFixed-itself f g w
  Waits-fixed now f (frame ∷ frames) g w =
      let rest = Waits-fixed now (part_of operator old frame) frames g w.2 in
      let whole = joint operator old (pair_of frame) in
      let part = IsLowestFixed-more f whole (part_of operator old frame) (IsLowestFixed-itself f whole w.1) (side_of frame) (part-fixed frame) in
      IsLowestFixed-more f (part_of operator old frame) g part rest.0 rest.1

  -- what the loop is at belongs, and has a function
  abbrev pub IsFocus : List Node → Focus → Type 0
  IsFocus now (Work p) = BothBelong old p
  IsFocus now (Done r) = Belongs now r

  abbrev pub aim : List Node → Focus → Members → Bool
  aim now (Work p) = joint operator old p
  aim now (Done r) = meaning now r

-- a pair's function is kept with its references
pub joint-kept : (operator : Operator) (now new : List Node) → Keeps now new → (p : Pair) → BothBelong now p → Same (joint operator new p) (joint operator now p)
joint-kept operator now new keeps p b s =
    let l : meaning new p.left s ≡ meaning now p.left s = (keeps p.left b.0).1 s in
    let r : meaning new p.right s ≡ meaning now p.right s = (keeps p.right b.1).1 s in
    λ i. combined operator (l i) (r i)

-- a pair with the older reference first
swapped : (operator : Operator) (x y : Bool) → combined operator x y ≡ combined operator y x
swapped And true true = refl
swapped And true false = refl
swapped And false true = refl
swapped And false false = refl
swapped Or true true = refl
swapped Or true false = refl
swapped Or false true = refl
swapped Or false false = refl

ordered-either : (p : Pair) → (ordered p ≡ p) ⊎ (ordered p ≡ record { left = p.right; right = p.left })
unfolding ordered
ordered-either p =
    elim (cases_lt p.right p.left) [
      | inl h ↦
          (let l : min p.left p.right ≡ p.right = omega arith in
          let r : max p.left p.right ≡ p.left = omega arith in
          inr (λ i. record { left = l i; right = r i }))
      | inr h ↦
          (let l : min p.left p.right ≡ p.left = omega arith in
          let r : max p.left p.right ≡ p.right = omega arith in
          inl (λ i. record { left = l i; right = r i }))
    ]

joint-ordered : (operator : Operator) (nodes : List Node) (p : Pair) → Same (joint operator nodes (ordered p)) (joint operator nodes p)
joint-ordered operator nodes p s =
    elim (ordered-either p) [
      | inl e ↦ ap (λ q. joint operator nodes q s) e
      | inr e ↦ ap (λ q. joint operator nodes q s) e ∙ swapped operator (meaning nodes p.right s) (meaning nodes p.left s)
    ]

pub both-ordered : (nodes : List Node) (p : Pair) → BothBelong nodes p → BothBelong nodes (ordered p)
unfolding ordered
both-ordered nodes p b = (omega (arith, b.0, b.1), omega (arith, b.0, b.1))

sum-ordered : (p : Pair) → (ordered p).left + (ordered p).right ≡ p.left + p.right
unfolding ordered
sum-ordered p = omega arith

-- the loop's invariant: f is the result's function
pub record IsUnderway (operator : Operator) (f : Members → Bool) (old now : Diagrams) (frames : List Frame) (focus : Focus) : Type 0 where
  pub adds : Adds f old now
  pub reduced : IsReduced now.nodes
  pub belongs : IsFocus operator old.nodes now.nodes focus
  pub waits : Waits operator old.nodes now.nodes f frames (aim operator old.nodes now.nodes focus)

module _ (operator : Operator) (f : Members → Bool) (old now : Diagrams) where
  -- a side of a pair of old references, in the old nodes
  side_old : Keeps old.nodes now.nodes → (p : Pair) → BothBelong old.nodes p → (v : ℕ) (side : Bool) (e : Pair) → IsCofactor now.nodes p v side e → BothBelong old.nodes e × Same (joint operator old.nodes e) (λ s. joint operator old.nodes p (fixing (below v side) s))
  side_old keeps p b v side e is =
      let left : Belongs old.nodes e.left = omega (arith, b.0, is.left_no_newer) in
      let right : Belongs old.nodes e.right = omega (arith, b.1, is.right_no_newer) in (
        (left, right),
        λ s.
            let l : meaning old.nodes e.left s ≡ meaning old.nodes p.left (fixing (below v side) s) =
            sym ((keeps e.left left).1 s) ∙ is.left_value s ∙ (keeps p.left b.0).1 (fixing (below v side) s) in
            let r : meaning old.nodes e.right s ≡ meaning old.nodes p.right (fixing (below v side) s) =
            sym ((keeps e.right right).1 s) ∙ is.right_value s ∙ (keeps p.right b.1).1 (fixing (below v side) s) in
            (λ i. combined operator (l i) (r i)),
      )

  top_old : Keeps old.nodes now.nodes → (p : Pair) → BothBelong old.nodes p → (v : ℕ) → IsTop now.nodes p v → (s : Members) → joint operator old.nodes p s ≡ joint operator old.nodes p (fixing (below v (has s v)) s)
  top_old keeps p b v is s =
      let l : meaning old.nodes p.left s ≡ meaning old.nodes p.left (fixing (below v (has s v)) s) =
      sym ((keeps p.left b.0).1 s) ∙ is.left_value s ∙ (keeps p.left b.0).1 (fixing (below v (has s v)) s) in
      let r : meaning old.nodes p.right s ≡ meaning old.nodes p.right (fixing (below v (has s v)) s) =
      sym ((keeps p.right b.1).1 s) ∙ is.right_value s ∙ (keeps p.right b.1).1 (fixing (below v (has s v)) s) in
      (λ i. combined operator (l i) (r i))

  -- what a waiting frame of a pair of nodes has
  set_of : Keeps old.nodes now.nodes → (p : Pair) → BothBelong old.nodes p → BothNodes p → (v : ℕ) → IsTop now.nodes p v → IsSet operator old.nodes p v
  set_of keeps p b two v top = record { belong = b; narrow = top.narrow; some = omega (arith, two.0); top = top_old keeps p b v top }

  -- a pair of nodes is begun by its low side
  opened_low : (frames frames' : List Frame) (p low : Pair) → IsUnderway operator f old now frames (Work p) → BothNodes p → BeginsLow now.nodes p frames frames' low → IsUnderway operator f old now frames' (Work low) × (work_left frames' (Work low) < work_left frames (Work p))
  opened_low frames frames' p low u two o =
      let keeps = Keeps-adds f old now u.adds in
      let v = o.0 in
      let high = o.1 in
      let b = o.2 in
      let split = o.4 in
      let low_side = side_old keeps p u.belongs v false low split.low in
      let high_side = side_old keeps p u.belongs v true high split.high in
      let some : 0 < p.left + p.right = omega (arith, two.0) in
      let is : IsFrame operator old.nodes now.nodes (Low p v high b) =
      (set_of keeps p u.belongs two v split.top, record { belong = high_side.0; older = split.high.older; value = high_side.1 }) in (
        record {
          adds = u.adds;
          reduced = u.reduced;
          belongs = low_side.0;
          waits = subst (λ fs. Waits operator old.nodes now.nodes f fs (joint operator old.nodes low)) (sym o.3) (Waits-push operator old.nodes now.nodes f frames (Low p v high b) (joint operator old.nodes low) u.waits is low_side.1);
        },
        omega (arith, ap (sum_by weight_of) o.3, sum_by-push frames (Low p v high b), work-falls (p.left + p.right) some, work-positive (p.left + p.right - 1), work-mono (low.left + low.right) (p.left + p.right - 1) (omega (arith, split.low.older))),
      )

  -- a pair of nodes is begun by its high side, since one of its references decides the low one
  opened_high : (frames frames' : List Frame) (p high : Pair) → IsUnderway operator f old now frames (Work p) → BothNodes p → BeginsHigh operator now.nodes p frames frames' high → IsUnderway operator f old now frames' (Work high) × (work_left frames' (Work high) < work_left frames (Work p))
  opened_high frames frames' p high u two o =
      let keeps = Keeps-adds f old now u.adds in
      let v = o.0 in
      let low = o.1 in
      let r = o.2 in
      let b = o.3 in
      let split = o.5 in
      let decided = o.6 in
      let low_side = side_old keeps p u.belongs v false low split.low in
      let high_side = side_old keeps p u.belongs v true high split.high in
      let both = both-ordered old.nodes low low_side.0 in
      let belongs : Belongs old.nodes r = elim decided.one_of_both [ inl e ↦ omega (arith, both.0) | inr e ↦ omega (arith, both.1) ] in
      let k = keeps r belongs in
      let some : 0 < p.left + p.right = omega (arith, two.0) in
      let is : IsFrame operator old.nodes now.nodes (High p v r b) =
      (set_of keeps p u.belongs two v split.top, record { belongs = k.0; value = λ s. k.1 s ∙ decided.value old.nodes s ∙ joint-ordered operator old.nodes low s ∙ low_side.1 s }) in (
        record {
          adds = u.adds;
          reduced = u.reduced;
          belongs = high_side.0;
          waits = subst (λ fs. Waits operator old.nodes now.nodes f fs (joint operator old.nodes high)) (sym o.4) (Waits-push operator old.nodes now.nodes f frames (High p v r b) (joint operator old.nodes high) u.waits is high_side.1);
        },
        omega (arith, ap (sum_by weight_of) o.4, sum_by-push frames (High p v r b), work-falls (p.left + p.right) some, work-positive (p.left + p.right - 1), work-mono (high.left + high.right) (p.left + p.right - 1) (omega (arith, split.high.older))),
      )

  -- a pair is begun
  opened_ordered : (frames frames' : List Frame) (p : Pair) (focus : Focus) → IsUnderway operator f old now frames (Work p) → Opens operator now.nodes p frames frames' focus → IsUnderway operator f old now frames' focus × (work_left frames' focus < work_left frames (Work p))
  opened_ordered frames frames' p (Done r) u o =
      let keeps = Keeps-adds f old now u.adds in
      let is : Belongs now.nodes r × Same (meaning now.nodes r) (joint operator old.nodes p) =
      elim o.1 [
        | inl decided ↦
            (let belongs : Belongs old.nodes r = elim decided.one_of_both [ inl e ↦ omega (arith, u.belongs.0) | inr e ↦ omega (arith, u.belongs.1) ] in
            let k = keeps r belongs in
            (k.0, λ s. k.1 s ∙ decided.value old.nodes s))
        | inr answer ↦ (answer.belongs, λ s. answer.value s ∙ joint-kept operator old.nodes now.nodes keeps p u.belongs s)
      ] in (
        record {
          adds = u.adds;
          reduced = u.reduced;
          belongs = is.0;
          waits = subst (λ fs. Waits operator old.nodes now.nodes f fs (meaning now.nodes r)) (sym o.0) (Waits-same operator old.nodes now.nodes f frames (joint operator old.nodes p) (meaning now.nodes r) u.waits is.1);
        },
        omega (arith, ap (sum_by weight_of) o.0, work-positive (p.left + p.right)),
      )
  opened_ordered frames frames' p (Work next) u o =
      elim o.1 [
        | inl low ↦ opened_low frames frames' p next u o.0 low
        | inr high ↦ opened_high frames frames' p next u o.0 high
      ]

  pub opened : (frames frames' : List Frame) (p : Pair) (focus : Focus) → IsUnderway operator f old now frames (Work p) → Opens operator now.nodes (ordered p) frames frames' focus → IsUnderway operator f old now frames' focus × (work_left frames' focus < work_left frames (Work p))
  opened frames frames' p focus u o =
      let first : IsUnderway operator f old now frames (Work (ordered p)) =
      record {
        adds = u.adds;
        reduced = u.reduced;
        belongs = both-ordered old.nodes p u.belongs;
        waits = Waits-same operator old.nodes now.nodes f frames (joint operator old.nodes p) (joint operator old.nodes (ordered p)) u.waits (joint-ordered operator old.nodes p);
      } in
      let step = opened_ordered frames frames' (ordered p) focus first o in
      (step.0, omega (arith, step.1, ap work (sum-ordered p)))

  -- the low side is done, and the high side is begun
  pub turned : (frames all : List Frame) (p : Pair) (v : ℕ) (high : Pair) (b r : ℕ) → all ≡ frames ++ Low p v high b ∷ [] → IsUnderway operator f old now all (Done r) → IsUnderway operator f old now (frames ++ High p v r b ∷ []) (Work high) × (work_left (frames ++ High p v r b ∷ []) (Work high) < work_left all (Done r))
  turned frames all p v high b r e u =
      let w = Waits-pop operator old.nodes now.nodes f frames (Low p v high b) (meaning now.nodes r) (subst (λ fs. Waits operator old.nodes now.nodes f fs (meaning now.nodes r)) e u.waits) in
      let set = w.1.0 in
      let has_high = w.1.1 in (
        record {
          adds = u.adds;
          reduced = u.reduced;
          belongs = has_high.belong;
          waits = Waits-push operator old.nodes now.nodes f frames (High p v r b) (joint operator old.nodes high) w.0 (set, record { belongs = u.belongs; value = w.2 }) has_high.value;
        },
        omega (arith, ap (sum_by weight_of) e, sum_by-push frames (Low p v high b), sum_by-push frames (High p v r b), work-positive (p.left + p.right - 1), work-mono (high.left + high.right) (p.left + p.right - 1) (omega (arith, has_high.older))),
      )

  module _ (frames all : List Frame) (p : Pair) (v low b r : ℕ) (e : all ≡ frames ++ High p v low b ∷ []) (u : IsUnderway operator f old now all (Done r)) where
    popped : Waits operator old.nodes now.nodes f frames (joint operator old.nodes p) × IsFrame operator old.nodes now.nodes (High p v low b) × Same (meaning now.nodes r) (part_of operator old.nodes (High p v low b))
    popped = Waits-pop operator old.nodes now.nodes f frames (High p v low b) (meaning now.nodes r) (subst (λ fs. Waits operator old.nodes now.nodes f fs (meaning now.nodes r)) e u.waits)

    -- both sides are done: what `make` requires
    pub low_belongs : Belongs now.nodes low
    low_belongs = popped.1.1.belongs

    pub low_later : v < level now.nodes low
    low_later =
        let h = level-fixed now.nodes u.reduced low low_belongs (joint operator old.nodes p) (below v false) (omega (arith, length-below v false, popped.1.0.narrow)) popped.1.1.value in
        omega (arith, length-below v false)

    pub high_later : v < level now.nodes r
    high_later =
        let h = level-fixed now.nodes u.reduced r u.belongs (joint operator old.nodes p) (below v true) (omega (arith, length-below v true, popped.1.0.narrow)) popped.2 in
        omega (arith, length-below v true)

    -- the choice between both sides is the pair's function
    chosen : (s : Members) → (if has s v then meaning now.nodes r s else meaning now.nodes low s) ≡ joint operator old.nodes p s
    chosen s = at (has s v) ∙ sym (popped.1.0.top s)
      where
        at : (b : Bool) → (if b then meaning now.nodes r s else meaning now.nodes low s) ≡ joint operator old.nodes p (fixing (below v b) s)
        at true = popped.2 s
        at false = popped.1.1.value s

    part : IsLowestFixed f (joint operator old.nodes p)
    part = Waits-fixed operator old.nodes now.nodes f frames (joint operator old.nodes p) popped.0

    -- the node that found no room shows that the store is crowded
    pub crowded : now.limit ≤ length now.nodes → IsNode now.nodes (record { variable = v; low = low; high = r }) → IsCrowded f old
    crowded full node =
        let n : Node = record { variable = v; low = low; high = r } in
        IsCrowded-full f old now n u.adds u.reduced full node
        (IsLowestFixed-same f (joint operator old.nodes p) (meaning (n ∷ now.nodes) (length now.nodes + 2)) part
        (λ s. meaning-newest n now.nodes s ∙ choice (has s v) s ∙ chosen s))
      where
        choice : (b : Bool) (s : Members) → meaning now.nodes (if b then r else low) s ≡ (if b then meaning now.nodes r s else meaning now.nodes low s)
        choice true s = refl
        choice false s = refl

    -- the node made is a part
    pub made_adds : (new : Diagrams) (q : ℕ) → Makes v low r now new q → Adds f old new
    made_adds new q m =
        Adds-makes f old now new v low r q u.adds m
        (IsLowestFixed-same f (joint operator old.nodes p) (meaning new.nodes q) part (λ s. m.value s ∙ chosen s))

    -- which answers the pair
    pub made_answer : (new : Diagrams) (q : ℕ) → Makes v low r now new q → IsAnswer new.nodes operator p q
    made_answer new q m =
        let keeps = Keeps-adds f old new (made_adds new q m) in
        let b = popped.1.0.belong in
        record {
          belong = ((keeps p.left b.0).0, (keeps p.right b.1).0);
          belongs = m.belongs;
          value = λ s. m.value s ∙ chosen s ∙ sym (joint-kept operator old.nodes new.nodes keeps p b s);
        }

    -- and the pair is done
    pub finished : (new : Diagrams) (q : ℕ) → Makes v low r now new q → IsUnderway operator f old new frames (Done q) × (work_left frames (Done q) < work_left all (Done r))
    finished new q m =
        let keeps = Keeps-makes v low r now new q m in
        let value : Same (meaning new.nodes q) (joint operator old.nodes p) = λ s. m.value s ∙ chosen s in (
          record {
            adds = made_adds new q m;
            reduced = m.reduced;
            belongs = m.belongs;
            waits = Waits-same operator old.nodes new.nodes f frames (joint operator old.nodes p) (meaning new.nodes q) (Waits-keep operator old.nodes now.nodes new.nodes keeps f frames (joint operator old.nodes p) popped.0) value;
          },
          omega (arith, ap (sum_by weight_of) e, sum_by-push frames (High p v low b), work-positive (p.left + p.right - 1)),
        )

-- the loop's beginning and its end
pub begun : (operator : Operator) (old : Diagrams) (p : Pair) → IsReduced old.nodes → BothBelong old.nodes p → (frames : List Frame) → frames ≡ [] → IsUnderway operator (joint operator old.nodes p) old old frames (Work p)
unfolding Waits
begun operator old p o b frames none =
    record {
      adds = Adds-none (joint operator old.nodes p) old;
      reduced = o;
      belongs = b;
      waits = subst (λ fs. Waits operator old.nodes old.nodes (joint operator old.nodes p) fs (joint operator old.nodes p)) (sym none) (λ s. refl);
    }

pub ended : (operator : Operator) (f : Members → Bool) (old now : Diagrams) (frames : List Frame) (r : ℕ) → frames ≡ [] → IsUnderway operator f old now frames (Done r) → Means now r f
unfolding Waits
ended operator f old now frames r none u =
    record { belongs = u.belongs; means = subst (λ fs. Waits operator old.nodes now.nodes f fs (meaning now.nodes r)) none u.waits }

pub pair_same : (p q : Pair) → pair_eq p q ≡ true → p ≡ q
pair_same p q h =
    let both = and_parts (p.left == q.left) (p.right == q.right) h in
    let l = eqb-true p.left q.left both.0 in
    let r = eqb-true p.right q.right both.1 in
    λ i. record { left = l i; right = r i }
