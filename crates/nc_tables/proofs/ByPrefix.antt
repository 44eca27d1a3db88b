-- Rows in order of their prefixes: going over the distinct prefixes, and over the rows of each, is going over the rows.
use Rattle.std.proofs.Common.{◌≡◌, ℕ, zero, suc, Bool, true, false, cond, ◌||◌, List, [], ◌∷◌, ◌++◌, length, map, get_or, All, Option, Some, None, refl, sym, ap, subst, ◌∙◌, arith}
use Rattle.std.specs.List.{AllPairs, flat_map, list_any}
use Rattle.std.specs.List.Sorted.{IsSortedByKey}
use Rattle.std.specs.Option.{option_map_or}
use Rattle.std.specs.Ordering.{is_gt, is_eq, ordering_reverse}
use Rattle.std.specs.declared.cmp.Ordering.{Ordering}
use Rattle.std.specs.declared.cmp.Ordering.TheVariants.{Less, Equal, Greater}
use Rattle.std.proofs.lemmas.Cmp.{tied_itself, alike_right}
use Rattle.std.proofs.lemmas.List.{length-map, get_or-map}
use Rattle.std.proofs.lemmas.List.Elements.{All-cons, All-tail}
use Rattle.nc_types.specs.Cidr.{Cidr}
use Rattle.nc_types.proofs.Sameness.{same_prefix_is}
use Rattle.nc_tables.specs.Base.{same_prefix, prefix_cmp}
use Rattle.nc_tables.specs.Order.{insert, in_order}
use Rattle.nc_tables.specs.Rounds.{distinct, made_from}
use Rattle.nc_tables.proofs.SideBySide.{prefix_total, same_by_cmp, rises}

-- ---- two prefixes

pub same_itself : (p : Cidr) → same_prefix p p ≡ true
same_itself p = same_by_cmp p p ∙ ap is_eq (tied_itself prefix_total p)

pub less_differs : (p q : Cidr) → prefix_cmp p q ≡ Less → same_prefix p q ≡ false
less_differs p q e = same_by_cmp p q ∙ ap is_eq e

pub less_differs_back : (p q : Cidr) → prefix_cmp p q ≡ Less → same_prefix q p ≡ false
less_differs_back p q e = same_by_cmp q p ∙ ap is_eq (prefix_total.antisymm q p ∙ ap ordering_reverse e)

less_by : (p q : Cidr) → is_gt (prefix_cmp p q) ≡ false → same_prefix p q ≡ false → prefix_cmp p q ≡ Less
less_by p q up other = on (prefix_cmp p q) up (sym (same_by_cmp p q) ∙ other)
  where
    on : (o : Ordering) → is_gt o ≡ false → is_eq o ≡ false → o ≡ Less
    on Less e f = refl
    on Equal e f = absurd cc
    on Greater e f = absurd cc

less_upto : (p q r : Cidr) → prefix_cmp p q ≡ Less → is_gt (prefix_cmp q r) ≡ false → prefix_cmp p r ≡ Less
less_upto p q r less up = on (prefix_cmp q r) refl
  where
    on : (o : Ordering) → prefix_cmp q r ≡ o → prefix_cmp p r ≡ Less
    on Less e = prefix_total.trans p q r less e
    on Equal e = sym (alike_right prefix_total q r p e) ∙ less
    on Greater e = let high : is_gt (prefix_cmp q r) ≡ true = ap is_gt e in absurd cc

-- ---- lists

pub pairs_cons : {X : Type 0} (R : X → X → Type 0) (x : X) (xs : List X) → All (R x) xs → AllPairs R xs → AllPairs R (x ∷ xs)
pairs_cons R x xs first rest i zero d less lt = absurd (omega arith)
pairs_cons R x xs first rest zero (suc j) d less lt = first j d (omega arith)
pairs_cons R x xs first rest (suc i) (suc j) d less lt = rest i j d (omega arith) (omega arith)

pub pairs_head : {X : Type 0} (R : X → X → Type 0) (x : X) (xs : List X) → AllPairs R (x ∷ xs) → All (R x) xs
pairs_head R x xs pairs k d lt = pairs 0 (suc k) d (omega arith) (omega arith)

pub pairs_tail : {X : Type 0} (R : X → X → Type 0) (x : X) (xs : List X) → AllPairs R (x ∷ xs) → AllPairs R xs
pairs_tail R x xs pairs i j d less lt = pairs (suc i) (suc j) d (omega arith) (omega arith)

-- a list that rises is in order
pub in_order_is : {X : Type 0} (cmp : X → X → Ordering) (xs : List X) → AllPairs (λ a b. cmp a b ≡ Less) xs → in_order cmp xs ≡ xs
in_order_is cmp [] up = refl
in_order_is cmp (x ∷ xs) up = ap (insert cmp x) (in_order_is cmp xs (pairs_tail (λ a b. cmp a b ≡ Less) x xs up)) ∙ at_front xs (pairs_head (λ a b. cmp a b ≡ Less) x xs up)
  where
    at_front : (ys : List _) → All (λ b. cmp x b ≡ Less) ys → insert cmp x ys ≡ x ∷ ys
    at_front [] above = refl
    at_front (y ∷ ys) above = ap (λ (o : Ordering). cond (is_gt o) (y ∷ insert cmp x ys) (x ∷ y ∷ ys)) (above 0 y (omega arith))

pub none_by_any : {X : Type 0} (test : X → Bool) (xs : List X) → list_any test xs ≡ false → All (λ x. test x ≡ false) xs
none_by_any test [] e k d lt = absurd (omega arith)
none_by_any test (x ∷ xs) e zero d lt = first (test x) (list_any test xs) e
  where
    first : (a b : Bool) → (a || b) ≡ false → a ≡ false
    first true b e = absurd cc
    first false b e = refl
none_by_any test (x ∷ xs) e (suc k) d lt = none_by_any test xs (second (test x) (list_any test xs) e) k d (omega arith)
  where
    second : (a b : Bool) → (a || b) ≡ false → b ≡ false
    second true b e = absurd cc
    second false b e = e

any_by_none : {X : Type 0} (test : X → Bool) (xs : List X) → All (λ x. test x ≡ false) xs → list_any test xs ≡ false
any_by_none test [] none = refl
any_by_none test (x ∷ xs) none = ap (λ (b : Bool). b || list_any test xs) (none 0 x (omega arith)) ∙ any_by_none test xs (λ k d lt. none (suc k) d (omega arith))

-- what holds of prefixes holds of those that are kept
pub all_distinct : (P : Cidr → Type 0) (ps : List Cidr) → All P ps → All P (distinct ps)
all_distinct P [] each = each
all_distinct P (p ∷ ps) each = on (list_any (same_prefix p) ps) (all_distinct P ps (All-tail P p ps each))
  where
    on : (b : Bool) → All P (distinct ps) → All P (cond b (distinct ps) (p ∷ distinct ps))
    on true rest = rest
    on false rest = All-cons P p (distinct ps) (each 0 p (omega arith)) rest

-- ---- prefixes in order

abbrev pub IsUpto : Cidr → Cidr → Type 0
IsUpto p q = is_gt (prefix_cmp p q) ≡ false

-- no prefix is above a later one
abbrev pub Rise : List Cidr → Type 0
Rise ps = AllPairs IsUpto ps

-- a list begins with a prefix, and those behind it are above it
record Begins (p : Cidr) (ps : List Cidr) : Type 0 where
  rest : List Cidr
  is : ps ≡ p ∷ rest
  above : All (λ q. prefix_cmp p q ≡ Less) rest

all_above : (p : Cidr) (ps : List Cidr) → Rise (p ∷ ps) → list_any (same_prefix p) ps ≡ false → All (λ q. prefix_cmp p q ≡ Less) ps
all_above p ps up none k d lt = less_by p (get_or ps k d) (pairs_head IsUpto p ps up k d lt) (none_by_any (same_prefix p) ps none k d lt)

-- if a prefix occurs behind its place, it is the next one
next_is : (p q : Cidr) (qs : List Cidr) → Rise (p ∷ q ∷ qs) → list_any (same_prefix p) (q ∷ qs) ≡ true → p ≡ q
next_is p q qs up some = on (same_prefix p q) refl
  where
    on : (b : Bool) → same_prefix p q ≡ b → p ≡ q
    on true same = same_prefix_is p q same
    on false other =
        let less : prefix_cmp p q ≡ Less = less_by p q (up 0 1 p (omega arith) (omega arith)) other in
        let behind : All (λ r. is_gt (prefix_cmp q r) ≡ false) qs = pairs_head IsUpto q qs (pairs_tail IsUpto p (q ∷ qs) up) in
        let none : list_any (same_prefix p) (q ∷ qs) ≡ false = any_by_none (same_prefix p) (q ∷ qs) (All-cons (λ r. same_prefix p r ≡ false) q qs other (λ k d lt. less_differs p (get_or qs k d) (less_upto p q (get_or qs k d) less (behind k d lt)))) in
        absurd cc

begins : (p : Cidr) (ps : List Cidr) → Rise (p ∷ ps) → Begins p (distinct (p ∷ ps))
begins p [] up = record { rest = []; is = refl; above = λ k d lt. absurd (omega arith) }
begins p (q ∷ qs) up = on (list_any (same_prefix p) (q ∷ qs)) refl (begins q qs (pairs_tail IsUpto p (q ∷ qs) up))
  where
    on : (b : Bool) → list_any (same_prefix p) (q ∷ qs) ≡ b → Begins q (distinct (q ∷ qs)) → Begins p (cond b (distinct (q ∷ qs)) (p ∷ distinct (q ∷ qs)))
    on true some next = subst (λ (r : Cidr). Begins r (distinct (q ∷ qs))) (sym (next_is p q qs up some)) next
    on false none next = record { rest = distinct (q ∷ qs); is = refl; above = all_distinct (λ q. prefix_cmp p q ≡ Less) (q ∷ qs) (all_above p (q ∷ qs) up none) }

-- the distinct prefixes of a list in order rise
pub distinct_rises : (ps : List Cidr) → Rise ps → AllPairs (λ p q. prefix_cmp p q ≡ Less) (distinct ps)
distinct_rises [] up = λ i j d less lt. absurd (omega arith)
distinct_rises (p ∷ ps) up = on (list_any (same_prefix p) ps) refl (distinct_rises ps (pairs_tail IsUpto p ps up))
  where
    on : (b : Bool) → list_any (same_prefix p) ps ≡ b → AllPairs (λ p q. prefix_cmp p q ≡ Less) (distinct ps) → AllPairs (λ p q. prefix_cmp p q ≡ Less) (cond b (distinct ps) (p ∷ distinct ps))
    on true some rest = rest
    on false none rest = pairs_cons (λ p q. prefix_cmp p q ≡ Less) p (distinct ps) (all_distinct (λ q. prefix_cmp p q ≡ Less) ps (all_above p ps up none)) rest

pub distinct_in_order : (ps : List Cidr) → Rise ps → in_order prefix_cmp (distinct ps) ≡ distinct ps
distinct_in_order ps up = in_order_is prefix_cmp (distinct ps) (distinct_rises ps up)

-- ---- rows by their prefixes

-- the prefixes of rows in order rise
pub prefixes_rise : {A : Type 0} (pre : A → Cidr) (rows : List A) → IsSortedByKey pre prefix_cmp rows → Rise (map pre rows)
prefixes_rise pre [] ordered i j d less lt = absurd (omega arith)
prefixes_rise pre (row ∷ rows) ordered i j d less lt =
    let count : length (map pre (row ∷ rows)) ≡ length (row ∷ rows) = length-map (row ∷ rows) pre in
    let up : is_gt (prefix_cmp (pre (get_or (row ∷ rows) i row)) (pre (get_or (row ∷ rows) j row))) ≡ false = rises pre (row ∷ rows) ordered i j row (omega arith) (omega arith) in
    let at_i = get_or-map pre (row ∷ rows) i row d (omega arith) in
    let at_j = get_or-map pre (row ∷ rows) j row d (omega arith) in
    ap (λ (p : Cidr). is_gt (prefix_cmp p (get_or (map pre (row ∷ rows)) j d))) at_i ∙ ap (λ (q : Cidr). is_gt (prefix_cmp (pre (get_or (row ∷ rows) i row)) q)) at_j ∙ up

module _ {A B : Type 0} (pre : A → Cidr) (make : ℕ → A → B) where
  -- what a row makes, if it has this prefix
  abbrev pub of_prefix : Cidr → ℕ → A → Option B
  of_prefix p place row = cond (same_prefix (pre row) p) (Some (make place row)) None

  abbrev pub of_any : ℕ → A → Option B
  of_any place row = Some (make place row)

  made_first : (p : Cidr) (place : ℕ) (row : A) (rows : List A) → same_prefix (pre row) p ≡ true → made_from (of_prefix p) place (row ∷ rows) ≡ make place row ∷ made_from (of_prefix p) (suc place) rows
  made_first p place row rows same =
      ap (λ (b : Bool). option_map_or (λ (y : B). y ∷ made_from (of_prefix p) (suc place) rows) (cond b (Some (make place row)) None) (made_from (of_prefix p) (suc place) rows)) same

  made_later : (p : Cidr) (place : ℕ) (row : A) (rows : List A) → same_prefix (pre row) p ≡ false → made_from (of_prefix p) place (row ∷ rows) ≡ made_from (of_prefix p) (suc place) rows
  made_later p place row rows other =
      ap (λ (b : Bool). option_map_or (λ (y : B). y ∷ made_from (of_prefix p) (suc place) rows) (cond b (Some (make place row)) None) (made_from (of_prefix p) (suc place) rows)) other

  made_none : (p : Cidr) (place : ℕ) (rows : List A) → All (λ row. same_prefix (pre row) p ≡ false) rows → made_from (of_prefix p) place rows ≡ []
  made_none p place [] none = refl
  made_none p place (row ∷ rows) none = made_later p place row rows (none 0 row (omega arith)) ∙ made_none p (suc place) rows (λ k d lt. none (suc k) d (omega arith))

  all_later : (place : ℕ) (row : A) (rows : List A) (ps : List Cidr) → All (λ p. prefix_cmp (pre row) p ≡ Less) ps
      → flat_map (λ p. made_from (of_prefix p) place (row ∷ rows)) ps ≡ flat_map (λ p. made_from (of_prefix p) (suc place) rows) ps
  all_later place row rows [] above = refl
  all_later place row rows (p ∷ ps) above =
      ap (λ (l : List B). l ++ flat_map (λ q. made_from (of_prefix q) place (row ∷ rows)) ps) (made_later p place row rows (less_differs (pre row) p (above 0 p (omega arith))))
      ∙ ap (λ (l : List B). made_from (of_prefix p) (suc place) rows ++ l) (all_later place row rows ps (λ k d lt. above (suc k) d (omega arith)))

  -- the first row of a list, and what is behind it
  first_made : (place : ℕ) (row : A) (rows : List A) (ps : List Cidr) → All (λ p. prefix_cmp (pre row) p ≡ Less) ps
      → flat_map (λ p. made_from (of_prefix p) place (row ∷ rows)) (pre row ∷ ps) ≡ make place row ∷ flat_map (λ p. made_from (of_prefix p) (suc place) rows) (pre row ∷ ps)
  first_made place row rows ps above =
      ap (λ (l : List B). l ++ flat_map (λ q. made_from (of_prefix q) place (row ∷ rows)) ps) (made_first (pre row) place row rows (same_itself (pre row)))
      ∙ ap (λ (l : List B). make place row ∷ (made_from (of_prefix (pre row)) (suc place) rows ++ l)) (all_later place row rows ps above)

  -- over the distinct prefixes, the rows of each: these are all rows
  pub by_prefixes : (place : ℕ) (rows : List A) → Rise (map pre rows) → flat_map (λ p. made_from (of_prefix p) place rows) (distinct (map pre rows)) ≡ made_from of_any place rows
  by_prefixes place [] up = refl
  by_prefixes place (row ∷ rows) up = on (list_any (same_prefix (pre row)) (map pre rows)) refl (by_prefixes (suc place) rows (pairs_tail IsUpto (pre row) (map pre rows) up)) (begins (pre row) (map pre rows) up)
    where
      on : (b : Bool) → list_any (same_prefix (pre row)) (map pre rows) ≡ b → flat_map (λ p. made_from (of_prefix p) (suc place) rows) (distinct (map pre rows)) ≡ made_from of_any (suc place) rows → Begins (pre row) (distinct (map pre (row ∷ rows)))
          → flat_map (λ p. made_from (of_prefix p) place (row ∷ rows)) (distinct (map pre (row ∷ rows))) ≡ make place row ∷ made_from of_any (suc place) rows
      on true some rest begin =
          let same : distinct (map pre rows) ≡ pre row ∷ begin.rest = ap (λ (b : Bool). cond b (distinct (map pre rows)) (pre row ∷ distinct (map pre rows))) (sym some) ∙ begin.is in
          ap (flat_map (λ p. made_from (of_prefix p) place (row ∷ rows))) begin.is
          ∙ first_made place row rows begin.rest begin.above
          ∙ ap (λ (l : List B). make place row ∷ l) (sym (ap (flat_map (λ p. made_from (of_prefix p) (suc place) rows)) same) ∙ rest)
      on false none rest begin =
          let above = all_above (pre row) (map pre rows) up none in
          let others : All (λ r. same_prefix (pre r) (pre row) ≡ false) rows = λ k d lt. less_differs_back (pre row) (pre (get_or rows k d)) (rw (← get_or-map pre rows k d (pre d) lt) (above k (pre d) (omega (arith, length-map rows pre)))) in
          ap (λ (b : Bool). flat_map (λ p. made_from (of_prefix p) place (row ∷ rows)) (cond b (distinct (map pre rows)) (pre row ∷ distinct (map pre rows)))) none
          ∙ first_made place row rows (distinct (map pre rows)) (all_distinct (λ q. prefix_cmp (pre row) q ≡ Less) (map pre rows) above)
          ∙ ap (λ (l : List B). make place row ∷ (l ++ flat_map (λ p. made_from (of_prefix p) (suc place) rows) (distinct (map pre rows)))) (made_none (pre row) (suc place) rows others)
          ∙ ap (λ (l : List B). make place row ∷ l) rest
