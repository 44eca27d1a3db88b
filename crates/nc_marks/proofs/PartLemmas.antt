-- Sets by their parts: own elements and the earlier set that follows them.
use Rattle.std.proofs.Common.{◌≡◌, ℕ, zero, suc, ◌+◌, ◌-◌, ◌<◌, ◌≤◌, Bool, true, false, cond, ◌||◌, ◌&&◌, List, [], ◌∷◌, ◌++◌, length, get_or, take, min, nat_eq, inl, inr, sym, ap, ◌∙◌, subst, refl, arith}
use Rattle.std.proofs.lemmas.Bool.{cases_lt}
use Rattle.std.proofs.lemmas.List.{append-nil, append_assoc, get_or_append_left, get_or_push, get_or-take, length_push, length-take}
use Rattle.std.proofs.lemmas.List.Folds.{list_any-append}
use Rattle.nc_marks.specs.Sets.{followed, has, has_at, sets_from, AreParts, IsAt, Table}

-- the set of a number
pub numbered : (sets : List (List ℕ)) (t : ℕ) → 0 < t → get_or ([] ∷ sets) t [] ≡ get_or sets (t - 1) []
numbered sets zero some = absurd (omega arith)
numbered sets (suc t) some = let e : t ≡ suc t - 1 = omega arith in ap (λ i. get_or sets i []) e

pub number-of : (sets : List (List ℕ)) (p : ℕ) → get_or ([] ∷ sets) (p + 1) [] ≡ get_or sets p []
number-of sets p =
    let some : 0 < p + 1 = omega arith in
    let e : p + 1 - 1 ≡ p = omega arith in
    numbered sets (p + 1) some ∙ ap (λ i. get_or sets i []) e

-- sets behind others leave those of earlier numbers as they are
earlier : (before more : List (List ℕ)) (t : ℕ) → t ≤ length before → get_or ([] ∷ (before ++ more)) t [] ≡ get_or ([] ∷ before) t []
earlier before more zero low = refl
earlier before more (suc t) low = get_or_append_left before more [] t (omega arith)

pub sets_from-length : (before : List (List ℕ)) (tails : List ℕ) (owns : List (List ℕ)) → length owns ≡ length tails → length (sets_from before tails owns) ≡ length tails
sets_from-length before [] owns same = refl
sets_from-length before (t ∷ tails) [] same = absurd (omega (arith, same))
sets_from-length before (t ∷ tails) (own ∷ owns) same =
    let rest = sets_from-length (before ++ followed before t own ∷ []) tails owns (omega (arith, same)) in
    omega (arith, rest)

pub sets_from-take : (k : ℕ) (before : List (List ℕ)) (tails : List ℕ) (owns : List (List ℕ)) → take k (sets_from before tails owns) ≡ sets_from before (take k tails) (take k owns)
sets_from-take zero before tails owns = refl
sets_from-take (suc k) before [] owns = refl
sets_from-take (suc k) before (t ∷ tails) [] = refl
sets_from-take (suc k) before (t ∷ tails) (own ∷ owns) = ap (λ sets. followed before t own ∷ sets) (sets_from-take k (before ++ followed before t own ∷ []) tails owns)

pub sets_from-push : (before : List (List ℕ)) (tails : List ℕ) (owns : List (List ℕ)) (t : ℕ) (own : List ℕ) → length owns ≡ length tails
    → sets_from before (tails ++ t ∷ []) (owns ++ own ∷ []) ≡ sets_from before tails owns ++ followed (before ++ sets_from before tails owns) t own ∷ []
sets_from-push before [] [] t own same = ap (λ sets. followed sets t own ∷ []) (sym (append-nil before))
sets_from-push before [] (o ∷ owns) t own same = absurd (omega (arith, same))
sets_from-push before (x ∷ tails) [] t own same = absurd (omega (arith, same))
sets_from-push before (x ∷ tails) (o ∷ owns) t own same =
    let first = followed before x o in
    let rest = sets_from (before ++ first ∷ []) tails owns in
    ap (λ sets. first ∷ sets) (sets_from-push (before ++ first ∷ []) tails owns t own (omega (arith, same)))
    ∙ ap (λ sets. first ∷ (rest ++ followed sets t own ∷ [])) (append_assoc before (first ∷ []) rest)

sets_from-read : (k : ℕ) (before : List (List ℕ)) (tails : List ℕ) (owns : List (List ℕ)) → length owns ≡ length tails → k < length tails → get_or tails k 0 ≤ length before + k
    → get_or (sets_from before tails owns) k [] ≡ followed (before ++ sets_from before tails owns) (get_or tails k 0) (get_or owns k [])
sets_from-read k before [] owns same within low = absurd (omega arith)
sets_from-read k before (t ∷ tails) [] same within low = absurd (omega (arith, same))
sets_from-read zero before (t ∷ tails) (own ∷ owns) same within low =
    ap (λ set. own ++ set) (sym (earlier before (followed before t own ∷ sets_from (before ++ followed before t own ∷ []) tails owns) t (omega (arith, low))))
sets_from-read (suc k) before (t ∷ tails) (own ∷ owns) same within low =
    let first = followed before t own in
    let rest = sets_from (before ++ first ∷ []) tails owns in
    let more : get_or tails k 0 ≤ length (before ++ first ∷ []) + k = omega (arith, low, length_push before first) in
    sets_from-read k (before ++ first ∷ []) tails owns (omega (arith, same)) (omega arith) more
    ∙ ap (λ sets. followed sets (get_or tails k 0) (get_or owns k [])) (append_assoc before (first ∷ []) rest)

-- a set is its own elements and those of the one that follows
pub sets-at : (tails : List ℕ) (owns : List (List ℕ)) (table : Table) (place t : ℕ) (own : List ℕ) → AreParts tails owns → sets_from [] tails owns ≡ table.sets → place < length tails → get_or tails place 0 ≡ t → get_or owns place [] ≡ own
    → get_or table.sets place [] ≡ followed table.sets t own
sets-at tails owns table place t own are same within tail_is own_is =
    let earlier = are.earlier place within in
    let low : get_or tails place 0 ≤ length {A = List ℕ} [] + place = omega (arith, earlier) in
    subst (λ sets. get_or sets place [] ≡ followed sets t own) same
    (sets_from-read place [] tails owns are.len within low ∙ ap (λ n. followed (sets_from [] tails owns) n (get_or owns place [])) tail_is ∙ ap (followed (sets_from [] tails owns) t) own_is)

pub has-append : (xs ys : List ℕ) (e : ℕ) → has (xs ++ ys) e ≡ (has xs e || has ys e)
has-append xs ys e = list_any-append (nat_eq e) xs ys

-- one more, and as many of the first
pub AreParts-push : (tails : List ℕ) (owns : List (List ℕ)) (t : ℕ) (own : List ℕ) → AreParts tails owns → t ≤ length tails → AreParts (tails ++ t ∷ []) (owns ++ own ∷ [])
AreParts-push tails owns t own are low = record {
  len = length_push owns own ∙ ap (λ n. n + 1) are.len ∙ sym (length_push tails t);
  earlier = λ i within. elim (cases_lt i (length tails)) [
    | inl old ↦ subst (λ n. n ≤ i) (sym (get_or_append_left tails (t ∷ []) 0 i old)) (are.earlier i old)
    | inr last ↦
        (let here : i ≡ length tails = omega (arith, within, last, length_push tails t) in
        subst (λ n. n ≤ i) (sym (ap (λ j. get_or (tails ++ t ∷ []) j 0) here ∙ get_or_push tails t 0 (length tails) refl)) (omega (arith, here)))
  ];
}

pub AreParts-take : (k : ℕ) (tails : List ℕ) (owns : List (List ℕ)) → AreParts tails owns → AreParts (take k tails) (take k owns)
AreParts-take k tails owns are = record {
  len = length-take k owns ∙ ap (min k) are.len ∙ sym (length-take k tails);
  earlier = λ i within.
      let below : i < k = omega (arith, within, length-take k tails) in
      let there : i < length tails = omega (arith, within, length-take k tails) in
      subst (λ n. n ≤ i) (sym (get_or-take k tails i 0 below)) (are.earlier i there);
}

-- an element in one part more
pub has-followed : (sets : List (List ℕ)) (t : ℕ) (own : List ℕ) (e : ℕ) → has (followed sets t own) e ≡ (has own e || has (get_or ([] ∷ sets) t []) e)
has-followed sets t own e = has-append own (get_or ([] ∷ sets) t []) e

pub flag-more : (own rest value flag : Bool) → cond rest value (cond own value flag) ≡ cond (own || rest) value flag
flag-more true true value flag = refl
flag-more true false value flag = refl
flag-more false rest value flag = refl

pub or_again : (a b : Bool) → ((a || b) || b) ≡ (a || b)
or_again true b = refl
or_again false true = refl
or_again false false = refl

-- one set more in a union, beside another
pub or-more : (g p b i x : Bool) → (g || b) ≡ (i || (x || b)) → ((g || p) || b) ≡ (i || ((x || p) || b))
or-more true p b true x h = refl
or-more true p b false true h = refl
or-more true true b false false h = refl
or-more true false b false false h = h
or-more false true b true x h = refl
or-more false false b true x h = h
or-more false true b false true h = refl
or-more false false b false true h = h
or-more false p b false false h = refl

-- one set more in an intersection, of sets that all have another
pub and-more : (g o t i y : Bool) → (g || t) ≡ ((i || t) && y) → ((g && o) || t) ≡ ((i || t) && (y && (o || t)))
and-more true true t i true h = h
and-more true true t i false h = h
and-more true false true true true h = refl
and-more true false true true false h = h
and-more true false true false true h = refl
and-more true false true false false h = h
and-more true false false true true h = refl
and-more true false false true false h = refl
and-more true false false false y h = refl
and-more false true true true true h = refl
and-more false false true true true h = refl
and-more false o true true false h = h
and-more false true true false true h = refl
and-more false false true false true h = refl
and-more false o true false false h = h
and-more false true false true true h = h
and-more false false false true true h = refl
and-more false o false true false h = refl
and-more false o false false y h = refl

-- elements without those of a set: the flags tell those that are left, and with the set it is as before
pub left-out : (in_set was : Bool) → (was && cond in_set false was) ≡ cond in_set false was
left-out true true = refl
left-out true false = refl
left-out false true = refl
left-out false false = refl

pub left-with : (in_set was : Bool) → ((was && cond in_set false was) || in_set) ≡ (was || in_set)
left-with true true = refl
left-with true false = refl
left-with false true = refl
left-with false false = refl

-- as many sets as there are parts
pub sets-within : (tails : List ℕ) (owns : List (List ℕ)) (table : Table) (place : ℕ) → AreParts tails owns → sets_from [] tails owns ≡ table.sets → place < length table.sets → place < length tails
sets-within tails owns table place are same within = subst (λ n. place < n) (sym (ap length same) ∙ sets_from-length [] tails owns are.len) within

pub same-table : (s t : List (List ℕ)) (w v : ℕ) → s ≡ t → w ≡ v → ◌≡◌ {A = Table} (record { sets = s; width = w }) (record { sets = t; width = v })
same-table s t w v sets widths =
    ap {A = List (List ℕ)} {B = Table} (λ x. record { sets = x; width = w }) sets ∙ ap {A = ℕ} {B = Table} (λ x. record { sets = t; width = x }) widths

-- a set behind the others, by its parts
pub pushed-at : (t : Table) (tail : ℕ) (own : List ℕ) (base place : ℕ) → place ≡ length t.sets → ((e : ℕ) → e < t.width → has (get_or ([] ∷ t.sets) tail []) e ≡ has_at t base e)
    → IsAt (record t { sets = t.sets ++ followed t.sets tail own ∷ [] }) place (λ e. has own e || has_at t base e)
pushed-at t tail own base place last ends = record {
  within = let long = length_push t.sets (followed t.sets tail own) in omega (arith, last, long);
  exact = λ e lt.
      ap (λ set. has set e) (get_or_push t.sets (followed t.sets tail own) [] place (sym last))
      ∙ has-followed t.sets tail own e ∙ ap (λ b. has own e || b) (ends e lt);
}
