-- Statements in order of their numbers, run by run.
use Rattle.std.proofs.Common.{◌≡◌, ◌≢◌, ℕ, suc, ◌+◌, ◌<◌, ◌≤◌, ◌==◌, Bool, true, false, nat_lt, List, [], ◌∷◌, ◌++◌, map, filter, get_or, take, drop, Some, not, ◌&&◌, ◌||◌, cond, nat_eq, append-nil, refl, sym, ap, ◌∙◌, subst, arith}
use Rattle.std.specs.Ordering.{nat_cmp, is_lt}
use Rattle.std.specs.List.{filter_map, cons_option, All, AllByRecursion}
use Rattle.std.specs.List.Sorted.{IsSortedByKey, IsStableByKey, ties}
use Rattle.std.proofs.lemmas.Bool.Decides.{nat_tests}
use Rattle.std.proofs.lemmas.List.{take-append-drop}
use Rattle.std.proofs.lemmas.List.Elements.{filter-append, recursion_from_All}
use Rattle.nc_types.specs.Communities.{put_all, has}
use Rattle.nc_types.specs.declared.config.ListEntry.{ListEntry}
use Rattle.nc_lines.proofs.PartLemmas.{kept}
use Rattle.nc_community.proofs.SetLemmas.{IsBelow, below_all, put_same, all_has, all_ascends, same_sets}
use Rattle.nc_community.proofs.MergeLemmas.{head_stays}
use Rattle.nc_read_policy.specs.Lists.{EntryPart, of_seq, part_of, seqs_of, parts_of}

-- ---- order, by the first statement

abbrev pub IsFrom : ℕ → List ListEntry → Type 0
IsFrom m [] = Unit {0}
IsFrom m (e ∷ es) = (m ≤ e.seq) × IsFrom m es

abbrev pub Rises : List ListEntry → Type 0
Rises [] = Unit {0}
Rises (e ∷ es) = IsFrom e.seq es × Rises es

still_from : (m n : ℕ) (es : List ListEntry) → m ≤ n → IsFrom n es → IsFrom m es
still_from m n [] le f = tt
still_from m n (e ∷ es) le f = (omega arith, still_from m n es le f.1)

pub by_places : (es : List ListEntry) → IsSortedByKey (λ (e : ListEntry). e.seq) nat_cmp es → Rises es
by_places [] h = tt
by_places (e ∷ []) h = (tt, tt)
by_places (e ∷ f ∷ es) h =
    let le : e.seq ≤ f.seq = not_less e.seq f.seq (h 0 e (omega arith) (omega arith)) in
    let rest = by_places (f ∷ es) (λ k d low high. subst (λ (n : ℕ). is_lt (nat_cmp (get_or (e ∷ f ∷ es) n d).seq (get_or (f ∷ es) k d).seq) ≡ false) {x = suc k + 1} {y = suc (k + 1)} (omega arith) (h (suc k) d (omega arith) (omega arith))) in
    ((le, still_from e.seq f.seq es le rest.0), rest)
  where
    not_less : (m n : ℕ) → is_lt (nat_cmp n m) ≡ false → m ≤ n
    not_less m n e = grind (arith, nat_tests)

pub rest_rises : (xs ys : List ListEntry) → Rises (xs ++ ys) → Rises ys
rest_rises [] ys r = r
rest_rises (x ∷ xs) ys r = rest_rises xs ys r.1

rest_from : (m : ℕ) (xs ys : List ListEntry) → IsFrom m (xs ++ ys) → IsFrom m ys
rest_from m [] ys f = f
rest_from m (x ∷ xs) ys f = rest_from m xs ys f.1

-- ---- runs

-- the numbers of a run are one number
abbrev pub AreOf : ℕ → List ListEntry → Type 0
AreOf seq run = AllByRecursion (λ (e : ListEntry). e.seq ≡ seq) run

-- no statement behind has it
abbrev pub AreAbove : ℕ → List ListEntry → Type 0
AreAbove seq behind = IsBelow seq (map (λ (e : ListEntry). e.seq) behind)

all_above : (m : ℕ) (es : List ListEntry) → IsFrom (m + 1) es → AreAbove m es
all_above m [] f = tt
all_above m (e ∷ es) f = (omega arith, all_above m es f.1)

pub above_run : (seq : ℕ) (behind : List ListEntry) → IsFrom seq behind → Rises behind → ((e : ListEntry) (es : List ListEntry) → behind ≡ e ∷ es → e.seq ≢ seq) → AreAbove seq behind
above_run seq [] f r other = tt
above_run seq (e ∷ es) f r other =
    let ne : e.seq ≢ seq = other e es refl in
    let lt : seq + 1 ≤ e.seq = omega (arith, f.0) in
    all_above seq (e ∷ es) (lt, still_from (seq + 1) e.seq es lt r.0)

seqs_of_run : (seq : ℕ) (run behind : List ListEntry) → AreOf seq run → put_all (seq ∷ []) (map (λ (e : ListEntry). e.seq) (run ++ behind)) ≡ put_all (seq ∷ []) (map (λ (e : ListEntry). e.seq) behind)
seqs_of_run seq [] behind of = refl
seqs_of_run seq (e ∷ run) behind of =
    let a : nat_lt e.seq seq ≡ false = let same : e.seq ≡ seq = of.0 in grind (arith, nat_tests) in
    let b : nat_lt seq e.seq ≡ false = let same : e.seq ≡ seq = of.0 in grind (arith, nat_tests) in
    ap (λ (set : List ℕ). put_all set (map (λ (e : ListEntry). e.seq) (run ++ behind))) (put_same e.seq seq [] a b) ∙ seqs_of_run seq run behind of.1

-- the statements of a number, where it is that of the run, and where it is another
run_of_seq : (seq : ℕ) (run : List ListEntry) → AreOf seq run → of_seq seq run ≡ run
run_of_seq seq [] of = refl
run_of_seq seq (e ∷ run) of =
    let same : (e.seq == seq) ≡ true = let is : e.seq ≡ seq = of.0 in grind (arith, nat_tests) in
    rw same (ap (λ (es : List ListEntry). e ∷ es) (run_of_seq seq run of.1))

none_of_run : (seq n : ℕ) (run : List ListEntry) → AreOf seq run → seq < n → of_seq n run ≡ []
none_of_run seq n [] of lt = refl
none_of_run seq n (e ∷ run) of lt =
    let other : (e.seq == n) ≡ false = let is : e.seq ≡ seq = of.0 in grind (arith, nat_tests) in
    rw other (none_of_run seq n run of.1 lt)

none_above : (seq : ℕ) (es : List ListEntry) → AreAbove seq es → of_seq seq es ≡ []
none_above seq [] above = refl
none_above seq (e ∷ es) above =
    let other : (e.seq == seq) ≡ false = let lt : seq < e.seq = above.0 in grind (arith, nat_tests) in
    rw other (none_above seq es above.1)

others_stay : (seq : ℕ) (run behind : List ListEntry) (ns : List ℕ) → AreOf seq run → IsBelow seq ns
    → filter_map (λ (n : ℕ). part_of (of_seq n (run ++ behind))) ns ≡ filter_map (λ (n : ℕ). part_of (of_seq n behind)) ns
others_stay seq run behind [] of below = refl
others_stay seq run behind (n ∷ ns) of below =
    let is : of_seq n (run ++ behind) ≡ of_seq n behind = filter-append (λ (e : ListEntry). e.seq == n) run behind ∙ ap (λ (es : List ListEntry). es ++ of_seq n behind) (none_of_run seq n run of below.0) in
    rw is (ap (cons_option (part_of (of_seq n behind))) (others_stay seq run behind ns of below.1))

-- the first run makes the first entry
pub first_run : (seq : ℕ) (first : ListEntry) (run behind : List ListEntry) (p : EntryPart) → first.seq ≡ seq → AreOf seq run → AreAbove seq behind → part_of (first ∷ run) ≡ Some p → parts_of (first ∷ (run ++ behind)) ≡ p ∷ parts_of behind
first_run seq first run behind p is of above made =
    let all : AreOf seq (first ∷ run) = (is, of) in
    let seqs : seqs_of (first ∷ (run ++ behind)) ≡ seq ∷ seqs_of behind =
    ap (λ (n : ℕ). put_all (n ∷ []) (map (λ (e : ListEntry). e.seq) (run ++ behind))) is ∙ seqs_of_run seq run behind of ∙ head_stays seq [] (map (λ (e : ListEntry). e.seq) behind) above in
    let own : of_seq seq (first ∷ (run ++ behind)) ≡ first ∷ run =
    filter-append (λ (e : ListEntry). e.seq == seq) (first ∷ run) behind
    ∙ ap (λ (es : List ListEntry). es ++ of_seq seq behind) (run_of_seq seq (first ∷ run) all) ∙ ap (λ (es : List ListEntry). (first ∷ run) ++ es) (none_above seq behind above) ∙ append-nil (first ∷ run) in
    ap (filter_map (λ (n : ℕ). part_of (of_seq n (first ∷ (run ++ behind))))) seqs
    ∙ kept (λ (n : ℕ). part_of (of_seq n (first ∷ (run ++ behind)))) seq p (seqs_of behind) (ap part_of own ∙ made)
    ∙ ap (λ (ps : List EntryPart). p ∷ ps) (others_stay seq (first ∷ run) behind (seqs_of behind) all (below_all seq [] (map (λ (e : ListEntry). e.seq) behind) tt above))

-- ---- statements put in order

-- a statement of a number
abbrev numbered : ℕ → ListEntry
numbered seq = record { seq = seq; permit = false; prefix = record { base = 0; len = 0 }; low = 0; high = 0; line = 0; element = 0 }

tie : (m n : ℕ) → (not (is_lt (nat_cmp m n)) && not (is_lt (nat_cmp n m))) ≡ (n == m)
tie m n = grind (arith, nat_tests)

ties_are : (seq : ℕ) (es : List ListEntry) → filter (ties (λ (e f : ListEntry). is_lt (nat_cmp e.seq f.seq)) (numbered seq)) es ≡ of_seq seq es
ties_are seq [] = refl
ties_are seq (e ∷ es) =
    let rest : List ListEntry = filter (ties (λ (e f : ListEntry). is_lt (nat_cmp e.seq f.seq)) (numbered seq)) es in
    ap (λ (b : Bool). cond b (e ∷ rest) rest) (tie seq e.seq) ∙ ap (λ (others : List ListEntry). cond (e.seq == seq) (e ∷ others) others) (ties_are seq es)

-- whether statements have a number
abbrev pub some_of : List ListEntry → Bool
some_of [] = false
some_of (e ∷ es) = true

pub has_seq : (n : ℕ) (es : List ListEntry) → has n (map (λ (e : ListEntry). e.seq) es) ≡ some_of (of_seq n es)
has_seq n [] = refl
has_seq n (e ∷ es) = on (has_seq n es) (e.seq == n) refl
  where
    on : has n (map (λ (e : ListEntry). e.seq) es) ≡ some_of (of_seq n es) → (b : Bool) → (e.seq == n) ≡ b → (nat_eq n e.seq || has n (map (λ (e : ListEntry). e.seq) es)) ≡ some_of (cond (e.seq == n) (e ∷ of_seq n es) (of_seq n es))
    on rest true t = let same : nat_eq n e.seq ≡ true = grind (arith, nat_tests) in rw (same, t) refl
    on rest false t = let other : nat_eq n e.seq ≡ false = grind (arith, nat_tests) in rw (other, t) rest

pub seqs_have : (n : ℕ) (es : List ListEntry) → has n (seqs_of es) ≡ some_of (of_seq n es)
seqs_have n es = all_has n [] (map (λ (e : ListEntry). e.seq) es) ∙ has_seq n es

-- the same statements of each number make the same entries
pub same_parts : (es fs : List ListEntry) → ((seq : ℕ) → of_seq seq es ≡ of_seq seq fs) → parts_of es ≡ parts_of fs
same_parts es fs h =
    ap (filter_map (λ (n : ℕ). part_of (of_seq n es))) (same_sets (seqs_of es) (seqs_of fs)
    (all_ascends [] (map (λ (e : ListEntry). e.seq) es) tt) (all_ascends [] (map (λ (e : ListEntry). e.seq) fs) tt)
    (λ n. seqs_have n es ∙ ap some_of (h n) ∙ sym (seqs_have n fs)))
    ∙ each (seqs_of fs)
  where
    each : (ns : List ℕ) → filter_map (λ (n : ℕ). part_of (of_seq n es)) ns ≡ filter_map (λ (n : ℕ). part_of (of_seq n fs)) ns
    each [] = refl
    each (n ∷ ns) =
        ap (λ (of : List ListEntry). cons_option (part_of of) (filter_map (λ (n : ℕ). part_of (of_seq n es)) ns)) (h n) ∙ ap (cons_option (part_of (of_seq n fs))) (each ns)

-- a stable order leaves the entries
pub stays : (es fs : List ListEntry) → IsStableByKey (λ (e : ListEntry). e.seq) nat_cmp es fs → parts_of fs ≡ parts_of es
stays es fs h = same_parts fs es (λ seq. sym (ties_are seq fs) ∙ h (numbered seq) ∙ ties_are seq es)

-- ---- one step

-- what a run and what is behind it make
pub record IsStep (rest behind : List ListEntry) (p : EntryPart) : Type 0 where
  pub made : parts_of rest ≡ p ∷ parts_of behind
  pub rises : Rises behind

pub next_run : (rest others run behind : List ListEntry) (first : ListEntry) (count : ℕ) (p : EntryPart) → rest ≡ first ∷ others → run ≡ take count others → behind ≡ drop count others → Rises rest
    → All (λ (e : ListEntry). e.seq ≡ first.seq) (take count others) → ((e : ListEntry) (es : List ListEntry) → drop count others ≡ e ∷ es → e.seq ≢ first.seq) → part_of (first ∷ run) ≡ Some p → IsStep rest behind p
next_run rest others run behind first count p cut front back rises of other made =
    let whole : others ≡ run ++ behind = sym (take-append-drop count others) ∙ ap (λ (es : List ListEntry). es ++ drop count others) (sym front) ∙ ap (λ (es : List ListEntry). run ++ es) (sym back) in
    let all : Rises (first ∷ (run ++ behind)) = subst Rises (cut ∙ ap (λ (es : List ListEntry). first ∷ es) whole) rises in
    let same : AreOf first.seq run = subst (AreOf first.seq) (sym front) (recursion_from_All (λ (e : ListEntry). e.seq ≡ first.seq) (take count others) of) in
    let behind_rises : Rises behind = rest_rises run behind all.1 in
    let above : AreAbove first.seq behind = above_run first.seq behind (rest_from first.seq run behind all.0) behind_rises (λ e es is. other e es (sym back ∙ is)) in
    record {
      made = ap parts_of (cut ∙ ap (λ (es : List ListEntry). first ∷ es) whole) ∙ first_run first.seq first run behind p refl same above made;
      rises = behind_rises;
    }
