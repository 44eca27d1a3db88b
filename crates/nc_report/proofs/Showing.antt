-- A report in which letters are written anew, line by line.
use Rattle.std.proofs.Common.{◌≡◌, ℕ, suc, zero, ◌+◌, ◌-◌, ◌<◌, ◌≤◌, inl, inr, Bool, true, false, not, ◌&&◌, ◌||◌, nat_eq, nat_lt, cond, List, [], ◌∷◌, length, map, get_or, set, take, drop, Option, Some, None, option_and_then, slice_get, refl, sym, ap, ◌∙◌, subst, arith, zero-add, if◌then◌else◌}
use Rattle.std.proofs.lemmas.Bool.{eqb-true, eq-eqb, lt-ltb, le-ltb, cases_eq}
use Rattle.std.proofs.lemmas.List.{same_lists, length-set, get_or-set_same, get_or-set_other, drop_more, drop_all}
use Rattle.std.proofs.lemmas.List.FromFn.{length-map-range_with_len, get_or-map-range_with_len}
use Rattle.std.proofs.lemmas.List.Quantifiers.{position-Some}
use Rattle.std.proofs.lemmas.List.Sums.{sum_by-cons}
use Rattle.std.proofs.lemmas.Option.{get_or_from_slice_get}
use Rattle.std.specs.List.{list_any, range_with_len}
use Rattle.std.specs.Option.{option_map}
use Rattle.nc_types.specs.Config.{ElementView, ConfigView}
use Rattle.nc_types.specs.declared.config.Kind.TheVariants as kind
use Rattle.nc_types.specs.Network.{ElementIn, element_count, element_from, owner_at, place_with_line}
use Rattle.nc_marks.specs.Kept.{TouchesOnly}
use Rattle.nc_marks.specs.Marks.{ElementMarks, marked_elements, mark_of}
use Rattle.nc_marks.specs.Sets.{has}
use Rattle.nc_marks.proofs.OwnerLemmas.{owner-within}
use Rattle.nc_report.specs.Texts.{Sheet, letter}
use Rattle.nc_report.specs.Sheets.{sheets_by, sheets_from, letter_at}
use Rattle.nc_report.specs.Shown.{put_letter, AreFreshBut, is_owner, is_owned}

-- ---- sheets by letters

map-range : (f g : ℕ → ℕ) (n : ℕ) → ((k : ℕ) → f k ≡ g k) → map f (range_with_len 0 n) ≡ map g (range_with_len 0 n)
map-range f g n same = same_lists (map f (range_with_len 0 n)) (map g (range_with_len 0 n)) (length-map-range_with_len f 0 n ∙ sym (length-map-range_with_len g 0 n))
    (λ k d lt. let here : k < n = omega (arith, length-map-range_with_len f 0 n) in
    get_or-map-range_with_len f 0 n k k d here (omega arith) ∙ same k ∙ sym (get_or-map-range_with_len g 0 n k k d here (omega arith)))

by-same : (f g : ℕ → ℕ → ℕ) (from : ℕ) (cs : List ConfigView) → ((r k : ℕ) → from ≤ r → f r k ≡ g r k) → sheets_by f from cs ≡ sheets_by g from cs
by-same f g from [] same = refl
by-same f g from (c ∷ cs) same =
    ap (λ (ls : List ℕ). record { name = c.name; letters = ls } ∷ sheets_by f (from + 1) cs) (map-range (f from) (g from) c.line_count (λ k. same from k (omega arith)))
    ∙ ap (λ (ss : List Sheet). record { name = c.name; letters = map (g from) (range_with_len 0 c.line_count) } ∷ ss) (by-same f g (from + 1) cs (λ r k le. same r k (omega arith)))

-- letters with another at a place of a router
abbrev pub but : (ℕ → ℕ → ℕ) → ℕ → ℕ → ℕ → ℕ → ℕ → ℕ
but f router place v r k = cond (nat_eq r router && nat_eq k place) v (f r k)

not-same : (a b : ℕ) → (a ≡ b → ⊥) → nat_eq a b ≡ false
not-same a b ne = by_test (nat_eq a b) refl
  where
    by_test : (t : Bool) → nat_eq a b ≡ t → nat_eq a b ≡ false
    by_test true is = absurd (ne (eqb-true a b is))
    by_test false is = is

but-router : (f : ℕ → ℕ → ℕ) (router place v r k : ℕ) → (r ≡ router → ⊥) → f r k ≡ but f router place v r k
but-router f router place v r k ne = sym (ap (λ b. cond (b && nat_eq k place) v (f r k)) (not-same r router ne))

but-place : (f : ℕ → ℕ → ℕ) (router place v k : ℕ) → but f router place v router k ≡ cond (nat_eq k place) v (f router k)
but-place f router place v k = ap (λ b. cond (b && nat_eq k place) v (f router k)) (eq-eqb router router refl)

put-range : (f : ℕ → ℕ) (n place v : ℕ) → set (map f (range_with_len 0 n)) place v ≡ map (λ k. cond (nat_eq k place) v (f k)) (range_with_len 0 n)
put-range f n place v = same_lists (set xs place v) ys (length-set xs place v ∙ long ∙ sym (length-map-range_with_len h 0 n)) each
  where
    h : ℕ → ℕ
    h k = cond (nat_eq k place) v (f k)

    xs : List ℕ
    xs = map f (range_with_len 0 n)

    ys : List ℕ
    ys = map h (range_with_len 0 n)

    long : length xs ≡ n
    long = length-map-range_with_len f 0 n

    each : (k d : ℕ) → k < length (set xs place v) → get_or (set xs place v) k d ≡ get_or ys k d
    each k d lt =
        let here : k < n = omega (arith, long, length-set xs place v) in
        let at : get_or ys k d ≡ h k = get_or-map-range_with_len h 0 n k k d here (omega arith) in
        elim (cases_eq k place) [
          | inl e ↦ subst (λ (p : ℕ). get_or (set xs p v) k d ≡ v) e (get_or-set_same xs k v d (omega (arith, long))) ∙ sym (at ∙ ap (λ b. cond b v (f k)) (eq-eqb k place e))
          | inr ne ↦ get_or-set_other xs place k v d ne ∙ get_or-map-range_with_len f 0 n k k d here (omega arith) ∙ sym (at ∙ ap (λ b. cond b v (f k)) (not-same k place ne))
        ]

pub put-by : (f : ℕ → ℕ → ℕ) (from : ℕ) (cs : List ConfigView) (router place v : ℕ) → put_letter (sheets_by f from cs) router place v ≡ sheets_by (but f (from + router) place v) from cs
put-by f from [] router place v = refl
put-by f from (c ∷ cs) zero place v =
    ap (λ (ls : List ℕ). record { name = c.name; letters = ls } ∷ sheets_by f (from + 1) cs)
    (put-range (f from) c.line_count place v ∙ map-range (λ k. cond (nat_eq k place) v (f from k)) (but f (from + zero) place v from) c.line_count
    (λ k. sym (ap (λ b. cond (b && nat_eq k place) v (f from k)) (eq-eqb from (from + zero) (omega arith)))))
    ∙ ap (λ (ss : List Sheet). record { name = c.name; letters = map (but f (from + zero) place v from) (range_with_len 0 c.line_count) } ∷ ss)
    (by-same f (but f (from + zero) place v) (from + 1) cs (λ r k le. but-router f (from + zero) place v r k (λ e. omega arith)))
put-by f from (c ∷ cs) (suc router) place v =
    ap (λ (ls : List ℕ). record { name = c.name; letters = ls } ∷ put_letter (sheets_by f (from + 1) cs) router place v)
    (map-range (f from) (but f (from + suc router) place v from) c.line_count (λ k. but-router f (from + suc router) place v from k (λ e. omega arith)))
    ∙ ap (λ (ss : List Sheet). record { name = c.name; letters = map (but f (from + suc router) place v from) (range_with_len 0 c.line_count) } ∷ ss)
    (put-by f (from + 1) cs router place v ∙ ap (λ (n : ℕ). sheets_by (but f n place v) (from + 1) cs) (omega arith))

-- ---- what is due

module _ (routers : List ConfigView) (marks : ElementMarks) where
  -- less is due
  pub fresh-more : (due next : ℕ → ℕ → Bool) (sheets : List Sheet) → ((r k : ℕ) → next r k ≡ false → due r k ≡ false) → AreFreshBut routers marks due sheets → AreFreshBut routers marks next sheets
  fresh-more due next sheets less fresh = record { letters = fresh.letters; are = fresh.are; told = λ r k h. fresh.told r k (less r k h) }

  -- the letter of a line is written
  pub fresh-put : (due : ℕ → ℕ → Bool) (sheets : List Sheet) (router line place v : ℕ) → line ≡ place + 1 → v ≡ letter_at routers marks router line → AreFreshBut routers marks due sheets
      → AreFreshBut routers marks (λ r k. due r k && not (nat_eq r router && nat_eq (k + 1) line)) (put_letter sheets router place v)
  fresh-put due sheets router line place v at is fresh = record {
    letters = but fresh.letters router place v;
    are = ap (λ (ss : List Sheet). put_letter ss router place v) fresh.are ∙ put-by fresh.letters 0 routers router place v ∙ ap (λ (n : ℕ). sheets_by (but fresh.letters n place v) 0 routers) (zero-add router);
    told = λ r k h. by_router r k h (nat_eq r router) refl;
  }
    where
      by_place : (r k : ℕ) → (due r k && not (nat_eq r router && nat_eq (k + 1) line)) ≡ false → nat_eq r router ≡ true → (b : Bool) → nat_eq k place ≡ b
          → but fresh.letters router place v r k ≡ letter_at routers marks r (k + 1)
      by_place r k h here true e =
          let one : but fresh.letters router place v r k ≡ v = ap (λ b. cond (b && nat_eq k place) v (fresh.letters r k)) here ∙ ap (λ b. cond b v (fresh.letters r k)) e in
          one ∙ is ∙ ap (λ (n : ℕ). letter_at routers marks n line) (sym (eqb-true r router here)) ∙ ap (λ (n : ℕ). letter_at routers marks r n) (at ∙ ap (λ (n : ℕ). n + 1) (sym (eqb-true k place e)))
      by_place r k h here false e =
          let same : but fresh.letters router place v r k ≡ fresh.letters r k = ap (λ b. cond (b && nat_eq k place) v (fresh.letters r k)) here ∙ ap (λ b. cond b v (fresh.letters r k)) e in
          let other : nat_eq (k + 1) line ≡ false = not-same (k + 1) line (λ s. absurd (differ k e s)) in
          same ∙ fresh.told r k (sym (rest (due r k) (nat_eq r router) (nat_eq (k + 1) line) other) ∙ h)
        where
          differ : (k : ℕ) → nat_eq k place ≡ false → k + 1 ≡ line → ⊥
          differ k e s = let yes : nat_eq k place ≡ true = eq-eqb k place (omega (arith, at, s)) in cc

          rest : (d a b : Bool) → b ≡ false → (d && not (a && b)) ≡ d
          rest true true b e = ap not e
          rest true false b e = refl
          rest false a b e = refl

      by_router : (r k : ℕ) → (due r k && not (nat_eq r router && nat_eq (k + 1) line)) ≡ false → (b : Bool) → nat_eq r router ≡ b → but fresh.letters router place v r k ≡ letter_at routers marks r (k + 1)
      by_router r k h true e = by_place r k h e (nat_eq k place) refl
      by_router r k h false e =
          ap (λ b. cond (b && nat_eq k place) v (fresh.letters r k)) e ∙ fresh.told r k (sym (away (due r k) (nat_eq r router) (nat_eq (k + 1) line) e) ∙ h)
        where
          away : (d a b : Bool) → a ≡ false → (d && not (a && b)) ≡ d
          away true true b e = absurd (cc)
          away true false b e = refl
          away false a b e = refl

  -- nothing is due any more
  pub fresh-all : (due : ℕ → ℕ → Bool) (sheets : List Sheet) → ((r k : ℕ) → due r k ≡ false) → AreFreshBut routers marks due sheets → sheets ≡ sheets_from routers marks 0 routers
  fresh-all due sheets none-due fresh = fresh.are ∙ by-same fresh.letters (λ r k. letter_at routers marks r (k + 1)) 0 routers (λ r k le. fresh.told r k (none-due r k))

  -- what is due at first
  pub fresh-first : (before : ElementMarks) (touched : List ℕ) (sheets : List Sheet) → marked_elements before ≡ element_count routers → TouchesOnly touched before marks
      → sheets ≡ sheets_from routers before 0 routers → AreFreshBut routers marks (λ r k. is_owned touched (owner_at routers r (k + 1))) sheets
  fresh-first before touched sheets count touches are = record {
    letters = λ r k. letter_at routers before r (k + 1);
    are = are;
    told = λ r k h. by_owner r k (owner_at routers r (k + 1)) refl h;
  }
    where
      by_owner : (r k : ℕ) (owner : Option ℕ) → owner_at routers r (k + 1) ≡ owner → is_owned touched (owner_at routers r (k + 1)) ≡ false → letter_at routers before r (k + 1) ≡ letter_at routers marks r (k + 1)
      by_owner r k None is h = ap (λ (o : Option ℕ). letter (mark_of before o)) is ∙ sym (ap (λ (o : Option ℕ). letter (mark_of marks o)) is)
      by_owner r k (Some e) is h =
          let lt = owner-within routers r (k + 1) e is in
          let unlisted : has touched e ≡ false = sym (ap (is_owned touched) is) ∙ h in
          ap (λ (o : Option ℕ). letter (mark_of before o)) is ∙ ap letter (sym (touches.others e (omega (arith, count)) unlisted)) ∙ sym (ap (λ (o : Option ℕ). letter (mark_of marks o)) is)

-- ---- lines and elements that are due

-- one line more of those that were written
pub lines-more : (d a h e n : Bool) → n ≡ (h || e) → (d && not (a && n)) ≡ false → ((d && not (a && h)) && not (a && e)) ≡ false
lines-more true true true e n is f = refl
lines-more true true false e n is f = sym (ap not is) ∙ f
lines-more true false h e n is f = f
lines-more false a h e n is f = refl

-- no line is line 0
pub line-none : (d a b : Bool) → b ≡ false → (d && not (a && b)) ≡ false → d ≡ false
line-none true true b e f = absurd (let t = ap not e in cc)
line-none true false b e f = f
line-none false a b e f = refl

-- the owner of a line has it
pub owner-has : (cs : List ConfigView) (from r line e : ℕ) (x : ElementIn) → owner_at cs r line ≡ Some e → element_from from cs e ≡ Some x → (x.router ≡ from + r) × (has x.element.lines line ≡ true)
owner-has [] from r line e x owner at = absurd (cc)
owner-has (c ∷ cs) from zero line e x owner at = by_place (place_with_line c line) refl owner
  where
    blank : ElementView
    blank = record { kind = kind.Interface; lines = [] }

    by_place : (place : Option ℕ) → place_with_line c line ≡ place → option_map (λ p. element_count (take zero (c ∷ cs)) + p) place ≡ Some e → (x.router ≡ from + zero) × (has x.element.lines line ≡ true)
    by_place None is some = absurd (cc)
    by_place (Some p) is some =
        let found = position-Some (λ el. list_any (nat_eq line) el.lines) c.elements p blank is in
        let sum : element_count (take zero (c ∷ cs)) + p ≡ e = cc in
        let same : p ≡ e = omega arith in
        let here : nat_lt e (length c.elements) ≡ true = lt-ltb e (length c.elements) (omega (arith, found.0)) in
        by_element (slice_get c.elements e) refl (subst (λ (i : ℕ). has (get_or c.elements i blank).lines line ≡ true) same found.1)
        (sym (ap (λ b. if b then option_map (λ (el : ElementView). record { router = from; element = el }) (slice_get c.elements e) else element_from (from + 1) cs (e - length c.elements)) here) ∙ at)
      where
        by_element : (el : Option ElementView) → slice_get c.elements e ≡ el → has (get_or c.elements e blank).lines line ≡ true
            → option_map (λ (el : ElementView). record { router = from; element = el }) (slice_get c.elements e) ≡ Some x → (x.router ≡ from + zero) × (has x.element.lines line ≡ true)
        by_element None is lines at = absurd (cc)
        by_element (Some el) is lines at =
            let made : ◌≡◌ {A = ElementIn} (record { router = from; element = el }) x = cc in (
              sym (ap (λ (y : ElementIn). y.router) made) ∙ omega arith,
              ap (λ (y : ElementIn). has y.element.lines line) (sym made) ∙ ap (λ (el : ElementView). has el.lines line) (sym (get_or_from_slice_get c.elements e el blank is)) ∙ lines,
            )
owner-has (c ∷ cs) from (suc r) line e x owner at = by_router (slice_get cs r) refl owner (owner-has cs (from + 1) r line)
  where
    behind : ConfigView → Option ℕ
    behind d = option_map (λ place. element_count (take r cs) + place) (place_with_line d line)

    by_router : (found : Option ConfigView) → slice_get cs r ≡ found
        → option_and_then (λ d. option_map (λ place. element_count (take (suc r) (c ∷ cs)) + place) (place_with_line d line)) found ≡ Some e
        → ((f : ℕ) (x : ElementIn) → owner_at cs r line ≡ Some f → element_from (from + 1) cs f ≡ Some x → (x.router ≡ from + 1 + r) × (has x.element.lines line ≡ true))
        → (x.router ≡ from + suc r) × (has x.element.lines line ≡ true)
    by_router None is some ih = absurd (cc)
    by_router (Some d) is some ih = by_place (place_with_line d line) refl some
      where
        by_place : (place : Option ℕ) → place_with_line d line ≡ place → option_map (λ place. element_count (take (suc r) (c ∷ cs)) + place) place ≡ Some e
            → (x.router ≡ from + suc r) × (has x.element.lines line ≡ true)
        by_place None there some = absurd (cc)
        by_place (Some p) there some =
            let f = element_count (take r cs) + p in
            let sum : element_count (take (suc r) (c ∷ cs)) + p ≡ e = cc in
            let parts : e ≡ length c.elements + f = omega (arith, sum_by-cons (λ (d : ConfigView). length d.elements) c (take r cs)) in
            let owned : owner_at cs r line ≡ Some f = ap (option_and_then behind) is ∙ ap (option_map (λ place. element_count (take r cs) + place)) there in
            let past : nat_lt e (length c.elements) ≡ false = le-ltb e (length c.elements) (omega arith) in
            let later : element_from (from + 1) cs (e - length c.elements) ≡ Some x
            = sym (ap (λ b. if b then option_map (λ (el : ElementView). record { router = from; element = el }) (slice_get c.elements e) else element_from (from + 1) cs (e - length c.elements)) past) ∙ at in
            let both = ih f x owned (subst (λ (n : ℕ). element_from (from + 1) cs n ≡ Some x) (omega arith) later) in
            (both.0 ∙ omega arith, both.1)

-- the lines of an element were written
pub element-done : (routers : List ConfigView) (e : ℕ) (x : ElementIn) → element_from 0 routers e ≡ Some x → (d : Bool) (r k : ℕ)
    → (d && not (is_owner e (owner_at routers r (k + 1)))) ≡ false → (d && not (nat_eq r x.router && has x.element.lines (k + 1))) ≡ false
element-done routers e x at d r k h = by_owner (owner_at routers r (k + 1)) refl h
  where
    drop-not : (d b c : Bool) → (c ≡ true → b ≡ true) → (d && not c) ≡ false → (d && not b) ≡ false
    drop-not true b true f h = ap not (f refl)
    drop-not true b false f h = absurd (cc)
    drop-not false b c f h = refl

    by_owner : (owner : Option ℕ) → owner_at routers r (k + 1) ≡ owner → (d && not (is_owner e (owner_at routers r (k + 1)))) ≡ false → (d && not (nat_eq r x.router && has x.element.lines (k + 1))) ≡ false
    by_owner None is h = drop-not d (nat_eq r x.router && has x.element.lines (k + 1)) false (λ f. absurd (cc)) (sym (ap (λ (o : Option ℕ). d && not (is_owner e o)) is) ∙ h)
    by_owner (Some f) is h = drop-not d (nat_eq r x.router && has x.element.lines (k + 1)) (nat_eq f e)
        (λ s. let both = owner-has routers 0 r (k + 1) e x (is ∙ ap Some (eqb-true f e s)) at in
        ap (λ b. b && has x.element.lines (k + 1)) (eq-eqb r x.router (omega (arith, both.0))) ∙ both.1)
        (sym (ap (λ (o : Option ℕ). d && not (is_owner e o)) is) ∙ h)

-- an element that isn't there owns no line
pub element-none : (routers : List ConfigView) (e : ℕ) → element_count routers ≤ e → (d : Bool) (r k : ℕ) → (d && not (is_owner e (owner_at routers r (k + 1)))) ≡ false → d ≡ false
element-none routers e out d r k h = by_owner (owner_at routers r (k + 1)) refl h
  where
    only : (d c : Bool) → c ≡ false → (d && not c) ≡ false → d ≡ false
    only true c e h = absurd (let t = ap not e in cc)
    only false c e h = refl

    by_owner : (owner : Option ℕ) → owner_at routers r (k + 1) ≡ owner → (d && not (is_owner e (owner_at routers r (k + 1)))) ≡ false → d ≡ false
    by_owner None is h = only d (is_owner e (owner_at routers r (k + 1))) (ap (is_owner e) is) h
    by_owner (Some f) is h = only d (is_owner e (owner_at routers r (k + 1))) (ap (is_owner e) is ∙ not-same f e (λ s. let lt = owner-within routers r (k + 1) f is in omega arith)) h

-- one element more of those that were written
pub owned-more : (touched : List ℕ) (at x : ℕ) (owner : Option ℕ) → at < length touched → x ≡ get_or touched at 0 → is_owned (drop (at + 1) touched) owner ≡ false
    → (is_owned (drop at touched) owner && not (is_owner x owner)) ≡ false
owned-more touched at x None lt is none-left = refl
owned-more touched at x (Some o) lt is none-left =
    ap (λ (xs : List ℕ). has xs o && not (nat_eq o x)) (drop_more touched at 0 lt ∙ ap (λ (n : ℕ). n ∷ drop (at + 1) touched) (sym is))
    ∙ ap (λ b. (nat_eq o x || b) && not (nat_eq o x)) none-left ∙ never (nat_eq o x)
  where
    never : (b : Bool) → ((b || false) && not b) ≡ false
    never true = refl
    never false = refl

pub owned-none : (touched : List ℕ) (at : ℕ) (owner : Option ℕ) → length touched ≤ at → is_owned (drop at touched) owner ≡ false
owned-none touched at None le = refl
owned-none touched at (Some o) le = ap (λ (xs : List ℕ). has xs o) (drop_all at touched le)
