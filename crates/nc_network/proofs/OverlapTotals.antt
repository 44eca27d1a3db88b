-- All overlaps of a router: of interfaces whose prefixes are equally long, and of those with shorter ones.
use Rattle.std.proofs.Common.{◌≡◌, ℕ, ◌/◌, Bool, true, false, cond, ◌&&◌, ◌||◌, List, [], ◌∷◌, ◌++◌, Option, Some, None, refl, sym, ap, ◌∙◌, subst, inl, inr, arith}
use Rattle.std.specs.Prelude.{nat_lt, nat_le, ◌==◌}
use Rattle.std.specs.List.{flat_map, filter_map, cons_option}
use Rattle.std.specs.Option.{option_map, option_to_list}
use Rattle.std.proofs.lemmas.Bool.{cases_order, eq-eqb, ne_eqb, lt-ltb, le-ltb, le-leb, lt-leb}
use Rattle.std.proofs.lemmas.Bool.Decides.{nat_tests}
use Rattle.nc_types.specs.Masks.{size_of}
use Rattle.nc_types.specs.declared.config.IfaceAddr.{IfaceAddr}
use Rattle.nc_types.specs.declared.config.Interface.{Interface}
use Rattle.nc_types.specs.Network.{up_of}
use Rattle.nc_types.specs.Joining.{Clash, Used, earliest, with_later, is_inside, overlap, overlapping}
use Rattle.nc_network.specs.Steps.{merge, first_of_all, used_of, lines_clash, in_shorter, same_pairs, shorter_pairs, AreCidrs}
use Rattle.nc_network.proofs.ClashOrder.{merge-none, merge_comm, merge_assoc, merge_cross}
use Rattle.nc_network.proofs.Clashes.{all-cons, all-both, earliest-append}
use Rattle.nc_network.proofs.OverlapLemmas.{lines_turned}

-- a clash where something holds
abbrev where_so : Bool → Clash → List Clash
where_so holds c = cond holds (c ∷ []) []

-- two used addresses of one router
abbrev pub overlap_pairs : ℕ → Used → Used → List Clash
overlap_pairs r x y = where_so (overlap x.address.prefix y.address.prefix) (lines_clash r x.line y.line)

-- ---- two that overlap: one length, or the first one longer, or the second one

abbrev Splits : Bool → Bool → Bool → Bool → Bool → Bool → Bool → Clash → Type 0
Splits le_yx le_xy lt_yx lt_xy same s t c =
    earliest (where_so ((le_yx && s) || (le_xy && t)) c) ≡ merge (earliest (where_so (same && (le_yx && s)) c)) (merge (earliest (where_so (lt_yx && (le_yx && s)) c)) (earliest (where_so (lt_xy && (le_xy && t)) c)))

first_shorter : (s t : Bool) (c : Clash) → Splits false true false true false s t c
first_shorter s true c = refl
first_shorter s false c = refl

as_long : (s : Bool) (c : Clash) → Splits true true false false true s s c
as_long true c = refl
as_long false c = refl

second_shorter : (s t : Bool) (c : Clash) → Splits true false true false false s t c
second_shorter true t c = refl
second_shorter false t c = refl

moved : (b1 b2 b3 b4 b5 c1 c2 c3 c4 c5 s t : Bool) (c : Clash) → b1 ≡ c1 → b2 ≡ c2 → b3 ≡ c3 → b4 ≡ c4 → b5 ≡ c5 → Splits c1 c2 c3 c4 c5 s t c → Splits b1 b2 b3 b4 b5 s t c
moved b1 b2 b3 b4 b5 c1 c2 c3 c4 c5 s t c e1 e2 e3 e4 e5 h =
    subst (λ (b : Bool). Splits b b2 b3 b4 b5 s t c) (sym e1) (subst (λ (b : Bool). Splits c1 b b3 b4 b5 s t c) (sym e2) (subst (λ (b : Bool). Splits c1 c2 b b4 b5 s t c) (sym e3)
    (subst (λ (b : Bool). Splits c1 c2 c3 b b5 s t c) (sym e4) (subst (λ (b : Bool). Splits c1 c2 c3 c4 b s t c) (sym e5) h))))

turned : (m n : ℕ) → (m == n) ≡ (n == m)
turned m n = grind (arith, nat_tests)

splits : (xb xl yb yl : ℕ) (c : Clash) → Splits (nat_le yl xl) (nat_le xl yl) (nat_lt yl xl) (nat_lt xl yl) (yl == xl) (xb / size_of yl == yb / size_of yl) (yb / size_of xl == xb / size_of xl) c
splits xb xl yb yl c =
    elim (cases_order xl yl) [
      | inl same ↦
          moved _ _ _ _ _ true true false false true _ _ c (le-leb yl xl (omega arith)) (le-leb xl yl (omega arith)) (le-ltb yl xl (omega arith)) (le-ltb xl yl (omega arith)) (eq-eqb yl xl (sym same))
          (subst (λ (t : Bool). Splits true true false false true (xb / size_of yl == yb / size_of yl) t c) (ap (λ (n : ℕ). xb / size_of n == yb / size_of n) (sym same) ∙ turned (xb / size_of xl) (yb / size_of xl)) (as_long (xb / size_of yl == yb / size_of yl) c))
      | inr apart ↦ elim apart [
        | inl less ↦
            moved _ _ _ _ _ false true false true false _ _ c (lt-leb yl xl less) (le-leb xl yl (omega arith)) (le-ltb yl xl (omega arith)) (lt-ltb xl yl less) (ne_eqb yl xl (λ e. omega arith))
            (first_shorter (xb / size_of yl == yb / size_of yl) (yb / size_of xl == xb / size_of xl) c)
        | inr more ↦
            moved _ _ _ _ _ true false true false false _ _ c (le-leb yl xl (omega arith)) (lt-leb xl yl more) (lt-ltb yl xl more) (le-ltb xl yl (omega arith)) (ne_eqb yl xl (λ e. omega arith))
            (second_shorter (xb / size_of yl == yb / size_of yl) (yb / size_of xl == xb / size_of xl) c)
      ]
    ]

abbrev shorter : ℕ → Used → Used → List Clash
shorter r x y = in_shorter r x.address.prefix.len x y

pair_splits : (r : ℕ) (x y : Used) → earliest (overlap_pairs r x y) ≡ merge (earliest (same_pairs r x y)) (merge (earliest (shorter r x y)) (earliest (shorter r y x)))
pair_splits r x y =
    let p = x.address.prefix in
    let q = y.address.prefix in
    splits p.base p.len q.base q.len (lines_clash r x.line y.line)
    ∙ ap (λ (c : Clash). merge (earliest (same_pairs r x y)) (merge (earliest (shorter r x y)) (earliest (where_so (nat_lt p.len q.len && is_inside q p) c)))) (lines_turned r x.line y.line)

-- ---- all pairs

first_splits : (r : ℕ) (x : Used) (xs : List Used)
    → first_of_all (overlap_pairs r x) xs ≡ merge (first_of_all (same_pairs r x) xs) (merge (first_of_all (shorter r x) xs) (first_of_all (λ y. shorter r y x) xs))
first_splits r x xs =
    all-both (same_pairs r x) (λ (y : Used). shorter r x y ++ shorter r y x) (overlap_pairs r x)
    (λ y. pair_splits r x y ∙ ap (merge (earliest (same_pairs r x y))) (sym (earliest-append (shorter r x y) (shorter r y x)))) xs
    ∙ ap (merge (first_of_all (same_pairs r x) xs)) (all-both (shorter r x) (λ (y : Used). shorter r y x) (λ (y : Used). shorter r x y ++ shorter r y x) (λ y. earliest-append (shorter r x y) (shorter r y x)) xs)

not_itself : (r : ℕ) (x : Used) → shorter r x x ≡ []
not_itself r x = ap (λ (t : Bool). where_so (t && is_inside x.address.prefix x.address.prefix) (lines_clash r x.line x.line)) (le-ltb x.address.prefix.len x.address.prefix.len (omega arith))

-- those inside shorter ones, with one more
shorter-cons : (r : ℕ) (x : Used) (xs : List Used)
    → first_of_all (shorter_pairs r (x ∷ xs)) (x ∷ xs) ≡ merge (first_of_all (shorter r x) xs) (merge (first_of_all (λ y. shorter r y x) xs) (first_of_all (shorter_pairs r xs) xs))
shorter-cons r x xs =
    all-cons (shorter_pairs r (x ∷ xs)) x xs
    ∙ ap (λ (cs : List Clash). merge (earliest (cs ++ flat_map (shorter r x) xs)) (first_of_all (shorter_pairs r (x ∷ xs)) xs)) (not_itself r x)
    ∙ ap (merge (first_of_all (shorter r x) xs)) (all-both (λ (y : Used). shorter r y x) (shorter_pairs r xs) (shorter_pairs r (x ∷ xs)) (λ y. earliest-append (shorter r y x) (flat_map (shorter r y) xs)) xs)

pub total_splits : (r : ℕ) (xs : List Used) → earliest (with_later (overlap_pairs r) xs) ≡ merge (earliest (with_later (same_pairs r) xs)) (first_of_all (shorter_pairs r xs) xs)
total_splits r [] = refl
total_splits r (x ∷ xs) =
    let same = first_of_all (same_pairs r x) xs in
    let later = earliest (with_later (same_pairs r) xs) in
    let mine = first_of_all (shorter r x) xs in
    let theirs = first_of_all (λ (y : Used). shorter r y x) xs in
    let rest = first_of_all (shorter_pairs r xs) xs in
    earliest-append (flat_map (overlap_pairs r x) xs) (with_later (overlap_pairs r) xs)
    ∙ ap (λ (o : Option Clash). merge o (earliest (with_later (overlap_pairs r) xs))) (first_splits r x xs) ∙ ap (merge (merge same (merge mine theirs))) (total_splits r xs)
    ∙ merge_cross same (merge mine theirs) later rest ∙ ap (merge (merge same later)) (merge_assoc mine theirs rest)
    ∙ sym (ap (λ (o : Option Clash). merge o (first_of_all (shorter_pairs r (x ∷ xs)) (x ∷ xs))) (earliest-append (flat_map (same_pairs r x) xs) (with_later (same_pairs r) xs)) ∙ ap (merge (merge same later)) (shorter-cons r x xs))

-- ---- the used addresses of one router have its number

with_router : (r : ℕ) (line : ℕ) (a : IfaceAddr) (is : List Interface)
    → flat_map (overlapping (record { router = r; line = line; address = a })) (filter_map (used_of r) is) ≡ flat_map (overlap_pairs r (record { router = r; line = line; address = a })) (filter_map (used_of r) is)
with_router r line a [] = refl
with_router r line a (i ∷ is) = by (up_of i) (with_router r line a is) where
  by : (o : Option IfaceAddr)
      → flat_map (overlapping (record { router = r; line = line; address = a })) (filter_map (used_of r) is) ≡ flat_map (overlap_pairs r (record { router = r; line = line; address = a })) (filter_map (used_of r) is)
      → flat_map (overlapping (record { router = r; line = line; address = a })) (cons_option (option_map (λ b. record { router = r; line = i.address_line; address = b }) o) (filter_map (used_of r) is))
      ≡ flat_map (overlap_pairs r (record { router = r; line = line; address = a })) (cons_option (option_map (λ b. record { router = r; line = i.address_line; address = b }) o) (filter_map (used_of r) is))
  by None rest = rest
  by (Some b) rest = ap (λ (cs : List Clash). where_so (overlap a.prefix b.prefix) (lines_clash r line i.address_line) ++ cs) rest

all_with_router : (r : ℕ) (is : List Interface) → with_later overlapping (filter_map (used_of r) is) ≡ with_later (overlap_pairs r) (filter_map (used_of r) is)
all_with_router r [] = refl
all_with_router r (i ∷ is) = by (up_of i) (all_with_router r is) where
  by : (o : Option IfaceAddr) → with_later overlapping (filter_map (used_of r) is) ≡ with_later (overlap_pairs r) (filter_map (used_of r) is)
      → with_later overlapping (cons_option (option_map (λ b. record { router = r; line = i.address_line; address = b }) o) (filter_map (used_of r) is))
      ≡ with_later (overlap_pairs r) (cons_option (option_map (λ b. record { router = r; line = i.address_line; address = b }) o) (filter_map (used_of r) is))
  by None rest = rest
  by (Some b) rest =
      let x : Used = record { router = r; line = i.address_line; address = b } in
      ap (λ (cs : List Clash). cs ++ with_later overlapping (filter_map (used_of r) is)) (with_router r i.address_line b is) ∙ ap (λ (cs : List Clash). flat_map (overlap_pairs r x) (filter_map (used_of r) is) ++ cs) rest

-- both searches of a router find its earliest overlap
pub router-found : (r : ℕ) (is : List Interface) (found mid last : Option Clash) → mid ≡ merge found (earliest (with_later (same_pairs r) (filter_map (used_of r) is)))
    → last ≡ merge mid (first_of_all (shorter_pairs r (filter_map (used_of r) is)) (filter_map (used_of r) is)) → last ≡ merge found (earliest (with_later overlapping (filter_map (used_of r) is)))
router-found r is found mid last first second =
    let xs = filter_map (used_of r) is in
    second ∙ ap (λ (o : Option Clash). merge o (first_of_all (shorter_pairs r xs) xs)) first
    ∙ merge_assoc found (earliest (with_later (same_pairs r) xs)) (first_of_all (shorter_pairs r xs) xs)
    ∙ ap (merge found) (sym (ap earliest (all_with_router r is) ∙ total_splits r xs))

-- ---- one more interface before those that were searched

pub cidrs-more : (r : ℕ) (i : Interface) (is js : List Interface) → js ≡ i ∷ is → AreCidrs (option_to_list (used_of r i)) → AreCidrs (filter_map (used_of r) is) → AreCidrs (filter_map (used_of r) js)
cidrs-more r i is js cut here rest = subst (λ (ks : List Interface). AreCidrs (filter_map (used_of r) ks)) (sym cut) (by (used_of r i) here) where
  by : (o : Option Used) → AreCidrs (option_to_list o) → AreCidrs (cons_option o (filter_map (used_of r) is))
  by None h = rest
  by (Some x) h = (h.0, rest)

pub same-more : (r : ℕ) (i : Interface) (is js : List Interface) (start found new : Option Clash) → js ≡ i ∷ is → found ≡ merge start (earliest (with_later (same_pairs r) (filter_map (used_of r) is)))
    → new ≡ merge found (first_of_all (λ x. flat_map (same_pairs r x) (filter_map (used_of r) is)) (option_to_list (used_of r i))) → new ≡ merge start (earliest (with_later (same_pairs r) (filter_map (used_of r) js)))
same-more r i is js start found new cut before here =
    here ∙ ap (λ (o : Option Clash). merge o (first_of_all (λ (x : Used). flat_map (same_pairs r x) (filter_map (used_of r) is)) (option_to_list (used_of r i)))) before
    ∙ merge_assoc start (earliest (with_later (same_pairs r) (filter_map (used_of r) is))) (first_of_all (λ (x : Used). flat_map (same_pairs r x) (filter_map (used_of r) is)) (option_to_list (used_of r i)))
    ∙ ap (merge start) (by (used_of r i)) ∙ ap (λ (ks : List Interface). merge start (earliest (with_later (same_pairs r) (filter_map (used_of r) ks)))) (sym cut) where
      by : (o : Option Used) → merge (earliest (with_later (same_pairs r) (filter_map (used_of r) is))) (first_of_all (λ (x : Used). flat_map (same_pairs r x) (filter_map (used_of r) is)) (option_to_list o))
          ≡ earliest (with_later (same_pairs r) (cons_option o (filter_map (used_of r) is)))
      by None = merge-none (earliest (with_later (same_pairs r) (filter_map (used_of r) is)))
      by (Some x) =
          ap (merge (earliest (with_later (same_pairs r) (filter_map (used_of r) is)))) (all-cons (λ (x : Used). flat_map (same_pairs r x) (filter_map (used_of r) is)) x [] ∙ merge-none (first_of_all (same_pairs r x) (filter_map (used_of r) is)))
          ∙ merge_comm (earliest (with_later (same_pairs r) (filter_map (used_of r) is))) (first_of_all (same_pairs r x) (filter_map (used_of r) is))
          ∙ sym (earliest-append (flat_map (same_pairs r x) (filter_map (used_of r) is)) (with_later (same_pairs r) (filter_map (used_of r) is)))
