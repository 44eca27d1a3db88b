-- Prefixes that are inside others: those of the same length, and shorter ones.
use Rattle.std.proofs.Common.{◌≡◌, ℕ, suc, length, get_or, IfSome, ◌+◌, ◌-◌, ◌*◌, ◌/◌, ◌<◌, ◌≤◌, Bool, true, false, cond, ◌&&◌, List, [], ◌∷◌, Option, Some, None, refl, sym, ap, ◌∙◌, inl, inr, arith}
use Rattle.std.specs.Prelude.{nat_lt, nat_le, ◌==◌}
use Rattle.std.specs.Option.{option_map, option_map_or}
use Rattle.std.proofs.lemmas.Bool.{cases_Bool, cases_order, eq-eqb, ne_eqb, lt-ltb, le-ltb, le-leb, lt-leb, eqb-true, eqb-false}
use Rattle.std.proofs.Math.Nat.{mul-div_cancel}
use Rattle.std.proofs.lemmas.Nat.{pow_pos}
use Rattle.std.proofs.lemmas.Bool.Decides.{nat_tests}
use Rattle.nc_types.specs.Cidr.{Cidr, IsCidr, same_prefix}
use Rattle.nc_types.specs.Masks.{size_of, network_of}
use Rattle.nc_types.specs.Network.{up_of}
use Rattle.nc_types.specs.declared.config.Interface.{Interface}
use Rattle.nc_types.specs.declared.config.IfaceAddr.{IfaceAddr}
use Rattle.std.specs.List.{filter_map, cons_option}
use Rattle.nc_types.specs.Joining.{Clash, Used, before_or, is_before, earlier, earliest, is_inside}
use Rattle.nc_network.specs.Steps.{merge, first_of_all, head_of, by_prefix, lower_line, lines_clash, in_length, in_shorter, same_pairs, used_of, AreCidrs, AreLong}
use Rattle.nc_network.proofs.ClashOrder.{merge-none}
use Rattle.nc_network.proofs.Clashes.{all-cons, all-both}
use Rattle.nc_network.proofs.HeadLemmas.{or_same}

-- ---- two lines of one router

module _ (r : ℕ) where
  abbrev clash_lines : ℕ → ℕ → Clash
  clash_lines a b = record { first = r; first_line = a; second = r; second_line = b }

  pub lines_turned : (a b : ℕ) → lines_clash r a b ≡ lines_clash r b a
  lines_turned a b =
      elim (cases_order a b) [
        | inl same ↦ ap (λ (n : ℕ). lines_clash r n b) same ∙ ap (λ (n : ℕ). lines_clash r b n) (sym same)
        | inr apart ↦ elim apart [
          | inl less ↦ ap (λ (t : Bool). cond t (clash_lines a b) (clash_lines b a)) (le-leb a b (omega arith)) ∙ sym (ap (λ (t : Bool). cond t (clash_lines b a) (clash_lines a b)) (lt-leb b a less))
          | inr more ↦ ap (λ (t : Bool). cond t (clash_lines a b) (clash_lines b a)) (lt-leb a b more) ∙ sym (ap (λ (t : Bool). cond t (clash_lines b a) (clash_lines a b)) (le-leb b a (omega arith)))
        ]
      ]

  or_twice : (a b c d : ℕ) → is_before (clash_lines a b) (clash_lines c d) ≡ before_or a c (nat_lt b d)
  or_twice a b c d = or_same r (before_or a c (before_or r r (nat_lt b d))) ∙ ap (before_or a c) (or_same r (nat_lt b d))

  -- with a third line, the clash with the lower one comes first
  lines_before : (a b c : ℕ) → is_before (lines_clash r a c) (lines_clash r a b) ≡ nat_lt c b
  lines_before a b c = by (nat_le a b) (nat_le a c) refl refl where
    by : (s t : Bool) → nat_le a b ≡ s → nat_le a c ≡ t → is_before (cond t (clash_lines a c) (clash_lines c a)) (cond s (clash_lines a b) (clash_lines b a)) ≡ nat_lt c b
    by true true e f = or_twice a c a b ∙ or_same a (nat_lt c b)
    by true false e f = or_twice c a a b ∙ grind (arith, nat_tests)
    by false true e f = or_twice a c b a ∙ grind (arith, nat_tests)
    by false false e f = or_twice c a b a ∙ grind (arith, nat_tests)

  pub earlier_lines : (a b c : ℕ) → earlier (lines_clash r a b) (lines_clash r a c) ≡ lines_clash r a (lower_line b c)
  earlier_lines a b c = ap (λ (t : Bool). cond t (lines_clash r a c) (lines_clash r a b)) (lines_before a b c) ∙ moved (nat_lt c b) where
    moved : (t : Bool) → cond t (lines_clash r a c) (lines_clash r a b) ≡ lines_clash r a (cond t c b)
    moved true = refl
    moved false = refl

-- ---- a prefix that is looked up

some_size : (len : ℕ) → 0 < size_of len
some_size len = pow_pos (32 - len)

same_tests : (a b c d : ℕ) → (a ≡ b → c ≡ d) → (c ≡ d → a ≡ b) → (a == b) ≡ (c == d)
same_tests a b c d to from =
    elim (cases_Bool (a == b)) [
      | inl e ↦ e ∙ sym (eq-eqb c d (to (eqb-true a b e)))
      | inr e ↦ e ∙ sym (ne_eqb c d (λ same. eqb-false a b e (from same)))
    ]

-- of one length, a prefix is inside another exactly where that one is the network of its address
inside_at : (base own other len : ℕ) → IsCidr other len → len ≤ own → is_inside (record { base = base; len = own }) (record { base = other; len = len }) ≡ (other == network_of base len)
inside_at base own other len valid le =
    ap (λ (t : Bool). t && (base / size_of len == other / size_of len)) (le-leb len own le)
    ∙ same_tests (base / size_of len) (other / size_of len) other (network_of base len)
    (λ e. sym (ap (λ (n : ℕ). n * size_of len) e ∙ valid.no_host_bits))
    (λ e. sym (ap (λ (n : ℕ). n / size_of len) e ∙ mul-div_cancel (base / size_of len) (some_size len)))

length_test : (base own len : ℕ) (other : Cidr) → IsCidr other.base other.len → len ≤ own
    → ((other.len == len) && is_inside (record { base = base; len = own }) other) ≡ same_prefix other (record { base = network_of base len; len = len })
length_test base own len other valid le =
    elim (cases_Bool (other.len == len)) [
      | inl e ↦
          let lens : other.len ≡ len = eqb-true other.len len e in
          ap (λ (t : Bool). t && is_inside (record { base = base; len = own }) other) e
          ∙ inside_at base own other.base other.len valid (omega arith)
          ∙ ap (λ (n : ℕ). other.base == network_of base n) lens
          ∙ sym (ap (λ (t : Bool). (other.base == network_of base len) && t) e ∙ and-true (other.base == network_of base len))
      | inr e ↦ ap (λ (t : Bool). t && is_inside (record { base = base; len = own }) other) e ∙ sym (ap (λ (t : Bool). (other.base == network_of base len) && t) e ∙ and-false (other.base == network_of base len))
    ] where
      and-true : (b : Bool) → (b && true) ≡ b
      and-true true = refl
      and-true false = refl

      and-false : (b : Bool) → (b && false) ≡ false
      and-false true = refl
      and-false false = refl

pub length-found : (r len : ℕ) (x : Used) (all : List Used) → AreCidrs all → len ≤ x.address.prefix.len
    → first_of_all (in_length r len x) all ≡ option_map (lines_clash r x.line) (head_of by_prefix (record { base = network_of x.address.prefix.base len; len = len }) all)
length-found r len x [] valid le = refl
length-found r len x (y ∷ ys) valid le =
    let q : Cidr = record { base = network_of x.address.prefix.base len; len = len } in
    all-cons (in_length r len x) y ys ∙ ap (merge (earliest (in_length r len x y))) (length-found r len x ys valid.1 le)
    ∙ ap (λ (b : Bool). merge (earliest (cond b (lines_clash r x.line y.line ∷ []) [])) (option_map (lines_clash r x.line) (head_of by_prefix q ys))) (length_test x.address.prefix.base x.address.prefix.len len y.address.prefix valid.0 le)
    ∙ by (same_prefix y.address.prefix q) (head_of by_prefix q ys) where
      by : (b : Bool) (o : Option ℕ) → merge (earliest (cond b (lines_clash r x.line y.line ∷ []) [])) (option_map (lines_clash r x.line) o)
          ≡ option_map (lines_clash r x.line) (cond b (Some (option_map_or (lower_line y.line) o y.line)) o)
      by true None = refl
      by true (Some a) = ap (λ (c : Clash). Some c) (earlier_lines r x.line y.line a)
      by false o = refl

-- its own length
pub own-found : (r : ℕ) (x : Used) (all : List Used) → AreCidrs all → IsCidr x.address.prefix.base x.address.prefix.len
    → first_of_all (same_pairs r x) all ≡ option_map (lines_clash r x.line) (head_of by_prefix x.address.prefix all)
own-found r x all valid own =
    length-found r x.address.prefix.len x all valid (omega arith)
    ∙ ap (λ (base : ℕ). option_map (lines_clash r x.line) (head_of by_prefix (record { base = base; len = x.address.prefix.len }) all)) own.no_host_bits

-- no length below that of every prefix, and one more
pub shorter-none : (r n : ℕ) (x : Used) (all : List Used) → AreLong n all → (m : ℕ) → m ≤ n → first_of_all (in_shorter r m x) all ≡ None
shorter-none r n x [] long m le = refl
shorter-none r n x (y ∷ ys) long m le =
    let far : n ≤ y.address.prefix.len = long.0 in
    all-cons (in_shorter r m x) y ys ∙ ap (merge (earliest (in_shorter r m x y))) (shorter-none r n x ys long.1 m le)
    ∙ ap (λ (t : Bool). merge (earliest (cond (t && is_inside x.address.prefix y.address.prefix) (lines_clash r x.line y.line ∷ []) [])) None) (le-ltb y.address.prefix.len m (omega arith))

-- a length that no prefix of an interface that is up falls short of
pub are_long : (n router : ℕ) (is : List Interface) → ((k : ℕ) (d : Interface) → k < length is → IfSome (up_of (get_or is k d)) (λ a. n ≤ a.prefix.len)) → AreLong n (filter_map (used_of router) is)
are_long n router [] long = tt
are_long n router (i ∷ is) long =
    by (up_of i) (long 0 i (omega arith)) (are_long n router is (λ k d lt. long (suc k) d (omega arith)))
  where
    made : IfaceAddr → Used
    made a = record { router = router; line = i.address_line; address = a }

    by : (o : Option IfaceAddr) → IfSome o (λ a. n ≤ a.prefix.len) → AreLong n (filter_map (used_of router) is)
        → AreLong n (cons_option (option_map made o) (filter_map (used_of router) is))
    by None here rest = rest
    by (Some a) here rest = (here, rest)

pub shorter-more : (r len : ℕ) (x : Used) (all : List Used) → first_of_all (in_shorter r (len + 1) x) all ≡ merge (first_of_all (in_shorter r len x) all) (first_of_all (in_length r len x) all)
shorter-more r len x all =
    all-both (in_shorter r len x) (in_length r len x) (in_shorter r (len + 1) x) (λ y. one y.address.prefix.len (is_inside x.address.prefix y.address.prefix) (lines_clash r x.line y.line)) all where
      one : (n : ℕ) (inside : Bool) (c : Clash) → earliest (cond (nat_lt n (len + 1) && inside) (c ∷ []) []) ≡ merge (earliest (cond (nat_lt n len && inside) (c ∷ []) [])) (earliest (cond ((n == len) && inside) (c ∷ []) []))
      one n inside c =
          elim (cases_order n len) [
            | inl same ↦
                ap (λ (t : Bool). earliest (cond (t && inside) (c ∷ []) [])) (lt-ltb n (len + 1) (omega arith))
                ∙ sym (ap (λ (t : Bool). merge (earliest (cond (t && inside) (c ∷ []) [])) (earliest (cond ((n == len) && inside) (c ∷ []) []))) (le-ltb n len (omega arith)) ∙ ap (λ (t : Bool). earliest (cond (t && inside) (c ∷ []) [])) (eq-eqb n len same))
            | inr apart ↦ elim apart [
              | inl less ↦
                  ap (λ (t : Bool). earliest (cond (t && inside) (c ∷ []) [])) (lt-ltb n (len + 1) (omega arith))
                  ∙ sym (ap (λ (t : Bool). merge (earliest (cond (t && inside) (c ∷ []) [])) (earliest (cond ((n == len) && inside) (c ∷ []) []))) (lt-ltb n len less)
                  ∙ ap (λ (t : Bool). merge (earliest (cond inside (c ∷ []) [])) (earliest (cond (t && inside) (c ∷ []) []))) (ne_eqb n len (λ e. omega arith)) ∙ merge-none (earliest (cond inside (c ∷ []) [])))
              | inr more ↦
                  ap (λ (t : Bool). earliest (cond (t && inside) (c ∷ []) [])) (le-ltb n (len + 1) (omega arith))
                  ∙ sym (ap (λ (t : Bool). merge (earliest (cond (t && inside) (c ∷ []) [])) (earliest (cond ((n == len) && inside) (c ∷ []) []))) (le-ltb n len (omega arith))
                  ∙ ap (λ (t : Bool). earliest (cond (t && inside) (c ∷ []) [])) (ne_eqb n len (λ e. omega arith)))
            ]
          ]
