-- The longest prefix that covers an address is the one around it of the greatest length that occurs.
use Rattle.std.proofs.Common.{◌≡◌, ℕ, zero, suc, ◌+◌, ◌-◌, ◌*◌, ◌/◌, ◌<◌, ◌≤◌, Bool, true, false, cond, not, ◌&&◌, ◌||◌, nat_lt, nat_eq, List, [], ◌∷◌, length, map, get_or, All, refl, sym, ap, subst, ◌∙◌, arith, inl, inr}
use Rattle.std.specs.List.{list_any, range_with_len}
use Rattle.std.specs.List.Sorted.{IsPartitionPoint}
use Rattle.std.specs.Ordering.{is_le, is_gt}
use Rattle.std.proofs.lemmas.Bool.{cases_lt, eqb-true, eq-eqb, lt-ltb, and_parts, and_from}
use Rattle.std.proofs.lemmas.Bool.Decides.{nat_tests}
use Rattle.nc_types.specs.Cidr.{Cidr, IsCidr, Covers}
use Rattle.nc_types.specs.Masks.{size_of, network_of}
use Rattle.nc_types.proofs.Ranges.{lies}
use Rattle.nc_types.proofs.Sameness.{same_prefix_is}
use Rattle.nc_tables.specs.Base.{covers, prefix_cmp, same_prefix}
use Rattle.nc_tables.specs.Longest.{is_longest, places_from, longest, AreByPrefix}
use Rattle.nc_tables.proofs.Nested.{around, before_around, no_longer, alike_in}
use Rattle.nc_tables.proofs.ByPrefix.{same_itself}
use Rattle.nc_tables.proofs.SideBySide.{Rises, rises, same_at, by_no_gt, upto_upto}

-- ---- one prefix

around_covers : (q : Cidr) (addr len : ℕ) → len ≤ 32 → same_prefix q (around addr len) ≡ true → covers q addr ≡ true
around_covers q addr len within same =
    let base : q.base ≡ network_of addr len = eqb-true q.base (network_of addr len) (and_parts _ _ same).0 in
    let long : q.len ≡ len = eqb-true q.len len (and_parts _ _ same).1 in
    let there : addr / size_of len ≡ network_of addr len / size_of len = lies addr len within in
    eq-eqb (addr / size_of q.len) (q.base / size_of q.len) (ap (λ (n : ℕ). addr / size_of n) long ∙ there ∙ ap (λ (b : ℕ). b / size_of len) (sym base) ∙ ap (λ (n : ℕ). q.base / size_of n) (sym long))

covering_is_around : (q : Cidr) (addr len : ℕ) → IsCidr q.base q.len → covers q addr ≡ true → q.len ≡ len → same_prefix q (around addr len) ≡ true
covering_is_around q addr len valid cover long =
    let part : addr / size_of q.len ≡ q.base / size_of q.len = eqb-true (addr / size_of q.len) (q.base / size_of q.len) cover in
    let base : q.base ≡ network_of addr q.len = sym (ap (λ (k : ℕ). k * size_of q.len) part ∙ valid.no_host_bits) in
    and_from _ _ (eq-eqb q.base (network_of addr len) (base ∙ ap (λ (n : ℕ). network_of addr n) long)) (eq-eqb q.len len long)

-- ---- tests over lists

any_map : {A B : Type 0} (f : A → B) (test : B → Bool) (xs : List A) → list_any test (map f xs) ≡ list_any (λ x. test (f x)) xs
any_map f test [] = refl
any_map f test (x ∷ xs) = ap (λ (b : Bool). test (f x) || b) (any_map f test xs)

module _ {A : Type 0} where
  any_more : (s t : A → Bool) → ((x : A) → s x ≡ true → t x ≡ true) → (xs : List A) → list_any s xs ≡ true → list_any t xs ≡ true
  any_more s t more [] e = e
  any_more s t more (x ∷ xs) e = by_first (s x) (list_any s xs) (t x) (list_any t xs) e (more x) (any_more s t more xs)
    where
      by_first : (a b c d : Bool) → (a || b) ≡ true → (a ≡ true → c ≡ true) → (b ≡ true → d ≡ true) → (c || d) ≡ true
      by_first true b c d e f g = ap (λ (k : Bool). k || d) (f refl)
      by_first false b true d e f g = refl
      by_first false b false d e f g = g e

  none_pass : (t : A → Bool) (xs : List A) → All (λ x. t x ≡ false) xs → list_any t xs ≡ false
  none_pass t [] none = refl
  none_pass t (x ∷ xs) none = ap (λ (b : Bool). b || list_any t xs) (none 0 x (omega arith)) ∙ none_pass t xs (λ k d lt. none (suc k) d (omega arith))

  -- ---- places

  pub places_map : {B : Type 0} (f : A → B) (test : B → Bool) (place : ℕ) (xs : List A) → places_from test place (map f xs) ≡ places_from (λ x. test (f x)) place xs
  places_map f test place [] = refl
  places_map f test place (x ∷ xs) = ap (λ (ks : List ℕ). cond (test (f x)) (place ∷ ks) ks) (places_map f test (place + 1) xs)

  same_places : (s t : A → Bool) (place : ℕ) (xs : List A) → All (λ x. s x ≡ t x) xs → places_from s place xs ≡ places_from t place xs
  same_places s t place [] same = refl
  same_places s t place (x ∷ xs) same =
      ap (λ (b : Bool). cond b (place ∷ places_from s (place + 1) xs) (places_from s (place + 1) xs)) (same 0 x (omega arith))
      ∙ ap (λ (ks : List ℕ). cond (t x) (place ∷ ks) ks) (same_places s t (place + 1) xs (λ k d lt. same (suc k) d (omega arith)))

  no_places : (t : A → Bool) (place : ℕ) (xs : List A) → All (λ x. t x ≡ false) xs → places_from t place xs ≡ []
  no_places t place [] none = refl
  no_places t place (x ∷ xs) none =
      ap (λ (b : Bool). cond b (place ∷ places_from t (place + 1) xs) (places_from t (place + 1) xs)) (none 0 x (omega arith))
      ∙ no_places t (place + 1) xs (λ k d lt. none (suc k) d (omega arith))

  -- where no place is, none passes
  pub none_by_places : (t : A → Bool) (place : ℕ) (xs : List A) → places_from t place xs ≡ [] → All (λ x. t x ≡ false) xs
  none_by_places t place [] e k d lt = absurd (omega arith)
  none_by_places t place (x ∷ xs) e zero d lt = here (t x) (places_from t (place + 1) xs) e
    where
      here : (b : Bool) (ks : List ℕ) → cond b (place ∷ ks) ks ≡ [] → b ≡ false
      here true ks e = absurd cc
      here false ks e = refl
  none_by_places t place (x ∷ xs) e (suc k) d lt = none_by_places t (place + 1) xs (rest (t x) (places_from t (place + 1) xs) e) k d (omega arith)
    where
      rest : (b : Bool) (ks : List ℕ) → cond b (place ∷ ks) ks ≡ [] → ks ≡ []
      rest true ks e = absurd cc
      rest false ks e = e

  -- where a place is, one passes
  some_by_places : (t : A → Bool) (xs : List A) (from n : ℕ) → places_from t 0 xs ≡ range_with_len from n → 0 < n → list_any t xs ≡ true
  some_by_places t xs from zero e some = absurd (omega arith)
  some_by_places t xs from (suc n) e some = by_any (list_any t xs) refl
    where
      all_fail : (ys : List A) → list_any t ys ≡ false → All (λ x. t x ≡ false) ys
      all_fail [] e k d lt = absurd (omega arith)
      all_fail (y ∷ ys) e zero d lt = first (t y) (list_any t ys) e
        where
          first : (a b : Bool) → (a || b) ≡ false → a ≡ false
          first true b e = absurd cc
          first false b e = refl
      all_fail (y ∷ ys) e (suc k) d lt = all_fail ys (second (t y) (list_any t ys) e) k d (omega arith)
        where
          second : (a b : Bool) → (a || b) ≡ false → b ≡ false
          second true b e = absurd cc
          second false b e = e

      by_any : (b : Bool) → list_any t xs ≡ b → list_any t xs ≡ true
      by_any true is = is
      by_any false is = let empty : places_from t 0 xs ≡ [] = no_places t 0 xs (all_fail xs is) in absurd cc

-- ---- the longest

module _ {A : Type 0} (pre : A → Cidr) (addr : ℕ) where
  abbrev pub AreCidrs : List A → Type 0
  AreCidrs rows = All (λ row. IsCidr (pre row).base (pre row).len) rows

  -- each prefix that covers the address is shorter than this
  abbrev pub AreShorter : ℕ → List A → Type 0
  AreShorter len rows = All (λ row. covers (pre row) addr ≡ true → (pre row).len < len) rows

  abbrev is_around : ℕ → A → Bool
  is_around len row = same_prefix (pre row) (around addr len)

  not_longer : (q : Cidr) (len : ℕ) → (covers q addr ≡ true → q.len < len + 1) → (c : Bool) → covers q addr ≡ c → (m : ℕ) → len ≤ m → (covers q addr && nat_lt m q.len) ≡ false
  not_longer q len short false e m le = ap (λ (b : Bool). b && nat_lt m q.len) e
  not_longer q len short true e m le =
      let lt : q.len < len + 1 = short e in
      let past : nat_lt m q.len ≡ false = grind (arith, nat_tests) in
      ap (λ (b : Bool). b && nat_lt m q.len) e ∙ past

  module _ (rows : List A) (len : ℕ) (within : len ≤ 32) (valid : AreCidrs rows) (short : AreShorter (len + 1) rows) (some : list_any (is_around len) rows ≡ true) where
    -- a longer one among the prefixes
    abbrev longer : Cidr → Cidr → Bool
    longer p q = covers q addr && nat_lt p.len q.len

    none_longer : (p : Cidr) → p.len ≡ len → list_any (longer p) (map pre rows) ≡ false
    none_longer p long =
        any_map pre (longer p) rows
        ∙ none_pass (λ row. longer p (pre row)) rows (λ k d lt. not_longer (pre (get_or rows k d)) len (short k d lt) (covers (pre (get_or rows k d)) addr) refl p.len (omega arith))

    below_it : (p q : Cidr) → p.len < len → same_prefix q (around addr len) ≡ true → p.len < q.len
    below_it p q less same = let long : q.len ≡ len = eqb-true q.len len (and_parts (nat_eq q.base (network_of addr len)) (nat_eq q.len len) same).1 in omega arith

    some_longer : (p : Cidr) → p.len < len → list_any (longer p) (map pre rows) ≡ true
    some_longer p less =
        any_map pre (longer p) rows
        ∙ any_more (is_around len) (λ row. longer p (pre row)) (λ row same. and_from (covers (pre row) addr) (nat_lt p.len (pre row).len) (around_covers (pre row) addr len within same) (lt-ltb p.len (pre row).len (below_it p (pre row) less same))) rows some

    by_same : (p : Cidr) → IsCidr p.base p.len → (covers p addr ≡ true → p.len < len + 1) → (b : Bool) → same_prefix p (around addr len) ≡ b → is_longest (map pre rows) addr p ≡ b
    by_same p ok upto true same =
        let long : p.len ≡ len = eqb-true p.len len (and_parts _ _ same).1 in
        ap (λ (b : Bool). b && not (list_any (longer p) (map pre rows))) (around_covers p addr len within same) ∙ ap not (none_longer p long)
    by_same p ok upto false same = by_cover (covers p addr) refl
      where
        less : covers p addr ≡ true → p.len < len
        less cover =
            let other : p.len ≡ len → ⊥ = (λ (long : p.len ≡ len). let yes_same : same_prefix p (around addr len) ≡ true = covering_is_around p addr len ok cover long in absurd cc) in
            let most : p.len < len + 1 = upto cover in
            omega arith

        by_cover : (c : Bool) → covers p addr ≡ c → is_longest (map pre rows) addr p ≡ false
        by_cover false e = ap (λ (b : Bool). b && not (list_any (longer p) (map pre rows))) e
        by_cover true e = ap (λ (b : Bool). b && not (list_any (longer p) (map pre rows))) e ∙ ap not (some_longer p (less e))

    at_length : longest (map pre rows) addr ≡ places_from (is_around len) 0 rows
    unfolding longest
    at_length =
        places_map pre (is_longest (map pre rows) addr) 0 rows
        ∙ same_places (λ row. is_longest (map pre rows) addr (pre row)) (is_around len) 0 rows (λ k d lt. by_same (pre (get_or rows k d)) (valid k d lt) (short k d lt) (same_prefix (pre (get_or rows k d)) (around addr len)) refl)

  -- the rows of the prefix around the address, if there are some and no longer prefix covers it
  pub found : (rows : List A) (len from n : ℕ) → len ≤ 32 → AreCidrs rows → AreShorter (len + 1) rows → places_from (λ row. same_prefix (pre row) (around addr len)) 0 rows ≡ range_with_len from n → 0 < n
      → longest (map pre rows) addr ≡ range_with_len from n
  found rows len from n within valid short places some = at_length rows len within valid short (some_by_places (is_around len) rows from n places some) ∙ places

  -- nothing covers the address
  pub not_found : (rows : List A) → AreShorter 0 rows → longest (map pre rows) addr ≡ []
  unfolding longest
  not_found rows short =
      places_map pre (is_longest (map pre rows) addr) 0 rows
      ∙ no_places (λ row. is_longest (map pre rows) addr (pre row)) 0 rows (λ k d lt. by_cover (pre (get_or rows k d)) (short k d lt) (covers (pre (get_or rows k d)) addr) refl)
    where
      by_cover : (p : Cidr) → (covers p addr ≡ true → p.len < 0) → (c : Bool) → covers p addr ≡ c → is_longest (map pre rows) addr p ≡ false
      by_cover p none false e = ap (λ (b : Bool). b && not (list_any (λ q. covers q addr && nat_lt p.len q.len) (map pre rows))) e
      by_cover p none true e = let lt : p.len < 0 = none e in absurd (omega arith)

  -- a length of at most 32
  pub all_short : (rows : List A) → AreCidrs rows → AreShorter 33 rows
  all_short rows valid k d lt cover = let most : (pre (get_or rows k d)).len ≤ 32 = (valid k d lt).within in omega arith

  -- ---- the last row at or before the prefix of a length around the address

  -- where the search stands: no longer prefix covers the address, and the place is behind the rows up to the prefix around it
  pub record IsStep (rows : List A) (len to : ℕ) : Type 0 where
    pub rising : Rises pre rows
    pub valid : AreCidrs rows
    pub within : len ≤ 32
    pub short : AreShorter (len + 1) rows
    pub point : IsPartitionPoint (λ row. is_le (prefix_cmp (pre row) (around addr len)) ≡ true) (λ row. is_le (prefix_cmp (pre row) (around addr len)) ≡ false) rows to

  pub step : (rows : List A) → AreByPrefix pre rows → (len to : ℕ) (q : Cidr) → 0 < len → len ≤ 33 → AreShorter len rows → q ≡ around addr (len - 1)
      → IsPartitionPoint (λ row. is_le (prefix_cmp (pre row) q) ≡ true) (λ row. is_le (prefix_cmp (pre row) q) ≡ false) rows to → IsStep rows (len - 1) to
  step rows are len to q some within short e point =
      let next : len ≡ len - 1 + 1 = omega arith in
      record {
        rising = rises pre rows are.ordered;
        valid = are.valid;
        within = omega arith;
        short = subst (λ (n : ℕ). AreShorter n rows) next short;
        point = subst (λ (p : Cidr). IsPartitionPoint (λ row. is_le (prefix_cmp (pre row) p) ≡ true) (λ row. is_le (prefix_cmp (pre row) p) ≡ false) rows to) e point;
      }

  -- the row before a place has a prefix
  pub record IsLast (rows : List A) (to : ℕ) (p : Cidr) : Type 0 where
    pub some : 0 < to
    pub there : to - 1 < length rows
    pub is : (d : A) → pre (get_or rows (to - 1) d) ≡ p

  pub read_last : (rows : List A) (to : ℕ) (row : A) (p : Cidr) → (to ≡ 0 → ⊥) → to ≤ length rows → row ≡ get_or rows (to - 1) row → p ≡ pre row → IsLast rows to p
  read_last rows to row p some bound is has =
      let lt : 0 < to = omega arith in
      let there : to - 1 < length rows = omega arith in
      record { some = lt; there = there; is = λ d. ap pre (same_at rows (to - 1) d row there ∙ sym is) ∙ sym has }

  module _ (rows : List A) (len to : ℕ) (s : IsStep rows len to) where
    is_covered : (q : Cidr) → covers q addr ≡ true → Covers q addr
    is_covered q e = eqb-true (addr / size_of q.len) (q.base / size_of q.len) e

    -- a row that covers the address stands up to there
    covers_before : (k : ℕ) (d : A) → k < length rows → covers (pre (get_or rows k d)) addr ≡ true → k < to
    covers_before k d lt cover = elim (cases_lt k to) [
      | inl before ↦ before
      | inr after ↦
          let q = pre (get_or rows k d) in
          let most : q.len < len + 1 = s.short k d lt cover in
          let upto : is_le (prefix_cmp q (around addr len)) ≡ true = before_around addr q len (s.valid k d lt) (omega arith) s.within (is_covered q cover) in
          let behind : is_le (prefix_cmp q (around addr len)) ≡ false = s.point.1 k d after lt in
          absurd cc
    ]

    pub none_covers : to ≡ 0 → AreShorter 0 rows
    none_covers none k d lt cover = let before : k < to = covers_before k d lt cover in omega arith

    module _ (p : Cidr) (last : IsLast rows to p) where
      no_later : (k : ℕ) (d : A) → k < length rows → covers (pre (get_or rows k d)) addr ≡ true → is_gt (prefix_cmp (pre (get_or rows k d)) p) ≡ false
      no_later k d lt cover =
          let before : k < to = covers_before k d lt cover in
          let up : is_gt (prefix_cmp (pre (get_or rows k d)) (pre (get_or rows (to - 1) d))) ≡ false = s.rising k (to - 1) d (omega arith) last.there in
          ap (λ (q : Cidr). is_gt (prefix_cmp (pre (get_or rows k d)) q)) (sym (last.is d)) ∙ up

      pub last_upto : A → is_le (prefix_cmp p (around addr len)) ≡ true
      last_upto d =
          let some : 0 < to = last.some in
          ap (λ (q : Cidr). is_le (prefix_cmp q (around addr len))) (sym (last.is d)) ∙ s.point.0 (to - 1) d (omega arith) (omega arith)

      last_valid : A → IsCidr p.base p.len
      last_valid d = subst (λ (q : Cidr). IsCidr q.base q.len) (last.is d) (s.valid (to - 1) d last.there)

      -- where it covers the address, none longer does
      last_longest : Covers p addr → AreShorter (p.len + 1) rows
      last_longest cover k d lt covers_it =
          let q = pre (get_or rows k d) in
          let most : q.len ≤ p.len = no_longer addr q p (s.valid k d lt) (last_valid d) (is_covered q covers_it) cover (no_later k d lt covers_it) in
          omega arith

      -- and else none that is longer than the bits which the two addresses share
      pub last_shares : (shared : ℕ) → ((l : ℕ) → l ≤ 32 → p.base / size_of l ≡ addr / size_of l → l ≤ shared) → AreShorter (shared + 1) rows
      last_shares shared most k d lt covers_it =
          let q = pre (get_or rows k d) in
          let ok : IsCidr q.base q.len = s.valid k d lt in
          let few : q.len ≤ shared = most q.len ok.within (alike_in addr p len s.within (last_upto d) q ok (is_covered q covers_it) (no_later k d lt covers_it)) in
          omega arith

      -- the place is behind its prefix too
      pub last_point : IsPartitionPoint (λ row. is_le (prefix_cmp (pre row) p) ≡ true) (λ row. is_le (prefix_cmp (pre row) p) ≡ false) rows to
      last_point = (before, behind)
        where
          before : (k : ℕ) (d : A) → 0 ≤ k → k < to → is_le (prefix_cmp (pre (get_or rows k d)) p) ≡ true
          before k d low high =
              by_no_gt (prefix_cmp (pre (get_or rows k d)) p) (ap (λ (q : Cidr). is_gt (prefix_cmp (pre (get_or rows k d)) q)) (sym (last.is d)) ∙ s.rising k (to - 1) d (omega arith) last.there)

          on : (b : Bool) (q : Cidr) → is_le (prefix_cmp q p) ≡ b → is_le (prefix_cmp p (around addr len)) ≡ true → is_le (prefix_cmp q (around addr len)) ≡ false → b ≡ false
          on false q e up past = refl
          on true q e up past = let far : is_le (prefix_cmp q (around addr len)) ≡ true = upto_upto q p (around addr len) e up in absurd cc

          behind : (k : ℕ) (d : A) → to ≤ k → k < length rows → is_le (prefix_cmp (pre (get_or rows k d)) p) ≡ false
          behind k d le lt = on (is_le (prefix_cmp (pre (get_or rows k d)) p)) (pre (get_or rows k d)) refl (last_upto d) (s.point.1 k d le lt)

      -- its rows are those of the longest prefix
      pub last_rows : A → Covers p addr → (from n : ℕ) → places_from (λ row. same_prefix (pre row) p) 0 rows ≡ range_with_len from n → longest (map pre rows) addr ≡ range_with_len from n
      last_rows d cover from n places =
          let ok = last_valid d in
          let whole : p ≡ around addr p.len = same_prefix_is p (around addr p.len) (covering_is_around p addr p.len ok (eq-eqb (addr / size_of p.len) (p.base / size_of p.len) cover) refl) in
          found rows p.len from n ok.within s.valid (last_longest cover) (subst (λ (q : Cidr). places_from (λ row. same_prefix (pre row) q) 0 rows ≡ range_with_len from n) whole places) (some n places)
        where
          some : (n : ℕ) → places_from (λ row. same_prefix (pre row) p) 0 rows ≡ range_with_len from n → 0 < n
          some (suc n) e = omega arith
          some zero e =
              let other : same_prefix (pre (get_or rows (to - 1) d)) p ≡ false = none_by_places (λ row. same_prefix (pre row) p) 0 rows e (to - 1) d last.there in
              let same : same_prefix (pre (get_or rows (to - 1) d)) p ≡ true = ap (λ (q : Cidr). same_prefix q p) (last.is d) ∙ same_itself p in
              absurd cc
