-- Prefixes that cover one address, in the order of prefixes, and how many leading bits two addresses share.
use Rattle.std.proofs.Common.{◌≡◌, ℕ, ◌+◌, ◌-◌, ◌*◌, ◌/◌, ◌^◌, ◌<◌, ◌≤◌, true, false, sym, ap, subst, ◌∙◌, arith, inl, inr}
use Rattle.std.specs.Int.Bits.{bit_xor, xor_self, xor_add_and}
use Rattle.std.specs.Int.Count.{count_leading_zeros}
use Rattle.std.specs.Ordering.{ordering_then, nat_cmp, is_le, is_gt}
use Rattle.std.proofs.Math.Nat.{div-mul-le_self, div-eq_of_lt, lt-div-mul-add, pow-le-pow_right}
use Rattle.std.proofs.lemmas.Bool.{cases_lt}
use Rattle.std.proofs.lemmas.Bool.Decides.{nat_tests}
use Rattle.std.proofs.lemmas.Nat.{pow_pos, pow-add, xor_shr, xor_lt, leading_length, and_le_l, and_le_r}
use Rattle.nc_types.specs.Cidr.{Cidr, IsCidr, Covers}
use Rattle.nc_types.specs.Masks.{size_of, network_of}
use Rattle.nc_types.proofs.Ranges.{covers_range, lies, inside_covers}
use Rattle.nc_tables.specs.Base.{prefix_cmp}

-- the prefix of a length around an address
abbrev pub around : ℕ → ℕ → Cidr
around addr len = record { base = network_of addr len; len = len }

around_valid : (addr len : ℕ) → len ≤ 32 → IsCidr (network_of addr len) len
around_valid addr len within = record { within = within; no_host_bits = ap (λ (k : ℕ). k * size_of len) (sym (lies addr len within)) }

-- addresses that agree in some leading bits agree in fewer
pub coarser : (a b len more : ℕ) → len ≤ more → more ≤ 32 → a / size_of more ≡ b / size_of more → a / size_of len ≡ b / size_of len
coarser a b len more less within same =
    let fine : Cidr = record { base = network_of b more; len = more } in
    let wide : Cidr = record { base = network_of fine.base len; len = len } in
    let short : len ≤ 32 = omega arith in
    let inside = (inside_covers fine wide (around_valid b more within) (around_valid fine.base len short)).0 (less, lies fine.base len short) in
    inside a (same ∙ lies b more within) ∙ sym (inside b (lies b more within))

-- ---- the order

upto_by : (fb fl ab al : ℕ) → fb ≤ ab → fl ≤ al → is_le (ordering_then (nat_cmp fb ab) (nat_cmp fl al)) ≡ true
upto_by fb fl ab al low short = grind (arith, nat_tests)

upto_base : (fb fl ab al : ℕ) → is_le (ordering_then (nat_cmp fb ab) (nat_cmp fl al)) ≡ true → fb ≤ ab
upto_base fb fl ab al up = grind (arith, nat_tests)

upto_len : (fb fl ab al : ℕ) → is_le (ordering_then (nat_cmp fb ab) (nat_cmp fl al)) ≡ true → ab ≤ fb → fl ≤ al
upto_len fb fl ab al up least = grind (arith, nat_tests)

no_greater_base : (fb fl ab al : ℕ) → is_gt (ordering_then (nat_cmp fb ab) (nat_cmp fl al)) ≡ false → fb ≤ ab
no_greater_base fb fl ab al up = grind (arith, nat_tests)

no_greater_len : (fb fl ab al : ℕ) → is_gt (ordering_then (nat_cmp fb ab) (nat_cmp fl al)) ≡ false → ab ≤ fb → fl ≤ al
no_greater_len fb fl ab al up least = grind (arith, nat_tests)

module _ (addr : ℕ) where
  -- what covers an address is at or before the prefix around it, unless it is longer
  pub before_around : (q : Cidr) (len : ℕ) → IsCidr q.base q.len → q.len ≤ len → len ≤ 32 → Covers q addr → is_le (prefix_cmp q (around addr len)) ≡ true
  before_around q len valid short within cover =
      let part : addr / size_of q.len ≡ network_of addr len / size_of q.len = coarser addr (network_of addr len) q.len len short within (lies addr len within) in
      let range = (covers_range q valid (network_of addr len)).0 (sym part ∙ cover) in
      upto_by q.base q.len (network_of addr len) len range.0 short

  -- of two that cover it, the later one is no shorter
  pub no_longer : (q p : Cidr) → IsCidr q.base q.len → IsCidr p.base p.len → Covers q addr → Covers p addr → is_gt (prefix_cmp q p) ≡ false → q.len ≤ p.len
  no_longer q p valid valid_p cover cover_p up = elim (cases_lt p.len q.len) [
    | inl less ↦
        let part : addr / size_of p.len ≡ q.base / size_of p.len = coarser addr q.base p.len q.len (omega arith) valid.within cover in
        let range = (covers_range p valid_p q.base).0 (sym part ∙ cover_p) in
        no_greater_len q.base q.len p.base p.len up range.0
    | inr le ↦ le
  ]

  module _ (p : Cidr) (len : ℕ) (within : len ≤ 32) (upto : is_le (prefix_cmp p (around addr len)) ≡ true) where
    highest : p.base ≤ network_of addr len
    highest = upto_base p.base p.len (network_of addr len) len upto

    -- a prefix up to the one around an address agrees with it in the bits of each that covers it and comes no later
    pub alike_in : (q : Cidr) → IsCidr q.base q.len → Covers q addr → is_gt (prefix_cmp q p) ≡ false → p.base / size_of q.len ≡ addr / size_of q.len
    alike_in q valid cover up =
        let range = (covers_range q valid addr).0 cover in
        let low : q.base ≤ p.base = no_greater_base q.base q.len p.base p.len up in
        let most : addr < q.base + size_of q.len = range.1 in
        let high : p.base ≤ network_of addr len = highest in
        let under : network_of addr len ≤ addr = div-mul-le_self addr (size_of len) in
        (covers_range q valid p.base).1 (low, omega arith) ∙ sym cover

    -- and in fewer bits than the length, unless it covers the address
    pub fewer : (shared : ℕ) → shared ≤ 32 → p.base / size_of shared ≡ addr / size_of shared → (Covers p addr → ⊥) → shared < len
    fewer shared few alike other = elim (cases_lt shared len) [
      | inl less ↦ less
      | inr le ↦
          let same : p.base / size_of len ≡ addr / size_of len = coarser p.base addr len shared le few alike in
          let least : network_of addr len ≤ p.base = subst (λ (k : ℕ). k * size_of len ≤ p.base) same (div-mul-le_self p.base (size_of len)) in
          let high : p.base ≤ network_of addr len = highest in
          let base : network_of addr len ≡ p.base = omega arith in
          let short : p.len ≤ len = upto_len p.base p.len (network_of addr len) len upto least in
          absurd (other (coarser addr (network_of addr len) p.len len short within (lies addr len within) ∙ ap (λ (k : ℕ). k / size_of p.len) base))
    ]

-- ---- bits that two addresses share

no_difference : (a b : ℕ) → bit_xor a b ≡ 0 → a ≡ b
no_difference a b none =
    let sum = xor_add_and a b in
    let least = and_le_l a b in
    let most = and_le_r a b in
    omega (arith, sum, least, most, none)

module _ (a b : ℕ) (within_a : a < 2 ^ 32) (within_b : b < 2 ^ 32) where
  abbrev pub shared : ℕ
  shared = count_leading_zeros 32 (bit_xor a b)

  -- two addresses agree in the leading bits that don't differ
  pub shared_alike : a / size_of shared ≡ b / size_of shared
  shared_alike =
      let l = leading_length 32 (bit_xor a b) (xor_lt 32 a b within_a within_b) in
      let count : l.0 ≡ 32 - shared = omega (arith, l.1) in
      let none : bit_xor (a / 2 ^ l.0) (b / 2 ^ l.0) ≡ 0 = sym (xor_shr a b l.0) ∙ div-eq_of_lt l.2 in
      subst (λ (k : ℕ). a / 2 ^ k ≡ b / 2 ^ k) count (no_difference (a / 2 ^ l.0) (b / 2 ^ l.0) none)

  -- and in no more
  pub shared_most : (len : ℕ) → len ≤ 32 → a / size_of len ≡ b / size_of len → len ≤ shared
  shared_most len within same =
      let l = leading_length 32 (bit_xor a b) (xor_lt 32 a b within_a within_b) in
      let count : shared + l.0 ≡ 32 = l.1 in
      let none : bit_xor a b / size_of len ≡ 0 = xor_shr a b (32 - len) ∙ ap (λ (k : ℕ). bit_xor k (b / size_of len)) same ∙ xor_self (b / size_of len) in
      let small : bit_xor a b < 0 * size_of len + size_of len = subst (λ (k : ℕ). bit_xor a b < k * size_of len + size_of len) none (lt-div-mul-add (pow_pos (32 - len))) in
      let most : 2 ^ l.0 ≤ 2 * bit_xor a b + 1 = l.3 in
      elim (cases_lt (32 - len) l.0) [
        | inl more ↦
            let next : 32 - len + 1 ≤ l.0 = omega (arith, more) in
            let big : 2 ^ (32 - len + 1) ≤ 2 ^ l.0 = pow-le-pow_right (omega arith) next in
            let double : 2 ^ (32 - len + 1) ≡ 2 ^ (32 - len) * 2 ^ 1 = pow-add 2 (32 - len) 1 in
            absurd (omega (arith, big, double, small, most))
        | inr le ↦ omega (arith, count, le, within)
      ]
