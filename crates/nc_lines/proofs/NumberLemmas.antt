-- Reading a number digit by digit.
use Rattle.std.proofs.Common.{◌≡◌, ◌≢◌, ℕ, ◌+◌, ◌-◌, ◌*◌, ◌<◌, ◌≤◌, Bool, true, false, cond, ◌&&◌, List, [], ◌∷◌, length, get_or, Option, Some, None, refl, sym, ap, ◌∙◌, arith, inl, inr}
use Rattle.std.specs.Prelude.{nat_lt, nat_le, ◌==◌, MatchOption, if◌then◌else◌}
use Rattle.std.specs.List.{list_all, slice_split}
use Rattle.std.proofs.lemmas.Bool.{lt-ltb, le-ltb, le-leb, lt-leb, leb-true, and_parts, and_cases, and_left, and_right, and_from, eq-eqb, ne_eqb}
use Rattle.nc_lines.specs.Numbers.{is_digit, value_after, is_plain, number_of, address_of, address_of_parts, prefix_of, prefix_of_parts, around_of, around_of_parts}
use Rattle.nc_types.specs.Cidr.{Cidr, IsCidr}
use Rattle.nc_types.specs.Masks.{network_of}

-- further digits make a number no smaller
pub value_after-ge : (n : ℕ) (digits : List ℕ) → n ≤ value_after n digits
value_after-ge n [] = omega arith
value_after-ge n (digit ∷ digits) = omega (arith, value_after-ge (10 * n + (digit - 48)) digits)

not_plain : (most : ℕ) (word : List ℕ) → is_plain word ≡ false → number_of most word ≡ None
unfolding number_of
not_plain most word e = ap (λ (b : Bool). cond (b && nat_le (value_after 0 word) most) (Some (value_after 0 word)) None) e

pub number_of-nothing : (most : ℕ) (word : List ℕ) → length word ≡ 0 → number_of most word ≡ None
number_of-nothing most [] e = not_plain most [] refl
number_of-nothing most (b ∷ bs) e = absurd (omega arith)

pub number_of-zero_first : (most : ℕ) (word : List ℕ) → 1 < length word → get_or word 0 0 ≡ 48 → number_of most word ≡ None
number_of-zero_first most [] long e = absurd (omega arith)
number_of-zero_first most (a ∷ []) long e = absurd (omega arith)
number_of-zero_first most (a ∷ b ∷ bs) long e = not_plain most (a ∷ b ∷ bs) (and_left (nat_lt 48 a) _ (le-ltb 48 a (omega arith)))

pub number_of-no_digit : (most : ℕ) (word : List ℕ) → list_all is_digit word ≡ false → number_of most word ≡ None
number_of-no_digit most [] e = absurd cc
number_of-no_digit most (a ∷ []) e =
    not_plain most (a ∷ []) (elim (and_cases (is_digit a) true e) [ inl no_digit ↦ no_digit | inr clash ↦ absurd cc ])
number_of-no_digit most (a ∷ b ∷ bs) e = not_plain most (a ∷ b ∷ bs) (and_right (nat_lt 48 a) _ e)

pub number_of-large : (most : ℕ) (word : List ℕ) → most < value_after 0 word → number_of most word ≡ None
unfolding number_of
number_of-large most word e = ap (λ (b : Bool). cond b (Some (value_after 0 word)) None) (and_right (is_plain word) _ (lt-leb _ _ e))

plain_digits : (word : List ℕ) → 0 < length word → (1 < length word → get_or word 0 0 ≢ 48) → list_all is_digit word ≡ true → is_plain word ≡ true
plain_digits [] some first e = absurd (omega arith)
plain_digits (a ∷ []) some first e = (and_parts (is_digit a) true e).0
plain_digits (a ∷ b ∷ bs) some first e =
    let digit = (and_parts (is_digit a) _ e).0 in
    let low = leb-true 48 a (and_parts (nat_le 48 a) (nat_le a 57) digit).0 in
    let other : a ≢ 48 = first (omega arith) in
    and_from (nat_lt 48 a) _ (lt-ltb 48 a (omega arith)) e

pub number_of-digits : (most : ℕ) (word : List ℕ) → 0 < length word → (1 < length word → get_or word 0 0 ≢ 48) → list_all is_digit word ≡ true → value_after 0 word ≤ most → number_of most word ≡ Some (value_after 0 word)
unfolding number_of
number_of-digits most word some first e small = ap (λ (b : Bool). cond b (Some (value_after 0 word)) None) (and_from (is_plain word) _ (plain_digits word some first e) (le-leb _ _ small))

-- ---- addresses

abbrev pub AreNotTwo : List (List ℕ) → Type 0
AreNotTwo parts = (a b : List ℕ) → parts ≡ a ∷ b ∷ [] → ⊥

-- the parts of an address around its dots
pub address_of-parts : (word : List ℕ) (parts : List (List ℕ)) → slice_split (λ b. b == 46) word ≡ parts → address_of word ≡ address_of_parts parts
unfolding address_of
address_of-parts word parts e = ap address_of_parts e

pub not_four : (a b : List ℕ) (parts : List (List ℕ)) → AreNotTwo parts → address_of_parts (a ∷ b ∷ parts) ≡ None
not_four a b [] other = refl
not_four a b (c ∷ []) other = refl
not_four a b (c ∷ d ∷ []) other = absurd (other c d refl)
not_four a b (c ∷ d ∷ e ∷ parts) other = refl

-- ---- prefixes

pub prefix_of-two : (word address len : List ℕ) → slice_split (λ b. b == 47) word ≡ address ∷ len ∷ [] → prefix_of word ≡ prefix_of_parts (address ∷ len ∷ [])
unfolding prefix_of
prefix_of-two word address len e = ap prefix_of_parts e

not_prefix : (parts : List (List ℕ)) → AreNotTwo parts → prefix_of_parts parts ≡ None
not_prefix [] other = refl
not_prefix (a ∷ []) other = refl
not_prefix (a ∷ b ∷ []) other = absurd (other a b refl)
not_prefix (a ∷ b ∷ c ∷ parts) other = refl

pub prefix_of-not_two : (word : List ℕ) → AreNotTwo (slice_split (λ b. b == 47) word) → prefix_of word ≡ None
unfolding prefix_of
prefix_of-not_two word other = not_prefix _ other

cidr_of : (base len : ℕ) (r : Option Cidr) → len ≤ 32 → MatchOption r (¬ IsCidr base len) (λ p. IsCidr base len × (p ≡ record { base = base; len = len }))
    → r ≡ (if network_of base len == base then Some (record { base = base; len = len }) else None)
cidr_of base len None within no_cidr =
    let other : network_of base len ≢ base = λ same. no_cidr (record { within = within; no_host_bits = same }) in
    sym (ap (λ (b : Bool). cond b (Some (record { base = base; len = len })) None) (ne_eqb _ _ other))
cidr_of base len (Some p) within made = ap (λ (p : Cidr). Some p) made.1 ∙ sym (ap (λ (b : Bool). cond b (Some (record { base = base; len = len })) None) (eq-eqb _ _ made.0.no_host_bits))

pub prefix_of-made : (word address len : List ℕ) (a n : ℕ) (r : Option Cidr) → slice_split (λ b. b == 47) word ≡ address ∷ len ∷ [] → address_of address ≡ Some a → number_of 32 len ≡ Some n
    → n ≤ 32 → MatchOption r (¬ IsCidr a n) (λ p. IsCidr a n × (p ≡ record { base = a; len = n })) → r ≡ prefix_of word
prefix_of-made word address len a n r parts e f within made = cidr_of a n r within made ∙ sym (prefix_of-two word address len parts ∙ rw (e, f) refl)

pub prefix_of-no_address : (word address len : List ℕ) → slice_split (λ b. b == 47) word ≡ address ∷ len ∷ [] → address_of address ≡ None → prefix_of word ≡ None
prefix_of-no_address word address len parts e = prefix_of-two word address len parts ∙ rw e refl

pub prefix_of-no_len : (word address len : List ℕ) (a : ℕ) → slice_split (λ b. b == 47) word ≡ address ∷ len ∷ [] → address_of address ≡ Some a → number_of 32 len ≡ None → prefix_of word ≡ None
prefix_of-no_len word address len a parts e f = prefix_of-two word address len parts ∙ rw (e, f) refl

around_of-two : (word address len : List ℕ) → slice_split (λ b. b == 47) word ≡ address ∷ len ∷ [] → around_of word ≡ around_of_parts (address ∷ len ∷ [])
unfolding around_of
around_of-two word address len e = ap around_of_parts e

not_around : (parts : List (List ℕ)) → AreNotTwo parts → around_of_parts parts ≡ None
not_around [] other = refl
not_around (a ∷ []) other = refl
not_around (a ∷ b ∷ []) other = absurd (other a b refl)
not_around (a ∷ b ∷ c ∷ parts) other = refl

pub around_of-not_two : (word : List ℕ) → AreNotTwo (slice_split (λ b. b == 47) word) → around_of word ≡ None
unfolding around_of
around_of-not_two word other = not_around _ other

pub around_of-made : (word address len : List ℕ) (a n : ℕ) → slice_split (λ b. b == 47) word ≡ address ∷ len ∷ [] → address_of address ≡ Some a → number_of 32 len ≡ Some n
    → around_of word ≡ Some (record { base = network_of a n; len = n })
around_of-made word address len a n parts e f = around_of-two word address len parts ∙ rw (e, f) refl

pub around_of-no_address : (word address len : List ℕ) → slice_split (λ b. b == 47) word ≡ address ∷ len ∷ [] → address_of address ≡ None → around_of word ≡ None
around_of-no_address word address len parts e = around_of-two word address len parts ∙ rw e refl

pub around_of-no_len : (word address len : List ℕ) (a : ℕ) → slice_split (λ b. b == 47) word ≡ address ∷ len ∷ [] → address_of address ≡ Some a → number_of 32 len ≡ None → around_of word ≡ None
around_of-no_len word address len a parts e f = around_of-two word address len parts ∙ rw (e, f) refl
