-- Bits of prefixes: a bit that is set, and prefixes whose numbers differ.
use Rattle.std.proofs.Common.{◌≡◌, ◌==◌, ◌*◌, ◌%◌, ◌^◌, ◌<◌, ◌||◌, ◌+◌, ℕ, Bool, true, false, cond, List, [], ◌∷◌, bit_or, w64, None, Some, refl, ap, sym, ◌∙◌, inl, inr, eq-eqb, ne_eqb}
use Rattle.std.specs.Int.{bit_at}
use Rattle.std.specs.List.{list_any, position_from}
use Rattle.std.specs.Prelude.{position}
use Rattle.std.proofs.lemmas.Bool.{both_ways, cases_eq, or_from, or_left, or_parts}
use Rattle.std.proofs.lemmas.Iterator.Adapters.{position_from-zero}
use Rattle.std.proofs.lemmas.Nat.Bits.{bit_at_set_same, bit_at_set_other}
use Rattle.nc_types.specs.Cidr.{Cidr}
use Rattle.nc_types.specs.declared.config.NetworkStatement.{NetworkStatement}
use Rattle.nc_types.proofs.Sameness.{same_prefix_is}
use Rattle.nc_tables.specs.Base.{same_prefix}
use Rattle.nc_decision.specs.PrefixBits.{has_alike, number_of}

-- the bit of a number is set too
pub bit_set : (word number n : ℕ) → number < 64 → (bit_at (bit_or word (1 * 2 ^ number % 2 ^ 64)) n == 1) ≡ (number == n || bit_at word n == 1)
bit_set word number n few = elim (cases_eq n number) [
  | inl same ↦
      ap (λ k. bit_at (bit_or word (1 * 2 ^ number % 2 ^ 64)) k == 1) same
      ∙ ap (λ x. x == 1) (bit_at_set_same w64 word number few)
      ∙ sym (or_left (number == n) (bit_at word n == 1) (eq-eqb number n (sym same)))
  | inr other ↦
      ap (λ x. x == 1) (bit_at_set_other w64 word number few n other)
      ∙ ap (λ b. b || bit_at word n == 1) (sym (ne_eqb number n (λ e. other (sym e))))
]

pub or_turned : (x y : Bool) → (x || y) ≡ (y || x)
or_turned true true = refl
or_turned true false = refl
or_turned false true = refl
or_turned false false = refl

-- ---- no network of a prefix

none_passes : {X : Type 0} (test : X → Bool) (first : ℕ) (xs : List X) → list_any test xs ≡ false → position_from test first xs ≡ None
none_passes test first [] none = refl
none_passes test first (x ∷ xs) none =
    let both = or_parts (test x) (list_any test xs) none in
    ap (λ (b : Bool). cond b (Some first) (position_from test (first + 1) xs)) both.0 ∙ none_passes test (first + 1) xs both.1

differ : (q p : Cidr) → (number_of q == number_of p) ≡ false → same_prefix q p ≡ false
differ q p other = on (same_prefix q p) refl
  where
    on : (b : Bool) → same_prefix q p ≡ b → b ≡ false
    on false e = refl
    on true e = absurd (both_ways (number_of q == number_of p) other (eq-eqb (number_of q) (number_of p) (ap number_of (same_prefix_is q p e))))

all_differ : (p : Cidr) (networks : List NetworkStatement) → has_alike p networks ≡ false → list_any (λ n. same_prefix n.prefix p) networks ≡ false
all_differ p [] none = refl
all_differ p (n ∷ ns) none =
    let both = or_parts (number_of n.prefix == number_of p) (has_alike p ns) none in
    or_from (same_prefix n.prefix p) (list_any (λ m. same_prefix m.prefix p) ns) (differ n.prefix p both.0) (all_differ p ns both.1)

pub no_network : (p : Cidr) (networks : List NetworkStatement) → has_alike p networks ≡ false → position (λ n. same_prefix n.prefix p) networks ≡ None
no_network p networks none = position_from-zero (λ n. same_prefix n.prefix p) networks ∙ none_passes (λ n. same_prefix n.prefix p) 0 networks (all_differ p networks none)
