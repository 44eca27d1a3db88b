-- Longer prefixes inside another stand behind it, side by side.
use Rattle.std.proofs.Common.{◌≡◌, ℕ, ◌+◌, ◌*◌, ◌/◌, ◌<◌, ◌≤◌, true, false, nat_lt, sym, ap, subst, ◌∙◌, arith, inl, inr}
use Rattle.std.specs.Ordering.{ordering_then, nat_cmp, is_le, is_gt}
use Rattle.std.proofs.Math.Nat.{div-mul-le_self}
use Rattle.std.proofs.lemmas.Bool.{cases_lt, eqb-true, eq-eqb, ltb-true, lt-ltb, and_parts, and_from}
use Rattle.std.proofs.lemmas.Bool.Decides.{nat_tests}
use Rattle.nc_types.specs.Cidr.{Cidr, IsCidr, Covers}
use Rattle.nc_types.specs.Masks.{size_of}
use Rattle.nc_types.proofs.Ranges.{covers_range}
use Rattle.nc_tables.specs.Base.{covers, prefix_cmp}
use Rattle.nc_tables.specs.Rounds.{is_longer_in}
use Rattle.nc_tables.proofs.Nested.{coarser}

-- ---- two prefixes

behind_by : (zb zl ab al : ℕ) → ab ≤ zb → al < zl → is_le (ordering_then (nat_cmp zb ab) (nat_cmp zl al)) ≡ false
behind_by zb zl ab al least longer = grind (arith, nat_tests)

behind_base : (fb fl ab al : ℕ) → is_le (ordering_then (nat_cmp fb ab) (nat_cmp fl al)) ≡ false → ab ≤ fb
behind_base fb fl ab al behind = grind (arith, nat_tests)

behind_short : (fb fl ab al : ℕ) → is_le (ordering_then (nat_cmp fb ab) (nat_cmp fl al)) ≡ false → fl ≤ al → ab < fb
behind_short fb fl ab al behind short = grind (arith, nat_tests)

upto_base : (fb fl zb zl : ℕ) → is_gt (ordering_then (nat_cmp fb zb) (nat_cmp fl zl)) ≡ false → fb ≤ zb
upto_base fb fl zb zl up = grind (arith, nat_tests)

-- a shorter prefix that begins within another doesn't begin behind its beginning
begins_before : (f a : Cidr) → IsCidr f.base f.len → IsCidr a.base a.len → f.len ≤ a.len → Covers a f.base → f.base ≤ a.base
begins_before f a valid valid_a short cover =
    let part : f.base / size_of f.len ≡ a.base / size_of f.len = coarser f.base a.base f.len a.len short valid_a.within cover in
    let base : a.base / size_of f.len * size_of f.len ≡ f.base = sym (ap (λ (k : ℕ). k * size_of f.len) part) ∙ valid.no_host_bits in
    subst (λ (k : ℕ). k ≤ a.base) base (div-mul-le_self a.base (size_of f.len))

module _ (a : Cidr) (valid_a : IsCidr a.base a.len) where
  covered : (p : Cidr) → is_longer_in p a ≡ true → Covers a p.base
  covered p e = eqb-true (p.base / size_of a.len) (a.base / size_of a.len) (and_parts (nat_lt a.len p.len) (covers a p.base) e).1

  longer : (p : Cidr) → is_longer_in p a ≡ true → a.len < p.len
  longer p e = ltb-true a.len p.len (and_parts (nat_lt a.len p.len) (covers a p.base) e).0

  -- a longer prefix inside stands behind the outer one
  pub longer_behind : (p : Cidr) → is_longer_in p a ≡ true → is_le (prefix_cmp p a) ≡ false
  longer_behind p e = behind_by p.base p.len a.base a.len ((covers_range a valid_a p.base).0 (covered p e)).0 (longer p e)

  -- and so is each prefix between the two
  pub between : (f z : Cidr) → IsCidr f.base f.len → is_le (prefix_cmp f a) ≡ false → is_gt (prefix_cmp f z) ≡ false → is_longer_in z a ≡ true → is_longer_in f a ≡ true
  between f z valid behind up e =
      let range = (covers_range a valid_a z.base).0 (covered z e) in
      let low : a.base ≤ f.base = behind_base f.base f.len a.base a.len behind in
      let high : f.base ≤ z.base = upto_base f.base f.len z.base z.len up in
      let most : z.base < a.base + size_of a.len = range.1 in
      let cover : Covers a f.base = (covers_range a valid_a f.base).1 (low, omega arith) in
      and_from (nat_lt a.len f.len) (covers a f.base) (lt-ltb a.len f.len (long cover)) (eq-eqb (f.base / size_of a.len) (a.base / size_of a.len) cover)
    where
      long : Covers a f.base → a.len < f.len
      long cover = elim (cases_lt a.len f.len) [
        | inl lt ↦ lt
        | inr le ↦
            let late : a.base < f.base = behind_short f.base f.len a.base a.len behind le in
            let early : f.base ≤ a.base = begins_before f a valid valid_a le cover in
            absurd (omega arith)
      ]
