-- Two prefixes that cover one address overlap.
use Rattle.std.proofs.Common.{◌≡◌, ℕ, ◌+◌, ◌-◌, ◌*◌, ◌/◌, ◌^◌, ◌<◌, ◌≤◌, Bool, true, false, ◌||◌, sym, ap, subst, ◌∙◌, inl, inr, arith}
use Rattle.std.specs.Prelude.{nat_le, ◌==◌}
use Rattle.std.proofs.Math.Nat.{div-div-eq-div-mul}
use Rattle.std.proofs.lemmas.Nat.{pow-add}
use Rattle.std.proofs.lemmas.Bool.{cases_lt, eqb-true, le-leb, eq-eqb, and_from, or_left, or_right}
use Rattle.nc_types.specs.Masks.{size_of}
use Rattle.nc_types.specs.Cidr.{Cidr, IsCidr, Covers, IsInRange}
use Rattle.nc_types.specs.Joining.{is_inside, overlap}
use Rattle.nc_types.proofs.Ranges.{covers_range}
use Rattle.nc_tables.specs.Base.{covers}

-- addresses whose first bits agree have fewer first bits that agree
wider : (p : Cidr) (addr len : ℕ) → len ≤ p.len → Covers p addr → addr / size_of len ≡ p.base / size_of len
wider p addr len shorter same =
    let more = (32 - len) - (32 - p.len) in
    let sum : 32 - len ≡ (32 - p.len) + more = omega arith in
    let size : size_of p.len * 2 ^ more ≡ size_of len = sym (ap (λ (k : ℕ). 2 ^ k) sum ∙ pow-add 2 (32 - p.len) more) in
    let cut : addr / (size_of p.len * 2 ^ more) ≡ p.base / (size_of p.len * 2 ^ more) =
    sym (div-div-eq-div-mul addr (size_of p.len) (2 ^ more)) ∙ ap (λ (k : ℕ). k / 2 ^ more) same ∙ div-div-eq-div-mul p.base (size_of p.len) (2 ^ more) in
    subst (λ (k : ℕ). addr / k ≡ p.base / k) size cut

-- a prefix that begins between the first address of another and an address that this covers
pub begins_inside : (p q : Cidr) (addr : ℕ) → IsCidr p.base p.len → covers p addr ≡ true → p.base ≤ q.base → q.base ≤ addr → overlap p q ≡ true
begins_inside p q addr valid covering least most =
    let range : IsInRange p addr = (covers_range p valid addr).0 (eqb-true (addr / size_of p.len) (p.base / size_of p.len) covering) in
    let end : addr < p.base + size_of p.len = range.1 in
    let inside : Covers p q.base = (covers_range p valid q.base).1 (least, omega arith) in
    elim (cases_lt q.len p.len) as (λ _. overlap p q ≡ true) [
      | inl shorter ↦
          or_left (is_inside p q) (is_inside q p)
          (and_from (nat_le q.len p.len) (p.base / size_of q.len == q.base / size_of q.len) (le-leb q.len p.len (omega arith))
          (eq-eqb (p.base / size_of q.len) (q.base / size_of q.len) (sym (wider p q.base q.len (omega arith) inside))))
      | inr longer ↦
          or_right (is_inside p q) (is_inside q p)
          (and_from (nat_le p.len q.len) (q.base / size_of p.len == p.base / size_of p.len) (le-leb p.len q.len longer) (eq-eqb (q.base / size_of p.len) (p.base / size_of p.len) inside))
    ]

-- a prefix covers no address below its own
pub covers_above : (p : Cidr) (addr : ℕ) → IsCidr p.base p.len → covers p addr ≡ true → p.base ≤ addr
covers_above p addr valid covering = ((covers_range p valid addr).0 (eqb-true (addr / size_of p.len) (p.base / size_of p.len) covering)).0

or_turned : (a b : Bool) → (a || b) ≡ true → (b || a) ≡ true
or_turned true true e = e
or_turned true false e = e
or_turned false true e = e
or_turned false false e = e

pub overlap_turned : (p q : Cidr) → overlap p q ≡ true → overlap q p ≡ true
overlap_turned p q e = or_turned (is_inside p q) (is_inside q p) e

both_inside : (p q : Cidr) (addr : ℕ) → q.len ≤ p.len → covers p addr ≡ true → covers q addr ≡ true → is_inside p q ≡ true
both_inside p q addr le one other =
    let first : addr / size_of p.len ≡ p.base / size_of p.len = eqb-true (addr / size_of p.len) (p.base / size_of p.len) one in
    let second : addr / size_of q.len ≡ q.base / size_of q.len = eqb-true (addr / size_of q.len) (q.base / size_of q.len) other in
    and_from (nat_le q.len p.len) (p.base / size_of q.len == q.base / size_of q.len) (le-leb q.len p.len le)
    (eq-eqb (p.base / size_of q.len) (q.base / size_of q.len) (sym (wider p addr q.len le first) ∙ second))

pub both_cover : (p q : Cidr) (addr : ℕ) → covers p addr ≡ true → covers q addr ≡ true → overlap p q ≡ true
both_cover p q addr one other =
    elim (cases_lt q.len p.len) as (λ _. overlap p q ≡ true) [
      | inl shorter ↦ or_left (is_inside p q) (is_inside q p) (both_inside p q addr (omega arith) one other)
      | inr longer ↦ or_right (is_inside p q) (is_inside q p) (both_inside q p addr longer other one)
    ]
