-- The addresses whose first bits agree are one range.
use Rattle.std.proofs.Common.{◌≡◌, ℕ, ◌-◌, ◌^◌, refl, ◌<◌, ◌≤◌, ◌+◌, ◌*◌, ◌/◌, ◌↔◌, sym, ◌∙◌, ap, subst, arith}
use Rattle.std.proofs.Math.Nat.{div-mul-le_self, lt-div-mul-add, div-eq_of_lt-le, mul-div_cancel, div-div-eq-div-mul, lt_of_not-le}
use Rattle.std.proofs.Math.Pow.{pow-lt}
use Rattle.std.proofs.lemmas.Nat.{pow_pos, pow-add}
use Rattle.nc_types.specs.Masks.{size_of, network_of}
use Rattle.nc_types.specs.Cidr.{Cidr, IsCidr, Covers, IsInside, IsInRange}

same_part : (size base addr : ℕ) → 0 < size → base / size * size ≡ base → addr / size ≡ base / size → (base ≤ addr) × (addr < base + size)
same_part size base addr some whole same =
    let start : addr / size * size ≡ base = ap (λ (k : ℕ). k * size) same ∙ whole in
    (subst (λ (k : ℕ). k ≤ addr) start (div-mul-le_self addr size), subst (λ (k : ℕ). addr < k + size) start (lt-div-mul-add some))

in_range : (size base addr : ℕ) → 0 < size → base / size * size ≡ base → base ≤ addr → addr < base + size → addr / size ≡ base / size
in_range size base addr some whole least most =
    div-eq_of_lt-le size
    (subst (λ (k : ℕ). k ≤ addr) (sym whole) least)
    (subst (λ (k : ℕ). addr < k) (sym (ap (λ (k : ℕ). k + size) whole) ∙ omega arith) most)

some_size : (len : ℕ) → 0 < size_of len
some_size len = pow_pos (32 - len)

pub covers_range : (p : Cidr) → IsCidr p.base p.len → (addr : ℕ) → Covers p addr ↔ IsInRange p addr
covers_range p valid addr =
    (same_part (size_of p.len) p.base addr (some_size p.len) valid.no_host_bits, (λ r. in_range (size_of p.len) p.base addr (some_size p.len) valid.no_host_bits r.0 r.1))

pub lies : (addr len : ℕ) → len ≤ 32 → Covers (record { base = network_of addr len; len = len }) addr
lies addr len within = sym (mul-div_cancel (addr / size_of len) (some_size len))

coarser : (a b size parts : ℕ) → a / size ≡ b / size → a / (size * parts) ≡ b / (size * parts)
coarser a b size parts same = sym (div-div-eq-div-mul a size parts) ∙ ap (λ (k : ℕ). k / parts) same ∙ div-div-eq-div-mul b size parts

wider : (len outer : ℕ) → len ≤ 32 → outer ≤ len → size_of outer ≡ size_of len * 2 ^ (len - outer)
wider len outer within less =
    let e : 32 - outer ≡ (32 - len) + (len - outer) = omega arith in
    ap (λ (k : ℕ). 2 ^ k) e ∙ pow-add 2 (32 - len) (len - outer)

covers_more : (p outer : Cidr) → IsCidr p.base p.len → IsInside p outer → (addr : ℕ) → Covers p addr → Covers outer addr
covers_more p outer valid inside addr covers =
    subst (λ (k : ℕ). addr / k ≡ p.base / k) (sym (wider p.len outer.len valid.within inside.0)) (coarser addr p.base (size_of p.len) (2 ^ (p.len - outer.len)) covers) ∙ inside.1

-- a shorter outer prefix would end before the part does
not_shorter : (p outer : Cidr) → IsCidr p.base p.len → IsCidr outer.base outer.len → ((addr : ℕ) → Covers p addr → Covers outer addr) → p.len < outer.len → ⊥
not_shorter p outer valid valid_outer all less =
    let e : 32 - outer.len < 32 - p.len = (let w : outer.len ≤ 32 = valid_outer.within in omega arith) in
    let small : size_of outer.len < size_of p.len = pow-lt e in
    let some : 0 < size_of outer.len = some_size outer.len in
    let first : IsInRange outer p.base = (covers_range outer valid_outer p.base).0 (all p.base refl) in
    let next : Covers p (p.base + size_of outer.len) = (covers_range p valid (p.base + size_of outer.len)).1 ((omega arith), (omega arith)) in
    let past : IsInRange outer (p.base + size_of outer.len) = (covers_range outer valid_outer (p.base + size_of outer.len)).0 (all (p.base + size_of outer.len) next) in
    let a : outer.base ≤ p.base = first.0 in
    let b : p.base + size_of outer.len < outer.base + size_of outer.len = past.1 in
    omega arith

no_longer : (p outer : Cidr) → IsCidr p.base p.len → IsCidr outer.base outer.len → ((addr : ℕ) → Covers p addr → Covers outer addr) → outer.len ≤ p.len
no_longer p outer valid valid_outer all =
    let near : outer.len < p.len + 1 = lt_of_not-le (λ (more : p.len + 1 ≤ outer.len). not_shorter p outer valid valid_outer all (omega arith)) in
    omega arith

pub inside_covers : (p outer : Cidr) → IsCidr p.base p.len → IsCidr outer.base outer.len → IsInside p outer ↔ ((addr : ℕ) → Covers p addr → Covers outer addr)
inside_covers p outer valid valid_outer =
    (covers_more p outer valid, (λ all. (no_longer p outer valid valid_outer all, all p.base refl)))
