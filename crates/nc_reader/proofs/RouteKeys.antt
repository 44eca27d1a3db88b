-- Keys of static routes are one where the test says so.
use Rattle.std.proofs.Common.{◌≡◌, ℕ, Bool, true, eqb, ◌&&◌, List, Option, Some, None, refl, ap, ◌∙◌, subst}
use Rattle.std.specs.Cmp.{IsEquivalence}
use Rattle.std.specs.Option.{option_eq}
use Rattle.std.specs.Str.{bytes_eq}
use Rattle.std.proofs.lemmas.Bool.{and_parts, and_from, eqb-true, eq-eqb}
use Rattle.std.proofs.lemmas.Slice.Eq.{bytes_eq-Decides}
use Rattle.nc_reader.specs.Things.{RouteKeyView, same_key}
use Rattle.nc_lines.proofs.Grouping.{IsSame, equiv_of}

same_options : {T : Type 0} (same : T → T → Bool) → IsSame same → IsSame (option_eq same)
same_options same is None None = ((λ e. refl), (λ e. refl))
same_options same is None (Some y) = ((λ e. absurd cc), (λ e. absurd cc))
same_options same is (Some x) None = ((λ e. absurd cc), (λ e. absurd cc))
same_options {T} same is (Some x) (Some y) = ((λ e. ap (λ (z : T). Some z) ((is x y).0 e)), (λ e. (is x y).1 (let one : x ≡ y = cc in one)))

same_numbers : IsSame eqb
same_numbers x y = (eqb-true x y, eq-eqb x y)

abbrev key : ℕ → ℕ → Option (List ℕ) → Option ℕ → RouteKeyView
key base len interface hop = record { prefix = record { base = base; len = len }; interface = interface; hop = hop }

keys_one : (a b : RouteKeyView) → same_key a b ≡ true → a ≡ b
keys_one a b e =
    let halves = and_parts (eqb a.prefix.base b.prefix.base && eqb a.prefix.len b.prefix.len) (option_eq bytes_eq a.interface b.interface && option_eq eqb a.hop b.hop) e in
    let prefix = and_parts (eqb a.prefix.base b.prefix.base) (eqb a.prefix.len b.prefix.len) halves.0 in
    let way = and_parts (option_eq bytes_eq a.interface b.interface) (option_eq eqb a.hop b.hop) halves.1 in
    let base : a.prefix.base ≡ b.prefix.base = eqb-true a.prefix.base b.prefix.base prefix.0 in
    let len : a.prefix.len ≡ b.prefix.len = eqb-true a.prefix.len b.prefix.len prefix.1 in
    let interface : a.interface ≡ b.interface = (same_options bytes_eq bytes_eq-Decides a.interface b.interface).0 way.0 in
    let hop : a.hop ≡ b.hop = (same_options eqb same_numbers a.hop b.hop).0 way.1 in
    ap (λ (k : ℕ). key k a.prefix.len a.interface a.hop) base ∙ ap (λ (k : ℕ). key b.prefix.base k a.interface a.hop) len
    ∙ ap (λ (i : Option (List ℕ)). key b.prefix.base b.prefix.len i a.hop) interface ∙ ap (key b.prefix.base b.prefix.len b.interface) hop

key_own : (a : RouteKeyView) → same_key a a ≡ true
key_own a =
    and_from (eqb a.prefix.base a.prefix.base && eqb a.prefix.len a.prefix.len) (option_eq bytes_eq a.interface a.interface && option_eq eqb a.hop a.hop)
    (and_from (eqb a.prefix.base a.prefix.base) (eqb a.prefix.len a.prefix.len) (eq-eqb a.prefix.base a.prefix.base refl) (eq-eqb a.prefix.len a.prefix.len refl))
    (and_from (option_eq bytes_eq a.interface a.interface) (option_eq eqb a.hop a.hop) ((same_options bytes_eq bytes_eq-Decides a.interface a.interface).1 refl) ((same_options eqb same_numbers a.hop a.hop).1 refl))

pub keys_same : IsSame same_key
keys_same a b = (keys_one a b, (λ e. subst (λ (b : RouteKeyView). same_key a b ≡ true) e (key_own a)))

pub same_key_equiv : IsEquivalence same_key
same_key_equiv = equiv_of keys_same
