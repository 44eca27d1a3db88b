-- Tables that keep the lowest of what has one key.
use Rattle.std.proofs.Common.{◌≡◌, ℕ, Bool, true, false, cond, ◌&&◌, ◌||◌, List, [], ◌∷◌, Option, Some, None, refl, sym, ap, ◌∙◌, arith}
use Rattle.std.specs.Prelude.{nat_lt, ◌==◌}
use Rattle.std.specs.List.{flat_map}
use Rattle.std.specs.Option.{option_map, option_map_or}
use Rattle.std.proofs.lemmas.Bool.{eq-eqb, le-ltb}
use Rattle.std.proofs.lemmas.Bool.Decides.{nat_tests}
use Rattle.nc_types.specs.Joining.{Clash, Used, Numbered, before_or, is_before, earlier, earliest, used_by, same_address, with_later}
use Rattle.nc_network.specs.declared.clash.Place.{Place}
use Rattle.nc_network.specs.Steps.{merge, first_of_all, lower_place, head_of, by_address, pair_up, address_pairs, router_addresses}
use Rattle.nc_network.proofs.ClashOrder.{merge_comm}
use Rattle.nc_network.proofs.Clashes.{all-cons, all-turned, all-joined, all-same, earliest-append}

-- ---- pairs of one first line

pub or_same : (n : ℕ) (b : Bool) → before_or n n b ≡ b
or_same n b = ap (λ (t : Bool). t || ((n == n) && b)) (le-ltb n n (omega arith)) ∙ ap (λ (t : Bool). t && b) (eq-eqb n n refl)

pair_before : (p a b : Place) → is_before (pair_up p a) (pair_up p b) ≡ before_or a.router b.router (nat_lt a.line b.line)
pair_before p a b = or_same p.router (before_or p.line p.line (before_or a.router b.router (nat_lt a.line b.line))) ∙ or_same p.line (before_or a.router b.router (nat_lt a.line b.line))

earlier_pair : (p a b : Place) → earlier (pair_up p a) (pair_up p b) ≡ pair_up p (lower_place a b)
earlier_pair p a b =
    ap (λ (t : Bool). cond t (pair_up p b) (pair_up p a)) (pair_before p b a) ∙ moved (before_or b.router a.router (nat_lt b.line a.line)) where
      moved : (t : Bool) → cond t (pair_up p b) (pair_up p a) ≡ pair_up p (cond t b a)
      moved true = refl
      moved false = refl

-- the earliest pair of an address with later ones is that with the lowest of them
abbrev place_of : Used → Place
place_of x = record { router = x.router; line = x.line }

pub address-found : (x : Used) (later : List Used) → first_of_all (same_address x) later ≡ option_map (pair_up (place_of x)) (head_of by_address x.address.addr later)
address-found x [] = refl
address-found x (y ∷ ys) =
    all-cons (same_address x) y ys ∙ ap (merge (earliest (same_address x y))) (address-found x ys)
    ∙ ap (λ (b : Bool). merge (earliest (cond b (pair_up (place_of x) (place_of y) ∷ []) [])) (option_map (pair_up (place_of x)) (head_of by_address x.address.addr ys))) (eqb_turned x.address.addr.0 y.address.addr.0)
    ∙ by (y.address.addr.0 == x.address.addr.0) (head_of by_address x.address.addr ys) where
      eqb_turned : (m n : ℕ) → (m == n) ≡ (n == m)
      eqb_turned m n = grind (arith, nat_tests)

      by : (b : Bool) (o : Option Place) → merge (earliest (cond b (pair_up (place_of x) (place_of y) ∷ []) [])) (option_map (pair_up (place_of x)) o)
          ≡ option_map (pair_up (place_of x)) (cond b (Some (option_map_or (lower_place (place_of y)) o (place_of y))) o)
      by true None = refl
      by true (Some a) = ap (λ (c : Clash). Some c) (earlier_pair (place_of x) (place_of y) a)
      by false o = refl

-- a router with all later ones: its addresses with all of theirs
pub routers-found : (a : Numbered) (ns : List Numbered) → first_of_all (router_addresses a) ns ≡ first_of_all (address_pairs (flat_map used_by ns)) (used_by a)
routers-found a ns =
    all-turned (λ (x : Used) (b : Numbered). flat_map (same_address x) (used_by b)) (used_by a) ns
    ∙ all-same (λ (x : Used). flat_map (λ b. flat_map (same_address x) (used_by b)) ns) (address_pairs (flat_map used_by ns)) (λ x. sym (all-joined used_by (same_address x) ns)) (used_by a)

-- one more router before those that were searched
pub routers-more : (n : Numbered) (ns : List Numbered) (found r : Option Clash) → found ≡ earliest (with_later router_addresses ns) → r ≡ merge found (first_of_all (address_pairs (flat_map used_by ns)) (used_by n))
    → r ≡ earliest (with_later router_addresses (n ∷ ns))
routers-more n ns found r before here =
    here ∙ ap (λ (o : Option Clash). merge o (first_of_all (address_pairs (flat_map used_by ns)) (used_by n))) before
    ∙ ap (merge (earliest (with_later router_addresses ns))) (sym (routers-found n ns)) ∙ merge_comm (earliest (with_later router_addresses ns)) (first_of_all (router_addresses n) ns)
    ∙ sym (earliest-append (flat_map (router_addresses n) ns) (with_later router_addresses ns))
