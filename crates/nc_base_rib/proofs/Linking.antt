-- The links of a router's interfaces, and the interfaces of its links.
use Rattle.std.proofs.Common.{◌≡◌, ℕ, zero, suc, ◌+◌, ◌<◌, ◌≤◌, Bool, true, false, List, [], ◌∷◌, length, get_or, All, Contains, Option, Some, None, refl, sym, ap, subst, ◌∙◌, inl, inr, arith}
use Rattle.std.specs.Prelude.{nat_le, IsPermutation}
use Rattle.std.specs.List.Sorted.{IsNonDecreasingBy, IsPartitionPoint}
use Rattle.std.specs.Option.{option_map_or}
use Rattle.std.proofs.lemmas.Bool.{cases_lt, leb-true, le-leb}
use Rattle.std.proofs.lemmas.List.Sorted.{Contains-permutation, All-permutation, IsPermutation-sym}
use Rattle.std.proofs.lemmas.List.Elements.{Contains-get_or}
use Rattle.std.proofs.lemmas.List.{get_or_default}
use Rattle.nc_types.specs.declared.config.IfaceAddr.{IfaceAddr}
use Rattle.nc_types.specs.declared.config.Interface.{Interface}
use Rattle.nc_types.specs.Cidr.{IsCidr}
use Rattle.nc_types.specs.Network.{up_of}
use Rattle.nc_tables.specs.Base.{covers}
use Rattle.nc_base_rib.specs.declared.links.Link.{Link}
use Rattle.nc_base_rib.specs.Links.{up_in, AreApart, link_at, links_from, IsTable, IsTableOf}
use Rattle.nc_types.proofs.Members.{In, in_by_contains, contains_by_in}
use Rattle.nc_base_rib.proofs.Overlapping.{begins_inside, covers_above}

-- ---- from interfaces to links and back

-- the link of an interface at a place behind the first
abbrev Stands : ℕ → List Interface → Link → Type 0
Stands first is l = (k : ℕ) × (a : IfaceAddr) × (up_in is k ≡ Some a) × (l ≡ link_at (first + k) a)

later : (first : ℕ) (i : Interface) (is : List Interface) (l : Link) → Stands (first + 1) is l → Stands first (i ∷ is) l
later first i is l (k, a, up, e) = let sum : (first + 1) + k ≡ first + suc k = omega arith in (suc k, a, up, e ∙ ap (λ (n : ℕ). link_at n a) sum)

link_stands : (first : ℕ) (is : List Interface) (l : Link) → In l (links_from first is) → Stands first is l
link_stands first [] l i = absurd i
link_stands first (x ∷ is) l i = by_up (up_of x) refl (link_stands (first + 1) is l) i
  where
    by_up : (o : Option IfaceAddr) → up_of x ≡ o → (In l (links_from (first + 1) is) → Stands (first + 1) is l)
        → In l (option_map_or (λ a. link_at first a ∷ links_from (first + 1) is) o (links_from (first + 1) is)) → Stands first (x ∷ is) l
    by_up None e rest j = later first x is l (rest j)
    by_up (Some a) e rest (inl same) = let sum : first ≡ first + 0 = omega arith in (zero, a, e, sym same ∙ ap (λ (n : ℕ). link_at n a) sum)
    by_up (Some a) e rest (inr j) = later first x is l (rest j)

interface_links : (first : ℕ) (is : List Interface) (k : ℕ) (a : IfaceAddr) → up_in is k ≡ Some a → In (link_at (first + k) a) (links_from first is)
interface_links first [] k a up = absurd (cc)
interface_links first (x ∷ is) zero a up =
    subst (λ (o : Option IfaceAddr). In (link_at (first + 0) a) (option_map_or (λ a. link_at first a ∷ links_from (first + 1) is) o (links_from (first + 1) is))) (sym up)
    (let sum : first ≡ first + 0 = omega arith in inl (ap (λ (n : ℕ). link_at n a) sum))
interface_links first (x ∷ is) (suc k) a up = by_up (up_of x) (subst (λ (n : ℕ). In (link_at n a) (links_from (first + 1) is)) sum (interface_links (first + 1) is k a up))
  where
    sum : (first + 1) + k ≡ first + suc k
    sum = omega arith

    by_up : (o : Option IfaceAddr) → In (link_at (first + suc k) a) (links_from (first + 1) is)
        → In (link_at (first + suc k) a) (option_map_or (λ a. link_at first a ∷ links_from (first + 1) is) o (links_from (first + 1) is))
    by_up None rest = rest
    by_up (Some b) rest = inr rest

from_zero : (k : ℕ) → 0 + k ≡ k
from_zero k = omega arith

-- ---- the table

module _ (is : List Interface) (links : List Link) (same : IsPermutation (links_from 0 is) links) where
  pub link_up : (l : Link) → Contains links l → (up_in is l.place ≡ Some l.address) × (l ≡ link_at l.place l.address)
  link_up l has =
      let s : Stands 0 is l = link_stands 0 is l (in_by_contains (links_from 0 is) l (Contains-permutation links (links_from 0 is) l (IsPermutation-sym (links_from 0 is) links same) has)) in
      let e : l ≡ link_at s.0 s.1 = s.3 ∙ ap (λ (n : ℕ). link_at n s.1) (from_zero s.0) in
      (subst (λ (m : Link). up_in is m.place ≡ Some m.address) (sym e) s.2, subst (λ (m : Link). m ≡ link_at m.place m.address) (sym e) refl)

  pub up_linked : (k : ℕ) (a : IfaceAddr) → up_in is k ≡ Some a → Contains links (link_at k a)
  up_linked k a up =
      Contains-permutation (links_from 0 is) links (link_at k a) same
      (contains_by_in (links_from 0 is) (link_at k a) (subst (λ (n : ℕ). In (link_at n a) (links_from 0 is)) (from_zero k) (interface_links 0 is k a up)))

  pub table_of : AreApart is → IsNonDecreasingBy (λ (l : Link). l.network.0) links → All (λ (l : Link). IsCidr l.address.prefix.base l.address.prefix.len) (links_from 0 is) → IsTableOf is links
  table_of apart ordered valid = record {
    same = same;
    table = record {
      ordered = ordered;
      named = λ k d lt. ap (λ (l : Link). l.network.0) (link_up (get_or links k d) (Contains-get_or links k d lt)).1;
      valid = All-permutation (λ (l : Link). IsCidr l.address.prefix.base l.address.prefix.len) (links_from 0 is) links same valid;
      apart = λ l m i j e.
          let one = link_up l i in let other = link_up m j in
          let place : l.place ≡ m.place = apart l.place m.place l.address m.address one.0 other.0 e in
          let address : Some l.address ≡ Some m.address = sym one.0 ∙ ap (up_in is) place ∙ other.0 in
          let value : l.address ≡ m.address = cc in
          one.1 ∙ ap (λ (n : ℕ). link_at n l.address) place ∙ ap (link_at m.place) value ∙ sym other.1;
    };
  }

-- ---- the search

module _ (links : List Link) (table : IsTable links) (addr next : ℕ) (point : IsPartitionPoint (λ (l : Link). nat_le l.network.0 addr ≡ true) (λ (l : Link). nat_le l.network.0 addr ≡ false) links next) where
  -- a link that covers the address stands before the place
  before_next : (k : ℕ) (d : Link) → k < length links → covers (get_or links k d).address.prefix addr ≡ true → k < next
  before_next k d lt covering =
      elim (cases_lt k next) as (λ _. k < next) [
        | inl less ↦ less
        | inr behind ↦
            let base : (get_or links k d).address.prefix.base ≤ addr = covers_above (get_or links k d).address.prefix addr (table.valid k d lt) covering in
            let named : (get_or links k d).network.0 ≡ (get_or links k d).address.prefix.base = table.named k d lt in
            let low : nat_le (get_or links k d).network.0 addr ≡ true = le-leb (get_or links k d).network.0 addr (omega arith) in
            let high : nat_le (get_or links k d).network.0 addr ≡ false = point.1 k d behind lt in
            absurd (cc)
      ]

  pub none_before : next ≡ 0 → All (λ (l : Link). covers l.address.prefix addr ≡ false) links
  none_before none k d lt = by_cover (covers (get_or links k d).address.prefix addr) refl
    where
      by_cover : (b : Bool) → covers (get_or links k d).address.prefix addr ≡ b → covers (get_or links k d).address.prefix addr ≡ false
      by_cover true e = let less : k < next = before_next k d lt e in absurd (omega arith)
      by_cover false e = e

  -- where the last link before the place doesn't cover the address, none does
  pub none_but : (last : ℕ) (m : Link) → last + 1 ≡ next → next ≤ length links → m ≡ get_or links last m → covers m.address.prefix addr ≡ false → All (λ (l : Link). covers l.address.prefix addr ≡ false) links
  none_but last m e within is other k d lt = by_cover (covers (get_or links k d).address.prefix addr) refl
    where
      last_has : Contains links m
      last_has = (last, omega arith, sym is)

      one : covers (get_or links k d).address.prefix addr ≡ true → get_or links k d ≡ m
      one covering =
          let l = get_or links k d in
          let less : k < next = before_next k d lt covering in
          let inside : last < length links = omega arith in
          let at : get_or links last d ≡ m = get_or_default links last d m inside ∙ sym is in
          let rising : l.network.0 ≤ m.network.0 = subst (λ (n : Link). l.network.0 ≤ n.network.0) at (table.ordered k last d (omega arith) inside) in
          let named : l.network.0 ≡ l.address.prefix.base = table.named k d lt in
          let named_last : m.network.0 ≡ m.address.prefix.base = subst (λ (n : Link). n.network.0 ≡ n.address.prefix.base) at (table.named last d inside) in
          let low : m.network.0 ≤ addr = leb-true m.network.0 addr (subst (λ (n : Link). nat_le n.network.0 addr ≡ true) at (point.0 last d (omega arith) (omega arith))) in
          table.apart l m (Contains-get_or links k d lt) last_has (begins_inside l.address.prefix m.address.prefix addr (table.valid k d lt) covering (omega arith) (omega arith))

      by_cover : (b : Bool) → covers (get_or links k d).address.prefix addr ≡ b → covers (get_or links k d).address.prefix addr ≡ false
      by_cover true covering = absurd (let same : covers (get_or links k d).address.prefix addr ≡ covers m.address.prefix addr = ap (λ (n : Link). covers n.address.prefix addr) (one covering) in cc)
      by_cover false covering = covering
