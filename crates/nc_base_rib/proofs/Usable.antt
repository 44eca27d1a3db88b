-- Where a static route leads, by the link through which its next hop is reached.
use Rattle.std.proofs.Common.{◌≡◌, ℕ, ◌/◌, ◌<◌, Bool, true, false, cond, ◌&&◌, List, [], ◌∷◌, length, get_or, All, Contains, Option, Some, None, slice_get, refl, sym, ap, subst, ◌∙◌, arith, inl, inr}
use Rattle.std.specs.Prelude.{nat_lt, ◌==◌, position, option_and_then, IfSome, IfNone, MatchOption}
use Rattle.std.specs.List.{position_or_len}
use Rattle.std.specs.Option.{option_map, option_map_or}
use Rattle.std.proofs.lemmas.Bool.{cases_lt, eqb-true, eq-eqb, lt-ltb, le-ltb, and_parts, and_from, and_right}
use Rattle.std.proofs.lemmas.List.Folds.{list_any_none, list_any_at}
use Rattle.std.proofs.lemmas.List.Sums.{position_or_len_is, fails_before_first}
use Rattle.std.proofs.lemmas.List.Quantifiers.{position-Some}
use Rattle.std.proofs.lemmas.List.{get_or_default}
use Rattle.std.proofs.lemmas.Option.{slice_get-get_or, slice_get_within, get_or_from_slice_get, none-some, same_Some, MatchOption-at_some}
use Rattle.nc_types.specs.declared.addr.Addr.{Addr}
use Rattle.nc_types.specs.declared.config.IfaceAddr.{IfaceAddr}
use Rattle.nc_types.specs.declared.config.Interface.{Interface}
use Rattle.nc_types.specs.declared.config.Via.{Via}
use Rattle.nc_types.specs.declared.config.Via.TheVariants.{Null, Hop, Through}
use Rattle.nc_types.specs.Cidr.{Covers}
use Rattle.nc_types.specs.Masks.{size_of}
use Rattle.nc_types.specs.Network.{up_of, has_address, hop_of}
use Rattle.nc_tables.specs.declared.base.BaseFrom.{BaseFrom}
use Rattle.nc_tables.specs.declared.base.BaseFrom.TheVariants.{Static, Null as Discard}
use Rattle.nc_tables.specs.Base.{covers, is_toward, is_own, static_from}
use Rattle.nc_base_rib.specs.declared.links.Link.{Link}
use Rattle.nc_base_rib.specs.Links.{up_in, HasOwnPrefix, AreApart, allows, link_at, IsTableOf, IsTheLink, IsLinkOf}
use Rattle.nc_base_rib.proofs.Linking.{link_up, up_linked}
use Rattle.nc_base_rib.proofs.Overlapping.{both_cover}

-- ---- places

module _ {X : Type 0} (p : X → Bool) where
  abbrev Place : List X → ℕ → Option ℕ
  Place xs k = cond (nat_lt k (length xs)) (Some k) None

  no_place : (xs : List X) → All (λ x. p x ≡ false) xs → position p xs ≡ None
  no_place [] none = refl
  no_place (x ∷ xs) none =
      let n = length (x ∷ xs) in
      ap (Place (x ∷ xs)) (position_or_len_is p (x ∷ xs) n x (omega arith) (λ k lt. none k x lt) (λ lt. absurd (omega arith))) ∙ ap (λ (b : Bool). cond b (Some n) None) (le-ltb n n (omega arith))

  place_at : (xs : List X) (k : ℕ) (d : X) → k < length xs → p (get_or xs k d) ≡ true → ((j : ℕ) → j < length xs → p (get_or xs j d) ≡ true → j ≡ k) → position p xs ≡ Some k
  place_at xs k d within here only =
      ap (Place xs) (position_or_len_is p xs k d (omega arith) (λ j lt. not_here j lt (p (get_or xs j d)) refl) (λ lt. here)) ∙ ap (λ (b : Bool). cond b (Some k) None) (lt-ltb k (length xs) within)
    where
      not_here : (j : ℕ) → j < k → (b : Bool) → p (get_or xs j d) ≡ b → p (get_or xs j d) ≡ false
      not_here j lt true e = let same : j ≡ k = only j (omega arith) e in absurd (omega arith)
      not_here j lt false e = e

all_in : {X : Type 0} (P : X → Type 0) (xs : List X) (x : X) → All P xs → Contains xs x → P x
all_in P xs x all has = subst P has.2 (all has.0 x has.1)

-- ---- interfaces that are up

up_at : (is : List Interface) (k : ℕ) (d : Interface) → k < length is → up_in is k ≡ up_of (get_or is k d)
up_at is k d lt = ap (option_and_then up_of) (slice_get-get_or is k d lt)

pub up_within : (is : List Interface) (k : ℕ) (a : IfaceAddr) → up_in is k ≡ Some a → k < length is
up_within is k a = by_get (slice_get is k) refl
  where
    by_get : (o : Option Interface) → slice_get is k ≡ o → option_and_then up_of o ≡ Some a → k < length is
    by_get None e up = absurd (cc)
    by_get (Some i) e up = slice_get_within is k i e

toward_address : (hop : ℕ) (i : Interface) → is_toward hop i ≡ true → (a : IfaceAddr) × (up_of i ≡ Some a) × (covers a.prefix hop ≡ true)
toward_address hop i = by_up (up_of i) refl
  where
    by_up : (o : Option IfaceAddr) → up_of i ≡ o → option_map_or (λ a. covers a.prefix hop) o false ≡ true → (a : IfaceAddr) × (up_of i ≡ Some a) × (covers a.prefix hop ≡ true)
    by_up None e f = absurd (cc)
    by_up (Some a) e f = (a, e, f)

-- an interface reaches its own address
own_toward : (hop : ℕ) (i : Interface) → HasOwnPrefix i → has_address hop i ≡ true → is_toward hop i ≡ true
own_toward hop i = by_up i.shut i.address
  where
    by_up : (shut : Bool) (o : Option IfaceAddr) → IfSome o (λ a. Covers a.prefix a.addr.0) → option_map_or (λ a. a.addr.0 == hop) (cond shut None o) false ≡ true
        → option_map_or (λ a. covers a.prefix hop) (cond shut None o) false ≡ true
    by_up true o own e = absurd (cc)
    by_up false None own e = absurd (cc)
    by_up false (Some a) own e =
        let same : a.addr.0 ≡ hop = eqb-true a.addr.0 hop e in
        eq-eqb (hop / size_of a.prefix.len) (a.prefix.base / size_of a.prefix.len) (subst (λ (n : ℕ). n / size_of a.prefix.len ≡ a.prefix.base / size_of a.prefix.len) same own)

-- ---- the link of a next hop

-- by the table
module _ (is : List Interface) (links : List Link) (ok : IsTableOf is links) (hop : ℕ) where
  pub not_toward : All (λ (l : Link). covers l.address.prefix hop ≡ false) links → All (λ (i : Interface). is_toward hop i ≡ false) is
  not_toward none k d lt = by_test (is_toward hop (get_or is k d)) refl
    where
      by_test : (b : Bool) → is_toward hop (get_or is k d) ≡ b → is_toward hop (get_or is k d) ≡ false
      by_test false e = e
      by_test true e =
          let t = toward_address hop (get_or is k d) e in
          let has : Contains links (link_at k t.0) = up_linked is links ok.same k t.0 (up_at is k d lt ∙ t.1) in
          let not : covers t.0.prefix hop ≡ false = all_in (λ (l : Link). covers l.address.prefix hop ≡ false) links (link_at k t.0) none has in
          let yes : covers t.0.prefix hop ≡ true = t.2 in
          absurd (cc)

  pub the_link : (l : Link) → Contains links l → covers l.address.prefix hop ≡ true → IsTheLink is hop l
  the_link l has covering = record {
    up = (link_up is links ok.same l has).0;
    covering = covering;
    only = λ k d lt e.
        let t = toward_address hop (get_or is k d) e in
        let m = link_at k t.0 in
        let has_m : Contains links m = up_linked is links ok.same k t.0 (up_at is k d lt ∙ t.1) in
        let same : l ≡ m = ok.table.apart l m has has_m (both_cover l.address.prefix t.0.prefix hop covering t.2) in
        sym (ap (λ (l : Link). l.place) same);
  }

-- by the interfaces themselves
module _ (is : List Interface) (hop : ℕ) where
  pub no_link : position (is_toward hop) is ≡ None → All (λ (i : Interface). is_toward hop i ≡ false) is
  no_link none k d lt = elim (cases_lt (position_or_len (is_toward hop) is) (length is)) [
    | inl first ↦ absurd (none-some (position_or_len (is_toward hop) is) (sym none ∙ ap (λ (b : Bool). cond b (Some (position_or_len (is_toward hop) is)) None) (lt-ltb (position_or_len (is_toward hop) is) (length is) first)))
    | inr le ↦ fails_before_first (is_toward hop) is k d (omega arith)
  ]

  covers_here : (l : Link) → position (is_toward hop) is ≡ Some l.place → up_in is l.place ≡ Some l.address → covers l.address.prefix hop ≡ true
  covers_here l found up = by_get (slice_get is l.place) refl up
    where
      by_get : (o : Option Interface) → slice_get is l.place ≡ o → option_and_then up_of o ≡ Some l.address → covers l.address.prefix hop ≡ true
      by_get None at e = absurd (cc)
      by_get (Some i) at e =
          let first = position-Some (is_toward hop) is l.place i found in
          let here : is_toward hop i ≡ true = ap (is_toward hop) (sym (get_or_from_slice_get is l.place i i at)) ∙ first.1 in
          let t = toward_address hop i here in
          let same : t.0 ≡ l.address = same_Some t.0 l.address (sym t.1 ∙ e) in
          subst (λ (a : IfaceAddr). covers a.prefix hop ≡ true) same t.2

  pub link_here : AreApart is → (l : Link) → position (is_toward hop) is ≡ Some l.place → up_in is l.place ≡ Some l.address → IsTheLink is hop l
  link_here apart l found up = record {
    up = up;
    covering = covers_here l found up;
    only = λ k d lt e.
        let t = toward_address hop (get_or is k d) e in
        apart k l.place t.0 l.address (up_at is k d lt ∙ t.1) up (both_cover t.0.prefix l.address.prefix hop t.2 (covers_here l found up));
  }

-- ---- the link of a static route

pub of_hop : (is : List Interface) (via : Via) (h : Addr) (link : Option Link) → hop_of via ≡ Some h → MatchOption link (All (λ (i : Interface). is_toward h.0 i ≡ false) is) (IsTheLink is h.0) → IsLinkOf is via link
of_hop is via h link e there hop f = subst (λ (x : Addr). MatchOption link (All (λ (i : Interface). is_toward x.0 i ≡ false) is) (IsTheLink is x.0)) (same_Some h hop (sym e ∙ f)) there

-- a link that is found
pub found : (is : List Interface) (hop : ℕ) (link : Option Link) (l : Link) → link ≡ Some l → MatchOption link (All (λ (i : Interface). is_toward hop i ≡ false) is) (IsTheLink is hop) → IsTheLink is hop l
found is hop link l e there = MatchOption-at_some (All (λ (i : Interface). is_toward hop i ≡ false) is) (IsTheLink is hop) l e there

-- the interface at a place, as the program finds it
pub up_here_is : (is : List Interface) (place : ℕ) (i : Interface) → place < length is → i ≡ get_or is place i → up_in is place ≡ up_of i
up_here_is is place i lt at = up_at is place i lt ∙ ap up_of (sym at)

-- an interface that covers an address is up
pub never_down : (is : List Interface) (hop place : ℕ) (i : Interface) → position (is_toward hop) is ≡ Some place → i ≡ get_or is place i → up_of i ≡ None → ⊥
never_down is hop place i found at down =
    let first = position-Some (is_toward hop) is place i found in
    let t = toward_address hop i (ap (is_toward hop) at ∙ first.1) in
    none-some t.0 (sym down ∙ t.1)

pub table_link : (is : List Interface) (links : List Link) → IsTableOf is links → (hop : ℕ) (link : Option Link) → IfNone link (All (λ (l : Link). covers l.address.prefix hop ≡ false) links) → IfSome link (Contains links) → IfSome link (λ (l : Link). covers l.address.prefix hop ≡ true)
    → MatchOption link (All (λ (i : Interface). is_toward hop i ≡ false) is) (IsTheLink is hop)
table_link is links ok hop None none has covering = not_toward is links ok hop none
table_link is links ok hop (Some l) none has covering = the_link is links ok hop l has covering

module _ (is : List Interface) (own : All HasOwnPrefix is) (hop : ℕ) where
  module _ (none : All (λ (i : Interface). is_toward hop i ≡ false) is) where
    pub not_own : is_own is hop ≡ false
    not_own = list_any_none (has_address hop) is (λ k d lt. by_test k d lt (has_address hop (get_or is k d)) refl)
      where
        by_test : (k : ℕ) (d : Interface) → k < length is → (b : Bool) → has_address hop (get_or is k d) ≡ b → has_address hop (get_or is k d) ≡ false
        by_test k d lt false e = e
        by_test k d lt true e =
            let yes : is_toward hop (get_or is k d) ≡ true = own_toward hop (get_or is k d) (own k d lt) e in
            let not : is_toward hop (get_or is k d) ≡ false = none k d lt in
            absurd (cc)

    pub no_interface : (p : Interface → Bool) → position (λ i. p i && is_toward hop i) is ≡ None
    no_interface p = no_place (λ i. p i && is_toward hop i) is (λ k d lt. and_right (p (get_or is k d)) (is_toward hop (get_or is k d)) (none k d lt))

  module _ (l : Link) (the : IsTheLink is hop l) where
    up : up_in is l.place ≡ Some l.address
    up = the.up

    pub within : l.place < length is
    within = up_within is l.place l.address up

    up_here : (d : Interface) → up_of (get_or is l.place d) ≡ Some l.address
    up_here d = sym (up_at is l.place d within) ∙ up

    has_own : (d : Interface) → has_address hop (get_or is l.place d) ≡ (l.address.addr.0 == hop)
    has_own d = ap (λ (o : Option IfaceAddr). option_map_or (λ a. a.addr.0 == hop) o false) (up_here d)

    pub own_here : (d : Interface) → is_own is hop ≡ (l.address.addr.0 == hop)
    own_here d = by_test (l.address.addr.0 == hop) refl
      where
        other : (b : Bool) (k : ℕ) (d : Interface) → k < length is → l.address.addr.0 == hop ≡ false → has_address hop (get_or is k d) ≡ b → has_address hop (get_or is k d) ≡ false
        other false k d lt f e = e
        other true k d lt f e =
            let same : k ≡ l.place = the.only k d lt (own_toward hop (get_or is k d) (own k d lt) e) in
            ap (λ (n : ℕ). has_address hop (get_or is n d)) same ∙ has_own d ∙ f

        by_test : (b : Bool) → (l.address.addr.0 == hop) ≡ b → is_own is hop ≡ b
        by_test true e = list_any_at (has_address hop) is l.place d within (has_own d ∙ e)
        by_test false e = list_any_none (has_address hop) is (λ k f lt. other (has_address hop (get_or is k f)) k f lt e refl)

    toward_here : (d : Interface) → is_toward hop (get_or is l.place d) ≡ true
    toward_here d = ap (λ (o : Option IfaceAddr). option_map_or (λ a. covers a.prefix hop) o false) (up_here d) ∙ the.covering

    pub the_interface : (p : Interface → Bool) (d : Interface) → position (λ i. p i && is_toward hop i) is ≡ cond (p (get_or is l.place d)) (Some l.place) None
    the_interface p d = by_test (p (get_or is l.place d)) refl
      where
        test : Interface → Bool
        test i = p i && is_toward hop i

        by_test : (b : Bool) → p (get_or is l.place d) ≡ b → position (λ i. p i && is_toward hop i) is ≡ cond b (Some l.place) None
        by_test true e =
            place_at (λ i. p i && is_toward hop i) is l.place d within (and_from (p (get_or is l.place d)) (is_toward hop (get_or is l.place d)) e (toward_here d))
            (λ j lt f. the.only j d lt (and_parts (p (get_or is j d)) (is_toward hop (get_or is j d)) f).1)
        by_test false e = no_place (λ i. p i && is_toward hop i) is (λ k f lt. not_this k f lt e (p (get_or is k f) && is_toward hop (get_or is k f)) refl)
          where
            not_this : (k : ℕ) (f : Interface) → k < length is → p (get_or is l.place d) ≡ false → (b : Bool) → (p (get_or is k f) && is_toward hop (get_or is k f)) ≡ b
                → (p (get_or is k f) && is_toward hop (get_or is k f)) ≡ false
            not_this k f lt e false g = g
            not_this k f lt e true g =
                let parts = and_parts (p (get_or is k f)) (is_toward hop (get_or is k f)) g in
                let same : k ≡ l.place = the.only k f lt parts.1 in
                let here : get_or is k f ≡ get_or is l.place d = ap (λ (n : ℕ). get_or is n f) same ∙ get_or_default is l.place f d within in
                let yes : p (get_or is l.place d) ≡ true = ap p (sym here) ∙ parts.0 in
                absurd (cc)

-- ---- static routes

pub static_null : (is : List Interface) (place : ℕ) (via : Via) → hop_of via ≡ None → static_from is place via ≡ Some (Discard place)
static_null is place Null e = refl
static_null is place (Hop hop) e = absurd (cc)
static_null is place (Through reference hop) e = absurd (cc)

abbrev Leads : List Interface → ℕ → Via → ℕ → Option BaseFrom
Leads is place via hop = cond (is_own is hop) None (option_map (λ iface. Static place (record { 0 = iface })) (position (λ i. allows via i && is_toward hop i) is))

static_hop : (is : List Interface) (place : ℕ) (via : Via) (hop : Addr) → hop_of via ≡ Some hop → static_from is place via ≡ Leads is place via hop.0
static_hop is place Null hop e = absurd (cc)
static_hop is place (Hop to) hop e = let same : to ≡ hop = cc in subst (λ (h : Addr). static_from is place (Hop to) ≡ Leads is place (Hop to) h.0) same refl
static_hop is place (Through reference to) hop e = let same : to ≡ hop = cc in subst (λ (h : Addr). static_from is place (Through reference to) ≡ Leads is place (Through reference to) h.0) same refl

pub static_none : (is : List Interface) (own : All HasOwnPrefix is) (place : ℕ) (via : Via) (hop : Addr) → hop_of via ≡ Some hop
    → All (λ (i : Interface). is_toward hop.0 i ≡ false) is → static_from is place via ≡ None
static_none is own place via hop e none =
    static_hop is place via hop e
    ∙ ap (λ (b : Bool). cond b None (option_map (λ iface. Static place (record { 0 = iface })) (position (λ i. allows via i && is_toward hop.0 i) is))) (not_own is own hop.0 none)
    ∙ ap (option_map (λ iface. Static place (record { 0 = iface }))) (no_interface is own hop.0 none (allows via))

pub static_through : (is : List Interface) (own : All HasOwnPrefix is) (place : ℕ) (via : Via) (hop : Addr) → hop_of via ≡ Some hop
    → (l : Link) → IsTheLink is hop.0 l → (i : Interface) → i ≡ get_or is l.place i
    → static_from is place via ≡ cond (l.address.addr.0 == hop.0) None (cond (allows via i) (Some (Static place (record { 0 = l.place }))) None)
static_through is own place via hop e l the i here =
    static_hop is place via hop e
    ∙ ap (λ (b : Bool). cond b None (option_map (λ iface. Static place (record { 0 = iface })) (position (λ i. allows via i && is_toward hop.0 i) is))) (own_here is own hop.0 l the i)
    ∙ ap (λ (o : Option ℕ). cond (l.address.addr.0 == hop.0) None (option_map (λ iface. Static place (record { 0 = iface })) o)) (the_interface is own hop.0 l the (allows via) i)
    ∙ ap (λ (b : Bool). cond (l.address.addr.0 == hop.0) None (option_map (λ iface. Static place (record { 0 = iface })) (cond b (Some l.place) None))) (ap (allows via) (sym here))
    ∙ by_test (allows via i)
  where
    by_test : (b : Bool) → cond (l.address.addr.0 == hop.0) None (option_map (λ iface. Static place (record { 0 = iface })) (cond b (Some l.place) None)) ≡ cond (l.address.addr.0 == hop.0) None (cond b (Some (Static place (record { 0 = l.place }))) None)
    by_test true = refl
    by_test false = refl
