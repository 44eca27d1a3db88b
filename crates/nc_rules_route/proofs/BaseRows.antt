-- From what the rows of a base table are made: interfaces that are up, and static routes that can be used.
use Rattle.std.proofs.Common.{◌≡◌, ◌⊎◌, ℕ, zero, suc, ◌+◌, Bool, true, false, cond, ◌&&◌, ◌==◌, nat_lt, List, [], ◌∷◌, filter, Option, Some, None, refl, sym, ap, subst, ◌∙◌, arith, inl, inr}
use Rattle.std.specs.List.{slice_get, position}
use Rattle.std.specs.Option.{option_map, option_map_or, is_some}
use Rattle.std.specs.Str.{bytes_eq}
use Rattle.nc_types.specs.declared.TheConstants.{UNUSED_DISTANCE}
use Rattle.nc_types.specs.Config.{ConfigView}
use Rattle.nc_types.specs.Network.{up_of, has_address}
use Rattle.nc_types.specs.declared.config.IfaceAddr.{IfaceAddr}
use Rattle.nc_types.specs.declared.config.Interface.{Interface}
use Rattle.nc_types.specs.declared.config.StaticRoute.{StaticRoute}
use Rattle.nc_types.specs.declared.config.Via.{Via}
use Rattle.nc_types.specs.declared.config.Via.TheVariants.{Null, Hop, Through}
use Rattle.nc_tables.specs.declared.base.BaseRow.{BaseRow}
use Rattle.nc_tables.specs.declared.base.BaseFrom.{BaseFrom}
use Rattle.nc_tables.specs.declared.base.BaseFrom.TheVariants.{Connected, Static, Null as Discard}
use Rattle.nc_tables.specs.Base.{connected_from, covers, is_toward, interface_toward, hop_is_own, static_from, static_row, statics_from, candidates, is_nearest, row_cmp, base_table}
use Rattle.nc_types.proofs.Members.{In, in_either, in_by_filter}
use Rattle.nc_tables.proofs.Ordered.{in_by_order}
use Rattle.nc_rules_route.proofs.Members.{at_position}

-- the interface at a place, if there is one, is up
pub record IsUp (is : List Interface) (place : ℕ) : Type 0 where
  pub interface : Interface
  pub at : slice_get is place ≡ Some interface
  pub up : is_some (up_of interface) ≡ true

-- ---- interfaces that a test finds are up

some_up : {A : Type 0} (test : A → Bool) (o : Option A) → option_map_or test o false ≡ true → is_some o ≡ true
some_up test None e = absurd (cc)
some_up test (Some a) e = refl

second_holds : (a b : Bool) → (a && b) ≡ true → b ≡ true
second_holds true b e = e
second_holds false b e = absurd (cc)

pub found_up : (test : Interface → Bool) → ((i : Interface) → test i ≡ true → is_some (up_of i) ≡ true) → (is : List Interface) (place : ℕ) → position test is ≡ Some place → IsUp is place
found_up test up is place e = let found = at_position test is place e in record { interface = found.0; at = found.1; up = up found.0 found.2 }

pub address_up : (addr : ℕ) (i : Interface) → has_address addr i ≡ true → is_some (up_of i) ≡ true
address_up addr i e = some_up (λ (a : IfaceAddr). a.addr.0 == addr) (up_of i) e

toward_up : (addr : ℕ) (i : Interface) → is_toward addr i ≡ true → is_some (up_of i) ≡ true
toward_up addr i e = some_up (λ (a : IfaceAddr). covers a.prefix addr) (up_of i) e

pub interface_up : (is : List Interface) (via : Via) (place : ℕ) → interface_toward is via ≡ Some place → IsUp is place
interface_up is Null place e = absurd (cc)
interface_up is (Hop hop) place e = found_up (is_toward hop.0) (toward_up hop.0) is place e
interface_up is (Through reference hop) place e =
    found_up (λ (i : Interface). bytes_eq reference.name i.name && is_toward hop.0 i) (λ i t. toward_up hop.0 i (second_holds (bytes_eq reference.name i.name) (is_toward hop.0 i) t)) is place e

-- ---- static routes

-- where a static route at a place leads: to nothing, or through an interface that is up
abbrev pub LeadsBy : List Interface → ℕ → BaseFrom → Type 0
LeadsBy is place (Connected iface) = ⊥
LeadsBy is place (Static k iface) = (k ≡ place) × IsUp is iface.0
LeadsBy is place (Discard k) = k ≡ place

by_interface : (is : List Interface) (place : ℕ) (via : Via) (from : BaseFrom) → (own : Bool) (o : Option ℕ) → interface_toward is via ≡ o → cond own None (option_map (λ iface. Static place (record { 0 = iface })) o) ≡ Some from → LeadsBy is place from
by_interface is place via from true o toward e = absurd (cc)
by_interface is place via from false None toward e = absurd (cc)
by_interface is place via from false (Some iface) toward e =
    let same : Static place (record { 0 = iface }) ≡ from = cc in subst (LeadsBy is place) same (refl, interface_up is via iface toward)

static_leads : (is : List Interface) (place : ℕ) (via : Via) (from : BaseFrom) → static_from is place via ≡ Some from → LeadsBy is place from
static_leads is place Null from e = let same : Discard place ≡ from = cc in subst (LeadsBy is place) same refl
static_leads is place (Hop hop) from e = by_interface is place (Hop hop) from (hop_is_own is (Hop hop)) (interface_toward is (Hop hop)) refl e
static_leads is place (Through reference hop) from e =
    by_interface is place (Through reference hop) from (hop_is_own is (Through reference hop)) (interface_toward is (Through reference hop)) refl e

pub row_leads : (is : List Interface) (place : ℕ) (route : StaticRoute) (row : BaseRow) → static_row is place route ≡ Some row → LeadsBy is place row.from
row_leads is place route row e = by_test (nat_lt route.distance UNUSED_DISTANCE) (static_from is place route.via) refl e
  where
    by_test : (b : Bool) (o : Option BaseFrom) → static_from is place route.via ≡ o → cond b (option_map (λ from. record { prefix = route.prefix; distance = route.distance; from = from }) o) None ≡ Some row → LeadsBy is place row.from
    by_test false o is_from e = absurd (cc)
    by_test true None is_from e = absurd (cc)
    by_test true (Some from) is_from e =
        let same : from ≡ row.from = ap (λ (o : Option BaseRow). option_map_or (λ r. r.from) o from) e in
        subst (LeadsBy is place) same (static_leads is place route.via from is_from)

-- ---- rows of a base table

-- a row of an interface that is up, or of a static route that can be used
pub data IsMadeBy (c : ConfigView) : BaseRow → Type 0 where
  connected : (row : BaseRow) (place : ℕ) → IsUp c.interfaces place → row.from ≡ Connected (record { 0 = place }) → IsMadeBy c row
  static : (row : BaseRow) (place : ℕ) (route : StaticRoute) → slice_get c.statics place ≡ Some route → static_row c.interfaces place route ≡ Some row → IsMadeBy c row

-- a row of one of some interfaces, the first of which has this place
record IsConnected (place : ℕ) (is : List Interface) (row : BaseRow) : Type 0 where
  k : ℕ
  interface : Interface
  at : slice_get is k ≡ Some interface
  up : is_some (up_of interface) ≡ true
  from : row.from ≡ Connected (record { 0 = place + k })

connected_later : (place : ℕ) (i : Interface) (is : List Interface) (row : BaseRow) → IsConnected (place + 1) is row → IsConnected place (i ∷ is) row
connected_later place i is row r =
    let e : (place + 1) + r.k ≡ place + suc r.k = omega arith in
    record { k = suc r.k; interface = r.interface; at = r.at; up = r.up; from = subst (λ (n : ℕ). row.from ≡ Connected (record { 0 = n })) e r.from }

is_connected : (place : ℕ) (is : List Interface) (row : BaseRow) → In row (connected_from place is) → IsConnected place is row
is_connected place [] row h = absurd h
is_connected place (i ∷ is) row h = by_up (is_connected (place + 1) is row) (up_of i) refl h
  where
    by_up : (In row (connected_from (place + 1) is) → IsConnected (place + 1) is row) → (o : Option IfaceAddr) → up_of i ≡ o
        → In row (option_map_or (λ a. record { prefix = a.prefix; distance = 0; from = Connected (record { 0 = place }) } ∷ connected_from (place + 1) is) o (connected_from (place + 1) is)) → IsConnected place (i ∷ is) row
    by_up rest None e j = connected_later place i is row (rest j)
    by_up rest (Some a) e (inl same) =
        let first : place + 0 ≡ place = omega arith in
        record {
          k = zero;
          interface = i;
          at = refl;
          up = ap is_some e;
          from = subst (λ (n : ℕ). row.from ≡ Connected (record { 0 = n })) (sym first) (sym (ap (λ (r : BaseRow). r.from) same));
        }
    by_up rest (Some a) e (inr j) = connected_later place i is row (rest j)

-- a row of one of some static routes, the first of which has this place
record IsStatic (is : List Interface) (place : ℕ) (ss : List StaticRoute) (row : BaseRow) : Type 0 where
  k : ℕ
  route : StaticRoute
  at : slice_get ss k ≡ Some route
  made : static_row is (place + k) route ≡ Some row

static_later : (is : List Interface) (place : ℕ) (s : StaticRoute) (ss : List StaticRoute) (row : BaseRow) → IsStatic is (place + 1) ss row → IsStatic is place (s ∷ ss) row
static_later is place s ss row r =
    let e : (place + 1) + r.k ≡ place + suc r.k = omega arith in
    record { k = suc r.k; route = r.route; at = r.at; made = subst (λ (n : ℕ). static_row is n r.route ≡ Some row) e r.made }

is_static : (is : List Interface) (place : ℕ) (ss : List StaticRoute) (row : BaseRow) → In row (statics_from is place ss) → IsStatic is place ss row
is_static is place [] row h = absurd h
is_static is place (s ∷ ss) row h = by_row (is_static is (place + 1) ss row) (static_row is place s) refl h
  where
    by_row : (In row (statics_from is (place + 1) ss) → IsStatic is (place + 1) ss row) → (o : Option BaseRow) → static_row is place s ≡ o → In row (option_map_or (λ r. r ∷ statics_from is (place + 1) ss) o (statics_from is (place + 1) ss)) → IsStatic is place (s ∷ ss) row
    by_row rest None e j = static_later is place s ss row (rest j)
    by_row rest (Some r) e (inl same) =
        let first : place + 0 ≡ place = omega arith in
        record { k = zero; route = s; at = refl; made = subst (λ (n : ℕ). static_row is n s ≡ Some row) (sym first) (e ∙ ap Some same) }
    by_row rest (Some r) e (inr j) = static_later is place s ss row (rest j)

pub row_is_made : (c : ConfigView) (row : BaseRow) → In row (base_table c) → IsMadeBy c row
unfolding base_table
row_is_made c row h =
    by_part (in_either (connected_from 0 c.interfaces) (statics_from c.interfaces 0 c.statics) row
    (in_by_filter (is_nearest (candidates c)) (candidates c) row (in_by_order row_cmp (filter (is_nearest (candidates c)) (candidates c)) row h)).0)
  where
    by_part : In row (connected_from 0 c.interfaces) ⊎ In row (statics_from c.interfaces 0 c.statics) → IsMadeBy c row
    by_part (inl j) =
        let r = is_connected 0 c.interfaces row j in
        let e : 0 + r.k ≡ r.k = omega arith in
        connected row r.k (record { interface = r.interface; at = r.at; up = r.up }) (subst (λ (n : ℕ). row.from ≡ Connected (record { 0 = n })) e r.from)
    by_part (inr j) =
        let r = is_static c.interfaces 0 c.statics row j in
        let e : 0 + r.k ≡ r.k = omega arith in
        static row r.k r.route r.at (subst (λ (n : ℕ). static_row c.interfaces n r.route ≡ Some row) e r.made)
