-- Policy and choice: worked cases route-map-list-entries and of two candidates that are equally good.
use Rattle.std.specs.Prelude.{◌≡◌, ℕ, Bool, true, false, List, [], ◌∷◌, map, Option, Some, None, is_some, codes, refl}
use Rattle.std.specs.List.{range_with_len}
use Rattle.nc_types.specs.Cidr.{Cidr}
use Rattle.nc_types.specs.Config.{ConfigView, ClauseView, PrefixListView}
use Rattle.nc_types.specs.declared.config.Reference.{Reference}
use Rattle.nc_types.specs.declared.config.OriginCode.TheVariants.{Igp, Incomplete}
use Rattle.nc_tables.specs.declared.bgp.Route.{Route}
use Rattle.nc_tables.specs.declared.bgp.Chosen.{Chosen}
use Rattle.nc_tables.specs.declared.bgp.BgpFrom.TheVariants.{Entry}
use Rattle.nc_tables.specs.declared.policy.Names.{Names}
use Rattle.nc_tables.specs.Policy.{Verdict, Deny, Permit, verdict, is_of, deciding_entry, permitting_prefix}
use Rattle.nc_tables.specs.Rounds.{unnamed}
use Rattle.nc_tables.specs.Choice.{choose, preference_cmp}
use Rattle.nc_tables.specs.Cases.{address, prefix, router, refers}

-- ---- a map of two clauses over two lists

abbrev pub clause : ℕ → List Reference → Option ℕ → ClauseView
clause number lists metric =
    record { map_name = codes "OUT"; number = number; permit = true; lists = lists; community_lists = []; preference = None; metric = metric; prepend = []; origin = None; communities = None; element = 0 }

abbrev pub mapped : ConfigView
mapped =
    router [] [] None
    (clause 10 (refers (codes "A") ∷ []) None ∷ clause 20 (refers (codes "A") ∷ refers (codes "B") ∷ []) (Some 50) ∷ [])
    (record { name = codes "A"; entries = record { seq = 5; permit = true; prefix = prefix 10 9 0 0 16; low = 16; high = 16; line = 0; element = 0 } ∷ [] }
    ∷ record {
      name = codes "B";
      entries = record { seq = 5; permit = false; prefix = prefix 10 1 1 0 24; low = 24; high = 24; line = 0; element = 0 } ∷ record { seq = 10; permit = true; prefix = prefix 10 1 0 0 16; low = 16; high = 24; line = 0; element = 0 } ∷ [];
    } ∷ [])

-- the entry of a prefix list by which a clause matched, by both places
abbrev pub by_entry : ℕ → ℕ → Names
by_entry list entry = record { entry = Some (record { list = list; entry = entry }); community = None }

-- whether a verdict denies
abbrev pub is_denied : Verdict → Bool
is_denied Deny = true
is_denied (Permit r place names) = false

abbrev pub route : Cidr → ℕ → Route
route p metric = record { prefix = p; path = []; next_hop = record { 0 = 0 }; preference = 100; metric = metric; origin = Igp; communities = [] }

pub second_clause : verdict mapped (codes "OUT") (route (prefix 10 1 0 0 24) 0) ≡ Permit (route (prefix 10 1 0 0 24) 50) 1 (by_entry 1 1)
unfolding verdict
second_clause = refl

pub denied : verdict mapped (codes "OUT") (route (prefix 10 1 1 0 24) 0) ≡ Deny
unfolding verdict
denied = refl

pub first_clause : verdict mapped (codes "OUT") (route (prefix 10 9 0 0 16) 0) ≡ Permit (route (prefix 10 9 0 0 16) 0) 0 (by_entry 0 0)
unfolding verdict
first_clause = refl

-- ---- entries and lists

-- an entry of 10.1.0.0/16 for the lengths 20 to 24, and one that denies behind it
abbrev pub ranged : PrefixListView
ranged =
    record {
      name = codes "R";
      entries = record { seq = 5; permit = true; prefix = prefix 10 1 0 0 16; low = 20; high = 24; line = 0; element = 0 } ∷ record { seq = 10; permit = false; prefix = prefix 10 0 0 0 8; low = 8; high = 32; line = 0; element = 0 } ∷ [];
    }

abbrev pub permitted : List Cidr → List Bool
permitted ps = map (λ p. is_some (permitting_prefix p ranged.entries)) ps

-- both bounds are permitted, and one bit less or more isn't
pub bounds : permitted (prefix 10 1 0 0 19 ∷ prefix 10 1 16 0 20 ∷ prefix 10 1 1 0 24 ∷ prefix 10 1 1 0 25 ∷ []) ≡ false ∷ true ∷ true ∷ false ∷ []
bounds = refl

-- another network isn't permitted, also where no entry is of it
pub elsewhere : permitted (prefix 10 2 0 0 24 ∷ prefix 11 1 0 0 24 ∷ []) ≡ false ∷ false ∷ []
elsewhere = refl

-- the first entry that is of a prefix decides, by its place: here the one that permits, then none
pub deciding_entries : deciding_entry (is_of (prefix 10 1 1 0 24)) ranged.entries ∷ deciding_entry (is_of (prefix 10 2 0 0 24)) ranged.entries ∷ deciding_entry (is_of (prefix 11 0 0 0 8)) ranged.entries ∷ []
    ≡ Some 0 ∷ Some 1 ∷ None ∷ []
deciding_entries = refl

-- ---- clauses

-- clauses of two maps, not in order of their numbers; the last has no list
abbrev pub setting : ℕ → Bool → List Reference → List ℕ → ClauseView
setting number permit lists numbers = record (clause number lists (Some number)) { permit = permit; preference = Some 7; prepend = numbers; origin = Some Incomplete }

abbrev pub unordered : ConfigView
unordered =
    router [] [] None
    (setting 40 true [] (64 ∷ 65 ∷ []) ∷ record (setting 5 true [] []) { map_name = codes "IN" } ∷ setting 30 false (refers (codes "B") ∷ []) []
    ∷ setting 20 true (refers (codes "C") ∷ refers (codes "B") ∷ refers (codes "A") ∷ []) [] ∷ [])
    (mapped.lists)

-- the least number of the map's clauses that match, with all that it sets and the first of its lists that permits, in order of mention
pub least_number : verdict unordered (codes "OUT") (route (prefix 10 9 0 0 16) 0)
    ≡ Permit (record { prefix = prefix 10 9 0 0 16; path = []; next_hop = record { 0 = 0 }; preference = 7; metric = 20; origin = Incomplete; communities = [] }) 3 (by_entry 0 0)
unfolding verdict
least_number = refl

-- the prefix is permitted by both clauses that stand in front, of which the lower number decides
pub lower_permits : verdict unordered (codes "OUT") (route (prefix 10 1 0 0 24) 0)
    ≡ Permit (record { prefix = prefix 10 1 0 0 24; path = []; next_hop = record { 0 = 0 }; preference = 7; metric = 20; origin = Incomplete; communities = [] }) 3 (by_entry 1 1)
unfolding verdict
lower_permits = refl

-- a clause without lists matches, and names none; its numbers go before the path in their order
pub without_lists : verdict unordered (codes "OUT") (record (route (prefix 11 0 0 0 8) 0) { path = 9 ∷ [] })
    ≡ Permit (record { prefix = prefix 11 0 0 0 8; path = 64 ∷ 65 ∷ 9 ∷ []; next_hop = record { 0 = 0 }; preference = 7; metric = 40; origin = Incomplete; communities = [] }) 0 unnamed
unfolding verdict
without_lists = refl

-- a clause that denies decides too
abbrev pub denying : ConfigView
denying = router [] [] None (setting 30 false (refers (codes "A") ∷ []) [] ∷ setting 40 true [] [] ∷ []) (mapped.lists)

pub denied_by_clause : verdict denying (codes "OUT") (route (prefix 10 9 0 0 16) 0) ≡ Deny
unfolding verdict
denied_by_clause = refl

-- no map of the name: denied
pub no_map : verdict unordered (codes "NONE") (route (prefix 10 9 0 0 16) 0) ≡ Deny
unfolding verdict
no_map = refl

-- a path may have 250 numbers with those that are set, and no more
pub path_of_limit : is_denied (verdict unordered (codes "OUT") (record (route (prefix 11 0 0 0 8) 0) { path = range_with_len 1 248 })) ≡ false
unfolding verdict
path_of_limit = refl

pub path_past_limit : is_denied (verdict unordered (codes "OUT") (record (route (prefix 11 0 0 0 8) 0) { path = range_with_len 1 249 })) ≡ true
unfolding verdict
path_past_limit = refl

-- ---- two candidates from one router, by two neighbors

abbrev pub learnt : ℕ → ℕ → ℕ → Chosen
learnt place asn sender =
    record {
      route = record { prefix = prefix 10 1 0 0 24; path = asn ∷ []; next_hop = record { 0 = sender }; preference = 100; metric = 0; origin = Igp; communities = [] };
      from = Entry place;
      internal = false;
      sender_id = record { 0 = address 10 1 0 1 };
      sender = record { 0 = sender };
    }

abbrev pub both : List Chosen
both = learnt 0 65001 (address 10 0 13 1) ∷ learnt 1 65001 (address 10 0 12 1) ∷ []

abbrev pub two_systems : List Chosen
two_systems = learnt 0 65001 (address 10 0 13 1) ∷ learnt 1 65003 (address 10 0 12 1) ∷ []

-- the lower sender comes first, and the other is used with it
pub lower_sender : choose both 2 false ≡ 1 ∷ 0 ∷ []
unfolding choose preference_cmp
lower_sender = refl

pub one_at_most : choose both 1 false ≡ 1 ∷ []
unfolding choose preference_cmp
one_at_most = refl

-- with another path only where paths of one length are enough
pub other_path : choose two_systems 2 false ≡ 1 ∷ []
unfolding choose preference_cmp
other_path = refl

pub relaxed : choose two_systems 2 true ≡ 1 ∷ 0 ∷ []
unfolding choose preference_cmp
relaxed = refl
