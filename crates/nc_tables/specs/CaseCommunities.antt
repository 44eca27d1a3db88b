-- Communities: lists of them, what is set, and what a message carries (worked cases community-route and community-not-sent).
use Rattle.std.specs.Prelude.{◌≡◌, ℕ, Bool, true, false, List, [], ◌∷◌, length, map, Some, None, is_some, codes, refl}
use Rattle.std.specs.List.{range_with_len}
use Rattle.std.specs.List.Sorted.{IsStrictlyIncreasing}
use Rattle.std.proofs.Common.{arith}
use Rattle.nc_types.specs.Config.{ConfigView, ClauseView, CommunityListView}
use Rattle.nc_types.specs.Communities.{gather, union, holds_all, IsSmallSet}
use Rattle.nc_types.specs.Setting.{deciding_community, set_all}
use Rattle.nc_types.specs.declared.communities.CommunityEntry.{CommunityEntry}
use Rattle.nc_types.specs.declared.config.Reference.{Reference}
use Rattle.nc_tables.specs.declared.bgp.Route.{Route}
use Rattle.nc_tables.specs.declared.policy.Names.{Names}
use Rattle.nc_tables.specs.Policy.{Verdict, Permit, verdict}
use Rattle.nc_tables.specs.Rounds.{unnamed, passed, carried}
use Rattle.nc_tables.specs.Cases.{prefix, router, refers}
use Rattle.nc_tables.specs.CasePolicy as policy

-- ---- sets

-- repeats stand once, and all ascend
pub gathered : gather (7 ∷ 3 ∷ 7 ∷ 5 ∷ []) ≡ Some (3 ∷ 5 ∷ 7 ∷ [])
gathered = refl

pub joined : union (1 ∷ 2 ∷ []) (2 ∷ 3 ∷ []) ≡ Some (1 ∷ 2 ∷ 3 ∷ [])
joined = refl

-- 64 are taken, and one more isn't
pub up_to_limit : is_some (gather (range_with_len 1 64)) ∷ is_some (gather (range_with_len 1 65)) ∷ [] ≡ true ∷ false ∷ []
up_to_limit = refl

pub repeats_are_free : is_some (union (range_with_len 1 64) (range_with_len 1 64)) ≡ true
repeats_are_free = refl

-- all members have to be there, and others don't matter
pub members : holds_all (1 ∷ 2 ∷ 3 ∷ []) (1 ∷ 3 ∷ []) ∷ holds_all (1 ∷ 2 ∷ []) (1 ∷ 3 ∷ []) ∷ holds_all (2 ∷ []) [] ∷ [] ≡ true ∷ false ∷ true ∷ []
members = refl

-- a small set ascends, may have 64 members, and no more
pub not_ascending : IsSmallSet (2 ∷ 1 ∷ []) → ⊥
not_ascending s = omega (arith, s.ascends 0 (omega arith))

pub few_enough : (set : List ℕ) → IsStrictlyIncreasing set → length set ≡ 64 → IsSmallSet set
few_enough set ascends e = record { ascends = ascends; few = omega (arith, e) }

pub past_limit : IsSmallSet (range_with_len 1 65) → ⊥
past_limit s = omega (arith, s.few)

-- ---- lists

abbrev pub entry : Bool → List ℕ → CommunityEntry
entry permit members = record { permit = permit; members = members; element = 0 }

-- C denies 9 and permits 7; D permits what has 1 and 2
abbrev pub lists : List CommunityListView
lists =
    record { name = codes "C"; entries = entry false (9 ∷ []) ∷ entry true (7 ∷ []) ∷ [] }
    ∷ record { name = codes "D"; entries = entry true (1 ∷ 2 ∷ []) ∷ [] } ∷ []

-- the first entry whose members are all there decides
pub first_decides : map (λ held. deciding_community held (entry false (9 ∷ []) ∷ entry true (7 ∷ []) ∷ [])) ((7 ∷ []) ∷ (7 ∷ 9 ∷ []) ∷ (8 ∷ []) ∷ []) ≡ Some 1 ∷ Some 0 ∷ None ∷ []
first_decides = refl

-- ---- clauses

abbrev pub with_communities : List ℕ → Route
with_communities held = record (policy.route (prefix 10 9 0 0 16) 0) { communities = held }

-- a clause that names prefix lists and community lists
abbrev pub matching : List Reference → List Reference → ClauseView
matching prefixes communities = record (policy.clause 10 prefixes None) { community_lists = communities }

abbrev pub asked : ClauseView → ConfigView
asked clause = record (router [] [] None (clause ∷ []) (policy.mapped.lists)) { community_lists = lists }

abbrev pub verdict_of : ClauseView → List ℕ → Verdict
verdict_of clause held = verdict (asked clause) (codes "OUT") (with_communities held)

-- an entry of a community list, by both places
abbrev pub by_community : ℕ → ℕ → Names
by_community list place = record { entry = None; community = Some (record { list = list; entry = place }) }

pub permitted : verdict_of (matching [] (refers (codes "C") ∷ [])) (7 ∷ []) ≡ Permit (with_communities (7 ∷ [])) 0 (by_community 0 1)
unfolding verdict
permitted = refl

-- the entry that denies stands first, none is of the communities, or one of the members is missing
pub not_permitted : map (λ held. policy.is_denied (verdict_of (matching [] (refers (codes "C") ∷ refers (codes "D") ∷ [])) held)) ((7 ∷ 9 ∷ []) ∷ (8 ∷ []) ∷ (1 ∷ []) ∷ []) ≡ true ∷ true ∷ true ∷ []
unfolding verdict
not_permitted = refl

-- where one list denies the next is asked, and is named
pub next_list : verdict_of (matching [] (refers (codes "C") ∷ refers (codes "D") ∷ [])) (1 ∷ 2 ∷ 9 ∷ []) ≡ Permit (with_communities (1 ∷ 2 ∷ 9 ∷ [])) 0 (by_community 1 0)
unfolding verdict
next_list = refl

-- of two lists that permit, the first that is mentioned is named
pub first_mentioned : verdict_of (matching [] (refers (codes "D") ∷ refers (codes "C") ∷ [])) (1 ∷ 2 ∷ 7 ∷ []) ≡ Permit (with_communities (1 ∷ 2 ∷ 7 ∷ [])) 0 (by_community 1 0)
unfolding verdict
first_mentioned = refl

-- both kinds have to permit, and both entries are named
pub both_kinds : verdict_of (matching (refers (codes "A") ∷ []) (refers (codes "C") ∷ [])) (7 ∷ [])
    ≡ Permit (with_communities (7 ∷ [])) 0 (record { entry = Some (record { list = 0; entry = 0 }); community = Some (record { list = 0; entry = 1 }) })
unfolding verdict
both_kinds = refl

pub one_kind_alone : map policy.is_denied (verdict_of (matching (refers (codes "B") ∷ []) (refers (codes "C") ∷ [])) (7 ∷ []) ∷ verdict_of (matching (refers (codes "A") ∷ []) (refers (codes "C") ∷ [])) (8 ∷ []) ∷ [])
    ≡ true ∷ true ∷ []
unfolding verdict
one_kind_alone = refl

-- what a map lets pass goes on with the clause and with both entries
pub let_pass : passed (asked (matching (refers (codes "A") ∷ []) (refers (codes "C") ∷ []))) (Some (refers (codes "OUT"))) (with_communities (7 ∷ []))
    ≡ Some (record { route = with_communities (7 ∷ []); clause = Some 0; names = record { entry = Some (record { list = 0; entry = 0 }); community = Some (record { list = 0; entry = 1 }) } })
unfolding verdict
let_pass = refl

-- ---- what is set

abbrev pub setting : List ℕ → Bool → ClauseView
setting values additive = record (policy.clause 10 [] None) { communities = Some (record { values = values; additive = additive }) }

-- in place of what was there, or beside it
pub replaced : verdict_of (setting (5 ∷ []) false) (7 ∷ []) ≡ Permit (with_communities (5 ∷ [])) 0 unnamed
unfolding verdict
replaced = refl

pub added : verdict_of (setting (5 ∷ 7 ∷ []) true) (7 ∷ 9 ∷ []) ≡ Permit (with_communities (5 ∷ 7 ∷ 9 ∷ [])) 0 unnamed
unfolding verdict
added = refl

pub unset : set_all None (7 ∷ []) ≡ 7 ∷ []
unset = refl

-- 64 communities are carried, and with one more the route is dropped
pub full : map policy.is_denied (verdict_of (setting (1 ∷ []) true) (range_with_len 1 64) ∷ verdict_of (setting (99 ∷ []) true) (range_with_len 1 64) ∷ []) ≡ false ∷ true ∷ []
unfolding verdict
full = refl

-- ---- what a message carries

pub carried_or_not : map (λ send. (carried send (with_communities (7 ∷ []))).communities) (true ∷ false ∷ []) ≡ (7 ∷ []) ∷ [] ∷ []
carried_or_not = refl
