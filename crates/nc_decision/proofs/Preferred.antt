-- The best of candidates, from the last to the first.
use Rattle.std.proofs.Common.{◌≡◌, ℕ, Bool, true, false, not, ◌||◌, ◌==◌, cond, List, [], ◌∷◌, ◌&&◌, length, ◌++◌, ◌+◌, ◌<◌, drop, get_or, Option, Some, None, IfSome, All, option_to_list, slice_index_or, append_assoc, refl, sym, ap, ◌∙◌}
use Rattle.std.specs.Prelude.{MatchOption}
use Rattle.std.specs.Option.{option_map_or}
use Rattle.std.specs.declared.cmp.Ordering.{Ordering}
use Rattle.std.specs.declared.cmp.Ordering.TheVariants.{Less, Equal, Greater}
use Rattle.std.specs.Ordering.{is_gt, is_lt, ordering_reverse}
use Rattle.std.proofs.lemmas.Bool.{and_parts}
use Rattle.std.proofs.lemmas.List.Elements.{All-nil, All-cons, All-head, All-tail}
use Rattle.nc_types.specs.Cidr.{Cidr}
use Rattle.nc_types.specs.Config.{ConfigView, ProcessView}
use Rattle.nc_tables.specs.declared.base.BaseRow.{BaseRow}
use Rattle.nc_tables.specs.declared.bgp.Chosen.{Chosen}
use Rattle.nc_tables.specs.declared.bgp.SessionRow.{SessionRow}
use Rattle.nc_tables.specs.Choice.{is_equal_to, preference_cmp}
use Rattle.nc_tables.specs.Order.{insert, in_order}
use Rattle.nc_types.specs.declared.config.AggregateStatement.{AggregateStatement}
use Rattle.nc_types.specs.declared.config.Neighbor.{Neighbor}
use Rattle.nc_tables.specs.Base.{same_prefix}
use Rattle.nc_tables.specs.declared.bgp.BgpFrom.TheVariants.{Aggregate}
use Rattle.nc_tables.specs.Rounds.{BgpRowView, Link, begun, best_at, candidates_at, chosen_by, entry_at, has_longer, link_at, made_from}
use Rattle.nc_tables.specs.Sessions.{first_of}
use Rattle.nc_message.specs.Inputs.{IsOf}
use Rattle.nc_select.proofs.Ranking.{preference_total}
use Rattle.nc_select.proofs.Unchosen.{chosen_single}
use Rattle.nc_decision.specs.Beginning.{aggregates_of, has_base_row, networks_of}
use Rattle.nc_decision.specs.BestPath.{best_among, best_from, best_with, better_of, is_beaten, stays_beside, IsOutranked}
use Rattle.nc_decision.proofs.Making.{active_alike, made_alike, one_on}
use Rattle.nc_decision.proofs.Outranked.{outranked_cannot_win}

-- ---- one more candidate

first_with : (x : Chosen) (ys : List Chosen) → first_of (insert preference_cmp x ys) ≡ Some (better_of x (first_of ys))
first_with x [] = refl
first_with x (y ∷ ys) = on (is_gt (preference_cmp x y))
  where
    on : (b : Bool) → first_of (cond b (y ∷ insert preference_cmp x ys) (x ∷ y ∷ ys)) ≡ Some (cond b y x)
    on true = refl
    on false = refl

best_more : (x : Chosen) (cs : List Chosen) → best_among (x ∷ cs) ≡ Some (better_of x (best_among cs))
best_more x cs = first_with x (in_order preference_cmp cs)

-- where there may be one more before others
pub best_made : (o : Option Chosen) (cs : List Chosen) → best_among (option_map_or (λ x. x ∷ cs) o cs) ≡ best_with o (best_among cs)
best_made None cs = refl
best_made (Some x) cs = best_more x cs

-- of two lists
pub best_both : (xs ys : List Chosen) → best_among (xs ++ ys) ≡ best_from xs (best_among ys)
best_both [] ys = refl
best_both (x ∷ xs) ys = best_more x (xs ++ ys) ∙ ap (λ (o : Option Chosen). Some (better_of x o)) (best_both xs ys)

-- the last of a list first
pub best_last : (xs : List Chosen) (x : Chosen) (best : Option Chosen) → best_from (xs ++ x ∷ []) best ≡ best_from xs (Some (better_of x best))
best_last [] x best = refl
best_last (y ∷ xs) x best = ap (λ (o : Option Chosen). Some (better_of y o)) (best_last xs x best)

-- ---- the best so far stays, or not

pub stays_with : (x : Chosen) (best : Option Chosen) → option_map_or (λ b. is_gt (preference_cmp x b)) best false ≡ true → best ≡ Some (better_of x best)
stays_with x None e = absurd cc
stays_with x (Some b) e = sym (ap (λ (t : Bool). Some (cond t b x)) e)

pub gives_way : (x : Chosen) (best : Option Chosen) → option_map_or (λ b. is_gt (preference_cmp x b)) best false ≡ false → Some x ≡ Some (better_of x best)
gives_way x None e = refl
gives_way x (Some b) e = sym (ap (λ (t : Bool). Some (cond t b x)) e)

-- where there may be one
pub stays_best : (found best : Option Chosen) → stays_beside found best ≡ true → best ≡ best_with found best
stays_best None best e = refl
stays_best (Some x) best e = stays_with x best e

pub takes_best : (found best : Option Chosen) → stays_beside found best ≡ false → found ≡ best_with found best
takes_best None best e = absurd cc
takes_best (Some x) best e = gives_way x best e

-- what is found of a candidate has its prefix
pub own_found : (found : Option Chosen) (sent : Chosen) (prefix : Cidr) → IfSome found (λ x. x.route.prefix ≡ sent.route.prefix) → sent.route.prefix ≡ prefix → IfSome found (IsOf prefix)
own_found None sent prefix own is = tt
own_found (Some x) sent prefix own is = own ∙ is

not_less : (o p : Ordering) → p ≡ ordering_reverse o → is_lt o ≡ true → is_gt p ≡ true
not_less Less p e f = ap is_gt e
not_less Equal p e f = absurd cc
not_less Greater p e f = absurd cc

-- one that the best beats
beaten_with : (p : ProcessView) (o : Option Chosen) (b : Chosen) → option_map_or (is_beaten p b) o true ≡ true → Some b ≡ best_with o (Some b)
beaten_with p None b e = refl
beaten_with p (Some x) b e =
    let parts = and_parts (is_lt (preference_cmp b x)) ((p.max_paths == 1) || not (is_equal_to p.relax b x)) e in
    sym (ap (λ (t : Bool). Some (cond t b x)) (not_less (preference_cmp b x) (preference_cmp x b) (preference_total.antisymm x b) parts.0))

module _ (routers : List ConfigView) (tables : List (List BaseRow)) (sessions : List (List SessionRow)) (table : List (List BgpRowView)) (router place : ℕ) (prefix : Cidr) (k : Link) (at : link_at routers sessions router place ≡ Some k) (sent : Chosen) (some : best_at table k.session.peer.0 prefix ≡ Some sent) where
  -- what the best outranks isn't taken
  pub outranked_stays : (best : Option Chosen) → MatchOption best (false ≡ true) (λ b. IsOutranked b k sent) → best ≡ best_with (entry_at routers tables sessions table router place prefix) best
  outranked_stays None e = absurd cc
  outranked_stays (Some b) is =
      beaten_with k.receiver.process (entry_at routers tables sessions table router place prefix) b
      (outranked_cannot_win routers tables sessions table router place prefix b k.receiver.process k at sent some is)

-- ---- what holds of each holds of the best

better_own : (P : Chosen → Type 0) (x : Chosen) (best : Option Chosen) → P x → IfSome best P → P (better_of x best)
better_own P x None p own = p
better_own P x (Some b) p own = on (is_gt (preference_cmp x b))
  where
    on : (t : Bool) → P (cond t b x)
    on true = own
    on false = p

pub with_own : (P : Chosen → Type 0) (o best : Option Chosen) → IfSome o P → IfSome best P → IfSome (best_with o best) P
with_own P None best some own = own
with_own P (Some x) best some own = better_own P x best some own

pub from_own : (P : Chosen → Type 0) (xs : List Chosen) (best : Option Chosen) → All P xs → IfSome best P → IfSome (best_from xs best) P
from_own P [] best each own = own
from_own P (x ∷ xs) best each own = better_own P x (best_from xs best) (All-head P x xs each) (from_own P xs best (All-tail P x xs each) own)

pub alone_own : (P : Chosen → Type 0) (best : Option Chosen) → IfSome best P → All P (option_to_list best)
alone_own P None own = All-nil P
alone_own P (Some b) own = All-cons P b [] own (All-nil P)

-- ---- one statement after another

pub best_step : {Y : Type 0} (make : ℕ → Y → Option Chosen) (ys : List Y) (k : ℕ) (y : Y) → y ≡ get_or ys k y → k < length ys
    → best_among (made_from make k (drop k ys)) ≡ best_with (make k y) (best_among (made_from make (k + 1) (drop (k + 1) ys)))
best_step make ys k y read lt = ap best_among (one_on make ys k y read lt) ∙ best_made (make k y) (made_from make (k + 1) (drop (k + 1) ys))

-- ---- all candidates

module _ (routers : List ConfigView) (tables : List (List BaseRow)) (sessions : List (List SessionRow)) (table : List (List BgpRowView)) (router : ℕ) (p : ProcessView) (prefix : Cidr) where
  abbrev networks : List Chosen
  networks = networks_of (has_base_row tables router prefix) prefix p.networks

  abbrev aggregates : List Chosen
  aggregates = aggregates_of (has_longer (slice_index_or table router []) prefix) prefix p.aggregates

  abbrev entries : List Chosen
  entries = made_from (λ place (n : Neighbor). entry_at routers tables sessions table router place prefix) 0 p.neighbors

  candidates_are : networks ++ (aggregates ++ entries) ≡ candidates_at routers tables sessions table router p prefix
  candidates_are =
      ap (λ (l : List Chosen). networks ++ (l ++ entries))
      (made_alike (λ place (a : AggregateStatement). cond (same_prefix a.prefix prefix && has_longer (slice_index_or table router []) prefix) (Some (begun prefix (Aggregate place))) None)
      (λ place a. cond (same_prefix a.prefix prefix && has_longer (slice_index_or table router []) a.prefix) (Some (begun prefix (Aggregate place))) None) (active_alike (slice_index_or table router []) prefix) 0 p.aggregates)

  -- the best of what the router begins and learns is chosen, where one alone is used
  pub best_chosen : p.max_paths ≡ 1 → (own : List Chosen) (learnt best : Option Chosen) → own ≡ networks ++ aggregates → learnt ≡ best_among entries → best ≡ best_from own learnt
      → option_to_list best ≡ chosen_by p (candidates_at routers tables sessions table router p prefix)
  best_chosen single own learnt best begun_is learnt_is best_is =
      ap (λ (o : Option Chosen). option_to_list o)
      (best_is ∙ ap (λ (o : Option Chosen). best_from own o) learnt_is ∙ ap (λ (l : List Chosen). best_from l (best_among entries)) begun_is
      ∙ sym (best_both (networks ++ aggregates) entries) ∙ ap best_among (append_assoc networks aggregates entries ∙ candidates_are))
      ∙ sym (chosen_single p.max_paths p.relax (candidates_at routers tables sessions table router p prefix) single)
