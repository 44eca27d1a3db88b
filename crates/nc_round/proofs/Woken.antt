-- What rows that changed wake, and the rows that routers begin: all that a round can change.
use Rattle.std.proofs.Common.{◌≡◌, ◌⊎◌, ℕ, zero, suc, ◌+◌, ◌<◌, ◌≤◌, Bool, true, false, cond, ◌==◌, List, [], ◌∷◌, length, map, get_or, All, Contains, Option, Some, None, IfSome, refl, sym, ap, subst, ◌∙◌, arith, inl, inr}
use Rattle.std.specs.List.{find, list_any, slice_get, slice_index_or}
use Rattle.std.specs.Option.{option_and_then}
use Rattle.std.specs.declared.cmp.Ordering.TheVariants.{Less}
use Rattle.std.proofs.lemmas.Bool.{cases_lt, eqb-true}
use Rattle.std.proofs.lemmas.List.{get_or_past, length-map}
use Rattle.nc_types.specs.Cidr.{Cidr, same_prefix}
use Rattle.nc_types.specs.Config.{ConfigView, ProcessView}
use Rattle.nc_types.specs.WellFormed.{IsWellFormed, IsProcess}
use Rattle.nc_types.specs.declared.config.AggregateStatement.{AggregateStatement}
use Rattle.nc_types.proofs.Members.{In, in_left, in_right, in_either, in_map, in_by_map, in_by_get, in_by_contains, contains_by_in, all_in, all_by_in, in_by_filter_map, passes_some, some_passes}
use Rattle.nc_types.proofs.Sameness.{same_prefix_is}
use Rattle.nc_tables.specs.declared.bgp.SessionRow.{SessionRow}
use Rattle.nc_tables.specs.LocRibs.{AreChosen}
use Rattle.nc_tables.specs.Rounds.{BgpRowView, chosen_in, chosen_at, is_longer_in, session_by, entry_at, chosen_anew, prefixes_in, no_routes}
use Rattle.nc_tables.specs.Sessions.{process_of}
use Rattle.nc_tables.proofs.ByPrefix.{same_itself}
use Rattle.nc_message.specs.declared.inputs.RoutingInputs.{RoutingInputs}
use Rattle.nc_round.specs.Keys.{Key, key, key_cmp, AreInOrder}
use Rattle.nc_round.specs.Rows.{row_among, rows_among}
use Rattle.nc_message.specs.Inputs.{AreRoutingInputs}
use Rattle.nc_decision.specs.BestPath.{leaves_best_path}
use Rattle.nc_decision.proofs.Beside.{same_beside}
use Rattle.nc_round.specs.Next.{next_of}
use Rattle.nc_round.specs.Waking.{aggregates_of, begun_from, IsWoken}
use Rattle.nc_round.specs.Changes.{IsRoundOver}
use Rattle.nc_round.specs.Renewing.{AreEnough}
use Rattle.nc_round.proofs.Lists.{among, all_made, in_filter_map, pairs_made}
use Rattle.nc_round.proofs.Alike.{aggregates_alike, entry_alike}
use Rattle.nc_round.proofs.KeyOrder.{same_key, same_key_is, key_itself}
use Rattle.nc_round.proofs.NextRows.{nothing_anew}
use Rattle.nc_round.proofs.NextOf.{made_count, beyond_chosen, others_none, inside_anew}

pub found_in : {X : Type 0} (test : X → Bool) (xs : List X) (x : X) → find test xs ≡ Some x → In x xs
found_in test [] x e = absurd cc
found_in test (y ∷ ys) x e = on (test y) (found_in test ys x) e
  where
    on : (b : Bool) → (find test ys ≡ Some x → In x ys) → cond b (Some y) (find test ys) ≡ Some x → In x (y ∷ ys)
    on true rest f = inl cc
    on false rest f = inr (rest f)

found_passes : {X : Type 0} (test : X → Bool) (xs : List X) (x : X) → find test xs ≡ Some x → test x ≡ true
found_passes test [] x e = absurd cc
found_passes test (y ∷ ys) x e = on (test y) refl (found_passes test ys x) e
  where
    on : (b : Bool) → test y ≡ b → (find test ys ≡ Some x → test x ≡ true) → cond b (Some y) (find test ys) ≡ Some x → test x ≡ true
    on true passes rest f = let same : y ≡ x = cc in ap test (sym same) ∙ passes
    on false fails rest f = rest f

-- a process uses one route at least
uses_one : (routers : List ConfigView) → All IsWellFormed routers → (router : ℕ) (p : ProcessView) → process_of routers router ≡ Some p → 0 < p.max_paths
uses_one routers formed router p e = on (slice_get routers router) refl e
  where
    of_process : (o : Option ProcessView) → IfSome o IsProcess → o ≡ Some p → 0 < p.max_paths
    of_process None is f = absurd cc
    of_process (Some q) is f = let same : q ≡ p = cc in let some : 1 ≤ p.max_paths = subst (λ (r : ProcessView). 1 ≤ r.max_paths) same is.paths.0 in omega arith

    on : (o : Option ConfigView) → slice_get routers router ≡ o → option_and_then (λ (c : ConfigView). c.process) o ≡ Some p → 0 < p.max_paths
    on None is f = absurd cc
    on (Some c) is f = of_process c.process (all_in IsWellFormed routers formed c (in_by_get routers router c is)).process f

-- ---- what changed

module _ (i : RoutingInputs) (prefixes : List Cidr) (before table : List (List BgpRowView)) (changed rows : List Key)
    (are : AreRoutingInputs i) (formed : All IsWellFormed i.network.now) (rows_table : All AreChosen table) (made : IsRoundOver i.network.now i.base.now i.sessions.now prefixes before table changed) where
  abbrev routers : List ConfigView
  routers = i.network.now

  pub table_count : length table ≡ length routers
  table_count = ap length made.made ∙ made_count prefixes routers i.base.now i.sessions.now before

  -- nothing stands beyond the routers
  none_beyond : (t : List (List BgpRowView)) → length t ≡ length routers → (router : ℕ) (p : Cidr) → length routers ≤ router → chosen_at t router p ≡ []
  none_beyond t count router p le = ap (λ (ts : List BgpRowView). chosen_in ts p) (get_or_past t router [] (omega arith))

  pub changed_within : All (λ (k : Key). k.0.0 < length routers) changed
  changed_within k d lt = elim (cases_lt (get_or changed k d).0.0 (length routers)) [
    | inl less ↦ less
    | inr le ↦
        let at = get_or changed k d in
        absurd (made.difference.differ k d lt (none_beyond before made.count at.0.0 at.1 le ∙ sym (none_beyond table table_count at.0.0 at.1 le)))
  ]

  known : (router : ℕ) (p : Cidr) → (In p prefixes → ⊥) → chosen_at table router p ≡ []
  known router p none = ap (λ (t : List (List BgpRowView)). chosen_at t router p) made.made ∙ others_none prefixes routers i.base.now i.sessions.now before router p none

  module _ (router : ℕ) (p : Cidr) (none : IsWoken i table changed router p → ⊥) where
    abbrev idle_at : ℕ → Bool
    idle_at place = leaves_best_path routers i.base.now i.sessions.now table router place p

    abbrev sessions_there : List SessionRow
    sessions_there = slice_index_or i.sessions.now router []

    abbrev Stays : ℕ → Type 0
    Stays place = (entry_at routers i.base.now i.sessions.now before router place p ≡ entry_at routers i.base.now i.sessions.now table router place p) ⊎ (idle_at place ≡ true)

    -- a row that changed, but isn't heard, says nothing that counts
    idle_there : (s : SessionRow) → In s sessions_there → In (key s.peer.0 p) changed → (b : Bool) → idle_at s.neighbor ≡ b → idle_at s.neighbor ≡ true
    idle_there s own row true e = e
    idle_there s own row false e = absurd (none (inl (record { session = s; own = contains_by_in sessions_there s own; row = contains_by_in changed (key s.peer.0 p) row; counts = e })))

    entry_stays : (place : ℕ) → Stays place
    entry_stays place = on (session_by i.sessions.now router place) refl
      where
        over : (s : SessionRow) → session_by i.sessions.now router place ≡ Some s → In (key s.peer.0 p) changed ⊎ (In (key s.peer.0 p) changed → ⊥) → Stays place
        over s e (inl row) =
            let own = found_in (λ (x : SessionRow). x.neighbor == place) sessions_there s e in
            let same : s.neighbor ≡ place = eqb-true s.neighbor place (found_passes (λ (x : SessionRow). x.neighbor == place) sessions_there s e) in
            inr (subst (λ (n : ℕ). idle_at n ≡ true) same (idle_there s own row (idle_at s.neighbor) refl))
        over s e (inr out) =
            inl (entry_alike routers i.base.now i.sessions.now before table router p place (λ t f.
            let same : s ≡ t = cc in
            subst (λ (x : SessionRow). chosen_at before x.peer.0 p ≡ chosen_at table x.peer.0 p) same (made.difference.all s.peer.0 p (λ some. out (in_by_contains changed (key s.peer.0 p) some)))))

        on : (o : Option SessionRow) → session_by i.sessions.now router place ≡ o → Stays place
        on None e = inl (entry_alike routers i.base.now i.sessions.now before table router p place (λ t f. absurd cc))
        on (Some s) e = over s e (among same_key same_key_is key_itself (key s.peer.0 p) changed)

    inside_alike : (a : AggregateStatement) (q : Cidr) → Contains (aggregates_of routers router) a → same_prefix a.prefix p ≡ true → is_longer_in q a.prefix ≡ true → chosen_at before router q ≡ chosen_at table router q
    inside_alike a q some same longer =
        made.difference.all router q (λ row. none (inr (record { aggregate = a; inside = q; own = some; same = same_prefix_is a.prefix p same; longer = longer; row = row })))

    -- a row that is not woken is made of what didn't change, and of what doesn't count
    anew_stays : chosen_at table router p ≡ chosen_anew routers i.base.now i.sessions.now before router p → chosen_anew routers i.base.now i.sessions.now before router p ≡ chosen_anew routers i.base.now i.sessions.now table router p
    anew_stays stands =
        same_beside routers i.base.now i.sessions.now before table router p (uses_one routers formed router) stands
        (aggregates_alike routers i.base.now i.sessions.now before table router p made.some (λ k d lt. (rows_table k d lt).some) inside_alike) entry_stays

  stays : (router : ℕ) (p : Cidr) → (router < length routers → IsWoken i table changed router p → ⊥) → chosen_at table router p ≡ chosen_at (next_of prefixes i table) router p
  stays router p none = elim (cases_lt router (length routers)) [
    | inl lt ↦ by_prefix lt (among same_prefix same_prefix_is same_itself p prefixes)
    | inr le ↦ none_beyond table table_count router p le ∙ sym (beyond_chosen prefixes routers i.base.now i.sessions.now table router p le)
  ]
    where
      by_prefix : router < length routers → In p prefixes ⊎ (In p prefixes → ⊥) → chosen_at table router p ≡ chosen_at (next_of prefixes i table) router p
      by_prefix lt (inl j) =
          let stands : chosen_at table router p ≡ chosen_anew routers i.base.now i.sessions.now before router p =
          ap (λ (t : List (List BgpRowView)). chosen_at t router p) made.made ∙ inside_anew prefixes routers i.base.now i.sessions.now before router p lt j in
          stands ∙ anew_stays router p (none lt) stands ∙ sym (inside_anew prefixes routers i.base.now i.sessions.now table router p lt j)
      by_prefix lt (inr out) = known router p out ∙ sym (others_none prefixes routers i.base.now i.sessions.now table router p out)

  -- these rows are enough
  pub enough : AreInOrder rows → All (λ (k : Key). k.0.0 < length routers) rows → ((router : ℕ) (p : Cidr) → router < length routers → IsWoken i table changed router p → Contains rows (key router p))
      → AreEnough i prefixes table rows
  enough up within woken = record {
    count = table_count;
    known = λ router p none. known router p (λ j. none (contains_by_in prefixes p j));
    ordered = up;
    within = within;
    others = λ router p none. stays router p (λ lt is. none (woken router p lt is));
  }

-- ---- the first round

itself_among : (prefixes : List Cidr) (k x : Key) → row_among prefixes k ≡ Some x → k ≡ x
itself_among prefixes k x e = on (list_any (same_prefix k.1) prefixes) e
  where
    on : (b : Bool) → cond {A = Option Key} b (Some k) None ≡ Some x → k ≡ x
    on true f = cc
    on false f = absurd cc

pub is_among : (prefixes : List Cidr) (k : Key) → In k.1 prefixes → row_among prefixes k ≡ Some k
is_among prefixes k i = ap (λ (b : Bool). cond {A = Option Key} b (Some k) None) (passes_some (same_prefix k.1) prefixes k.1 i (same_itself k.1))

pub not_among : (prefixes : List Cidr) (k : Key) → (Contains prefixes k.1 → ⊥) → row_among prefixes k ≡ None
not_among prefixes k out = on (list_any (same_prefix k.1) prefixes) refl
  where
    on : (b : Bool) → list_any (same_prefix k.1) prefixes ≡ b → cond {A = Option Key} b (Some k) None ≡ None
    on true e =
        let at = some_passes (same_prefix k.1) prefixes e in
        absurd (out (contains_by_in prefixes k.1 (subst (λ (p : Cidr). In p prefixes) (sym (same_prefix_is k.1 at.0 at.2)) at.1)))
    on false e = refl

pub begun_is : (number : ℕ) (routers : List ConfigView) (k : ℕ) (c : ConfigView) (router : ℕ) (p : Cidr) → number + k ≡ router → slice_get routers k ≡ Some c → In p (prefixes_in c) → In (key router p) (begun_from number routers)
begun_is number [] k c router p e f j = absurd cc
begun_is number (x ∷ xs) zero c router p e f j =
    let same : x ≡ c = cc in
    let number_is : number ≡ router = omega arith in
    in_left (map (λ (q : Cidr). key number q) (prefixes_in x)) (begun_from (suc number) xs) (key router p)
    (subst (λ (n : ℕ). In (key n p) (map (λ (q : Cidr). key number q) (prefixes_in x))) number_is (in_map (λ (q : Cidr). key number q) (prefixes_in x) p (subst (λ (y : ConfigView). In p (prefixes_in y)) (sym same) j)))
begun_is number (x ∷ xs) (suc k) c router p e f j = in_right (map (λ (q : Cidr). key number q) (prefixes_in x)) (begun_from (suc number) xs) (key router p) (begun_is (suc number) xs k c router p (omega arith) f j)

pub begun_within : (number : ℕ) (routers : List ConfigView) (k : Key) → In k (begun_from number routers) → k.0.0 < number + length routers
begun_within number [] k j = absurd j
begun_within number (x ∷ xs) k j = on (begun_within (suc number) xs k) (in_either (map (λ (q : Cidr). key number q) (prefixes_in x)) (begun_from (suc number) xs) k j)
  where
    on : (In k (begun_from (suc number) xs) → k.0.0 < suc number + length xs) → In k (map (λ (q : Cidr). key number q) (prefixes_in x)) ⊎ In k (begun_from (suc number) xs) → k.0.0 < number + suc (length xs)
    on rest (inl h) = let q = in_by_map (λ (q : Cidr). key number q) (prefixes_in x) k h in let same : number ≡ k.0.0 = ap (λ (y : Key). y.0.0) q.2 in omega arith
    on rest (inr h) = let lt : k.0.0 < suc number + length xs = rest h in omega arith

pub none_there : (cs : List ConfigView) (router : ℕ) (p : Cidr) → chosen_at (no_routes cs) router p ≡ []
none_there [] router p = refl
none_there (c ∷ cs) zero p = refl
none_there (c ∷ cs) (suc router) p = none_there cs router p

module _ (i : RoutingInputs) (prefixes : List Cidr) where
  abbrev none_yet : List (List BgpRowView)
  none_yet = no_routes i.network.now

  -- from no route anywhere a round makes those rows alone that routers begin themselves
  first_others : (router : ℕ) (p : Cidr) → (In (key router p) (rows_among prefixes (begun_from 0 i.network.now)) → ⊥) → chosen_at none_yet router p ≡ chosen_at (next_of prefixes i none_yet) router p
  first_others router p none = none_there i.network.now router p ∙ sym (elim (cases_lt router (length i.network.now)) [
    | inl lt ↦ by_prefix lt (among same_prefix same_prefix_is same_itself p prefixes)
    | inr le ↦ beyond_chosen prefixes i.network.now i.base.now i.sessions.now none_yet router p le
  ])
    where
      by_prefix : router < length i.network.now → In p prefixes ⊎ (In p prefixes → ⊥) → chosen_at (next_of prefixes i none_yet) router p ≡ []
      by_prefix lt (inl inside) =
          inside_anew prefixes i.network.now i.base.now i.sessions.now none_yet router p lt inside
          ∙ nothing_anew i.network.now i.base.now i.sessions.now none_yet router p (λ peer. none_there i.network.now peer p)
          (λ c e j. none (in_filter_map (row_among prefixes) (begun_from 0 i.network.now) (key router p) (key router p) (begun_is 0 i.network.now router c router p (omega arith) e j) (is_among prefixes (key router p) inside)))
      by_prefix lt (inr out) = others_none prefixes i.network.now i.base.now i.sessions.now none_yet router p out

  pub first_enough : (keys : List Key) → AreInOrder keys → ((k : Key) → Contains keys k → Contains (begun_from 0 i.network.now) k) → ((k : Key) → Contains (begun_from 0 i.network.now) k → Contains keys k)
      → AreEnough i prefixes none_yet (rows_among prefixes keys)
  first_enough keys up to from = record {
    count = length-map i.network.now _;
    known = λ router p none. none_there i.network.now router p;
    ordered = pairs_made (λ (a b : Key). key_cmp a b ≡ Less) (row_among prefixes) (λ (a b : Key). key_cmp a b ≡ Less)
        (λ a b x y e f less. subst (λ (k : Key). key_cmp k y ≡ Less) (itself_among prefixes a x e) (subst (λ (k : Key). key_cmp a k ≡ Less) (itself_among prefixes b y f) less)) keys up;
    within = all_made (λ (k : Key). k.0.0 < length i.network.now) (row_among prefixes) (λ (k : Key). k.0.0 < length i.network.now)
        (λ k x e less. subst (λ (q : Key). q.0.0 < length i.network.now) (itself_among prefixes k x e) less) keys
        (all_by_in (λ (k : Key). k.0.0 < length i.network.now) keys (λ k j. let lt : k.0.0 < 0 + length i.network.now = begun_within 0 i.network.now k (in_by_contains (begun_from 0 i.network.now) k (to k (contains_by_in keys k j))) in omega arith));
    others = λ router p none. first_others router p (λ j. none (contains_by_in (rows_among prefixes keys) (key router p) (back router p j)));
  }
    where
      back : (router : ℕ) (p : Cidr) → In (key router p) (rows_among prefixes (begun_from 0 i.network.now)) → In (key router p) (rows_among prefixes keys)
      back router p j =
          let at = in_by_filter_map (row_among prefixes) (begun_from 0 i.network.now) (key router p) j in
          in_filter_map (row_among prefixes) keys at.0 (key router p) (in_by_contains keys at.0 (from at.0 (contains_by_in (begun_from 0 i.network.now) at.0 at.1))) at.2
