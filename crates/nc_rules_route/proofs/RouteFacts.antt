-- What BGP's facts follow from holds and has a lower rank: of prefixes the longer ones, and of one prefix the lighter routes.
use Rattle.std.proofs.Common.{◌≡◌, ℕ, zero, suc, ◌+◌, ◌-◌, ◌*◌, ◌<◌, ◌≤◌, Bool, true, false, cond, ◌&&◌, nat_lt, List, [], ◌∷◌, ◌++◌, length, filter, All, Option, Some, None, refl, sym, ap, subst, ◌∙◌, arith, inl}
use Rattle.std.specs.List.{list_any, range_with_len, slice_get, slice_index_or}
use Rattle.std.specs.Option.{option_map_or, option_and_then, is_some}
use Rattle.std.proofs.lemmas.Bool.{lt-ltb, ltb-true, and_parts}
use Rattle.std.proofs.lemmas.List.Elements.{All-nil, All-cons, All-append}
use Rattle.std.proofs.lemmas.Option.{option_and_then_some}
use Rattle.nc_types.specs.Cidr.{Cidr, IsCidr}
use Rattle.nc_types.specs.Config.{ConfigView, ProcessView}
use Rattle.nc_types.specs.declared.TheConstants.{PATH_LIMIT}
use Rattle.nc_types.specs.declared.config.RouterId.{RouterId}
use Rattle.nc_types.specs.declared.config.NetworkStatement.{NetworkStatement}
use Rattle.nc_types.specs.declared.config.AggregateStatement.{AggregateStatement}
use Rattle.nc_types.proofs.Members.{In, in_by_get, in_by_map, in_map, in_by_filter, in_filter, in_by_flat_map, some_in, some_passes, all_by_in, all_in}
use Rattle.nc_tables.specs.declared.bgp.Chosen.{Chosen as ChosenRoute}
use Rattle.nc_tables.specs.declared.bgp.MainRow.{MainRow}
use Rattle.nc_tables.specs.declared.bgp.MainFrom.{MainFrom}
use Rattle.nc_tables.specs.declared.bgp.MainFrom.TheVariants as main
use Rattle.nc_tables.specs.declared.policy.Names.{Names}
use Rattle.nc_tables.specs.declared.policy.Place.{Place}
use Rattle.nc_tables.specs.Base.{same_prefix}
use Rattle.nc_tables.specs.Reach.{hits}
use Rattle.nc_tables.specs.Sessions.{first_of, process_of}
use Rattle.nc_tables.specs.Rounds.{BgpRowView, Message as SentMessage, Accepted, AreBgpRows, is_longer_in, is_active, chosen_at, round}
use Rattle.nc_tables.specs.State.{StateView, IsState}
use Rattle.nc_fact.specs.declared.fact.Fact.{Fact}
use Rattle.nc_fact.specs.declared.fact.Fact.TheVariants.{Resolve, NetSource, Session, Origin, Contrib, Aggregate, Message, Entry, Chosen, Main}
use Rattle.nc_fact.specs.Facts.{main_rows, weight, lowest_rank, rank_of_network, rank_of_aggregate, rank_of_message, rank_of_accepted, rank_of_chosen, network_of, aggregate_of, message_of, accepted_of, chosen_of, holds, rank}
use Rattle.nc_fact.proofs.First.{first_is}
use Rattle.nc_fact.proofs.Few.{formed_at}
use Rattle.nc_rules_route.specs.Parents.{clause_place, entry_place, community_place, element_in, of_part, of_clause, of_entry, of_community, of_passed, source_of, main_of, each_chosen, chosen_inside, origin_parents, aggregate_parents, message_parents, entry_parents, parents}
use Rattle.nc_types.proofs.Owning.{some_at}
use Rattle.nc_rules_route.proofs.Members.{all_by_option, all_of_one, all_of_three, in_range, in_flat_map}
use Rattle.nc_rules_route.proofs.Numbers.{process_element, network_element, aggregate_element, clause_within, entry_within, community_within}
use Rattle.nc_rules_route.proofs.Ends.{link_is}
use Rattle.nc_rules_route.proofs.Holding.{IsBelow, all_higher, element_holds, base_holds}
use Rattle.nc_rules_route.proofs.SentRoutes.{IsMessage, message_is, entry_is}
use Rattle.nc_rules_route.proofs.Weights.{map_grows, message_heavier}
use Rattle.nc_rules_route.proofs.Choosing.{IsCandidate, origin, aggregate, entry, chosen_is}
use Rattle.nc_rules_route.proofs.RowsByPrefix.{row_found}
use Rattle.nc_rules_route.proofs.MainRows.{IsOf}
use Rattle.nc_rules_route.proofs.Tables.{main_is_of}

-- ---- ranks

-- the lowest rank of a heavier route of a prefix is above all of a lighter one
heavier_above : (len light heavy : ℕ) → light + 1 ≤ heavy → 100 + 8 * (502 * (32 - len) + light) + 4 < 100 + 8 * (502 * (32 - len) + heavy) + 2
heavier_above len light heavy le = omega arith

-- and that of a shorter prefix above all of a longer one
shorter_above : (inner outer light : ℕ) → outer < inner → inner ≤ 32 → light ≤ 501 → 100 + 8 * (502 * (32 - inner) + light) + 4 < 100 + 8 * (502 * (32 - outer) + 0)
shorter_above inner outer light lt most few = omega arith

weight_most : (internal : Bool) (count : ℕ) → count ≤ PATH_LIMIT → 2 * count + cond internal 1 0 ≤ 501
weight_most true count few = omega arith
weight_most false count few = omega arith

weight_more : (internal : Bool) (less more : ℕ) → less ≤ more → 2 * less + cond internal 1 0 ≤ 2 * more + cond internal 1 0
weight_more internal less more le = omega arith

module _ (s : StateView) (is : IsState s) where
  -- no round changes the table
  settled : round s.routers s.base s.sessions s.bgp ≡ s.bgp
  settled = let stable = is.stable in ap (round s.routers s.base s.sessions) stable.state ∙ stable.settled ∙ sym stable.state

  -- ---- elements

  element_below : (router : ℕ) (c : ConfigView) (place : ℕ) → slice_get s.routers router ≡ Some c → place < length c.elements → IsBelow s 1 (element_in s router place)
  unfolding rank
  element_below router c place at lt = (element_holds s router c place at lt, omega arith)

  pub part_below : (router : ℕ) (part : ConfigView → Option ℕ) → ((c : ConfigView) (place : ℕ) → slice_get s.routers router ≡ Some c → part c ≡ Some place → place < length c.elements) → All (IsBelow s 1) (of_part s router part)
  part_below router part within =
      all_by_option (IsBelow s 1) (λ place. element_in s router place ∷ []) (option_and_then part (slice_get s.routers router)) (λ place found.
      option_and_then_some part (slice_get s.routers router) place found (λ c at is_part. all_of_one (IsBelow s 1) (element_in s router place) (element_below router c place at (within c place at is_part))))

  pub passed_below : (router : ℕ) (clause : Option ℕ) (names : Names) → All (IsBelow s 1) (of_passed s router clause names)
  passed_below router clause names =
      All-append (IsBelow s 1) (of_clause s router clause) (of_entry s router names.entry ++ of_community s router names.community)
      (all_by_option (IsBelow s 1) (λ k. of_part s router (clause_place k)) clause (λ k e. part_below router (clause_place k) (λ c place at found. clause_within c (formed_at s.routers is.valid.each router c at) k place found)))
      (All-append (IsBelow s 1) (of_entry s router names.entry) (of_community s router names.community)
      (all_by_option (IsBelow s 1) (λ (k : Place). of_part s router (entry_place k)) names.entry (λ k e. part_below router (entry_place k) (λ c place at found. entry_within c (formed_at s.routers is.valid.each router c at) k place found)))
      (all_by_option (IsBelow s 1) (λ (k : Place). of_part s router (community_place k)) names.community (λ k e. part_below router (community_place k) (λ c place at found. community_within c (formed_at s.routers is.valid.each router c at) k place found))))

  -- ---- messages

  message_known : (router : ℕ) (place : ℕ) (prefix : Cidr) (m : SentMessage) → message_of s router place prefix ≡ Some m → IsMessage s.routers s.base s.sessions s.bgp router place prefix m
  message_known router place prefix m found = message_is s.routers s.base s.sessions s.bgp router place prefix m found

  message_below : (router : RouterId) (place : ℕ) (prefix : Cidr) (m : SentMessage) → message_of s router.0 place prefix ≡ Some m → All (IsBelow s (rank_of_message prefix m)) (message_parents s router place prefix m)
  unfolding holds rank
  message_below router place prefix m found =
      let below = IsBelow s (rank_of_message prefix m) in
      let known = message_known router.0 place prefix m found in
      let link = link_is s.routers s.sessions router.0 place m.link known.link in
      let peer = m.link.session.peer in
      let best : chosen_of s peer.0 prefix 0 ≡ Some m.best = sym (first_is (chosen_at s.bgp peer.0 prefix)) ∙ known.best in
      let heavier = message_heavier m known.sent in
      let session : below (Session router place) = (ap is_some link.session, omega arith) in
      let drops : rank s (Chosen peer prefix 0) < rank_of_message prefix m =
      subst (λ (o : Option ChosenRoute). option_map_or (rank_of_chosen prefix) o 0 < rank_of_message prefix m) (sym best)
      (heavier_above prefix.len (weight (length m.best.route.path) m.best.internal) (weight (length m.route.path) m.link.session.internal) heavier) in
      let chosen : below (Chosen peer prefix 0) = (ap is_some best, drops) in
      All-cons below (Session router place) (Chosen peer prefix 0 ∷ of_passed s peer.0 m.out.clause m.out.names) session
      (All-cons below (Chosen peer prefix 0) (of_passed s peer.0 m.out.clause m.out.names) chosen
      (all_higher s 1 (rank_of_message prefix m) (omega arith) (of_passed s peer.0 m.out.clause m.out.names) (passed_below peer.0 m.out.clause m.out.names)))

  entry_below : (router : RouterId) (place : ℕ) (prefix : Cidr) (a : Accepted) → accepted_of s router.0 place prefix ≡ Some a → All (IsBelow s (rank_of_accepted prefix a)) (entry_parents s router place prefix a)
  unfolding holds rank
  entry_below router place prefix a found =
      let below = IsBelow s (rank_of_accepted prefix a) in
      let known = entry_is s.routers s.base s.sessions s.bgp router.0 place prefix a found in
      let m = a.message in
      let grows = map_grows m.link.receiver.config m.route m.link.receiver.statement.map_in a.into known.accepted.into in
      let more : weight (length m.route.path) m.link.session.internal ≤ weight (length a.into.route.path) m.link.session.internal =
      weight_more m.link.session.internal (length m.route.path) (length a.into.route.path) grows.longer in
      let drops : rank s (Message router place prefix) < rank_of_accepted prefix a =
      subst (λ (o : Option SentMessage). option_map_or (rank_of_message prefix) o 0 < rank_of_accepted prefix a) (sym known.message) (omega arith) in
      let message : below (Message router place prefix) = (ap is_some known.message, drops) in
      let resolve : below (Resolve router m.route.next_hop) = (lt-ltb 0 (length (hits s.base router.0 m.route.next_hop.0)) known.accepted.leads, omega arith) in
      All-cons below (Message router place prefix) (Resolve router m.route.next_hop ∷ of_passed s router.0 a.into.clause a.into.names) message
      (All-cons below (Resolve router m.route.next_hop) (of_passed s router.0 a.into.clause a.into.names) resolve
      (all_higher s 1 (rank_of_accepted prefix a) (omega arith) (of_passed s router.0 a.into.clause a.into.names) (passed_below router.0 a.into.clause a.into.names)))

  -- what is accepted has a path within the limit
  entry_short : (router place : ℕ) (prefix : Cidr) (a : Accepted) → accepted_of s router place prefix ≡ Some a → length a.into.route.path ≤ PATH_LIMIT
  entry_short router place prefix a found =
      let known = entry_is s.routers s.base s.sessions s.bgp router place prefix a found in
      let m = a.message in
      let sent = message_known router place prefix m known.message in
      (map_grows m.link.receiver.config m.route m.link.receiver.statement.map_in a.into known.accepted.into).short sent.sent.short

  -- ---- chosen routes

  -- the fact of what a chosen route is made from is below that of the route, whose path is within the limit
  record IsMade (router : RouterId) (prefix : Cidr) (x : ChosenRoute) : Type 0 where
    below : IsBelow s (rank_of_chosen prefix x) (source_of router prefix x.from)
    short : length x.route.path ≤ PATH_LIMIT

  made_is : (router : RouterId) (p : ProcessView) → process_of s.routers router.0 ≡ Some p → (prefix : Cidr) (x : ChosenRoute) → IsCandidate s.routers s.base s.sessions s.bgp router.0 p prefix x → IsMade router prefix x
  unfolding holds rank
  made_is router p own prefix x (origin k n at of_prefix based made) =
      let network : network_of s router.0 k ≡ Some n = ap (option_and_then (λ (q : ProcessView). slice_get q.networks k)) own ∙ at in
      let there = ap (λ (o : Option NetworkStatement). option_map_or (λ n. list_any (λ row. same_prefix row.prefix n.prefix) (slice_index_or s.base router.0 [])) o false) network
      ∙ ap (λ (q : Cidr). list_any (λ row. same_prefix row.prefix q) (slice_index_or s.base router.0 [])) of_prefix ∙ based in
      let rank_is : rank s (Origin router k) ≡ lowest_rank prefix 0 + 1 = ap (λ (o : Option NetworkStatement). option_map_or rank_of_network o 0) network ∙ ap (λ (q : Cidr). lowest_rank q 0 + 1) of_prefix in
      subst (IsMade router prefix) made (record { below = (there, omega (arith, rank_is)); short = omega arith })
  made_is router p own prefix x (aggregate k a at of_prefix active made) =
      let statement : aggregate_of s router.0 k ≡ Some a = ap (option_and_then (λ (q : ProcessView). slice_get q.aggregates k)) own ∙ at in
      let there = ap (λ (o : Option AggregateStatement). option_map_or (is_active s.bgp router.0) o false) statement ∙ active in
      let rank_is : rank s (Aggregate router k) ≡ lowest_rank prefix 0 + 1 = ap (λ (o : Option AggregateStatement). option_map_or rank_of_aggregate o 0) statement ∙ ap (λ (q : Cidr). lowest_rank q 0 + 1) of_prefix in
      subst (IsMade router prefix) made (record { below = (there, omega (arith, rank_is)); short = omega arith })
  made_is router p own prefix x (entry k a found made) =
      let rank_is : rank s (Entry router k prefix) ≡ rank_of_accepted prefix a = ap (λ (o : Option Accepted). option_map_or (rank_of_accepted prefix) o 0) found in
      subst (IsMade router prefix) made (record { below = (ap is_some found, omega (arith, rank_is)); short = entry_short router.0 k prefix a found })

  chosen_made : (router : RouterId) (prefix : Cidr) (x : ChosenRoute) → In x (chosen_at s.bgp router.0 prefix) → IsMade router prefix x
  chosen_made router prefix x i =
      let from = chosen_is s.routers s.base s.sessions s.bgp settled router.0 prefix x i in
      made_is router from.0 from.1 prefix x from.2

  chosen_parents : (router : RouterId) (prefix : Cidr) (place : ℕ) (x : ChosenRoute) → chosen_of s router.0 prefix place ≡ Some x → All (IsBelow s (rank_of_chosen prefix x)) (source_of router prefix x.from ∷ [])
  chosen_parents router prefix place x found =
      all_of_one (IsBelow s (rank_of_chosen prefix x)) (source_of router prefix x.from) (chosen_made router prefix x (in_by_get (chosen_at s.bgp router.0 prefix) place x found)).below

  -- ---- networks and aggregates

  origin_below : (router : RouterId) (p : ProcessView) (n : NetworkStatement) (place : ℕ) → process_of s.routers router.0 ≡ Some p → slice_get p.networks place ≡ Some n → holds s (Origin router place) ≡ true
      → All (IsBelow s (rank_of_network n)) (origin_parents s router p n)
  unfolding holds rank
  origin_below router p n place own at holding =
      let below = IsBelow s (rank_of_network n) in
      let network : network_of s router.0 place ≡ Some n = ap (option_and_then (λ (q : ProcessView). slice_get q.networks place)) own ∙ at in
      let based = sym (ap (λ (o : Option NetworkStatement). option_map_or (λ n. list_any (λ row. same_prefix row.prefix n.prefix) (slice_index_or s.base router.0 [])) o false) network) ∙ holding in
      option_and_then_some (λ (c : ConfigView). c.process) (slice_get s.routers router.0) p own (λ c at_router is_own.
      let formed = formed_at s.routers is.valid.each router.0 c at_router in
      let process = element_below router.0 c p.element at_router (process_element c formed p is_own) in
      let statement = element_below router.0 c n.element at_router (network_element c formed p is_own place n at) in
      all_of_three below (element_in s router.0 p.element) (element_in s router.0 n.element) (NetSource router n.prefix)
      (process.0, omega (arith, process.1)) (statement.0, omega (arith, statement.1)) (based, omega arith))

  aggregate_below : (router : RouterId) (p : ProcessView) (a : AggregateStatement) (place : ℕ) → process_of s.routers router.0 ≡ Some p → slice_get p.aggregates place ≡ Some a → holds s (Aggregate router place) ≡ true
      → All (IsBelow s (rank_of_aggregate a)) (aggregate_parents s router place p a)
  unfolding holds rank
  aggregate_below router p a place own at holding =
      let below = IsBelow s (rank_of_aggregate a) in
      let statement_is : aggregate_of s router.0 place ≡ Some a = ap (option_and_then (λ (q : ProcessView). slice_get q.aggregates place)) own ∙ at in
      let rank_is : rank s (Contrib router place) ≡ lowest_rank a.prefix 0 = ap (λ (o : Option AggregateStatement). option_map_or (λ (a : AggregateStatement). lowest_rank a.prefix 0) o 0) statement_is in
      option_and_then_some (λ (c : ConfigView). c.process) (slice_get s.routers router.0) p own (λ c at_router is_own.
      let formed = formed_at s.routers is.valid.each router.0 c at_router in
      let process = element_below router.0 c p.element at_router (process_element c formed p is_own) in
      let statement = element_below router.0 c a.element at_router (aggregate_element c formed p is_own place a at) in
      all_of_three below (element_in s router.0 p.element) (element_in s router.0 a.element) (Contrib router place)
      (process.0, omega (arith, process.1)) (statement.0, omega (arith, statement.1)) (holding, omega (arith, rank_is)))

  -- the rows of a router
  rows_valid : (router : ℕ) → AreBgpRows (slice_index_or s.bgp router [])
  rows_valid router = rows_at s.bgp is.rows router
    where
      none : AreBgpRows []
      none = record { ordered = λ i j d lt within. absurd (omega arith); valid = All-nil _; some = All-nil _; few = All-nil _; own = All-nil _ }

      rows_at : (tables : List (List BgpRowView)) → All AreBgpRows tables → (k : ℕ) → AreBgpRows (slice_index_or tables k [])
      rows_at [] each k = none
      rows_at (t ∷ ts) each zero = each 0 t (omega arith)
      rows_at (t ∷ ts) each (suc k) = rows_at ts (λ j d lt. each (suc j) d (omega arith)) k

  row_below : (router : RouterId) (a : AggregateStatement) (row : BgpRowView) → In row (slice_index_or s.bgp router.0 []) → is_longer_in row.prefix a.prefix ≡ true → All (IsBelow s (lowest_rank a.prefix 0)) (each_chosen router row)
  unfolding holds rank
  row_below router a row among inside =
      let rows = slice_index_or s.bgp router.0 [] in
      let valid = rows_valid router.0 in
      let found : chosen_at s.bgp router.0 row.prefix ≡ row.chosen = row_found rows valid row among in
      let cidr : IsCidr row.prefix.base row.prefix.len = all_in (λ (r : BgpRowView). IsCidr r.prefix.base r.prefix.len) rows valid.valid row among in
      let longer : a.prefix.len < row.prefix.len = ltb-true a.prefix.len row.prefix.len (and_parts (nat_lt a.prefix.len row.prefix.len) _ inside).0 in
      all_by_in (IsBelow s (lowest_rank a.prefix 0)) (each_chosen router row) (λ f i. by_place found cidr longer f (in_by_map (Chosen router row.prefix) (range_with_len 0 (length row.chosen)) f i))
    where
      by_route : chosen_at s.bgp router.0 row.prefix ≡ row.chosen → IsCidr row.prefix.base row.prefix.len → a.prefix.len < row.prefix.len → (place : ℕ) (x : ChosenRoute) → slice_get row.chosen place ≡ Some x
          → IsBelow s (lowest_rank a.prefix 0) (Chosen router row.prefix place)
      by_route found cidr longer place x at =
          let here : chosen_of s router.0 row.prefix place ≡ Some x = ap (λ (xs : List ChosenRoute). slice_get xs place) found ∙ at in
          let made = chosen_made router row.prefix x (in_by_get (chosen_at s.bgp router.0 row.prefix) place x here) in
          let drops : rank_of_chosen row.prefix x < lowest_rank a.prefix 0 =
          shorter_above row.prefix.len a.prefix.len (weight (length x.route.path) x.internal) longer cidr.within (weight_most x.internal (length x.route.path) made.short) in
          (ap is_some here, subst (λ (o : Option ChosenRoute). option_map_or (rank_of_chosen row.prefix) o 0 < lowest_rank a.prefix 0) (sym here) drops)

      by_place : chosen_at s.bgp router.0 row.prefix ≡ row.chosen → IsCidr row.prefix.base row.prefix.len → a.prefix.len < row.prefix.len → (f : Fact) → (k : ℕ) × (In k (range_with_len 0 (length row.chosen))) × (Chosen router row.prefix k ≡ f)
          → IsBelow s (lowest_rank a.prefix 0) f
      by_place found cidr longer f made =
          let lt : made.0 < 0 + length row.chosen = in_range 0 (length row.chosen) made.0 made.1 in
          let there = some_at row.chosen made.0 (omega arith) in
          subst (IsBelow s (lowest_rank a.prefix 0)) made.2 (by_route found cidr longer made.0 there.0 there.1)

  -- the chosen routes of every longer prefix inside that of an aggregate
  contrib_below : (router : RouterId) (a : AggregateStatement) → All (IsBelow s (lowest_rank a.prefix 0)) (chosen_inside router a.prefix (slice_index_or s.bgp router.0 []))
  contrib_below router a =
      let rows = slice_index_or s.bgp router.0 [] in
      let inside = λ (row : BgpRowView). is_longer_in row.prefix a.prefix in
      all_by_in (IsBelow s (lowest_rank a.prefix 0)) (chosen_inside router a.prefix rows) (λ f i.
      let made = in_by_flat_map (each_chosen router) (filter inside rows) f i in
      let row = in_by_filter inside rows made.0 made.1 in
      all_in (IsBelow s (lowest_rank a.prefix 0)) (each_chosen router made.0) (row_below router a made.0 row.0 row.1) f made.2)

  -- of which there is one where the aggregate is active
  contrib_some : (router : RouterId) (a : AggregateStatement) → is_active s.bgp router.0 a ≡ true → 0 < length (chosen_inside router a.prefix (slice_index_or s.bgp router.0 []))
  contrib_some router a active =
      let rows = slice_index_or s.bgp router.0 [] in
      let inside = λ (row : BgpRowView). is_longer_in row.prefix a.prefix in
      let found = some_passes (λ (row : BgpRowView). is_longer_in row.prefix a.prefix && nat_lt 0 (length row.chosen)) rows active in
      let row = found.0 in
      let parts = and_parts (inside row) (nat_lt 0 (length row.chosen)) found.2 in
      let here : In (Chosen router row.prefix 0) (each_chosen router row) = in_map (Chosen router row.prefix) (range_with_len 0 (length row.chosen)) 0 (first_in (length row.chosen) (ltb-true 0 (length row.chosen) parts.1)) in
      some_in (chosen_inside router a.prefix rows) (Chosen router row.prefix 0) (in_flat_map (each_chosen router) (filter inside rows) row (Chosen router row.prefix 0) (in_filter inside rows row found.1 parts.0) here)
    where
      first_in : (n : ℕ) → 0 < n → In 0 (range_with_len 0 n)
      first_in zero lt = absurd (omega arith)
      first_in (suc n) lt = inl refl

  -- ---- main rows

  main_below : (router : RouterId) (prefix : Cidr) (from : MainFrom) → IsOf s.routers s.base s.bgp router.0 prefix from → IsBelow s 140000 (main_of router prefix from)
  unfolding holds rank
  main_below router prefix (main.Base place) lt = (base_holds s router place lt, omega arith)
  main_below router prefix (main.Bgp place) lt =
      let at = some_at (chosen_at s.bgp router.0 prefix) place lt in
      let made = chosen_made router prefix at.0 (in_by_get (chosen_at s.bgp router.0 prefix) place at.0 at.1) in
      let few : weight (length at.0.route.path) at.0.internal ≤ 501 = weight_most at.0.internal (length at.0.route.path) made.short in
      let drops : rank_of_chosen prefix at.0 < 140000 = omega arith in
      (ap is_some at.1, subst (λ (o : Option ChosenRoute). option_map_or (rank_of_chosen prefix) o 0 < 140000) (sym at.1) drops)
  main_below router prefix (main.Discard place) gathering =
      let a = gathering.aggregate in
      let statement_is : aggregate_of s router.0 place ≡ Some a = ap (option_and_then (λ (q : ProcessView). slice_get q.aggregates place)) gathering.own ∙ gathering.at in
      let there = ap (λ (o : Option AggregateStatement). option_map_or (is_active s.bgp router.0) o false) statement_is ∙ gathering.active in
      let drops : rank_of_aggregate a < 140000 = omega arith in
      (there, subst (λ (o : Option AggregateStatement). option_map_or rank_of_aggregate o 0 < 140000) (sym statement_is) drops)

  -- ---- the parents of each kind

  pub origin_parents_below : (router : RouterId) (place : ℕ) → holds s (Origin router place) ≡ true → All (IsBelow s (rank s (Origin router place))) (parents s (Origin router place))
  unfolding parents rank
  origin_parents_below router place holding =
      all_by_option (IsBelow s (rank s (Origin router place))) (λ (p : ProcessView). option_map_or (origin_parents s router p) (slice_get p.networks place) []) (process_of s.routers router.0) (λ p own.
      all_by_option (IsBelow s (rank s (Origin router place))) (origin_parents s router p) (slice_get p.networks place) (λ n at.
      let network : network_of s router.0 place ≡ Some n = ap (option_and_then (λ (q : ProcessView). slice_get q.networks place)) own ∙ at in
      subst (λ (o : Option NetworkStatement). All (IsBelow s (option_map_or rank_of_network o 0)) (origin_parents s router p n)) (sym network) (origin_below router p n place own at holding)))

  pub aggregate_parents_below : (router : RouterId) (place : ℕ) → holds s (Aggregate router place) ≡ true → All (IsBelow s (rank s (Aggregate router place))) (parents s (Aggregate router place))
  unfolding parents rank
  aggregate_parents_below router place holding =
      all_by_option (IsBelow s (rank s (Aggregate router place))) (λ (p : ProcessView). option_map_or (aggregate_parents s router place p) (slice_get p.aggregates place) []) (process_of s.routers router.0) (λ p own.
      all_by_option (IsBelow s (rank s (Aggregate router place))) (aggregate_parents s router place p) (slice_get p.aggregates place) (λ a at.
      let statement : aggregate_of s router.0 place ≡ Some a = ap (option_and_then (λ (q : ProcessView). slice_get q.aggregates place)) own ∙ at in
      subst (λ (o : Option AggregateStatement). All (IsBelow s (option_map_or rank_of_aggregate o 0)) (aggregate_parents s router place p a)) (sym statement) (aggregate_below router p a place own at holding)))

  -- an option's rank and parents together
  of_some : {X : Type 0} (rank_of : X → ℕ) (parents_of : X → List Fact) (o : Option X) → ((x : X) → o ≡ Some x → All (IsBelow s (rank_of x)) (parents_of x)) → All (IsBelow s (option_map_or rank_of o 0)) (option_map_or parents_of o [])
  of_some rank_of parents_of None each = All-nil (IsBelow s 0)
  of_some rank_of parents_of (Some x) each = each x refl

  pub contrib_parents_below : (router : RouterId) (place : ℕ) → All (IsBelow s (rank s (Contrib router place))) (parents s (Contrib router place))
  unfolding parents rank
  contrib_parents_below router place =
      of_some (λ (a : AggregateStatement). lowest_rank a.prefix 0) (λ (a : AggregateStatement). chosen_inside router a.prefix (slice_index_or s.bgp router.0 [])) (aggregate_of s router.0 place) (λ a at. contrib_below router a)

  pub message_parents_below : (router : RouterId) (place : ℕ) (prefix : Cidr) → All (IsBelow s (rank s (Message router place prefix))) (parents s (Message router place prefix))
  unfolding parents rank
  message_parents_below router place prefix = of_some (rank_of_message prefix) (message_parents s router place prefix) (message_of s router.0 place prefix) (λ m found. message_below router place prefix m found)

  pub entry_parents_below : (router : RouterId) (place : ℕ) (prefix : Cidr) → All (IsBelow s (rank s (Entry router place prefix))) (parents s (Entry router place prefix))
  unfolding parents rank
  entry_parents_below router place prefix = of_some (rank_of_accepted prefix) (entry_parents s router place prefix) (accepted_of s router.0 place prefix) (λ a found. entry_below router place prefix a found)

  pub chosen_parents_below : (router : RouterId) (prefix : Cidr) (place : ℕ) → All (IsBelow s (rank s (Chosen router prefix place))) (parents s (Chosen router prefix place))
  unfolding parents rank
  chosen_parents_below router prefix place =
      of_some (rank_of_chosen prefix) (λ (x : ChosenRoute). source_of router prefix x.from ∷ []) (chosen_of s router.0 prefix place) (λ x found. chosen_parents router prefix place x found)

  pub main_parents_below : (router : RouterId) (row : ℕ) → All (IsBelow s (rank s (Main router row))) (parents s (Main router row))
  unfolding parents rank
  main_parents_below router row =
      all_by_option (IsBelow s 140000) (λ (m : MainRow). main_of router m.prefix m.from ∷ []) (slice_get (main_rows s router.0) row) (λ m at.
      all_of_one (IsBelow s 140000) (main_of router m.prefix m.from) (main_below router m.prefix m.from (main_is_of s is router.0 m (in_by_get (main_rows s router.0) row m at))))

  -- what an active aggregate gathers
  pub contrib_chosen : (router : RouterId) (place : ℕ) → holds s (Contrib router place) ≡ true → 0 < length (parents s (Contrib router place))
  unfolding holds parents
  contrib_chosen router place holding = by_statement (aggregate_of s router.0 place) holding
    where
      by_statement : (o : Option AggregateStatement) → option_map_or (is_active s.bgp router.0) o false ≡ true → 0 < length (option_map_or (λ (a : AggregateStatement). chosen_inside router a.prefix (slice_index_or s.bgp router.0 [])) o [])
      by_statement None active = absurd (cc)
      by_statement (Some a) active = contrib_some router a active
