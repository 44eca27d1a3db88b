-- The rows after any number of rounds, of routers that are well formed: in order, each of a prefix without host bits, with a candidate and
-- no more than may be used at once, each of the row's prefix.
use Rattle.std.proofs.Common.{◌≡◌, ℕ, zero, suc, ◌<◌, ◌≤◌, Bool, true, false, cond, ◌&&◌, ◌++◌, List, [], ◌∷◌, length, map, get_or, All, IfSome, Option, Some, None, refl, sym, subst, ◌∙◌, arith, inl, inr, ◌⊎◌}
use Rattle.std.specs.List.{flat_map, list_any, slice_get, slice_index_or}
use Rattle.std.specs.Option.{option_and_then, option_map, option_map_or}
use Rattle.std.proofs.lemmas.List.{get_or_default}
use Rattle.std.proofs.lemmas.List.Elements.{All-nil, All-append, All-head, All-map}
use Rattle.nc_types.specs.declared.TheConstants.{MULTIPATH_LIMIT}
use Rattle.nc_types.specs.declared.config.AggregateStatement.{AggregateStatement}
use Rattle.nc_types.specs.declared.config.NetworkStatement.{NetworkStatement}
use Rattle.nc_types.specs.Cidr.{Cidr, IsCidr, same_prefix}
use Rattle.nc_types.specs.Config.{ConfigView, ProcessView}
use Rattle.nc_types.specs.WellFormed.{IsProcess, IsWellFormed}
use Rattle.nc_types.proofs.Members.{In, all_in, all_by_in, in_by_get, in_by_map, in_by_flat_map, in_either}
use Rattle.nc_tables.specs.declared.base.BaseRow.{BaseRow}
use Rattle.nc_tables.specs.declared.bgp.SessionRow.{SessionRow}
use Rattle.nc_tables.specs.declared.bgp.Chosen.{Chosen}
use Rattle.nc_tables.specs.declared.bgp.BgpFrom.TheVariants.{Origin, Aggregate}
use Rattle.nc_tables.specs.Choice.{choose}
use Rattle.nc_tables.specs.Reach.{rows_of}
use Rattle.nc_tables.specs.Sessions.{first_of, process_of}
use Rattle.nc_tables.specs.Rounds.{BgpRowView, AreBgpRows, Link, Message, Accepted, chosen_at, is_active, link_at, message_of, message_at, accepted_of, accepted_at, learnt_from, entry_at, begun, aggregate_at, candidates_at, chosen_by, chosen_anew, prefixes_in, prefixes, row_of, row_at, rows_anew, round, after}
use Rattle.nc_main_rib.proofs.Ascending.{of_distinct}
use Rattle.nc_message.specs.Inputs.{IsOf}
use Rattle.nc_decision.proofs.Distinct.{choose_few, made_few}
use Rattle.nc_message.proofs.Own.{AreOwn, row_own}
use Rattle.nc_decision.proofs.Making.{made_all, kept_all}
use Rattle.nc_decision.proofs.Processes.{has_config}
use Rattle.nc_types.proofs.Options.{then_some}
use Rattle.nc_round.proofs.KeptPrefixes.{message_keeps, accepted_keeps}
use Rattle.nc_round.proofs.Lists.{all_at, all_made, made_at}
use Rattle.nc_round.proofs.NextRows.{next_count, next_up, next_some}

-- ---- what routers begin

abbrev IsPrefix : Cidr → Type 0
IsPrefix q = IsCidr q.base q.len

of_process : (p : ProcessView) → IsProcess p → (q : Cidr) → In q (map (λ n. n.prefix) p.networks ++ map (λ a. a.prefix) p.aggregates) → IsPrefix q
of_process p is q i = on (in_either (map (λ n. n.prefix) p.networks) (map (λ a. a.prefix) p.aggregates) q i)
  where
    on : In q (map (λ n. n.prefix) p.networks) ⊎ In q (map (λ a. a.prefix) p.aggregates) → IsPrefix q
    on (inl j) = let n = in_by_map (λ (n : NetworkStatement). n.prefix) p.networks q j in subst IsPrefix n.2 (all_in (λ (n : NetworkStatement). IsPrefix n.prefix) p.networks is.network_prefixes n.0 n.1)
    on (inr j) = let a = in_by_map (λ (a : AggregateStatement). a.prefix) p.aggregates q j in subst IsPrefix a.2 (all_in (λ (a : AggregateStatement). IsPrefix a.prefix) p.aggregates is.aggregate_prefixes a.0 a.1)

of_router : (o : Option ProcessView) → IfSome o IsProcess → (q : Cidr) → In q (option_map_or (λ p. map (λ n. n.prefix) p.networks ++ map (λ a. a.prefix) p.aggregates) o []) → IsPrefix q
of_router None is q i = absurd i
of_router (Some p) is q i = of_process p is q i

-- ---- what is chosen of a prefix is of it

first_own : (p : Cidr) (xs : List Chosen) → All (IsOf p) xs → IfSome (first_of xs) (IsOf p)
first_own p [] own = tt
first_own p (x ∷ xs) own = All-head (IsOf p) x xs own

chosen_own : (p : Cidr) (process : ProcessView) (candidates : List Chosen) → All (IsOf p) candidates → All (IsOf p) (chosen_by process candidates)
chosen_own p process candidates own =
    all_made (IsOf p) (slice_get candidates) (λ k. Unit {0}) (λ k x e u. all_in (IsOf p) candidates own x (in_by_get candidates k x e)) (choose candidates process.max_paths process.relax) (λ k d lt. tt)

chosen_few : (process : ProcessView) (candidates : List Chosen) → IsProcess process → length (chosen_by process candidates) ≤ MULTIPATH_LIMIT
chosen_few process candidates is =
    omega (
      arith,
      is.paths.0,
      is.paths.1,
      made_few (slice_get candidates) (choose candidates process.max_paths process.relax),
      choose_few candidates process.max_paths MULTIPATH_LIMIT process.relax is.paths.1 (omega (arith, is.paths.0, is.paths.1)),
    )

-- ---- rows made anew

no_rows : AreBgpRows []
no_rows = record {
  ordered = λ i j d less lt. absurd (omega arith);
  valid = λ k d lt. absurd (omega arith);
  some = λ k d lt. absurd (omega arith);
  few = λ k d lt. absurd (omega arith);
  own = λ k d lt. absurd (omega arith);
}

-- what holds of the row of a prefix for what is chosen of it, where something is
row_holds : (P : BgpRowView → Type 0) (q : Cidr) (cs : List Chosen) → P (record { prefix = q; chosen = cs }) → (row : BgpRowView) → row_of q cs ≡ Some row → P row
row_holds P q [] holds row e = absurd cc
row_holds P q (x ∷ xs) holds row e = let same : record { prefix = q; chosen = x ∷ xs } ≡ row = cc in subst P same holds

module _ (routers : List ConfigView) (formed : All IsWellFormed routers) where
  prefixes_are : (q : Cidr) → In q (prefixes routers) → IsPrefix q
  prefixes_are q i =
      let c = in_by_flat_map prefixes_in routers q (of_distinct (flat_map prefixes_in routers) q i) in
      of_router c.0.process (all_in IsWellFormed routers formed c.0 c.1).process q c.2

  process_is : (router : ℕ) (p : ProcessView) → process_of routers router ≡ Some p → IsProcess p
  process_is router p e =
      let c = has_config routers router p e in
      subst (λ (o : Option ProcessView). IfSome o IsProcess) c.2 (all_in IsWellFormed routers formed c.0 (in_by_get routers router c.0 c.1)).process

  module _ (tables : List (List BaseRow)) (sessions : List (List SessionRow)) where
    -- no more is chosen of a prefix than is used at once
    pub few_anew : (table : List (List BgpRowView)) (router : ℕ) (q : Cidr) → length (chosen_anew routers tables sessions table router q) ≤ MULTIPATH_LIMIT
    few_anew table router q = on (process_of routers router) (process_is router)
      where
        on : (o : Option ProcessView) → ((p : ProcessView) → o ≡ Some p → IsProcess p) → length (option_map_or (λ p. chosen_by p (candidates_at routers tables sessions table router p q)) o []) ≤ MULTIPATH_LIMIT
        on None is = omega arith
        on (Some p) is = chosen_few p (candidates_at routers tables sessions table router p q) (is p refl)

    module _ (table : List (List BgpRowView)) (before : All AreBgpRows table) (router : ℕ) where
      at_own : (peer : ℕ) (q : Cidr) → All (IsOf q) (chosen_at table peer q)
      at_own peer q = row_own q (slice_index_or table peer []) (all_at AreBgpRows no_rows table before peer).own

      entry_own : (place : ℕ) (q : Cidr) → IfSome (entry_at routers tables sessions table router place q) (IsOf q)
      unfolding message_at accepted_at
      entry_own place q =
          learnt (accepted_at routers tables sessions table router place q)
          (then_some (λ (m : Message). m.route.prefix ≡ q) (λ (a : Accepted). a.into.route.prefix ≡ q) (accepted_of tables router)
          (λ m same. kept (accepted_of tables router m) m same (accepted_keeps tables router m))
          (message_at routers tables sessions table router place q) (sent (link_at routers sessions router place)))
        where
          kept : (o : Option Accepted) (m : Message) → m.route.prefix ≡ q → IfSome o (λ a. a.into.route.prefix ≡ m.route.prefix) → IfSome o (λ a. a.into.route.prefix ≡ q)
          kept None m same some = tt
          kept (Some a) m same some = some ∙ same

          told : (o : Option Message) (b : Chosen) → b.route.prefix ≡ q → IfSome o (λ m. m.route.prefix ≡ b.route.prefix) → IfSome o (λ m. m.route.prefix ≡ q)
          told None b same some = tt
          told (Some m) b same some = some ∙ same

          sent : (o : Option Link) → IfSome (option_and_then (λ k. option_and_then (message_of k) (first_of (chosen_at table k.session.peer.0 q))) o) (λ m. m.route.prefix ≡ q)
          sent None = tt
          sent (Some k) =
              then_some (IsOf q) (λ (m : Message). m.route.prefix ≡ q) (message_of k) (λ b same. told (message_of k b) b same (message_keeps k b))
              (first_of (chosen_at table k.session.peer.0 q)) (first_own q (chosen_at table k.session.peer.0 q) (at_own k.session.peer.0 q))

          learnt : (o : Option Accepted) → IfSome o (λ a. a.into.route.prefix ≡ q) → IfSome (option_map (learnt_from place) o) (IsOf q)
          learnt None some = tt
          learnt (Some a) some = some

      candidates_own : (p : ProcessView) (q : Cidr) → All (IsOf q) (candidates_at routers tables sessions table router p q)
      candidates_own p q =
          All-append (IsOf q) _ _
          (kept_all (IsOf q) (λ (n : NetworkStatement). same_prefix n.prefix q) (list_any (λ (row : BaseRow). same_prefix row.prefix q) (rows_of tables router)) (λ place. begun q (Origin place)) (λ place. refl) p.networks)
          (All-append (IsOf q) _ _
          (made_all (IsOf q) (λ place a. aggregate_at routers tables sessions table router place a q) (λ place a x e. active (same_prefix a.prefix q && is_active table router a) place x e) 0 p.aggregates)
          (made_all (IsOf q) (λ place n. entry_at routers tables sessions table router place q) (λ place n x e. subst (λ (o : Option Chosen). IfSome o (IsOf q)) e (entry_own place q)) 0 p.neighbors))
        where
          active : (b : Bool) (place : ℕ) (x : Chosen) → cond b (Some (begun q (Aggregate place))) None ≡ Some x → IsOf q x
          active true place x e = let same : begun q (Aggregate place) ≡ x = cc in subst (IsOf q) same refl
          active false place x e = absurd cc

      abbrev anew : Cidr → List Chosen
      anew q = chosen_anew routers tables sessions table router q

      anew_own : (q : Cidr) → All (IsOf q) (anew q)
      anew_own q = on (process_of routers router)
        where
          on : (o : Option ProcessView) → All (IsOf q) (option_map_or (λ p. chosen_by p (candidates_at routers tables sessions table router p q)) o [])
          on None = All-nil (IsOf q)
          on (Some p) = chosen_own q p (candidates_at routers tables sessions table router p q) (candidates_own p q)

      each_row : (P : BgpRowView → Type 0) → ((q : Cidr) → In q (prefixes routers) → P (record { prefix = q; chosen = anew q })) → All P (rows_anew routers tables sessions table router)
      each_row P holds =
          all_made P (row_at routers tables sessions table router) (λ q. P (record { prefix = q; chosen = anew q })) (λ q row e here. row_holds P q (anew q) here row e) (prefixes routers)
          (all_by_in (λ q. P (record { prefix = q; chosen = anew q })) (prefixes routers) holds)

      row_lists : router < length routers → AreBgpRows (get_or (round routers tables sessions table) router [])
      row_lists lt =
          let same : get_or (round routers tables sessions table) router [] ≡ rows_anew routers tables sessions table router = made_at (rows_anew routers tables sessions table) (length routers) router lt in
          record {
            ordered = next_up routers tables sessions table router;
            valid = subst (All (λ (row : BgpRowView). IsPrefix row.prefix)) (sym same) (each_row (λ (row : BgpRowView). IsPrefix row.prefix) (λ q i. prefixes_are q i));
            some = next_some routers tables sessions table router;
            few = subst (All (λ (row : BgpRowView). length row.chosen ≤ MULTIPATH_LIMIT)) (sym same) (each_row (λ (row : BgpRowView). length row.chosen ≤ MULTIPATH_LIMIT) (λ q i. few_anew table router q));
            own = subst (All AreOwn) (sym same) (each_row AreOwn (λ q i. anew_own q));
          }

    pub after_rows : (k : ℕ) → All AreBgpRows (after routers tables sessions k)
    unfolding after
    after_rows zero = All-map AreBgpRows (λ (c : ConfigView). []) routers (λ k d lt. no_rows)
    after_rows (suc k) = λ r d lt.
        let table = after routers tables sessions k in
        let less : r < length routers = subst (λ (n : ℕ). r < n) (next_count routers tables sessions table) lt in
        subst AreBgpRows (get_or_default (round routers tables sessions table) r [] d lt) (row_lists table (after_rows k) r less)
