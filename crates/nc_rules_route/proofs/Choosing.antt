-- From where a chosen candidate is: a network, an active aggregate, or what was accepted of a message.
use Rattle.std.proofs.Common.{◌≡◌, ℕ, ◌+◌, Bool, true, ◌&&◌, List, [], ◌∷◌, ◌++◌, length, Option, Some, None, refl, sym, subst, ◌∙◌, arith, inl, inr}
use Rattle.std.specs.List.{find, list_any, slice_get, slice_index_or}
use Rattle.std.specs.Option.{option_map_or}
use Rattle.std.proofs.lemmas.Bool.{and_parts}
use Rattle.std.proofs.lemmas.Option.{same_Some, none-some, cond_some}
use Rattle.nc_types.specs.Cidr.{Cidr}
use Rattle.nc_types.specs.Config.{ConfigView, ProcessView}
use Rattle.nc_types.specs.declared.config.NetworkStatement.{NetworkStatement}
use Rattle.nc_types.specs.declared.config.AggregateStatement.{AggregateStatement}
use Rattle.nc_types.specs.declared.config.Neighbor.{Neighbor}
use Rattle.nc_types.proofs.Members.{In, in_by_get, in_by_filter_map, in_either}
use Rattle.nc_types.proofs.Sameness.{same_prefix_is}
use Rattle.nc_tables.specs.declared.base.BaseRow.{BaseRow}
use Rattle.nc_tables.specs.declared.bgp.SessionRow.{SessionRow}
use Rattle.nc_tables.specs.declared.bgp.Chosen.{Chosen}
use Rattle.nc_tables.specs.declared.bgp.BgpFrom.TheVariants.{Origin, Aggregate}
use Rattle.nc_tables.specs.Base.{same_prefix}
use Rattle.nc_tables.specs.Choice.{choose}
use Rattle.nc_tables.specs.Reach.{rows_of}
use Rattle.nc_tables.specs.Sessions.{process_of}
use Rattle.nc_tables.specs.Rounds.{BgpRowView, Accepted, begun, chosen_anew, chosen_at, chosen_by, candidates_at, origin_at, aggregate_at, entry_at, is_active, learnt_from, made_from, accepted_at, prefixes, row_at, row_of, rows_anew, round}
use Rattle.nc_tables.proofs.Ordered.{in_by_made}
use Rattle.nc_types.proofs.Options.{map_some}
use Rattle.nc_rules_route.proofs.Members.{in_by_find, in_by_router}

-- a row of a prefix has the candidates of which it is made
record IsRowOf (prefix : Cidr) (chosen : List Chosen) (row : BgpRowView) : Type 0 where
  prefix_is : row.prefix ≡ prefix
  chosen_is : row.chosen ≡ chosen

row_is : (prefix : Cidr) (chosen : List Chosen) (row : BgpRowView) → row_of prefix chosen ≡ Some row → IsRowOf prefix chosen row
row_is prefix [] row e = absurd (none-some row e)
row_is prefix (x ∷ xs) row e = subst (IsRowOf prefix (x ∷ xs)) (same_Some (record { prefix = prefix; chosen = x ∷ xs }) row e) (record { prefix_is = refl; chosen_is = refl })

-- what is found of a prefix has this prefix
pub in_by_chosen : (rows : List BgpRowView) (prefix : Cidr) (x : Chosen) → In x (option_map_or (λ row. row.chosen) (find (λ row. same_prefix row.prefix prefix) rows) []) → (row : BgpRowView) × (In row rows) × (row.prefix ≡ prefix) × (In x row.chosen)
in_by_chosen rows prefix x i = by_row (find has rows) refl i
  where
    has : BgpRowView → Bool
    has row = same_prefix row.prefix prefix

    by_row : (o : Option BgpRowView) → find has rows ≡ o → In x (option_map_or (λ row. row.chosen) o []) → (row : BgpRowView) × (In row rows) × (row.prefix ≡ prefix) × (In x row.chosen)
    by_row None found j = absurd j
    by_row (Some row) found j = let here = in_by_find has rows row found in (row, here.0, same_prefix_is row.prefix prefix here.1, j)

module _ (routers : List ConfigView) (tables : List (List BaseRow)) (sessions : List (List SessionRow)) (table : List (List BgpRowView)) where
  -- a candidate of a prefix, by what it is made from
  pub data IsCandidate (router : ℕ) (p : ProcessView) (prefix : Cidr) (x : Chosen) : Type 0 where
    origin : (k : ℕ) (n : NetworkStatement) → slice_get p.networks k ≡ Some n → n.prefix ≡ prefix → list_any (λ row. same_prefix row.prefix prefix) (rows_of tables router) ≡ true → begun prefix (Origin k) ≡ x → IsCandidate router p prefix x
    aggregate : (k : ℕ) (a : AggregateStatement) → slice_get p.aggregates k ≡ Some a → a.prefix ≡ prefix → is_active table router a ≡ true → begun prefix (Aggregate k) ≡ x → IsCandidate router p prefix x
    entry : (k : ℕ) (a : Accepted) → accepted_at routers tables sessions table router k prefix ≡ Some a → learnt_from k a ≡ x → IsCandidate router p prefix x

  module _ (router : ℕ) (p : ProcessView) (prefix : Cidr) (x : Chosen) where
    by_origin : In x (made_from (λ place n. origin_at routers tables sessions table router place n prefix) 0 p.networks) → IsCandidate router p prefix x
    by_origin i =
        let made = in_by_made (λ place n. origin_at routers tables sessions table router place n prefix) 0 p.networks x i in
        let here : 0 + made.0 ≡ made.0 = omega arith in
        let is = subst (λ (k : ℕ). origin_at routers tables sessions table router k made.1 prefix ≡ Some x) here made.3 in
        let parts = cond_some (same_prefix made.1.prefix prefix && list_any (λ row. same_prefix row.prefix prefix) (rows_of tables router)) (begun prefix (Origin made.0)) x is in
        let both = and_parts (same_prefix made.1.prefix prefix) (list_any (λ row. same_prefix row.prefix prefix) (rows_of tables router)) parts.0 in
        origin made.0 made.1 made.2 (same_prefix_is made.1.prefix prefix both.0) both.1 parts.1

    by_aggregate : In x (made_from (λ place a. aggregate_at routers tables sessions table router place a prefix) 0 p.aggregates) → IsCandidate router p prefix x
    by_aggregate i =
        let made = in_by_made (λ place a. aggregate_at routers tables sessions table router place a prefix) 0 p.aggregates x i in
        let here : 0 + made.0 ≡ made.0 = omega arith in
        let is = subst (λ (k : ℕ). aggregate_at routers tables sessions table router k made.1 prefix ≡ Some x) here made.3 in
        let parts = cond_some (same_prefix made.1.prefix prefix && is_active table router made.1) (begun prefix (Aggregate made.0)) x is in
        let both = and_parts (same_prefix made.1.prefix prefix) (is_active table router made.1) parts.0 in
        aggregate made.0 made.1 made.2 (same_prefix_is made.1.prefix prefix both.0) both.1 parts.1

    by_entry : In x (made_from (λ place (n : Neighbor). entry_at routers tables sessions table router place prefix) 0 p.neighbors) → IsCandidate router p prefix x
    by_entry i =
        let made = in_by_made (λ place (n : Neighbor). entry_at routers tables sessions table router place prefix) 0 p.neighbors x i in
        let here : 0 + made.0 ≡ made.0 = omega arith in
        let is = subst (λ (k : ℕ). entry_at routers tables sessions table router k prefix ≡ Some x) here made.3 in
        let taken = map_some (learnt_from made.0) (accepted_at routers tables sessions table router made.0 prefix) x is in
        entry made.0 taken.0 taken.1 taken.2

    pub candidate_is : In x (candidates_at routers tables sessions table router p prefix) → IsCandidate router p prefix x
    candidate_is i =
        let begins = made_from (λ place n. origin_at routers tables sessions table router place n prefix) 0 p.networks in
        let gathers = made_from (λ place a. aggregate_at routers tables sessions table router place a prefix) 0 p.aggregates in
        let learns = made_from (λ place (n : Neighbor). entry_at routers tables sessions table router place prefix) 0 p.neighbors in
        elim (in_either begins (gathers ++ learns) x i) [
          | inl j ↦ by_origin j
          | inr j ↦ elim (in_either gathers learns x j) [
            | inl l ↦ by_aggregate l
            | inr l ↦ by_entry l
          ]
        ]

  -- a choice is among the candidates
  in_by_choice : (p : ProcessView) (candidates : List Chosen) (x : Chosen) → In x (chosen_by p candidates) → In x candidates
  in_by_choice p candidates x i = let made = in_by_filter_map (slice_get candidates) (choose candidates p.max_paths p.relax) x i in in_by_get candidates made.0 x made.2

  -- where no round changes the table, what is chosen is a candidate that comes from it
  pub chosen_is : round routers tables sessions table ≡ table → (router : ℕ) (prefix : Cidr) (x : Chosen) → In x (chosen_at table router prefix) → (p : ProcessView) × (process_of routers router ≡ Some p) × (IsCandidate router p prefix x)
  chosen_is settled router prefix x i =
      let again : In x (chosen_at (round routers tables sessions table) router prefix) = subst (λ (t : List (List BgpRowView)). In x (chosen_at t router prefix)) (sym settled) i in
      let found = in_by_chosen (slice_index_or (round routers tables sessions table) router []) prefix x again in
      let anew = in_by_router (rows_anew routers tables sessions table) (length routers) router found.0 found.1 in
      let made = in_by_filter_map (row_at routers tables sessions table router) (prefixes routers) found.0 anew in
      let row = row_is made.0 (chosen_anew routers tables sessions table router made.0) found.0 made.2 in
      let same : made.0 ≡ prefix = sym row.prefix_is ∙ found.2 in
      let among : In x (chosen_anew routers tables sessions table router prefix) =
      subst (λ (q : Cidr). In x (chosen_anew routers tables sessions table router q)) same (subst (In x) row.chosen_is found.3) in
      by_process (process_of routers router) refl among
    where
      by_process : (o : Option ProcessView) → process_of routers router ≡ o → In x (option_map_or (λ p. chosen_by p (candidates_at routers tables sessions table router p prefix)) o []) → (p : ProcessView) × (process_of routers router ≡ Some p) × (IsCandidate router p prefix x)
      by_process None at j = absurd j
      by_process (Some p) at j = (p, at, candidate_is router p prefix x (in_by_choice p (candidates_at routers tables sessions table router p prefix) x j))
