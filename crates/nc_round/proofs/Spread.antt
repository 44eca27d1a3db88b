-- What settles over the prefixes that stand for others settles over all: the state is what is made of it.
use Rattle.std.proofs.Common.{◌≡◌, ◌⊎◌, ℕ, zero, suc, ◌<◌, ◌≤◌, List, [], length, map, get_or, All, Contains, Option, Some, None, refl, sym, ap, subst, ◌∙◌, arith, inl, inr}
use Rattle.std.specs.List.{AllPairs}
use Rattle.std.specs.Option.{option_map_or}
use Rattle.std.specs.declared.cmp.Ordering.TheVariants.{Less}
use Rattle.std.proofs.lemmas.Bool.{cases_lt}
use Rattle.std.proofs.lemmas.List.{same_lists, get_or_default}
use Rattle.std.proofs.lemmas.List.Elements.{All-nil}
use Rattle.std.proofs.lemmas.Option.{slice_get-get_or}
use Rattle.nc_types.specs.declared.TheConstants.{MULTIPATH_LIMIT}
use Rattle.nc_types.specs.declared.config.AggregateStatement.{AggregateStatement}
use Rattle.nc_types.specs.Cidr.{Cidr, same_prefix}
use Rattle.nc_types.specs.Config.{ConfigView, ProcessView}
use Rattle.nc_types.specs.WellFormed.{IsWellFormed}
use Rattle.nc_types.proofs.Members.{In, in_by_contains, in_by_get, contains_by_in}
use Rattle.nc_types.proofs.Sameness.{same_prefix_is}
use Rattle.nc_tables.specs.declared.base.BaseRow.{BaseRow}
use Rattle.nc_tables.specs.declared.bgp.Chosen.{Chosen}
use Rattle.nc_tables.specs.declared.bgp.SessionRow.{SessionRow}
use Rattle.nc_tables.specs.Base.{prefix_cmp}
use Rattle.nc_tables.specs.LocRibs.{AreChosen}
use Rattle.nc_tables.specs.Rounds.{BgpRowView, chosen_at, chosen_in, prefixes, after, IsStable, IsUnstable}
use Rattle.nc_tables.specs.Sessions.{process_of}
use Rattle.nc_tables.proofs.ByPrefix.{same_itself}
use Rattle.nc_tables.proofs.InOrder.{same_rows}
use Rattle.nc_round.specs.declared.likeness.Likeness.{Likeness}
use Rattle.nc_round.specs.Changes.{ReadAlike}
use Rattle.nc_round.specs.Likeness.{ArePlain, AreAlike, moved, network_at, IsLikeness, IsStandingFor, IsExpansion, IsSpread}
use Rattle.nc_round.specs.Next.{round_of}
use Rattle.nc_round.specs.Waking.{aggregates_of, HaveAggregates}
use Rattle.nc_round.proofs.Alike.{chosen_alike}
use Rattle.nc_round.proofs.Lists.{among}
use Rattle.nc_round.proofs.MovedAfter.{moved_after}
use Rattle.nc_round.proofs.NextOf.{beyond_chosen, inside_anew}
use Rattle.nc_round.proofs.NextRows.{next_chosen, next_known, past_chosen}
use Rattle.nc_round.proofs.NumberedRows.{aggregates_known}
use Rattle.nc_round.proofs.RowsAfter.{few_anew}
use Rattle.nc_round.proofs.Settled.{after_candidates, after_count, after_some, after_up, same_after}
use Rattle.nc_round.proofs.SettledOf.{after_of, candidates_of, count_of, none_of, same_of}
use Rattle.nc_round.proofs.Woken.{none_there}

-- where nobody has an aggregate, no prefix is one of an aggregate
no_aggregate : (routers : List ConfigView) → ArePlain routers → (router : ℕ) → aggregates_of routers router ≡ []
no_aggregate routers plain router = on (process_of routers router) refl
  where
    on : (o : Option ProcessView) → process_of routers router ≡ o → aggregates_of routers router ≡ []
    on None e = ap (λ (o : Option ProcessView). option_map_or (λ (p : ProcessView). p.aggregates) o []) e
    on (Some p) e = ap (λ (o : Option ProcessView). option_map_or (λ (p : ProcessView). p.aggregates) o []) e ∙ (plain router p e).aggregates

module _ (routers : List ConfigView) (tables : List (List BaseRow)) (sessions : List (List SessionRow)) where
  abbrev at : ℕ → List (List BgpRowView)
  at k = after routers tables sessions k

  -- of what no router begins nothing is ever chosen
  unknown_after : (k router : ℕ) (p : Cidr) → (In p (prefixes routers) → ⊥) → chosen_at (at k) router p ≡ []
  unfolding after
  unknown_after zero router p out = none_there routers router p
  unknown_after (suc k) router p out = next_known routers tables sessions (at k) router p out

  -- over all prefixes a round is a round
  all_after : (k : ℕ) → after_of (prefixes routers) routers tables sessions k ≡ at k
  unfolding after after_of
  all_after zero = refl
  all_after (suc k) = ap (round_of (prefixes routers) routers tables sessions) (all_after k)

  module _ (formed : All IsWellFormed routers) where
    -- no more is chosen than is used at once
    pub few_of : (ps : List Cidr) (k router : ℕ) (p : Cidr) → length (chosen_at (after_of ps routers tables sessions k) router p) ≤ MULTIPATH_LIMIT
    unfolding after_of
    few_of ps zero router p = subst (λ (cs : List Chosen). length cs ≤ MULTIPATH_LIMIT) (sym (none_there routers router p)) (omega arith)
    few_of ps (suc k) router p = elim (cases_lt router (length routers)) [
      | inl lt ↦ inside lt (among same_prefix same_prefix_is same_itself p ps)
      | inr le ↦ none (beyond_chosen ps routers tables sessions (after_of ps routers tables sessions k) router p le)
    ]
      where
        none : chosen_at (after_of ps routers tables sessions (suc k)) router p ≡ [] → length (chosen_at (after_of ps routers tables sessions (suc k)) router p) ≤ MULTIPATH_LIMIT
        none e = subst (λ (cs : List Chosen). length cs ≤ MULTIPATH_LIMIT) (sym e) (omega arith)

        inside : router < length routers → In p ps ⊎ (In p ps → ⊥) → length (chosen_at (after_of ps routers tables sessions (suc k)) router p) ≤ MULTIPATH_LIMIT
        inside lt (inl i) =
            subst (λ (cs : List Chosen). length cs ≤ MULTIPATH_LIMIT) (sym (inside_anew ps routers tables sessions (after_of ps routers tables sessions k) router p lt i))
            (few_anew routers formed tables sessions (after_of ps routers tables sessions k) router p)
        inside lt (inr out) = none (none_of ps routers tables sessions (suc k) router p out)

    module _ (l : Likeness) (is : IsLikeness routers tables l) where
      abbrev standing : List Cidr
      standing = l.standing.items

      abbrev of : ℕ → List (List BgpRowView)
      of k = after_of standing routers tables sessions k

      -- what stands for all is all
      whole_of : standing ≡ l.all.items → (k : ℕ) → of k ≡ at k
      whole_of same k = ap (λ (ps : List Cidr). after_of ps routers tables sessions k) (same ∙ is.all) ∙ all_after k

      -- ---- where no router tells prefixes apart

      module _ (plain : ArePlain routers) where
        -- of a prefix that stands for others the same is chosen as over all
        same_over : (k router : ℕ) (p : Cidr) → In p standing → chosen_at (of k) router p ≡ chosen_at (at k) router p
        unfolding after after_of
        same_over zero router p i = refl
        same_over (suc k) router p i = elim (cases_lt router (length routers)) [
          | inl lt ↦
              inside_anew standing routers tables sessions (of k) router p lt i
              ∙ chosen_alike routers tables sessions (of k) (at k) router p (candidates_of standing routers tables sessions k) (after_candidates routers tables sessions k) (read (λ peer. same_over k peer p i))
              ∙ sym (next_chosen routers tables sessions (at k) (unknown_after k) router p lt)
          | inr le ↦ beyond_chosen standing routers tables sessions (of k) router p le ∙ sym (past_chosen routers tables sessions (at k) router p le)
        ]
          where
            read : ((peer : ℕ) → chosen_at (of k) peer p ≡ chosen_at (at k) peer p) → ReadAlike routers tables sessions (of k) (at k) router p
            read before = record {
              heard = λ place s e. before s.peer.0;
              inside = λ a q own same longer.
                  absurd (subst (In a) (no_aggregate routers plain router) (in_by_contains (aggregates_of routers router) a own));
            }

        module _ (alike : (q p : Cidr) → IsStandingFor l q p → AreAlike routers tables p q) where
          stands_in : (q p : Cidr) → IsStandingFor l q p → In p standing
          stands_in q p stands = in_by_get standing stands.place p stands.there

          -- each prefix has one that stands for it
          stands_for : (q : Cidr) → In q l.all.items → (p : Cidr) × IsStandingFor l q p
          stands_for q i =
              let some : Contains l.all.items q = contains_by_in l.all.items q i in
              let number = some.0 in
              let other : number < length l.places.items = omega (arith, is.count, some.1) in
              let place = get_or l.places.items number 0 in
              let p = get_or standing place q in (
                p,
                record {
                  number = number;
                  place = place;
                  here = slice_get-get_or l.all.items number q some.1 ∙ ap (λ (x : Cidr). Some x) some.2;
                  known = slice_get-get_or l.places.items number 0 other;
                  there = slice_get-get_or standing place q (is.within number 0 other);
                },
              )

          -- what is chosen of a prefix is what is chosen of the one that stands for it, moved
          spread_at : (k router : ℕ) (q p : Cidr) → IsStandingFor l q p → chosen_at (at k) router q ≡ map (moved q (network_at routers router q)) (chosen_at (of k) router p)
          spread_at k router q p stands =
              moved_after routers tables sessions p q k router formed plain (alike q p stands)
              ∙ ap (map (moved q (network_at routers router q))) (sym (same_over k router p (stands_in q p stands)))

          settled_all : (k : ℕ) → of (suc k) ≡ of k → at (suc k) ≡ at k
          settled_all k same = same_after routers tables sessions (suc k) k each
            where
              each : (router : ℕ) (q : Cidr) → chosen_at (at (suc k)) router q ≡ chosen_at (at k) router q
              each router q = elim (among same_prefix same_prefix_is same_itself q l.all.items) [
                | inl i ↦
                    let p = stands_for q i in
                    spread_at (suc k) router q p.0 p.1 ∙ ap (λ (t : List (List BgpRowView)). map (moved q (network_at routers router q)) (chosen_at t router p.0)) same ∙ sym (spread_at k router q p.0 p.1)
                | inr out ↦
                    let none : In q (prefixes routers) → ⊥ = λ i. out (subst (In q) (sym is.all) i) in
                    unknown_after (suc k) router q none ∙ sym (unknown_after k router q none)
              ]

          settled_of : (k : ℕ) → at (suc k) ≡ at k → of (suc k) ≡ of k
          settled_of k same = same_of standing routers tables sessions is.standing (suc k) k
              (λ router p i. same_over (suc k) router p i ∙ ap (λ (t : List (List BgpRowView)). chosen_at t router p) same ∙ sym (same_over k router p i))

          made_all : (k : ℕ) (made table : List (List BgpRowView)) → made ≡ of k → All AreChosen table → IsExpansion routers l made table → table ≡ at k
          made_all k made table is_of rows expansion = same_lists table (at k) (expansion.count ∙ ap length is_of ∙ count_of standing routers tables sessions k ∙ sym (after_count routers tables sessions k)) each
            where
              chosen : (router : ℕ) (q : Cidr) → chosen_at table router q ≡ chosen_at (at k) router q
              chosen router q = elim (among same_prefix same_prefix_is same_itself q l.all.items) [
                | inl i ↦
                    let p = stands_for q i in
                    expansion.moved router q p.0 p.1 ∙ ap (λ (t : List (List BgpRowView)). map (moved q (network_at routers router q)) (chosen_at t router p.0)) is_of ∙ sym (spread_at k router q p.0 p.1)
                | inr out ↦
                    expansion.others router q (λ some. out (in_by_contains l.all.items q some))
                    ∙ sym (unknown_after k router q (λ i. out (subst (In q) (sym is.all) i)))
              ]

              each : (r : ℕ) (d : List BgpRowView) → r < length table → get_or table r d ≡ get_or (at k) r d
              each r d lt =
                  let are : AreChosen (get_or table r d) = rows r d lt in
                  let mine : get_or table r d ≡ get_or table r [] = get_or_default table r d [] lt in
                  let other : r < length (at k) = subst (λ (n : ℕ). r < n) (expansion.count ∙ ap length is_of ∙ count_of standing routers tables sessions k ∙ sym (after_count routers tables sessions k)) lt in
                  same_rows (get_or table r d) (get_or (at k) r d)
                  are.ordered (subst (λ (x : List BgpRowView). AllPairs (λ a b. prefix_cmp a.prefix b.prefix ≡ Less) x) (get_or_default (at k) r [] d other) (after_up routers tables sessions k r))
                  are.some (subst (λ (x : List BgpRowView). All (λ row. 0 < length row.chosen) x) (get_or_default (at k) r [] d other) (after_some routers tables sessions k r))
                  (λ p. ap (λ (x : List BgpRowView). chosen_in x p) mine ∙ chosen r p ∙ ap (λ (x : List BgpRowView). chosen_in x p) (get_or_default (at k) r [] d other))

      -- ---- either way

      pub settled_over : (k : ℕ) → of (suc k) ≡ of k → at (suc k) ≡ at k
      settled_over k same = elim is.like [
        | inl whole ↦ sym (whole_of whole (suc k)) ∙ same ∙ whole_of whole k
        | inr like ↦ settled_all like.0 like.1 k same
      ]

      pub settled_in : (k : ℕ) → at (suc k) ≡ at k → of (suc k) ≡ of k
      settled_in k same = elim is.like [
        | inl whole ↦ whole_of whole (suc k) ∙ same ∙ sym (whole_of whole k)
        | inr like ↦ settled_of like.0 like.1 k same
      ]

      -- what is made of the table of those that stand for others is the table of all
      spread_all : (k : ℕ) (made table : List (List BgpRowView)) → made ≡ of k → All AreChosen table → IsSpread routers l made table → table ≡ at k
      spread_all k made table is_of rows (inl whole) = whole.1 ∙ is_of ∙ whole_of whole.0 k
      spread_all k made table is_of rows (inr expansion) = elim is.like [
        | inl whole ↦ absurd (expansion.0 whole)
        | inr like ↦ made_all like.0 like.1 k made table is_of rows expansion.1
      ]

      -- the state, where nothing differs any more
      pub stable_over : (k rounds : ℕ) (made table : List (List BgpRowView)) → k < rounds → made ≡ of (suc k) → of (suc k) ≡ of k → ((j : ℕ) → j < k → of (suc j) ≡ of j → ⊥) → All AreChosen table → IsSpread routers l made table
          → IsStable routers tables sessions rounds table
      unfolding after
      stable_over k rounds made table within is_of same before rows spread = record {
        count = k;
        within = within;
        settled = settled_over k same;
        least = λ j lt settled. before j lt (settled_in j settled);
        state = spread_all (suc k) made table is_of rows spread ∙ settled_over k same;
      }

      pub unstable_over : (rounds : ℕ) → ((j : ℕ) → j < rounds → of (suc j) ≡ of j → ⊥) → IsUnstable routers tables sessions rounds
      unfolding after
      unstable_over rounds before j lt settled = before j lt (settled_in j settled)

      -- the prefixes of aggregates are among those that stand for others
      pub known_over : HaveAggregates routers standing
      known_over router = elim is.like [
        | inl whole ↦ subst (λ (ps : List Cidr). All (λ (a : AggregateStatement). Contains ps a.prefix) (aggregates_of routers router)) (sym (whole ∙ is.all)) (aggregates_known routers router)
        | inr like ↦ subst (All (λ (a : AggregateStatement). Contains standing a.prefix)) (sym (no_aggregate routers like.0 router)) (All-nil (λ (a : AggregateStatement). Contains standing a.prefix))
      ]
