-- Rounds over some prefixes, one behind the other, until nothing changes.
use Rattle.std.proofs.Common.{◌≡◌, ℕ, zero, suc, ◌<◌, List, [], length, get_or, sym, ap, subst, ◌∙◌, arith, inl, inr}
use Rattle.std.proofs.lemmas.Bool.{cases_lt}
use Rattle.std.proofs.lemmas.List.{same_lists, get_or_default, length-map}
use Rattle.std.proofs.lemmas.List.Elements.{All-nil}
use Rattle.nc_types.specs.Cidr.{Cidr, same_prefix}
use Rattle.nc_types.specs.Config.{ConfigView}
use Rattle.nc_types.proofs.Members.{In}
use Rattle.nc_types.proofs.Sameness.{same_prefix_is}
use Rattle.nc_tables.specs.declared.base.BaseRow.{BaseRow}
use Rattle.nc_tables.specs.declared.bgp.SessionRow.{SessionRow}
use Rattle.nc_tables.specs.LocRibs.{Ascend}
use Rattle.nc_tables.specs.Rounds.{BgpRowView, chosen_at, no_routes}
use Rattle.nc_tables.proofs.ByPrefix.{same_itself}
use Rattle.nc_tables.proofs.InOrder.{Up, HaveSome, same_rows}
use Rattle.nc_round.specs.Keys.{Key, key}
use Rattle.nc_round.specs.Changes.{HaveCandidates, IsDifference, IsRoundOver}
use Rattle.nc_round.specs.Next.{round_of}
use Rattle.nc_round.proofs.Lists.{among}
use Rattle.nc_round.proofs.NextOf.{made_count, made_ascends, made_some_there, others_none}
use Rattle.nc_round.proofs.Settled.{none_at}
use Rattle.nc_round.proofs.Woken.{none_there}

module _ (prefixes : List Cidr) (routers : List ConfigView) (tables : List (List BaseRow)) (sessions : List (List SessionRow)) where
  -- the table after so many rounds over the prefixes
  unfoldable pub after_of : ℕ → List (List BgpRowView)
  after_of zero = no_routes routers
  after_of (suc k) = round_of prefixes routers tables sessions (after_of k)

  pub count_of : (k : ℕ) → length (after_of k) ≡ length routers
  unfolding after_of
  count_of zero = length-map routers _
  count_of (suc k) = made_count prefixes routers tables sessions (after_of k)

  some_of : (k r : ℕ) → HaveSome (get_or (after_of k) r [])
  unfolding after_of
  some_of zero r = none_at routers tables sessions HaveSome (All-nil (λ (row : BgpRowView). 0 < length row.chosen)) routers r
  some_of (suc k) r = made_some_there prefixes routers tables sessions (after_of k) r

  pub candidates_of : (k : ℕ) → HaveCandidates (after_of k)
  candidates_of k r d lt = subst HaveSome (get_or_default (after_of k) r [] d lt) (some_of k r)

  -- of others nothing is chosen
  pub none_of : (k r : ℕ) (p : Cidr) → (In p prefixes → ⊥) → chosen_at (after_of k) r p ≡ []
  unfolding after_of
  none_of zero r p out = none_there routers r p
  none_of (suc k) r p out = others_none prefixes routers tables sessions (after_of k) r p out

  -- a round changes nothing behind so many rounds
  abbrev pub IsSettledOf : ℕ → Type 0
  IsSettledOf k = after_of (suc k) ≡ after_of k

  -- the table after one more round than so many, and the rows in which it differs from the one before; each round before changed something
  pub record IsRunOf (k : ℕ) (made : List (List BgpRowView)) (differ : List Key) : Type 0 where
    pub table : made ≡ after_of (suc k)
    pub changed : IsDifference (after_of k) made differ
    pub before : (j : ℕ) → j < k → IsSettledOf j → ⊥

  module _ (up : Ascend prefixes) where
    up_of : (k r : ℕ) → Up (get_or (after_of k) r [])
    unfolding after_of
    up_of zero r = none_at routers tables sessions Up (λ i j d less lt. absurd (omega arith)) routers r
    up_of (suc k) r = made_ascends prefixes routers tables sessions (after_of k) up r

    -- tables in which the same is chosen of each of the prefixes are the same
    pub same_of : (k j : ℕ) → ((r : ℕ) (p : Cidr) → In p prefixes → chosen_at (after_of k) r p ≡ chosen_at (after_of j) r p) → after_of k ≡ after_of j
    same_of k j same = same_lists (after_of k) (after_of j) (count_of k ∙ sym (count_of j)) rows
      where
        each : (r : ℕ) (p : Cidr) → chosen_at (after_of k) r p ≡ chosen_at (after_of j) r p
        each r p = elim (among same_prefix same_prefix_is same_itself p prefixes) [
          | inl i ↦ same r p i
          | inr out ↦ none_of k r p out ∙ sym (none_of j r p out)
        ]

        rows : (r : ℕ) (d : List BgpRowView) → r < length (after_of k) → get_or (after_of k) r d ≡ get_or (after_of j) r d
        rows r d lt =
            let other : r < length (after_of j) = omega (arith, count_of k, count_of j) in
            sym (get_or_default (after_of k) r [] d lt)
            ∙ same_rows (get_or (after_of k) r []) (get_or (after_of j) r []) (up_of k r) (up_of j r) (some_of k r) (some_of j r) (each r)
            ∙ get_or_default (after_of j) r [] d other

    module _ (table : List (List BgpRowView)) (changed : List Key) where
      pub start_of : table ≡ round_of prefixes routers tables sessions (no_routes routers) → IsDifference (no_routes routers) table changed → IsRunOf 0 table changed
      unfolding after_of
      start_of made difference = record { table = made; changed = difference; before = λ k lt. absurd (omega arith) }

      module _ (k : ℕ) (run : IsRunOf k table changed) where
        pub made_of : IsRoundOver routers tables sessions prefixes (after_of k) table changed
        unfolding after_of
        made_of = record { count = count_of k; some = candidates_of k; made = run.table; difference = run.changed }

        -- nothing differs: it is settled
        pub stop_of : length changed ≡ 0 → IsSettledOf k
        stop_of none = sym (same_of k (suc k) (λ r p i. run.changed.all r p (λ some. let lt : some.0 < length changed = some.1 in absurd (omega arith)) ∙ ap (λ (t : List (List BgpRowView)). chosen_at t r p) run.table))

        -- something differs: one more round that changed something
        pub on_of : 0 < length changed → (j : ℕ) → j < suc k → IsSettledOf j → ⊥
        on_of some j lt same = elim (cases_lt j k) [
          | inl less ↦ run.before j less same
          | inr le ↦
              let here : j ≡ k = omega arith in
              let is : after_of (suc k) ≡ after_of k = subst IsSettledOf here same in
              let q : Key = get_or changed 0 (key 0 (record { base = 0; len = 0 })) in
              absurd (run.changed.differ 0 (key 0 (record { base = 0; len = 0 })) some (ap (λ (t : List (List BgpRowView)). chosen_at t q.0.0 q.1) (sym is ∙ sym run.table)))
        ]

    pub more_of : (k : ℕ) (table next : List (List BgpRowView)) (changed more : List Key) → IsRunOf k table changed → 0 < length changed → next ≡ round_of prefixes routers tables sessions table → IsDifference table next more → IsRunOf (suc k) next more
    unfolding after_of
    more_of k table next changed more run some made difference = record {
      table = made ∙ ap (round_of prefixes routers tables sessions) run.table;
      changed = subst (λ (t : List (List BgpRowView)). IsDifference t next more) run.table difference;
      before = on_of table changed k run some;
    }
