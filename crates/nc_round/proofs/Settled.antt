-- Rounds one behind the other, until nothing changes.
use Rattle.std.proofs.Common.{◌≡◌, ℕ, zero, suc, ◌<◌, ◌≤◌, List, [], ◌∷◌, length, get_or, sym, subst, ◌∙◌, arith}
use Rattle.std.proofs.lemmas.List.{same_lists, get_or_default, length-map}
use Rattle.std.proofs.lemmas.List.Elements.{All-nil}
use Rattle.nc_types.specs.Cidr.{Cidr}
use Rattle.nc_types.specs.Config.{ConfigView}
use Rattle.nc_tables.specs.declared.base.BaseRow.{BaseRow}
use Rattle.nc_tables.specs.declared.bgp.SessionRow.{SessionRow}
use Rattle.nc_tables.specs.Rounds.{BgpRowView, chosen_at, no_routes, prefixes, after}
use Rattle.nc_tables.proofs.InOrder.{Up, HaveSome, same_rows}
use Rattle.nc_round.specs.Changes.{HaveCandidates}
use Rattle.nc_round.proofs.NextRows.{next_count, next_up, next_some, next_few}

module _ (routers : List ConfigView) (tables : List (List BaseRow)) (sessions : List (List SessionRow)) where
  abbrev pub at : ℕ → List (List BgpRowView)
  at k = after routers tables sessions k

  -- no rows anywhere
  pub none_at : (P : List BgpRowView → Type 0) → P [] → (cs : List ConfigView) (r : ℕ) → P (get_or (no_routes cs) r [])
  none_at P none [] r = none
  none_at P none (c ∷ cs) zero = none
  none_at P none (c ∷ cs) (suc r) = none_at P none cs r

  pub after_count : (k : ℕ) → length (at k) ≡ length routers
  unfolding after
  after_count zero = length-map routers _
  after_count (suc k) = next_count routers tables sessions (at k)

  pub after_up : (k r : ℕ) → Up (get_or (at k) r [])
  unfolding after
  after_up zero r = none_at Up (λ i j d less lt. absurd (omega arith)) routers r
  after_up (suc k) r = next_up routers tables sessions (at k) r

  pub after_some : (k r : ℕ) → HaveSome (get_or (at k) r [])
  unfolding after
  after_some zero r = none_at HaveSome (All-nil (λ (row : BgpRowView). 0 < length row.chosen)) routers r
  after_some (suc k) r = next_some routers tables sessions (at k) r

  pub after_few : (k r : ℕ) → length (get_or (at k) r []) ≤ length (prefixes routers)
  unfolding after
  after_few zero r = none_at (λ (rows : List BgpRowView). length rows ≤ length (prefixes routers)) (omega arith) routers r
  after_few (suc k) r = next_few routers tables sessions (at k) r

  pub after_candidates : (k : ℕ) → HaveCandidates (at k)
  after_candidates k r d lt = subst HaveSome (get_or_default (at k) r [] d lt) (after_some k r)

  -- where nothing differs it is settled
  pub same_after : (k j : ℕ) → ((r : ℕ) (p : Cidr) → chosen_at (at k) r p ≡ chosen_at (at j) r p) → at k ≡ at j
  same_after k j same = same_lists (at k) (at j) (after_count k ∙ sym (after_count j)) rows
    where
      rows : (r : ℕ) (d : List BgpRowView) → r < length (at k) → get_or (at k) r d ≡ get_or (at j) r d
      rows r d lt =
          let other : r < length (at j) = omega (arith, after_count k, after_count j) in
          sym (get_or_default (at k) r [] d lt)
          ∙ same_rows (get_or (at k) r []) (get_or (at j) r []) (after_up k r) (after_up j r) (after_some k r) (after_some j r) (same r)
          ∙ get_or_default (at j) r [] d other
