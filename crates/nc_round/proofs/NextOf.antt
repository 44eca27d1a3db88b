-- The rows of the next table over some prefixes in order: of each of these what is chosen anew, and of others nothing.
use Rattle.std.proofs.Common.{◌≡◌, ℕ, ◌<◌, ◌≤◌, List, [], length, get_or, sym, ap, subst, ◌∙◌, arith, inl, inr}
use Rattle.std.specs.List.{filter_map}
use Rattle.std.proofs.lemmas.Bool.{cases_lt}
use Rattle.std.proofs.lemmas.List.Elements.{All-nil}
use Rattle.std.proofs.lemmas.List.FromFn.{length-map-range_with_len}
use Rattle.nc_types.specs.Cidr.{Cidr}
use Rattle.nc_types.specs.Config.{ConfigView}
use Rattle.nc_types.proofs.Members.{In}
use Rattle.nc_tables.specs.declared.base.BaseRow.{BaseRow}
use Rattle.nc_tables.specs.declared.bgp.SessionRow.{SessionRow}
use Rattle.nc_tables.specs.LocRibs.{Ascend}
use Rattle.nc_tables.specs.Rounds.{BgpRowView, chosen_in, chosen_at, chosen_anew, row_at}
use Rattle.nc_tables.proofs.InOrder.{Up, HaveSome}
use Rattle.nc_round.specs.Next.{round_of}
use Rattle.nc_round.proofs.Lists.{made_at, made_past}
use Rattle.nc_round.proofs.NextRows.{found_anew, found_none, made_up, made_have}

module _ (prefixes : List Cidr) (routers : List ConfigView) (tables : List (List BaseRow)) (sessions : List (List SessionRow)) (table : List (List BgpRowView)) where
  abbrev rows_of : ℕ → List BgpRowView
  rows_of router = filter_map (row_at routers tables sessions table router) prefixes

  abbrev made : List (List BgpRowView)
  made = round_of prefixes routers tables sessions table

  pub made_count : length made ≡ length routers
  made_count = length-map-range_with_len rows_of 0 (length routers)

  made_there : (router : ℕ) → router < length routers → get_or made router [] ≡ rows_of router
  made_there router lt = made_at rows_of (length routers) router lt

  made_beyond : (router : ℕ) → length routers ≤ router → get_or made router [] ≡ []
  made_beyond router le = made_past rows_of (length routers) router le

  pub beyond_chosen : (router : ℕ) (p : Cidr) → length routers ≤ router → chosen_at made router p ≡ []
  beyond_chosen router p le = ap (λ (rows : List BgpRowView). chosen_in rows p) (made_beyond router le)

  pub made_ascends : Ascend prefixes → (router : ℕ) → Up (get_or made router [])
  made_ascends up router = elim (cases_lt router (length routers)) [
    | inl lt ↦ subst Up (sym (made_there router lt)) (made_up (chosen_anew routers tables sessions table router) prefixes up)
    | inr le ↦ subst Up (sym (made_beyond router le)) (λ i j d less lt. absurd (omega arith))
  ]

  pub made_some_there : (router : ℕ) → HaveSome (get_or made router [])
  made_some_there router = elim (cases_lt router (length routers)) [
    | inl lt ↦ subst HaveSome (sym (made_there router lt)) (made_have (chosen_anew routers tables sessions table router) prefixes)
    | inr le ↦ subst HaveSome (sym (made_beyond router le)) (All-nil (λ (row : BgpRowView). 0 < length row.chosen))
  ]

  pub others_none : (router : ℕ) (p : Cidr) → (In p prefixes → ⊥) → chosen_at made router p ≡ []
  others_none router p none = elim (cases_lt router (length routers)) [
    | inl lt ↦ ap (λ (rows : List BgpRowView). chosen_in rows p) (made_there router lt) ∙ found_none (chosen_anew routers tables sessions table router) prefixes p none
    | inr le ↦ beyond_chosen router p le
  ]

  pub inside_anew : (router : ℕ) (p : Cidr) → router < length routers → In p prefixes → chosen_at made router p ≡ chosen_anew routers tables sessions table router p
  inside_anew router p lt i =
      ap (λ (rows : List BgpRowView). chosen_in rows p) (made_there router lt) ∙ found_anew (chosen_anew routers tables sessions table router) prefixes p (inl i)
