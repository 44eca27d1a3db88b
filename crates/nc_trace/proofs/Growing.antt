-- Where the ways of one router more are found.
use Rattle.std.proofs.Common.{◌≡◌, ◌≢◌, ◌⊎◌, ℕ, ◌<◌, ◌≤◌, Bool, true, false, nat_eq, List, length, Some, refl, sym, ap, subst, ◌∙◌, arith, inl, inr}
use Rattle.std.specs.List.{All, slice_get, slice_index_or}
use Rattle.std.specs.Option.{is_some}
use Rattle.std.proofs.lemmas.Bool.{eqb-true, eq-eqb}
use Rattle.std.proofs.lemmas.Option.{slice_get_within}
use Rattle.nc_types.specs.declared.config.RouterId.{RouterId}
use Rattle.nc_tables.specs.State.{StateView}
use Rattle.nc_tables.specs.Forwarding as defined
use Rattle.nc_tables.proofs.Owner.{some_is}
use Rattle.nc_trace.specs.declared.packet.Packet.{Packet}
use Rattle.nc_trace.specs.Found.{FoundWays, found_at, covers, GoesTo, IsListed, IsListedOrNone, IsCoveredOrNone, IsCoveredOrListed, IsFoundTo, AreWays, LeadTo, ways_out}
use Rattle.nc_trace.proofs.Finding.{AreKept, goes_more}

module _ (s : StateView) (p : Packet) (old new : FoundWays) (router : ℕ) (found : found_at new router ≡ Some (ways_out s p router)) (others : (other : ℕ) → other ≢ router → found_at new other ≡ found_at old other) where
  same : (r : ℕ) → (r ≡ router) ⊎ (found_at new r ≡ found_at old r)
  same r = by (nat_eq r router) refl
    where
      by : (b : Bool) → nat_eq r router ≡ b → (r ≡ router) ⊎ (found_at new r ≡ found_at old r)
      by true e = inl (eqb-true r router e)
      by false e = inr (others r (λ is. let yes = eq-eqb r router is in absurd cc))

  pub more : (r : ℕ) → covers old r ≡ true → covers new r ≡ true
  more r there = elim (same r) [
    | inl e ↦ ap is_some (ap (found_at new) e ∙ found)
    | inr e ↦ ap is_some e ∙ there
  ]

  pub ways_right : AreWays s p old → AreWays s p new
  ways_right right r ways e = elim (same r) [
    | inl is ↦ some_is ways (ways_out s p router) (sym e ∙ ap (found_at new) is ∙ found) ∙ ap (ways_out s p) (sym is)
    | inr is ↦ right r ways (sym is ∙ e)
  ]

  module _ (count : ℕ) (before after : List RouterId) (kept : AreKept before after) where
    lifted : (r : ℕ) → IsCoveredOrListed count before old r → IsCoveredOrListed count after new r
    lifted r (inl (inl there)) = inl (inl (more r there))
    lifted r (inl (inr past)) = inl (inr past)
    lifted r (inr listed) = inr (record { place = listed.place; at = kept listed.place (record { 0 = r }) listed.at })

    listed_now : (r : ℕ) → IsListedOrNone count after r → IsCoveredOrListed count after new r
    listed_now r (inl listed) = inr listed
    listed_now r (inr past) = inl (inr past)

    pub leads_on : LeadTo s p (IsCoveredOrListed count before old) old → All (λ way. GoesTo (IsListedOrNone count after) way.outcome) (ways_out s p router)
        → LeadTo s p (IsCoveredOrListed count after new) new
    leads_on leads goes r there = elim (same r) [
      | inl e ↦ subst (λ (x : ℕ). All (λ (way : defined.Alternative). GoesTo (IsCoveredOrListed count after new) way.outcome) (ways_out s p x)) (sym e)
          (λ k d lt. goes_more (IsListedOrNone count after) (IsCoveredOrListed count after new) listed_now (slice_index_or (ways_out s p router) k d).outcome (goes k d lt))
      | inr e ↦ λ k d lt. goes_more (IsCoveredOrListed count before old) (IsCoveredOrListed count after new) lifted (slice_index_or (ways_out s p r) k d).outcome (leads r (sym (ap is_some e) ∙ there) k d lt)
    ]

-- where more is found, a router that was included still is
pub still_included : (count : ℕ) (old new : FoundWays) → ((r : ℕ) → covers old r ≡ true → covers new r ≡ true) → (r : ℕ) → IsCoveredOrNone count old r → IsCoveredOrNone count new r
still_included count old new more r (inl there) = inl (more r there)
still_included count old new more r (inr past) = inr past

-- where the same is found, it is right as before
pub found_same : (s : StateView) (p : Packet) (old new : FoundWays) → ((r : ℕ) → found_at new r ≡ found_at old r) → IsFoundTo s p old → IsFoundTo s p new
found_same s p old new same is = record {
  ways = λ r ways e. is.ways r ways (sym (same r) ∙ e);
  closed = λ r place way next there at goes within. ap is_some (same next.router) ∙ is.closed r place way next (sym (ap is_some (same r)) ∙ there) at goes within;
}

-- the router at a place was looked at
pub record IsDone (count : ℕ) (list : List RouterId) (found : FoundWays) (place : ℕ) : Type 0 where
  pub router : RouterId
  pub at : slice_get list place ≡ Some router
  pub covered : IsCoveredOrNone count found router.0

-- it stays so
pub done_still : (count : ℕ) (before after : List RouterId) (old new : FoundWays) → AreKept before after → ((r : ℕ) → covers old r ≡ true → covers new r ≡ true) → (place : ℕ) → IsDone count before old place → IsDone count after new place
done_still count before after old new kept more place done = record { router = done.router; at = kept place done.router done.at; covered = still_included count old new more done.router.0 done.covered }

-- where all of a list were, each of them is covered
pub all_done : (count : ℕ) (list : List RouterId) (found : FoundWays) (last : ℕ) → length list ≤ last → ((place : ℕ) → place < last → IsDone count list found place) → (r : ℕ) → IsListed list r → IsCoveredOrNone count found r
all_done count list found last le done r listed =
    let here = done listed.place (omega (arith, le, slice_get_within list listed.place (record { 0 = r }) listed.at)) in
    subst (λ (n : ℕ). IsCoveredOrNone count found n) (ap (λ (id : RouterId). id.0) (some_is here.router (record { 0 = r }) (sym here.at ∙ listed.at))) here.covered

pub closed_then : (s : StateView) (p : Packet) (count : ℕ) (list : List RouterId) (found : FoundWays) → ((r : ℕ) → IsListed list r → IsCoveredOrNone count found r) → LeadTo s p (IsCoveredOrListed count list found) found → LeadTo s p (IsCoveredOrNone count found) found
closed_then s p count list found covered leads r there k d lt = goes_more (IsCoveredOrListed count list found) (IsCoveredOrNone count found) told (slice_index_or (ways_out s p r) k d).outcome (leads r there k d lt)
  where
    told : (next : ℕ) → IsCoveredOrListed count list found next → IsCoveredOrNone count found next
    told next (inl is) = is
    told next (inr listed) = covered next listed
