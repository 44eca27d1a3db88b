-- Whether a packet arrives over so many hops from a router that is asked about is made of one step for each hop.
use Rattle.std.proofs.Common.{◌≡◌, ℕ, suc, ◌≤◌, Bool, true, false, ◌&&◌, ◌||◌, nat_lt, List, [], ◌∷◌, length, Option, None, Some, refl, sym, ap, subst, ◌∙◌, arith, inl, inr}
use Rattle.std.specs.List.{All, list_any, list_all, slice_index_or}
use Rattle.std.specs.Option.{ForSome}
use Rattle.std.proofs.lemmas.Bool.{and_parts, and_from}
use Rattle.nc_tables.specs.Forwarding.{Outcome, Deliver, Go, Lost, Alternative, arrives_by}
use Rattle.nc_tables.specs.Reach.{owns}
use Rattle.nc_tables.specs.State.{StateView}
use Rattle.nc_tables.proofs.Owner.{some_is}
use Rattle.nc_underlay.proofs.Fewest.{IsStepped}
use Rattle.nc_trace.specs.declared.packet.By.{By}
use Rattle.nc_trace.specs.Found.{FoundWays, covers, GoesTo, IsCoveredOrNone, IsFoundTo, ways_out}
use Rattle.nc_trace.specs.Packets.{packet_of, is_each}
use Rattle.nc_trace.specs.Traced.{ways_pass, arrives_as, IsNone}
use Rattle.nc_trace.specs.Levels.{is_asked, passes_as, step, over}
use Rattle.nc_trace.proofs.Finding.{goes_more, leads_by}
use Rattle.nc_trace.proofs.Passing.{passes_more_as}
use Rattle.nc_trace.proofs.Beyond.{no_hop_as, one_hop_as}

-- ---- tests that agree where packets go on

module _ (f g : ℕ → Bool) where
  abbrev Agree : Outcome → Type 0
  Agree o = GoesTo (λ (r : ℕ). f r ≡ g r) o

  pub arrives_same : (o : Outcome) → Agree o → arrives_by f o ≡ arrives_by g o
  arrives_same Deliver same = refl
  arrives_same (Go next) same = same
  arrives_same Lost same = refl

  some_same : (ways : List Alternative) → All (λ (way : Alternative). Agree way.outcome) ways → list_any (λ way. arrives_by f way.outcome) ways ≡ list_any (λ way. arrives_by g way.outcome) ways
  some_same [] all = refl
  some_same (way ∷ ways) all =
      ap (λ (b : Bool). b || list_any (λ (w : Alternative). arrives_by f w.outcome) ways) (arrives_same way.outcome (all 0 way (omega arith)))
      ∙ ap (λ (b : Bool). arrives_by g way.outcome || b) (some_same ways (λ k d lt. all (suc k) d (omega (arith, lt))))

  each_same : (ways : List Alternative) → All (λ (way : Alternative). Agree way.outcome) ways → list_all (λ way. arrives_by f way.outcome) ways ≡ list_all (λ way. arrives_by g way.outcome) ways
  each_same [] all = refl
  each_same (way ∷ ways) all =
      ap (λ (b : Bool). b && list_all (λ (w : Alternative). arrives_by f w.outcome) ways) (arrives_same way.outcome (all 0 way (omega arith)))
      ∙ ap (λ (b : Bool). arrives_by g way.outcome && b) (each_same ways (λ k d lt. all (suc k) d (omega (arith, lt))))

  pass_same : (every : Bool) (ways : List Alternative) → All (λ (way : Alternative). Agree way.outcome) ways → ways_pass every (λ way. arrives_by f way.outcome) ways ≡ ways_pass every (λ way. arrives_by g way.outcome) ways
  pass_same true ways all = ap (λ (b : Bool). nat_lt 0 (length ways) && b) (each_same ways all)
  pass_same false ways all = some_same ways all

pub and_false : (b : Bool) → (b && false) ≡ false
and_false true = refl
and_false false = refl

module _ (s : StateView) (by : By) (addr : ℕ) (none : (router : ℕ) → length s.routers ≤ router → IsNone s addr router) where
  module _ (found : FoundWays) (is : IsFoundTo s (packet_of by addr) found) where
    -- where the ways that were found lead, and from where no packet arrives
    pub told : (hops router : ℕ) → IsCoveredOrNone (length s.routers) found router → arrives_as s by hops router addr ≡ over s by addr (Some found) hops router
    told hops router there = elim there [
      | inl e ↦ sym (ap (λ (b : Bool). b && arrives_as s by hops router addr) e)
      | inr past ↦
          let no = (none router past).over by hops in
          no ∙ sym (ap (λ (b : Bool). covers found router && b) no ∙ and_false (covers found router))
    ]

    by_found : (hops router : ℕ) (asked : Bool) → covers found router ≡ asked
        → (asked && passes_as s by addr (λ next. arrives_as s by hops next addr) router) ≡ (asked && passes_as s by addr (over s by addr (Some found) hops) router)
    by_found hops router false e = refl
    by_found hops router true e =
        ap (λ (b : Bool). owns s.routers router addr || b)
        (pass_same (λ (next : ℕ). arrives_as s by hops next addr) (over s by addr (Some found) hops) (is_each by) (ways_out s (packet_of by addr) router)
        (λ k d lt. goes_more (IsCoveredOrNone (length s.routers) found) _ (told hops) (slice_index_or (ways_out s (packet_of by addr) router) k d).outcome (leads_by s (packet_of by addr) found is.closed router e k d lt)))

  alike : (found : Option FoundWays) → ForSome found (IsFoundTo s (packet_of by addr)) → (hops router : ℕ)
      → (is_asked found router && passes_as s by addr (λ next. arrives_as s by hops next addr) router) ≡ step s by addr found (over s by addr found hops) router
  alike None is hops router = refl
  alike (Some found) is hops router = by_found found (is found refl) hops router (covers found router) refl

  pub stepped : (found : Option FoundWays) → ForSome found (IsFoundTo s (packet_of by addr)) → IsStepped (over s by addr found) (step s by addr found)
  stepped found is = record {
    none = λ router. ap (λ (b : Bool). is_asked found router && b) (no_hop_as s by addr router);
    more = λ hops router. ap (λ (b : Bool). is_asked found router && b) (one_hop_as s by addr hops router) ∙ alike found is hops router;
    wider = λ f g weaker router e.
        let both = and_parts (is_asked found router) (passes_as s by addr f router) e in
        and_from (is_asked found router) (passes_as s by addr g router) both.0 (passes_more_as s by addr router f g weaker both.1);
  }

  pub found_stepped : (found : FoundWays) → IsFoundTo s (packet_of by addr) found → IsStepped (over s by addr (Some found)) (step s by addr (Some found))
  found_stepped found is = stepped (Some found) (λ other e. subst (IsFoundTo s (packet_of by addr)) (some_is found other e) is)

  -- so where each is asked about
  pub all_stepped : IsStepped (over s by addr None) (step s by addr None)
  all_stepped = stepped None (λ found e. absurd cc)

  -- from a router that doesn't exist no packet arrives
  pub not_over : (found : Option FoundWays) (hops router : ℕ) → length s.routers ≤ router → over s by addr found hops router ≡ false
  not_over found hops router past = ap (λ (b : Bool). is_asked found router && b) ((none router past).over by hops) ∙ and_false (is_asked found router)
