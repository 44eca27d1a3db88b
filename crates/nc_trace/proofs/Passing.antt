-- Ways that pass a test pass a weaker one.
use Rattle.std.proofs.Common.{◌≡◌, ℕ, Bool, true, false, ◌||◌, nat_lt, List, [], ◌∷◌, length, refl, sym, ap, ◌∙◌}
use Rattle.std.specs.List.{list_any, list_all}
use Rattle.std.proofs.lemmas.Bool.{and_parts, and_from, or_left, or_right}
use Rattle.nc_types.proofs.Truth.{same_truth}
use Rattle.nc_tables.specs.Forwarding.{Outcome, Deliver, Go, Lost, Alternative, arrives_by, alternatives}
use Rattle.nc_tables.specs.Reach.{owns}
use Rattle.nc_tables.specs.State.{StateView}
use Rattle.nc_trace.specs.Traced.{ways_pass}
use Rattle.nc_trace.specs.declared.packet.By.{By}
use Rattle.nc_trace.specs.Found.{ways_out}
use Rattle.nc_trace.specs.Packets.{packet_of, is_each}
use Rattle.nc_trace.specs.Levels.{passes, passes_as}

module _ (f g : ℕ → Bool) (weaker : (r : ℕ) → f r ≡ true → g r ≡ true) where
  arrives_more : (o : Outcome) → arrives_by f o ≡ true → arrives_by g o ≡ true
  arrives_more Deliver e = refl
  arrives_more (Go next) e = weaker next.router e
  arrives_more Lost e = absurd cc

  some_more : (ways : List Alternative) → list_any (λ way. arrives_by f way.outcome) ways ≡ true → list_any (λ way. arrives_by g way.outcome) ways ≡ true
  some_more [] e = absurd cc
  some_more (way ∷ ways) e = by_first (arrives_by f way.outcome) refl e (some_more ways)
    where
      by_first : (b : Bool) → arrives_by f way.outcome ≡ b → (b || list_any (λ (w : Alternative). arrives_by f w.outcome) ways) ≡ true
          → (list_any (λ (w : Alternative). arrives_by f w.outcome) ways ≡ true → list_any (λ (w : Alternative). arrives_by g w.outcome) ways ≡ true)
          → list_any (λ (w : Alternative). arrives_by g w.outcome) (way ∷ ways) ≡ true
      by_first true here e later = or_left (arrives_by g way.outcome) (list_any (λ (w : Alternative). arrives_by g w.outcome) ways) (arrives_more way.outcome here)
      by_first false here e later = or_right (arrives_by g way.outcome) (list_any (λ (w : Alternative). arrives_by g w.outcome) ways) (later e)

  each_more : (ways : List Alternative) → list_all (λ way. arrives_by f way.outcome) ways ≡ true → list_all (λ way. arrives_by g way.outcome) ways ≡ true
  each_more [] e = refl
  each_more (way ∷ ways) e =
      let both = and_parts (arrives_by f way.outcome) (list_all (λ (w : Alternative). arrives_by f w.outcome) ways) e in
      and_from (arrives_by g way.outcome) (list_all (λ (w : Alternative). arrives_by g w.outcome) ways) (arrives_more way.outcome both.0) (each_more ways both.1)

  pub pass_more : (every : Bool) (ways : List Alternative) → ways_pass every (λ way. arrives_by f way.outcome) ways ≡ true → ways_pass every (λ way. arrives_by g way.outcome) ways ≡ true
  pass_more true ways e =
      let both = and_parts (nat_lt 0 (length ways)) (list_all (λ (w : Alternative). arrives_by f w.outcome) ways) e in
      and_from (nat_lt 0 (length ways)) (list_all (λ (w : Alternative). arrives_by g w.outcome) ways) both.0 (each_more ways both.1)
  pass_more false ways e = some_more ways e

  -- so do routers
  pub passes_more : (s : StateView) (every : Bool) (addr router : ℕ) → passes s every addr f router ≡ true → passes s every addr g router ≡ true
  passes_more s every addr router e = by_own (owns s.routers router addr) e
    where
      by_own : (own : Bool) → (own || ways_pass every (λ way. arrives_by f way.outcome) (alternatives s.routers s.base s.bgp s.main router addr)) ≡ true
          → (own || ways_pass every (λ way. arrives_by g way.outcome) (alternatives s.routers s.base s.bgp s.main router addr)) ≡ true
      by_own true e = refl
      by_own false e = pass_more every (alternatives s.routers s.base s.bgp s.main router addr) e

-- equal tests are passed alike
pub passes_same : (f g : ℕ → Bool) → ((r : ℕ) → f r ≡ g r) → (s : StateView) (every : Bool) (addr router : ℕ) → passes s every addr f router ≡ passes s every addr g router
passes_same f g same s every addr router =
    same_truth (passes s every addr f router) (passes s every addr g router)
    (passes_more f g (λ r e. sym (same r) ∙ e) s every addr router)
    (passes_more g f (λ r e. same r ∙ e) s every addr router)

-- the ways decide where the address isn't the router's own
pub by_ways : (s : StateView) (every : Bool) (addr router : ℕ) (f : ℕ → Bool) → owns s.routers router addr ≡ false
    → ways_pass every (λ way. arrives_by f way.outcome) (alternatives s.routers s.base s.bgp s.main router addr) ≡ passes s every addr f router
by_ways s every addr router f other = sym (ap (λ (own : Bool). own || ways_pass every (λ way. arrives_by f way.outcome) (alternatives s.routers s.base s.bgp s.main router addr)) other)

pub by_owner : (s : StateView) (every : Bool) (addr router : ℕ) (f : ℕ → Bool) → owns s.routers router addr ≡ true → true ≡ passes s every addr f router
by_owner s every addr router f own = sym (ap (λ (b : Bool). b || ways_pass every (λ way. arrives_by f way.outcome) (alternatives s.routers s.base s.bgp s.main router addr)) own)

-- ---- the same of the ways as a packet takes them

module _ (s : StateView) (by : By) (addr router : ℕ) where
  abbrev ways_lead : (ℕ → Bool) → Bool
  ways_lead f = ways_pass (is_each by) (λ way. arrives_by f way.outcome) (ways_out s (packet_of by addr) router)

  pub passes_more_as : (f g : ℕ → Bool) → ((r : ℕ) → f r ≡ true → g r ≡ true) → passes_as s by addr f router ≡ true → passes_as s by addr g router ≡ true
  passes_more_as f g weaker e = by_own (owns s.routers router addr) e
    where
      by_own : (own : Bool) → (own || ways_lead f) ≡ true → (own || ways_lead g) ≡ true
      by_own true e = refl
      by_own false e = pass_more f g weaker (is_each by) (ways_out s (packet_of by addr) router) e

  pub by_ways_as : (f : ℕ → Bool) → owns s.routers router addr ≡ false → ways_lead f ≡ passes_as s by addr f router
  by_ways_as f other = sym (ap (λ (own : Bool). own || ways_lead f) other)

  pub by_owner_as : (f : ℕ → Bool) → owns s.routers router addr ≡ true → true ≡ passes_as s by addr f router
  by_owner_as f own = sym (ap (λ (b : Bool). b || ways_lead f) own)
