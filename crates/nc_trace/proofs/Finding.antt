-- What is found stays found.
use Rattle.std.proofs.Common.{◌≡◌, ℕ, zero, suc, ◌-◌, ◌<◌, ◌≤◌, true, false, List, [], ◌∷◌, ◌++◌, length, map, take, drop, replicate, get_or, Option, Some, None, refl, sym, ap, subst, ◌∙◌, arith, inl, inr}
use Rattle.std.specs.List.{All, slice_get, slice_index_or}
use Rattle.std.specs.Option.{is_some, option_map, ForSome}
use Rattle.std.proofs.lemmas.List.{take-append-drop, take-append-le, drop-append-le, length-map, length-drop, take_all, drop-map, map_push}
use Rattle.std.proofs.Math.Seq.{drop-append_seam}
use Rattle.std.proofs.lemmas.Bool.{cases_lt}
use Rattle.std.proofs.lemmas.List.Elements.{All-append}
use Rattle.std.proofs.lemmas.Option.{get_or_from_slice_get, slice_get_within, slice_get-get_or}
use Rattle.nc_tables.specs.State.{StateView}
use Rattle.nc_types.specs.declared.config.RouterId.{RouterId}
use Rattle.nc_tables.specs.Forwarding as defined
use Rattle.nc_trace.specs.declared.alternative.Alternative.{Alternative}
use Rattle.nc_trace.specs.declared.packet.Packet.{Packet}
use Rattle.nc_trace.specs.declared.span.Span.{Span}
use Rattle.nc_trace.specs.Found.{found_at, found_view, in_span, IsWithin, AreWithin, GoesTo, IsListedOrNone, FoundWays, covers, ways_out, IsCoveredOrNone, IsClosed, LeadTo}
use Rattle.nc_trace.specs.Views.{alternative_view}

none_yet : {A : Type 0} (n router : ℕ) → get_or {A = Option A} (replicate n None) router None ≡ None
none_yet zero router = refl
none_yet (suc n) zero = refl
none_yet (suc n) (suc router) = none_yet n router

pub at_view : (spans : List (Option Span)) (ways : List Alternative) (router : ℕ) → found_at (found_view spans ways) router ≡ option_map (in_span ways) (slice_index_or spans router None)
at_view [] ways router = refl
at_view (span ∷ spans) ways zero = refl
at_view (span ∷ spans) ways (suc router) = at_view spans ways router

-- nothing is found at first
pub no_span : (spans : List (Option Span)) → spans ≡ [] → (router : ℕ) → slice_index_or spans router None ≡ None
no_span spans none router = ap (λ (xs : List (Option Span)). slice_index_or xs router None) none

pub none_found : (spans : List (Option Span)) (ways : List Alternative) → spans ≡ [] → (router : ℕ) → found_at (found_view spans ways) router ≡ None
none_found spans ways none router = at_view spans ways router ∙ ap (option_map (in_span ways)) (no_span spans none router)

-- room for more has none either
pub same_span : (spans : List (Option Span)) (n router : ℕ) → slice_index_or (spans ++ replicate n None) router None ≡ slice_index_or spans router None
same_span [] n router = none_yet n router
same_span (span ∷ spans) n zero = refl
same_span (span ∷ spans) n (suc router) = same_span spans n router

pub same_found : (spans more : List (Option Span)) (ways : List Alternative) → ((router : ℕ) → slice_index_or more router None ≡ slice_index_or spans router None)
    → (router : ℕ) → found_at (found_view more ways) router ≡ found_at (found_view spans ways) router
same_found spans more ways same router = at_view more ways router ∙ ap (option_map (in_span ways)) (same router) ∙ sym (at_view spans ways router)

-- for how many there is room
pub room_of : (spans : List (Option Span)) (ways : List Alternative) (found : FoundWays) → found_view spans ways ≡ found → length found ≡ length spans
room_of spans ways found is = sym (ap (λ (f : FoundWays). length f) is) ∙ length-map spans (option_map (in_span ways))

-- whether it has one
pub some_span : (spans : List (Option Span)) (ways : List Alternative) (router : ℕ) → is_some (found_at (found_view spans ways) router) ≡ is_some (slice_index_or spans router None)
some_span spans ways router = ap is_some (at_view spans ways router) ∙ on (slice_index_or spans router None)
  where
    on : (span : Option Span) → is_some (option_map (in_span ways) span) ≡ is_some span
    on None = refl
    on (Some span) = refl

-- where there is something, there is a place
pub some_within : {A : Type 0} (items : List (Option A)) (place : ℕ) → is_some (slice_index_or items place None) ≡ true → place < length items
some_within [] place some = absurd cc
some_within (item ∷ items) zero some = omega arith
some_within (item ∷ items) (suc place) some = omega (arith, some_within items place some)

-- a list that was lent as a slice
pub lent : {A : Type 0} (new rest : List A) (n : ℕ) → length new ≡ n → take n (new ++ rest) ≡ new
lent new rest n e = take-append-le n new rest (omega (arith, e)) ∙ take_all n new (omega (arith, e))

-- ways behind those of a span leave them as they are
pub span_kept : (old new : List Alternative) (span : Span) → IsWithin (length old) span → take (length old) new ≡ old → in_span new span ≡ in_span old span
span_kept old new span within before =
    let rest = drop (length old) new in
    let whole : new ≡ old ++ rest = sym (take-append-drop (length old) new) ∙ ap (λ (xs : List Alternative). xs ++ rest) before in
    ap (λ (xs : List Alternative). map alternative_view (take (span.to - span.from) (drop span.from xs))) whole
    ∙ ap (λ (xs : List Alternative). map alternative_view (take (span.to - span.from) xs)) (drop-append-le span.from old rest (omega (arith, within.order, within.within)))
    ∙ ap (map alternative_view) (take-append-le (span.to - span.from) (drop span.from old) rest (omega (arith, within.order, within.within, length-drop span.from old)))

-- those behind them are the span's own
pub span_new : (old new : List Alternative) (found : List defined.Alternative) → take (length old) new ≡ old → map alternative_view new ≡ map alternative_view old ++ found
    → in_span new (record { from = length old; to = length new }) ≡ found
span_new old new found before all =
    ap (map alternative_view) (take_all (length new - length old) (drop (length old) new) (omega (arith, length-drop (length old) new)))
    ∙ sym (drop-map alternative_view (length old) new)
    ∙ ap (drop (length old)) all
    ∙ ap (λ (n : ℕ). drop n (map alternative_view old ++ found)) (sym (length-map old alternative_view))
    ∙ drop-append_seam (map alternative_view old) found

-- ---- lists of routers

pub goes_more : (from to : ℕ → Type 0) → ((router : ℕ) → from router → to router) → (o : defined.Outcome) → GoesTo from o → GoesTo to o
goes_more from to more defined.Deliver goes = tt
goes_more from to more (defined.Go next) goes = more next.router goes
goes_more from to more defined.Lost goes = tt

-- a list keeps its routers
abbrev pub AreKept : List RouterId → List RouterId → Type 0
AreKept old new = (place : ℕ) (router : RouterId) → slice_get old place ≡ Some router → slice_get new place ≡ Some router

pub listed_more : (count : ℕ) (old new : List RouterId) → AreKept old new → (router : ℕ) → IsListedOrNone count old router → IsListedOrNone count new router
listed_more count old new kept router is = elim is [
  | inl listed ↦ inl (record { place = listed.place; at = kept listed.place (record { 0 = router }) listed.at })
  | inr past ↦ inr past
]

all_one : {A : Type 0} (P : A → Type 0) (x : A) → P x → All P (x ∷ [])
all_one P x is zero d lt = is
all_one P x is (suc k) d lt = absurd (omega (arith, lt))

pub ways_more : (count : ℕ) (old new : List RouterId) → AreKept old new → (ways : List defined.Alternative) (way : defined.Alternative)
    → All (λ w. GoesTo (IsListedOrNone count old) w.outcome) ways → GoesTo (IsListedOrNone count new) way.outcome
    → All (λ w. GoesTo (IsListedOrNone count new) w.outcome) (ways ++ way ∷ [])
ways_more count old new kept ways way before goes =
    All-append (λ (w : defined.Alternative). GoesTo (IsListedOrNone count new) w.outcome) ways (way ∷ [])
    (λ k d lt. goes_more (IsListedOrNone count old) (IsListedOrNone count new) (listed_more count old new kept) (slice_index_or ways k d).outcome (before k d lt))
    (all_one (λ (w : defined.Alternative). GoesTo (IsListedOrNone count new) w.outcome) way goes)

pub pushed_behind : (n : ℕ) (ways : List Alternative) (way : Alternative) → n ≤ length ways → drop n (map alternative_view (ways ++ way ∷ [])) ≡ drop n (map alternative_view ways) ++ alternative_view way ∷ []
pushed_behind n ways way le =
    ap (drop n) (map_push alternative_view ways way) ∙ drop-append-le n (map alternative_view ways) (alternative_view way ∷ []) (omega (arith, le, length-map ways alternative_view))

pub at_kept : (spans : List (Option Span)) (old new : List Alternative) → AreWithin spans old → take (length old) new ≡ old → (router : ℕ) → found_at (found_view spans new) router ≡ found_at (found_view spans old) router
at_kept spans old new within before router = at_view spans new router ∙ on (slice_index_or spans router None) (within router) ∙ sym (at_view spans old router)
  where
    on : (o : Option Span) → ForSome o (IsWithin (length old)) → option_map (in_span new) o ≡ option_map (in_span old) o
    on None inside = refl
    on (Some span) inside = ap Some (span_kept old new span (inside span refl) before)

-- ---- where ways lead

module _ (s : StateView) (p : Packet) (found : FoundWays) where
  pub closed_by : LeadTo s p (IsCoveredOrNone (length s.routers) found) found → IsClosed s p found
  closed_by leads router place way next there at goes within =
      let ways = ways_out s p router in
      let here : GoesTo (IsCoveredOrNone (length s.routers) found) way.outcome =
      subst (λ (w : defined.Alternative). GoesTo (IsCoveredOrNone (length s.routers) found) w.outcome) (get_or_from_slice_get ways place way way at) (leads router there place way (slice_get_within ways place way at)) in
      on (subst (GoesTo (IsCoveredOrNone (length s.routers) found)) goes here)
    where
      on : IsCoveredOrNone (length s.routers) found next.router → covers found next.router ≡ true
      on (inl is) = is
      on (inr past) = absurd (omega (arith, past, within))

  pub leads_by : IsClosed s p found → LeadTo s p (IsCoveredOrNone (length s.routers) found) found
  leads_by closed router there k d lt = on (slice_index_or (ways_out s p router) k d) (slice_get-get_or (ways_out s p router) k d lt)
    where
      on : (way : defined.Alternative) → slice_get (ways_out s p router) k ≡ Some way → GoesTo (IsCoveredOrNone (length s.routers) found) way.outcome
      on way at = by way.outcome refl
        where
          by : (o : defined.Outcome) → way.outcome ≡ o → GoesTo (IsCoveredOrNone (length s.routers) found) o
          by defined.Deliver e = tt
          by (defined.Go next) e = elim (cases_lt next.router (length s.routers)) [
            | inl within ↦ inl (closed router k way next there at e within)
            | inr past ↦ inr past
          ]
          by defined.Lost e = tt
