-- Routers that are listed.
use Rattle.std.proofs.Common.{◌≡◌, ◌≢◌, ◌⊎◌, ℕ, ◌<◌, ◌≤◌, Bool, true, false, nat_eq, ◌||◌, List, [], ◌∷◌, ◌++◌, length, take, slice_set, Option, Some, None, refl, sym, ap, subst, ◌∙◌, arith, inl, inr, get_or-set_same, get_or-set_other}
use Rattle.std.specs.List.{slice_index_or}
use Rattle.std.specs.Option.{is_some}
use Rattle.std.proofs.lemmas.Bool.{eqb-true, eq-eqb, or_right, cases_lt}
use Rattle.std.proofs.lemmas.List.{take_all}
use Rattle.std.proofs.lemmas.List.Folds.{list_any-append}
use Rattle.nc_tables.proofs.Owner.{some_is}
use Rattle.nc_types.specs.declared.config.RouterId.{RouterId}
use Rattle.nc_trace.specs.declared.alternative.Alternative.{Alternative}
use Rattle.nc_trace.specs.declared.span.Span.{Span}
use Rattle.nc_trace.specs.Found.{is_one_of, AreKept, AreListed, AreWithin, IsWithin}

-- the last of a list, and those before it
module _ (list before : List RouterId) (last : RouterId) (cut : list ≡ before ++ last ∷ []) (router : ℕ) where
  cut_here : is_one_of list router ≡ (is_one_of before router || (nat_eq last.0 router || false))
  cut_here = ap (λ (l : List RouterId). is_one_of l router) cut ∙ list_any-append (λ (x : RouterId). nat_eq x.0 router) before (last ∷ [])

  pub is_before : is_one_of before router ≡ true → is_one_of list router ≡ true
  is_before e = cut_here ∙ ap (λ (b : Bool). b || (nat_eq last.0 router || false)) e

  pub is_last : router ≡ last.0 → is_one_of list router ≡ true
  is_last e = cut_here ∙ or_right (is_one_of before router) (nat_eq last.0 router || false) (ap (λ (b : Bool). b || false) (eq-eqb last.0 router (sym e)))

  pub last_or_before : is_one_of list router ≡ true → (is_one_of before router ≡ true) ⊎ (router ≡ last.0)
  last_or_before e = by (is_one_of before router) (nat_eq last.0 router) refl refl (sym cut_here ∙ e)
    where
      by : (b l : Bool) → is_one_of before router ≡ b → nat_eq last.0 router ≡ l → (b || (l || false)) ≡ true → (is_one_of before router ≡ true) ⊎ (router ≡ last.0)
      by true l there same e = inl there
      by false true there same e = inr (sym (eqb-true last.0 router same))
      by false false there same e = absurd cc

pub is_here : (list before : List RouterId) (last : RouterId) → list ≡ before ++ last ∷ [] → is_one_of list last.0 ≡ true
is_here list before last cut = is_last list before last cut last.0 refl

-- of none there is none
pub not_one : (list : List RouterId) → list ≡ [] → (router : ℕ) → is_one_of list router ≡ false
not_one list none router = ap (λ (l : List RouterId). is_one_of l router) none

-- where there is no span, no router has one
pub none_kept : (spans : List (Option Span)) (ways : List Alternative) (list : List RouterId) → ((router : ℕ) → slice_index_or spans router None ≡ None) → list ≡ [] → AreKept spans ways list
none_kept spans ways list none empty = record {
  within = λ router span e. let no = none router in absurd cc;
  listed = λ router. ap is_some (none router) ∙ sym (not_one list empty router);
}

-- where routers have the spans that they had
pub still_kept : (spans more : List (Option Span)) (ways : List Alternative) (list : List RouterId) → ((router : ℕ) → slice_index_or more router None ≡ slice_index_or spans router None)
    → AreKept spans ways list → AreKept more ways list
still_kept spans more ways list same kept = record {
  within = λ router span e. kept.within router span (sym (same router) ∙ e);
  listed = λ router. ap is_some (same router) ∙ kept.listed router;
}

pub no_list : (list : List RouterId) → length list ≡ 0 → list ≡ []
no_list [] e = refl
no_list (router ∷ list) e = absurd (omega (arith, e))

-- ---- routers that have a span

module _ (spans : List (Option Span)) (list : List RouterId) (listed : AreListed spans list) where
  -- one router more, and its span
  pub one_more : (router : RouterId) (span : Span) → router.0 < length spans → AreListed (slice_set spans router.0 (Some span)) (list ++ router ∷ [])
  one_more router span within other =
      by (nat_eq router.0 other) refl ∙ sym (list_any-append (λ (x : RouterId). nat_eq x.0 other) list (router ∷ []))
    where
      or_false : (b : Bool) → b ≡ (b || (false || false))
      or_false true = refl
      or_false false = refl

      or_true : (b : Bool) → true ≡ (b || (true || false))
      or_true true = refl
      or_true false = refl

      by : (b : Bool) → nat_eq router.0 other ≡ b → is_some (slice_index_or (slice_set spans router.0 (Some span)) other None) ≡ (is_one_of list other || (nat_eq router.0 other || false))
      by true same =
          ap (λ (r : ℕ). is_some (slice_index_or (slice_set spans router.0 (Some span)) r None)) (sym (eqb-true router.0 other same))
          ∙ ap is_some (get_or-set_same spans router.0 (Some span) None within)
          ∙ or_true (is_one_of list other)
          ∙ sym (ap (λ (b : Bool). is_one_of list other || (b || false)) same)
      by false same =
          ap is_some (get_or-set_other spans router.0 other (Some span) None (λ is. let yes = eq-eqb router.0 other (sym is) in absurd cc))
          ∙ listed other
          ∙ or_false (is_one_of list other)
          ∙ sym (ap (λ (b : Bool). is_one_of list other || (b || false)) same)

-- the last one's span is taken away
pub gone : (spans : List (Option Span)) (list before : List RouterId) (last : RouterId) → list ≡ before ++ last ∷ []
    → ((router : ℕ) → is_some (slice_index_or spans router None) ≡ true → is_one_of list router ≡ true) → last.0 < length spans
    → (router : ℕ) → is_some (slice_index_or (slice_set spans last.0 None) router None) ≡ true → is_one_of before router ≡ true
gone spans list before last cut listed lt router some = by (nat_eq router last.0) refl
  where
    by : (b : Bool) → nat_eq router last.0 ≡ b → is_one_of before router ≡ true
    by true same =
        let none = ap (λ (x : ℕ). slice_index_or (slice_set spans last.0 None) x None) (eqb-true router last.0 same) ∙ get_or-set_same spans last.0 None None lt in
        let no : false ≡ true = sym (ap is_some none) ∙ some in
        absurd cc
    by false differ =
        let apart : router ≢ last.0 = λ is. let yes = eq-eqb router last.0 is in absurd cc in
        elim (last_or_before list before last cut router (listed router (ap is_some (sym (get_or-set_other spans last.0 router None None apart)) ∙ some))) [
          | inl there ↦ there
          | inr is ↦ absurd (apart is)
        ]

-- the new span is among the ways
pub long : (old new : List Alternative) → take (length old) new ≡ old → length old ≤ length new
long old new before = elim (cases_lt (length new) (length old)) [
  | inl lt ↦
      let whole : new ≡ old = sym (take_all (length old) new (omega (arith, lt))) ∙ before in
      absurd (omega (arith, lt, ap (λ (ways : List Alternative). length ways) whole))
  | inr le ↦ le
]

pub within_more : (spans : List (Option Span)) (old new : List Alternative) (router : ℕ) (span : Span) → AreWithin spans old → take (length old) new ≡ old → router < length spans
    → span.from ≡ length old → span.to ≡ length new → AreWithin (slice_set spans router (Some span)) new
within_more spans old new router span within before lt from to r found e = by (nat_eq r router) refl
  where
    more : length old ≤ length new
    more = long old new before

    by : (b : Bool) → nat_eq r router ≡ b → IsWithin (length new) found
    by true same =
        let here : Some span ≡ Some found = sym (get_or-set_same spans router (Some span) None lt) ∙ ap (λ (x : ℕ). slice_index_or (slice_set spans router (Some span)) x None) (sym (eqb-true r router same)) ∙ e in
        subst (IsWithin (length new)) (some_is span found here) (record { order = omega (arith, from, to, more); within = omega (arith, to) })
    by false differ =
        let old_one = within r found (sym (get_or-set_other spans router r (Some span) None (λ is. let yes = eq-eqb r router is in absurd cc)) ∙ e) in
        record { order = old_one.order; within = omega (arith, old_one.within, more) }
