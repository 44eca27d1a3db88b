use Rattle.std.proofs.Common.{◌≡◌, ◌-◌, ℕ, List, Some, None, cond, true, ap, sym, ◌∙◌, arith, inl, inr}
use Rattle.std.specs.Global.{Vec}
use Rattle.std.specs.Map.{lookup}
use Rattle.std.specs.Option.{option_or}
use Rattle.std.specs.Prelude.{is_some, slice_get}
use Rattle.std.specs.Str.{bytes_eq}
use Rattle.std.proofs.lemmas.Option.{get_or_from_slice_get, slice_get_cases, slice_get_within}
use Rattle.std.proofs.lemmas.Slice.Eq.{bytes_eq-Decides}
use Rattle.nc_types.proofs.Sameness.{same_bytes_is}
use Rattle.nc_types.specs.declared.filters.FilterEntry.{FilterEntry}
use Rattle.nc_tables.specs.Filters.{is_of}
use Rattle.nc_filter.specs.Names.{place_named}
use Rattle.nc_filter.proofs.Naming.{first_by, first_known, first_none, first_put, had_named}
use Rattle.nc_filter.proofs.names.lists_of.Goals.{then-not-goes_on+in_ok-put_first, else-not-goes_on}
use Rattle.nc_filter.proofs.names.lists_of.Goals as goal

pub entries-init : goal.entries-init
entries-init c q =
    ap (λ (es : List (Vec ℕ × ℕ)). first_by (is_of q) c.args.entries.now (lookup (λ k. bytes_eq q k.items) es) 0) c.new-first.ensures.empty
    ∙ first_none (is_of q) c.args.entries.now

-- an entry of the list of the one before, whose name has a place
known : (c : goal.Joined-not-goes_on) → c.goes_on.result ≡ true → (e : FilterEntry) → slice_get c.args.entries.now c.entries.place ≡ Some e → is_some (place_named c.entries.first e.list) ≡ true
known c on e at = elim (slice_get_cases c.args.entries.now (c.entries.place - 1)).1 [
  | inl here ↦
      let before = c.goes_on.ensures e here.0 at here.2 on in
      let same : e.list ≡ here.0.list = sym (same_bytes_is here.0.list e.list before.1) in
      first_known (is_of e.list) c.args.entries.now (place_named c.entries.first e.list) c.entries.place (c.entries.place - 1) here.0 (omega (arith, before.0)) here.2 ((bytes_eq-Decides e.list here.0.list).1 same)
      (c.entries.invariant e.list)
  | inr past ↦ absurd (let lt = slice_get_within c.args.entries.now c.entries.place e at in omega (arith, lt, past.0))
]

pub entries-preserved : goal.entries-preserved
entries-preserved c q =
    let entries = c.args.entries.now in
    let place = c.entries.place in
    let kept = place_named c.entries.first q in
    elim c.if-not-goes_on.branch [
      | then-not-goes_on+in_ok-put_first w ↦
          let entry = w.index-entries-place.result in
          let put : place_named c.if-not-goes_on.first q ≡ option_or kept (cond (is_of q entry) (Some place) None) =
          ap (λ m. place_named m q) w.first-is ∙ w.in_ok-put_first.ensures q
          ∙ ap (λ (bs : List ℕ). option_or kept (cond (bytes_eq q bs) (Some place) None)) (w.bytes.ensures ∙ ap (λ (e : FilterEntry). e.list) (sym w.index-entries-place.is)) in
          first_put (is_of q) entries kept (place_named c.if-not-goes_on.first q) place entry w.index-entries-place.is c.entries-test.true put ∙ c.entries.invariant q
      | else-not-goes_on w ↦ elim (slice_get_cases entries place).1 [
        | inl here ↦
            let entry = here.0 in
            let had : place_named c.if-not-goes_on.first q ≡ option_or kept (cond (is_of q entry) (Some place) None) =
            ap (λ m. place_named m q) w.first-is ∙ had_named entry.list c.entries.first place (known c w.if-not-goes_on.false entry here.2) q in
            first_put (is_of q) entries kept (place_named c.if-not-goes_on.first q) place entry (sym (get_or_from_slice_get entries place entry entry here.2)) c.entries-test.true had ∙ c.entries.invariant q
        | inr past ↦ absurd (omega (arith, past.0, c.entries-test.true))
      ]
    ]
