use Rattle.std.proofs.Common.{◌≡◌, ◌+◌, ◌-◌, ◌<◌, ◌≤◌, ℕ, List, Some, cond, length, refl, ap, sym, ◌∙◌, arith}
use Rattle.std.specs.Prelude.{slice_get}
use Rattle.std.specs.List.{position_from}
use Rattle.std.specs.Map.{lookup}
use Rattle.std.specs.Option.{option_map, unwrap_or}
use Rattle.std.proofs.lemmas.List.{length-map, length-set, drop_all}
use Rattle.std.proofs.lemmas.Option.{slice_get-get_or, slice_get-map, slice_get_within}
use Rattle.nc_types.specs.declared.filters.FilterEntry.{FilterEntry}
use Rattle.nc_filter.specs.declared.spots.Class.{Class}
use Rattle.nc_filter.specs.declared.spots.Spot.{Spot}
use Rattle.nc_filter.specs.Spots.{ahead, first_from, number_of, place_in, same_spot, spot_of, spots_of}
use Rattle.nc_filter.proofs.Classes.{same_turned, spot_is}
use Rattle.nc_filter.proofs.Spotting.{first_more, next_more}
use Rattle.nc_filter.proofs.index.Index.new.Goals as goal

abbrev made : ℕ → Class → Spot
made list class = record { list = list; class = class }

pub entries-init : goal.entries-init
entries-init c =
    let entries = c.args.entries.now in
    let spots = spots_of entries in
    let all : length spots ≡ length entries = length-map entries (spot_of entries) in
    let past : length spots ≤ length entries = omega arith in
    record {
      within = omega arith;
      size = refl;
      count = omega (arith, c.in_ok-next.ensures.len);
      first = λ s.
          ap (λ (es : List (Spot × ℕ)). lookup (same_spot s) es) c.in_ok-first.ensures
          ∙ sym (ap (position_from (same_spot s) (length entries)) (drop_all (length entries) spots past));
      list = λ d at. absurd (let lt = slice_get_within entries (length entries) d at in omega arith);
      next = λ k s least at. absurd (let within : k < length spots = slice_get_within spots k s at in omega arith);
    }

pub entries-preserved : goal.entries-preserved
entries-preserved c =
    let entries = c.args.entries.now in
    let key = spot_of entries in
    let spots = spots_of entries in
    let place = c.entries.place - 1 in
    let entry = c.index-entries-place.result in
    let next : place + 1 ≡ c.entries.place = omega arith in
    let all : length spots ≡ length entries = length-map entries key in
    let within : place < length entries = omega (arith, c.entries.invariant.within) in
    let here : slice_get entries place ≡ Some entry = slice_get-get_or entries place entry within ∙ ap Some (sym c.index-entries-place.is) in
    let number : (e : FilterEntry) → slice_get entries place ≡ Some e → c.number_in-list.result ≡ number_of entries e.list =
    λ e at. c.number_in-list.ensures e at (λ d behind. c.entries.invariant.list d (ap (slice_get entries) (sym next) ∙ behind)) in
    let spot : made c.number_in-list.result c.class_of.result ≡ key entry = ap (λ (n : ℕ). made n c.class_of.result) (number entry here) ∙ ap (made (number_of entries entry.list)) c.class_of.ensures in
    let own : slice_get spots place ≡ Some (key entry) =
    slice_get-map key entries place ∙ ap (option_map key) here in
    let later : c.in_ok-next-2.field-0 ≡ ahead (key entry) (place + 1) spots =
    c.in_ok-next-2.ensures.before ∙ ap (unwrap_or (place_in c.entries.first (made c.number_in-list.result c.class_of.result))) c.narrow-end.ensures
    ∙ ap (λ (s : Spot). unwrap_or (place_in c.entries.first s) (length entries)) spot
    ∙ ap (λ o. unwrap_or o (length entries)) (c.entries.invariant.first (key entry))
    ∙ ap (λ (n : ℕ). unwrap_or (first_from (key entry) c.entries.place spots) n) (sym all)
    ∙ ap (λ (n : ℕ). ahead (key entry) n spots) (sym next) in
    record {
      within = omega (arith, c.entries.invariant.within);
      size = refl;
      count = length-set c.entries.next.items place c.in_ok-next-2.field-0 ∙ c.entries.invariant.count;
      first = λ s.
          c.in_ok-next-2.ensures.begun s
          ∙ ap (λ (n : ℕ). cond (same_spot (made c.number_in-list.result c.class_of.result) s) (Some n) (place_in c.entries.first s)) c.narrow.ensures
          ∙ ap (λ (t : Spot). cond (same_spot t s) (Some place) (place_in c.entries.first s)) spot
          ∙ ap (cond (same_spot (key entry) s) (Some place)) (c.entries.invariant.first s)
          ∙ ap (λ b. cond b (Some place) (first_from s c.entries.place spots)) (same_turned (key entry) s)
          ∙ sym (first_more same_spot spot_is key entries place c.entries.place entry next c.index-entries-place.is within s);
      list = number;
      next =
          next_more same_spot spot_is spots c.entries.next.items place c.in_ok-next-2.field-0 (key entry) (c.entries.invariant.count ∙ sym all) own later
          (λ k s least at. c.entries.invariant.next k s (omega arith) at);
    }
