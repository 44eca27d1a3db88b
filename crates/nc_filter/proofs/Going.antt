-- A list is gone through for a packet by three of its spots.
use Rattle.std.proofs.Common.{◌≡◌, ℕ, ◌+◌, ◌-◌, ◌≤◌, min, Bool, true, false, cond, ◌&&◌, List, length, Some, refl, sym, ap, ◌∙◌, arith, inl, inr}
use Rattle.std.specs.Prelude.{position, slice_get, ◌==◌}
use Rattle.std.specs.Option.{option_map}
use Rattle.std.proofs.lemmas.Bool.{cases_eq}
use Rattle.std.proofs.lemmas.List.{length-map}
use Rattle.std.proofs.lemmas.Option.{slice_get-map}
use Rattle.nc_types.specs.declared.addr.Addr.{Addr}
use Rattle.nc_types.specs.declared.filters.FilterEntry.{FilterEntry}
use Rattle.nc_tables.specs.Filters.{decides, is_of}
use Rattle.nc_filter.specs.declared.spots.Class.{Class}
use Rattle.nc_filter.specs.declared.spots.Class.TheVariants.{Source, Target, Other}
use Rattle.nc_filter.specs.declared.spots.Spot.{Spot}
use Rattle.nc_filter.specs.declared.walks.Ahead.{Ahead}
use Rattle.nc_filter.specs.Spots.{ahead, same_spot, spot_of, spots_of}
use Rattle.nc_filter.specs.Walks.{AreAhead}
use Rattle.nc_filter.proofs.Classes.{decides_not, is_listed, spot_is}
use Rattle.nc_filter.proofs.Spotting.{ahead_is, ahead_kept, ahead_least, before, found_from, found_over, step}

abbrev pub least : Ahead → ℕ
least a = min a.source (min a.target a.other)

-- an entry decides for a list on a packet
abbrev pub decides_for : Addr → Addr → List ℕ → FilterEntry → Bool
decides_for from to q e = is_of q e && decides from.0 to.0 e

pub decides_none : (from to : Addr) (q : List ℕ) (e : FilterEntry) → decides from.0 to.0 e ≡ false → decides_for from to q e ≡ false
decides_none from to q e fails = by (is_of q e) (decides from.0 to.0 e) fails
  where
    by : (a b : Bool) → b ≡ false → (a && b) ≡ false
    by true b e = e
    by false b e = refl

module _ (entries : List FilterEntry) (list : ℕ) (from to : Addr) where
  abbrev spot : Class → Spot
  spot c = record { list = list; class = c }

  same_length : length (spots_of entries) ≡ length entries
  same_length = length-map entries (spot_of entries)

  pub spot_at : (place : ℕ) (e : FilterEntry) → slice_get entries place ≡ Some e → slice_get (spots_of entries) place ≡ Some (spot_of entries e)
  spot_at place e at = slice_get-map (spot_of entries) entries place ∙ ap (option_map (spot_of entries)) at

  module _ (place next : ℕ) (a : Ahead) (within : place ≤ length entries) (are : AreAhead entries list from to place a) (at : next ≡ least a) where
    far : (c : Class) → place ≤ ahead (spot c) place (spots_of entries)
    far c = ahead_least same_spot spot_is (spots_of entries) (spot c) place (omega (arith, same_length))

    pub onward : place ≤ next
    onward = omega (arith, are.source, are.target, are.other, far (Source from), far (Target to), far Other)

    kept : (c : Class) → next ≤ ahead (spot c) place (spots_of entries) → ahead (spot c) next (spots_of entries) ≡ ahead (spot c) place (spots_of entries)
    kept c least = ahead_kept same_spot spot_is (spots_of entries) (spot c) (next - place) place next (omega (arith, onward)) least

    -- from where the walk was it goes to the first of the three
    pub arrive : AreAhead entries list from to next a
    arrive = record {
      source = are.source ∙ sym (kept (Source from) (omega (arith, are.source)));
      target = are.target ∙ sym (kept (Target to) (omega (arith, are.target)));
      other = are.other ∙ sym (kept Other (omega (arith, are.other)));
    }

    -- no entry in between decides
    pub found_arrive : (q : List ℕ) → position (is_of q) entries ≡ Some list → found_from (decides_for from to q) entries place ≡ found_from (decides_for from to q) entries next
    found_arrive q first = found_over (decides_for from to q) entries (next - place) place next (omega (arith, onward)) (λ k e from_here lt read.
        let none = λ (c : Class) (beyond : next ≤ ahead (spot c) place (spots_of entries)). before same_spot spot_is (spots_of entries) (spot c) place k (spot_of entries e) from_here (omega arith) (spot_at k e read) in
        decides_not entries q list first from to e (none (Source from) (omega (arith, are.source))) (none (Target to) (omega (arith, are.target))) (none Other (omega (arith, are.other))))

  module _ (place : ℕ) (a : Ahead) (are : AreAhead entries list from to place a) (e : FilterEntry) (at : slice_get entries place ≡ Some e) where
    -- behind an entry
    pub gone_by : (b : Ahead) (behind : ℕ) → behind ≡ ahead (spot_of entries e) (place + 1) (spots_of entries)
        → b.source ≡ cond (a.source == place) behind a.source → b.target ≡ cond (a.target == place) behind a.target → b.other ≡ cond (a.other == place) behind a.other
        → AreAhead entries list from to (place + 1) b
    gone_by b behind later source target other =
        let on = λ (c : Class). step same_spot spot_is (spots_of entries) (spot c) place (spot_of entries e) in
        record {
          source = on (Source from) a.source behind b.source (spot_at place e at) are.source later source;
          target = on (Target to) a.target behind b.target (spot_at place e at) are.target later target;
          other = on Other a.other behind b.other (spot_at place e at) are.other later other;
        }

    -- the entry where the walk stands is of the list
    pub listed : place ≡ least a → (q : List ℕ) → position (is_of q) entries ≡ Some list → is_of q e ≡ true
    listed stands q first =
        let own = λ (c : Class) (here : ahead (spot c) place (spots_of entries) ≡ place). is_listed entries q list first c e (ahead_is same_spot spot_is (spots_of entries) (spot c) place (spot_of entries e) (spot_at place e at) here) in
        elim (cases_eq a.source place) [
          | inl source ↦ own (Source from) (sym are.source ∙ source)
          | inr others ↦ elim (cases_eq a.target place) [
            | inl target ↦ own (Target to) (sym are.target ∙ target)
            | inr last ↦ own Other (sym are.other ∙ omega arith)
          ]
        ]
