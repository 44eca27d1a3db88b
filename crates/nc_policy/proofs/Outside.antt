-- What isn't among the addresses that a list permits.
use Rattle.std.proofs.Common.{◌≡◌, ℕ, ◌<◌, Bool, true, false, cond, ◌&&◌, List, map, get_or, Option, Some, None, refl, sym, ap, ◌∙◌}
use Rattle.std.specs.Prelude.{nat_le, position, slice_get, option_and_then}
use Rattle.std.specs.Option.{option_map, option_map_or}
use Rattle.std.specs.Str.{bytes_eq}
use Rattle.std.proofs.lemmas.List.Quantifiers.{position-Some}
use Rattle.std.proofs.lemmas.Option.{slice_get-get_or}
use Rattle.nc_types.specs.Cidr.{Cidr}
use Rattle.nc_types.specs.Config.{CommunityListView, PrefixListView}
use Rattle.nc_types.specs.declared.communities.CommunityEntry.{CommunityEntry}
use Rattle.nc_types.specs.declared.config.ListEntry.{ListEntry}
use Rattle.nc_tables.specs.Base.{covers}
use Rattle.nc_tables.specs.declared.policy.Place.{Place}
use Rattle.nc_tables.specs.Policy.{is_held, is_of, permitting_community, permitting_prefix, place_in}
use Rattle.nc_policy.specs.Indexes.{NameTable, IsNameTable, named_in}
use Rattle.nc_policy.specs.Spans.{is_outside}
use Rattle.nc_policy.specs.declared.spans.Span.{Span}
use Rattle.nc_policy.proofs.Permitting.{position_map}

-- a prefix outside of the span of all entries that permit isn't permitted
pub outside_none : (entries : List ListEntry) (s : Span)
    → ((k : ℕ) (e : ListEntry) → slice_get entries k ≡ Some e → e.permit ≡ true → (addr : ℕ) → addr < 4294967296 → covers e.prefix addr ≡ true → is_outside s addr ≡ false)
    → (p : Cidr) → p.base < 4294967296 → is_outside s p.base ≡ true → permitting_prefix p entries ≡ None
outside_none entries s are p few out = on (position (is_of p) entries) refl
  where
    decided : ℕ → Option ℕ
    decided k = cond (option_map_or (λ (e : ListEntry). e.permit) (slice_get entries k) false) (Some k) None

    first : (a b : Bool) → (a && b) ≡ true → a ≡ true
    first true b e = refl
    first false b e = e

    is_entry : (k : ℕ) (x : ListEntry) → slice_get entries k ≡ Some x → position (is_of p) entries ≡ Some k → is_of p x ≡ true
    is_entry k x at found =
        let read = position-Some (is_of p) entries k x found in
        let one : Some (get_or entries k x) ≡ Some x = sym (slice_get-get_or entries k x read.0) ∙ at in
        let same : get_or entries k x ≡ x = cc in
        ap (is_of p) (sym same) ∙ read.1

    permitted : (k : ℕ) (x : ListEntry) → slice_get entries k ≡ Some x → position (is_of p) entries ≡ Some k → (b : Bool) → x.permit ≡ b → cond b (Some k) None ≡ None
    permitted k x at found false is = refl
    permitted k x at found true is =
        let covered = first (covers x.prefix p.base) (nat_le x.low p.len && nat_le p.len x.high) (is_entry k x at found) in
        let within = are k x at is p.base few covered in
        absurd (let wrong : true ≡ false = sym out ∙ within in cc)

    at_place : (k : ℕ) → position (is_of p) entries ≡ Some k → (o : Option ListEntry) → slice_get entries k ≡ o → cond (option_map_or (λ (e : ListEntry). e.permit) o false) (Some k) None ≡ None
    at_place k found None is = refl
    at_place k found (Some x) is = permitted k x is found x.permit refl

    on : (o : Option ℕ) → position (is_of p) entries ≡ o → permitting_prefix p entries ≡ None
    on None e = ap (option_and_then decided) e
    on (Some k) e = ap (option_and_then decided) e ∙ at_place k e (slice_get entries k) refl

-- a list that isn't there, or that doesn't permit
pub none_placed : {L : Type 0} (lists : List L) (named : L → Bool) (permits : L → Option ℕ) → position named lists ≡ None → place_in named permits lists ≡ None
none_placed {L} lists named permits found = ap (option_and_then (λ (k : ℕ). option_map (λ (i : ℕ). record { list = k; entry = i }) (option_and_then permits (slice_get lists k)))) found

pub none_at : {L : Type 0} (lists : List L) (named : L → Bool) (permits : L → Option ℕ) (k : ℕ) → position named lists ≡ Some k → ((l : L) → slice_get lists k ≡ Some l → permits l ≡ None) → place_in named permits lists ≡ None
none_at {L} lists named permits k found none = ap (option_and_then (λ (k : ℕ). option_map (put k) (option_and_then permits (slice_get lists k)))) found ∙ on (slice_get lists k) refl
  where
    put : ℕ → ℕ → Place
    put k i = record { list = k; entry = i }

    on : (o : Option L) → slice_get lists k ≡ o → option_map (put k) (option_and_then permits o) ≡ None
    on None e = refl
    on (Some l) e = ap (option_map (put k)) (none l e)

-- the place of a list by the table of names
pub placed_by : (lists : List PrefixListView) (t : NameTable) (name : List ℕ) → IsNameTable (map (λ l. l.name) lists) t → named_in t name ≡ position (λ (l : PrefixListView). bytes_eq name l.name) lists
placed_by lists t name is = is.first name ∙ position_map (λ (l : PrefixListView). l.name) (bytes_eq name) lists

-- communities by which no entry that permits is held aren't permitted
pub none_held : (entries : List CommunityEntry) (held : List ℕ) → ((k : ℕ) (e : CommunityEntry) → slice_get entries k ≡ Some e → e.permit ≡ true → is_held held e ≡ false) → permitting_community held entries ≡ None
none_held entries held are = on (position (is_held held) entries) refl
  where
    decided : ℕ → Option ℕ
    decided k = cond (option_map_or (λ (e : CommunityEntry). e.permit) (slice_get entries k) false) (Some k) None

    is_entry : (k : ℕ) (x : CommunityEntry) → slice_get entries k ≡ Some x → position (is_held held) entries ≡ Some k → is_held held x ≡ true
    is_entry k x at found =
        let read = position-Some (is_held held) entries k x found in
        let one : Some (get_or entries k x) ≡ Some x = sym (slice_get-get_or entries k x read.0) ∙ at in
        let same : get_or entries k x ≡ x = cc in
        ap (is_held held) (sym same) ∙ read.1

    permitted : (k : ℕ) (x : CommunityEntry) → slice_get entries k ≡ Some x → position (is_held held) entries ≡ Some k → (b : Bool) → x.permit ≡ b → cond b (Some k) None ≡ None
    permitted k x at found false is = refl
    permitted k x at found true is = absurd (let wrong : true ≡ false = sym (is_entry k x at found) ∙ are k x at is in cc)

    at_place : (k : ℕ) → position (is_held held) entries ≡ Some k → (o : Option CommunityEntry) → slice_get entries k ≡ o → cond (option_map_or (λ (e : CommunityEntry). e.permit) o false) (Some k) None ≡ None
    at_place k found None is = refl
    at_place k found (Some x) is = permitted k x is found x.permit refl

    on : (o : Option ℕ) → position (is_held held) entries ≡ o → permitting_community held entries ≡ None
    on None e = ap (option_and_then decided) e
    on (Some k) e = ap (option_and_then decided) e ∙ at_place k e (slice_get entries k) refl

-- the place of a community list by the table of names
pub community_placed_by : (lists : List CommunityListView) (t : NameTable) (name : List ℕ) → IsNameTable (map (λ l. l.name) lists) t → named_in t name ≡ position (λ (l : CommunityListView). bytes_eq name l.name) lists
community_placed_by lists t name is = is.first name ∙ position_map (λ (l : CommunityListView). l.name) (bytes_eq name) lists
