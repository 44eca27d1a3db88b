-- Items by their names: of each name the first.
use Rattle.std.specs.Prelude.{◌≡◌, ℕ, Bool, List, Option, position}
use Rattle.std.specs.Global.{Vec}
use Rattle.std.specs.HashMap.{HashMap, get_by}
use Rattle.std.specs.Str.{bytes_eq}
use Rattle.nc_types.specs.declared.filters.FilterEntry.{FilterEntry}
use Rattle.nc_types.specs.declared.filters.Group.{Group}
use Rattle.nc_tables.specs.Filters.{is_at, is_of}

-- the place that is kept for a name
abbrev pub place_named : {S : Type 0} → HashMap (Vec ℕ) ℕ S → List ℕ → Option ℕ
place_named first q = get_by (λ k. bytes_eq q k.items) first

-- of each list the place of its first entry
abbrev pub AreLists : {S : Type 0} → List FilterEntry → HashMap (Vec ℕ) ℕ S → Type 0
AreLists entries lists = (q : List ℕ) → place_named lists q ≡ position (is_of q) entries

-- of each interface the place of its first filter in a direction
abbrev pub AreSides : {S : Type 0} → List Group → Bool → HashMap (Vec ℕ) ℕ S → Type 0
AreSides groups inward sides = (q : List ℕ) → place_named sides q ≡ position (is_at q inward) groups
