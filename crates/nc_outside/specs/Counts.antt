-- Counts of calls and of faults: how a call that fails is told from a body that gives up.
use Rattle.std.specs.Prelude.{◌≡◌, ◌⊎◌, ℕ, ◌+◌, ◌-◌, ◌^◌, ◌≤◌, min, Bool, false, List, [], ◌∷◌, ◌++◌, Option, None, Some, Result, MatchResult}
use Rattle.std.specs.Option.{option_map}
use Rattle.nc_outside.specs.Named.{Named, content_of}

-- a counter after one more, where it isn't at its last value
abbrev pub one_more : ℕ → ℕ
one_more n = min (n + 1) (2 ^ 64 - 1)

-- how often an object failed, and whether it never will: a steady one fails in no call, but for a name that isn't there
pub record Faults : Type 0 where
  pub count : ℕ
  pub is_steady : Bool

-- the object may fail, and its count rose in a call, or stands at its last value
pub record Rose (before now : Faults) : Type 0 where
  pub may : before.is_steady ≡ false
  pub same : now.is_steady ≡ before.is_steady
  pub later : before.count ≤ now.count
  pub more : one_more before.count ≤ now.count

-- the count didn't fall
pub record Follows (before now : Faults) : Type 0 where
  pub same : now.is_steady ≡ before.is_steady
  pub later : before.count ≤ now.count

-- a call that fails raised the count, and any other left it
abbrev pub HasCause : {T E : Type 0} → Faults → Faults → Result T E → Type 0
HasCause before now result = MatchResult result (λ _. now ≡ before) (λ _. Rose before now)

-- files that are told and have no file of that name
abbrev pub IsMissing : Option (List Named) → List ℕ → Type 0
IsMissing None name = ⊥
IsMissing (Some files) name = content_of files name ≡ None

-- entering fails where the count rose, or where the files are told and have no file of that name
abbrev pub HasEnterCause : {T E : Type 0} → Option (List Named) → List ℕ → Faults → Faults → Result T E → Type 0
HasEnterCause files name before now result =
    MatchResult result (λ _. now ≡ before) (λ _. Rose before now ⊎ (IsMissing files name × Follows before now))

-- how often files were entered, and the names that were given, in order, where the object tells them
pub record Entries : Type 0 where
  pub count : ℕ
  pub names : Option (List (List ℕ))

-- after one more call of `enter`, and after calls with these names in order
abbrev pub one_entry : List ℕ → Entries → Entries
one_entry name entries =
    record { count = one_more entries.count; names = option_map (λ names. names ++ name ∷ []) entries.names }

abbrev pub entries_after : List (List ℕ) → Entries → Entries
entries_after [] entries = entries
entries_after (name ∷ names) entries = entries_after names (one_entry name entries)
