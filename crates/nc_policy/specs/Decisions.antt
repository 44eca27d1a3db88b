-- What maps decide on the prefixes of a network, by the numbers of the prefixes.
use Rattle.std.specs.Prelude.{◌≡◌, ℕ, ◌+◌, List, [], ◌∷◌, ◌++◌, map, Option, Some, None, option_and_then, slice_get, slice_index_or}
use Rattle.std.specs.Option.{option_map, option_map_or}
use Rattle.nc_types.specs.Cidr.{Cidr}
use Rattle.nc_types.specs.Config.{ConfigView}
use Rattle.nc_policy.specs.Indexes.{placed_in}
use Rattle.nc_policy.specs.Kept.{IsDecided, IsUnmet}
use Rattle.nc_policy.specs.Views.{asked}
use Rattle.nc_policy.specs.declared.clauses.Candidate.{Candidate}
use Rattle.nc_policy.specs.declared.decisions.Decisions.{Decisions}
use Rattle.nc_policy.specs.declared.kept.Asked.{Asked}
use Rattle.nc_policy.specs.declared.kept.Asking.{Asking}
use Rattle.nc_policy.specs.declared.kept.Decided.{Decided}

-- the decision on the prefix of a number
abbrev pub decision_or : Decisions → ℕ → Option Decided
decision_or t number = slice_index_or t.each.items (slice_index_or t.places.items number 0) None

-- what is to be kept of a clause that decides
abbrev pub decided_by : Option Candidate → Option Decided
decided_by found = option_map (λ k. record { place = k.place; names = k.names }) found

-- these are the decisions of these clauses
abbrev pub AreDecisionsOf : List (Option Candidate) → Decisions → Type 0
AreDecisionsOf best t = (j : ℕ) (b : Option Candidate) → slice_get best j ≡ Some b → decision_or t j ≡ decided_by b

-- they are what a map decides on numbered prefixes, for routes whose communities meet no clause of it that asks for some
abbrev pub AreRight : ConfigView → List ℕ → List (Cidr × ℕ) → Decisions → Type 0
AreRight c name ps t = (p : Cidr) (number : ℕ) → placed_in ps p ≡ Some number → (held : List ℕ) → IsUnmet c name held → IsDecided c name (asked p held) (decision_or t number)

-- the decisions of a map on numbered prefixes one by one
abbrev pub decisions_on : List (Cidr × ℕ) → ℕ → Decisions → List (Asking × Option Decided)
decisions_on ps m t = map (λ e. (record { map = m; prefix = e.0 }, decision_or t e.1)) ps

-- the decisions that are kept of a map, if any
abbrev pub table_in : Option Asked → Option Decisions
table_in a = option_and_then (λ x. x.table) a

-- those of maps, the first of which has this place
abbrev pub kept_from : List (Cidr × ℕ) → ℕ → List (Option Asked) → List (Asking × Option Decided)
kept_from ps m [] = []
kept_from ps m (a ∷ rest) = option_map_or (decisions_on ps m) (table_in a) [] ++ kept_from ps (m + 1) rest
