-- Sets of elements as lists, kept in a table, where each has a place.
use Rattle.std.specs.Prelude.{◌≡◌, ℕ, ◌+◌, ◌<◌, ◌≤◌, Bool, true, false, All, List, [], ◌∷◌, ◌++◌, length, nat_eq, slice_index_or}
use Rattle.std.specs.List.{list_any, list_all}
use Rattle.nc_graph.specs.declared.node.NodeId.{NodeId}

-- whether a set has an element
abbrev pub has : List ℕ → ℕ → Bool
has set e = list_any (nat_eq e) set

-- whether a flag is set; there are no flags past the end
abbrev pub flag : List Bool → ℕ → Bool
flag flags i = slice_index_or flags i false

-- the numbers of nodes
abbrev pub has_node : List NodeId → ℕ → Bool
has_node nodes i = list_any (λ p. nat_eq i p.0) nodes

-- a list went on with elements that pass and whose flags are lowered: with all of them, and with none that has no flag
pub record Lists (flags : List Bool) (passes : ℕ → Bool) (old new : List ℕ) : Type 0 where
  pub kept : (e : ℕ) → has old e ≡ true → has new e ≡ true
  pub listed : (e : ℕ) → passes e ≡ true → e < length flags → flag flags e ≡ false → has new e ≡ true
  pub within : All (λ e. e < length flags) old → All (λ e. e < length flags) new

-- a table of sets, of which the elements below `width` count
pub record Table : Type 0 where
  pub sets : List (List ℕ)
  pub width : ℕ

-- elements, followed by those of the set of a number, counted from 1; 0 is none
abbrev pub followed : List (List ℕ) → ℕ → List ℕ → List ℕ
followed sets tail own = own ++ slice_index_or ([] ∷ sets) tail []

-- sets behind others, each by its own elements and the number of an earlier one that follows
abbrev pub sets_from : List (List ℕ) → List ℕ → List (List ℕ) → List (List ℕ)
sets_from before [] owns = []
sets_from before (tail ∷ tails) [] = []
sets_from before (tail ∷ tails) (own ∷ owns) = followed before tail own ∷ sets_from (before ++ followed before tail own ∷ []) tails owns

-- each set has own elements, and what follows it is earlier
pub record AreParts (tails : List ℕ) (owns : List (List ℕ)) : Type 0 where
  pub len : length owns ≡ length tails
  pub earlier : (i : ℕ) → i < length tails → slice_index_or tails i 0 ≤ i

-- the set at a place has an element
abbrev pub has_at : Table → ℕ → ℕ → Bool
has_at t place e = has (slice_index_or t.sets place []) e

-- elements that were gathered, of those below `width`
pub record Gathering : Type 0 where
  pub elements : List ℕ
  pub width : ℕ

-- new has the sets of old at their places, perhaps with others after them
pub record Grows (old new : Table) : Type 0 where
  pub width : new.width ≡ old.width
  pub more : length old.sets ≤ length new.sets
  pub kept : (place : ℕ) → place < length old.sets → slice_index_or new.sets place [] ≡ slice_index_or old.sets place []

-- the set at the place has just the elements that pass
pub record IsAt (t : Table) (place : ℕ) (passes : ℕ → Bool) : Type 0 where
  pub within : place < length t.sets
  pub exact : (e : ℕ) → e < t.width → has_at t place e ≡ passes e

-- the places are those of sets of the table
pub record ArePlaced (t : Table) (places : List ℕ) : Type 0 where
  pub each : (i : ℕ) → i < length places → slice_index_or places i 0 < length t.sets

-- the sets of nodes lie at their places in the table, whose set at 0 is empty: there are no more than this one and one for each
-- node, and as many elements count in all that is kept
pub record IsTable (t : Table) (gathered : Gathering) (places : List ℕ) (elements : ℕ) : Type 0 where
  pub empty : IsAt t 0 (λ _. false)
  pub gathering : gathered.width ≡ t.width
  pub marked : elements ≡ t.width
  pub placed : ArePlaced t places
  pub few : length t.sets ≤ length places + 1

-- an element is in the set of some node, and in that of each
abbrev pub in_some : Table → List ℕ → List NodeId → ℕ → Bool
in_some t places nodes e = list_any (λ p. has_at t (slice_index_or places p.0 0) e) nodes

abbrev pub in_each : Table → List ℕ → List NodeId → ℕ → Bool
in_each t places nodes e = list_all (λ p. has_at t (slice_index_or places p.0 0) e) nodes
