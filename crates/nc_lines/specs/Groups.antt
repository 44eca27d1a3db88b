-- Values that are grouped by a key, the keys in order of first mention.
use Rattle.std.specs.Prelude.{ℕ, zero, suc, Bool, List, [], ◌∷◌, ◌++◌, map, filter, if◌then◌else◌}
use Rattle.std.specs.List.{list_any}

-- a value with its key
pub record Keyed (K V : Type 0) : Type 0 where
  pub key : K
  pub value : V

-- a key and the values that have it
pub record Group (K V : Type 0) : Type 0 where
  pub key : K
  pub values : List V

-- a key that isn't among those before it goes to their end
abbrev pub with_key : {K : Type 0} → (K → K → Bool) → List K → K → List K
with_key same keys key = if list_any (same key) keys then keys else keys ++ key ∷ []

-- the keys in order of first mention, behind those that are known
abbrev pub keys_from : {K : Type 0} → (K → K → Bool) → List K → List K → List K
keys_from same known [] = known
keys_from same known (key ∷ keys) = keys_from same (with_key same known key) keys

-- the values of one key, in order
abbrev pub of_key : {K V : Type 0} → (K → K → Bool) → K → List (Keyed K V) → List V
of_key same key ps = map (λ p. p.value) (filter (λ p. same key p.key) ps)

-- the groups, in order of first mention
abbrev pub groups : {K V : Type 0} → (K → K → Bool) → List (Keyed K V) → List (Group K V)
groups same ps = map (λ key. record { key = key; values = of_key same key ps }) (keys_from same [] (map (λ p. p.key) ps))

-- a list that is changed at one place
abbrev pub changed_at : {X : Type 0} → (X → X) → ℕ → List X → List X
changed_at f place [] = []
changed_at f zero (x ∷ xs) = f x ∷ xs
changed_at f (suc place) (x ∷ xs) = x ∷ changed_at f place xs
