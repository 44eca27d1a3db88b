-- Values that are kept by their keys, the keys in order of first mention.
use Rattle.std.specs.Prelude.{Bool, List, [], ◌∷◌, if◌then◌else◌}

-- the value of a key that is changed; where the key isn't known, it goes to the end, and what is changed is the value that stands for none
abbrev pub put_in : {K V : Type 0} → (K → K → Bool) → K → V → (V → V) → List (K × V) → List (K × V)
put_in same key none f [] = (key, f none) ∷ []
put_in same key none f (e ∷ es) = if same key e.0 then (e.0, f e.1) ∷ es else e ∷ put_in same key none f es
