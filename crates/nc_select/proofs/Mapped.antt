-- What is read at a place, through what decides of it.
use Rattle.std.proofs.Common.{◌≡◌, ℕ, ◌<◌, List, map, length, get_or, sym, ap, ◌∙◌}
use Rattle.std.proofs.lemmas.List.{get_or-map}

pub read_view : {X Y : Type 0} (f : X → Y) (xs : List X) (i : ℕ) (x : X) → x ≡ get_or xs i x → i < length xs → f x ≡ get_or (map f xs) i (f x)
read_view f xs i x read lt = ap f read ∙ sym (get_or-map f xs i x (f x) lt)
