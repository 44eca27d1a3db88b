-- What passes a test of sameness is the same.
use Rattle.std.proofs.Common.{◌≡◌, ℕ, true, ◌==◌, List, ap, ◌∙◌}
use Rattle.std.specs.Str.{bytes_eq}
use Rattle.std.proofs.lemmas.Bool.{and_parts, eqb-true}
use Rattle.std.proofs.lemmas.Slice.Eq.{bytes_eq-Decides}
use Rattle.nc_types.specs.Cidr.{Cidr, same_prefix}

pub same_prefix_is : (p q : Cidr) → same_prefix p q ≡ true → p ≡ q
same_prefix_is p q e =
    let parts = and_parts (p.base == q.base) (p.len == q.len) e in
    ap (λ (b : ℕ). record { base = b; len = p.len }) (eqb-true p.base q.base parts.0) ∙ ap (λ (l : ℕ). record { base = q.base; len = l }) (eqb-true p.len q.len parts.1)

pub same_bytes_is : (x y : List ℕ) → bytes_eq x y ≡ true → x ≡ y
same_bytes_is x y e = (bytes_eq-Decides x y).0 e
