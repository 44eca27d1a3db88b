-- What is right of each address stays right where one address more gets a value that is right of it.
use Rattle.std.proofs.Common.{◌≡◌, ℕ, Bool, true, false, cond, Option, Some, refl, sym, subst, ◌∙◌}
use Rattle.std.specs.Option.{ForSome}
use Rattle.std.specs.Ordering.{nat_cmp, is_eq}
use Rattle.std.proofs.lemmas.Map.Lookups.{exact_unsigned}
use Rattle.std.proofs.lemmas.Map.Views.{tells_apart}
use Rattle.std.proofs.lemmas.Option.{same_Some}
use Rattle.nc_types.specs.declared.addr.Addr.{Addr}

pub kept_more : {V : Type 0} (P : ℕ → V → Type 0) (old new : Addr → Option V) (key : Addr) (value : V) → ((addr : Addr) → new addr ≡ cond (is_eq (nat_cmp key.0 addr.0)) (Some value) (old addr)) → P key.0 value → ((addr : Addr) → ForSome (old addr) (P addr.0))
    → (addr : Addr) → ForSome (new addr) (P addr.0)
kept_more {V} P old new key value updates right before addr x there = by_key (is_eq (nat_cmp key.0 addr.0)) refl (sym (updates addr) ∙ there)
  where
    by_key : (b : Bool) → is_eq (nat_cmp key.0 addr.0) ≡ b → cond b (Some value) (old addr) ≡ Some x → P addr.0 x
    by_key true same e = subst (P addr.0) (same_Some value x e) (subst (λ (n : ℕ). P n value) (tells_apart exact_unsigned key.0 addr.0 same) right)
    by_key false other e = before addr x e
