-- What is right of each address stays right where one address more gets a value that is right of it, and where one has none any more.
use Rattle.std.proofs.Common.{◌≡◌, ℕ, Bool, true, false, cond, Option, None, Some, refl, sym, subst, ◌∙◌}
use Rattle.std.specs.Option.{ForSome}
use Rattle.std.specs.Prelude.{nat_eq}
use Rattle.std.proofs.lemmas.Bool.{eqb-true}
use Rattle.std.proofs.lemmas.Option.{none-some, same_Some}
use Rattle.nc_types.specs.declared.addr.Addr.{Addr}

module _ {V : Type 0} (P : ℕ → V → Type 0) (old new : Addr → Option V) (key : Addr) (right : (addr : Addr) → ForSome (old addr) (P addr.0)) where
  pub kept_with : (value : V) → ((addr : Addr) → new addr ≡ cond (nat_eq key.0 addr.0) (Some value) (old addr)) → P key.0 value → (addr : Addr) → ForSome (new addr) (P addr.0)
  kept_with value updates own addr x there = by_key (nat_eq key.0 addr.0) refl (sym (updates addr) ∙ there)
    where
      by_key : (b : Bool) → nat_eq key.0 addr.0 ≡ b → cond b (Some value) (old addr) ≡ Some x → P addr.0 x
      by_key true same e = subst (P addr.0) (same_Some value x e) (subst (λ (n : ℕ). P n value) (eqb-true key.0 addr.0 same) own)
      by_key false other e = right addr x e

  pub kept_without : ((addr : Addr) → new addr ≡ cond (nat_eq key.0 addr.0) None (old addr)) → (addr : Addr) → ForSome (new addr) (P addr.0)
  kept_without updates addr x there = by_key (nat_eq key.0 addr.0) (sym (updates addr) ∙ there)
    where
      by_key : (b : Bool) → cond b None (old addr) ≡ Some x → P addr.0 x
      by_key true e = absurd (none-some x e)
      by_key false e = right addr x e
