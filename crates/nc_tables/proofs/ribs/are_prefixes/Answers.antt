use Rattle.std.proofs.Common.{◌≡◌, ℕ, get_or, sym, ap, subst, ◌∙◌, arith, inl, inr}
use Rattle.std.proofs.lemmas.Bool.{cases_lt}
use Rattle.std.proofs.lemmas.Grind.{common_steps}
use Rattle.nc_types.specs.Cidr.{Cidr, IsCidr}
use Rattle.nc_tables.proofs.ribs.are_prefixes.Goals as goal

pub prefixes-init : goal.prefixes-init
prefixes-init c k d lt = absurd (omega arith)

pub prefixes-preserved : goal.prefixes-preserved
prefixes-preserved c k d less = elim (cases_lt k c.prefixes.prefix-index) [
  | inl before ↦ c.prefixes.invariant k d before
  | inr behind ↦
      let ps = c.args.prefixes.now in
      let index = c.prefixes.prefix-index in
      let p = c.prefix-item.result in
      let same : k ≡ index = omega arith in
      let here : get_or ps index d ≡ p = grind (arith, common_steps) in
      let there : p ≡ get_or ps k d = sym (ap (λ (j : ℕ). get_or ps j d) same ∙ here) in
      subst (λ (q : Cidr). IsCidr q.base q.len) there c.len-len.ensures.valid
]

pub returns : goal.returns
returns c k d lt = c.prefixes.invariant k d (omega arith)
