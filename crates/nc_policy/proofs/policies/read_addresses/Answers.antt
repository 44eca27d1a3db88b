use Rattle.std.proofs.Common.{◌≡◌, ◌<◌, ℕ, get_or, sym, ap, ◌∙◌, arith, inl, inr}
use Rattle.std.proofs.lemmas.Bool.{cases_lt}
use Rattle.std.proofs.lemmas.List.{get_or_default}
use Rattle.nc_types.specs.Cidr.{Cidr}
use Rattle.nc_policy.proofs.policies.read_addresses.Goals as goal

pub prefixes-preserved : goal.prefixes-preserved
prefixes-preserved c = λ k d lt.
    let ps = c.args.prefixes.now in
    let n = c.prefixes.prefix-index in
    let p = c.prefix-item.result in
    elim (cases_lt k n) [
      | inl before ↦ c.prefixes.invariant k d before
      | inr here ↦
          let place : k ≡ n = omega arith in
          let own : (get_or ps k d).base ≡ p.base = ap (λ (i : ℕ). (get_or ps i d).base) place ∙ ap (λ (q : Cidr). q.base) (get_or_default ps n d p c.prefixes-test.true ∙ sym c.prefix-item.is) in
          let few : p.base < 4294967296 = omega (arith, c.addr-addr.ensures.base) in
          omega arith
    ]
