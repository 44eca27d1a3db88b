use Rattle.std.proofs.Common.{◌≡◌, ◌+◌, List, Some, ap, ◌∙◌, arith, inl, inr}
use Rattle.std.specs.Prelude.{slice_get}
use Rattle.std.proofs.lemmas.Bool.{cases_lt, eqb-true, ltb-false, ltb-true}
use Rattle.nc_policy.specs.declared.askers.Asker.{Asker}
use Rattle.nc_policy.proofs.askers.Askers.range.Goals as goal

pub returns-clause-low : goal.returns-clause-low
returns-clause-low c = λ k a at same. elim (cases_lt k c.place_from-from.result) [
  | inl lt ↦
      let there : slice_get c.deref-2.result.now k ≡ Some a = ap (λ (xs : List Asker). slice_get xs k) (c.deref-2.ensures.value ∙ c.self.view_is) ∙ at in
      let less = ltb-true a.community c.from-number.result (c.place_from-from.ensures.before k a there lt) in
      let is = eqb-true a.community c.args.community same in
      absurd (omega arith)
  | inr le ↦ le
]

pub returns-clause-high : goal.returns-clause-high
returns-clause-high c = λ k a at same. elim (cases_lt k c.place_from-end.result) [
  | inl lt ↦ lt
  | inr le ↦
      let there : slice_get c.deref-3.result.now k ≡ Some a = ap (λ (xs : List Asker). slice_get xs k) (c.deref-3.ensures.value ∙ c.self.view_is) ∙ at in
      let more = ltb-false a.community (c.from-number.result + 1) (c.place_from-end.ensures.behind k a there le) in
      let is = eqb-true a.community c.args.community same in
      absurd (omega arith)
]
