use Rattle.std.proofs.Common.{◌≡◌, ◌&&◌, ◌==◌, not, ℕ, ◌+◌, ◌<◌, List, [], ◌∷◌, Bool, true, false, Option, None, Some, get_or, drop, length, refl, sym, ap, ◌∙◌, arith}
use Rattle.std.proofs.lemmas.Bool.{false≢true}
use Rattle.std.proofs.lemmas.Bool.Decides.{nat_tests}
use Rattle.std.proofs.lemmas.List.{at_drop_all, at_drop_more}
use Rattle.std.specs.Option.{option_map, option_or}
use Rattle.nc_types.specs.Config.{config_view}
use Rattle.nc_types.specs.declared.config.Reference.{Reference}
use Rattle.nc_tables.specs.declared.policy.Place.{Place}
use Rattle.nc_tables.specs.Policy.{community_place, first_place, met}
use Rattle.nc_policy.proofs.guards.Guard.of.Goals as goal

-- a list that isn't empty
filled : (b t : Bool) (n : ℕ) → b ≡ (n == 0) → (not b && t) ≡ true → 0 < n
filled true t n e h = absurd (false≢true h)
filled false t n e h = grind (arith, nat_tests)

module _ (place : Reference → Option Place) where
  -- a reference that names no place is passed over
  passed_over : (rs : List Reference) (i : ℕ) (x : Reference) → i < length rs → x ≡ get_or rs i x → place x ≡ None → first_place place (drop (i + 1) rs) ≡ first_place place (drop i rs)
  passed_over rs i x within is none =
      sym (
      at_drop_more (first_place place) rs i x within
      ∙ ap (λ (y : Reference). first_place place (y ∷ drop (i + 1) rs)) (sym is)
      ∙ ap (λ (o : Option Place). option_or o (first_place place (drop (i + 1) rs))) none)

  -- references of which none names a place aren't met
  none_met : (rs : List Reference) → 0 < length rs → first_place place rs ≡ None → met place rs ≡ None
  none_met [] some e = absurd (omega (arith, some))
  none_met (r ∷ rs) some e = ap (option_map (λ (p : Place). Some p)) e

pub references-init : goal.references-init
references-init c = record {
  rest = λ held unheld. refl;
  some = λ held unheld. filled _ _ _ c.is_empty.ensures unheld;
}

pub references-preserved : goal.references-preserved
references-preserved c =
    let step = c.in_ok-add_reference.ensures in
    let rs = c.args.references.now in
    let i = c.references.reference-index in
    record {
      rest = λ held unheld.
          passed_over (community_place (config_view c.args.config.now) held) rs i c.reference-item.result c.references-test.true c.reference-item.is (step.reference held unheld)
          ∙ c.references.invariant.rest held (step.kept held unheld);
      some = λ held unheld. c.references.invariant.some held (step.kept held unheld);
    }

pub returns : goal.returns
returns c = λ held unheld.
    let place = community_place (config_view c.args.config.now) held in
    let rs = c.args.references.now in
    none_met place rs (c.references.invariant.some held unheld)
    (sym (c.references.invariant.rest held unheld) ∙ at_drop_all (first_place place) rs c.references.reference-index c.references-test.false)
