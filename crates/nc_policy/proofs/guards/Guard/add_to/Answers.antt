use Rattle.std.proofs.Common.{◌≡◌, ◌<◌, ◌&&◌, ◌++◌, ◌∷◌, [], ℕ, List, All, Bool, Some, true, false, not, length, get_or, refl, ap, sym, subst, ◌∙◌, arith, inl, inr, rules}
use Rattle.std.specs.Prelude.{slice_get}
use Rattle.std.specs.List.{list_any}
use Rattle.std.proofs.lemmas.Bool.{cases_eq}
use Rattle.std.proofs.lemmas.List.{get_or_default}
use Rattle.std.proofs.lemmas.List.Elements.{All-push}
use Rattle.nc_types.specs.Communities.{has}
use Rattle.nc_policy.specs.declared.askers.Asker.{Asker}
use Rattle.nc_policy.specs.Kept.{is_asked_by}
use Rattle.nc_policy.proofs.Ranging.{asked_last, asked_left, none_of}
use Rattle.nc_policy.proofs.guards.Guard.add_to.Goals as goal

pub numbers-preserved : goal.numbers-preserved
numbers-preserved c =
    let own = c.args.self.now.numbers.items in
    let at = c.numbers.number-index in
    let number = get_or c.deref-number-items.result.now at 0 in
    let old = c.numbers.askers.items in
    let new = c.push.new.self.items in
    let one : Asker = record { community = number; place = c.args.place } in
    let more : new ≡ old ++ one ∷ [] = c.in_ok-push.ensures.items in
    let still : (j : ℕ) (held : List ℕ) → is_asked_by new j held ≡ false → is_asked_by old j held ≡ false = λ j held e. asked_left old one j held (ap (λ (xs : List Asker). is_asked_by xs j held) (sym more) ∙ e) in
    let within : at < length own = search rules in
    record {
      kept = λ j held e. c.numbers.invariant.kept j held (still j held e);
      own = λ names name here all. subst (All (λ (a : Asker). slice_get names a.place ≡ Some name)) (sym more) (All-push (λ (a : Asker). slice_get names a.place ≡ Some name) old one (c.numbers.invariant.own names name here all) here);
      added = λ i d lt held e. elim (cases_eq i at) [
        | inl same ↦
            let here : get_or own i d ≡ number = ap (λ (j : ℕ). get_or own j d) same ∙ get_or_default own at d 0 within ∙ ap (λ (xs : List ℕ). get_or xs at 0) (sym c.deref-number-items.ensures.value) in
            ap (λ (n : ℕ). has n held) here ∙ asked_last old one c.args.place held refl (ap (λ (xs : List Asker). is_asked_by xs c.args.place held) (sym more) ∙ e)
        | inr other ↦ c.numbers.invariant.added i d (omega arith) held (still c.args.place held e)
      ];
    }

pub returns-clause-added : goal.returns-clause-added
returns-clause-added c = λ sound held e.
    let own = c.args.self.now.numbers.items in
    let is : c.args.self.now.sound ≡ true = search rules in
    let none = none_of own held (λ i d lt. c.numbers.invariant.added i d (let in_all : i < c.numbers.number-index = search rules in in_all) held e) in
    ap (λ (b : Bool). b && not (list_any (λ (n : ℕ). has n held) own)) is ∙ ap (λ (b : Bool). not b) none
