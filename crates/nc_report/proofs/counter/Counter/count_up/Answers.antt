use Rattle.std.proofs.Common.{◌≡◌, ℕ, ◌+◌, ◌-◌, ◌<◌, ◌≤◌, ◌^◌, ◌∷◌, ◌++◌, List, length, get_or, take, drop, replicate, ap, sym, ◌∙◌, subst, arith}
use Rattle.std.proofs.lemmas.List.{take_at}
use Rattle.std.specs.List.{insert}
use Rattle.nc_report.specs.Counters.{Numbered, HasDigits}
use Rattle.nc_report.proofs.Digits.{carried, digit-small, lengthened, next-view}
use Rattle.nc_report.proofs.counter.Counter.count_up.Goals as goal

pub invariant_of-self-then-place-self : goal.invariant_of-self-then-place-self
invariant_of-self-then-place-self c =
    let text = c.self.inside.text.items in
    let start = c.self.inside.start in
    let end = c.self.inside.end in
    let number = c.self.inside.number in
    let place = c.before_nines-place.result in
    let next = c.clear.new.text in
    let same : place ≡ start = omega (arith, c.if-place-self.true) in
    let small : number + 1 < 2 ^ 64 = omega (arith, c.requires, ap (λ (v : Numbered). v.number) c.self.view_is) in
    let nines : (k : ℕ) → place ≤ k → k < end → get_or text k 0 ≡ 57
    = subst (λ (t : List ℕ). (k : ℕ) → place ≤ k → k < end → get_or t k 0 ≡ 57) c.deref.ensures.value c.before_nines-place.ensures.nines in
    let is : next ≡ take (start + 1) (insert text start 49) ++ (replicate (end - start) 48 ++ drop (end + 1) (insert text start 49))
    = c.clear.ensures ∙ ap (λ (t : List ℕ). take (place + 1) t ++ (replicate (end + 1 - (place + 1)) 48 ++ drop (end + 1) t)) (c.deref_mut.ensures.value ∙ c.in_ok-insert.ensures.items)
    ∙ ap (λ (p : ℕ). take (p + 1) (insert text p 49) ++ (replicate (end + 1 - (p + 1)) 48 ++ drop (end + 1) (insert text p 49))) same
    ∙ ap (λ (m : ℕ). take (start + 1) (insert text start 49) ++ (replicate m 48 ++ drop (end + 1) (insert text start 49))) {y = end - start} (omega arith) in
    let all = lengthened text start end number c.self.invariant next (λ k le lt. nines k (omega arith) lt) small is in
    let back : take c.insert.new.self.len (next ++ drop (length next) c.insert.new.self.items) ≡ next
    = take_at next (drop (length next) c.insert.new.self.items) c.insert.new.self.len (omega (arith, c.clear.auto.text, c.deref_mut.ensures.len)) in
    subst (λ (t : List ℕ). HasDigits t start (end + 1) (number + 1)) (sym back) all.0

pub returns-then-place-self : goal.returns-then-place-self
returns-then-place-self c =
    let text = c.self.inside.text.items in
    let start = c.self.inside.start in
    let end = c.self.inside.end in
    let number = c.self.inside.number in
    let place = c.before_nines-place.result in
    let next = c.clear.new.text in
    let same : place ≡ start = omega (arith, c.if-place-self.true) in
    let small : number + 1 < 2 ^ 64 = omega (arith, c.requires, ap (λ (v : Numbered). v.number) c.self.view_is) in
    let nines : (k : ℕ) → place ≤ k → k < end → get_or text k 0 ≡ 57
    = subst (λ (t : List ℕ). (k : ℕ) → place ≤ k → k < end → get_or t k 0 ≡ 57) c.deref.ensures.value c.before_nines-place.ensures.nines in
    let is : next ≡ take (start + 1) (insert text start 49) ++ (replicate (end - start) 48 ++ drop (end + 1) (insert text start 49))
    = c.clear.ensures ∙ ap (λ (t : List ℕ). take (place + 1) t ++ (replicate (end + 1 - (place + 1)) 48 ++ drop (end + 1) t)) (c.deref_mut.ensures.value ∙ c.in_ok-insert.ensures.items)
    ∙ ap (λ (p : ℕ). take (p + 1) (insert text p 49) ++ (replicate (end + 1 - (p + 1)) 48 ++ drop (end + 1) (insert text p 49))) same
    ∙ ap (λ (m : ℕ). take (start + 1) (insert text start 49) ++ (replicate m 48 ++ drop (end + 1) (insert text start 49))) {y = end - start} (omega arith) in
    let all = lengthened text start end number c.self.invariant next (λ k le lt. nines k (omega arith) lt) small is in
    let back : take c.insert.new.self.len (next ++ drop (length next) c.insert.new.self.items) ≡ next
    = take_at next (drop (length next) c.insert.new.self.items) c.insert.new.self.len (omega (arith, c.clear.auto.text, c.deref_mut.ensures.len)) in
    next-view text next _ start end (end + 1) number c.args.self.now back all.1 all.2 c.self.view_is

pub carry-requires-clause-digit : goal.carry-requires-clause-digit
carry-requires-clause-digit c =
    let text = c.self.inside.text.items in
    let start = c.self.inside.start in
    let end = c.self.inside.end in
    let place = c.before_nines-place.result in
    let above : start < place = omega (arith, c.before_nines-place.ensures.from, c.if-place-self.false) in
    let small : c.self.inside.number + 1 < 2 ^ 64 = omega (arith, c.requires, ap (λ (v : Numbered). v.number) c.self.view_is) in
    let nines : (k : ℕ) → place ≤ k → k < end → get_or text k 0 ≡ 57
    = subst (λ (t : List ℕ). (k : ℕ) → place ≤ k → k < end → get_or t k 0 ≡ 57) c.deref.ensures.value c.before_nines-place.ensures.nines in
    let other : get_or text (place - 1) 0 ≡ 57 → ⊥ = subst (λ (t : List ℕ). get_or t (place - 1) 0 ≡ 57 → ⊥) c.deref.ensures.value (c.before_nines-place.ensures.other above) in
    let few : get_or text (place - 1) 0 ≤ 57 = digit-small text start end c.self.inside.number c.self.invariant place above c.before_nines-place.ensures.until nines other small in
    omega (arith, ap (λ (t : List ℕ). get_or t (place - 1) 0) c.deref_mut-2.ensures.value)

pub invariant_of-self-2 : goal.invariant_of-self-2
invariant_of-self-2 c =
    let text = c.self.inside.text.items in
    let start = c.self.inside.start in
    let end = c.self.inside.end in
    let number = c.self.inside.number in
    let place = c.before_nines-place.result in
    let next = c.carry.new.text in
    let above : start < place = omega (arith, c.before_nines-place.ensures.from, c.if-place-self.false) in
    let small : number + 1 < 2 ^ 64 = omega (arith, c.requires, ap (λ (v : Numbered). v.number) c.self.view_is) in
    let nines : (k : ℕ) → place ≤ k → k < end → get_or text k 0 ≡ 57
    = subst (λ (t : List ℕ). (k : ℕ) → place ≤ k → k < end → get_or t k 0 ≡ 57) c.deref.ensures.value c.before_nines-place.ensures.nines in
    let other : get_or text (place - 1) 0 ≡ 57 → ⊥ = subst (λ (t : List ℕ). get_or t (place - 1) 0 ≡ 57 → ⊥) c.deref.ensures.value (c.before_nines-place.ensures.other above) in
    let is : next ≡ take (place - 1) text ++ (get_or text (place - 1) 0 + 1) ∷ (replicate (end - place) 48 ++ drop end text)
    = c.carry.ensures ∙ ap (λ (t : List ℕ). take (place - 1) t ++ (get_or t (place - 1) 0 + 1) ∷ (replicate (end - place) 48 ++ drop end t)) c.deref_mut-2.ensures.value in
    let all = carried text start end number c.self.invariant place next above c.before_nines-place.ensures.until nines other small is in
    let back : take c.self.inside.text.len (next ++ drop (length next) text) ≡ next
    = take_at next (drop (length next) text) c.self.inside.text.len (omega (arith, c.carry.auto.text, c.deref_mut-2.ensures.len)) in
    subst (λ (t : List ℕ). HasDigits t start end (number + 1)) (sym back) all.0

pub returns : goal.returns
returns c =
    let text = c.self.inside.text.items in
    let start = c.self.inside.start in
    let end = c.self.inside.end in
    let number = c.self.inside.number in
    let place = c.before_nines-place.result in
    let next = c.carry.new.text in
    let above : start < place = omega (arith, c.before_nines-place.ensures.from, c.if-place-self.false) in
    let small : number + 1 < 2 ^ 64 = omega (arith, c.requires, ap (λ (v : Numbered). v.number) c.self.view_is) in
    let nines : (k : ℕ) → place ≤ k → k < end → get_or text k 0 ≡ 57
    = subst (λ (t : List ℕ). (k : ℕ) → place ≤ k → k < end → get_or t k 0 ≡ 57) c.deref.ensures.value c.before_nines-place.ensures.nines in
    let other : get_or text (place - 1) 0 ≡ 57 → ⊥ = subst (λ (t : List ℕ). get_or t (place - 1) 0 ≡ 57 → ⊥) c.deref.ensures.value (c.before_nines-place.ensures.other above) in
    let is : next ≡ take (place - 1) text ++ (get_or text (place - 1) 0 + 1) ∷ (replicate (end - place) 48 ++ drop end text)
    = c.carry.ensures ∙ ap (λ (t : List ℕ). take (place - 1) t ++ (get_or t (place - 1) 0 + 1) ∷ (replicate (end - place) 48 ++ drop end t)) c.deref_mut-2.ensures.value in
    let all = carried text start end number c.self.invariant place next above c.before_nines-place.ensures.until nines other small is in
    let back : take c.self.inside.text.len (next ++ drop (length next) text) ≡ next
    = take_at next (drop (length next) text) c.self.inside.text.len (omega (arith, c.carry.auto.text, c.deref_mut-2.ensures.len)) in
    next-view text next _ start end end number c.args.self.now back all.1 all.2 c.self.view_is
