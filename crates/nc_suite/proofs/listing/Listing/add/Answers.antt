use Rattle.std.proofs.Common.{◌≡◌, ◌<◌, true, false, List, length, get_or, set, nat_eq, ◌∙◌, subst, sym, ap, arith}
use Rattle.std.proofs.lemmas.List.{get_or_default, length-set}
use Rattle.nc_suite.specs.declared.touch.Touch.{Touch}
use Rattle.nc_suite.specs.Counts.{IsListing, mark_in, marked_if, over}
use Rattle.nc_suite.proofs.TouchLemmas.{listing-pushed, mark-pushed, mark-stays, mark-past, set-flag}
use Rattle.nc_suite.proofs.listing.Listing.add.Goals as goal
use Rattle.nc_suite.proofs.listing.Listing.add.Goals.{else-place-len-via-then-place-len+else-not-index, else-place-len-via-else-place-len}

pub invariant_of-self-then-not-index : goal.invariant_of-self-then-not-index
invariant_of-self-then-not-index c =
    let flags = c.self.inside.flags.items in
    let t : Touch = record { element = c.args.element; mark = c.args.mark } in
    let lt : c.args.element < length flags = omega (arith, c.if-place-len.true, c.len.ensures) in
    let low : get_or flags c.args.element false ≡ false = get_or_default flags c.args.element false c.index.result.now lt ∙ sym c.index.ensures ∙ c.if-not-index.true in
    subst (IsListing (set flags c.args.element true)) (sym c.in_ok-push.ensures.items)
    (listing-pushed flags c.self.inside.touches.items c.self.invariant t c.requires (set flags c.args.element true) (length-set flags c.args.element true) lt low
    (λ e below. set-flag flags c.args.element lt e))

pub returns-in_ok-push-clause-marks : goal.returns-in_ok-push-clause-marks
returns-in_ok-push-clause-marks c = λ e lt.
    let t : Touch = record { element = c.args.element; mark = c.args.mark } in
    ap (λ (ts : List Touch). mark_in ts e) c.in_ok-push.ensures.items
    ∙ mark-pushed c.self.inside.flags.items c.self.inside.touches.items c.self.invariant t c.requires e
    ∙ ap (λ l. over (mark_in l.touches e) (marked_if (nat_eq e c.args.element) c.args.mark)) c.self.view_is

pub returns-else-place-len-clause-marks : goal.returns-else-place-len-clause-marks
returns-else-place-len-clause-marks c = λ e lt.
    let flags = c.self.inside.flags.items in
    let touches = c.self.inside.touches.items in
    let t : Touch = record { element = c.args.element; mark = c.args.mark } in
    let below : e < length flags = subst (λ l. e < l.width) (sym c.self.view_is) lt in
    subst (λ l. mark_in l.touches e ≡ over (mark_in l.touches e) (marked_if (nat_eq e c.args.element) c.args.mark)) c.self.view_is
    (elim c.else-place-len.branch [
      | else-place-len-via-then-place-len+else-not-index w ↦ (let here : c.args.element < length flags = omega (arith, w.if-place-len.true, c.len.ensures) in
          mark-stays flags touches c.self.invariant t c.requires (get_or_default flags c.args.element false w.index.result.now here ∙ sym w.index.ensures ∙ w.if-not-index.false) e below)
      | else-place-len-via-else-place-len w ↦ mark-past flags touches c.self.invariant t c.requires (λ h. omega (arith, w.if-place-len.false, c.len.ensures)) e below
    ])
