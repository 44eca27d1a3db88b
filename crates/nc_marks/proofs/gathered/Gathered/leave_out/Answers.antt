use Rattle.std.proofs.Common.{◌≡◌, ◌<◌, ◌||◌, ◌&&◌, ◌++◌, ℕ, Bool, List, false, cond, take, drop, length, sym, ap, ◌∙◌, subst}
use Rattle.nc_marks.specs.Sets.{Gathering, flag, has, has_at}
use Rattle.nc_marks.proofs.PartLemmas.{left-out, left-with}
use Rattle.nc_marks.proofs.ReachLemmas.{written}
use Rattle.nc_marks.proofs.SetLemmas.{has-filter}
use Rattle.nc_marks.proofs.gathered.Gathered.leave_out.Goals as goal

-- the flags that are left, where those of a set are lowered among those that told the elements
told : (flags lowered left : List Bool) (len : ℕ) (elements : List ℕ) (in_set : ℕ → Bool) → length lowered ≡ len → left ≡ take len (lowered ++ drop (length lowered) flags)
    → ((e : ℕ) → e < length flags → flag lowered e ≡ cond (in_set e) false (flag flags e)) → ((e : ℕ) → e < length flags → flag flags e ≡ has elements e)
    → (e : ℕ) → e < length flags → flag left e ≡ cond (in_set e) false (has elements e)
told flags lowered left len elements in_set same left_is lower tell e lt =
    ap (λ fs. flag fs e) left_is ∙ written lowered (drop (length lowered) flags) len e same ∙ lower e lt ∙ ap (cond (in_set e) false) (tell e lt)

pub invariant_of-self : goal.invariant_of-self
invariant_of-self c = λ e lt.
    let flags = c.self.inside.flags in
    let elements = c.self.inside.elements.items in
    let in_set = has_at c.args.sets.now c.args.place in
    let lowered = c.flag.new.flags in
    let within : e < length flags.items = subst (λ n. e < n) (ap length (sym c.deref.ensures.value) ∙ c.deref.ensures.len ∙ flags.ok.0) lt in
    let is = told flags.items lowered c.deref.result.now flags.len elements in_set (c.flag.ensures.len ∙ c.deref_mut.ensures.len) c.deref.ensures.value
    (λ d h. c.flag.ensures.flags d (subst (λ fs. d < length fs) (sym c.deref_mut.ensures.value) h) ∙ ap (λ fs. cond (in_set d) false (flag fs d)) c.deref_mut.ensures.value)
    c.self.invariant e within in
    ap (λ fs. flag fs e) (sym c.deref.ensures.value) ∙ is ∙ sym (left-out (in_set e) (has elements e)) ∙ ap (λ b. has elements e && b) (sym is)
    ∙ sym (has-filter (flag c.deref.result.now) elements e) ∙ ap (λ es. has es e) (sym c.keep_flagged.ensures)

pub returns-clause-others : goal.returns-clause-others
returns-clause-others c = λ e lt.
    let flags = c.self.inside.flags in
    let elements = c.self.inside.elements.items in
    let in_set = has_at c.args.sets.now c.args.place in
    let within : e < length flags.items = subst (λ (g : Gathering). e < g.width) (sym c.self.view_is) lt in
    let is = told flags.items c.flag.new.flags c.deref.result.now flags.len elements in_set (c.flag.ensures.len ∙ c.deref_mut.ensures.len) c.deref.ensures.value
    (λ d h. c.flag.ensures.flags d (subst (λ fs. d < length fs) (sym c.deref_mut.ensures.value) h) ∙ ap (λ fs. cond (in_set d) false (flag fs d)) c.deref_mut.ensures.value)
    c.self.invariant e within in
    ap (λ es. has es e || in_set e) c.keep_flagged.ensures ∙ ap (λ b. b || in_set e) (has-filter (flag c.deref.result.now) elements e ∙ ap (λ b. has elements e && b) is)
    ∙ left-with (in_set e) (has elements e) ∙ ap (λ (g : Gathering). has g.elements e || in_set e) c.self.view_is
