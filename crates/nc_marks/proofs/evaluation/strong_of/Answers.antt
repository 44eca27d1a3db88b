use Rattle.std.proofs.Common.{◌≡◌, ◌<◌, ◌||◌, false, arith, ◌∙◌, length, drop, ap, subst, sym}
use Rattle.std.proofs.lemmas.Grind.{common_steps}
use Rattle.nc_marks.specs.Sets.{flag, in_some}
use Rattle.nc_marks.proofs.ReachLemmas.{written}
use Rattle.nc_marks.proofs.KeptLemmas.{or_swap}
use Rattle.nc_marks.proofs.evaluation.strong_of.Goals as goal

pub returns-clause-strong : goal.returns-clause-strong
returns-clause-strong c = λ e lt.
    let long : length c.deref_mut.result.now ≡ c.args.sets.now.width = c.deref_mut.ensures.len ∙ c.in_ok-flags.ensures.len ∙ c.width.ensures in
    let flags = c.flag_strong.new.flags in
    let lowered : flag c.deref_mut.result.now e ≡ false = grind (arith, common_steps) in
    written flags (drop (length flags) c.in_ok-flags.flags.items) c.in_ok-flags.flags.len e (c.flag_strong.ensures.len ∙ c.deref_mut.ensures.len)
    ∙ c.flag_strong.ensures.flags e (subst (λ m. e < m) (sym long) lt)
    ∙ or_swap (in_some c.args.sets.now c.args.places.now c.args.nodes.now e) (flag c.deref_mut.result.now e)
    ∙ ap (λ b. b || in_some c.args.sets.now c.args.places.now c.args.nodes.now e) lowered
