use Rattle.std.proofs.Common.{◌<◌, ap, sym, subst, ◌∙◌, length, cond, true, false}
use Rattle.nc_marks.specs.Sets.{has, flag}
use Rattle.nc_marks.proofs.SetLemmas.{Gives, keeps-common}
use Rattle.nc_marks.proofs.flags.keep_common.Goals as goal

pub returns-clause-common : goal.returns-clause-common
returns-clause-common c = λ e h.
    let lowered : Gives (length c.args.flags.now) false c.args.elements.now.items c.args.flags.now c.flag_set.new.flags
    = λ d l. c.flag_set.ensures.flags d l ∙ ap (λ xs. cond (has xs d) false (flag c.args.flags.now d)) c.deref.ensures.value in
    let raised : Gives (length c.args.flags.now) true c.args.set.now c.flag_set.new.flags c.flag_set-2.new.flags
    = λ d l. c.flag_set-2.ensures.flags d (subst (λ m. d < m) (sym c.flag_set.ensures.len) l) in
    ap (λ xs. has xs e) c.keep_flagged.ensures
    ∙ keeps-common (length c.args.flags.now) c.args.elements.now.items c.args.set.now c.args.flags.now c.flag_set.new.flags c.flag_set-2.new.flags c.requires.told lowered raised e h
