use Rattle.std.proofs.Common.{◌≡◌, true, sym, ap, ◌∙◌}
use Rattle.nc_lines.specs.Lines.{is_indented, words_of}
use Rattle.nc_read_policy.proofs.FrontLemmas.{behind_gap}
use Rattle.nc_read_policy.proofs.fronts.behind_gap.Goals as goal

pub returns : goal.returns
returns c =
    let cut = c.in_ok-rest.ensures.cases.0 in
    let gap : is_indented c.args.text.now ≡ true = sym c.is_indented.ensures ∙ c.if-not-is_indented.false in
    ap words_of cut ∙ behind_gap _ _ (sym (ap is_indented cut) ∙ gap)
