use Rattle.std.proofs.Common.{ap, ◌∙◌}
use Rattle.serde_json.specs.Written.{compact_text, has_float}
use Rattle.std.proofs.lemmas.Result.{IfOk-weaker}
use Rattle.nc_report.proofs.ObjectText.{report-text, report-float}
use Rattle.nc_report.proofs.shown.Shown.text.Goals as goal

pub returns : goal.returns
returns c =
    let sheets = c.args.self.now in
    IfOk-weaker c.to_string.result _ _ (λ s h. h (ap has_float c.in_ok-value.ensures ∙ report-float sheets) ∙ ap compact_text c.in_ok-value.ensures ∙ report-text sheets) c.to_string.ensures.text
