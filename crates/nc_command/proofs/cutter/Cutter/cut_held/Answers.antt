use Rattle.std.proofs.Common.{◌≡◌, ◌∙◌, List, ℕ, length, take, ap, sym, arith}
use Rattle.nc_lines.specs.Lines.{without_return}
use Rattle.nc_command.specs.declared.cutter.Cut.TheVariants.{Line}
use Rattle.nc_command.proofs.CutLemmas.{cut_long, cut_short}
use Rattle.nc_command.proofs.cutter.Cutter.cut_held.Goals as goal

pub returns-then-len-gt-LINE_LIMIT-clause-line : goal.returns-then-len-gt-LINE_LIMIT-clause-line
returns-then-len-gt-LINE_LIMIT-clause-line c =
    let len : c.line_len-len.result ≡ length (without_return c.args.self.now) = c.line_len-len.ensures.len ∙ ap (λ (l : List ℕ). length (without_return l)) (c.deref.ensures.value ∙ c.self.view_is) in
    sym (cut_long c.args.self.now (omega arith))

pub returns-clause-line : goal.returns-clause-line
returns-clause-line c =
    let held : c.deref.result.now ≡ c.args.self.now = c.deref.ensures.value ∙ c.self.view_is in
    let len : c.line_len-len.result ≡ length (without_return c.args.self.now) = c.line_len-len.ensures.len ∙ ap (λ (l : List ℕ). length (without_return l)) held in
    let bytes : c.truncate.new.self.items ≡ without_return c.args.self.now =
    c.truncate.ensures.items ∙ ap (λ (l : List ℕ). take c.line_len-len.result l) (ap (λ v. v.items) c.replace-bytes.ensures.value ∙ c.self.view_is ∙ sym held) ∙ c.line_len-len.ensures.front ∙ ap without_return held in
    ap Line bytes ∙ sym (cut_short c.args.self.now (omega arith))
