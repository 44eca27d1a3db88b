use Rattle.std.proofs.Common.{◌≡◌, ℕ, List, Option, Some, length, ◌-◌, ap, sym, ◌∙◌}
use Rattle.std.specs.Prelude.{option_and_then, slice_get}
use Rattle.std.specs.Option.{option_map}
use Rattle.nc_lines.specs.Lines.{words_of, line_at}
use Rattle.nc_lines.specs.Parts.{Numbered}
use Rattle.nc_read_filter.specs.Groups.{GroupSays, group_says}
use Rattle.nc_read_filter.proofs.Endings.{last_of_block}
use Rattle.nc_read_filter.proofs.groups.last_statement.Goals as goal

pub returns : goal.returns
returns c =
    let lines = c.args.lines.now in
    let says : Option Numbered → Option GroupSays = λ o. option_and_then (λ (l : Numbered). group_says (words_of l.text)) o in
    let at : ℕ → Numbered = λ k. record { line = k; text = line_at k lines } in
    let last : Some c.in_ok-last.last.now ≡ slice_get c.args.block.now.lines.items (length c.args.block.now.lines.items - 1) =
    c.in_ok-last.ensures.value ∙ ap (λ (ks : List ℕ). slice_get ks (length ks - 1)) c.deref.ensures.value in
    c.read_group.ensures ∙ ap (λ (text : List ℕ). group_says (words_of text)) c.line.ensures ∙ ap (λ (o : Option ℕ). says (option_map at o)) last
    ∙ ap says (sym (last_of_block lines c.args.block.now.lines.items))
