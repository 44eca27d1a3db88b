use Rattle.std.proofs.Common.{◌++◌, ◌∙◌, ℕ, codes, ap}
use Rattle.std.specs.Fmt.{decimal}
use Rattle.nc_report.specs.Texts.{count_of, letters_of}
use Rattle.nc_report.proofs.Numbers.{four-counts}
use Rattle.nc_report.proofs.shown.Shown.push_totals.Goals as goal

pub returns : goal.returns
returns c =
    let letters = letters_of c.args.self.now in
    let old = c.args.out.now.items in
    let first = c.push_count.new.out.items in
    let second = c.push_count-2.new.out.items in
    let third = c.push_count-3.new.out.items in
    four-counts old (codes "strong ") (decimal (count_of 83 letters)) (codes " weak ") (decimal (count_of 87 letters)) (codes " uncovered ") (decimal (count_of 85 letters)) (codes " outside ") (decimal (count_of 46 letters))
    first second third c.push_count-4.new.out.items c.push.new.self.items
    (c.in_ok-push_count.ensures ∙ ap (λ (n : ℕ). old ++ (codes "strong " ++ decimal n)) c.count.ensures)
    (c.in_ok-push_count-2.ensures ∙ ap (λ (n : ℕ). first ++ (codes " weak " ++ decimal n)) c.count-2.ensures)
    (c.in_ok-push_count-3.ensures ∙ ap (λ (n : ℕ). second ++ (codes " uncovered " ++ decimal n)) c.count-3.ensures)
    (c.in_ok-push_count-4.ensures ∙ ap (λ (n : ℕ). third ++ (codes " outside " ++ decimal n)) c.count-4.ensures)
    c.in_ok-push.ensures.items
