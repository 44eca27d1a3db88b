use Rattle.std.proofs.Common.{ℕ, ◌+◌, List, ◌∷◌, ◌++◌, codes, set, sym, ap, ◌∙◌, arith}
use Rattle.std.proofs.lemmas.Fmt.{decimal_digit}
use Rattle.std.specs.Fmt.{decimal}
use Rattle.nc_report.specs.Counters.{Numbered, numbered_text}
use Rattle.nc_report.specs.Texts.{hit_line, line_of}
use Rattle.nc_report.proofs.lcov.push_record.Goals as goal

pub returns-clause-out : goal.returns-clause-out
unfolding hit_line
returns-clause-out c =
    let n = c.args.counter.now.number in
    let count = c.args.count in
    c.in_ok-extend_from_slice.ensures.items
    ∙ ap (λ (t : List ℕ). c.args.out.now.items ++ t)
    (c.text.ensures ∙ ap numbered_text c.put_behind.ensures ∙ ap (λ (v : Numbered). v.head ++ (decimal n ++ set v.tail 1 (48 + count))) c.requires.is.is
    ∙ ap (λ (d : List ℕ). codes "DA:" ++ (decimal n ++ (44 ∷ line_of d))) (sym (decimal_digit count (omega (arith, c.requires.one)))))
