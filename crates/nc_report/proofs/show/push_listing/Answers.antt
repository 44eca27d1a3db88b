use Rattle.std.proofs.Common.{◌++◌, ◌+◌, ℕ, List, sym, ap, ◌∙◌, append-nil, append_assoc}
use Rattle.std.specs.List.{flat_map}
use Rattle.nc_report.specs.Counters.{Numbered}
use Rattle.nc_report.specs.Texts.{places, letter_in, shown_line, shown_at}
use Rattle.nc_report.proofs.Counted.{front-first, front-next}
use Rattle.nc_report.proofs.Lists.{written-more}
use Rattle.nc_report.proofs.show.push_listing.Goals as goal

pub lines-init : goal.lines-init
lines-init c = record {
  out = sym (append-nil c.args.out.now.items);
  is = front-first c.in_ok-front.front 46 c.in_ok-front.ensures;
  number = ap (λ (v : Numbered). v.number) c.in_ok-front.ensures;
}

pub lines-preserved : goal.lines-preserved
lines-preserved c =
    let shown : ℕ → List ℕ = shown_at c.args.letters.now c.args.lines.now in
    let k = c.lines.place in
    let start = c.args.out.now.items in
    record {
      out = c.in_ok-push_shown.ensures.out
          ∙ ap (λ (n : ℕ). c.lines.out.items ++ shown_line c.letter_in.result n c.line.result.now) c.lines.invariant.number
          ∙ ap (λ (o : List ℕ). o ++ shown_line c.letter_in.result (k + 1) c.line.result.now) c.lines.invariant.out
          ∙ append_assoc start (flat_map shown (places k)) (shown_line c.letter_in.result (k + 1) c.line.result.now)
          ∙ ap (λ (l : ℕ). start ++ (flat_map shown (places k) ++ shown_line l (k + 1) c.line.result.now)) c.letter_in.ensures
          ∙ ap (λ (line : List ℕ). start ++ (flat_map shown (places k) ++ shown_line (letter_in c.args.letters.now k) (k + 1) line)) c.line.ensures
          ∙ ap (λ (o : List ℕ). start ++ o) (sym (written-more shown k));
      is = front-next c.push_shown.new.front c.count_up.new.self c.push_shown.ensures.is c.in_ok-count_up.ensures;
      number = ap (λ (v : Numbered). v.number) c.in_ok-count_up.ensures ∙ ap (λ (n : ℕ). n + 1) (c.push_shown.ensures.number ∙ c.lines.invariant.number);
    }
