use Rattle.std.proofs.Common.{◌≡◌, ◌<◌, ◌≤◌, ◌+◌, ℕ, List, ◌∷◌, All, length, take, drop, refl, sym, ap, subst, ◌∙◌, arith}
use Rattle.std.proofs.lemmas.List.{drop_more}
use Rattle.std.proofs.lemmas.List.Elements.{All-head, All-tail}
use Rattle.nc_lines.specs.Parts.{Numbered, numbered}
use Rattle.nc_read_link.specs.Drafts.{finished}
use Rattle.nc_read_link.proofs.DraftLemmas.{started}
use Rattle.nc_read_link.proofs.interfaces.read_interface.Goals as goal

pub lines-init : goal.lines-init
lines-init c = record {
  rest = started c.args.name c.new-draft.result (numbered c.args.lines.now c.args.block.lines.items) c.new-draft.ensures.address c.new-draft.ensures.shut;
  exist = c.requires;
  kept = omega arith;
  len = refl;
}

pub line-requires-clause-first : goal.line-requires-clause-first
line-requires-clause-first c =
    let xs = c.lines.own.items in
    let i : ℕ = c.lines.index in
    let within : i < length xs = omega (arith, c.lines-test.true, c.lines.auto.index-end, c.len-index-end.ensures, c.lines.invariant.len) in
    let more : drop i xs ≡ c.index-line.result.now ∷ drop (i + 1) xs = drop_more xs i c.index-line.result.now within ∙ ap (λ (x : ℕ). x ∷ drop (i + 1) xs) (sym c.index-line.ensures) in
    (All-head (λ (k : ℕ). (0 < k) × (k ≤ length c.args.lines.now)) c.index-line.result.now (drop (i + 1) xs) (subst (All (λ (k : ℕ). (0 < k) × (k ≤ length c.args.lines.now))) more c.lines.invariant.exist)).0

pub line-requires-clause-last : goal.line-requires-clause-last
line-requires-clause-last c =
    let xs = c.lines.own.items in
    let i : ℕ = c.lines.index in
    let within : i < length xs = omega (arith, c.lines-test.true, c.lines.auto.index-end, c.len-index-end.ensures, c.lines.invariant.len) in
    let more : drop i xs ≡ c.index-line.result.now ∷ drop (i + 1) xs = drop_more xs i c.index-line.result.now within ∙ ap (λ (x : ℕ). x ∷ drop (i + 1) xs) (sym c.index-line.ensures) in
    (All-head (λ (k : ℕ). (0 < k) × (k ≤ length c.args.lines.now)) c.index-line.result.now (drop (i + 1) xs) (subst (All (λ (k : ℕ). (0 < k) × (k ≤ length c.args.lines.now))) more c.lines.invariant.exist)).1

pub lines-preserved : goal.lines-preserved
lines-preserved c =
    let lines = c.args.lines.now in
    let name = c.args.name in
    let xs = c.lines.own.items in
    let ys = c.keep-kept.new.own.items in
    let i : ℕ = c.lines.index in
    let line : ℕ = c.index-line.result.now in
    let at : List ℕ → Numbered = λ text. record { line = line; text = text } in
    let within : i < length xs = omega (arith, c.lines-test.true, c.lines.auto.index-end, c.len-index-end.ensures, c.lines.invariant.len) in
    let more : drop i xs ≡ line ∷ drop (i + 1) xs = drop_more xs i line within ∙ ap (λ (x : ℕ). x ∷ drop (i + 1) xs) (sym c.index-line.ensures) in
    let behind : drop (i + 1) ys ≡ drop (i + 1) xs = c.keep-kept.ensures.behind (i + 1) (omega (arith, c.lines.invariant.kept)) in
    let first : numbered lines (drop i xs) ≡ at c.line.result.now ∷ numbered lines (drop (i + 1) xs) =
    ap (numbered lines) more ∙ ap (λ (text : List ℕ). at text ∷ numbered lines (drop (i + 1) xs)) (sym c.line.ensures) in
    let taken = c.in_ok-counts.ensures name (take c.lines.kept xs) (numbered lines (drop (i + 1) xs)) in
    let whole : finished name (take c.lines.kept xs) c.lines.draft (numbered lines (drop i xs)) ≡ finished name (take c.keep-kept.result ys) c.take.new.self (numbered lines (drop (i + 1) ys)) =
    ap (finished name (take c.lines.kept xs) c.lines.draft) first ∙ taken ∙ ap (λ (before : List ℕ). finished name before c.take.new.self (numbered lines (drop (i + 1) xs))) (sym c.keep-kept.ensures.kept)
    ∙ ap (λ (ks : List ℕ). finished name (take c.keep-kept.result ys) c.take.new.self (numbered lines ks)) (sym behind) in
    record {
      rest = sym whole ∙ c.lines.invariant.rest;
      exist = subst (All (λ (k : ℕ). (0 < k) × (k ≤ length lines))) (sym behind) (All-tail (λ (k : ℕ). (0 < k) × (k ≤ length lines)) line (drop (i + 1) xs) (subst (All (λ (k : ℕ). (0 < k) × (k ≤ length lines))) more c.lines.invariant.exist));
      kept = omega (arith, c.keep-kept.ensures.most, c.lines.invariant.kept);
      len = c.keep-kept.ensures.len ∙ c.lines.invariant.len;
    }
