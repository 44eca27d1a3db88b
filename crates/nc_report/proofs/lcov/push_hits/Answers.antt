use Rattle.std.proofs.Common.{◌≡◌, ℕ, ◌+◌, ◌++◌, cond, List, length, get_or, nat_lt, refl, sym, ap, ◌∙◌, append-nil, append_assoc, length-append, arith}
use Rattle.std.proofs.lemmas.List.{get_or_default}
use Rattle.std.proofs.lemmas.List.Concat.{flat_map-append}
use Rattle.std.proofs.lemmas.List.Sums.{sum_by-append}
use Rattle.std.specs.List.{flat_map}
use Rattle.nc_report.specs.Counters.{Numbered}
use Rattle.nc_report.specs.Texts.{Hit, places, hit_at, hit_count, hit_line, hit_of, hits_of, listed}
use Rattle.nc_report.proofs.Counted.{few-listed, record-first, record-next}
use Rattle.nc_report.proofs.Lists.{written-more}
use Rattle.nc_report.proofs.lcov.push_hits.Goals as goal

pub letters-init : goal.letters-init
letters-init c = record {
  out = sym (append-nil c.args.out.now.items);
  found = refl;
  hit = refl;
  few = omega arith;
  is = record-first c.in_ok-counter.counter 48 c.in_ok-counter.ensures;
  number = ap (λ (v : Numbered). v.number) c.in_ok-counter.ensures;
}

pub letters-preserved : goal.letters-preserved
letters-preserved c =
    let letters = c.args.letters.now in
    let k = c.letters.letter-index in
    let start = c.args.out.now.items in
    let hits : ℕ → List Hit = λ place. listed (hit_at letters place) in
    let before : List Hit = flat_map hits (places k) in
    let this : List Hit = listed (hit_of c.letters.counter.number (hits_of (get_or letters k 0))) in
    let same : this ≡ hits k
    = ap (λ (n : ℕ). listed (hit_of n (hits_of (get_or letters k 0)))) c.letters.invariant.number
    ∙ ap (λ (l : ℕ). listed (hit_of (k + 1) (hits_of l))) (get_or_default letters k 0 46 c.letters-test.true) in
    let more : before ++ this ≡ flat_map hits (places (k + 1)) = ap (λ (t : List Hit). before ++ t) same ∙ sym (written-more hits k) in
    let few = few-listed (hit_at letters k) in
    let both = length-append before this in
    let all = ap length more in
    let one = ap length same in
    record {
      out = c.in_ok-push_hit.ensures.out ∙ ap (λ (o : List ℕ). o ++ flat_map hit_line this) c.letters.invariant.out ∙ append_assoc start (flat_map hit_line before) (flat_map hit_line this)
          ∙ ap (λ (o : List ℕ). start ++ o) (sym (flat_map-append hit_line before this) ∙ ap (flat_map hit_line) more);
      found = c.in_ok-push_hit.ensures.found ∙ ap (λ (n : ℕ). n + length this) c.letters.invariant.found ∙ sym both ∙ all;
      hit = c.in_ok-push_hit.ensures.hit ∙ ap (λ (n : ℕ). n + hit_count this) c.letters.invariant.hit ∙ sym (sum_by-append (λ (hit : Hit). cond {A = ℕ} (nat_lt 0 hit.count) 1 0) before this) ∙ ap hit_count more;
      few = omega (arith, c.letters.invariant.few);
      is = record-next c.push_hit.new.counter c.count_up.new.self c.push_hit.ensures.is c.in_ok-count_up.ensures;
      number = ap (λ (v : Numbered). v.number) c.in_ok-count_up.ensures ∙ ap (λ (n : ℕ). n + 1) (c.push_hit.ensures.number ∙ c.letters.invariant.number);
    }
