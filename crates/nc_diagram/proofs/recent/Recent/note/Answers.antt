use Rattle.std.proofs.Common.{◌≡◌, ◌⊎◌, ◌∙◌, ℕ, List, Contains, ap, subst}
use Rattle.lru.specs.LruCache.{LruCache}
use Rattle.nc_diagram.specs.declared.recent.Question.{Question}
use Rattle.nc_diagram.specs.contracts.recent.QuestionPartialEq.TheImpl.{eq-value}
use Rattle.nc_diagram.proofs.RecentLemmas.{question_same, put-kept}
use Rattle.nc_diagram.proofs.recent.Recent.note.Goals.{in-Some-1, in-None-1}
use Rattle.nc_diagram.proofs.recent.Recent.note.Goals as goal

pub returns-in-Some : goal.returns-in-Some
returns-in-Some c = λ e h.
    let there : Contains c.put-replaced.new.self.entries e = elim c.match-self.branch [
      | in-Some-1 w ↦ subst (λ (es : List (Question × ℕ)). Contains es e) w.self-is h
      | in-None-1 w ↦ subst (λ (es : List (Question × ℕ)). Contains es e) w.self-is h
    ] in
    let before : c.deref_mut.result.now.entries ≡ c.args.self.now = ap (λ (d : LruCache Question ℕ). d.entries) c.deref_mut.ensures.value ∙ c.in-Some.ensures.cache in
    subst (λ (es : List (Question × ℕ)). (e ≡ (c.args.question, c.args.place)) ⊎ Contains es e) before
    (put-kept eq-value.it question_same c.args.question c.args.place c.deref_mut.result.now c.put-replaced.new.self c.put-replaced.result c.put-replaced.ensures.entries c.put-replaced.ensures.err e there)
