use Rattle.std.proofs.Common.{ℕ, Contains, subst, ◌∙◌}
use Rattle.lru.specs.LruCache.{LruCache}
use Rattle.lru.proofs.CallerLemmas.{Contains-promoted}
use Rattle.nc_diagram.specs.declared.recent.Question.{Question}
use Rattle.nc_diagram.specs.contracts.recent.QuestionPartialEq.TheImpl.{eq-value}
use Rattle.nc_diagram.proofs.RecentLemmas.{question_same, found-kept}
use Rattle.nc_diagram.proofs.recent.used.Goals as goal

pub returns-then-is_some-clause-found : goal.returns-then-is_some-clause-found
returns-then-is_some-clause-found c =
    found-kept (eq-value.it c.args.question) c.args.question (question_same c.args.question) c.args.cache.now.entries c.copied-found.result (c.copied-found.ensures ∙ c.peek.ensures)

pub returns-then-is_some-clause-kept : goal.returns-then-is_some-clause-kept
returns-then-is_some-clause-kept c = λ e h.
    Contains-promoted (eq-value.it c.args.question) c.args.cache.now.entries e (subst (λ (d : LruCache Question ℕ). Contains d.entries e) c.promote.ensures.entries h)
