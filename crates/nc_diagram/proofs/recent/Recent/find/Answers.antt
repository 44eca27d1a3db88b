use Rattle.std.proofs.Common.{◌≡◌, ◌∙◌, ℕ, [], Some, Contains, sym, ap, subst}
use Rattle.std.specs.Option.{option_map_or}
use Rattle.lru.specs.LruCache.{LruCache}
use Rattle.nc_diagram.specs.declared.recent.Question.{Question}
use Rattle.nc_diagram.proofs.recent.Recent.find.Goals as goal

pub returns-clause-kept : goal.returns-clause-kept
returns-clause-kept c = λ e h.
    let held : c.self.inside.cache ≡ Some c.in_ok-cache.cache = sym c.take.ensures.value ∙ c.in_ok-cache.was in
    let same : c.deref_mut.result.now.entries ≡ c.args.self.now = ap (λ (d : LruCache Question ℕ). d.entries) c.deref_mut.ensures.value ∙ ap (λ o. option_map_or (λ d. d.value.entries) o []) (sym held) ∙ c.self.view_is in
    subst (λ es. Contains es e) same (c.used-found.ensures.kept e h)
