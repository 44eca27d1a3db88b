use Rattle.std.proofs.Common.{◌≡◌, List, ℕ, Option, Some, [], IfSome, false, ap, sym, subst, ◌∙◌}
use Rattle.std.specs.Prelude.{slice_get}
use Rattle.std.specs.List.{list_any}
use Rattle.std.specs.Option.{option_map}
use Rattle.nc_types.specs.declared.config.Clause.{Clause}
use Rattle.nc_types.specs.Config.{ClauseView, clause_view, config_view}
use Rattle.nc_tables.specs.Policy.{deciding}
use Rattle.nc_policy.specs.declared.kept.Decided.{Decided}
use Rattle.nc_policy.specs.Kept.{lists_prefixes, IsDecided}
use Rattle.nc_policy.specs.Views.{asked, candidate_view, IsCandidate}
use Rattle.nc_policy.proofs.Keeping.{decided_alike, flat_alike, is_decided, none_passes}
use Rattle.nc_policy.proofs.kept.flat_of.Goals as goal

pub returns : goal.returns
returns c = λ p held unmet.
    let config = config_view c.args.config.now in
    let name = c.args.name.now in
    let q = c.around-everywhere.result in
    let found = c.scanned-found.result in
    let d = c.decided_of.result in
    let decides = subst (λ (h : List ℕ). option_map candidate_view found ≡ deciding config name (asked q h)) c.none.ensures c.scanned-found.ensures.deciding in
    let candidate = subst (λ (h : List ℕ). IfSome found (IsCandidate config (asked q h))) c.none.ensures c.scanned-found.ensures.candidate in
    let known : IsDecided config name (asked q []) d = subst (λ (o : Option Decided). IsDecided config name (asked q []) o) (sym c.decided_of.ensures) (is_decided config name (asked q []) found decides candidate) in
    let none : (j : ℕ) (k : ClauseView) → slice_get config.clauses j ≡ Some k → lists_prefixes name k ≡ false = none_passes clause_view (lists_prefixes name) c.args.config.now.clauses.items
    (ap (λ (ks : List Clause). list_any (λ k. lists_prefixes name (clause_view k)) ks) (sym c.deref.ensures.value) ∙ sym c.lists_prefixes.ensures ∙ c.if-lists_prefixes.false) in
    decided_alike config name (asked q []) (asked p held) (flat_alike config name held c.requires.unmet unmet q p none) d known
