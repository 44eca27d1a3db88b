use Rattle.std.proofs.Common.{ℕ, List, sym, subst, ◌∙◌, ap, rules}
use Rattle.std.specs.Ordering.{nat_cmp}
use Rattle.std.specs.List.Sorted.{IsSortedByKey}
use Rattle.std.proofs.lemmas.List.Sorted.{answers_always}
use Rattle.nc_types.specs.declared.config.ListEntry.{ListEntry}
use Rattle.nc_read_policy.specs.Lists.{parts_of}
use Rattle.nc_read_policy.proofs.RunLemmas.{stays}
use Rattle.nc_read_policy.proofs.parts.gather_entries.Goals as goal

abbrev seq_of : ListEntry → ℕ
seq_of e = e.seq

pub join_runs-requires : goal.join_runs-requires
join_runs-requires c =
    let sorted : IsSortedByKey seq_of nat_cmp c.sort_by_key.new.self.items = c.in_ok-sort_by_key.ensures.sorted seq_of (answers_always _ _ _ (λ f a r f' k. search rules)) in
    subst (λ (es : List ListEntry). IsSortedByKey seq_of nat_cmp es) (sym c.deref.ensures.value) sorted

pub returns : goal.returns
returns c =
    let same = ap parts_of c.deref.ensures.value ∙ stays c.args.statements.now.items c.sort_by_key.new.self.items (c.in_ok-sort_by_key.ensures.stable seq_of (answers_always _ _ _ (λ f a r f' k. search rules))) in
    rw same at c.join_runs.ensures
