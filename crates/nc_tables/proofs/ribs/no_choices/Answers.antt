use Rattle.std.proofs.Common.{◌≡◌, ◌+◌, List, [], All, length, sym, ap, subst, ◌∙◌}
use Rattle.std.proofs.lemmas.List.{length_push}
use Rattle.std.proofs.lemmas.List.Elements.{All-push}
use Rattle.nc_tables.specs.declared.bgp.Chosen.{Chosen}
use Rattle.nc_tables.proofs.ribs.no_choices.Goals as goal

pub prefixes-preserved : goal.prefixes-preserved
prefixes-preserved c = record {
  count = ap length (c.in_ok-push.ensures).items ∙ length_push c.prefixes.choices.items c.none.result ∙ ap (λ n. n + 1) c.prefixes.invariant.count;
  none = subst (All (λ (cs : List Chosen). cs ≡ [])) (sym (c.in_ok-push.ensures).items) (All-push (λ (cs : List Chosen). cs ≡ []) c.prefixes.choices.items c.none.result c.prefixes.invariant.none c.none.ensures);
}

pub returns-clause-none : goal.returns-clause-none
returns-clause-none c = c.prefixes.invariant.none
