use Rattle.std.proofs.Common.{List, get_or, map, subst, arith}
use Rattle.std.proofs.lemmas.List.{get_or_default}
use Rattle.std.specs.Option.{option_map}
use Rattle.nc_types.specs.Config.{PrefixListView, CommunityListView, ClauseView, list_view, community_list_view, clause_view, config_view}
use Rattle.nc_types.specs.declared.config.NetworkStatement.{NetworkStatement}
use Rattle.nc_types.specs.declared.config.AggregateStatement.{AggregateStatement}
use Rattle.nc_types.specs.declared.config.PrefixList.{PrefixList}
use Rattle.nc_policy.specs.Indexes.{AreEntryTables}
use Rattle.nc_policy.specs.Seen.{entry_table, kept_table, IsPrefixIndex}
use Rattle.nc_policy.proofs.Few.{few_of_list}
use Rattle.nc_policy.proofs.Keeping.{nothing_kept}
use Rattle.nc_policy.proofs.Naming.{names_seen}
use Rattle.nc_policy.proofs.Permitting.{seen_at}
use Rattle.nc_policy.proofs.router_index.RouterIndex.bare.Goals as goal

pub returns : goal.returns
returns c =
    let config = c.args.config.now in
    record {
      lists = names_seen (λ (l : PrefixListView). l.name) list_view c.deref.result.now config.lists.items c.deref.ensures.value c.in_ok-names.names c.in_ok-names.ensures;
      community_lists =
          names_seen (λ (l : CommunityListView). l.name) community_list_view c.deref-2.result.now config.community_lists.items c.deref-2.ensures.value c.in_ok-community_names.community_names
          c.in_ok-community_names.ensures;
      maps = names_seen (λ (k : ClauseView). k.map_name) clause_view c.deref-3.result.now config.clauses.items c.deref-3.ensures.value c.in_ok-maps.maps c.in_ok-maps.ensures;
      entries = subst (λ (ls : List PrefixList). AreEntryTables (map list_view ls) (map (option_map entry_table) c.in_ok-lists.lists.items)) c.deref-4.ensures.value c.in_ok-lists.ensures;
      networks = subst (λ (ns : List NetworkStatement). IsPrefixIndex (map (λ n. n.prefix) ns) c.in_ok-networks.networks) c.networks_in.ensures c.in_ok-networks.ensures;
      aggregates = subst (λ (gs : List AggregateStatement). IsPrefixIndex (map (λ a. a.prefix) gs) c.in_ok-aggregates.aggregates) c.aggregates_in.ensures c.in_ok-aggregates.ensures;
      spans = c.in_ok-spans.ensures;
      guards = c.in_ok-guards.ensures;
      highest = c.in_ok-highest.ensures;
      kept = nothing_kept (config_view config) (kept_table c.in_ok-kept.kept) c.in_ok-kept.ensures.kept;
      asked = c.in_ok-kept.ensures.asked (config_view config);
    }

pub clause_spans-requires : goal.clause_spans-requires
clause_spans-requires c = names_seen (λ (l : PrefixListView). l.name) list_view c.deref.result.now c.args.config.now.lists.items c.deref.ensures.value c.in_ok-names.names c.in_ok-names.ensures

pub clause_guards-requires : goal.clause_guards-requires
clause_guards-requires c =
    names_seen (λ (l : CommunityListView). l.name) community_list_view c.deref-2.result.now c.args.config.now.community_lists.items c.deref-2.ensures.value c.in_ok-community_names.community_names
    c.in_ok-community_names.ensures

pub list_indexes-requires : goal.list_indexes-requires
list_indexes-requires c = λ k d lt.
    let config = c.args.config.now in
    let lists = c.deref-4.result.now in
    let at = seen_at list_view config.lists.items lists k (get_or lists k d) c.deref-4.ensures.value lt (get_or_default lists k d (get_or lists k d) lt) in
    omega (arith, few_of_list config c.requires k (list_view (get_or lists k d)) at)

pub highest_preferences-requires : goal.highest_preferences-requires
highest_preferences-requires c = names_seen (λ (k : ClauseView). k.map_name) clause_view c.deref-3.result.now c.args.config.now.clauses.items c.deref-3.ensures.value c.in_ok-maps.maps c.in_ok-maps.ensures
