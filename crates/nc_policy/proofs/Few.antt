-- A configuration has few clauses, few lists and few entries of each: they are elements, and there are no more elements than lines.
use Rattle.std.proofs.Common.{◌≡◌, ◌≤◌, ℕ, length, Some, arith}
use Rattle.std.specs.Prelude.{slice_get}
use Rattle.std.proofs.lemmas.List.{length-map}
use Rattle.nc_types.specs.declared.config.RouterConfig.{RouterConfig}
use Rattle.nc_types.specs.Config.{PrefixListView, CommunityListView, clause_view, list_view, community_list_view, config_view}
use Rattle.nc_types.specs.WellFormed.{IsWellFormed}
use Rattle.nc_types.proofs.Few as parts

module _ (c : RouterConfig) (formed : IsWellFormed (config_view c)) where
  pub few_clauses : length c.clauses.items ≤ c.line_count
  few_clauses = omega (arith, parts.few_clauses (config_view c) formed, parts.few_elements (config_view c) formed, length-map c.clauses.items clause_view)

  pub few_lists : length c.lists.items ≤ c.line_count
  few_lists = omega (arith, parts.few_lists (config_view c) formed, parts.few_elements (config_view c) formed, length-map c.lists.items list_view)

  pub few_community_lists : length c.community_lists.items ≤ c.line_count
  few_community_lists = omega (arith, parts.few_community_lists (config_view c) formed, parts.few_elements (config_view c) formed, length-map c.community_lists.items community_list_view)

  pub few_of_list : (k : ℕ) (l : PrefixListView) → slice_get (config_view c).lists k ≡ Some l → length l.entries ≤ c.line_count
  few_of_list k l at = omega (arith, parts.few_of_list (config_view c) formed k l at, parts.few_elements (config_view c) formed)

  pub few_of_community_list : (k : ℕ) (l : CommunityListView) → slice_get (config_view c).community_lists k ≡ Some l → length l.entries ≤ c.line_count
  few_of_community_list k l at = omega (arith, parts.few_of_community_list (config_view c) formed k l at, parts.few_elements (config_view c) formed)
