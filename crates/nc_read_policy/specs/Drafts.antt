-- A clause as the lines so far leave it, and what the lines behind them make of it.
use Rattle.std.specs.Prelude.{◌≡◌, ℕ, false, List, [], ◌∷◌, ◌++◌, map, Some, Result, Ok, Err, unwrap_or}
use Rattle.std.specs.List.{filter_map, flat_map, last_or}
use Rattle.std.specs.Option.{option_map_or, option_or}
use Rattle.nc_types.specs.Config.{clause_view}
use Rattle.nc_types.specs.declared.fault.Fault.{Fault}
use Rattle.nc_types.specs.declared.fault.ConfigFault.{ConfigFault}
use Rattle.nc_lines.specs.Parts.{Numbered, fault_in, statements_in}
use Rattle.nc_lines.specs.Outcomes.{IsFault}
use Rattle.nc_read_policy.specs.Clauses.{ClauseStatement, ClauseLine, ClausePart, clause_of, action_by, lists_by, community_lists_by, preference_by, metric_by, prepend_by, origin_by, communities_by, line_says}
use Rattle.nc_read_policy.specs.declared.draft.Draft.{Draft}

-- the clause of this name and number that no statement has set
abbrev pub empty_part : List ℕ → ℕ → ClausePart
empty_part name number = record { clause = clause_of name number []; lines = [] }

abbrev pub part_of : Draft → ClausePart
part_of d = record { clause = clause_view d.clause; lines = d.lines.items }

-- what one more statement leaves
abbrev pub part_with : ClausePart → ℕ → ClauseStatement → ClausePart
part_with p line s =
    record {
      clause = record p.clause {
        permit = unwrap_or (action_by s) p.clause.permit;
        lists = p.clause.lists ++ lists_by line s;
        community_lists = p.clause.community_lists ++ community_lists_by line s;
        preference = option_or (preference_by s) p.clause.preference;
        metric = option_or (metric_by s) p.clause.metric;
        prepend = unwrap_or (prepend_by s) p.clause.prepend;
        origin = option_or (origin_by s) p.clause.origin;
        communities = option_or (communities_by s) p.clause.communities;
      };
      lines = p.lines ++ line ∷ [];
    }

-- what statements behind these leave
abbrev pub part_behind : ClausePart → List ClauseLine → ClausePart
part_behind p ss =
    record {
      clause = record p.clause {
        permit = unwrap_or (last_or (Some p.clause.permit) (filter_map (λ s. action_by s.setting) ss)) false;
        lists = p.clause.lists ++ flat_map (λ s. lists_by s.line s.setting) ss;
        community_lists = p.clause.community_lists ++ flat_map (λ s. community_lists_by s.line s.setting) ss;
        preference = last_or p.clause.preference (filter_map (λ s. preference_by s.setting) ss);
        metric = last_or p.clause.metric (filter_map (λ s. metric_by s.setting) ss);
        prepend = unwrap_or (last_or (Some p.clause.prepend) (filter_map (λ s. prepend_by s.setting) ss)) [];
        origin = last_or p.clause.origin (filter_map (λ s. origin_by s.setting) ss);
        communities = last_or p.clause.communities (filter_map (λ s. communities_by s.setting) ss);
      };
      lines = p.lines ++ map (λ s. s.line) ss;
    }

-- the clause that lines make behind those before them, or the fault of the first faulty one
unfoldable pub finished : ClausePart → List Numbered → Result ClausePart Fault
finished p block = option_map_or Err (fault_in line_says block) (Ok (part_behind p (statements_in line_says block)))

-- what is told of a line, which some lines follow: it was taken, or it is faulty
abbrev pub Takes : Result (Unit {0}) ConfigFault → ClausePart → ClausePart → Numbered → List Numbered → Type 0
Takes (Ok done) old new l block = finished old (l ∷ block) ≡ finished new block
Takes (Err fault) old new l block = IsFault fault (finished old (l ∷ block))
