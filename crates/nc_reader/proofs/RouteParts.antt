-- The lines of static routes, from their statements.
use Rattle.std.proofs.Common.{◌≡◌, ℕ, List, length, map, Option, Some, None, Result, Ok, Err, sym, ap, ◌∙◌, subst, arith}
use Rattle.std.specs.Prelude.{◌≢◌}
use Rattle.std.specs.List.{filter_map, last_or}
use Rattle.std.specs.Option.{option_map}
use Rattle.std.proofs.lemmas.List.{length-map}
use Rattle.nc_types.proofs.Members.{in_by_map, in_by_filter_map}
use Rattle.nc_types.specs.declared.config.Kind.TheVariants as kinds
use Rattle.nc_types.specs.declared.fault.Fault.{Fault}
use Rattle.nc_types.specs.declared.config.StaticRoute.{StaticRoute}
use Rattle.nc_lines.specs.Lines.{line_at}
use Rattle.nc_read_link.specs.Statics.{static_at}
use Rattle.nc_read_policy.specs.Results.{ok_map}
use Rattle.nc_lines.specs.Groups.{Keyed, Group, groups}
use Rattle.nc_reader.specs.Things.{Routed, RoutePart, RouteKeyView, routed, routes_in, key_of, same_key, route_part, statics_of, ok_of, all_read, element_at}
use Rattle.nc_lines.proofs.Pairs.{Has, Pairs, pairs_kept, Ascends, ascends_map, ascends_kept, kept_map}
use Rattle.nc_lines.proofs.Grouping.{grouped, groups_keys, group_ascends, has_grouped, groups_apart}
use Rattle.nc_reader.proofs.PieceLemmas.{LinesAscend, IsWhole, Apart, AreElements, elements_of, ok_mapped}
use Rattle.nc_reader.proofs.ReadLemmas.{all_read_is}
use Rattle.nc_reader.proofs.RouteKeys.{keys_same}

routed_line : (k : ℕ) (r : Result StaticRoute Fault) (x : Routed) → ok_of (ok_map (λ route. record { line = k; route = route }) r) ≡ Some x → x.line ≡ k
routed_line k (Ok route) x e = let same : record { line = k; route = route } ≡ x = cc in sym (ap (λ (x : Routed). x.line) same)
routed_line k (Err fault) x e = absurd cc

option_lines : (o : Option Routed) (vs : List Routed) (p : RoutePart) → option_map (λ (last : Routed). record { route = last.route; lines = map (λ (r : Routed). r.line) vs }) o ≡ Some p → p.lines ≡ map (λ (r : Routed). r.line) vs
option_lines None vs p e = absurd cc
option_lines (Some last) vs p e =
    let same : record { route = last.route; lines = map (λ (r : Routed). r.line) vs } ≡ p = cc in
    sym (ap (λ (p : RoutePart). p.lines) same)

part_lines : (vs : List Routed) (p : RoutePart) → route_part vs ≡ Some p → p.lines ≡ map (λ (r : Routed). r.line) vs
part_lines vs p e = option_lines (last_or None vs) vs p e

abbrev with_its_key : Routed → Keyed RouteKeyView Routed
with_its_key r = record { key = key_of r.route; value = r }

module _ (lines : List (List ℕ)) (ks : List ℕ) (up : LinesAscend (length lines) ks) where
  abbrev statements : List Routed
  statements = filter_map ok_of (map (routed lines) ks)

  abbrev route_of : ℕ → Option Routed
  route_of k = ok_of (routed lines k)

  statements_at : statements ≡ filter_map route_of ks
  statements_at = kept_map ok_of (routed lines) ks

  statement_line : (x : Routed) → Has statements x → Has ks x.line
  statement_line x h =
      let at = in_by_filter_map route_of ks x (subst (λ (xs : List Routed). Has xs x) statements_at h) in
      subst (Has ks) (sym (routed_line at.0 (static_at at.0 (line_at at.0 lines)) x at.2)) at.1

  statements_ascend : Ascends (λ (x : Routed). x.line) 0 (length lines) statements
  statements_ascend =
      subst (Ascends (λ (x : Routed). x.line) 0 (length lines)) (sym statements_at)
      (ascends_kept route_of (λ (k : ℕ). k) (λ (x : Routed). x.line) (λ k x e. routed_line k (static_at k (line_at k lines)) x e) 0 (length lines) ks up)

  abbrev keyed : List (Keyed RouteKeyView Routed)
  keyed = map with_its_key statements

  keyed_ascend : Ascends (λ (q : Keyed RouteKeyView Routed). q.value.line) 0 (length lines) keyed
  keyed_ascend = ascends_map with_its_key (λ (q : Keyed RouteKeyView Routed). q.value.line) 0 (length lines) statements statements_ascend

  abbrev route_groups : List (Group RouteKeyView Routed)
  route_groups = groups same_key keyed

  has_route : (p : RoutePart) → Has (statics_of statements) p → (g : Group RouteKeyView Routed) × Has route_groups g × (p.lines ≡ map (λ (r : Routed). r.line) g.values)
  has_route p h =
      let at = in_by_filter_map (λ (g : Group RouteKeyView Routed). route_part g.values) route_groups p h in
      (at.0, at.1, part_lines at.0.values p at.2)

  -- a route has a line, and its lines ascend within the file
  route_whole : (p : RoutePart) → Has (statics_of statements) p → IsWhole (length lines) p.lines
  route_whole p h =
      let at = has_route p h in
      let some = (grouped same_key keys_same keyed at.0 at.1).1 in
      let ascend = group_ascends same_key keys_same (λ (x : Routed). x.line) 0 (length lines) keyed keyed_ascend at.0 at.1 in (
        omega (arith, ap length at.2, length-map at.0.values (λ (r : Routed). r.line), ap length some.2),
        subst (LinesAscend (length lines)) (sym at.2) (ascends_map (λ (r : Routed). r.line) (λ (k : ℕ). k) 0 (length lines) at.0.values ascend),
      )

  -- its lines are statements
  route_own : (p : RoutePart) (k : ℕ) → Has (statics_of statements) p → Has p.lines k → Has ks k
  route_own p k h hk =
      let at = has_route p h in
      let x = in_by_map (λ (r : Routed). r.line) at.0.values k (subst (λ (ls : List ℕ). Has ls k) at.2 hk) in
      let q = has_grouped same_key keys_same keyed at.0 x.0 at.1 x.1 in
      let s = in_by_map with_its_key statements q.0 q.1 in
      let is : s.0.line ≡ k = ap (λ (q : Keyed RouteKeyView Routed). q.value.line) s.2 ∙ ap (λ (r : Routed). r.line) q.3 ∙ x.2 in
      subst (Has ks) is (statement_line s.0 s.1)

  -- no line is of two routes
  routes_apart : Pairs (λ p q. Apart p.lines q.lines) (statics_of statements)
  routes_apart =
      pairs_kept (λ (g : Group RouteKeyView Routed). route_part g.values) (λ (g h : Group RouteKeyView Routed). g.key ≢ h.key) (λ (p q : RoutePart). Apart p.lines q.lines) route_groups
      (λ g h p q hg hh differ eg eh k hp hq.
      let a = in_by_map (λ (r : Routed). r.line) g.values k (subst (λ (ls : List ℕ). Has ls k) (part_lines g.values p eg) hp) in
      let b = in_by_map (λ (r : Routed). r.line) h.values k (subst (λ (ls : List ℕ). Has ls k) (part_lines h.values q eh) hq) in
      groups_apart same_key keys_same (λ (x : Routed). x.line) 0 (length lines) keyed keyed_ascend g h hg hh differ a.0 b.0 a.1 b.1 (a.2 ∙ sym b.2))
      (groups_keys same_key keys_same keyed)

  pub routes_elements : (ps : List RoutePart) → routes_in lines ks ≡ Ok ps → AreElements (length lines) ks (map (λ (p : RoutePart). element_at kinds.Static p.lines) ps)
  routes_elements ps e =
      let at = ok_mapped statics_of (all_read (map (routed lines) ks)) ps e in
      let is : statics_of statements ≡ ps = ap statics_of (all_read_is (map (routed lines) ks) at.0 at.1) ∙ at.2 in
      subst (λ (ps : List RoutePart). AreElements (length lines) ks (map (λ (p : RoutePart). element_at kinds.Static p.lines) ps)) is
      (elements_of kinds.Static (length lines) ks (λ (p : RoutePart). p.lines) (statics_of statements) route_whole route_own routes_apart)
