use Rattle.std.proofs.Common.{◌≡◌, ◌++◌, ◌∷◌, ◌<◌, [], length, map, sym, ap, subst, ◌∙◌, arith, rules}
use Rattle.std.proofs.lemmas.List.{length-map, map_push}
use Rattle.nc_types.proofs.Members.{In, in_left, all_in, all_by_in}
use Rattle.nc_round.specs.Renewing.{row_change, IsLocRibChange, IsCompletedBy}
use Rattle.nc_round.proofs.LocRibChanges.{key_of, leads_put}
use Rattle.nc_round.proofs.renewal.put_all.Goals as goal

pub changes-preserved : goal.changes-preserved
changes-preserved c =
    let rest = c.pop.new.self.items in
    let new = c.in-Some.new in
    let items : c.changes.changes.items ≡ rest ++ new ∷ [] = c.in-Some.ensures.items in
    record {
      prefixes = c.put.ensures.prefixes ∙ c.changes.invariant.prefixes;
      count = c.put.ensures.count ∙ c.changes.invariant.count;
      changes = all_by_in (IsLocRibChange (length c.args.ribs.now.rows) c.args.ribs.now.prefixes) rest (λ n i. all_in (IsLocRibChange (length c.args.ribs.now.rows) c.args.ribs.now.prefixes) c.changes.changes.items c.changes.invariant.changes n (subst (In n) (sym items) (in_left rest (new ∷ []) n i)));
      leads = λ target leads.
          leads_put target c.changes.ribs.rows c.put.new.self.rows (map row_change rest) (row_change new) c.put.ensures.put
          (subst (IsCompletedBy target c.changes.ribs.rows) (ap (map row_change) items ∙ map_push row_change rest new) (c.changes.invariant.leads target leads));
    }

pub returns-clause-leads : goal.returns-clause-leads
returns-clause-leads c target leads router p =
    let changes = c.changes.changes.items in
    let none : length changes ≡ 0 = search rules in
    (c.changes.invariant.leads target leads).others router p (λ some.
    let keys : length (map key_of (map row_change changes)) ≡ length (map row_change changes) = length-map (map row_change changes) key_of in
    let as_many : length (map row_change changes) ≡ length changes = length-map changes row_change in
    let lt : some.0 < length (map key_of (map row_change changes)) = some.1 in
    absurd (omega arith))
