use Rattle.std.proofs.Common.{◌≡◌, ℕ, ◌∷◌, [], refl, List, All, Contains, length, map, sym, ap, subst, ◌∙◌}
use Rattle.nc_types.specs.Cidr.{Cidr}
use Rattle.nc_tables.specs.declared.bgp.Chosen.{Chosen}
use Rattle.nc_tables.specs.LocRibs.{AreChosen, Ascend, IsNumbered}
use Rattle.nc_tables.specs.Rounds.{BgpRowView, chosen_at}
use Rattle.nc_message.specs.declared.inputs.RoutingInputs.{RoutingInputs}
use Rattle.nc_round.specs.declared.loc_rib_change.LocRibChange.{LocRibChange}
use Rattle.nc_round.specs.Keys.{Key}
use Rattle.nc_round.specs.Next.{next_of}
use Rattle.nc_round.specs.Changes.{IsDifference}
use Rattle.nc_round.specs.Renewing.{row_change, AreEnough, IsLocRibChange, IsCompletedBy, MakeNext}
use Rattle.nc_round.specs.Rows.{row_key, AreRows}
use Rattle.nc_round.specs.declared.changed.NumberedRow.{NumberedRow}
use Rattle.nc_types.proofs.Members.{in_by_get, contains_by_in, all_in, all_by_in}
use Rattle.nc_round.proofs.Lists.{all_over}
use Rattle.nc_round.proofs.LocRibChanges.{key_of, target, all_changes, leads, difference, is_next}
use Rattle.nc_round.proofs.renewal.complete.Goals as goal
use Rattle.nc_round.proofs.renewal.complete.Goals.{After-count-count}

-- rows with numbers are of these prefixes
rows_inside : (prefixes : List Cidr) (rows : List NumberedRow) → AreRows prefixes rows → All (λ (k : Key). Contains prefixes k.1) (map row_key rows)
rows_inside prefixes rows numbers = all_over (λ (k : Key). Contains prefixes k.1) row_key rows (all_by_in (λ (r : NumberedRow). Contains prefixes r.of.prefix) rows
    (λ r i. contains_by_in prefixes r.of.prefix (in_by_get prefixes r.of.number r.of.prefix (all_in (λ (x : NumberedRow). IsNumbered prefixes x.of) rows numbers r i))))

module _ (i : RoutingInputs) (prefixes : List Cidr) (up : Ascend prefixes) (table new : List (List BgpRowView)) (keys : List Key) (changes : List LocRibChange) (enough : AreEnough i prefixes table keys) (inside : All (λ (k : Key). Contains prefixes k.1) keys)
    (made : map row_change changes ≡ all_changes i prefixes up table keys enough inside) where
  -- the table into which all new rows are put is the next one
  made_next : length new ≡ length table → All AreChosen new → ((want : ℕ → Cidr → List Chosen) → IsCompletedBy want table (map row_change changes) → (router : ℕ) (p : Cidr) → chosen_at new router p ≡ want router p) → new ≡ next_of prefixes i table
  made_next count rows put = is_next i prefixes up table keys enough inside new count rows (put (target i prefixes up table keys enough inside) (subst (IsCompletedBy (target i prefixes up table keys enough inside) table) (sym made) (leads i prefixes up table keys enough inside)))

  -- and these are the rows in which it differs
  made_difference : (read : List LocRibChange) (changed : List Key) → read ≡ changes → changed ≡ map (λ (n : LocRibChange). (row_change n).key) read → new ≡ next_of prefixes i table → IsDifference table new changed
  made_difference read changed same is next_is =
      subst (IsDifference table new) (sym (is ∙ ap (map (λ (n : LocRibChange). (row_change n).key)) same ∙ sym (map_map changes) ∙ ap (map key_of) made)) (difference i prefixes up table keys enough inside new next_is)
    where
      map_map : (ns : List LocRibChange) → map key_of (map row_change ns) ≡ map (λ (n : LocRibChange). (row_change n).key) ns
      map_map [] = refl
      map_map (n ∷ ns) = ap (λ (ks : List Key). (row_change n).key ∷ ks) (map_map ns)

module _ (c : After-count-count) (i : RoutingInputs) (rows : List NumberedRow) (next : MakeNext i c.args.ribs.prefixes c.args.ribs.rows rows c.args.changes.items) where
  inside : All (λ (k : Key). Contains c.args.ribs.prefixes k.1) (map row_key rows)
  inside = rows_inside c.args.ribs.prefixes rows next.numbers

  is_made : c.put_all.new.ribs.rows ≡ next_of c.args.ribs.prefixes i c.args.ribs.rows
  is_made =
      made_next i c.args.ribs.prefixes c.prefixes-prefixes.ensures.ordered c.args.ribs.rows c.put_all.new.ribs.rows (map row_key rows) c.args.changes.items next.enough inside next.anew.made
      c.put_all.ensures.count c.count-count.ensures.valid c.put_all.ensures.leads

  is_difference : IsDifference c.args.ribs.rows c.put_all.new.ribs.rows (map row_key c.in_ok-rows.rows.items)
  is_difference =
      made_difference i c.args.ribs.prefixes c.prefixes-prefixes.ensures.ordered c.args.ribs.rows c.put_all.new.ribs.rows (map row_key rows) c.args.changes.items next.enough inside next.anew.made
      c.deref.result.now (map row_key c.in_ok-rows.rows.items) c.deref.ensures.value c.in_ok-rows.ensures.keys is_made

pub returns-clause-table : goal.returns-clause-table
returns-clause-table c i rows next = is_made c i rows next

pub returns-clause-changed : goal.returns-clause-changed
returns-clause-changed c i rows next = is_difference c i rows next

pub returns-clause-numbers : goal.returns-clause-numbers
returns-clause-numbers c =
    c.in_ok-rows.ensures.numbers (length c.args.ribs.rows) c.args.ribs.prefixes
    (subst (All (IsLocRibChange (length c.args.ribs.rows) c.args.ribs.prefixes)) (sym c.deref.ensures.value) c.requires)
