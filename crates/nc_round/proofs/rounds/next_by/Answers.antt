use Rattle.std.proofs.Common.{◌≡◌, ◌<◌, ℕ, List, All, Contains, length, map, sym, subst}
use Rattle.nc_types.specs.Cidr.{Cidr}
use Rattle.nc_types.specs.WellFormed.{IsWellFormed}
use Rattle.nc_tables.specs.LocRibs.{AreChosen}
use Rattle.nc_tables.specs.Rounds.{BgpRowView}
use Rattle.nc_message.specs.Inputs.{AreRoutingInputs}
use Rattle.nc_message.specs.declared.inputs.RoutingInputs.{RoutingInputs}
use Rattle.nc_round.specs.declared.changed.NumberedRow.{NumberedRow}
use Rattle.nc_round.specs.declared.loc_rib_change.LocRibChange.{LocRibChange}
use Rattle.nc_round.specs.Changes.{IsRoundOver}
use Rattle.nc_round.specs.Keys.{Key, key, AreInOrder}
use Rattle.nc_round.specs.Renewing.{AreChangesOf, IsLocRibChange, MakeNext}
use Rattle.nc_round.specs.Rows.{row_key}
use Rattle.nc_round.specs.Waking.{AreWoken, IsWoken}
use Rattle.nc_round.proofs.Woken.{changed_within, enough, table_count}
use Rattle.nc_round.proofs.rounds.next_by.Goals as goal

module _ (i : RoutingInputs) (prefixes : List Cidr) (before old : List (List BgpRowView)) (changed read rows : List NumberedRow) (changes : List LocRibChange)
    (are : AreRoutingInputs i) (formed : All IsWellFormed i.network.now) (chosen : All AreChosen old) (round : IsRoundOver i.network.now i.base.now i.sessions.now prefixes before old (map row_key changed)) (same : read ≡ changed) where
  abbrev Within : Key → Type 0
  Within k = k.0.0 < length i.network.now

  within : All Within (map row_key read)
  within = subst (λ (l : List NumberedRow). All Within (map row_key l)) (sym same) (changed_within i prefixes before old (map row_key changed) (map row_key rows) are formed chosen round)

  -- what is chosen anew of the woken rows makes the next table
  next : ((router : ℕ) (p : Cidr) → router < length i.network.now → All Within (map row_key read) → IsWoken i old (map row_key read) router p → Contains (map row_key rows) (key router p))
      → AreWoken (length i.network.now) prefixes rows → AreChangesOf i prefixes old rows changes → MakeNext i prefixes old rows changes
  next all woken anew = record {
    enough = enough i prefixes before old (map row_key changed) (map row_key rows) are formed chosen round woken.ordered woken.below
        (λ router p lt is. all router p lt within (subst (λ (l : List NumberedRow). IsWoken i old (map row_key l) router p) (sym same) is));
    numbers = woken.numbers;
    anew = anew;
  }

pub renewed_in_order-requires-clause-ribs : goal.renewed_in_order-requires-clause-ribs
renewed_in_order-requires-clause-ribs c =
    let changed = map row_key c.args.changed.rows.items in
    table_count c.args.inputs c.args.old.prefixes c.requires.made.0 c.args.old.rows changed changed c.requires.inputs c.routers-routers.ensures.valid.each c.count-count.ensures.valid c.requires.made.1

pub renewed_in_order-requires-clause-changed : goal.renewed_in_order-requires-clause-changed
renewed_in_order-requires-clause-changed c = subst (λ (l : List NumberedRow). AreInOrder (map row_key l)) (sym c.deref.ensures.value) c.requires.made.1.difference.ordered

pub complete-requires : goal.complete-requires
complete-requires c =
    let changed = map row_key c.args.changed.rows.items in
    let count : length c.args.old.rows ≡ length c.args.inputs.network.now =
    table_count c.args.inputs c.args.old.prefixes c.requires.made.0 c.args.old.rows changed changed c.requires.inputs c.routers-routers.ensures.valid.each c.count-count.ensures.valid c.requires.made.1 in
    subst (λ (n : ℕ). All (IsLocRibChange n c.args.old.prefixes) c.in_ok-renewed.renewed.changes.items) (sym count) c.in_ok-renewed.ensures.anew.each

pub returns-clause-table : goal.returns-clause-table
returns-clause-table c =
    let rows = c.in_ok-renewed.renewed.rows.items in
    c.in_ok-made.ensures.table c.args.inputs rows
    (next c.args.inputs c.args.old.prefixes c.requires.made.0 c.args.old.rows c.args.changed.rows.items c.deref.result.now rows c.in_ok-renewed.renewed.changes.items c.requires.inputs c.routers-routers.ensures.valid.each c.count-count.ensures.valid c.requires.made.1 c.deref.ensures.value
    c.in_ok-renewed.ensures.woken c.in_ok-renewed.ensures.rows c.in_ok-renewed.ensures.anew)

pub returns-clause-changed : goal.returns-clause-changed
returns-clause-changed c =
    let rows = c.in_ok-renewed.renewed.rows.items in
    c.in_ok-made.ensures.changed c.args.inputs rows
    (next c.args.inputs c.args.old.prefixes c.requires.made.0 c.args.old.rows c.args.changed.rows.items c.deref.result.now rows c.in_ok-renewed.renewed.changes.items c.requires.inputs c.routers-routers.ensures.valid.each c.count-count.ensures.valid c.requires.made.1 c.deref.ensures.value
    c.in_ok-renewed.ensures.woken c.in_ok-renewed.ensures.rows c.in_ok-renewed.ensures.anew)
