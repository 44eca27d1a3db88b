use Rattle.std.proofs.Common.{◌≡◌, ℕ, ◌<◌, List, true, false, Some}
use Rattle.std.specs.Prelude.{slice_get}
use Rattle.nc_types.specs.declared.communities.CommunityEntry.{CommunityEntry}
use Rattle.nc_tables.specs.Policy.{is_held}
use Rattle.nc_policy.specs.Guards.{is_unheld}
use Rattle.nc_policy.proofs.guards.Guard.add_list.Given as goal

-- without its numbers no entry so far that permits is held
abbrev pub invariant-entries : goal.invariant-entries
invariant-entries l = record {
  kept : (held : List ℕ) → is_unheld l.self held ≡ true → is_unheld l.initial.self held ≡ true;
  entries : (k : ℕ) (e : CommunityEntry) → k < l.entry-index → slice_get l.entries k ≡ Some e → e.permit ≡ true → (held : List ℕ) → is_unheld l.self held ≡ true → is_held held e ≡ false;
}
