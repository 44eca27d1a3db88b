-- The state that is computed over so many rounds, from the table that no round changes, and that it is one; and a network that has none.
use Rattle.std.proofs.Common.{◌≡◌, ℕ, ◌≤◌, List, length, All, Option, Some, None, refl, sym, ap, subst, ◌∙◌}
use Rattle.std.specs.Option.{MatchOption, option_map}
use Rattle.std.proofs.lemmas.Option.{same_Some}
use Rattle.nc_types.specs.declared.TheConstants.{ROUTER_LIMIT}
use Rattle.nc_types.specs.Config.{ConfigView}
use Rattle.nc_types.specs.Joining.{IsValid}
use Rattle.nc_tables.specs.declared.base.BaseRow.{BaseRow}
use Rattle.nc_tables.specs.declared.bgp.SessionRow.{SessionRow}
use Rattle.nc_tables.specs.declared.bgp.MainRow.{MainRow}
use Rattle.nc_tables.specs.Base.{base_tables}
use Rattle.nc_tables.specs.Sessions.{sessions}
use Rattle.nc_tables.specs.Main.{main_tables}
use Rattle.nc_tables.specs.Rounds.{BgpRowView, AreBgpRows, IsStable, IsUnstable}
use Rattle.nc_tables.specs.State.{StateView, IsState, state_at}
use Rattle.nc_tables.specs.Settling.{settled_table, settled}
use Rattle.nc_tables.proofs.Settled.{found, stable_found}
use Rattle.nc_round.proofs.RowsAfter.{after_rows}

module _ (routers : List ConfigView) (base : List (List BaseRow)) (established : List (List SessionRow)) (is_base : base ≡ base_tables routers) (is_sessions : established ≡ sessions routers base) where
  same_sessions : established ≡ sessions routers (base_tables routers)
  same_sessions = is_sessions ∙ ap (sessions routers) is_base

  -- the tables of a network are its state
  pub state_is : (bgp : List (List BgpRowView)) (main : List (List MainRow)) → main ≡ main_tables routers base bgp → record { routers = routers; base = base; sessions = established; bgp = bgp; main = main } ≡ state_at routers bgp
  unfolding state_at
  state_is bgp main is_main =
      ap (λ (l : List (List MainRow)). record { routers = routers; base = base; sessions = established; bgp = bgp; main = l }) (is_main ∙ ap (λ (b : List (List BaseRow)). main_tables routers b bgp) is_base)
      ∙ ap (λ (l : List (List SessionRow)). record { routers = routers; base = base; sessions = l; bgp = bgp; main = main_tables routers (base_tables routers) bgp }) same_sessions
      ∙ ap (λ (b : List (List BaseRow)). record { routers = routers; base = b; sessions = sessions routers (base_tables routers); bgp = bgp; main = main_tables routers (base_tables routers) bgp }) is_base

  abbrev table_over : List (List BaseRow) → List (List SessionRow) → ℕ → Option (List (List BgpRowView))
  table_over b s rounds = settled_table routers b s rounds

  over : (rounds : ℕ) (o : Option (List (List BgpRowView))) → table_over base established rounds ≡ o → settled rounds routers ≡ option_map (state_at routers) o
  unfolding settled
  over rounds o e =
      ap (option_map (state_at routers))
      (ap (λ (b : List (List BaseRow)). table_over b (sessions routers (base_tables routers)) rounds) (sym is_base) ∙ ap (λ (s : List (List SessionRow)). table_over base s rounds) (sym same_sessions) ∙ e)

  -- it is computed
  pub state_found : (rounds : ℕ) (bgp : List (List BgpRowView)) → IsStable routers base established rounds bgp → settled rounds routers ≡ Some (state_at routers bgp)
  state_found rounds bgp stable = over rounds (Some bgp) (stable_found routers base established rounds bgp stable)

  -- an unstable network has none
  pub nothing_found : (rounds : ℕ) → IsUnstable routers base established rounds → settled rounds routers ≡ None
  nothing_found rounds unstable = over rounds None (on (settled_table routers base established rounds) (found routers base established rounds))
    where
      on : (o : Option (List (List BgpRowView))) → MatchOption o (IsUnstable routers base established rounds) (IsStable routers base established rounds) → o ≡ None
      on None is = refl
      on (Some table) stable = absurd (unstable stable.count stable.within stable.settled)

-- what is computed is a state, if the routers are valid together and few
pub found_state : (routers : List ConfigView) → IsValid routers → length routers ≤ ROUTER_LIMIT → (rounds : ℕ) (s : StateView) → settled rounds routers ≡ Some s → IsState s
unfolding settled state_at
found_state routers valid few rounds s e = on (settled_table routers base established rounds) (found routers base established rounds) e
  where
    base : List (List BaseRow)
    base = base_tables routers

    established : List (List SessionRow)
    established = sessions routers base

    state_of : (bgp : List (List BgpRowView)) → IsStable routers base established rounds bgp → IsState (state_at routers bgp)
    state_of bgp stable = record {
      valid = valid;
      few = few;
      tables = refl;
      rows = subst (All AreBgpRows) (sym stable.state) (after_rows routers valid.each base established stable.count);
      rounds = rounds;
      stable = stable;
    }

    on : (o : Option (List (List BgpRowView))) → MatchOption o (IsUnstable routers base established rounds) (IsStable routers base established rounds) → option_map (state_at routers) o ≡ Some s → IsState s
    on None is f = absurd cc
    on (Some bgp) is f = subst IsState (same_Some (state_at routers bgp) s f) (state_of bgp is)
