use Rattle.std.proofs.Common.{◌≡◌, ◌≢◌, ℕ, suc, true, false, Bool, cond, ◌+◌, ◌<◌, ◌≤◌, length, List, ap, sym, subst, ◌∙◌, arith, inl, inr, get_or-set_same, get_or-set_other, length-set}
use Rattle.std.proofs.lemmas.Bool.{cases_lt}
use Rattle.nc_types.specs.declared.TheConstants.{HOP_LIMIT}
use Rattle.nc_types.specs.Config.{ConfigView}
use Rattle.nc_tables.specs.declared.base.BaseRow.{BaseRow}
use Rattle.nc_underlay.specs.Distances.{fewest_of, within, IsMarked, AreMarked}
use Rattle.nc_underlay.specs.Toward.{IsToward}
use Rattle.nc_underlay.proofs.Fewest.{done_more, now_right, still}
use Rattle.nc_underlay.proofs.Found.{beyond}
use Rattle.nc_underlay.proofs.Nexts.{stepped}
use Rattle.nc_underlay.proofs.distances.mark_level.Goals as goal
use Rattle.nc_underlay.proofs.distances.mark_level.Goals.{then-is_new, else-is_new}

pub routers-preserved : goal.routers-preserved
routers-preserved c =
    let hops = c.args.hops in
    let old = c.args.fewest.now in
    let now = c.routers.fewest in
    let next = c.if-is_new.fewest in
    let router = c.routers.router in
    let done : (new : Bool) → c.is_new.result ≡ new → fewest_of next router ≡ cond new hops (fewest_of now router) → ((r : ℕ) → r ≢ router → fewest_of next r ≡ fewest_of now r)
    → (routers : List ConfigView) (tables : List (List BaseRow)) (addr : ℕ) → IsToward routers tables addr c.args.toward.now → AreMarked (within routers tables addr) hops old → (r : ℕ) → r < router + 1 → IsMarked (within routers tables addr) (hops + 1) (fewest_of next r) r =
    λ new told at apart routers tables addr is before.
    let over = within routers tables addr in
    let earlier = c.routers.invariant.done routers tables addr is before in
    let right = now_right over _ (stepped routers tables addr) hops old now next router new c.requires.hops before earlier c.routers.invariant.rest in
    done_more over _ (stepped routers tables addr) hops old now next router new c.requires.hops before earlier c.routers.invariant.rest (sym told ∙ c.is_new.ensures routers tables addr is right) at apart in
    elim c.if-is_new.branch [
      | then-is_new w ↦
          let long = sym (ap (λ (fs : List ℕ). length fs) w.fewest-is) ∙ c.if-is_new.array_long in
          let there : router < length now = omega (arith, length-set now router hops, long, c.routers-test.true, c.len-count.ensures, c.requires.few) in
          let at = ap (λ (fs : List ℕ). fewest_of fs router) w.fewest-is ∙ get_or-set_same now router hops (suc HOP_LIMIT) there in
          let apart : (r : ℕ) → r ≢ router → fewest_of next r ≡ fewest_of now r = λ r differ.
          ap (λ (fs : List ℕ). fewest_of fs r) w.fewest-is ∙ get_or-set_other now router r hops (suc HOP_LIMIT) differ in
          record {
            done = done true w.if-is_new.true at apart;
            rest = λ r le. apart r (omega arith) ∙ c.routers.invariant.rest r (omega arith);
            same = λ e. absurd (cc);
          }
      | else-is_new w ↦
          let apart : (r : ℕ) → fewest_of next r ≡ fewest_of now r = λ r. ap (λ (fs : List ℕ). fewest_of fs r) w.fewest-is in
          record {
            done = done false w.if-is_new.false (apart router) (λ r differ. apart r);
            rest = λ r le. apart r ∙ c.routers.invariant.rest r (omega arith);
            same = λ e. w.fewest-is ∙ c.routers.invariant.same (sym w.more-is ∙ e);
          }
    ]

pub returns-clause-marked : goal.returns-clause-marked
returns-clause-marked c routers tables addr is before r = elim (cases_lt r c.routers.router) [
  | inl lt ↦ c.routers.invariant.done routers tables addr is before r lt
  | inr le ↦
      let past : length c.args.toward.now.nexts.items ≤ r = omega (arith, le, c.routers-test.false, c.len-count.ensures) in
      subst (λ (n : ℕ). IsMarked (within routers tables addr) (c.args.hops + 1) n r) (sym (c.routers.invariant.rest r le))
      (still (within routers tables addr) _ (stepped routers tables addr) c.args.hops (fewest_of c.args.fewest.now r) r c.requires.hops (before r) (beyond routers tables addr c.args.toward.now is c.args.hops r past))
]
