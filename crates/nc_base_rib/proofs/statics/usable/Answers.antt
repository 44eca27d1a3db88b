use Rattle.std.proofs.Common.{◌≡◌, Bool, true, false, cond, All, Option, Some, None, sym, ap, ◌∙◌}
use Rattle.std.specs.Prelude.{◌==◌}
use Rattle.std.proofs.lemmas.Option.{MatchOption-at_none}
use Rattle.nc_types.specs.declared.config.Interface.{Interface}
use Rattle.nc_types.specs.Network.{hop_of}
use Rattle.nc_tables.specs.declared.base.BaseFrom.{BaseFrom}
use Rattle.nc_tables.specs.declared.base.BaseFrom.TheVariants.{Static}
use Rattle.nc_tables.specs.Base.{is_toward}
use Rattle.nc_base_rib.specs.Links.{allows, IsTheLink}
use Rattle.nc_base_rib.proofs.Usable.{found, within, static_none, static_through}
use Rattle.nc_base_rib.proofs.statics.usable.Goals as goal
use Rattle.nc_base_rib.proofs.statics.usable.Goals.{then-eq-via-then-eq, then-eq-via-else-eq+then-not-allows}

pub returns-in_err-link : goal.returns-in_err-link
returns-in_err-link c =
    let hop : hop_of c.args.via.now ≡ Some c.in-Some.hop = sym c.in-Some.ensures in
    let none = MatchOption-at_none (All (λ (i : Interface). is_toward c.in-Some.hop.0 i ≡ false) c.args.interfaces.now) (IsTheLink c.args.interfaces.now c.in-Some.hop.0) c.in_err-link.was (c.requires.link c.in-Some.hop hop) in
    c.from_residual.ensures ∙ sym (static_none c.args.interfaces.now c.requires.covered c.args.place c.args.via.now c.in-Some.hop hop none)

pub bounds-interfaces-link : goal.bounds-interfaces-link
bounds-interfaces-link c = within c.args.interfaces.now c.requires.covered c.in-Some.hop.0 c.in_ok-link.link (found c.args.interfaces.now c.in-Some.hop.0 c.args.link c.in_ok-link.link c.in_ok-link.was (c.requires.link c.in-Some.hop (sym c.in-Some.ensures)))

pub returns-then-eq : goal.returns-then-eq
returns-then-eq c =
    let l = c.in_ok-link.link in
    let the = found c.args.interfaces.now c.in-Some.hop.0 c.args.link l c.in_ok-link.was (c.requires.link c.in-Some.hop (sym c.in-Some.ensures)) in
    let through = static_through c.args.interfaces.now c.requires.covered c.args.place c.args.via.now c.in-Some.hop (sym c.in-Some.ensures) l the c.index-interfaces-link.result c.index-interfaces-link.is in
    let leads : Option BaseFrom = Some (Static c.args.place (record { 0 = l.place })) in
    let allowed = allows c.args.via.now c.index-interfaces-link.result in
    elim c.then-eq.branch [
      | then-eq-via-then-eq w ↦
          let own : (l.address.addr.0 == c.in-Some.hop.0) ≡ true = sym c.eq.ensures ∙ w.if-eq.true in
          sym (through ∙ ap (λ (b : Bool). cond b None (cond allowed leads None)) own)
      | then-eq-via-else-eq+then-not-allows w ↦
          let other : (l.address.addr.0 == c.in-Some.hop.0) ≡ false = sym c.eq.ensures ∙ w.if-eq.false in
          let named : allowed ≡ false = sym w.allows.ensures ∙ w.if-not-allows.true in
          sym (through ∙ ap (λ (b : Bool). cond b None (cond allowed leads None)) other ∙ ap (λ (b : Bool). cond b leads None) named)
    ]

pub returns : goal.returns
returns c =
    let l = c.in_ok-link.link in
    let the = found c.args.interfaces.now c.in-Some.hop.0 c.args.link l c.in_ok-link.was (c.requires.link c.in-Some.hop (sym c.in-Some.ensures)) in
    let through = static_through c.args.interfaces.now c.requires.covered c.args.place c.args.via.now c.in-Some.hop (sym c.in-Some.ensures) l the c.index-interfaces-link.result c.index-interfaces-link.is in
    let leads : Option BaseFrom = Some (Static c.args.place (record { 0 = l.place })) in
    let allowed = allows c.args.via.now c.index-interfaces-link.result in
    let other : (l.address.addr.0 == c.in-Some.hop.0) ≡ false = sym c.eq.ensures ∙ c.if-eq.false in
    let named : allowed ≡ true = sym c.allows.ensures ∙ c.if-not-allows.false in
    sym (through ∙ ap (λ (b : Bool). cond b None (cond allowed leads None)) other ∙ ap (λ (b : Bool). cond b leads None) named)
