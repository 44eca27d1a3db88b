use Rattle.std.proofs.Common.{◌≡◌, ℕ, ◌+◌, List, Bool, true, false, Some, None, cond, ◌&&◌, refl, ap, sym, ◌∙◌}
use Rattle.std.specs.Global.{Vec}
use Rattle.std.specs.Map.{lookup}
use Rattle.std.specs.Option.{option_or}
use Rattle.std.specs.Str.{bytes_eq}
use Rattle.nc_filter.specs.Names.{place_named}
use Rattle.nc_tables.specs.Filters.{is_at}
use Rattle.nc_filter.proofs.Naming.{first_by, first_none, first_put, first_skip}
use Rattle.nc_filter.proofs.names.sides_of.Goals.{then-is_inward+in_ok-put_first, else-is_inward}
use Rattle.nc_filter.proofs.names.sides_of.Goals as goal

and_true : (b : Bool) → (b && true) ≡ b
and_true true = refl
and_true false = refl

and_false : (b : Bool) → (b && false) ≡ false
and_false true = refl
and_false false = refl

pub groups-init : goal.groups-init
groups-init c q =
    ap (λ (es : List (Vec ℕ × ℕ)). first_by (is_at q c.args.inward) c.args.groups.now (lookup (λ k. bytes_eq q k.items) es) 0) c.new-first.ensures.empty
    ∙ first_none (is_at q c.args.inward) c.args.groups.now

pub groups-preserved : goal.groups-preserved
groups-preserved c q =
    let inward = c.args.inward in
    let groups = c.args.groups.now in
    let place = c.groups.place in
    let group = c.index-groups-place.result in
    let kept = place_named c.groups.first q in
    elim c.if-is_inward.branch [
      | then-is_inward+in_ok-put_first w ↦
          let of : is_at q inward group ≡ bytes_eq q w.bytes.result.now =
          ap (λ (b : Bool). bytes_eq q group.iface && b) (sym c.is_inward.ensures ∙ w.if-is_inward.true) ∙ and_true (bytes_eq q group.iface) ∙ ap (bytes_eq q) (sym w.bytes.ensures) in
          let put : place_named c.if-is_inward.first q ≡ option_or kept (cond (is_at q inward group) (Some place) None) =
          ap (λ m. place_named m q) w.first-is ∙ w.in_ok-put_first.ensures q ∙ ap (λ (b : Bool). option_or kept (cond b (Some place) None)) (sym of) in
          first_put (is_at q inward) groups kept (place_named c.if-is_inward.first q) place group c.index-groups-place.is c.groups-test.true put ∙ c.groups.invariant q
      | else-is_inward w ↦
          let other : is_at q inward group ≡ false = ap (λ (b : Bool). bytes_eq q group.iface && b) (sym c.is_inward.ensures ∙ w.if-is_inward.false) ∙ and_false (bytes_eq q group.iface) in
          ap (λ m. first_by (is_at q inward) groups (place_named m q) (place + 1)) w.first-is
          ∙ first_skip (is_at q inward) groups kept place group c.index-groups-place.is c.groups-test.true other ∙ c.groups.invariant q
    ]
