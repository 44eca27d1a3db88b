use Rattle.std.proofs.Common.{◌≡◌, ℕ, ◌+◌, [], ◌∷◌, ◌++◌, length, Some, sym, ap, subst, ◌∙◌, arith, length-append}
use Rattle.nc_cut.specs.Known.{known_in}
use Rattle.nc_diagram.specs.Diagrams.{Belongs}
use Rattle.nc_cut.specs.Sizes.{AreSizes}
use Rattle.nc_cut.proofs.KnownLemmas.{IsPath, sizes_none, path_one, path_alone, work_lower, path_within, path_absent, path_longer, path_shorter, sizes_more, work_less}
use Rattle.nc_cut.proofs.sizes.sizes_from.Goals as goal
use Rattle.nc_cut.proofs.sizes.sizes_from.Goals.{In-Sized, In-Some, In_ok-insert-in-Sized}

-- the reference that is looked at belongs
belongs : (c : In-Sized) → Belongs c.args.store.now.nodes c.walk.at
belongs c = omega (arith, path_within (known_in c.walk.sizes) c.args.r c.walk.waiting.items c.walk.at c.walk.invariant.path, c.requires)

-- its size is put in, and the others stay
put : (c : In_ok-insert-in-Sized) → known_in c.insert.new.self c.walk.at ≡ Some c.in-Sized.size
put c = ap (known_in c.insert.new.self) (sym c.place.ensures.place) ∙ c.in_ok-insert-in-Sized.ensures.put

others : (c : In_ok-insert-in-Sized) (q : ℕ) → (q ≡ c.walk.at → ⊥) → known_in c.insert.new.self q ≡ known_in c.walk.sizes q
others c q ne = c.in_ok-insert-in-Sized.ensures.others q (λ e. ne (e ∙ c.place.ensures.place))

sizes : (c : In_ok-insert-in-Sized) → AreSizes c.args.store.now.nodes c.args.free.now (known_in c.insert.new.self)
sizes c =
    sizes_more (known_in c.walk.sizes) (known_in c.insert.new.self) c.walk.at c.in-Sized.size (put c) (others c)
    c.args.store.now.nodes c.args.free.now c.walk.invariant.sizes c.in-Sized.ensures.0 c.in-Sized.ensures.1

-- the path without it
path : (c : In-Some) → IsPath (known_in c.walk.sizes) c.args.r ((c.pop.new.self.items ++ c.in-Some.next ∷ []) ++ c.walk.at ∷ [])
path c = subst (λ ws. IsPath (known_in c.walk.sizes) c.args.r (ws ++ c.walk.at ∷ [])) c.in-Some.ensures.items c.walk.invariant.path

shorter : (c : In-Some) → IsPath (known_in c.insert.new.self) c.args.r (c.pop.new.self.items ++ c.in-Some.next ∷ [])
shorter c =
    let at = goal.at.In-Some c in
    path_shorter (known_in c.walk.sizes) (known_in c.insert.new.self) c.walk.at c.in-Sized.size (put at.In_ok-insert-in-Sized) (others at.In_ok-insert-in-Sized)
    c.args.r (c.pop.new.self.items ++ c.in-Some.next ∷ []) (path c) (omega (arith, length-append c.pop.new.self.items (c.in-Some.next ∷ [])))

pub walk-preserved-in-Waits : goal.walk-preserved-in-Waits
walk-preserved-in-Waits c =
    let known = known_in c.walk.sizes in
    record {
      sizes = c.walk.invariant.sizes;
      path = subst (λ ws. IsPath known c.args.r (ws ++ c.in-Waits.end ∷ [])) (sym c.in_ok-push-in-Waits.ensures.items)
          (path_longer known c.args.r c.walk.waiting.items c.walk.at c.in-Waits.end c.walk.invariant.path c.in-Waits.ensures.0 c.in-Waits.ensures.1);
    }

pub place-requires : goal.place-requires
place-requires c = let at = goal.at.place-requires c in belongs at.In-Sized

pub returns-in_default-clause-sizes : goal.returns-in_default-clause-sizes
returns-in_default-clause-sizes c = let at = goal.at.returns-in_default-clause-sizes c in sizes at.In_ok-insert-in-Sized

pub walk-smaller : goal.walk-smaller
walk-smaller c =
    let at = goal.at.walk-smaller c in
    let known = known_in c.walk.sizes in
    let next = path_within (known_in c.insert.new.self) c.args.r c.pop.new.self.items c.in-Some.next (shorter c) in
    work_less known (known_in c.insert.new.self) c.walk.at c.in-Sized.size (put at.In_ok-insert-in-Sized) (others at.In_ok-insert-in-Sized)
    (length c.args.store.now.nodes + 2) c.in-Some.next (belongs at.In-Sized) (omega (arith, next, c.requires))
    (path_absent known c.args.r c.walk.waiting.items c.walk.at c.walk.invariant.path)

pub walk-preserved : goal.walk-preserved
walk-preserved c = let at = goal.at.walk-preserved c in record { sizes = sizes at.In_ok-insert-in-Sized; path = shorter c }

pub walk-init : goal.walk-init
walk-init c =
    let known = known_in c.in_ok-sizes.sizes in
    record {
      sizes = sizes_none c.args.store.now.nodes c.args.free.now known c.in_ok-sizes.ensures;
      path = subst (λ ws. IsPath known c.args.r (ws ++ c.args.r ∷ [])) (sym c.new-waiting.ensures.items) (path_one known c.args.r c.in_ok-sizes.ensures);
    }

pub look-requires-clause-belongs : goal.look-requires-clause-belongs
look-requires-clause-belongs c = omega (arith, path_within (known_in c.walk.sizes) c.args.r c.walk.waiting.items c.walk.at c.walk.invariant.path, c.requires)

pub look-requires-clause-sizes : goal.look-requires-clause-sizes
look-requires-clause-sizes c = c.walk.invariant.sizes

pub walk-smaller-in-Waits : goal.walk-smaller-in-Waits
walk-smaller-in-Waits c = work_lower (length c.args.store.now.nodes + 2) (known_in c.walk.sizes) c.in-Waits.end c.walk.at c.in-Waits.ensures.0

pub returns-in_default-clause-known : goal.returns-in_default-clause-known
returns-in_default-clause-known c =
    let at = goal.at.returns-in_default-clause-known c in
    let alone : c.walk.at ≡ c.args.r =
    path_alone (known_in c.walk.sizes) c.args.r c.walk.waiting.items c.walk.at c.walk.invariant.path (omega (arith, c.in_default.ensures.cases.0, c.walk.waiting.ok.0)) in
    (c.in-Sized.size, ap (known_in c.insert.new.self) (sym alone) ∙ put at.In_ok-insert-in-Sized)
