use Rattle.std.proofs.Common.{◌≡◌, ◌<◌, [], ◌∷◌, ◌++◌, sym, ap, subst, ◌∙◌, arith}
use Rattle.std.proofs.lemmas.List.{nil_from_length}
use Rattle.nc_diagram.specs.declared.apply.Frame.{Frame}
use Rattle.nc_diagram.specs.declared.apply.Frame.TheVariants.{Low, High}
use Rattle.nc_diagram.specs.declared.apply.Focus.TheVariants.{Work, Done}
use Rattle.nc_diagram.specs.Diagrams.{Diagrams}
use Rattle.nc_diagram.specs.Operations.{joint}
use Rattle.nc_diagram.specs.Table.{AreRight}
use Rattle.nc_diagram.proofs.ApplyLemmas.{IsUnderway, begun, ended, opened, turned, low_belongs, low_later, high_later, crowded, made_adds, made_answer, finished, work_left}
use Rattle.nc_diagram.proofs.GrowthLemmas.{Keeps-makes}
use Rattle.nc_diagram.proofs.RecentLemmas.{AreRight-more}
use Rattle.nc_diagram.proofs.store.Store.apply.Goals as goal
use Rattle.nc_diagram.proofs.store.Store.apply.Goals.{In-Done, In-Some-Low, In-Some-High, In-Work}

-- the invariant at a result that is handed on
underway : (c : In-Done) → IsUnderway c.args.operator (joint c.args.operator c.args.self.now.nodes c.args.pair) c.args.self.now c.combine.self c.combine.frames.items (Done c.in-Done.place)
underway c = subst (λ f. IsUnderway c.args.operator (joint c.args.operator c.args.self.now.nodes c.args.pair) c.args.self.now c.combine.self c.combine.frames.items f) c.in-Done.is c.combine.invariant.0

-- the frames, where one that waits for a low side is taken
low_taken : (c : In-Some-Low) → c.combine.frames.items ≡ c.pop.new.self.items ++ Low c.in-Some-Low.pair c.in-Some-Low.variable c.in-Some-Low.high c.in-Some-Low.begun ∷ []
low_taken c = c.in-Some-Low.ensures.items ∙ ap (λ (x : Frame). c.pop.new.self.items ++ x ∷ []) c.in-Some-Low.field-0-is

-- the frames, where one that waits for a high side is taken
high_taken : (c : In-Some-High) → c.combine.frames.items ≡ c.pop.new.self.items ++ High c.in-Some-High.pair c.in-Some-High.variable c.in-Some-High.low c.in-Some-High.begun ∷ []
high_taken c = c.in-Some-High.ensures.items ∙ ap (λ (x : Frame). c.pop.new.self.items ++ x ∷ []) c.in-Some-High.field-0-is

pub combine-init : goal.combine-init
combine-init c =
    (begun c.args.operator c.args.self.now c.args.pair c.requires.reduced c.requires.belong c.new-frames.result.items c.new-frames.ensures.items, c.requires.right)

pub returns-in-None-clause-means : goal.returns-in-None-clause-means
returns-in-None-clause-means c =
    let none : c.combine.frames.items ≡ [] = nil_from_length c.combine.frames.items (omega (arith, c.combine.frames.ok.0, c.in-None.ensures.cases.0)) in
    ended c.args.operator (joint c.args.operator c.args.self.now.nodes c.args.pair) c.args.self.now c.combine.self c.combine.frames.items c.in-Done.place none (underway (goal.at.returns-in-None-clause-means c).In-Done)

pub make-requires-clause-low_older : goal.make-requires-clause-low_older
make-requires-clause-low_older c =
    let at = goal.at.make-requires-clause-low_older c in
    low_belongs c.args.operator (joint c.args.operator c.args.self.now.nodes c.args.pair) c.args.self.now c.combine.self c.pop.new.self.items c.combine.frames.items c.in-Some-High.pair c.in-Some-High.variable c.in-Some-High.low c.in-Some-High.begun c.in-Done.place (high_taken at.In-Some-High) (underway at.In-Done)

pub make-requires-clause-low_later : goal.make-requires-clause-low_later
make-requires-clause-low_later c =
    let at = goal.at.make-requires-clause-low_later c in
    low_later c.args.operator (joint c.args.operator c.args.self.now.nodes c.args.pair) c.args.self.now c.combine.self c.pop.new.self.items c.combine.frames.items c.in-Some-High.pair c.in-Some-High.variable c.in-Some-High.low c.in-Some-High.begun c.in-Done.place (high_taken at.In-Some-High) (underway at.In-Done)

pub make-requires-clause-high_later : goal.make-requires-clause-high_later
make-requires-clause-high_later c =
    let at = goal.at.make-requires-clause-high_later c in
    high_later c.args.operator (joint c.args.operator c.args.self.now.nodes c.args.pair) c.args.self.now c.combine.self c.pop.new.self.items c.combine.frames.items c.in-Some-High.pair c.in-Some-High.variable c.in-Some-High.low c.in-Some-High.begun c.in-Done.place (high_taken at.In-Some-High) (underway at.In-Done)

pub returns-in-Err-clause-full : goal.returns-in-Err-clause-full
returns-in-Err-clause-full c = λ full.
    let at = goal.at.returns-in-Err-clause-full c in
    let no_room = c.in-Err.ensures.full full in
    crowded c.args.operator (joint c.args.operator c.args.self.now.nodes c.args.pair) c.args.self.now c.combine.self c.pop.new.self.items c.combine.frames.items c.in-Some-High.pair c.in-Some-High.variable c.in-Some-High.low c.in-Some-High.begun c.in-Done.place (high_taken at.In-Some-High) (underway at.In-Done) no_room.0 no_room.1

pub returns-in_err-note-in-Some-High-clause-adds :
    goal.returns-in_err-note-in-Some-High-clause-adds
returns-in_err-note-in-Some-High-clause-adds c =
    let at = goal.at.returns-in_err-note-in-Some-High-clause-adds c in
    made_adds c.args.operator (joint c.args.operator c.args.self.now.nodes c.args.pair) c.args.self.now c.combine.self c.pop.new.self.items c.combine.frames.items c.in-Some-High.pair c.in-Some-High.variable c.in-Some-High.low c.in-Some-High.begun c.in-Done.place (high_taken at.In-Some-High) (underway at.In-Done) c.make.new.self c.in-Ok.made c.in-Ok.ensures.made

pub combine-smaller-in_ok-focus-in-Work : goal.combine-smaller-in_ok-focus-in-Work
combine-smaller-in_ok-focus-in-Work c =
    let u = subst (λ f. IsUnderway c.args.operator (joint c.args.operator c.args.self.now.nodes c.args.pair) c.args.self.now c.combine.self c.combine.frames.items f) c.in-Work.is c.combine.invariant.0 in
    subst (λ f. work_left c.open.new.frames.items c.in_ok-focus-in-Work.focus < work_left c.combine.frames.items f) (sym c.in-Work.is)
    (opened c.args.operator (joint c.args.operator c.args.self.now.nodes c.args.pair) c.args.self.now c.combine.self c.combine.frames.items c.open.new.frames.items c.in-Work.pair c.in_ok-focus-in-Work.focus u c.in_ok-focus-in-Work.ensures.opens).1

pub combine-preserved-in_ok-focus-in-Work : goal.combine-preserved-in_ok-focus-in-Work
combine-preserved-in_ok-focus-in-Work c =
    let u = subst (λ f. IsUnderway c.args.operator (joint c.args.operator c.args.self.now.nodes c.args.pair) c.args.self.now c.combine.self c.combine.frames.items f) c.in-Work.is c.combine.invariant.0 in (
      subst (λ (d : Diagrams). IsUnderway c.args.operator (joint c.args.operator c.args.self.now.nodes c.args.pair) c.args.self.now d c.open.new.frames.items c.in_ok-focus-in-Work.focus) (sym c.open.ensures.unchanged)
          (opened c.args.operator (joint c.args.operator c.args.self.now.nodes c.args.pair) c.args.self.now c.combine.self c.combine.frames.items c.open.new.frames.items c.in-Work.pair c.in_ok-focus-in-Work.focus u c.in_ok-focus-in-Work.ensures.opens).0,
      subst (λ (d : Diagrams). AreRight d.nodes c.args.operator c.combine.known.slots.items) (sym c.open.ensures.unchanged) c.combine.invariant.1,
    )

pub combine-smaller-in_ok-push-in-Some-Low : goal.combine-smaller-in_ok-push-in-Some-Low
combine-smaller-in_ok-push-in-Some-Low c =
    let at = goal.at.combine-smaller-in_ok-push-in-Some-Low c in
    let step = turned c.args.operator (joint c.args.operator c.args.self.now.nodes c.args.pair) c.args.self.now c.combine.self c.pop.new.self.items c.combine.frames.items c.in-Some-Low.pair c.in-Some-Low.variable c.in-Some-Low.high c.in-Some-Low.begun c.in-Done.place (low_taken at.In-Some-Low) (underway at.In-Done) in
    subst (λ f. work_left c.push.new.self.items (Work c.in-Some-Low.high) < work_left c.combine.frames.items f) (sym c.in-Done.is)
    (subst (λ fs. work_left fs (Work c.in-Some-Low.high) < work_left c.combine.frames.items (Done c.in-Done.place)) (sym c.in_ok-push-in-Some-Low.ensures.items) step.1)

pub combine-preserved-in_ok-push-in-Some-Low : goal.combine-preserved-in_ok-push-in-Some-Low
combine-preserved-in_ok-push-in-Some-Low c =
    let at = goal.at.combine-preserved-in_ok-push-in-Some-Low c in
    let step = turned c.args.operator (joint c.args.operator c.args.self.now.nodes c.args.pair) c.args.self.now c.combine.self c.pop.new.self.items c.combine.frames.items c.in-Some-Low.pair c.in-Some-Low.variable c.in-Some-Low.high c.in-Some-Low.begun c.in-Done.place (low_taken at.In-Some-Low) (underway at.In-Done) in
    (subst (λ fs. IsUnderway c.args.operator (joint c.args.operator c.args.self.now.nodes c.args.pair) c.args.self.now c.combine.self fs (Work c.in-Some-Low.high)) (sym c.in_ok-push-in-Some-Low.ensures.items) step.0, c.combine.invariant.1)

-- the step that finishes a pair
pub combine-smaller : goal.combine-smaller
combine-smaller c =
    let at = goal.at.combine-smaller c in
    let step = finished c.args.operator (joint c.args.operator c.args.self.now.nodes c.args.pair) c.args.self.now c.combine.self c.pop.new.self.items c.combine.frames.items c.in-Some-High.pair c.in-Some-High.variable c.in-Some-High.low c.in-Some-High.begun c.in-Done.place (high_taken at.In-Some-High) (underway at.In-Done) c.make.new.self c.in-Ok.made c.in-Ok.ensures.made in
    subst (λ f. work_left c.pop.new.self.items (Done c.in-Ok.made) < work_left c.combine.frames.items f) (sym c.in-Done.is) step.1

pub combine-preserved : goal.combine-preserved
combine-preserved c =
    let at = goal.at.combine-preserved c in
    let nodes = c.make.new.self.nodes in
    let keeps = Keeps-makes c.in-Some-High.variable c.in-Some-High.low c.in-Done.place c.combine.self c.make.new.self c.in-Ok.made c.in-Ok.ensures.made in
    let right = AreRight-more c.combine.self.nodes nodes c.args.operator c.combine.known.slots.items keeps c.combine.invariant.1 in (
      subst (λ (d : Diagrams). IsUnderway c.args.operator (joint c.args.operator c.args.self.now.nodes c.args.pair) c.args.self.now d c.pop.new.self.items (Done c.in-Ok.made)) (sym c.remember.ensures)
          (finished c.args.operator (joint c.args.operator c.args.self.now.nodes c.args.pair) c.args.self.now c.combine.self c.pop.new.self.items c.combine.frames.items c.in-Some-High.pair c.in-Some-High.variable c.in-Some-High.low c.in-Some-High.begun c.in-Done.place (high_taken at.In-Some-High) (underway at.In-Done) c.make.new.self c.in-Ok.made c.in-Ok.ensures.made).0,
      subst (λ (d : Diagrams). AreRight d.nodes c.args.operator c.note.new.self.slots.items) (sym c.remember.ensures)
          (c.in_ok-note-in-Some-High.ensures.right nodes c.args.operator right
          (made_answer c.args.operator (joint c.args.operator c.args.self.now.nodes c.args.pair) c.args.self.now c.combine.self c.pop.new.self.items c.combine.frames.items c.in-Some-High.pair c.in-Some-High.variable c.in-Some-High.low c.in-Some-High.begun c.in-Done.place (high_taken at.In-Some-High) (underway at.In-Done) c.make.new.self c.in-Ok.made c.in-Ok.ensures.made)),
    )

pub remember-requires : goal.remember-requires
remember-requires c =
    let at = goal.at.remember-requires c in
    made_answer c.args.operator (joint c.args.operator c.args.self.now.nodes c.args.pair) c.args.self.now c.combine.self c.pop.new.self.items c.combine.frames.items c.in-Some-High.pair c.in-Some-High.variable c.in-Some-High.low c.in-Some-High.begun c.in-Done.place (high_taken at.In-Some-High) (underway at.In-Done) c.make.new.self c.in-Ok.made c.in-Ok.ensures.made
