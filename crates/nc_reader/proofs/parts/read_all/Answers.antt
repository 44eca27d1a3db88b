use Rattle.std.proofs.Common.{◌≡◌, List, All, [], ◌∷◌, ◌++◌, length, map, sym, ap, subst, append_assoc, append-nil, ◌∙◌, arith}
use Rattle.std.specs.Prelude.{Result}
use Rattle.std.specs.Vec.Iter.{into_iter_items}
use Rattle.std.proofs.lemmas.List.Elements.{All-head, All-tail}
use Rattle.nc_lines.specs.declared.block.Block.{Block}
use Rattle.nc_types.specs.declared.fault.Fault.{Fault}
use Rattle.nc_types.specs.Faults.{lowest}
use Rattle.nc_reader.specs.declared.topic.Topic.{Topic}
use Rattle.nc_reader.specs.Gathering.{IsLine}
use Rattle.nc_reader.specs.Parts.{IsLowest, AreRead, part_view, parts_by}
use Rattle.nc_reader.specs.Things.{Part, part_in}
use Rattle.nc_reader.proofs.ConfigLemmas.{parts_by-none, none_left}
use Rattle.nc_reader.proofs.parts.read_all.Goals as goal

pub topics-init : goal.topics-init
topics-init c =
    let lines = c.args.lines.now in
    record {
      read = (
        [],
        ap (map part_view) c.in_ok-parts.ensures.items,
        λ fs e. e ∙ ap lowest (sym (append-nil fs)),
        ap (λ (topics : List Topic). parts_by lines c.args.process topics (into_iter_items c.into_iter-left.result)) c.into_iter-topic-iterator.ensures.into_iter_gives.0
            ∙ ap (parts_by lines c.args.process c.args.topics.keys) c.into_iter-left.ensures.rest,
      );
      len = omega (arith, c.into_iter-left.ensures.len, ap length c.into_iter-left.ensures.rest);
      exist = subst (All (λ (b : Block). All (IsLine lines) b.lines.items)) (sym c.into_iter-left.ensures.rest) c.requires;
    }

pub read_one-requires : goal.read_one-requires
read_one-requires c =
    All-head (λ (b : Block). All (IsLine c.args.lines.now) b.lines.items) c.in-Some-next.block (into_iter_items c.next-in-topics.new.self)
    (subst (All (λ (b : Block). All (IsLine c.args.lines.now) b.lines.items)) c.in-Some-next.ensures.items c.topics.invariant.exist)

pub topics-preserved : goal.topics-preserved
topics-preserved c =
    let lines = c.args.lines.now in
    let read = c.topics.invariant.read in
    let block : Block = c.in-Some-next.block in
    let rest : List Block = into_iter_items c.next-in-topics.new.self in
    let part : Result Part Fault = part_in lines c.args.process c.in-Some.topic block.lines.items in
    let next : parts_by lines c.args.process c.topics.topic-iterator (into_iter_items c.topics.left) ≡ part ∷ parts_by lines c.args.process c.next.new.self rest =
    ap (λ (topics : List Topic). parts_by lines c.args.process topics (into_iter_items c.topics.left)) c.in-Some.ensures.steps ∙ ap (parts_by lines c.args.process (c.in-Some.topic ∷ c.next.new.self)) c.in-Some-next.ensures.items in
    record {
      read = (
        read.0 ++ part ∷ [],
        c.in_ok-read_one.ensures.parts read.0 read.1,
        λ fs e. c.in_ok-read_one.ensures.told fs read.0 (read.2 fs e),
        append_assoc read.0 (part ∷ []) (parts_by lines c.args.process c.next.new.self rest) ∙ ap (λ (rs : List (Result Part Fault)). read.0 ++ rs) (sym next) ∙ read.3,
      );
      len = omega (arith, c.in-Some-next.ensures.cases.1, c.topics.invariant.len, ap length c.in-Some-next.ensures.items);
      exist = All-tail (λ (b : Block). All (IsLine lines) b.lines.items) block rest (subst (All (λ (b : Block). All (IsLine lines) b.lines.items)) c.in-Some-next.ensures.items c.topics.invariant.exist);
    }

pub topics-preserved-in_default : goal.topics-preserved-in_default
topics-preserved-in_default c =
    let lines = c.args.lines.now in
    let read = c.topics.invariant.read in
    let none : into_iter_items c.topics.left ≡ [] = none_left (into_iter_items c.topics.left) (omega (arith, c.in_default.ensures.cases.0, c.topics.invariant.len)) in
    let left : into_iter_items c.next-in-topics.new.self ≡ [] = sym c.in_default.ensures.items ∙ none in
    let next : parts_by lines c.args.process c.next.new.self (into_iter_items c.next-in-topics.new.self) ≡ parts_by lines c.args.process c.topics.topic-iterator (into_iter_items c.topics.left) =
    ap (parts_by lines c.args.process c.next.new.self) left ∙ parts_by-none lines c.args.process c.next.new.self ∙ sym (ap (parts_by lines c.args.process c.topics.topic-iterator) none ∙ parts_by-none lines c.args.process c.topics.topic-iterator) in
    record {
      read = (read.0, read.1, read.2, ap (λ (rs : List (Result Part Fault)). read.0 ++ rs) next ∙ read.3);
      len = omega (arith, c.in_default.ensures.cases.1, ap length left);
      exist = subst (All (λ (b : Block). All (IsLine lines) b.lines.items)) c.in_default.ensures.items c.topics.invariant.exist;
    }

pub returns : goal.returns
returns c =
    let lines = c.args.lines.now in
    let read = c.topics.invariant.read in
    let done : read.0 ≡ parts_by lines c.args.process c.args.topics.keys c.args.blocks.items =
    sym (append-nil read.0) ∙ sym (ap (λ (topics : List Topic). read.0 ++ parts_by lines c.args.process topics (into_iter_items c.topics.left)) c.in-None.ensures.steps.0) ∙ read.3 in
    record {
      parts = subst (AreRead c.topics.parts.items) done read.1;
      told = λ fs e. subst (λ (rs : List (Result Part Fault)). IsLowest fs c.topics.told rs) done (read.2 fs e);
    }
