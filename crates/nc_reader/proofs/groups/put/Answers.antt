use Rattle.std.proofs.Common.{◌≡◌, ◌<◌, true, length, sym, ◌∙◌, arith}
use Rattle.std.specs.List.{list_any, position_or_len}
use Rattle.std.proofs.lemmas.Bool.{not-false}
use Rattle.nc_reader.specs.Readings.{topic_of}
use Rattle.nc_reader.specs.Topics.{same_topic}
use Rattle.nc_lines.proofs.GroupLemmas.{place_known}
use Rattle.nc_reader.proofs.groups.put.Goals as goal

pub add-requires : goal.add-requires
add-requires c =
    let topic = topic_of c.args.subject in
    let topics = c.args.topics.now.keys in
    let known : list_any (same_topic topic) topics ≡ true = not-false _ (sym c.in_ok-place.ensures.new ∙ c.if-is_new.false) in
    let within : position_or_len (same_topic topic) topics < length topics = place_known same_topic topics topic known in
    omega (arith, c.in_ok-place.ensures.place, c.requires)
