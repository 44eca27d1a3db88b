use Rattle.std.proofs.Common.{◌≡◌, ◌≢◌, Bool, List, sym, subst, ◌∙◌}
use Rattle.std.specs.List.{IsDistinct}
use Rattle.std.proofs.lemmas.Map.Made.{AllPairs-from_IsDistinct}
use Rattle.nc_reader.specs.declared.topic.Topic.{Topic}
use Rattle.nc_reader.specs.Readings.{topic_of}
use Rattle.nc_reader.specs.Topics.{same_topic, IsAt}
use Rattle.nc_lines.proofs.Pairs.{Pairs, pairs_all}
use Rattle.nc_reader.proofs.TopicLemmas.{eq_is, topics_same, place_of_topic}
use Rattle.nc_reader.proofs.groups.is_at.Goals as goal

pub returns-in-Some : goal.returns-in-Some
returns-in-Some c = λ same.
    let keys = c.args.topics.now.keys in
    let topic : Topic = c.in-Some.topic.now in
    let unique : IsDistinct same_topic keys = subst (λ (test : Topic → Topic → Bool). IsDistinct test keys) eq_is c.as_slice.ensures.unique in
    let apart : Pairs (λ (s t : Topic). s ≢ t) keys = pairs_all (λ (s t : Topic). s ≢ t) keys (AllPairs-from_IsDistinct topics_same keys unique) in
    let is : topic ≡ topic_of c.args.subject = sym ((topics_same (topic_of c.args.subject) topic).0 (sym c.is.ensures ∙ same)) in
    let at = place_of_topic c.as_slice.result.now (subst (Pairs (λ (s t : Topic). s ≢ t)) (sym c.as_slice.ensures.keys) apart) c.args.place topic c.in-Some.ensures.lookup.3.0 c.in-Some.ensures.lookup.1 in
    subst (λ (t : Topic). IsAt t keys c.args.place) is (subst (λ (ts : List Topic). IsAt topic ts c.args.place) c.as_slice.ensures.keys at)
