use Rattle.std.proofs.Common.{Bool, not, ap, ◌∙◌}
use Rattle.std.specs.List.{list_any, position_or_len}
use Rattle.nc_reader.specs.declared.topic.Topic.{Topic}
use Rattle.nc_lines.specs.Groups.{with_key}
use Rattle.nc_reader.specs.Topics.{same_topic}
use Rattle.nc_reader.proofs.TopicLemmas.{eq_is}
use Rattle.nc_reader.proofs.groups.enter.Goals as goal

pub returns-clause-topics : goal.returns-clause-topics
returns-clause-topics c =
    let keys = c.args.topics.now.keys in
    c.in_ok-entered.ensures.keys ∙ ap (λ (same : Topic → Topic → Bool). with_key same keys c.in_ok-topic.topic) eq_is ∙ ap (with_key same_topic keys) c.in_ok-topic.ensures

pub returns-clause-place : goal.returns-clause-place
returns-clause-place c =
    let keys = c.args.topics.now.keys in
    c.in_ok-entered.ensures.index ∙ ap (λ (same : Topic → Topic → Bool). position_or_len (same c.in_ok-topic.topic) keys) eq_is ∙ ap (λ (t : Topic). position_or_len (same_topic t) keys) c.in_ok-topic.ensures

pub returns-clause-new : goal.returns-clause-new
returns-clause-new c =
    let keys = c.args.topics.now.keys in
    c.in_ok-entered.ensures.added ∙ ap (λ (same : Topic → Topic → Bool). not (list_any (same c.in_ok-topic.topic) keys)) eq_is ∙ ap (λ (t : Topic). not (list_any (same_topic t) keys)) c.in_ok-topic.ensures
