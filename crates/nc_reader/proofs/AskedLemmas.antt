-- What a look-up of a topic finds.
use Rattle.std.proofs.Common.{◌≡◌, ℕ, List, Option, Some, None, sym, arith}
use Rattle.std.specs.Prelude.{IfSome, is_some, position}
use Rattle.std.specs.List.{list_any}
use Rattle.std.proofs.lemmas.List.Quantifiers.{position-Some}
use Rattle.std.proofs.lemmas.List.Sums.{position_or_len_is}
use Rattle.nc_reader.specs.declared.topic.Topic.{Topic}
use Rattle.nc_reader.specs.declared.topic.Topic.TheVariants as topics
use Rattle.nc_reader.specs.Topics.{same_topic, IsAt}

-- what is found is the place of the topic
pub found_at : (topic : Topic) (keys : List Topic) (found : Option ℕ) → found ≡ position (same_topic topic) keys → is_some found ≡ list_any (same_topic topic) keys → IfSome found (IsAt topic keys)
found_at topic keys None at any = tt
found_at topic keys (Some place) at any =
    let is = position-Some (same_topic topic) keys place topics.Statics (sym at) in
    (sym any, position_or_len_is (same_topic topic) keys place topics.Statics (omega (arith, is.0)) is.2 (λ _. is.1))
