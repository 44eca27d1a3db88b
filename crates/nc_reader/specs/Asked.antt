-- The words of a statement stand for the topic that they write: the laws by which a set looks a topic up by them.
use Rattle.std.specs.Prelude.{◌≡◌, ℕ, ◌==◌, IsTrue, List}
use Rattle.std.specs.Bool.{beq}
use Rattle.std.specs.Cmp.{booleans_Decides}
use Rattle.std.specs.Str.{bytes_eq}
use Rattle.std.proofs.Common.{refl, sym, ap, ◌∙◌, true≢false}
use Rattle.std.proofs.lemmas.Bool.{and_parts, eqb-true}
use Rattle.std.proofs.lemmas.Slice.Eq.{bytes_eq-Decides}
use Rattle.nc_reader.specs.contracts.topic.SubjectHash.TheImpl.{hash_input-value as asked}
use Rattle.nc_reader.specs.contracts.topic.TopicHash.TheImpl.{hash_input-value as kept}
use Rattle.nc_reader.specs.contracts.topic.TopicPartialEq.TheImpl.{eq-value}
use Rattle.nc_reader.specs.declared.topic.Subject.{Subject}
use Rattle.nc_reader.specs.declared.topic.Subject.TheVariants as subjects
use Rattle.nc_reader.specs.declared.topic.Topic.{Topic}
use Rattle.nc_reader.specs.declared.topic.Topic.TheVariants as topics
use Rattle.nc_reader.specs.Readings.{topic_of}
use Rattle.nc_reader.specs.Topics.{same_topic}

named : (topic : List ℕ → Topic) (a b : List ℕ) → IsTrue (bytes_eq a b) → topic a ≡ topic b
named topic a b same = ap topic ((bytes_eq-Decides a b).0 same)

same_one : (s t : Topic) → IsTrue (same_topic s t) → s ≡ t
same_one (topics.Interface a) (topics.Interface b) same = named topics.Interface a b same
same_one topics.Statics topics.Statics same = refl
same_one (topics.Process m) (topics.Process n) same = ap topics.Process (eqb-true m n same)
same_one (topics.Clause a m) (topics.Clause b n) same =
    let parts = and_parts (bytes_eq a b) (m == n) same in
    named (λ name. topics.Clause name m) a b parts.0 ∙ ap (topics.Clause b) (eqb-true m n parts.1)
same_one (topics.List a) (topics.List b) same = named topics.List a b same
same_one (topics.Communities a) (topics.Communities b) same = named topics.Communities a b same
same_one topics.Filters topics.Filters same = refl
same_one (topics.Group a m) (topics.Group b n) same =
    let parts = and_parts (bytes_eq a b) (beq m n) same in
    named (λ name. topics.Group name m) a b parts.0 ∙ ap (topics.Group b) ((booleans_Decides m n).0 parts.1)
same_one s t same = absurd (true≢false (sym same))

-- the equality of the code is that of the definitions
eq_same : (s t : Topic) → same_topic s t ≡ (eq-value).it s t
eq_same (topics.Interface a) (topics.Interface b) = refl
eq_same topics.Statics topics.Statics = refl
eq_same (topics.Process m) (topics.Process n) = refl
eq_same (topics.Clause a m) (topics.Clause b n) = refl
eq_same (topics.List a) (topics.List b) = refl
eq_same (topics.Communities a) (topics.Communities b) = refl
eq_same topics.Filters topics.Filters = refl
eq_same (topics.Group a m) (topics.Group b n) = refl
eq_same s t = refl

fed_alike : (q : Subject) → (asked).it q ≡ (kept).it (topic_of q)
fed_alike (subjects.Interface name) = refl
fed_alike subjects.Statics = refl
fed_alike (subjects.Process asn) = refl
fed_alike (subjects.Clause name number) = refl
fed_alike (subjects.List name) = refl
fed_alike (subjects.Communities name) = refl
fed_alike subjects.Filters = refl
fed_alike (subjects.Group name inward) = refl

-- words are hashed as the topic for which they stand
pub asked_alike : (q : Subject) (k : Topic) → IsTrue (same_topic (topic_of q) k) → (asked).it q ≡ (kept).it k
asked_alike q k same = fed_alike q ∙ ap (λ (t : Topic). (kept).it t) (same_one (topic_of q) k same)

-- words that stand for a topic stand for those that are equal to it, and for no other
pub asked_same : (q : Subject) (x y : Topic) → IsTrue (same_topic (topic_of q) x) → same_topic (topic_of q) y ≡ (eq-value).it x y
asked_same q x y same = ap (λ (t : Topic). same_topic t y) (same_one (topic_of q) x same) ∙ eq_same x y
