-- Topics are one where the test says so.
use Rattle.std.proofs.Common.{◌≡◌, ◌≢◌, ℕ, zero, suc, ◌<◌, Bool, true, false, eqb, List, [], ◌∷◌, length, get_or, Some, refl, sym, ap, ◌∙◌, subst, arith}
use Rattle.std.specs.Bool.{beq}
use Rattle.std.specs.Cmp.{IsEquivalence, booleans_Decides}
use Rattle.std.specs.Prelude.{slice_get}
use Rattle.std.specs.List.{list_any, position_or_len}
use Rattle.std.specs.Str.{bytes_eq}
use Rattle.std.proofs.lemmas.List.Sums.{passes_at_first}
use Rattle.std.proofs.lemmas.Option.{slice_get-get_or}
use Rattle.std.proofs.lemmas.Bool.{and_parts, and_from, eqb-true, eq-eqb, or_left, or_right}
use Rattle.nc_types.proofs.Members.{In, in_at}
use Rattle.std.proofs.lemmas.Slice.Eq.{bytes_eq-Decides}
use Rattle.nc_reader.specs.contracts.topic.TopicPartialEq.TheImpl.{eq-value}
use Rattle.nc_reader.specs.declared.topic.Topic.{Topic}
use Rattle.nc_reader.specs.declared.topic.Topic.TheVariants as topics
use Rattle.nc_reader.specs.Topics.{same_topic, IsAt}
use Rattle.nc_lines.proofs.GroupLemmas.{place_known, place_here, place_later}
use Rattle.nc_lines.proofs.Pairs.{Pairs}
use Rattle.nc_lines.proofs.Grouping.{IsSame, equiv_of}

-- the equality of the code is that of the definitions
pub eq_same : (s t : Topic) → (eq-value).it s t ≡ same_topic s t
eq_same (topics.Interface a) (topics.Interface b) = refl
eq_same (topics.Interface a) topics.Statics = refl
eq_same (topics.Interface a) (topics.Process n) = refl
eq_same (topics.Interface a) (topics.Clause b n) = refl
eq_same (topics.Interface a) (topics.List b) = refl
eq_same (topics.Interface a) (topics.Communities b) = refl
eq_same (topics.Interface a) topics.Filters = refl
eq_same (topics.Interface a) (topics.Group b n) = refl
eq_same topics.Statics (topics.Interface b) = refl
eq_same topics.Statics topics.Statics = refl
eq_same topics.Statics (topics.Process n) = refl
eq_same topics.Statics (topics.Clause b n) = refl
eq_same topics.Statics (topics.List b) = refl
eq_same topics.Statics (topics.Communities b) = refl
eq_same topics.Statics topics.Filters = refl
eq_same topics.Statics (topics.Group b n) = refl
eq_same (topics.Process m) (topics.Interface b) = refl
eq_same (topics.Process m) topics.Statics = refl
eq_same (topics.Process m) (topics.Process n) = refl
eq_same (topics.Process m) (topics.Clause b n) = refl
eq_same (topics.Process m) (topics.List b) = refl
eq_same (topics.Process m) (topics.Communities b) = refl
eq_same (topics.Process m) topics.Filters = refl
eq_same (topics.Process m) (topics.Group b n) = refl
eq_same (topics.Clause a m) (topics.Interface b) = refl
eq_same (topics.Clause a m) topics.Statics = refl
eq_same (topics.Clause a m) (topics.Process n) = refl
eq_same (topics.Clause a m) (topics.Clause b n) = refl
eq_same (topics.Clause a m) (topics.List b) = refl
eq_same (topics.Clause a m) (topics.Communities b) = refl
eq_same (topics.Clause a m) topics.Filters = refl
eq_same (topics.Clause a m) (topics.Group b n) = refl
eq_same (topics.List a) (topics.Interface b) = refl
eq_same (topics.List a) topics.Statics = refl
eq_same (topics.List a) (topics.Process n) = refl
eq_same (topics.List a) (topics.Clause b n) = refl
eq_same (topics.List a) (topics.List b) = refl
eq_same (topics.List a) (topics.Communities b) = refl
eq_same (topics.List a) topics.Filters = refl
eq_same (topics.List a) (topics.Group b n) = refl
eq_same (topics.Communities a) (topics.Interface b) = refl
eq_same (topics.Communities a) topics.Statics = refl
eq_same (topics.Communities a) (topics.Process n) = refl
eq_same (topics.Communities a) (topics.Clause b n) = refl
eq_same (topics.Communities a) (topics.List b) = refl
eq_same (topics.Communities a) (topics.Communities b) = refl
eq_same (topics.Communities a) topics.Filters = refl
eq_same (topics.Communities a) (topics.Group b n) = refl
eq_same topics.Filters (topics.Interface b) = refl
eq_same topics.Filters topics.Statics = refl
eq_same topics.Filters (topics.Process n) = refl
eq_same topics.Filters (topics.Clause b n) = refl
eq_same topics.Filters (topics.List b) = refl
eq_same topics.Filters (topics.Communities b) = refl
eq_same topics.Filters topics.Filters = refl
eq_same topics.Filters (topics.Group b n) = refl
eq_same (topics.Group a m) (topics.Interface b) = refl
eq_same (topics.Group a m) topics.Statics = refl
eq_same (topics.Group a m) (topics.Process n) = refl
eq_same (topics.Group a m) (topics.Clause b n) = refl
eq_same (topics.Group a m) (topics.List b) = refl
eq_same (topics.Group a m) (topics.Communities b) = refl
eq_same (topics.Group a m) topics.Filters = refl
eq_same (topics.Group a m) (topics.Group b n) = refl

named_one : (topic : List ℕ → Topic) (a b : List ℕ) → bytes_eq a b ≡ true → topic a ≡ topic b
named_one topic a b e = ap topic ((bytes_eq-Decides a b).0 e)

topics_one : (s t : Topic) → same_topic s t ≡ true → s ≡ t
topics_one (topics.Interface a) (topics.Interface b) e = named_one topics.Interface a b e
topics_one (topics.Interface a) topics.Statics e = absurd cc
topics_one (topics.Interface a) (topics.Process n) e = absurd cc
topics_one (topics.Interface a) (topics.Clause b n) e = absurd cc
topics_one (topics.Interface a) (topics.List b) e = absurd cc
topics_one (topics.Interface a) (topics.Communities b) e = absurd cc
topics_one (topics.Interface a) topics.Filters e = absurd cc
topics_one (topics.Interface a) (topics.Group b n) e = absurd cc
topics_one topics.Statics (topics.Interface b) e = absurd cc
topics_one topics.Statics topics.Statics e = refl
topics_one topics.Statics (topics.Process n) e = absurd cc
topics_one topics.Statics (topics.Clause b n) e = absurd cc
topics_one topics.Statics (topics.List b) e = absurd cc
topics_one topics.Statics (topics.Communities b) e = absurd cc
topics_one topics.Statics topics.Filters e = absurd cc
topics_one topics.Statics (topics.Group b n) e = absurd cc
topics_one (topics.Process m) (topics.Interface b) e = absurd cc
topics_one (topics.Process m) topics.Statics e = absurd cc
topics_one (topics.Process m) (topics.Process n) e = ap topics.Process (eqb-true m n e)
topics_one (topics.Process m) (topics.Clause b n) e = absurd cc
topics_one (topics.Process m) (topics.List b) e = absurd cc
topics_one (topics.Process m) (topics.Communities b) e = absurd cc
topics_one (topics.Process m) topics.Filters e = absurd cc
topics_one (topics.Process m) (topics.Group b n) e = absurd cc
topics_one (topics.Clause a m) (topics.Interface b) e = absurd cc
topics_one (topics.Clause a m) topics.Statics e = absurd cc
topics_one (topics.Clause a m) (topics.Process n) e = absurd cc
topics_one (topics.Clause a m) (topics.Clause b n) e = let parts = and_parts (bytes_eq a b) (eqb m n) e in named_one (λ name. topics.Clause name m) a b parts.0 ∙ ap (topics.Clause b) (eqb-true m n parts.1)
topics_one (topics.Clause a m) (topics.List b) e = absurd cc
topics_one (topics.Clause a m) (topics.Communities b) e = absurd cc
topics_one (topics.Clause a m) topics.Filters e = absurd cc
topics_one (topics.Clause a m) (topics.Group b n) e = absurd cc
topics_one (topics.List a) (topics.Interface b) e = absurd cc
topics_one (topics.List a) topics.Statics e = absurd cc
topics_one (topics.List a) (topics.Process n) e = absurd cc
topics_one (topics.List a) (topics.Clause b n) e = absurd cc
topics_one (topics.List a) (topics.List b) e = named_one topics.List a b e
topics_one (topics.List a) (topics.Communities b) e = absurd cc
topics_one (topics.List a) topics.Filters e = absurd cc
topics_one (topics.List a) (topics.Group b n) e = absurd cc
topics_one (topics.Communities a) (topics.Interface b) e = absurd cc
topics_one (topics.Communities a) topics.Statics e = absurd cc
topics_one (topics.Communities a) (topics.Process n) e = absurd cc
topics_one (topics.Communities a) (topics.Clause b n) e = absurd cc
topics_one (topics.Communities a) (topics.List b) e = absurd cc
topics_one (topics.Communities a) (topics.Communities b) e = named_one topics.Communities a b e
topics_one (topics.Communities a) topics.Filters e = absurd cc
topics_one (topics.Communities a) (topics.Group b n) e = absurd cc
topics_one topics.Filters (topics.Interface b) e = absurd cc
topics_one topics.Filters topics.Statics e = absurd cc
topics_one topics.Filters (topics.Process n) e = absurd cc
topics_one topics.Filters (topics.Clause b n) e = absurd cc
topics_one topics.Filters (topics.List b) e = absurd cc
topics_one topics.Filters (topics.Communities b) e = absurd cc
topics_one topics.Filters topics.Filters e = refl
topics_one topics.Filters (topics.Group b n) e = absurd cc
topics_one (topics.Group a m) (topics.Interface b) e = absurd cc
topics_one (topics.Group a m) topics.Statics e = absurd cc
topics_one (topics.Group a m) (topics.Process n) e = absurd cc
topics_one (topics.Group a m) (topics.Clause b n) e = absurd cc
topics_one (topics.Group a m) (topics.List b) e = absurd cc
topics_one (topics.Group a m) (topics.Communities b) e = absurd cc
topics_one (topics.Group a m) topics.Filters e = absurd cc
topics_one (topics.Group a m) (topics.Group b n) e = let parts = and_parts (bytes_eq a b) (beq m n) e in named_one (λ name. topics.Group name m) a b parts.0 ∙ ap (topics.Group b) ((booleans_Decides m n).0 parts.1)

topic_own : (t : Topic) → same_topic t t ≡ true
topic_own (topics.Interface a) = (bytes_eq-Decides a a).1 refl
topic_own topics.Statics = refl
topic_own (topics.Process m) = eq-eqb m m refl
topic_own (topics.Clause a m) = and_from (bytes_eq a a) (eqb m m) ((bytes_eq-Decides a a).1 refl) (eq-eqb m m refl)
topic_own (topics.List a) = (bytes_eq-Decides a a).1 refl
topic_own (topics.Communities a) = (bytes_eq-Decides a a).1 refl
topic_own topics.Filters = refl
topic_own (topics.Group a m) = and_from (bytes_eq a a) (beq m m) ((bytes_eq-Decides a a).1 refl) ((booleans_Decides m m).1 refl)

pub topics_same : IsSame same_topic
topics_same s t = (topics_one s t, (λ e. subst (λ (t : Topic). same_topic s t ≡ true) e (topic_own s)))

pub same_topic_equiv : IsEquivalence same_topic
same_topic_equiv = equiv_of topics_same

-- the two are one function
pub eq_is : (λ s t. (eq-value).it s t) ≡ same_topic
eq_is = λ i s t. eq_same s t i

-- a topic that is among others stands at its place
pub topic_at : (topics : List Topic) (topic : Topic) → list_any (same_topic topic) topics ≡ true → slice_get topics (position_or_len (same_topic topic) topics) ≡ Some topic
topic_at topics topic known =
    let own : ℕ = position_or_len (same_topic topic) topics in
    let below : own < length topics = place_known same_topic topics topic known in
    slice_get-get_or topics own topic below ∙ ap (λ (t : Topic). Some t) (sym ((topics_same topic (get_or topics own topic)).0 (passes_at_first (same_topic topic) topics topic below)))

-- of topics of which no two are one, the topic at a place is first there
pub place_of_topic : (topics : List Topic) → Pairs (λ s t. s ≢ t) topics → (place : ℕ) (topic : Topic) → place < length topics → topic ≡ get_or topics place topic → IsAt topic topics place
place_of_topic [] apart place topic lt e = absurd (omega arith)
place_of_topic (t ∷ topics) apart zero topic lt e =
    let here : same_topic topic t ≡ true = (topics_same topic t).1 e in
    (or_left (same_topic topic t) _ here, place_here same_topic topic t topics here)
place_of_topic (t ∷ topics) apart (suc place) topic lt e =
    let later = place_of_topic topics apart.1 place topic (omega arith) e in
    let in_rest : In topic topics = subst (λ (s : Topic). In s topics) (sym e) (in_at topics place topic (omega arith)) in
    let other : same_topic topic t ≡ false = not_from (same_topic topic t) (λ same. apart.0 topic in_rest (sym ((topics_same topic t).0 same))) in
    (or_right (same_topic topic t) _ later.0, place_later same_topic topic t topics other ∙ ap suc later.1)
  where
    not_from : (b : Bool) → (b ≡ true → ⊥) → b ≡ false
    not_from true none = absurd (none refl)
    not_from false none = refl
