-- The lines of a file are numbered in order, and the first line of a topic that has blocks is a header.
use Rattle.std.proofs.Common.{◌≡◌, ℕ, suc, ◌+◌, ◌-◌, ◌≤◌, Bool, true, false, cond, not, List, [], ◌∷◌, length, get_or, Option, Some, None, sym, ap, ◌∙◌, subst, arith, inl, inr}
use Rattle.std.specs.Prelude.{◌⊎◌, unwrap_or}
use Rattle.std.specs.List.{cons_option}
use Rattle.std.proofs.lemmas.Bool.{cases_Bool, cond_both, or_parts, both_ways, cond-false}
use Rattle.nc_types.specs.declared.fault.Cause.TheVariants.{Syntax}
use Rattle.nc_lines.specs.Lines.{words_of, is_indented, line_at}
use Rattle.nc_lines.specs.Blocks.{is_idle, begins_banner, has_mark, is_open, is_passed, header_of}
use Rattle.nc_read_filter.specs.Groups.{GroupSays, group_says}
use Rattle.nc_reader.specs.declared.topic.Topic.{Topic}
use Rattle.nc_reader.specs.declared.topic.Topic.TheVariants as topics
use Rattle.nc_lines.specs.Groups.{Keyed, of_key}
use Rattle.nc_reader.specs.Roles.{Role, Passed, Wrong, Names, Within, Placed, header_role, opened_by, block_of, group_topic, member_role, role_of, roles_from}
use Rattle.nc_reader.specs.Topics.{same_topic, has_block}
use Rattle.nc_reader.specs.Configuration.{spoken_at, spoken}
use Rattle.nc_lines.proofs.Pairs.{Ascends, ascends_kept}
use Rattle.nc_lines.proofs.GroupLemmas.{passed_by, taken}
use Rattle.nc_reader.proofs.TopicLemmas.{topics_same}

-- ---- numbers

pub roles_ascend : (earlier lines : List (List ℕ)) (high : ℕ) → length earlier + length lines ≤ high → Ascends (λ (r : Placed). r.line) (length earlier) high (roles_from earlier lines)
unfolding roles_from
roles_ascend earlier [] high le = tt
roles_ascend earlier (line ∷ lines) high le =
    let e : length (line ∷ earlier) ≡ length earlier + 1 = omega arith in (
      omega arith,
      omega (arith, le),
      subst (λ (k : ℕ). Ascends (λ (r : Placed). r.line) k high (roles_from (line ∷ earlier) lines)) e (roles_ascend (line ∷ earlier) lines high (omega (arith, le))),
    )

spoken_line : (line : ℕ) (role : Role) (p : Keyed Topic ℕ) → spoken_at line role ≡ Some p → p.value ≡ line
spoken_line line Passed p e = absurd cc
spoken_line line (Wrong cause) p e = absurd cc
spoken_line line (Names name) p e = absurd cc
spoken_line line (Within topic) p e =
    let same : record { key = topic; value = line } ≡ p = cc in
    sym (ap (λ (p : Keyed Topic ℕ). p.value) same)

-- so are the lines that speak of topics
pub spoken_ascend : (lines : List (List ℕ)) → Ascends (λ (p : Keyed Topic ℕ). p.value) 0 (length lines) (spoken (roles_from [] lines))
spoken_ascend lines =
    ascends_kept (λ (r : Placed). spoken_at r.line r.role) (λ (r : Placed). r.line) (λ (p : Keyed Topic ℕ). p.value) (λ r p e. spoken_line r.line r.role p e) 0 (length lines) (roles_from [] lines) (roles_ascend [] lines (length lines) (omega arith))

-- ---- headers

-- what applies an access list to an interface has no header
abbrev pub is_group : Topic → Bool
is_group (topics.Group name inward) = true
is_group topic = false

own_topic : (t : Topic) (said : Option GroupSays) (topic : Topic) → is_group topic ≡ false → unwrap_or (group_topic t said) t ≡ topic → t ≡ topic
own_topic t None topic other e = e
own_topic (topics.Interface name) (Some g) topic other e = absurd (let clash : true ≡ false = ap is_group e ∙ other in cc)
own_topic topics.Statics (Some g) topic other e = e
own_topic (topics.Process asn) (Some g) topic other e = e
own_topic (topics.Clause name number) (Some g) topic other e = e
own_topic (topics.List name) (Some g) topic other e = e
own_topic (topics.Communities name) (Some g) topic other e = e
own_topic topics.Filters (Some g) topic other e = e
own_topic (topics.Group name inward) (Some g) topic other e = e

member_of : (o : Option Topic) (said : Option GroupSays) (topic : Topic) → is_group topic ≡ false → member_role o said ≡ Within topic → o ≡ Some topic
member_of None said topic other e = absurd cc
member_of (Some t) said topic other e =
    let same : unwrap_or (group_topic t said) t ≡ topic = cc in
    ap (λ (t : Topic). Some t) (own_topic t said topic other same)

opener_of : (r : Role) (topic : Topic) → opened_by r ≡ Some topic → r ≡ Within topic
opener_of Passed topic e = absurd cc
opener_of (Wrong cause) topic e = absurd cc
opener_of (Names a) topic e = absurd cc
opener_of (Within t) topic e =
    cond_both (has_block t) (Some t) None (λ (o : Option Topic). o ≡ Some topic → Within t ≡ Within topic) (λ _ e. let same : t ≡ topic = cc in ap Within same) (λ _ e. absurd cc) e

-- what a line is that opens a block
abbrev pub IsHeader : List ℕ → Topic → Type 0
IsHeader line topic = (is_indented line ≡ false) × (header_role (words_of line) ≡ Within topic)

-- a line on a topic is a statement, or an indented one in a block of the topic
abbrev Stands : List (List ℕ) → List ℕ → Topic → Role → Type 0
Stands earlier line topic r = r ≡ Within topic → IsHeader line topic ⊎ (block_of earlier ≡ Some topic)

within_cases : (earlier : List (List ℕ)) (line : List ℕ) (later : List (List ℕ)) (topic : Topic) → is_group topic ≡ false → Stands earlier line topic (role_of earlier line later)
unfolding role_of
within_cases earlier line later topic other =
    cond_both (is_open earlier) _ _ (Stands earlier line topic) (λ _ e. absurd cc)
    (λ _. cond_both (begins_banner line) _ _ (Stands earlier line topic)
    (λ _. cond_both (not (has_mark line)) _ _ (Stands earlier line topic) (λ _ e. absurd cc) (λ _. cond_both _ (Wrong Syntax) Passed (Stands earlier line topic) (λ _ e. absurd cc) (λ _ e. absurd cc)))
    (λ _. cond_both (is_idle (words_of line)) _ _ (Stands earlier line topic) (λ _ e. absurd cc)
    (λ _. cond_both (is_indented line) _ _ (Stands earlier line topic) (λ _ e. inr (member_of (block_of earlier) (group_says (words_of line)) topic other e)) (λ outer e. inl (outer, e)))))

header_plain : (earlier : List (List ℕ)) (line : List ℕ) (later : List (List ℕ)) → is_passed earlier line ≡ false → role_of earlier line later ≡ header_role (words_of line)
unfolding role_of
header_plain earlier line later e =
    let first = or_parts (is_open earlier) _ e in
    let second = or_parts (begins_banner line) _ first.1 in
    let third = or_parts (is_indented line) _ second.1 in
    cond-false (is_open earlier) _ _ first.0 ∙ cond-false (begins_banner line) _ _ second.0 ∙ cond-false (is_idle (words_of line)) _ _ third.1 ∙ cond-false (is_indented line) _ _ third.0

block_next : (earlier : List (List ℕ)) (line : List ℕ) (later : List (List ℕ)) (topic : Topic) → block_of (line ∷ earlier) ≡ Some topic → (block_of earlier ≡ Some topic) ⊎ (role_of earlier line later ≡ Within topic)
unfolding header_of
block_next earlier line later topic e =
    elim (cases_Bool (is_passed earlier line)) [
      | inl passed ↦ inl (sym (ap (λ (b : Bool). opened (cond b (header_of earlier) (Some line))) passed) ∙ e)
      | inr header ↦ inr (header_plain earlier line later header ∙ opener_of (header_role (words_of line)) topic (sym (ap (λ (b : Bool). opened (cond b (header_of earlier) (Some line))) header) ∙ e))
    ]
  where
    opened : Option (List ℕ) → Option Topic
    opened None = None
    opened (Some header) = opened_by (header_role (words_of header))

-- the first of these lines, if there is one, is a header of the topic
abbrev pub Starts : List (List ℕ) → Topic → List ℕ → Type 0
Starts lines topic [] = Unit {0}
Starts lines topic (k ∷ ks) = IsHeader (line_at k lines) topic

starts_more : (whole : List (List ℕ)) (topic : Topic) (n : ℕ) (role : Role) (rest : List (Keyed Topic ℕ))
    → (role ≡ Within topic → IsHeader (line_at n whole) topic) → ((role ≡ Within topic → ⊥) → Starts whole topic (of_key same_topic topic rest)) → Starts whole topic (of_key same_topic topic (cons_option (spoken_at n role) rest))
starts_more whole topic n Passed rest first later = later (λ e. absurd cc)
starts_more whole topic n (Wrong cause) rest first later = later (λ e. absurd cc)
starts_more whole topic n (Names a) rest first later = later (λ e. absurd cc)
starts_more whole topic n (Within t) rest first later =
    let p : Keyed Topic ℕ = record { key = t; value = n } in
    elim (cases_Bool (same_topic topic t)) [
      | inl same ↦ subst (Starts whole topic) (sym (taken same_topic topic p rest same)) (first (ap Within (sym ((topics_same topic t).0 same))))
      | inr other ↦
          subst (Starts whole topic) (sym (passed_by same_topic topic p rest other))
          (later (λ (e : Within t ≡ Within topic). both_ways (same_topic topic t) other ((topics_same topic t).1 (let same : t ≡ topic = cc in sym same))))
    ]

-- outside a block of the topic its next line is a header
starts : (whole earlier lines : List (List ℕ)) (topic : Topic) → is_group topic ≡ false → ((k : ℕ) → get_or whole (length earlier + k) [] ≡ get_or lines k []) → (block_of earlier ≡ Some topic → ⊥)
    → Starts whole topic (of_key same_topic topic (spoken (roles_from earlier lines)))
unfolding roles_from
starts whole earlier [] topic with_header at outside = tt
starts whole earlier (line ∷ later) topic with_header at outside =
    let text : line_at (length earlier + 1) whole ≡ line = (let e : length earlier + 1 - 1 ≡ length earlier + 0 = omega arith in ap (λ (k : ℕ). get_or whole k []) e ∙ at 0) in
    starts_more whole topic (length earlier + 1) (role_of earlier line later) (spoken (roles_from (line ∷ earlier) later))
    (λ is. elim (within_cases earlier line later topic with_header is) [
      | inl opens ↦ subst (λ (text : List ℕ). IsHeader text topic) (sym text) opens
      | inr inside ↦ absurd (outside inside)
    ])
    (λ other. starts whole (line ∷ earlier) later topic with_header
    (λ k. let e : length (line ∷ earlier) + k ≡ length earlier + suc k = omega arith in ap (λ (k : ℕ). get_or whole k []) e ∙ at (suc k))
    (λ still. elim (block_next earlier line later topic still) [
      | inl before ↦ outside before
      | inr within ↦ other within
    ]))

-- the first line of a topic that has a header is one
pub begun : (lines : List (List ℕ)) (topic : Topic) → is_group topic ≡ false → Starts lines topic (of_key same_topic topic (spoken (roles_from [] lines)))
unfolding header_of
begun lines topic other = starts lines [] lines topic other (λ k. let e : 0 + k ≡ k = omega arith in ap (λ (k : ℕ). get_or lines k []) e) (λ e. absurd cc)
