-- What one more line adds to what the definitions gather.
use Rattle.std.proofs.Common.{◌≡◌, ℕ, Bool, true, cond, List, [], ◌∷◌, ◌++◌, Option, Some, None, refl, sym, ap, ◌∙◌, subst}
use Rattle.std.specs.Prelude.{unwrap_or, option_and_then}
use Rattle.std.specs.List.{filter_map, last_or, list_any, position_or_len}
use Rattle.nc_types.specs.Faults.{lowest}
use Rattle.nc_types.specs.declared.fault.Fault.{Fault}
use Rattle.nc_types.specs.declared.fault.Cause.{Cause}
use Rattle.nc_lines.specs.Groups.{Keyed, groups, with_key}
use Rattle.nc_read_filter.specs.Groups.{GroupSays}
use Rattle.nc_reader.specs.Roles.{Role, Passed, Wrong, Names, Within, Placed, group_topic, member_role}
use Rattle.nc_reader.specs.declared.topic.Topic.{Topic}
use Rattle.nc_reader.specs.Topics.{same_topic, has_block}
use Rattle.nc_reader.specs.Configuration.{name_at, name_of, spoken_at, spoken, wrong_at}
use Rattle.nc_reader.specs.Steps.{Kind, Banner, Idle, Member, Heads, Sketch, with_value, put_at, with_fault, headed, put_line, joined_to, group_at, joined, stepped}
use Rattle.nc_reader.proofs.PushLemmas.{last_or-push, filter_map-none, filter_map-some}
use Rattle.nc_lines.proofs.FaultLemmas.{lowest-push}
use Rattle.nc_lines.proofs.GroupLemmas.{keys_of, keys_of-push, with_key-known}
use Rattle.nc_reader.proofs.GroupLemmas.{values_of, groups-more}
use Rattle.nc_reader.proofs.KindLemmas.{role_by}
use Rattle.nc_reader.proofs.TopicLemmas.{same_topic_equiv, topic_at}

-- ---- what is gathered of the lines that were seen

abbrev pub wrongs_of : List Placed → List Fault
wrongs_of seen = filter_map (λ r. wrong_at r.line r.role) seen

pub record Sees (seen : List Placed) (s : Sketch) : Type 0 where
  pub name : s.name ≡ name_of seen
  pub topics : s.topics ≡ keys_of same_topic (spoken seen)
  pub blocks : s.blocks ≡ values_of (groups same_topic (spoken seen))
  pub fault : s.fault ≡ lowest (wrongs_of seen)

name-kept : (seen : List Placed) (r : Placed) → name_at r.line r.role ≡ None → name_of seen ≡ name_of (seen ++ r ∷ [])
name-kept seen r e = sym (ap (λ (xs : List (ℕ × List ℕ)). last_or None xs) (filter_map-none (λ (r : Placed). name_at r.line r.role) seen r e))

within-kept : (seen : List Placed) (r : Placed) → spoken_at r.line r.role ≡ None → spoken seen ≡ spoken (seen ++ r ∷ [])
within-kept seen r e = sym (filter_map-none (λ (r : Placed). spoken_at r.line r.role) seen r e)

keys-kept : (seen : List Placed) (r : Placed) → spoken_at r.line r.role ≡ None → keys_of same_topic (spoken seen) ≡ keys_of same_topic (spoken (seen ++ r ∷ []))
keys-kept seen r e = ap (keys_of same_topic) (within-kept seen r e)

blocks-kept : (seen : List Placed) (r : Placed) → spoken_at r.line r.role ≡ None → values_of (groups same_topic (spoken seen)) ≡ values_of (groups same_topic (spoken (seen ++ r ∷ [])))
blocks-kept seen r e = ap (λ (ps : List (Keyed Topic ℕ)). values_of (groups same_topic ps)) (within-kept seen r e)

fault-kept : (seen : List Placed) (r : Placed) → wrong_at r.line r.role ≡ None → lowest (wrongs_of seen) ≡ lowest (wrongs_of (seen ++ r ∷ []))
fault-kept seen r e = sym (ap lowest (filter_map-none (λ (r : Placed). wrong_at r.line r.role) seen r e))

-- a line of which nothing is gathered
passed : (seen : List Placed) (s : Sketch) (line : ℕ) → Sees seen s → Sees (seen ++ record { line = line; role = Passed } ∷ []) s
passed seen s line h =
    let r : Placed = record { line = line; role = Passed } in
    record {
      name = h.name ∙ name-kept seen r refl;
      topics = h.topics ∙ keys-kept seen r refl;
      blocks = h.blocks ∙ blocks-kept seen r refl;
      fault = h.fault ∙ fault-kept seen r refl;
    }

faulty : (seen : List Placed) (s : Sketch) (line : ℕ) (cause : Cause) → Sees seen s → Sees (seen ++ record { line = line; role = Wrong cause } ∷ []) (record s { fault = with_fault line (Some cause) s.fault })
faulty seen s line cause h =
    let r : Placed = record { line = line; role = Wrong cause } in
    let f : Fault = record { line = line; cause = cause } in
    record {
      name = h.name ∙ name-kept seen r refl;
      topics = h.topics ∙ keys-kept seen r refl;
      blocks = h.blocks ∙ blocks-kept seen r refl;
      fault = ap (with_fault line (Some cause)) h.fault ∙ sym (lowest-push (wrongs_of seen) f) ∙ sym (ap lowest (filter_map-some (λ (r : Placed). wrong_at r.line r.role) seen r f refl));
    }

named : (seen : List Placed) (s : Sketch) (line : ℕ) (name : List ℕ) → Sees seen s → Sees (seen ++ record { line = line; role = Names name } ∷ []) (record s { name = Some (line, name) })
named seen s line name h =
    let r : Placed = record { line = line; role = Names name } in
    record {
      name = sym (ap (λ (xs : List (ℕ × List ℕ)). last_or None xs) (filter_map-some (λ (r : Placed). name_at r.line r.role) seen r (line, name) refl) ∙ last_or-push None (filter_map (λ r. name_at r.line r.role) seen) (line, name));
      topics = h.topics ∙ keys-kept seen r refl;
      blocks = h.blocks ∙ blocks-kept seen r refl;
      fault = h.fault ∙ fault-kept seen r refl;
    }

-- a line on a topic
within : (seen : List Placed) (s : Sketch) (line : ℕ) (topic : Topic) → Sees seen s → Sees (seen ++ record { line = line; role = Within topic } ∷ []) (put_line line topic s)
within seen s line topic h =
    let r : Placed = record { line = line; role = Within topic } in
    let p : Keyed Topic ℕ = record { key = topic; value = line } in
    let more : spoken (seen ++ r ∷ []) ≡ spoken seen ++ p ∷ [] = filter_map-some (λ (r : Placed). spoken_at r.line r.role) seen r p refl in
    record {
      name = h.name ∙ name-kept seen r refl;
      topics = ap (λ (topics : List Topic). with_key same_topic topics topic) h.topics ∙ sym (keys_of-push same_topic (spoken seen) p) ∙ sym (ap (keys_of same_topic) more);
      blocks =
          ap (λ (topics : List Topic). put_at (list_any (same_topic topic) topics) line (position_or_len (same_topic topic) topics) s.blocks) h.topics
          ∙ ap (put_at (list_any (same_topic topic) (keys_of same_topic (spoken seen))) line (position_or_len (same_topic topic) (keys_of same_topic (spoken seen)))) h.blocks
          ∙ sym (groups-more same_topic_equiv (spoken seen) p) ∙ sym (ap (λ (ps : List (Keyed Topic ℕ)). values_of (groups same_topic ps)) more);
      fault = h.fault ∙ fault-kept seen r refl;
    }

-- the banner and the block don't count
abbrev with_state : Bool → Option ℕ → Sketch → Sketch
with_state in_banner block s = record s { in_banner = in_banner; block = block }

stated : (seen : List Placed) (s : Sketch) (in_banner : Bool) (block : Option ℕ) → Sees seen s → Sees seen (with_state in_banner block s)
stated seen s in_banner block h = record { name = h.name; topics = h.topics; blocks = h.blocks; fault = h.fault }

-- the place of the topic in whose block an indented line would stand
abbrev pub IsBlock : List Topic → Option Topic → Option ℕ → Type 0
IsBlock topics None place = place ≡ None
IsBlock topics (Some topic) place = (place ≡ Some (position_or_len (same_topic topic) topics)) × (list_any (same_topic topic) topics ≡ true)

joins : (seen : List Placed) (s : Sketch) (line : ℕ) (said : Option GroupSays) (block : Option Topic) (place : Option ℕ) → IsBlock s.topics block place → Sees seen s
    → Sees (seen ++ record { line = line; role = member_role block said } ∷ []) (joined line said place s)
joins seen s line said None place is h = subst (λ (p : Option ℕ). Sees (seen ++ record { line = line; role = Passed } ∷ []) (joined line said p s)) (sym is) (passed seen s line h)
joins seen s line said (Some topic) place is h =
    let own : ℕ = position_or_len (same_topic topic) s.topics in
    let role : Role = Within (unwrap_or (group_topic topic said) topic) in
    let put = within seen s line topic h in
    let made : Sees (seen ++ record { line = line; role = Within topic } ∷ []) (record s { blocks = with_value line own s.blocks }) =
    record {
      name = put.name;
      topics = sym (with_key-known same_topic s.topics topic is.1) ∙ put.topics;
      blocks = sym (ap (λ (b : Bool). put_at b line own s.blocks) is.1) ∙ put.blocks;
      fault = put.fault;
    } in
    let by_topic : Sees (seen ++ record { line = line; role = role } ∷ []) (joined_to line own (group_topic topic said) s) = on own made (group_topic topic said) in
    let by_place : Sees (seen ++ record { line = line; role = role } ∷ []) (joined_to line own (group_at said own s.topics) s) =
    subst (λ (o : Option Topic). Sees (seen ++ record { line = line; role = role } ∷ []) (joined_to line own (option_and_then (λ (topic : Topic). group_topic topic said) o) s)) (sym (topic_at s.topics topic is.1)) by_topic in
    subst (λ (p : Option ℕ). Sees (seen ++ record { line = line; role = role } ∷ []) (joined line said p s)) (sym is.0) by_place
  where
    on : (own : ℕ) → Sees (seen ++ record { line = line; role = Within topic } ∷ []) (record s { blocks = with_value line own s.blocks }) → (o : Option Topic)
        → Sees (seen ++ record { line = line; role = Within (unwrap_or o topic) } ∷ []) (joined_to line own o s)
    on own made None = made
    on own made (Some t) = within seen s line t h

heads : (seen : List Placed) (s : Sketch) (line : ℕ) (role : Role) → Sees seen s → Sees (seen ++ record { line = line; role = role } ∷ []) (headed line role s)
heads seen s line Passed h = stated _ _ s.in_banner None (passed seen s line h)
heads seen s line (Wrong cause) h = stated _ _ s.in_banner None (faulty seen s line cause h)
heads seen s line (Names name) h = stated _ _ s.in_banner None (named seen s line name h)
heads seen s line (Within topic) h = stated _ _ s.in_banner (cond (has_block topic) (Some (position_or_len (same_topic topic) s.topics)) None) (within seen s line topic h)

-- one more line
pub sees_more : (seen : List Placed) (s : Sketch) (line : ℕ) (kind : Kind) (block : Option Topic) → IsBlock s.topics block s.block → Sees seen s
    → Sees (seen ++ record { line = line; role = role_by kind block } ∷ []) (stepped line kind s)
sees_more seen s line (Banner in_banner None) block is h = stated _ _ in_banner s.block (passed seen s line h)
sees_more seen s line (Banner in_banner (Some cause)) block is h = stated _ _ in_banner s.block (faulty seen s line cause h)
sees_more seen s line Idle block is h = passed seen s line h
sees_more seen s line (Member said) block is h = joins seen s line said block s.block is h
sees_more seen s line (Heads role) block is h = heads seen s line role h
