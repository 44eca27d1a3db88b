-- The pass over the lines of a file.
use Rattle.std.proofs.Common.{◌≡◌, ℕ, zero, suc, ◌+◌, ◌-◌, ◌<◌, ◌≤◌, Bool, true, false, cond, eqb, List, [], ◌∷◌, ◌++◌, length, map, get_or, drop, Option, Some, None, refl, sym, ap, ◌∙◌, subst, arith, inl, inr}
use Rattle.std.specs.Prelude.{All, IfSome}
use Rattle.std.specs.List.{list_any, position_or_len}
use Rattle.std.proofs.Math.Seq.{drop-cons}
use Rattle.std.proofs.lemmas.Bool.{cases_Bool, ne_eqb, or_left}
use Rattle.std.proofs.lemmas.List.Folds.{list_any-append, position_or_len_push}
use Rattle.std.proofs.lemmas.List.{append-nil, append_assoc, drop_all, length-map}
use Rattle.std.proofs.lemmas.List.Elements.{All-nil, All-cons, All-head, All-tail, All-push}
use Rattle.nc_lines.specs.Lines.{line_at}
use Rattle.nc_lines.specs.Blocks.{is_open, header_of}
use Rattle.nc_lines.specs.declared.block.Block.{Block}
use Rattle.nc_read_filter.specs.Groups.{GroupSays}
use Rattle.nc_reader.specs.Roles.{Role, Passed, Wrong, Names, Within, Placed, block_of, role_of, roles_from}
use Rattle.nc_reader.specs.declared.topic.Topic.{Topic}
use Rattle.nc_reader.specs.Topics.{same_topic, has_block}
use Rattle.nc_lines.specs.Groups.{Group, of_key, groups, with_key}
use Rattle.nc_reader.specs.Configuration.{spoken}
use Rattle.nc_reader.specs.Gathering.{IsLine, Gathers, sketch}
use Rattle.nc_reader.specs.Readings.{lines_in}
use Rattle.nc_reader.specs.Steps.{Kind, Banner, Idle, Member, Heads, kind_of, Sketch, IsSteady, blank, with_value, put_at, joined_to, group_at, joined, stepped}
use Rattle.nc_reader.specs.declared.gather.Draft.{Draft}
use Rattle.nc_reader.specs.declared.gather.Gathered.{Gathered}
use Rattle.nc_lines.proofs.GroupLemmas.{keys_of, with_key-known, with_key-new, place_known, place_with_key, known-with_key}
use Rattle.nc_reader.proofs.KindLemmas.{role_by, open_by, block_by, role_is, open_is, block_is}
use Rattle.nc_reader.proofs.SeenLemmas.{Sees, IsBlock, sees_more}
use Rattle.nc_reader.proofs.TopicLemmas.{same_topic_equiv}

-- what the lines up to a number make
pub record IsSoFar (lines : List (List ℕ)) (count : ℕ) (s : Sketch) : Type 0 where
  -- the lines so far, the nearest first, and what each is
  pub earlier : List (List ℕ)
  pub seen : List Placed
  pub behind : length earlier ≡ count
  pub whole : roles_from [] lines ≡ seen ++ roles_from earlier (drop count lines)
  pub gathered : Sees seen s
  pub in_banner : s.in_banner ≡ is_open earlier
  pub block : IsBlock s.topics (block_of earlier) s.block
  pub steady : IsSteady s
  pub block_lines : All (All (IsLine lines)) s.blocks

-- ---- before the first line

pub begins_blank : (lines : List (List ℕ)) → IsSoFar lines 0 blank
unfolding roles_from is_open header_of
begins_blank lines =
    record {
      earlier = [];
      seen = [];
      behind = refl;
      whole = refl;
      gathered = record { name = refl; topics = refl; blocks = refl; fault = refl };
      in_banner = refl;
      block = refl;
      steady = record { blocks = refl; block = tt };
      block_lines = All-nil (All (IsLine lines));
    }

-- ---- one more line

roles_step : (earlier : List (List ℕ)) (line : List ℕ) (later : List (List ℕ)) → roles_from earlier (line ∷ later) ≡ record { line = length earlier + 1; role = role_of earlier line later } ∷ roles_from (line ∷ earlier) later
unfolding roles_from
roles_step earlier line later = refl

roles_end : (earlier : List (List ℕ)) → roles_from earlier [] ≡ []
unfolding roles_from
roles_end earlier = refl

next_line : (lines : List (List ℕ)) (count : ℕ) → count < length lines → drop count lines ≡ line_at (count + 1) lines ∷ drop (count + 1) lines
next_line lines count some =
    let here : count + 1 - 1 ≡ count = omega arith in
    let next : suc count ≡ count + 1 = omega arith in
    drop-cons lines count [] some ∙ ap (λ (k : ℕ). get_or lines k [] ∷ drop (suc count) lines) (sym here) ∙ ap (λ (k : ℕ). line_at (count + 1) lines ∷ drop k lines) next

join_to_open : (line place : ℕ) (o : Option Topic) (s : Sketch) → (joined_to line place o s).in_banner ≡ s.in_banner
join_to_open line place None s = refl
join_to_open line place (Some topic) s = refl

join_open : (line : ℕ) (said : Option GroupSays) (place : Option ℕ) (s : Sketch) → (joined line said place s).in_banner ≡ s.in_banner
join_open line said None s = refl
join_open line said (Some place) s = join_to_open line place (group_at said place s.topics) s

open_step : (line : ℕ) (kind : Kind) (s : Sketch) → (stepped line kind s).in_banner ≡ open_by kind s.in_banner
open_step line (Banner in_banner cause) s = refl
open_step line Idle s = refl
open_step line (Member said) s = join_open line said s.block s
open_step line (Heads Passed) s = refl
open_step line (Heads (Wrong cause)) s = refl
open_step line (Heads (Names name)) s = refl
open_step line (Heads (Within topic)) s = refl

-- the place of a topic stays where another one comes to the end
block_kept : (topics : List Topic) (more : Topic) (block : Option Topic) (place : Option ℕ) → IsBlock topics block place → IsBlock (with_key same_topic topics more) block place
block_kept topics more None place is = is
block_kept topics more (Some topic) place is =
    elim (cases_Bool (list_any (same_topic more) topics)) [
      | inl known ↦ subst (λ (ts : List Topic). IsBlock ts (Some topic) place) (sym (with_key-known same_topic topics more known)) is
      | inr new ↦
          let below = place_known same_topic topics topic is.1 in
          let apart : eqb (position_or_len (same_topic topic) topics) (length topics) ≡ false = ne_eqb (position_or_len (same_topic topic) topics) (length topics) (λ (e : position_or_len (same_topic topic) topics ≡ length topics). omega (arith, e, below)) in
          let same : position_or_len (same_topic topic) (topics ++ more ∷ []) ≡ position_or_len (same_topic topic) topics =
          position_or_len_push (same_topic topic) topics more ∙ ap (λ (b : Bool). cond b (length topics + cond (same_topic topic more) 0 1) (position_or_len (same_topic topic) topics)) apart in
          let still : list_any (same_topic topic) (topics ++ more ∷ []) ≡ true = list_any-append (same_topic topic) topics (more ∷ []) ∙ or_left (list_any (same_topic topic) topics) _ is.1 in
          subst (λ (ts : List Topic). IsBlock ts (Some topic) place) (sym (with_key-new same_topic topics more new)) (is.0 ∙ ap (λ (k : ℕ). Some k) (sym same), still)
    ]

block_join_to : (line place : ℕ) (o : Option Topic) (s : Sketch) (block : Option Topic) → IsBlock s.topics block s.block → IsBlock (joined_to line place o s).topics block (joined_to line place o s).block
block_join_to line place None s block is = is
block_join_to line place (Some topic) s block is = block_kept s.topics topic block s.block is

block_join : (line : ℕ) (said : Option GroupSays) (place : Option ℕ) (s : Sketch) (block : Option Topic) → IsBlock s.topics block s.block → IsBlock (joined line said place s).topics block (joined line said place s).block
block_join line said None s block is = is
block_join line said (Some place) s block is = block_join_to line place (group_at said place s.topics) s block is

block_step : (line : ℕ) (kind : Kind) (s : Sketch) (block : Option Topic) → IsBlock s.topics block s.block → IsBlock (stepped line kind s).topics (block_by kind block) (stepped line kind s).block
block_step line (Banner in_banner cause) s block is = is
block_step line Idle s block is = is
block_step line (Member said) s block is = block_join line said s.block s block is
block_step line (Heads Passed) s block is = refl
block_step line (Heads (Wrong cause)) s block is = refl
block_step line (Heads (Names name)) s block is = refl
block_step line (Heads (Within topic)) s block is =
    opens (has_block topic)
  where
    opens : (b : Bool) → IsBlock (with_key same_topic s.topics topic) (cond b (Some topic) None) (cond b (Some (position_or_len (same_topic topic) s.topics)) None)
    opens true = (ap (λ (k : ℕ). Some k) (sym (place_with_key same_topic_equiv s.topics topic)), known-with_key same_topic_equiv s.topics topic)
    opens false = refl

-- ---- the lines exist

with_value-lines : (P : ℕ → Type 0) (line place : ℕ) (blocks : List (List ℕ)) → P line → All (All P) blocks → All (All P) (with_value line place blocks)
with_value-lines P line place [] p all = all
with_value-lines P line zero (b ∷ bs) p all = All-cons (All P) (b ++ line ∷ []) bs (All-push P b line (All-head (All P) b bs all) p) (All-tail (All P) b bs all)
with_value-lines P line (suc place) (b ∷ bs) p all = All-cons (All P) b (with_value line place bs) (All-head (All P) b bs all) (with_value-lines P line place bs p (All-tail (All P) b bs all))

put_at-lines : (P : ℕ → Type 0) (known : Bool) (line place : ℕ) (blocks : List (List ℕ)) → P line → All (All P) blocks → All (All P) (put_at known line place blocks)
put_at-lines P true line place blocks p all = with_value-lines P line place blocks p all
put_at-lines P false line place blocks p all = All-push (All P) blocks (line ∷ []) all (All-cons P line [] p (All-nil P))

join_to-lines : (P : ℕ → Type 0) (line place : ℕ) (o : Option Topic) (s : Sketch) → P line → All (All P) s.blocks → All (All P) (joined_to line place o s).blocks
join_to-lines P line place None s p all = with_value-lines P line place s.blocks p all
join_to-lines P line place (Some topic) s p all = put_at-lines P (list_any (same_topic topic) s.topics) line (position_or_len (same_topic topic) s.topics) s.blocks p all

join-lines : (P : ℕ → Type 0) (line : ℕ) (said : Option GroupSays) (place : Option ℕ) (s : Sketch) → P line → All (All P) s.blocks → All (All P) (joined line said place s).blocks
join-lines P line said None s p all = all
join-lines P line said (Some place) s p all = join_to-lines P line place (group_at said place s.topics) s p all

blocks-lines : (P : ℕ → Type 0) (line : ℕ) (kind : Kind) (s : Sketch) → P line → All (All P) s.blocks → All (All P) (stepped line kind s).blocks
blocks-lines P line (Banner in_banner cause) s p all = all
blocks-lines P line Idle s p all = all
blocks-lines P line (Member said) s p all = join-lines P line said s.block s p all
blocks-lines P line (Heads Passed) s p all = all
blocks-lines P line (Heads (Wrong cause)) s p all = all
blocks-lines P line (Heads (Names name)) s p all = all
blocks-lines P line (Heads (Within topic)) s p all = put_at-lines P (list_any (same_topic topic) s.topics) line (position_or_len (same_topic topic) s.topics) s.blocks p all

-- ---- together

within_blocks : (s : Sketch) (place : Option ℕ) (block : Option Topic) → IsBlock s.topics block place → length s.blocks ≡ length s.topics → IfSome place (λ p. p < length s.blocks)
within_blocks s place None is keyed = subst (λ (o : Option ℕ). IfSome o (λ p. p < length s.blocks)) (sym is) tt
within_blocks s place (Some topic) is keyed =
    let below = place_known same_topic s.topics topic is.1 in
    subst (λ (o : Option ℕ). IfSome o (λ p. p < length s.blocks)) (sym is.0) (omega arith)

steady_is : (seen : List Placed) (s : Sketch) (block : Option Topic) → Sees seen s → IsBlock s.topics block s.block → IsSteady s
steady_is seen s block h is =
    let keyed : length s.blocks ≡ length s.topics = ap length h.blocks ∙ length-map (groups same_topic (spoken seen)) (λ g. g.values) ∙ length-map _ _ ∙ sym (ap length h.topics) in
    record { blocks = keyed; block = within_blocks s s.block block is keyed }

more_by : (lines : List (List ℕ)) (count : ℕ) (s : Sketch) (kind : Kind) → count < length lines → (h : IsSoFar lines count s)
    → role_of h.earlier (line_at (count + 1) lines) (drop (count + 1) lines) ≡ role_by kind (block_of h.earlier)
    → is_open (line_at (count + 1) lines ∷ h.earlier) ≡ open_by kind (is_open h.earlier)
    → block_of (line_at (count + 1) lines ∷ h.earlier) ≡ block_by kind (block_of h.earlier)
    → IsSoFar lines (count + 1) (stepped (count + 1) kind s)
more_by lines count s kind some h role opens block =
    let line = line_at (count + 1) lines in
    let later = drop (count + 1) lines in
    let r : Placed = record { line = count + 1; role = role_by kind (block_of h.earlier) } in
    let is_next : IsLine lines (count + 1) = (omega arith, omega arith) in
    let gathered : Sees (h.seen ++ r ∷ []) (stepped (count + 1) kind s) = sees_more h.seen s (count + 1) kind (block_of h.earlier) h.block h.gathered in
    let in_block : IsBlock (stepped (count + 1) kind s).topics (block_of (line ∷ h.earlier)) (stepped (count + 1) kind s).block =
    subst (λ (b : Option Topic). IsBlock (stepped (count + 1) kind s).topics b (stepped (count + 1) kind s).block) (sym block) (block_step (count + 1) kind s (block_of h.earlier) h.block) in
    record {
      earlier = line ∷ h.earlier;
      seen = h.seen ++ r ∷ [];
      behind = ap suc h.behind ∙ omega arith;
      whole =
          h.whole ∙ ap (λ (ls : List (List ℕ)). h.seen ++ roles_from h.earlier ls) (next_line lines count some) ∙ ap (λ (rs : List Placed). h.seen ++ rs) (roles_step h.earlier line later)
          ∙ ap (λ (k : ℕ). h.seen ++ record { line = k + 1; role = role_of h.earlier line later } ∷ roles_from (line ∷ h.earlier) later) h.behind
          ∙ ap (λ (x : Role). h.seen ++ record { line = count + 1; role = x } ∷ roles_from (line ∷ h.earlier) later) role
          ∙ sym (append_assoc h.seen (r ∷ []) (roles_from (line ∷ h.earlier) later));
      gathered = gathered;
      in_banner = open_step (count + 1) kind s ∙ ap (open_by kind) h.in_banner ∙ sym opens;
      block = in_block;
      steady = steady_is (h.seen ++ r ∷ []) (stepped (count + 1) kind s) (block_of (line ∷ h.earlier)) gathered in_block;
      block_lines = blocks-lines (IsLine lines) (count + 1) kind s is_next h.block_lines;
    }

pub one_more : (lines : List (List ℕ)) (count : ℕ) (s : Sketch) → count < length lines → IsSoFar lines count s → IsSoFar lines (count + 1) (stepped (count + 1) (kind_of s.in_banner (line_at (count + 1) lines) (drop (count + 1) lines)) s)
one_more lines count s some h =
    let line = line_at (count + 1) lines in
    let later = drop (count + 1) lines in
    let kind : kind_of (is_open h.earlier) line later ≡ kind_of s.in_banner line later = ap (λ (b : Bool). kind_of b line later) (sym h.in_banner) in
    more_by lines count s (kind_of s.in_banner line later) some h
    (role_is h.earlier line later ∙ ap (λ (k : Kind). role_by k (block_of h.earlier)) kind)
    (open_is h.earlier line later ∙ ap (λ (k : Kind). open_by k (is_open h.earlier)) kind)
    (block_is h.earlier line later ∙ ap (λ (k : Kind). block_by k (block_of h.earlier)) kind)

-- ---- behind the last line

All-unmap : {X Y : Type 0} (P : Y → Type 0) (f : X → Y) (xs : List X) → All P (map f xs) → All (λ x. P (f x)) xs
All-unmap P f [] all = All-nil (λ x. P (f x))
All-unmap P f (x ∷ xs) all = All-cons (λ x. P (f x)) x xs (All-head P (f x) (map f xs) all) (All-unmap P f xs (All-tail P (f x) (map f xs) all))

abbrev group_by : {K V : Type 0} → (K → List V) → K → Group K V
group_by f key = record { key = key; values = f key }

keys_are : {K V : Type 0} (f : K → List V) (keys : List K) → map (λ (g : Group K V). g.key) (map (λ (key : K). group_by f key) keys) ≡ keys
keys_are f [] = refl
keys_are {K} f (key ∷ keys) = ap (λ (ks : List K). key ∷ ks) (keys_are f keys)

pub all_gathered : (lines : List (List ℕ)) (count : ℕ) (d : Draft) (g : Gathered) → length lines ≤ count → IsSoFar lines count (sketch d) → g.name ≡ d.name → g.topics ≡ d.topics → g.lines ≡ d.blocks → g.fault ≡ d.fault → Gathers lines g
all_gathered lines count d g none h name topics blocks fault =
    let seen : h.seen ≡ roles_from [] lines =
    sym (append-nil h.seen) ∙ sym (ap (λ (rs : List Placed). h.seen ++ rs) (roles_end h.earlier)) ∙ sym (ap (λ (ls : List (List ℕ)). h.seen ++ roles_from h.earlier ls) (drop_all count lines none)) ∙ sym h.whole in
    let sees = subst (λ (rs : List Placed). Sees rs (sketch d)) seen h.gathered in
    record {
      name = name ∙ sees.name;
      topics = ap (λ ts. ts.keys) topics ∙ sees.topics ∙ sym (keys_are (λ (key : Topic). of_key same_topic key (spoken (roles_from [] lines))) (keys_of same_topic (spoken (roles_from [] lines))));
      spoken = ap (λ bs. lines_in bs.items) blocks ∙ sees.blocks;
      fault = fault ∙ sees.fault;
      block_lines = subst (λ bs. All (λ (b : Block). All (IsLine lines) b.lines.items) bs.items) (sym blocks) (All-unmap (All (IsLine lines)) (λ (b : Block). b.lines.items) d.blocks.items h.block_lines);
    }
