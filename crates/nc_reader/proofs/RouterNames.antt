-- The router's name is that of a line of the file.
use Rattle.std.proofs.Common.{◌≡◌, ℕ, Bool, true, false, not, ◌&&◌, List, [], ◌∷◌, Option, Some, None, ap, subst, inl, inr}
use Rattle.std.specs.List.{filter_map, list_any}
use Rattle.std.proofs.lemmas.Bool.{cond_both}
use Rattle.nc_types.proofs.Members.{in_by_filter_map}
use Rattle.nc_types.specs.WellFormed.{is_name}
use Rattle.nc_types.specs.declared.fault.Cause.TheVariants.{Syntax, Unsupported}
use Rattle.nc_lines.specs.Lines.{words_of, is_indented}
use Rattle.nc_lines.specs.Blocks.{is_idle, begins_banner, has_mark, leaves_open, is_open}
use Rattle.nc_lines.specs.Statements.{Reading, Outside, Faulty, Says}
use Rattle.nc_read_policy.specs.Clauses.{header_says}
use Rattle.nc_read_policy.specs.Lists.{list_name_says}
use Rattle.nc_read_policy.specs.CommunityEntries.{community_name_says}
use Rattle.nc_read_filter.specs.Groups.{GroupSays, group_says}
use Rattle.nc_read_bgp.specs.Statements.{header_says as process_header_says}
use Rattle.nc_reader.specs.declared.topic.Topic.{Topic}
use Rattle.nc_reader.specs.declared.topic.Topic.TheVariants as topics
use Rattle.nc_reader.specs.Roles.{Role, Passed, Wrong, Names, Within, Placed, hostname_role, interface_role, filter_role, said_role, is_unsupported, read_role, block_of, member_role, role_of, roles_from}
use Rattle.nc_reader.specs.Configuration.{name_at, name_of}
use Rattle.nc_lines.proofs.Pairs.{Has}
use Rattle.nc_reader.proofs.HeaderCases.{read_by}
use Rattle.nc_reader.proofs.Addresses.{last_has}

abbrev IsNamed : Role → Type 0
IsNamed Passed = Unit {0}
IsNamed (Wrong cause) = Unit {0}
IsNamed (Names name) = is_name name ≡ true
IsNamed (Within topic) = Unit {0}

hostname_named : (words : List (List ℕ)) → IsNamed (hostname_role words)
hostname_named [] = tt
hostname_named (a ∷ []) = cond_both (is_name a) (Names a) (Wrong Syntax) IsNamed (λ e. e) (λ _. tt)
hostname_named (a ∷ b ∷ words) = tt

interface_named : (words : List (List ℕ)) → IsNamed (interface_role words)
interface_named [] = tt
interface_named (a ∷ words) = tt

said_named : {S : Type 0} (topic : S → Topic) (r : Reading S) → IsNamed (said_role topic r)
said_named topic Outside = tt
said_named topic (Faulty cause) = tt
said_named topic (Says s) = tt

filter_named : (speaks : Bool) → IsNamed (filter_role speaks)
filter_named true = tt
filter_named false = tt

read_named : (words : List (List ℕ)) → IsNamed (read_role words)
read_named words =
    read_by IsNamed words hostname_named interface_named tt (λ rest. said_named topics.List (list_name_says rest)) (λ rest. said_named topics.Communities (community_name_says rest)) filter_named
    (said_named topics.Process (process_header_says words)) (said_named (λ h. topics.Clause h.map_name h.number) (header_says words))

member_named : (o : Option Topic) (said : Option GroupSays) → IsNamed (member_role o said)
member_named None said = tt
member_named (Some topic) said = tt

role_named : (earlier : List (List ℕ)) (line : List ℕ) (later : List (List ℕ)) → IsNamed (role_of earlier line later)
unfolding role_of
role_named earlier line later =
    cond_both (is_open earlier) _ _ IsNamed (λ _. tt)
    (λ _. cond_both (begins_banner line) _ _ IsNamed
    (λ _. cond_both (not (has_mark line)) _ _ IsNamed (λ _. tt)
    (λ _. cond_both (leaves_open line && not (list_any has_mark later)) (Wrong Syntax) Passed IsNamed (λ _. tt) (λ _. tt)))
    (λ _. cond_both (is_idle (words_of line)) _ _ IsNamed (λ _. tt)
    (λ _. cond_both (is_indented line) _ _ IsNamed (λ _. member_named (block_of earlier) (group_says (words_of line)))
    (λ _. cond_both (is_unsupported (words_of line)) (Wrong Unsupported) (read_role (words_of line)) IsNamed (λ _. tt) (λ _. read_named (words_of line))))))

roles_named : (earlier lines : List (List ℕ)) (r : Placed) → Has (roles_from earlier lines) r → IsNamed r.role
unfolding roles_from
roles_named earlier [] r h = absurd h
roles_named earlier (line ∷ later) r (inl e) = subst IsNamed (ap (λ (r : Placed). r.role) e) (role_named earlier line later)
roles_named earlier (line ∷ later) r (inr h) = roles_named (line ∷ earlier) later r h

name_is : (line : ℕ) (role : Role) (name : ℕ × List ℕ) → IsNamed role → name_at line role ≡ Some name → is_name name.1 ≡ true
name_is line Passed name is e = absurd cc
name_is line (Wrong cause) name is e = absurd cc
name_is line (Names a) name is e =
    let same : (line, a) ≡ name = cc in
    subst (λ (n : ℕ × List ℕ). is_name n.1 ≡ true) same is
name_is line (Within a) name is e = absurd cc

pub router_named : (lines : List (List ℕ)) (name : ℕ × List ℕ) → name_of (roles_from [] lines) ≡ Some name → is_name name.1 ≡ true
router_named lines name e =
    let rs = roles_from [] lines in
    elim (last_has None (filter_map (λ (r : Placed). name_at r.line r.role) rs) name e) [
      | inl never ↦ absurd cc
      | inr h ↦
          let at = in_by_filter_map (λ (r : Placed). name_at r.line r.role) rs name h in
          name_is at.0.line at.0.role name (roles_named [] lines at.0 at.1) at.2
    ]
