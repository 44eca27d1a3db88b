-- What a line is, by its kind and the block in which it stands.
use Rattle.std.proofs.Common.{◌≡◌, ℕ, Bool, true, false, not, cond, ◌&&◌, ◌||◌, List, ◌∷◌, Option, Some, None, refl}
use Rattle.std.specs.Prelude.{option_and_then}
use Rattle.std.specs.List.{list_any}
use Rattle.nc_types.specs.declared.fault.Cause.{Cause}
use Rattle.nc_types.specs.declared.fault.Cause.TheVariants.{Syntax, Unsupported}
use Rattle.nc_lines.specs.Lines.{words_of, is_indented}
use Rattle.nc_lines.specs.Blocks.{is_idle, begins_banner, has_mark, leaves_open, is_open, header_of}
use Rattle.nc_read_filter.specs.Groups.{GroupSays, group_says}
use Rattle.nc_reader.specs.declared.topic.Topic.{Topic}
use Rattle.nc_reader.specs.Roles.{Role, Passed, Wrong, header_role, opened_by, block_of, member_role, banner_role, role_of}
use Rattle.nc_reader.specs.Steps.{Kind, Banner, Idle, Member, Heads, banner_fault, kind_of}

-- what a line of this kind is, in this block
abbrev pub role_by : Kind → Option Topic → Role
role_by (Banner in_banner None) block = Passed
role_by (Banner in_banner (Some cause)) block = Wrong cause
role_by Idle block = Passed
role_by (Member said) block = member_role block said
role_by (Heads role) block = role

-- whether a banner is open behind it
abbrev pub open_by : Kind → Bool → Bool
open_by (Banner in_banner cause) before = in_banner
open_by Idle before = before
open_by (Member said) before = before
open_by (Heads role) before = before

-- the block behind it
abbrev pub block_by : Kind → Option Topic → Option Topic
block_by (Banner in_banner cause) block = block
block_by Idle block = block
block_by (Member said) block = block
block_by (Heads role) block = opened_by role

-- ---- by the answers to the questions that are asked of a line

abbrev kind_by : Bool → Bool → Bool → Bool → Kind → Kind → Option GroupSays → Role → Kind
kind_by o b i d text banner said header = cond o text (cond b banner (cond i Idle (cond d (Member said) (Heads header))))

banner_by : (mark stays : Bool) (block : Option Topic) (in_banner : Bool) → cond (not mark) (Wrong Unsupported) (cond stays (Wrong Syntax) Passed) ≡ role_by (Banner in_banner (cond (not mark) (Some Unsupported) (cond stays (Some Syntax) None))) block
banner_by false stays block in_banner = refl
banner_by true true block in_banner = refl
banner_by true false block in_banner = refl

role_kind : (o b i d : Bool) (mark : Bool) (banner : Kind) (said : Option GroupSays) (first header : Role) (block : Option Topic) → first ≡ role_by banner block
    → cond o Passed (cond b first (cond i Passed (cond d (member_role block said) header))) ≡ role_by (kind_by o b i d (Banner mark None) banner said header) block
role_kind true b i d mark banner said first header block e = refl
role_kind false true i d mark banner said first header block e = e
role_kind false false true d mark banner said first header block e = refl
role_kind false false false true mark banner said first header block e = refl
role_kind false false false false mark banner said first header block e = refl

open_kind : (o b i d mark stays : Bool) (cause : Option Cause) (said : Option GroupSays) (header : Role) → cond o mark (b && stays) ≡ open_by (kind_by o b i d (Banner mark None) (Banner stays cause) said header) o
open_kind true b i d mark stays cause said header = refl
open_kind false true i d mark stays cause said header = refl
open_kind false false true d mark stays cause said header = refl
open_kind false false false true mark stays cause said header = refl
open_kind false false false false mark stays cause said header = refl

block_kind : (o b i d mark stays : Bool) (cause : Option Cause) (said : Option GroupSays) (before : Option (List ℕ)) (line : List ℕ) (opens : List ℕ → Option Topic) (header : Role) → opens line ≡ opened_by header
    → option_and_then opens (cond (o || (b || (d || i))) before (Some line)) ≡ block_by (kind_by o b i d (Banner mark None) (Banner stays cause) said header) (option_and_then opens before)
block_kind true b i d mark stays cause said before line opens header e = refl
block_kind false true i d mark stays cause said before line opens header e = refl
block_kind false false true true mark stays cause said before line opens header e = refl
block_kind false false true false mark stays cause said before line opens header e = refl
block_kind false false false true mark stays cause said before line opens header e = refl
block_kind false false false false mark stays cause said before line opens header e = e

-- ---- one line

pub role_is : (earlier : List (List ℕ)) (line : List ℕ) (later : List (List ℕ)) → role_of earlier line later ≡ role_by (kind_of (is_open earlier) line later) (block_of earlier)
unfolding role_of kind_of
role_is earlier line later =
    role_kind (is_open earlier) (begins_banner line) (is_idle (words_of line)) (is_indented line) (not (has_mark line)) (Banner (leaves_open line) (banner_fault line later)) (group_says (words_of line)) (banner_role line later) (header_role (words_of line)) (block_of earlier)
    (banner_by (has_mark line) (leaves_open line && not (list_any has_mark later)) (block_of earlier) (leaves_open line))

pub open_is : (earlier : List (List ℕ)) (line : List ℕ) (later : List (List ℕ)) → is_open (line ∷ earlier) ≡ open_by (kind_of (is_open earlier) line later) (is_open earlier)
unfolding is_open kind_of
open_is earlier line later =
    open_kind (is_open earlier) (begins_banner line) (is_idle (words_of line)) (is_indented line) (not (has_mark line)) (leaves_open line) (banner_fault line later) (group_says (words_of line)) (header_role (words_of line))

pub block_is : (earlier : List (List ℕ)) (line : List ℕ) (later : List (List ℕ)) → block_of (line ∷ earlier) ≡ block_by (kind_of (is_open earlier) line later) (block_of earlier)
unfolding header_of kind_of
block_is earlier line later =
    block_kind (is_open earlier) (begins_banner line) (is_idle (words_of line)) (is_indented line) (not (has_mark line)) (leaves_open line) (banner_fault line later) (group_says (words_of line)) (header_of earlier) line
    (λ header. opened_by (header_role (words_of header))) (header_role (words_of line)) refl
