-- What an unindented statement that is read may be.
use Rattle.std.proofs.Common.{◌≡◌, ℕ, Bool, true, false, List, [], ◌∷◌, Option, Some, None, codes}
use Rattle.std.specs.Option.{option_map_or}
use Rattle.std.proofs.lemmas.Bool.{cond_both}
use Rattle.nc_types.specs.WellFormed.{is_name}
use Rattle.nc_types.specs.declared.fault.Cause.TheVariants.{Syntax, Unsupported}
use Rattle.nc_lines.specs.Statements.{Reading, Outside, Faulty, Says, after}
use Rattle.nc_read_bgp.specs.Statements.{header_says as process_header_says}
use Rattle.nc_read_policy.specs.Clauses.{header_says}
use Rattle.nc_read_policy.specs.Lists.{list_name_says}
use Rattle.nc_read_policy.specs.CommunityEntries.{community_name_says}
use Rattle.nc_read_filter.specs.Lists.{opens_list, begins_entry}
use Rattle.nc_reader.specs.declared.topic.Topic.{Topic}
use Rattle.nc_reader.specs.declared.topic.Topic.TheVariants as topics
use Rattle.nc_reader.specs.Roles.{Role, Wrong, Names, Within, hostname_role, interface_role, filter_role, said_role, is_unsupported, read_role, header_role}

module _ (P : Role → Type 0) where
  either : {A : Type 0} (role : A → Role) (o : Option A) (other : Role) → ((x : A) → P (role x)) → P other → P (option_map_or role o other)
  either role None other here there = there
  either role (Some x) other here there = here x

  -- what holds of each form of a statement that is read holds of all
  pub read_by : (words : List (List ℕ)) → ((rest : List (List ℕ)) → P (hostname_role rest)) → ((rest : List (List ℕ)) → P (interface_role rest)) → P (Within topics.Statics)
      → ((rest : List (List ℕ)) → P (said_role topics.List (list_name_says rest))) → ((rest : List (List ℕ)) → P (said_role topics.Communities (community_name_says rest))) → ((speaks : Bool) → P (filter_role speaks))
      → P (said_role topics.Process (process_header_says words)) → P (said_role (λ h. topics.Clause h.map_name h.number) (header_says words)) → P (read_role words)
  unfolding read_role
  read_by words hostname interface statics list communities filters process clause =
      either hostname_role (after (codes "hostname" ∷ []) words) _ hostname
      (either interface_role (after (codes "interface" ∷ []) words) _ interface
      (either (λ rest. Within topics.Statics) (after (codes "ip" ∷ codes "route" ∷ []) words) _ (λ rest. statics)
      (either (λ rest. said_role topics.List (list_name_says rest)) (after (codes "ip" ∷ codes "prefix-list" ∷ []) words) _ list
      (either (λ rest. said_role topics.Communities (community_name_says rest)) (after (codes "ip" ∷ codes "community-list" ∷ []) words) _ communities
      (either (λ rest. filter_role (opens_list rest)) (after (codes "ip" ∷ codes "access-list" ∷ []) words) _ (λ rest. filters (opens_list rest))
      (either (λ rest. filter_role (begins_entry rest)) (after (codes "access-list" ∷ []) words) _ (λ rest. filters (begins_entry rest))
      (either (λ rest. said_role topics.Process (process_header_says words)) (after (codes "router" ∷ []) words) _ (λ rest. process) clause)))))))

-- ---- what speaks of no topic, or of none but those of its own kind

pub no_hostname : {P : Type 0} (topic : Topic) (words : List (List ℕ)) → hostname_role words ≡ Within topic → P
no_hostname topic [] e = absurd cc
no_hostname {P} topic (a ∷ []) e = cond_both (is_name a) (Names a) (Wrong Syntax) (λ (r : Role). r ≡ Within topic → P) (λ _ e. absurd cc) (λ _ e. absurd cc) e
no_hostname topic (a ∷ b ∷ words) e = absurd cc

pub no_interface : {P : Type 0} (topic : Topic) → ((name : List ℕ) → topics.Interface name ≡ topic → ⊥) → (words : List (List ℕ)) → interface_role words ≡ Within topic → P
no_interface topic other [] e = absurd cc
no_interface topic other (a ∷ words) e = absurd (other a cc)

pub no_filter : {P : Type 0} (own : Topic) → (topics.Filters ≡ own → ⊥) → (speaks : Bool) → filter_role speaks ≡ Within own → P
no_filter own other true e = absurd (other cc)
no_filter own other false e = absurd cc

pub no_said : {S P : Type 0} (topic : S → Topic) (own : Topic) → ((s : S) → topic s ≡ own → ⊥) → (r : Reading S) → said_role topic r ≡ Within own → P
no_said topic own other Outside e = absurd cc
no_said topic own other (Faulty cause) e = absurd cc
no_said topic own other (Says s) e = absurd (other s cc)

-- a header is a statement that is read
pub header_read : {P : Type 0} (topic : Topic) (words : List (List ℕ)) → (read_role words ≡ Within topic → P) → header_role words ≡ Within topic → P
header_read {P} topic words to = cond_both (is_unsupported words) (Wrong Unsupported) (read_role words) (λ (r : Role). r ≡ Within topic → P) (λ _ e. absurd cc) (λ _. to)
