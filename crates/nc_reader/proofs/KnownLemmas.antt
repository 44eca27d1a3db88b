-- What a line is that begins as the frequent statements do.
use Rattle.std.proofs.Common.{◌≡◌, ℕ, true, false, List, [], ◌∷◌, ◌++◌, refl, ap, ◌∙◌, codes}
use Rattle.nc_lines.specs.Lines.{is_indented, words_of}
use Rattle.nc_read_policy.specs.Lists.{list_name_says}
use Rattle.nc_read_policy.proofs.HeadLemmas.{words_append}
use Rattle.nc_reader.specs.declared.topic.Topic.TheVariants as topics
use Rattle.nc_reader.specs.Roles.{Within, said_role, is_unsupported, read_role, header_role}
use Rattle.nc_reader.specs.Steps.{Heads, kind_of}
use Rattle.nc_reader.proofs.RoleLemmas.{kind_by, by_words}

-- what a line is that begins with these words, with a gap behind them
headed_by : (line head rest : List ℕ) (words : List (List ℕ)) (later : List (List ℕ)) → words_of head ≡ words → line ≡ head ++ rest → is_indented rest ≡ true
    → kind_of false line later ≡ kind_by (head ++ rest) later (is_indented (head ++ rest)) (words ++ words_of rest)
headed_by line head rest words later is whole gap =
    ap (λ (l : List ℕ). kind_of false l later) whole ∙ by_words (head ++ rest) later
    ∙ ap (kind_by (head ++ rest) later (is_indented (head ++ rest))) (words_append head rest gap ∙ ap (λ (ws : List (List ℕ)). ws ++ words_of rest) is)

list_words : words_of (codes "ip prefix-list") ≡ codes "ip" ∷ codes "prefix-list" ∷ []
unfolding words_of
list_words = refl

interface_words : words_of (codes "interface") ≡ codes "interface" ∷ []
unfolding words_of
interface_words = refl

route_words : words_of (codes "ip route") ≡ codes "ip" ∷ codes "route" ∷ []
unfolding words_of
route_words = refl

pub list_line : (line rest : List ℕ) (later : List (List ℕ)) → line ≡ codes "ip prefix-list" ++ rest → is_indented rest ≡ true → kind_of false line later ≡ Heads (said_role topics.List (list_name_says (words_of rest)))
unfolding is_unsupported read_role
list_line line rest later whole gap = headed_by line (codes "ip prefix-list") rest (codes "ip" ∷ codes "prefix-list" ∷ []) later list_words whole gap

pub interface_line : (line rest : List ℕ) (later : List (List ℕ)) → line ≡ codes "interface" ++ rest → is_indented rest ≡ true → kind_of false line later ≡ Heads (header_role (codes "interface" ∷ words_of rest))
interface_line line rest later whole gap = headed_by line (codes "interface") rest (codes "interface" ∷ []) later interface_words whole gap

pub route_line : (line rest : List ℕ) (later : List (List ℕ)) → line ≡ codes "ip route" ++ rest → is_indented rest ≡ true → kind_of false line later ≡ Heads (Within topics.Statics)
unfolding is_unsupported read_role
route_line line rest later whole gap = headed_by line (codes "ip route") rest (codes "ip" ∷ codes "route" ∷ []) later route_words whole gap
