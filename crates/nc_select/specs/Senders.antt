-- Who sent those candidates that are as good as the best.
use Rattle.std.specs.Prelude.{ℕ, Bool, List, map, filter}
use Rattle.nc_tables.specs.declared.bgp.Chosen.{Chosen}
use Rattle.nc_tables.specs.Choice.{Ranked, ranked_from, is_equal_to}
use Rattle.nc_select.specs.declared.choice.Sender.{Sender}

abbrev pub sender_of : Ranked → Sender
sender_of x = record { id = x.candidate.sender_id; address = x.candidate.sender; place = x.place }

-- the senders of candidates of which the first has this place
abbrev pub senders_from : Bool → Chosen → ℕ → List Chosen → List Sender
senders_from relax best place candidates = map sender_of (filter (λ x. is_equal_to relax best x.candidate) (ranked_from place candidates))
