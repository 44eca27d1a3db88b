-- The process among the topics of a file.
use Rattle.std.proofs.Common.{◌≡◌, ℕ, List, ◌∷◌, Some, None, sym, ap}
use Rattle.nc_lines.specs.Parts.{first_of}
use Rattle.nc_lines.proofs.PartLemmas.{kept, passed}
use Rattle.nc_reader.specs.declared.topic.Topic.{Topic}
use Rattle.nc_reader.specs.Topics.{asn_in, process_among}

-- a topic in front of others that is a process, or isn't
pub here : (t : Topic) (ts : List Topic) (asn : ℕ) → Some asn ≡ asn_in t → Some asn ≡ process_among (t ∷ ts)
here t ts asn is = sym (ap (λ (ns : List ℕ). first_of ns) (kept asn_in t asn ts (sym is)))

pub later : (t : Topic) (ts : List Topic) → None ≡ asn_in t → process_among (t ∷ ts) ≡ process_among ts
later t ts other = ap (λ (ns : List ℕ). first_of ns) (passed asn_in t ts (sym other))
