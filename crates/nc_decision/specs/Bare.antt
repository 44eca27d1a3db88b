-- A session from another system on whose way nothing stands, and what is learnt over it.
use Rattle.std.specs.Prelude.{◌≡◌, ℕ, false, true, nat_lt, ◌==◌, List, [], ◌∷◌, length, None, if◌then◌else◌}
use Rattle.nc_types.specs.declared.TheConstants.{DEFAULT_PREFERENCE}
use Rattle.nc_tables.specs.declared.base.BaseRow.{BaseRow}
use Rattle.nc_tables.specs.declared.bgp.BgpFrom.TheVariants.{Entry}
use Rattle.nc_tables.specs.declared.bgp.Chosen.{Chosen}
use Rattle.nc_tables.specs.Base.{is_own}
use Rattle.nc_tables.specs.Reach.{hits}
use Rattle.nc_tables.specs.Rounds.{Link}
use Rattle.nc_tables.specs.Sessions.{router_id}
use Rattle.nc_decision.specs.declared.peerings.Bare.{Bare}

-- it leads from another system, whose number isn't the receiver's; no aggregate of the sender holds a prefix back, and neither end has a map for it
pub record IsPlain (k : Link) : Type 0 where
  pub outside : k.session.internal ≡ false
  pub systems : (k.sender.process.asn == k.receiver.process.asn) ≡ false
  pub aggregates : k.sender.process.aggregates ≡ []
  pub map_out : k.sender.statement.map_out ≡ None
  pub map_in : k.receiver.statement.map_in ≡ None

-- so it is with this session to a router, and the address from which its sender starts isn't the receiver's own and can be reached; the numbers
-- are those of its ends
pub record IsBare (tables : List (List BaseRow)) (router : ℕ) (k : Link) (b : Bare) : Type 0 where
  pub plain : IsPlain k
  pub receiver : b.receiver ≡ k.receiver.process.asn
  pub sender : b.sender ≡ k.sender.process.asn
  pub carries : b.carries ≡ k.sender.statement.send_community
  pub id : b.sender_id.0 ≡ router_id k.sender.config
  pub addr : b.sender_addr ≡ k.receiver.statement.addr
  pub source : b.source.0 ≡ k.source
  pub own : is_own k.receiver.config.interfaces k.source ≡ false
  pub reached : nat_lt 0 (length (hits tables router k.source)) ≡ true

-- the candidate that is learnt over it of the peer's best candidate, by the neighbor statement at a place: with the sender's number before the
-- path and the sender as the next hop, as what comes from another system begins anew
abbrev pub bare_from : ℕ → Bare → Chosen → Chosen
bare_from place b best =
    record {
      route = record {
        prefix = best.route.prefix;
        path = b.sender ∷ best.route.path;
        next_hop = b.source;
        preference = DEFAULT_PREFERENCE;
        metric = 0;
        origin = best.route.origin;
        communities = if b.carries then best.route.communities else [];
      };
      from = Entry place;
      internal = false;
      sender_id = b.sender_id;
      sender = b.sender_addr;
    }
