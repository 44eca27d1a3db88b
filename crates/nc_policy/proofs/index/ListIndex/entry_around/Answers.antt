use Rattle.std.proofs.Common.{◌≡◌, ◌<◌, ◌≤◌, ℕ, ap, sym, ◌∙◌, arith}
use Rattle.nc_types.specs.Cidr.{Cidr}
use Rattle.nc_types.specs.Masks.{network_of}
use Rattle.nc_policy.specs.declared.spot_table.Spot.{Spot}
use Rattle.nc_policy.specs.Placing.{place_at}
use Rattle.nc_policy.specs.Seen.{spot_at}
use Rattle.nc_policy.proofs.Spots.{no_entry_around, spot_seen}
use Rattle.nc_policy.proofs.index.ListIndex.entry_around.Goals as goal

pub returns-then-not-self-len : goal.returns-then-not-self-len
returns-then-not-self-len c = record {
  entry = λ entries is.
      let p = c.args.prefix in
      no_entry_around c.args.self.now.lengths (network_of p.base c.args.len) c.args.len p.len entries c.if-not-self-len.true is.lengths;
}

pub returns : goal.returns
returns c = record {
  entry = λ entries is.
      let p = c.args.prefix in
      let around : Cidr = record { base = network_of p.base c.args.len; len = c.args.len } in
      let first = c.args.self.now.first in
      let few : p.len < 33 = (let w : p.len ≤ 32 = c.len.ensures.valid.within in omega arith) in
      let same : c.around-around.result ≡ around = c.around-around.ensures ∙ ap (λ (n : ℕ). record { base = network_of n c.args.len; len = c.args.len }) c.addr.ensures.base in
      let spot : c.spot_of.result ≡ spot_at around p.len = c.spot_of.ensures.spot ∙ ap (λ (q : Cidr). spot_at q c.len.result) same ∙ ap (spot_at around) c.len.ensures.len in
      c.get.ensures ∙ ap (λ (s : Spot). place_at s first) spot ∙ sym (spot_seen first around p.len) ∙ is.answers around p.len few;
}
