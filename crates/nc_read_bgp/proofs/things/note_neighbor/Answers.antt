use Rattle.std.proofs.Common.{List, ap, ◌∙◌, sym}
use Rattle.indexmap.specs.IndexMap.{IndexMap, insert_entry}
use Rattle.nc_types.specs.declared.addr.Addr.{Addr}
use Rattle.nc_read_bgp.specs.declared.neighbor_draft.NeighborDraft.{NeighborDraft}
use Rattle.nc_read_bgp.specs.Readings.{neighbor_view}
use Rattle.nc_read_bgp.specs.Neighbors.{NeighborFields}
use Rattle.nc_read_bgp.specs.Steps.{no_neighbor, neighbor_with}
use Rattle.nc_read_bgp.specs.Processes.{same_addr}
use Rattle.nc_read_bgp.specs.Drafts.{neighbor_fields, neighbors_of}
use Rattle.nc_read_bgp.proofs.KeptLemmas.{put_known, put_new}
use Rattle.nc_read_bgp.proofs.things.note_neighbor.Goals as goal

pub returns-in-Some : goal.returns-in-Some
returns-in-Some c =
    let with = λ (f : NeighborFields). neighbor_with f c.args.line (neighbor_view c.args.says.now) in
    ap neighbors_of (c.get_mut.follows.holds c.take.new.self).0
    ∙ put_known same_addr neighbor_fields c.args.addr no_neighbor with c.args.neighbors.now.entries c.in-Some.draft.now c.take.new.self (sym c.in-Some.ensures.value) c.in_ok-take.ensures

pub returns : goal.returns
returns c =
    let with = λ (f : NeighborFields). neighbor_with f c.args.line (neighbor_view c.args.says.now) in
    ap neighbors_of c.in_ok-insert.ensures.entries
    ∙ ap (λ (es : List (Addr × NeighborDraft)). neighbors_of (insert_entry same_addr es c.args.addr c.take-2.new.self)) (ap (λ (m : IndexMap Addr NeighborDraft _). m.entries) c.get_mut.follows.holds-at-none)
    ∙ put_new same_addr neighbor_fields c.args.addr no_neighbor with c.args.neighbors.now.entries c.take-2.new.self (sym c.in_default.ensures.value)
    (c.in_ok-take-2.ensures ∙ ap with c.new-draft.ensures)
