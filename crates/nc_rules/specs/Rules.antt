-- The flow graph of a network: its facts, and from which each follows.
use mathlib.Core.Bool.{beq}
use Rattle.std.specs.Prelude.{Bool, false, ◌&&◌, ◌==◌}
use Rattle.nc_graph.specs.Flow.{Flow}
use Rattle.nc_tables.specs.Base.{same_prefix}
use Rattle.nc_tables.specs.State.{StateView}
use Rattle.nc_fact.specs.declared.fact.Fact.{Fact}
use Rattle.nc_fact.specs.declared.fact.Fact.TheVariants.{Element, Connected, Static, Base, Resolve, NetSource, Reach, Hop, Session, Origin, Contrib, Aggregate, Message, Entry, Chosen, Main, Step, Trace, AllStep, AllTrace, Pass, FlowStep, Flow as FlowFact}
use Rattle.nc_fact.specs.Facts.{holds, rank}
use Rattle.nc_rules_route.specs.Parents.{kind, parents}

-- whether two facts are one: by their kinds and their numbers
abbrev pub same_fact : Fact → Fact → Bool
same_fact (Element e) (Element f) = e.0 == f.0
same_fact (Connected r i) (Connected s j) = (r.0 == s.0) && (i.0 == j.0)
same_fact (Static r k) (Static s l) = (r.0 == s.0) && (k == l)
same_fact (Base r k) (Base s l) = (r.0 == s.0) && (k == l)
same_fact (Resolve r a) (Resolve s b) = (r.0 == s.0) && (a.0 == b.0)
same_fact (NetSource r p) (NetSource s q) = (r.0 == s.0) && same_prefix p q
same_fact (Reach r a m) (Reach s b n) = (r.0 == s.0) && ((a.0 == b.0) && (m == n))
same_fact (Hop r a k m) (Hop s b l n) = (r.0 == s.0) && ((a.0 == b.0) && ((k == l) && (m == n)))
same_fact (Session r k) (Session s l) = (r.0 == s.0) && (k == l)
same_fact (Origin r k) (Origin s l) = (r.0 == s.0) && (k == l)
same_fact (Contrib r k) (Contrib s l) = (r.0 == s.0) && (k == l)
same_fact (Aggregate r k) (Aggregate s l) = (r.0 == s.0) && (k == l)
same_fact (Message r k p) (Message s l q) = (r.0 == s.0) && ((k == l) && same_prefix p q)
same_fact (Entry r k p) (Entry s l q) = (r.0 == s.0) && ((k == l) && same_prefix p q)
same_fact (Chosen r p k) (Chosen s q l) = (r.0 == s.0) && (same_prefix p q && (k == l))
same_fact (Main r k) (Main s l) = (r.0 == s.0) && (k == l)
same_fact (Step r a k m) (Step s b l n) = (r.0 == s.0) && ((a.0 == b.0) && ((k == l) && (m == n)))
same_fact (Trace r a m) (Trace s b n) = (r.0 == s.0) && ((a.0 == b.0) && (m == n))
same_fact (AllStep r a k m) (AllStep s b l n) = (r.0 == s.0) && ((a.0 == b.0) && ((k == l) && (m == n)))
same_fact (AllTrace r a m) (AllTrace s b n) = (r.0 == s.0) && ((a.0 == b.0) && (m == n))
same_fact (Pass into r i a c) (Pass inward s j b d) = beq into inward && ((r.0 == s.0) && ((i.0 == j.0) && ((a.0 == b.0) && (c.0 == d.0))))
same_fact (FlowStep m r a c k) (FlowStep n s b d l) = (m == n) && ((r.0 == s.0) && ((a.0 == b.0) && ((c.0 == d.0) && (k == l))))
same_fact (FlowFact r a c m) (FlowFact s b d n) = (r.0 == s.0) && ((a.0 == b.0) && ((c.0 == d.0) && (m == n)))
same_fact f g = false

-- the flow graph of a state
unfoldable pub flow_of : StateView → Flow Fact
flow_of s = record { same = same_fact; holds = holds s; kind = kind; parents = parents s; rank = rank s }
