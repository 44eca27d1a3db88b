-- What is known of a message that is sent, and of one that is accepted, by the ends of its session.
use Rattle.std.proofs.Common.{◌≡◌, ℕ, Bool, true, false, cond, not, ◌||◌, List, [], ◌∷◌, ◌++◌, append_assoc, Option, Some, None, refl, sym, ap, ◌∙◌}
use Rattle.std.specs.Option.{is_some, option_and_then, option_map_or}
use Rattle.nc_types.specs.Cidr.{Cidr}
use Rattle.nc_types.specs.declared.addr.Addr.{Addr}
use Rattle.nc_types.specs.declared.config.Reference.{Reference}
use Rattle.nc_types.specs.declared.config.RouterId.{RouterId}
use Rattle.nc_tables.specs.declared.bgp.Chosen.{Chosen as ChosenRoute}
use Rattle.nc_tables.specs.declared.bgp.Route.{Route}
use Rattle.nc_tables.specs.Choice.{is_learnt}
use Rattle.nc_tables.specs.Rounds.{Link, Passed, Message as SentMessage, Accepted, accepted_of as accepted_from, accepted_at, best_at, carried, link_at, message_at, message_of as sent_of, out_of, outgoing, passed, sent_inside, sent_outside, sent_over}
use Rattle.nc_tables.specs.State.{StateView}
use Rattle.nc_fact.specs.declared.fact.Fact.{Fact}
use Rattle.nc_fact.specs.declared.fact.Fact.TheVariants.{Session, Message, Entry, Chosen, Resolve}
use Rattle.nc_fact.specs.Accepting.{accepted_by}
use Rattle.nc_fact.specs.Facts.{accepted_of, holds, message_of}
use Rattle.nc_rules_route.specs.Parents.{entry_parents, message_parents, of_out, of_passed}
use Rattle.nc_rules_route.proofs.SentRoutes.{entry_is, message_is}

module _ (s : StateView) where
  -- a fact that holds
  pub message_sent : (f : Fact) (router : RouterId) (place : ℕ) (prefix : Cidr) → f ≡ Message router place prefix → holds s f ≡ true → is_some (message_of s router.0 place prefix) ≡ true
  unfolding holds
  message_sent f router place prefix is h = ap (holds s) (sym is) ∙ h

  pub entry_accepted : (f : Fact) (router : RouterId) (place : ℕ) (prefix : Cidr) → f ≡ Entry router place prefix → holds s f ≡ true → is_some (accepted_of s router.0 place prefix) ≡ true
  unfolding holds
  entry_accepted f router place prefix is h = ap (holds s) (sym is) ∙ h

  -- without a map no element is named
  pub no_map_out : (k : Link) (prefix : Cidr) → k.sender.statement.map_out ≡ None → of_out s k prefix ≡ []
  no_map_out k prefix none = on (best_at s.bgp k.session.peer.0 prefix)
    where
      on : (o : Option ChosenRoute) → option_map_or (λ (out : Passed). of_passed s k.session.peer.0 out.clause out.names) (option_and_then (out_of k) o) [] ≡ []
      on None = refl
      on (Some b) = ap (λ (m : Option Reference). option_map_or (λ (out : Passed). of_passed s k.session.peer.0 out.clause out.names) (passed k.sender.config m (outgoing k.session.internal b.route)) []) none

  -- nothing is sent without the ends of a session
  pub no_message : (router : RouterId) (place : ℕ) (prefix : Cidr) → None ≡ link_at s.routers s.sessions router.0 place → [] ≡ option_map_or (message_parents s router place prefix) (message_of s router.0 place prefix) []
  unfolding message_at
  no_message router place prefix none =
      ap (λ (o : Option Link). option_map_or (message_parents s router place prefix) (option_and_then (λ (k : Link). option_and_then (sent_of k) (best_at s.bgp k.session.peer.0 prefix)) o) []) none

  pub no_entry : (router : RouterId) (place : ℕ) (prefix : Cidr) → None ≡ link_at s.routers s.sessions router.0 place → [] ≡ option_map_or (entry_parents s router place prefix) (accepted_of s router.0 place prefix) []
  unfolding accepted_at message_at
  no_entry router place prefix none =
      ap (λ (o : Option Link). option_map_or (entry_parents s router place prefix) (option_and_then (accepted_from s.base router.0) (option_and_then (λ (k : Link). option_and_then (sent_of k) (best_at s.bgp k.session.peer.0 prefix)) o)) []) none

  module _ (router : RouterId) (place : ℕ) (prefix : Cidr) (k : Link) (ends : Some k ≡ link_at s.routers s.sessions router.0 place) where
    -- the session's ends are those of a message
    same_link : (l : Link) → link_at s.routers s.sessions router.0 place ≡ Some l → k ≡ l
    same_link l at = let both : Some k ≡ Some l = ends ∙ at in cc

    pub message_rests : is_some (message_of s router.0 place prefix) ≡ true
        → Session router place ∷ Chosen k.session.peer prefix 0 ∷ of_out s k prefix ≡ option_map_or (message_parents s router place prefix) (message_of s router.0 place prefix) []
    message_rests sent = on (message_of s router.0 place prefix) refl sent
      where
        on : (o : Option SentMessage) → message_of s router.0 place prefix ≡ o → is_some o ≡ true
            → Session router place ∷ Chosen k.session.peer prefix 0 ∷ of_out s k prefix ≡ option_map_or (message_parents s router place prefix) o []
        on None at some = absurd cc
        on (Some m) at some =
            let is = message_is s.routers s.base s.sessions s.bgp router.0 place prefix m at in
            let same : k ≡ m.link = same_link m.link is.link in
            let out : option_and_then (out_of m.link) (best_at s.bgp m.link.session.peer.0 prefix) ≡ Some m.out = ap (option_and_then (out_of m.link)) is.best ∙ is.sent.out in
            ap (λ (l : Link). Session router place ∷ Chosen l.session.peer prefix 0 ∷ of_out s l prefix) same
            ∙ ap (λ (p : Option Passed). Session router place ∷ Chosen m.link.session.peer prefix 0 ∷ option_map_or (λ (q : Passed). of_passed s m.link.session.peer.0 q.clause q.names) p []) out

    -- what is accepted over the session is what is accepted
    pub accepted_same : accepted_by s router.0 k prefix ≡ accepted_of s router.0 place prefix
    unfolding accepted_at message_at
    accepted_same = ap (λ (o : Option Link). option_and_then (accepted_from s.base router.0) (option_and_then (λ (l : Link). option_and_then (sent_of l) (best_at s.bgp l.session.peer.0 prefix)) o)) ends

    -- from another system, the sender is the next hop
    outside_hop : (l : Link) (b : ChosenRoute) (r : Route) → l.session.internal ≡ false → (sent_over l b r).next_hop ≡ record { 0 = l.source }
    outside_hop l b r outside =
        ap (λ (t : Bool). (cond t (sent_inside l.source (l.sender.statement.self_hop || not (is_learnt b.from)) (carried l.sender.statement.send_community r)) (sent_outside l.sender.process.asn l.source (carried l.sender.statement.send_community r))).next_hop) outside

    -- without a map the session alone tells them
    pub entry_plain : k.session.internal ≡ false → k.receiver.statement.map_in ≡ None → is_some (accepted_of s router.0 place prefix) ≡ true
        → Message router place prefix ∷ Resolve router (record { 0 = k.source }) ∷ [] ≡ option_map_or (entry_parents s router place prefix) (accepted_of s router.0 place prefix) []
    entry_plain outside none taken = on (accepted_of s router.0 place prefix) refl taken
      where
        on : (o : Option Accepted) → accepted_of s router.0 place prefix ≡ o → is_some o ≡ true
            → Message router place prefix ∷ Resolve router (record { 0 = k.source }) ∷ [] ≡ option_map_or (entry_parents s router place prefix) o []
        on None at some = absurd cc
        on (Some a) at some =
            let is = entry_is s.routers s.base s.sessions s.bgp router.0 place prefix a at in
            let sent = message_is s.routers s.base s.sessions s.bgp router.0 place prefix a.message is.message in
            let same : k ≡ a.message.link = same_link a.message.link sent.link in
            let apart : a.message.link.session.internal ≡ false = ap (λ (l : Link). l.session.internal) (sym same) ∙ outside in
            let mapless : a.message.link.receiver.statement.map_in ≡ None = ap (λ (l : Link). l.receiver.statement.map_in) (sym same) ∙ none in
            let hop : a.message.route.next_hop ≡ record { 0 = a.message.link.source } = ap (λ (r : Route). r.next_hop) sent.sent.route ∙ outside_hop a.message.link a.message.best a.message.out.route apart in
            let plain : passed a.message.link.receiver.config None a.message.route ≡ Some a.into = ap (λ (m : Option Reference). passed a.message.link.receiver.config m a.message.route) (sym mapless) ∙ is.accepted.into in
            ap (λ (l : Link). Message router place prefix ∷ Resolve router (record { 0 = l.source }) ∷ []) same
            ∙ ap (λ (h : Addr). Message router place prefix ∷ Resolve router h ∷ []) (sym hop)
            ∙ ap (λ (p : Option Passed). Message router place prefix ∷ Resolve router a.message.route.next_hop ∷ option_map_or (λ (q : Passed). of_passed s router.0 q.clause q.names) p []) plain

    -- what is appended in turn are the parents
    pub message_passed : is_some (message_of s router.0 place prefix) ≡ true → (old two : List Fact) → two ≡ old ++ Session router place ∷ Chosen k.session.peer prefix 0 ∷ []
        → two ++ of_out s k prefix ≡ old ++ option_map_or (message_parents s router place prefix) (message_of s router.0 place prefix) []
    message_passed sent old two to_two =
        ap (λ (fs : List Fact). fs ++ of_out s k prefix) to_two ∙ append_assoc old (Session router place ∷ Chosen k.session.peer prefix 0 ∷ []) (of_out s k prefix)
        ∙ ap (λ (fs : List Fact). old ++ fs) (message_rests sent)

    pub entry_passed : (a : Accepted) → Some a ≡ accepted_by s router.0 k prefix → (hop : Addr) → hop ≡ a.message.route.next_hop → (old heard : List Fact) → heard ≡ old ++ Message router place prefix ∷ Resolve router hop ∷ []
        → heard ++ of_passed s router.0 a.into.clause a.into.names ≡ old ++ option_map_or (entry_parents s router place prefix) (accepted_of s router.0 place prefix) []
    entry_passed a over hop is old heard to_heard =
        let rest = of_passed s router.0 a.into.clause a.into.names in
        ap (λ (fs : List Fact). fs ++ rest) to_heard ∙ append_assoc old (Message router place prefix ∷ Resolve router hop ∷ []) rest
        ∙ ap (λ (h : Addr). old ++ Message router place prefix ∷ Resolve router h ∷ rest) is
        ∙ ap (λ (o : Option Accepted). old ++ option_map_or (entry_parents s router place prefix) o []) (over ∙ accepted_same)

    -- what is accepted is accepted over the session
    pub accepted_over : is_some (accepted_of s router.0 place prefix) ≡ true → None ≡ accepted_by s router.0 k prefix → ⊥
    accepted_over taken none = let nothing : false ≡ true = ap (λ (o : Option Accepted). is_some o) (none ∙ accepted_same) ∙ taken in cc
