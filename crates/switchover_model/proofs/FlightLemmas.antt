-- The octets of what is told, and what stands in front of the first of them.
use Rattle.std.proofs.Common.{◌≡◌, ◌<◌, ◌≤◌, ◌+◌, ◌^◌, ◌++◌, ◌∙◌, ◌⊎◌, ℕ, Bool, true, false, List, [], ◌∷◌, Option, Some, None, length, slice_get, if◌then◌else◌, refl, sym, ap, subst, arith, append_assoc, inl, inr, ⊎_elim}
use Rattle.net_values.proofs.RowLemmas.{row_holds, front_empty, front_heads, front_tails, join_front}
use Rattle.net_base.specs.declared.plan.Plan.{Plan}
use Rattle.net_base.specs.declared.plan.edge_plan.EdgePlan.{EdgePlan}
use Rattle.net_base.specs.declared.plan.offer.Offer.{Offer}
use Rattle.net_base.specs.declared.plan.wire_plan.WirePlan.{WirePlan}
use Rattle.net_base.specs.plan.Accepted.{IsChecked, IsWireOf}
use Rattle.net_base.specs.plan.Paths.{is_first, offer_of}
use Rattle.pw_tlvs.specs.Fec.{no_params}
use Rattle.pw_tlvs.specs.Written.{control_and_kind, information, writable_fec, written_fec}
use Rattle.ldp_grammar.specs.declared.message.Message.{Message}
use Rattle.ldp_grammar.specs.Octets.{two, four}
use Rattle.ldp_grammar.specs.Spells.{Spells}
use Rattle.ldp_grammar.specs.Written.{Fits, IsId, message_octets, writable, written}
use Rattle.ldp_grammar.proofs.OctetLemmas.{AreOctets, octet_front, octets_before}
use Rattle.ldp_grammar.proofs.RoundTripLemmas.{written_is_read}
use Rattle.ldp_grammar.proofs.ShortLemmas.{written_is_short}
use Rattle.ldp_grammar.proofs.WrittenOctets.{four_octets, no_octets, octets_append, status_are, two_octets, written_are}
use Rattle.ldp_stream.specs.FrontOf.{More, Got, front_of}
use Rattle.ldp_stream.proofs.FrontOfLemmas.{front_is_read}
use Rattle.ldp_stream.proofs.CommonLemmas.{none_front}
use Rattle.pw_messages.specs.Content.{bare_fec_of, content_of, ethernet_raw, ethernet_tagged, pw_status_notice}
use Rattle.pw_messages.specs.Sender.{platform_of}
use Rattle.status_exchange.specs.declared.wish.Wish.{Wish}
use Rattle.status_exchange.specs.declared.wish.Wish.TheVariants.{Active, Standby, Ask}
use Rattle.status_exchange.specs.Exchange.{StatusMessage}
use Rattle.status_exchange.specs.Wish.{status_of}
use Rattle.switchover_model.specs.After.{octets_of_messages}
use Rattle.switchover_model.specs.Laws.{HasGroups, HasSwitchTypes, IsRouter}
use Rattle.independent_model.specs.Tell.{notification, octets_by, octets_on}

-- ---- one message

status_small : (wish : Wish) → (status_of wish).0 < 2 ^ 32
status_small Active = omega arith
status_small Standby = omega arith
status_small Ask = omega arith

-- what is told can be written, is short, and is octets
pub record IsReady (m : Message) (edge : EdgePlan) : Type 0 where
  pub can : writable m ≡ true
  pub fits : Fits m
  pub short : 6 + length (message_octets m) ≤ 256
  pub octets : AreOctets (written m (platform_of edge.address))
  pub is_id : IsId (platform_of edge.address)

bare_octets : (pw_id : ℕ) (offer : Offer) → AreOctets (written_fec (bare_fec_of pw_id (content_of offer None)))
bare_octets pw_id offer =
    let fec = bare_fec_of pw_id (content_of offer None) in
    let inner = information (Some pw_id) no_params in
    octet_front 0x80 (two (control_and_kind fec.c fec.kind) ++ (length inner ∷ (four fec.group ++ inner))) (omega arith)
    (octets_append (two (control_and_kind fec.c fec.kind)) (length inner ∷ (four fec.group ++ inner)) (two_octets (control_and_kind fec.c fec.kind))
    (octet_front (length inner) (four fec.group ++ inner) (omega arith) (octets_append (four fec.group) inner (four_octets fec.group) (octets_append (four pw_id) [] (four_octets pw_id) no_octets))))

bare_writable : (pw_id : ℕ) (offer : Offer) → writable_fec (bare_fec_of pw_id (content_of offer None)) ≡ true
bare_writable pw_id offer = by offer.tagged
  where
    by : (tagged : Bool) → writable_fec (record { c = offer.cword; kind = if tagged then ethernet_tagged else ethernet_raw; group = offer.group; pw_id = Some pw_id; params = no_params }) ≡ true
    by true = refl
    by false = refl

pub ready : (edge : EdgePlan) (row : WirePlan) (me : ℕ) (wish : Wish) (id : ℕ) → IsRouter edge → id < 2 ^ 32 → row.pw_id < 2 ^ 32 → (offer_of row me).group < 2 ^ 32
    → IsReady (notification row me wish id) edge
ready edge row me wish id router small named group = record {
  can = can;
  fits = fits;
  short = written_is_short (notification row me wish id) fits refl (omega arith);
  octets = written_are (notification row me wish id) (platform_of edge.address)
      (status_are pw_status_notice, (four_octets (status_of wish).0, (bare_octets row.pw_id (offer_of row me), tt))) router.octets;
  is_id = record { router = router.four; space = omega arith };
}
  where
    fits : Fits (notification row me wish id)
    fits = (small, omega arith, omega arith, status_small wish, record { group = group; pw_id = named; mtu = tt; description = omega arith })

    can : writable (notification row me wish id) ≡ true
    can = bare_writable row.pw_id (offer_of row me)

-- ---- what is told

-- a status that an edge has told: of a wire of the plan, with a number that fits
pub record IsTold (plan : Plan) (t : StatusMessage) : Type 0 where
  pub row : WirePlan
  pub row_is : slice_get plan.wires t.wire ≡ Some row
  pub small : t.id < 2 ^ 32

abbrev pub AreTold : Plan → List StatusMessage → Type 0
AreTold plan [] = Unit {0}
AreTold plan (t ∷ ts) = IsTold plan t × AreTold plan ts

abbrev pub octets_in_row : Plan → ℕ → StatusMessage → Option WirePlan → List ℕ
octets_in_row plan from t None = []
octets_in_row plan from t (Some row) = octets_on plan from row t.wish t.id

abbrev pub octets_told : Plan → ℕ → List StatusMessage → List ℕ
octets_told plan from [] = []
octets_told plan from (t ∷ ts) = octets_in_row plan from t (slice_get plan.wires t.wire) ++ octets_told plan from ts

pub told_both : (plan : Plan) (from : ℕ) (ts us : List StatusMessage) → octets_told plan from (ts ++ us) ≡ octets_told plan from ts ++ octets_told plan from us
told_both plan from [] us = refl
told_both plan from (t ∷ ts) us =
    ap (λ (l : List ℕ). octets_in_row plan from t (slice_get plan.wires t.wire) ++ l) (told_both plan from ts us)
    ∙ sym (append_assoc (octets_in_row plan from t (slice_get plan.wires t.wire)) (octets_told plan from ts) (octets_told plan from us))

pub are_both : (plan : Plan) (ts us : List StatusMessage) → AreTold plan ts → AreTold plan us → AreTold plan (ts ++ us)
are_both plan [] us one two = two
are_both plan (t ∷ ts) us one two = (one.0, are_both plan ts us one.1 two)

-- the messages
abbrev pub message_in_row : ℕ → StatusMessage → Option WirePlan → List Message
message_in_row from t None = []
message_in_row from t (Some row) = notification row from t.wish t.id ∷ []

abbrev pub messages_told : Plan → ℕ → List StatusMessage → List Message
messages_told plan from [] = []
messages_told plan from (t ∷ ts) = message_in_row from t (slice_get plan.wires t.wire) ++ messages_told plan from ts

pub messages_are : (plan : Plan) (from : ℕ) (ts : List StatusMessage) → octets_told plan from ts ≡ octets_of_messages plan from (messages_told plan from ts)
messages_are plan from [] = refl
messages_are plan from (t ∷ ts) = by (slice_get plan.wires t.wire) (messages_are plan from ts)
  where
    by : (o : Option WirePlan) → octets_told plan from ts ≡ octets_of_messages plan from (messages_told plan from ts) → octets_in_row plan from t o ++ octets_told plan from ts
        ≡ octets_of_messages plan from (message_in_row from t o ++ messages_told plan from ts)
    by None rest = rest
    by (Some row) rest = ap (λ (l : List ℕ). octets_on plan from row t.wish t.id ++ l) rest

-- ---- what stands in front

-- two ways to cut one list: the first part of the one is a proper front of the first part of the other, or it goes on
pub record IsProperFront (a b c d : List ℕ) : Type 0 where
  pub next : ℕ
  pub more : List ℕ
  pub whole : a ++ next ∷ more ≡ c
  pub rest : b ≡ next ∷ more ++ d

pub record GoesBehind (a b c d : List ℕ) : Type 0 where
  pub more : List ℕ
  pub whole : a ≡ c ++ more
  pub rest : more ++ b ≡ d

cut : (a b c d : List ℕ) → a ++ b ≡ c ++ d → IsProperFront a b c d ⊎ GoesBehind a b c d
cut [] b [] d e = inr (record { more = []; whole = refl; rest = e })
cut [] b (y ∷ c) d e = inl (record { next = y; more = c; whole = refl; rest = e })
cut (x ∷ a) b [] d e = inr (record { more = x ∷ a; whole = refl; rest = e })
cut (x ∷ a) b (y ∷ c) d e = ⊎_elim
    (λ (h : IsProperFront a b c d). inl (record { next = h.next; more = h.more; whole = join_front x y (a ++ h.next ∷ h.more) c (front_heads x y a b c d e) h.whole; rest = h.rest }))
    (λ (h : GoesBehind a b c d). inr (record { more = h.more; whole = join_front x y a (c ++ h.more) (front_heads x y a b c d e) h.whole; rest = h.rest }))
    (cut a b c d (front_tails x y a b c d e))

module _ (plan : Plan) (checked : IsChecked plan) (types : HasSwitchTypes plan) (from : ℕ) (edge : EdgePlan) (place : slice_get plan.edges from ≡ Some edge) where
  group_small : (row : WirePlan) → HasGroups row → (offer_of row from).group < 2 ^ 32
  group_small row groups = by (is_first from row.path)
    where
      by : (b : Bool) → (if b then row.near else row.far).group < 2 ^ 32
      by true = groups.near
      by false = groups.far

  told_ready : (t : StatusMessage) → (told : IsTold plan t) → IsReady (notification told.row from t.wish t.id) edge
  told_ready t told = ready edge told.row from t.wish t.id (row_holds IsRouter plan.edges from edge place types.routers) told.small
      (omega (arith, (row_holds (IsWireOf plan) plan.wires t.wire told.row told.row_is checked.wires).pw_id.1))
      (group_small told.row (row_holds HasGroups plan.wires t.wire told.row told.row_is types.groups))

  pub told_is : (t : StatusMessage) → (told : IsTold plan t) → octets_in_row plan from t (slice_get plan.wires t.wire) ≡ written (notification told.row from t.wish t.id) (platform_of edge.address)
  told_is t told = ap (octets_in_row plan from t) told.row_is ∙ ap (λ (o : Option EdgePlan). octets_by o (notification told.row from t.wish t.id)) place

  pub all_octets : (ts : List StatusMessage) → AreTold plan ts → AreOctets (octets_told plan from ts)
  all_octets [] all = no_octets
  all_octets (t ∷ ts) all = octets_append (octets_in_row plan from t (slice_get plan.wires t.wire)) (octets_told plan from ts)
      (subst AreOctets (sym (told_is t all.0)) (told_ready t all.0).octets) (all_octets ts all.1)

  -- what is told first stands in front, and behind it the first octets of the rest
  pub record HasNext (t : StatusMessage) (told : IsTold plan t) (ts : List StatusMessage) (x y : List ℕ) : Type 0 where
    pub rest : List ℕ
    pub front : front_of 4096 x ≡ Got (record { id = platform_of edge.address; messages = notification told.row from t.wish t.id ∷ [] }) rest
    pub behind : rest ++ y ≡ octets_told plan from ts
    pub split : x ≡ octets_in_row plan from t (slice_get plan.wires t.wire) ++ rest

  pub none_is : (x y : List ℕ) → x ++ y ≡ [] → front_of 4096 x ≡ More
  none_is x y e = ap (front_of 4096) (front_empty x y e) ∙ none_front

  pub front_is : (t : StatusMessage) (told : IsTold plan t) (ts : List StatusMessage) (x y : List ℕ) → AreTold plan ts → x ++ y ≡ octets_told plan from (t ∷ ts)
      → (front_of 4096 x ≡ More) ⊎ HasNext t told ts x y
  front_is t told ts x y all e = ⊎_elim part whole (cut x y (written m (platform_of edge.address)) (octets_told plan from ts) (e ∙ ap (λ (l : List ℕ). l ++ octets_told plan from ts) (told_is t told)))
    where
      m : Message
      m = notification told.row from t.wish t.id

      is_ready : IsReady m edge
      is_ready = told_ready t told

      short : 6 + length (message_octets m) ≤ 4096
      short = omega (arith, is_ready.short)

      spells : Spells (written m (platform_of edge.address)) 4096 (record { id = platform_of edge.address; messages = m ∷ [] })
      spells = written_is_read.read 4096 m (platform_of edge.address) (omega arith) is_ready.can is_ready.fits is_ready.is_id short

      octets : AreOctets x
      octets = octets_before x y (subst AreOctets (sym e) (all_octets (t ∷ ts) (told, all)))

      part : IsProperFront x y (written m (platform_of edge.address)) (octets_told plan from ts) → (front_of 4096 x ≡ More) ⊎ HasNext t told ts x y
      part h = inl (front_is_read.part 4096 (record { id = platform_of edge.address; messages = m ∷ [] }) x h.more h.next
          (subst AreOctets (sym h.whole) is_ready.octets) (omega arith) (subst (λ (l : List ℕ). Spells l 4096 (record { id = platform_of edge.address; messages = m ∷ [] })) (sym h.whole) spells))

      whole : GoesBehind x y (written m (platform_of edge.address)) (octets_told plan from ts) → (front_of 4096 x ≡ More) ⊎ HasNext t told ts x y
      whole h = inr (record {
        rest = h.more;
        front = ap (front_of 4096) h.whole
            ∙ front_is_read.written_first 4096 m (platform_of edge.address) h.more (subst AreOctets h.whole octets) (omega arith) is_ready.can is_ready.fits is_ready.is_id short;
        behind = h.rest;
        split = h.whole ∙ ap (λ (l : List ℕ). l ++ h.more) (sym (told_is t told));
      })
