-- A wire of a quiet service carries frames exactly where it is sound, and used by its spoke edge if it is a spoke.
use Rattle.std.proofs.Common.{◌≡◌, ◌≤◌, ◌==◌, ◌&&◌, ◌||◌, ◌∙◌, arith, length, not, ℕ, Bool, true, false, cond, List, [], ◌∷◌, Option, Some, None, nat_eq, refl, sym, ap, subst}
use Rattle.net_values.proofs.BoolLemmas.{clash, first_holds, second_holds, or_later}
use Rattle.net_values.proofs.NumberLemmas.{equal_turned, same_number}
use Rattle.net_base.specs.declared.plan.Plan.{Plan}
use Rattle.net_base.specs.declared.plan.offer.Offer.{Offer}
use Rattle.net_base.specs.declared.plan.places.EdgeId.{EdgeId}
use Rattle.net_base.specs.declared.plan.places.ServiceId.{ServiceId}
use Rattle.net_base.specs.declared.plan.places.WireId.{WireId}
use Rattle.net_base.specs.declared.plan.wire_plan.WirePlan.{WirePlan}
use Rattle.net_base.specs.plan.Paths.{expected, follows, has_repeat, is_first, is_last, joins, mate_on}
use Rattle.net_base.specs.plan.Places.{is_mesh_class, wire_row}
use Rattle.net_base.specs.plan.Roles.{is_wire_of}
use Rattle.net_base.proofs.PathLemmas.{joins_turned, mate_joined}
use Rattle.pw_tlvs.specs.declared.pw_status.PwStatus.{PwStatus}
use Rattle.pw_signalling.specs.declared.binding.Binding.{Binding}
use Rattle.pw_signalling.specs.declared.end_role.EndRole.{EndRole}
use Rattle.pw_signalling.specs.declared.end_role.EndRole.TheVariants as role
use Rattle.pw_signalling.specs.declared.told.Told.{Told}
use Rattle.pw_signalling.specs.Down.{differ, down, fails_in, mtus_differ, stands_by}
use Rattle.pw_signalling.specs.End.{Advertised}
use Rattle.pw_signalling.proofs.LawLemmas.{forwards_where_both_agree}
use Rattle.pw_signalling.specs.Laws.{BothAgree}
use Rattle.spoke_redundancy.specs.Telling.{is_not_chosen}
use Rattle.edge_model.specs.EndPlaces.{is_terminal}
use Rattle.edge_model.specs.Ends.{end_forwards, is_up}
use Rattle.edge_model.specs.Role.{end_role_of, is_chosen}
use Rattle.network_model.specs.Calm.{carries, first_forwards, inner_stitched, is_joined_up, last_forwards}
use Rattle.network_model.specs.State.{NetworkState, stands}
use Rattle.network_model.proofs.GoalLemmas.{last_stands}
use Rattle.network_model.proofs.WayLemmas.{behind_first}
use Rattle.net_base.specs.declared.trace.down.Down.{Down}
use Rattle.flight_laws.specs.Laws.{BothStand}
use Rattle.flight_laws.specs.Rules.{TellsExpected}
use Rattle.settle_laws.specs.Laws.{HasLabels}
use Rattle.settle_laws.specs.Sound.{are_connected, do_agree, first_is_clear, is_clear, is_connected, is_on_along, is_sound, last_is_clear}
use Rattle.settle_laws.proofs.EndLemmas.{Fits, fits_up, up_fits}
use Rattle.flood_laws.proofs.MateLemmas.{Mates, OfEach, OfFirst, OfLast, from_first, mates_of}
use Rattle.settle_laws.proofs.PassingLemmas.{OfLastBack, back_from_last, last_of_each, on_from_first}
use Rattle.settle_laws.proofs.StatusLemmas.{IsStatusOf, clear_active, clear_whole}
use Rattle.settle_laws.proofs.StitchLemmas.{TellsSome, inner}
use Rattle.settle_laws.proofs.TerminalLemmas.{HasTold, clear_where_whole, forwards, forwards_is, status_of, tells}
use Rattle.settle_laws.proofs.WireLemmas.{HasSettled, TellsWith, connected_both, goes_back, goes_on, held_told, holds, offer_back, offer_on, on_here, row_is, stands_up, tells_expected, told_up, up_both}

-- ---- paths

pub first_joined : (x y : EdgeId) (rest : List EdgeId) → joins x.0 y.0 (x ∷ y ∷ rest) ≡ true
first_joined x y rest = rw (same_number x.0, same_number y.0) refl

last_joined : (x y : EdgeId) → joins y.0 x.0 (x ∷ y ∷ []) ≡ true
last_joined x y = sym (joins_turned (x ∷ y ∷ []) x.0 y.0) ∙ first_joined x y []

first_followed : (x y : EdgeId) (rest : List EdgeId) → follows (x ∷ y ∷ rest) x.0 y.0 ≡ true
first_followed x y rest = rw (same_number x.0, same_number y.0) refl

-- what the second path joins the first one does
abbrev IsWithin : List EdgeId → List EdgeId → Type 0
IsWithin whole part = (a b : ℕ) → joins a b part ≡ true → joins a b whole ≡ true

within_rest : (whole : List EdgeId) (x y : EdgeId) (rest : List EdgeId) → IsWithin whole (x ∷ y ∷ rest) → IsWithin whole (y ∷ rest)
within_rest whole x y rest within a b joined = within a b (or_later ((a == x.0 && b == y.0) || (b == x.0 && a == y.0)) joined)

-- something holds of each two neighbours, since something else does
each_map : (P Q : ℕ → ℕ → Type 0) (path : List EdgeId) → ((a b : ℕ) → P a b → Q a b) → OfEach P path → OfEach Q path
each_map P Q [] next all = tt
each_map P Q (last ∷ []) next all = tt
each_map P Q (first ∷ second ∷ rest) next all = (next first.0 second.0 all.0, each_map P Q (second ∷ rest) next all.1)

-- ---- offers and contents

-- contents that tell two offers agree as the offers do
pub record TellsOffer (offer : Offer) (told : Told) : Type 0 where
  pub c : told.c ≡ offer.cword
  pub kind : told.kind ≡ cond offer.tagged 4 5
  pub mtu : told.mtu ≡ offer.mtu

tells_offer : (plan : Plan) (row : WirePlan) (a b : ℕ) (told : Told) (offer : Offer) → TellsExpected plan row a b told → (expected plan row a b).offer ≡ offer → TellsOffer offer told
tells_offer plan row a b told offer tells is = record {
  c = ap (λ (t : Told). t.c) tells.content ∙ ap (λ (o : Offer). o.cword) is;
  kind = ap (λ (t : Told). t.kind) tells.content ∙ ap (λ (o : Offer). cond o.tagged 4 5) is;
  mtu = ap (λ (t : Told). t.mtu) tells.content ∙ ap (λ (o : Offer). o.mtu) is;
}

differ_turned : (a b : Bool) → differ a b ≡ differ b a
differ_turned true true = refl
differ_turned true false = refl
differ_turned false true = refl
differ_turned false false = refl

mtus_turned : (a b : Option ℕ) → mtus_differ a b ≡ mtus_differ b a
mtus_turned None None = refl
mtus_turned None (Some b) = refl
mtus_turned (Some a) None = refl
mtus_turned (Some a) (Some b) = ap (λ (t : Bool). not t) (equal_turned a b)

kinds_agree : (a b : Bool) → differ a b ≡ false → nat_eq (cond a 4 5) (cond b 4 5) ≡ true
kinds_agree true true same = refl
kinds_agree true false same = clash (sym same)
kinds_agree false true same = clash (sym same)
kinds_agree false false same = refl

modes_agree : (a b : Bool) → nat_eq (cond a 4 5) (cond b 4 5) ≡ true → differ a b ≡ false
modes_agree true true same = refl
modes_agree true false same = clash same
modes_agree false true same = clash same
modes_agree false false same = refl

not_true : (b : Bool) → not b ≡ true → b ≡ false
not_true true is = sym is
not_true false is = refl

-- the three tests of two offers
record Agree (one other : Offer) : Type 0 where
  words : differ one.cword other.cword ≡ false
  modes : differ one.tagged other.tagged ≡ false
  mtus : mtus_differ one.mtu other.mtu ≡ false

agree_of : (one other : Offer) → do_agree one other ≡ true → Agree one other
agree_of one other is =
    let rest = second_holds (not (differ one.cword other.cword)) (not (differ one.tagged other.tagged) && not (mtus_differ one.mtu other.mtu)) is in
    record {
      words = not_true (differ one.cword other.cword) (first_holds (not (differ one.cword other.cword)) (not (differ one.tagged other.tagged) && not (mtus_differ one.mtu other.mtu)) is);
      modes = not_true (differ one.tagged other.tagged) (first_holds (not (differ one.tagged other.tagged)) (not (mtus_differ one.mtu other.mtu)) rest);
      mtus = not_true (mtus_differ one.mtu other.mtu) (second_holds (not (differ one.tagged other.tagged)) (not (mtus_differ one.mtu other.mtu)) rest);
    }

agree_turned : (one other : Offer) → Agree one other → Agree other one
agree_turned one other agree = record {
  words = differ_turned other.cword one.cword ∙ agree.words;
  modes = differ_turned other.tagged one.tagged ∙ agree.modes;
  mtus = mtus_turned other.mtu one.mtu ∙ agree.mtus;
}

fits_from : (end : EndRole) (bits : ℕ) (one other : Offer) (own far : Told) → Agree one other → TellsOffer one own → TellsOffer other far → nat_eq bits 0 ≡ true → fails_in far.status ≡ false
    → stands_by end far.status ≡ false → Fits end bits own far
fits_from end bits one other own far agree mine theirs clear whole active = record {
  c_bits = rw (mine.c, theirs.c) agree.words;
  kinds = rw (mine.kind, theirs.kind) (kinds_agree one.tagged other.tagged agree.modes);
  mtus = rw (mine.mtu, theirs.mtu) agree.mtus;
  clear = clear;
  whole = whole;
  active = active;
}

do_agree_from : (end : EndRole) (bits : ℕ) (one other : Offer) (own far : Told) → TellsOffer one own → TellsOffer other far → Fits end bits own far → do_agree one other ≡ true
do_agree_from end bits one other own far mine theirs fits = rw (words, modes, mtus) refl where
  words : differ one.cword other.cword ≡ false
  words = rw (mine.c, theirs.c) at fits.c_bits

  modes : differ one.tagged other.tagged ≡ false
  modes = modes_agree one.tagged other.tagged (rw (mine.kind, theirs.kind) at fits.kinds)

  mtus : mtus_differ one.mtu other.mtu ≡ false
  mtus = rw (mine.mtu, theirs.mtu) at fits.mtus

-- ---- what the ends are to the service

mesh_role : (row : WirePlan) (e : EdgeId) (chosen : Bool) → is_mesh_class row.class ≡ true → end_role_of row e chosen ≡ role.Mesh
mesh_role row e chosen mesh = ap (λ (b : Bool). cond b role.Mesh (cond (is_last e.0 row.path) role.Core (cond chosen role.Chosen role.NotChosen))) mesh

chosen_role : (row : WirePlan) (e : EdgeId) (chosen : Bool) → is_mesh_class row.class ≡ false → is_last e.0 row.path ≡ false → chosen ≡ true → end_role_of row e chosen ≡ role.Chosen
chosen_role row e chosen spoke first is = rw (spoke, first, is) refl

core_role : (row : WirePlan) (e : EdgeId) (chosen : Bool) → is_mesh_class row.class ≡ false → is_last e.0 row.path ≡ true → end_role_of row e chosen ≡ role.Core
core_role row e chosen spoke last = rw (spoke, last) refl

-- an end that is no spoke that was left, and sees no standby bit but at a core edge
data IsActive (own other : EndRole) : Type 0 where
  BothMesh : own ≡ role.Mesh → other ≡ role.Mesh → IsActive own other
  OfSpoke : own ≡ role.Chosen → other ≡ role.Core → IsActive own other

active_far : (own other : EndRole) (bits : ℕ) (status : Option PwStatus) → IsActive own other → nat_eq bits 0 ≡ true → IsStatusOf bits (is_not_chosen own) status → stands_by other status ≡ false
active_far own other bits status (BothMesh mine theirs) clear is = ap (λ (r : EndRole). stands_by r status) theirs
active_far own other bits status (OfSpoke mine theirs) clear is =
    ap (λ (r : EndRole). stands_by r status) theirs ∙ clear_active bits status clear (subst (λ (r : EndRole). IsStatusOf bits (is_not_chosen r) status) mine is)

-- a mesh wire, or a spoke that its spoke edge has chosen
abbrev pub is_chosen_first : NetworkState → WireId → WirePlan → List EdgeId → Bool
is_chosen_first network wire row [] = false
is_chosen_first network wire row (first ∷ rest) = is_chosen (network.edges first.0).chosen wire row

abbrev pub is_taken : NetworkState → WireId → WirePlan → Bool
is_taken network wire row = is_mesh_class row.class || is_chosen_first network wire row row.path

-- the first edge of a path is not its last one
pub first_not_last : (x y : EdgeId) (rest : List EdgeId) → has_repeat (x ∷ y ∷ rest) ≡ false → is_last x.0 (y ∷ rest) ≡ false
first_not_last x y rest once = by (is_last x.0 (y ∷ rest)) refl where
  by : (b : Bool) → is_last x.0 (y ∷ rest) ≡ b → is_last x.0 (y ∷ rest) ≡ false
  by true at = clash (sym (behind_first x (y ∷ rest) x.0 once (last_stands (y ∷ rest) x.0 at)) ∙ same_number x.0)
  by false at = at

three : (a b c : Bool) → a ≡ true → b ≡ true → c ≡ true → (a && b) && c ≡ true
three a b c one two last = rw (one, two, last) refl

five : (a b c d e : Bool) → a ≡ true → b ≡ true → c ≡ true → d ≡ true → e ≡ true → (a && b) && ((c && d) && e) ≡ true
five a b c d e one two more rest last = rw (one, two, more, rest, last) refl

-- an edge leads to a neighbour: the wire is on at it, and the two are connected
record Leads (network : NetworkState) (wire : WireId) (a b : ℕ) : Type 0 where
  on : (network.edges a).wire_on wire.0 ≡ true
  connected : are_connected network a b ≡ true

connected_turned : (network : NetworkState) (a b : ℕ) → are_connected network a b ≡ true → are_connected network b a ≡ true
connected_turned network a b is = rw (second_holds (stands network a b) (stands network b a) is, first_holds (stands network a b) (stands network b a) is) refl

leads_on : (network : NetworkState) (wire : WireId) (path : List EdgeId) → is_on_along network wire.0 path ≡ true → is_connected network path ≡ true → OfEach (λ a b. Leads network wire a b) path
leads_on network wire [] on connected = tt
leads_on network wire (only ∷ []) on connected = tt
leads_on network wire (first ∷ next ∷ rest) on connected = (
  record {
    on = first_holds ((network.edges first.0).wire_on wire.0) (is_on_along network wire.0 (next ∷ rest)) on;
    connected = first_holds (are_connected network first.0 next.0) (is_connected network (next ∷ rest)) connected;
  },
  leads_on network wire (next ∷ rest) (second_holds ((network.edges first.0).wire_on wire.0) (is_on_along network wire.0 (next ∷ rest)) on)
      (second_holds (are_connected network first.0 next.0) (is_connected network (next ∷ rest)) connected),
)

leads_back : (network : NetworkState) (wire : WireId) (path : List EdgeId) → is_on_along network wire.0 path ≡ true → is_connected network path ≡ true → OfEach (λ a b. Leads network wire b a) path
leads_back network wire [] on connected = tt
leads_back network wire (only ∷ []) on connected = tt
leads_back network wire (first ∷ next ∷ rest) on connected =
    let later : is_on_along network wire.0 (next ∷ rest) ≡ true = second_holds ((network.edges first.0).wire_on wire.0) (is_on_along network wire.0 (next ∷ rest)) on in (
      record {
        on = first_holds ((network.edges next.0).wire_on wire.0) (is_on_along network wire.0 rest) later;
        connected = connected_turned network first.0 next.0 (first_holds (are_connected network first.0 next.0) (is_connected network (next ∷ rest)) connected);
      },
      leads_back network wire (next ∷ rest) later (second_holds (are_connected network first.0 next.0) (is_connected network (next ∷ rest)) connected),
    )

module _ (plan : Plan) (network : NetworkState) (service : ServiceId) (has : HasSettled plan network service) (wire : WireId) (row : WirePlan) (is : wire_row plan wire ≡ Some row) (ours : is_wire_of service row ≡ true) where
  once : has_repeat row.path ≡ false
  once = (row_is plan network service has wire row is ours).once

  mates : Mates (mate_on row.path) row.path
  mates = mates_of row.path once

  ends_last : (y : EdgeId) → is_last y.0 row.path ≡ true → is_terminal row y ≡ true
  ends_last y last = or_later (is_first y.0 row.path) last

  ends_first : (x : EdgeId) → is_first x.0 row.path ≡ true → is_terminal row x ≡ true
  ends_first x first = rw first refl

  abbrev Says : Option PwStatus → ℕ → ℕ → Type 0
  Says status a b = TellsWith network wire status a b

  -- what the end at an edge is
  abbrev role_of : EdgeId → EndRole
  role_of e = end_role_of row e (is_chosen (network.edges e.0).chosen wire row)

  offered : {status : Option PwStatus} (a b : ℕ) → joins a b row.path ≡ true → (tells : Says status a b) → TellsExpected plan row a b tells.content
  offered a b joined tells = tells_expected plan network service has wire row is ours a b joined tells.label tells.content tells.is

  -- ---- a sound wire carries frames

  -- the last edge of a part of the path tells the one before with a status that tells no failure
  record FarTold (path : List EdgeId) : Type 0 where
    status : Option PwStatus
    last : OfLastBack (Says status) path
    whole : fails_in status ≡ false

  module _ (labels : HasLabels plan network service) where
    on_further : (status : Option PwStatus) (x w y : EdgeId) → mate_on row.path x.0 w.0 ≡ Some y → Leads network wire x.0 y.0 → Says status w.0 x.0 → Says status x.0 y.0
    on_further status x w y mated leads told = goes_on plan network service has wire row is ours status x w y (labels wire row is ours x.0 y.0 (mate_joined row.path x.0 w.0 y mated)) leads.on leads.connected mated told

    far_told : (path : List EdgeId) → IsWithin row.path path → ((e : ℕ) → is_last e path ≡ true → is_last e row.path ≡ true) → is_on_along network wire.0 path ≡ true → is_connected network path ≡ true
        → last_is_clear network wire.0 path ≡ true → FarTold path
    far_told [] within ends on connected clear = record { status = None; last = tt; whole = refl }
    far_told (only ∷ []) within ends on connected clear = record { status = None; last = tt; whole = refl }
    far_told (a ∷ b ∷ []) within ends on connected clear =
        let joined : joins b.0 a.0 row.path ≡ true = within b.0 a.0 (last_joined a b) in
        let terminal : is_terminal row b ≡ true = ends_last b (ends b.0 (same_number b.0)) in
        let both : BothStand network b.0 a.0 =
        connected_both plan network service has wire row is ours b.0 a.0 joined (connected_turned network a.0 b.0 (first_holds (are_connected network a.0 b.0) true connected)) in
        let here : (network.edges b.0).wire_on wire.0 ≡ true =
        first_holds ((network.edges b.0).wire_on wire.0) true (second_holds ((network.edges a.0).wire_on wire.0) ((network.edges b.0).wire_on wire.0 && true) on) in
        let told : HasTold network wire b.0 a.0 =
        tells plan network service has wire row is ours b a joined terminal (labels wire row is ours b.0 a.0 joined) both here (stands_up plan network service has wire row is ours b.0 a.0 joined both) clear in
        record {
          status = told.content.status;
          last = record { label = told.label; content = told.content; is = told.is; status_is = refl };
          whole = clear_whole ((network.edges b.0).bits wire.0) (is_not_chosen (role_of b)) told.content.status clear
              (status_of plan network service has wire row is ours b a joined terminal told.label told.content told.is);
        }
    far_told (a ∷ b ∷ c ∷ rest) within ends on connected clear =
        let more : FarTold (b ∷ c ∷ rest) = far_told (b ∷ c ∷ rest) (within_rest row.path a b (c ∷ rest) within) ends
        (second_holds ((network.edges a.0).wire_on wire.0) (is_on_along network wire.0 (b ∷ c ∷ rest)) on)
        (second_holds (are_connected network a.0 b.0) (is_connected network (b ∷ c ∷ rest)) connected) clear in
        record { status = more.status; last = more.last; whole = more.whole }

    -- the last edge forwards, where the first one tells no failure and does not stand by
    last_up : (near far : Option PwStatus) → Agree row.near row.far → fails_in near ≡ false → ((b : EdgeId) → is_last b.0 row.path ≡ true → stands_by (role_of b) near ≡ false)
        → (x y : EdgeId) (rest : List EdgeId) → IsWithin row.path (x ∷ y ∷ rest) → ((a b : ℕ) → follows (x ∷ y ∷ rest) a b ≡ true → follows row.path a b ≡ true)
        → ((e : ℕ) → is_last e (x ∷ y ∷ rest) ≡ true → is_last e row.path ≡ true) → OfLast (Says near) (x ∷ y ∷ rest) → OfLastBack (Says far) (x ∷ y ∷ rest)
        → last_is_clear network wire.0 (x ∷ y ∷ rest) ≡ true
        → last_forwards plan network wire.0 (x ∷ y ∷ rest) ≡ true
    last_up near far agree whole active x y [] within way ends on back clear =
        let joined : joins y.0 x.0 row.path ≡ true = within y.0 x.0 (last_joined x y) in
        let last : is_last y.0 row.path ≡ true = ends y.0 (same_number y.0) in
        let followed : follows row.path x.0 y.0 ≡ true = way x.0 y.0 (first_followed x y []) in
        forwards plan network service has wire row is ours y x joined (ends_last y last) back on
        (fits_from (role_of y) ((network.edges y.0).bits wire.0) row.far row.near back.content on.content (agree_turned row.near row.far agree)
        (tells_offer plan row y.0 x.0 back.content row.far (offered y.0 x.0 joined back) (offer_back plan network service has wire row is ours y.0 x.0 followed))
        (tells_offer plan row x.0 y.0 on.content row.near (offered x.0 y.0 (within x.0 y.0 (first_joined x y [])) on) (offer_on plan network service has wire row is ours x.0 y.0 followed))
        clear (ap fails_in on.status_is ∙ whole) (ap (stands_by (role_of y)) on.status_is ∙ active y last))
    last_up near far agree whole active x y (z ∷ rest) within way ends on back clear =
        last_up near far agree whole active y z rest (within_rest row.path x y (z ∷ rest) within) (λ a b f. way a b (or_later (a == x.0 && b == y.0) f)) ends on back clear

    no_path : {P : Type 0} (path : List EdgeId) → row.path ≡ path → length path ≤ 1 → P
    no_path path at few = absurd (omega (arith, few, (row_is plan network service has wire row is ours).least, ap length at))

    module _ (sound : is_sound network wire.0 row ≡ true) (x y : EdgeId) (rest : List EdgeId) (at : row.path ≡ x ∷ y ∷ rest) where
      ways : is_on_along network wire.0 row.path && is_connected network row.path ≡ true
      ways = first_holds (is_on_along network wire.0 row.path && is_connected network row.path) ((first_is_clear network wire.0 row.path && last_is_clear network wire.0 row.path) && do_agree row.near row.far) sound

      marks : (first_is_clear network wire.0 row.path && last_is_clear network wire.0 row.path) && do_agree row.near row.far ≡ true
      marks = second_holds (is_on_along network wire.0 row.path && is_connected network row.path) ((first_is_clear network wire.0 row.path && last_is_clear network wire.0 row.path) && do_agree row.near row.far) sound

      clears : first_is_clear network wire.0 row.path && last_is_clear network wire.0 row.path ≡ true
      clears = first_holds (first_is_clear network wire.0 row.path && last_is_clear network wire.0 row.path) (do_agree row.near row.far) marks

      agree : Agree row.near row.far
      agree = agree_of row.near row.far (second_holds (first_is_clear network wire.0 row.path && last_is_clear network wire.0 row.path) (do_agree row.near row.far) marks)

      on_all : is_on_along network wire.0 row.path ≡ true
      on_all = first_holds (is_on_along network wire.0 row.path) (is_connected network row.path) ways

      all_connected : is_connected network row.path ≡ true
      all_connected = second_holds (is_on_along network wire.0 row.path) (is_connected network row.path) ways

      near_clear : nat_eq ((network.edges x.0).bits wire.0) 0 ≡ true
      near_clear = ap (first_is_clear network wire.0) (sym at) ∙ first_holds (first_is_clear network wire.0 row.path) (last_is_clear network wire.0 row.path) clears

      far_clear : last_is_clear network wire.0 row.path ≡ true
      far_clear = second_holds (first_is_clear network wire.0 row.path) (last_is_clear network wire.0 row.path) clears

      joined : joins x.0 y.0 row.path ≡ true
      joined = ap (joins x.0 y.0) at ∙ first_joined x y rest

      terminal : is_terminal row x ≡ true
      terminal = ends_first x (ap (is_first x.0) at ∙ same_number x.0)

      followed : follows row.path x.0 y.0 ≡ true
      followed = ap (λ (p : List EdgeId). follows p x.0 y.0) at ∙ first_followed x y rest

      near_both : BothStand network x.0 y.0
      near_both = connected_both plan network service has wire row is ours x.0 y.0 joined
          (first_holds (are_connected network x.0 y.0) (is_connected network (y ∷ rest)) (ap (is_connected network) (sym at) ∙ all_connected))

      near_told : HasTold network wire x.0 y.0
      near_told = tells plan network service has wire row is ours x y joined terminal (labels wire row is ours x.0 y.0 joined) near_both
          (first_holds ((network.edges x.0).wire_on wire.0) (is_on_along network wire.0 (y ∷ rest)) (ap (is_on_along network wire.0) (sym at) ∙ on_all))
          (stands_up plan network service has wire row is ours x.0 y.0 joined near_both) near_clear

      abbrev near_status : Option PwStatus
      near_status = near_told.content.status

      near_is : IsStatusOf ((network.edges x.0).bits wire.0) (is_not_chosen (role_of x)) near_status
      near_is = status_of plan network service has wire row is ours x y joined terminal near_told.label near_told.content near_told.is

      abbrev near : Says near_status x.0 y.0
      near = record { label = near_told.label; content = near_told.content; is = near_told.is; status_is = refl }

      far : FarTold row.path
      far = far_told row.path (λ a b j. j) (λ e j. j) on_all all_connected far_clear

      each_on : OfEach (Says near_status) row.path
      each_on = subst (OfEach (Says near_status)) (sym at)
          (on_from_first (mate_on row.path) (λ a b. Leads network wire a b) (Says near_status) (on_further near_status) x y rest (subst (Mates (mate_on row.path)) at mates)
          (leads_on network wire (x ∷ y ∷ rest) (ap (is_on_along network wire.0) (sym at) ∙ on_all) (ap (is_connected network) (sym at) ∙ all_connected)) near)

      each_back : OfEach (λ a b. Says far.status b a) row.path
      each_back = back_from_last (mate_on row.path) (λ a b. Leads network wire a b) (Says far.status) (on_further far.status) row.path mates (leads_back network wire row.path on_all all_connected) far.last

      far_near : Says far.status y.0 x.0
      far_near = (subst (OfEach (λ a b. Says far.status b a)) at each_back).0

      -- what it tells at its first edge fits what it holds there, for every end that looks at no standby bit
      fits_at : (end : EndRole) → ((status : Option PwStatus) → stands_by end status ≡ false) → Fits end ((network.edges x.0).bits wire.0) near.content far_near.content
      fits_at end active = fits_from end ((network.edges x.0).bits wire.0) row.near row.far near.content far_near.content agree
          (tells_offer plan row x.0 y.0 near.content row.near (offered x.0 y.0 joined near) (offer_on plan network service has wire row is ours x.0 y.0 followed))
          (tells_offer plan row y.0 x.0 far_near.content row.far (offered y.0 x.0 (sym (joins_turned row.path x.0 y.0) ∙ joined) far_near) (offer_back plan network service has wire row is ours y.0 x.0 followed))
          near_clear (ap fails_in far_near.status_is ∙ far.whole) (active far_near.content.status)

      -- so it would forward there, were it chosen
      pub sound_usable : down role.Chosen ((network.edges x.0).bits wire.0) ((network.edges x.0).ends wire.0 y.0) ≡ None
      sound_usable =
          let held = holds plan network service has wire row is ours x.0 y.0 joined far_near in
          ap (down role.Chosen ((network.edges x.0).bits wire.0)) (λ i. record { local = near.is i; remote = held i })
          ∙ fits_up role.Chosen ((network.edges x.0).bits wire.0) near.label near.content (record { label = far_near.label; told = far_near.content }) (fits_at role.Chosen (λ status. refl))

      first_up : ((status : Option PwStatus) → stands_by (role_of x) status ≡ false) → end_forwards plan (network.edges x.0) wire ≡ true
      first_up active = forwards plan network service has wire row is ours x y joined terminal near far_near (fits_at (role_of x) active)

      last_is_up : ((b : EdgeId) → is_last b.0 row.path ≡ true → IsActive (role_of x) (role_of b)) → last_forwards plan network wire.0 (x ∷ y ∷ rest) ≡ true
      last_is_up active =
          last_up near_status far.status agree (clear_whole ((network.edges x.0).bits wire.0) (is_not_chosen (role_of x)) near_status near_clear near_is)
          (λ b last. active_far (role_of x) (role_of b) ((network.edges x.0).bits wire.0) near_status (active b last) near_clear near_is) x y rest
          (λ a b j. ap (joins a b) at ∙ j) (λ a b f. ap (λ (p : List EdgeId). follows p a b) at ∙ f) (λ e l. ap (is_last e) at ∙ l)
          (subst (OfLast (Says near_status)) at (last_of_each (Says near_status) row.path each_on))
          (subst (OfLastBack (Says far.status)) at far.last) (ap (last_is_clear network wire.0) (sym at) ∙ far_clear)

      all_stitched : inner_stitched plan network wire.0 (y ∷ rest) ≡ true
      all_stitched =
          inner plan network service has wire row is ours
          (each_map (Says near_status) (λ a b. TellsSome network wire a b) row.path (λ a b t. record { status = near_status; tells = t }) each_on)
          (each_map (λ a b. Says far.status b a) (λ a b. TellsSome network wire b a) row.path (λ a b t. record { status = far.status; tells = t }) each_back) (y ∷ rest)

      carried_at : ((status : Option PwStatus) → stands_by (role_of x) status ≡ false) → ((b : EdgeId) → is_last b.0 row.path ≡ true → IsActive (role_of x) (role_of b)) → carries plan network wire.0 row ≡ true
      carried_at active roles =
          ap (λ (p : List EdgeId). (first_forwards plan network wire.0 p && last_forwards plan network wire.0 p) && is_joined_up plan network wire.0 p) at
          ∙ three (end_forwards plan (network.edges x.0) wire) (last_forwards plan network wire.0 (x ∷ y ∷ rest)) (inner_stitched plan network wire.0 (y ∷ rest)) (first_up active) (last_is_up roles) all_stitched

    -- a mesh wire, or a spoke that its spoke edge has chosen
    pub sound_carries : is_sound network wire.0 row ≡ true → is_taken network wire row ≡ true → carries plan network wire.0 row ≡ true
    sound_carries sound used = by row.path refl where
      by : (path : List EdgeId) → row.path ≡ path → carries plan network wire.0 row ≡ true
      by [] at = no_path [] at (omega arith)
      by (only ∷ []) at = no_path (only ∷ []) at (omega arith)
      by (x ∷ y ∷ rest) at = of_class (is_mesh_class row.class) refl where
        of_class : (mesh : Bool) → is_mesh_class row.class ≡ mesh → carries plan network wire.0 row ≡ true
        of_class true mesh =
            let here : role_of x ≡ role.Mesh = mesh_role row x (is_chosen (network.edges x.0).chosen wire row) mesh in
            carried_at sound x y rest at (λ status. ap (λ (r : EndRole). stands_by r status) here)
            (λ b last. BothMesh here (mesh_role row b (is_chosen (network.edges b.0).chosen wire row) mesh))
        of_class false spoke =
            let chosen : is_chosen (network.edges x.0).chosen wire row ≡ true = rw (spoke, at) at used in
            let here : role_of x ≡ role.Chosen =
            chosen_role row x (is_chosen (network.edges x.0).chosen wire row) spoke (ap (is_last x.0) at ∙ first_not_last x y rest (ap has_repeat (sym at) ∙ once)) chosen in
            carried_at sound x y rest at (λ status. ap (λ (r : EndRole). stands_by r status) here)
            (λ b last. OfSpoke here (core_role row b (is_chosen (network.edges b.0).chosen wire row) spoke last))

  -- ---- a wire that would forward at its first edge is sound

  on_rest : (status : Option PwStatus) (first : EdgeId) (path : List EdgeId) → IsWithin row.path (first ∷ path) → OfEach (λ a b. Says status b a) (first ∷ path) → (network.edges first.0).wire_on wire.0 ≡ true
      → is_on_along network wire.0 (first ∷ path) ≡ true
  on_rest status first [] within each on = rw on refl
  on_rest status first (next ∷ rest) within each on =
      let joined : joins next.0 first.0 row.path ≡ true = sym (joins_turned row.path first.0 next.0) ∙ within first.0 next.0 (first_joined first next rest) in
      rw on (on_rest status next rest (within_rest row.path first next rest within) each.1 (on_here plan network service has wire row is ours next first joined each.0.label each.0.content each.0.is))

  connected_rest : (status : Option PwStatus) (path : List EdgeId) → IsWithin row.path path → OfEach (λ a b. Says status b a) path → is_connected network path ≡ true
  connected_rest status [] within each = refl
  connected_rest status (only ∷ []) within each = refl
  connected_rest status (first ∷ next ∷ rest) within each =
      let joined : joins next.0 first.0 row.path ≡ true = sym (joins_turned row.path first.0 next.0) ∙ within first.0 next.0 (first_joined first next rest) in
      let both : BothStand network next.0 first.0 =
      up_both plan network service has wire row is ours next.0 first.0 joined (told_up plan network service has wire row is ours next.0 first.0 joined each.0.label each.0.content each.0.is) in
      rw (both.other, both.one) (connected_rest status (next ∷ rest) (within_rest row.path first next rest within) each.1)

  last_clear : (status : Option PwStatus) → fails_in status ≡ false → (x y : EdgeId) (rest : List EdgeId) → IsWithin row.path (x ∷ y ∷ rest)
      → ((e : ℕ) → is_last e (x ∷ y ∷ rest) ≡ true → is_last e row.path ≡ true) → OfLastBack (Says status) (x ∷ y ∷ rest) → last_is_clear network wire.0 (x ∷ y ∷ rest) ≡ true
  last_clear status whole x y [] within ends back =
      clear_where_whole plan network service has wire row is ours y x (within y.0 x.0 (last_joined x y)) (ends_last y (ends y.0 (same_number y.0))) back.label back.content back.is
      (ap fails_in back.status_is ∙ whole)
  last_clear status whole x y (z ∷ rest) within ends back = last_clear status whole y z rest (within_rest row.path x y (z ∷ rest) within) ends back

  -- what its end at the first edge tells fits what it holds, whatever it is to the service
  pub fits_sound : (x y : EdgeId) (rest : List EdgeId) → row.path ≡ x ∷ y ∷ rest → (end : EndRole) (label : ℕ) (own : Told) (binding : Binding)
      → ((network.edges x.0).ends wire.0 y.0).local ≡ Advertised label own → ((network.edges x.0).ends wire.0 y.0).remote ≡ Some binding → Fits end ((network.edges x.0).bits wire.0) own binding.told
      → is_sound network wire.0 row ≡ true
  fits_sound x y rest at end label own binding told held fits =
      ap (λ (p : List EdgeId). (is_on_along network wire.0 p && is_connected network p) && ((first_is_clear network wire.0 p && last_is_clear network wire.0 p) && do_agree row.near row.far)) at
      ∙ five (is_on_along network wire.0 (x ∷ y ∷ rest)) (is_connected network (x ∷ y ∷ rest)) (is_clear network wire.0 x) (last_is_clear network wire.0 (x ∷ y ∷ rest)) (do_agree row.near row.far)
      (on_rest binding.told.status x (y ∷ rest) within (subst (OfEach (λ a b. Says binding.told.status b a)) at each) (on_here plan network service has wire row is ours x y joined label own told))
      (connected_rest binding.told.status (x ∷ y ∷ rest) within (subst (OfEach (λ a b. Says binding.told.status b a)) at each)) fits.clear
      (last_clear binding.told.status fits.whole x y rest within (λ e l. ap (is_last e) at ∙ l)
      (subst (OfLastBack (Says binding.told.status)) at (last_of_each (λ a b. Says binding.told.status b a) row.path each))) agreeing
    where
      joined : joins x.0 y.0 row.path ≡ true
      joined = ap (joins x.0 y.0) at ∙ first_joined x y rest

      within : IsWithin row.path (x ∷ y ∷ rest)
      within a b j = ap (joins a b) at ∙ j

      followed : follows row.path x.0 y.0 ≡ true
      followed = ap (λ (p : List EdgeId). follows p x.0 y.0) at ∙ first_followed x y rest

      back : joins y.0 x.0 row.path ≡ true
      back = sym (joins_turned row.path x.0 y.0) ∙ joined

      start : Says binding.told.status y.0 x.0
      start = held_told plan network service has wire row is ours x.0 y.0 binding joined held

      each : OfEach (λ a b. Says binding.told.status b a) row.path
      each = from_first (mate_on row.path) (Says binding.told.status) (λ p w q mated t. goes_back plan network service has wire row is ours binding.told.status p w q mated t) row.path mates
          (subst (OfFirst (Says binding.told.status)) (sym at) start)

      agreeing : do_agree row.near row.far ≡ true
      agreeing = do_agree_from end ((network.edges x.0).bits wire.0) row.near row.far own binding.told
          (tells_offer plan row x.0 y.0 own row.near (tells_expected plan network service has wire row is ours x.0 y.0 joined label own told) (offer_on plan network service has wire row is ours x.0 y.0 followed))
          (tells_offer plan row y.0 x.0 binding.told row.far (tells_expected plan network service has wire row is ours y.0 x.0 back binding.label binding.told (held_told plan network service has wire row is ours x.0 y.0 binding joined held).is) (offer_back plan network service has wire row is ours y.0 x.0 followed)) fits

  -- an end that would forward
  pub down_sound : (x y : EdgeId) (rest : List EdgeId) → row.path ≡ x ∷ y ∷ rest → (end : EndRole) → down end ((network.edges x.0).bits wire.0) ((network.edges x.0).ends wire.0 y.0) ≡ None
      → is_sound network wire.0 row ≡ true
  down_sound x y rest at end up =
      let agrees : BothAgree ((network.edges x.0).ends wire.0 y.0) = forwards_where_both_agree end ((network.edges x.0).bits wire.0) ((network.edges x.0).ends wire.0 y.0) up in
      fits_sound x y rest at end agrees.label agrees.own agrees.binding agrees.advertises agrees.bound
      (up_fits end ((network.edges x.0).bits wire.0) agrees.label agrees.own agrees.binding
      (ap (down end ((network.edges x.0).bits wire.0)) (λ i. record { local = sym agrees.advertises i; remote = sym agrees.bound i }) ∙ up))

  none_up : (why : Option Down) → is_up why ≡ true → why ≡ None
  none_up None is = refl
  none_up (Some why) is = clash is

  pub carries_sound : carries plan network wire.0 row ≡ true → is_sound network wire.0 row ≡ true
  carries_sound live = by row.path refl where
    by : (path : List EdgeId) → row.path ≡ path → is_sound network wire.0 row ≡ true
    by [] at = clash (rw at at live)
    by (only ∷ []) at = absurd (omega (arith, (row_is plan network service has wire row is ours).least, ap length at))
    by (x ∷ y ∷ rest) at =
        let up : end_forwards plan (network.edges x.0) wire ≡ true =
        first_holds (end_forwards plan (network.edges x.0) wire) (last_forwards plan network wire.0 (x ∷ y ∷ rest))
        (first_holds (end_forwards plan (network.edges x.0) wire && last_forwards plan network wire.0 (x ∷ y ∷ rest)) (inner_stitched plan network wire.0 (y ∷ rest)) (rw at at live)) in
        down_sound x y rest at (role_of x)
        (none_up (down (role_of x) ((network.edges x.0).bits wire.0) ((network.edges x.0).ends wire.0 y.0))
        (sym (forwards_is plan network service has wire row is ours x y (ap (joins x.0 y.0) at ∙ first_joined x y rest) (ends_first x (ap (is_first x.0) at ∙ same_number x.0))) ∙ up))
