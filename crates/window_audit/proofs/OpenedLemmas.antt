-- The window of a frame that enters.
use Rattle.std.proofs.Common.{◌≡◌, ◌==◌, ◌≤◌, ◌+◌, ◌∷◌, ◌∙◌, [], ℕ, Bool, true, false, List, Option, Some, None, cond, length, option_map, refl, ap, sym, subst, arith}
use Rattle.net_base.specs.declared.plan.Plan.{Plan}
use Rattle.net_base.specs.declared.plan.places.CircuitId.{CircuitId}
use Rattle.net_base.specs.declared.plan.places.ServiceId.{ServiceId}
use Rattle.net_base.specs.declared.trace.entry.Entry.{Entry}
use Rattle.net_base.specs.declared.trace.entry.Entry.TheVariants as entry
use Rattle.net_base.specs.declared.trace.event.Event.{Event}
use Rattle.net_base.specs.declared.trace.event.Event.TheVariants.{Frame}
use Rattle.seen_network.specs.Seen.{seen_in}
use Rattle.seen_network.specs.EventEntries.{entered_place}
use Rattle.seen_network.specs.Windows.{Describes, HasOpened, IsOpened, Opens, OpensOne}
use Rattle.seen_network.specs.declared.window.Window.{Window}
use Rattle.window_audit.specs.During.{IsFirst}
use Rattle.window_audit.specs.Opening.{OpensWith, window_with}
use Rattle.window_audit.specs.WindowState.{FrameOpens, placed_behind}
use Rattle.window_audit.specs.declared.opening.Opening.{Opening}

-- the entry stands among them
pub place_within : (circuit : CircuitId) (es : List Entry) → entered_place circuit es ≤ length es
place_within circuit [] = arith_refl where
  arith_refl : 0 ≤ 0
  arith_refl = omega arith
place_within circuit (entry.Did event ∷ es) = omega arith
place_within circuit (entry.Idle ∷ es) = omega (arith, place_within circuit es)
place_within circuit (entry.Said from to octets ∷ es) = omega (arith, place_within circuit es)
place_within circuit (entry.In at number octets ∷ es) = by (at.0 == circuit.0) (place_within circuit es) where
  by : (b : Bool) → entered_place circuit es ≤ length es → cond b 0 (1 + entered_place circuit es) ≤ length (entry.In at number octets ∷ es)
  by true h = omega arith
  by false h = omega (arith, h)
place_within circuit (entry.Sent from to wire came packet from2 hops octets ∷ es) = omega (arith, place_within circuit es)
place_within circuit (entry.Copied packet of ∷ es) = omega (arith, place_within circuit es)
place_within circuit (entry.Aged packet ∷ es) = omega (arith, place_within circuit es)
place_within circuit (entry.Left at from hops octets ∷ es) = omega (arith, place_within circuit es)
place_within circuit (entry.Dropped edge from cause ∷ es) = omega (arith, place_within circuit es)
place_within circuit (entry.Session edge peer name ∷ es) = omega (arith, place_within circuit es)
place_within circuit (entry.Wire edge wire down ∷ es) = omega (arith, place_within circuit es)
place_within circuit (entry.Pong edge wire sequence ∷ es) = omega (arith, place_within circuit es)

-- ---- a frame at a circuit

-- or where nothing opens one
pub with_opens : (plan : Plan) (before : List Entry) (circuit : CircuitId) (octets : List ℕ) (rest : List Entry) (entered : ℕ × ℕ) (first : Option (ℕ × ℕ)) (opening : Option Opening)
    → IsFirst circuit rest first → Some entered ≡ option_map (placed_behind (length before)) first → OpensWith plan (seen_in before) circuit octets opening
    → FrameOpens plan before circuit octets rest (option_map (window_with circuit entered) opening)
with_opens plan before circuit octets rest entered first None at is none = λ service origin opened.
    none service (record { sender = opened.sender; on = opened.on; formed = record { frame = opened.frame; formed = opened.formed }; calm = opened.calm })
with_opens plan before circuit octets rest entered None (Some opening) at is opens = absurd (cc (is))
with_opens plan before circuit octets rest entered (Some found) (Some opening) at is opens = record {
  service = opening.service;
  origin = entered.0;
  opened = record { entered = sym at.number ∙ ap Some (sym (number is)); sender = opens.0.sender; on = opens.0.on; frame = opens.0.formed.frame; formed = opens.0.formed.formed; calm = opens.0.calm };
  describes = record { place = place is ∙ ap (λ (n : ℕ). length before + n) at.place; sender = refl; service_is = refl; origin_is = refl; goes = opens.1; sites = opens.2 };
} where
  pair : Option (ℕ × ℕ) → ℕ × ℕ
  pair None = entered
  pair (Some p) = p

  number : Some entered ≡ Some (placed_behind (length before) found) → entered.0 ≡ found.0
  number same = ap (λ (o : Option (ℕ × ℕ)). (pair o).0) same

  place : Some entered ≡ Some (placed_behind (length before) found) → entered.1 ≡ length before + found.1
  place same = ap (λ (o : Option (ℕ × ℕ)). (pair o).1) same

-- ---- the event

-- whether a frame is put at a circuit
abbrev pub is_frame : Event → Bool
is_frame (Frame circuit octets) = true
is_frame other = false

pub none_opens : (plan : Plan) (before : List Entry) (event : Event) (rest : List Entry) → is_frame event ≡ false → IsOpened plan before event rest None
none_opens plan before event rest other = record {
  only = λ w is. absurd (cc (is));
  each = λ circuit octets service origin is opened. absurd (cc (sym (ap is_frame is) ∙ other));
}

same_describes : (plan : Plan) (before : List Entry) (circuit : CircuitId) (octets : List ℕ) (rest : List Entry) (a b : ServiceId) (m n : ℕ) (w : Window) → a ≡ b → m ≡ n
    → Describes plan before circuit octets rest a m w → Describes plan before circuit octets rest b n w
same_describes plan before circuit octets rest a b m n w services origins d =
    subst (λ (o : ℕ). Describes plan before circuit octets rest b o w) origins (subst (λ (s : ServiceId). Describes plan before circuit octets rest s m w) services d)

at_frame : (plan : Plan) (before : List Entry) (circuit : CircuitId) (octets : List ℕ) (rest : List Entry) (found : Option Window) → FrameOpens plan before circuit octets rest found
    → (service : ServiceId) (origin : ℕ) → HasOpened plan before circuit octets rest service origin → OpensOne plan before circuit octets rest service origin found
at_frame plan before circuit octets rest None none service origin opened = absurd (none service origin opened)
at_frame plan before circuit octets rest (Some w) of service origin opened = record {
  window = w;
  found_is = refl;
  describes = same_describes plan before circuit octets rest of.service service of.origin origin w (cc (sym of.opened.sender ∙ opened.sender)) (cc (sym of.opened.entered
      ∙ opened.entered)) of.describes;
}

the_opened : (plan : Plan) (before : List Entry) (circuit : CircuitId) (octets : List ℕ) (rest : List Entry) (found : Option Window) → FrameOpens plan before circuit octets rest found
    → (w : Window) → found ≡ Some w → Opens plan before (Frame circuit octets) rest w
the_opened plan before circuit octets rest None none w is = absurd (cc (is))
the_opened plan before circuit octets rest (Some x) of w is =
    subst (Opens plan before (Frame circuit octets) rest) (cc (is)) (record {
      circuit = circuit;
      octets = octets;
      service = of.service;
      origin = of.origin;
      is = refl;
      opened = of.opened;
      describes = of.describes;
    })

same_circuit : (a b : CircuitId) (xs ys : List ℕ) → Frame a xs ≡ Frame b ys → a ≡ b
same_circuit a b xs ys is = cc (is)

same_octets : (a b : CircuitId) (xs ys : List ℕ) → Frame a xs ≡ Frame b ys → xs ≡ ys
same_octets a b xs ys is = cc (is)

pub frame_opens : (plan : Plan) (before : List Entry) (circuit : CircuitId) (octets : List ℕ) (rest : List Entry) (found : Option Window) → FrameOpens plan before circuit octets rest found
    → IsOpened plan before (Frame circuit octets) rest found
frame_opens plan before circuit octets rest found opens = record {
  only = the_opened plan before circuit octets rest found opens;
  each = λ other bytes service origin is opened.
      at_frame plan before other bytes rest found
      (subst (λ (os : List ℕ). FrameOpens plan before other os rest found) (same_octets circuit other octets bytes is) (subst (λ (at : CircuitId). FrameOpens plan before at octets rest found)
      (same_circuit circuit other octets bytes is) opens))
      service origin opened;
}
