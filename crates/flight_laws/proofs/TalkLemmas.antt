-- What is on its way between two ends, of which one or both stand, through each thing that one of them does.
use Rattle.std.proofs.Common.{◌≡◌, ◌&&◌, Bool, true, false, not, List, [], ◌∷◌, Option, Some, None, arith}
use Rattle.ldp_grammar.specs.declared.message.Message.{Message}
use Rattle.session_core.specs.Phase.{Phase, Initialized, OpenSent, OpenRec, Operational}
use Rattle.session_core.specs.Reasons.{is_fatal, is_keep_alive}
use Rattle.flight_laws.specs.Coming.{and_more, is_row_for, is_talk, is_talk_without}
use Rattle.flight_laws.specs.Flight.{is_initialization, is_plain}
use Rattle.flight_laws.proofs.RowLemmas.{active_hears, active_keeps, active_opens, active_rises, active_says, comes_back, comes_out, leaves, no_passive, passive_hears, passive_keeps, passive_opens, passive_rises, passive_says, keep_is_plain}

-- ---- an Initialization comes

pub opens_sent : (active : Bool) (far : Option Phase) (out back : List Message) (m k : Message) → is_fatal m ≡ false → is_keep_alive k ≡ true → is_talk active OpenSent far out (m ∷ back) ≡ true
    → is_initialization m && is_talk active OpenRec far (and_more far out (k ∷ [])) back ≡ true
opens_sent active None out back m k plain is h = grind arith
opens_sent true (Some q) out back m k plain is h = active_opens q out back m k is h
opens_sent false (Some q) out back m k plain is h = absurd (no_passive q (m ∷ back) out h)

pub opens_initialized : (far : Option Phase) (out back : List Message) (m i k : Message) → is_fatal m ≡ false → is_initialization i ≡ true → is_keep_alive k ≡ true
    → is_talk false Initialized far out (m ∷ back) ≡ true
    → is_initialization m && is_talk false OpenRec far (and_more far out (i ∷ k ∷ [])) back ≡ true
opens_initialized None out back m i k plain is is' h = grind arith
opens_initialized (Some q) out back m i k plain is is' h = passive_opens q back out m i k is is' h

-- ---- a KeepAlive comes

pub rises : (active : Bool) (far : Option Phase) (out back : List Message) (m : Message) → is_fatal m ≡ false → is_talk active OpenRec far out (m ∷ back) ≡ true
    → is_keep_alive m && is_talk active Operational far out back ≡ true
rises active None out back m plain h = grind arith
rises true (Some q) out back m plain h = active_rises q out back m h
rises false (Some q) out back m plain h = passive_rises q back out m h

-- ---- anything comes to a session that is up

pub goes_on : (active : Bool) (far : Option Phase) (out back : List Message) (m : Message) → is_talk active Operational far out (m ∷ back) ≡ true → is_talk active Operational far out back ≡ true
goes_on active None out back m h = h
goes_on true (Some q) out back m h = active_hears q out back m h
goes_on false (Some q) out back m h = passive_hears q back out m h

-- ---- a KeepAlive is said

pub keeps_rec : (active : Bool) (far : Option Phase) (out back : List Message) (k : Message) → is_keep_alive k ≡ true → is_talk active OpenRec far out back ≡ true
    → is_talk active OpenRec far (and_more far out (k ∷ [])) back ≡ true
keeps_rec active None out back k is h = h
keeps_rec true (Some q) out back k is h = active_keeps q out back k is h
keeps_rec false (Some q) out back k is h = passive_keeps q back out k is h

pub keeps_up : (active : Bool) (far : Option Phase) (out back : List Message) (k : Message) → is_keep_alive k ≡ true → is_talk active Operational far out back ≡ true
    → is_talk active Operational far (and_more far out (k ∷ [])) back ≡ true
keeps_up active None out back k is h = h
keeps_up true (Some q) out back k is h = active_says q out back k (keep_is_plain k is) h
keeps_up false (Some q) out back k is h = passive_says q back out k (keep_is_plain k is) h

-- ---- anything but an Initialization is said in a session that is up

pub says_up : (active : Bool) (far : Option Phase) (out back : List Message) (m : Message) → is_plain m ≡ true → is_talk active Operational far out back ≡ true
    → is_talk active Operational far (and_more far out (m ∷ [])) back ≡ true
says_up active None out back m plain h = h
says_up true (Some q) out back m plain h = active_says q out back m plain h
says_up false (Some q) out back m plain h = passive_says q back out m plain h

-- ---- an end goes, with a fatal Notification or without

pub goes : (active : Bool) (own : Phase) (far : Option Phase) (out back : List Message) → is_talk active own far out back ≡ true → is_talk_without far out [] ≡ true
goes active own None out back h = grind arith
goes true own (Some q) out back h = comes_out own q out back h
goes false own (Some q) out back h = comes_back q own back out h

pub tells_end : (far : Option Phase) (out : List Message) (n : Message) → is_fatal n ≡ true → is_talk_without far out [] ≡ true → is_talk_without far (and_more far out (n ∷ [])) [] ≡ true
tells_end None out n fatal h = h
tells_end (Some q) out n fatal h = leaves q out n fatal h

-- ---- the other end's side

pub turned_rows : (active : Bool) (own other : Phase) (out back : List Message) → is_row_for active own other out back ≡ true → is_row_for (not active) other own back out ≡ true
turned_rows true own other out back h = h
turned_rows false own other out back h = h

pub turned_none : (out back : List Message) → is_talk_without None out back ≡ true → is_talk_without None back out ≡ true
turned_none out back h = grind arith
