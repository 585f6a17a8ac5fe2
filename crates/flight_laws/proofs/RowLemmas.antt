-- The table of session states and flights is kept by each thing that one end does.
use Rattle.std.proofs.Common.{◌≡◌, ◌++◌, ◌&&◌, Bool, true, List, [], ◌∷◌, refl, arith}
use Rattle.net_values.proofs.BoolLemmas.{clash}
use Rattle.ldp_grammar.specs.declared.message.Message.{Message}
use Rattle.session_core.specs.Phase.{Phase, Initialized, OpenSent, OpenRec, Operational}
use Rattle.session_core.specs.Reasons.{is_fatal, is_keep_alive}
use Rattle.flight_laws.specs.Coming.{initialization_comes, is_coming, keep_alive_comes}
use Rattle.flight_laws.specs.Flight.{all_messages, begins_with_keep_alive, has_keep_alives, has_plain_messages, has_some_keep_alives, is_empty, is_initialization, is_one_initialization, is_plain, is_row, opens_session}

pub all-append : (test : Message → Bool) (xs ys : List Message) → all_messages test xs ≡ true → all_messages test ys ≡ true → all_messages test (xs ++ ys) ≡ true
all-append test [] ys one other = other
all-append test (x ∷ xs) ys one other = grind (arith, all-append test xs ys)

-- a KeepAlive is neither an Initialization nor a fatal Notification
pub keep_is_plain : (m : Message) → is_keep_alive m ≡ true → is_plain m ≡ true
keep_is_plain m e = grind arith

pub keeps_are_plain : (ms : List Message) → has_keep_alives ms ≡ true → has_plain_messages ms ≡ true
keeps_are_plain [] e = refl
keeps_are_plain (m ∷ ms) e = grind (arith, keep_is_plain m, keeps_are_plain ms)

some_keeps-append : (xs : List Message) (m : Message) → has_some_keep_alives xs ≡ true → is_keep_alive m ≡ true → has_some_keep_alives (xs ++ m ∷ []) ≡ true
some_keeps-append [] m h k = clash h
some_keeps-append (x ∷ xs) m h k = grind (arith, all-append is_keep_alive xs (m ∷ []))

begins-append : (xs : List Message) (m : Message) → begins_with_keep_alive xs ≡ true → is_plain m ≡ true → begins_with_keep_alive (xs ++ m ∷ []) ≡ true
begins-append [] m h k = clash h
begins-append (x ∷ xs) m h k = grind (arith, all-append is_plain xs (m ∷ []))

keeps-append : (xs : List Message) (m : Message) → has_keep_alives xs ≡ true → is_keep_alive m ≡ true → has_keep_alives (xs ++ m ∷ []) ≡ true
keeps-append xs m h k = all-append is_keep_alive xs (m ∷ []) h (grind arith)

plain-append : (xs : List Message) (m : Message) → has_plain_messages xs ≡ true → is_plain m ≡ true → has_plain_messages (xs ++ m ∷ []) ≡ true
plain-append xs m h k = all-append is_plain xs (m ∷ []) h (grind arith)

opens-append : (xs : List Message) (m : Message) → opens_session xs ≡ true → is_keep_alive m ≡ true → opens_session (xs ++ m ∷ []) ≡ true
opens-append [] m h k = clash h
opens-append (x ∷ xs) m h k = grind (arith, some_keeps-append xs m)

-- ---- an end puts a KeepAlive

pub active_keeps : (p : Phase) (out back : List Message) (m : Message) → is_keep_alive m ≡ true → is_row OpenRec p out back ≡ true → is_row OpenRec p (out ++ m ∷ []) back ≡ true
active_keeps Initialized out back m k h = clash h
active_keeps OpenSent out back m k h = clash h
active_keeps OpenRec out back m k h = grind (arith, some_keeps-append out m)
active_keeps Operational out back m k h = grind (arith, keeps-append out m)

pub active_says : (p : Phase) (out back : List Message) (m : Message) → is_plain m ≡ true → is_row Operational p out back ≡ true → is_row Operational p (out ++ m ∷ []) back ≡ true
active_says Initialized out back m k h = clash h
active_says OpenSent out back m k h = clash h
active_says OpenRec out back m k h = grind (arith, begins-append out m)
active_says Operational out back m k h = grind (arith, plain-append out m)

pub passive_keeps : (a : Phase) (out back : List Message) (m : Message) → is_keep_alive m ≡ true → is_row a OpenRec out back ≡ true → is_row a OpenRec out (back ++ m ∷ []) ≡ true
passive_keeps Initialized out back m k h = clash h
passive_keeps OpenSent out back m k h = grind (arith, opens-append back m)
passive_keeps OpenRec out back m k h = grind (arith, some_keeps-append back m)
passive_keeps Operational out back m k h = grind (arith, keeps-append back m)

pub passive_says : (a : Phase) (out back : List Message) (m : Message) → is_plain m ≡ true → is_row a Operational out back ≡ true → is_row a Operational out (back ++ m ∷ []) ≡ true
passive_says Initialized out back m k h = clash h
passive_says OpenSent out back m k h = clash h
passive_says OpenRec out back m k h = grind (arith, begins-append back m)
passive_says Operational out back m k h = grind (arith, plain-append back m)

-- ---- the active end hears

pub active_opens : (p : Phase) (out back : List Message) (m k : Message) → is_keep_alive k ≡ true → is_row OpenSent p out (m ∷ back) ≡ true
    → is_initialization m && is_row OpenRec p (out ++ k ∷ []) back ≡ true
active_opens Initialized out back m k is h = grind arith
active_opens OpenSent out back m k is h = clash h
active_opens OpenRec [] back m k is h = grind arith
active_opens OpenRec (x ∷ out) back m k is h = clash h
active_opens Operational out back m k is h = clash h

pub active_rises : (p : Phase) (out back : List Message) (m : Message) → is_row OpenRec p out (m ∷ back) ≡ true → is_keep_alive m && is_row Operational p out back ≡ true
active_rises Initialized out back m h = clash h
active_rises OpenSent out back m h = clash h
active_rises OpenRec [] back m h = clash h
active_rises OpenRec (x ∷ out) back m h = grind (arith, keeps_are_plain out)
active_rises Operational out back m h = grind (arith, keeps_are_plain out)

pub active_hears : (p : Phase) (out back : List Message) (m : Message) → is_row Operational p out (m ∷ back) ≡ true → is_row Operational p out back ≡ true
active_hears Initialized out back m h = clash h
active_hears OpenSent out back m h = clash h
active_hears OpenRec out back m h = grind arith
active_hears Operational out back m h = grind arith

-- ---- the passive end hears

pub passive_opens : (a : Phase) (out back : List Message) (m i k : Message) → is_initialization i ≡ true → is_keep_alive k ≡ true → is_row a Initialized (m ∷ out) back ≡ true
    → is_initialization m && is_row a OpenRec out (back ++ i ∷ k ∷ []) ≡ true
passive_opens Initialized out back m i k is is' h = clash h
passive_opens OpenSent [] [] m i k is is' h = grind arith
passive_opens OpenSent (x ∷ out) back m i k is is' h = grind arith
passive_opens OpenSent [] (x ∷ back) m i k is is' h = grind arith
passive_opens OpenRec out back m i k is is' h = clash h
passive_opens Operational out back m i k is is' h = clash h

pub passive_rises : (a : Phase) (out back : List Message) (m : Message) → is_row a OpenRec (m ∷ out) back ≡ true → is_keep_alive m && is_row a Operational out back ≡ true
passive_rises Initialized out back m h = clash h
passive_rises OpenSent out back m h = clash h
passive_rises OpenRec out [] m h = grind arith
passive_rises OpenRec out (x ∷ back) m h = grind (arith, keeps_are_plain back)
passive_rises Operational out back m h = grind (arith, keeps_are_plain back)

pub passive_hears : (a : Phase) (out back : List Message) (m : Message) → is_row a Operational (m ∷ out) back ≡ true → is_row a Operational out back ≡ true
passive_hears Initialized out back m h = clash h
passive_hears OpenSent out back m h = clash h
passive_hears OpenRec out back m h = grind arith
passive_hears Operational out back m h = grind arith

-- the active end is not in Initialized, and the passive one not in OpenSent
pub no_active : (p : Phase) (out back : List Message) → is_row Initialized p out back ≡ true → ⊥
no_active p out back h = clash h

pub no_passive : (a : Phase) (out back : List Message) → is_row a OpenSent out back ≡ true → ⊥
no_passive Initialized out back h = clash h
no_passive OpenSent out back h = clash h
no_passive OpenRec out back h = clash h
no_passive Operational out back h = clash h

-- ---- where nothing is on its way both are up

pub quiet : (a p : Phase) → is_row a p [] [] ≡ true → (a ≡ Operational) × (p ≡ Operational)
quiet Initialized p h = clash h
quiet OpenSent Initialized h = clash h
quiet OpenSent OpenSent h = clash h
quiet OpenSent OpenRec h = clash h
quiet OpenSent Operational h = clash h
quiet OpenRec Initialized h = clash h
quiet OpenRec OpenSent h = clash h
quiet OpenRec OpenRec h = clash h
quiet OpenRec Operational h = clash h
quiet Operational Initialized h = clash h
quiet Operational OpenSent h = clash h
quiet Operational OpenRec h = clash h
quiet Operational Operational h = (refl, refl)

-- ---- what comes to an end whose peer is gone

keeps_come : (ms : List Message) → has_keep_alives ms ≡ true → keep_alive_comes ms ≡ true
keeps_come [] h = refl
keeps_come (m ∷ ms) h = grind arith

some_keeps_come : (ms : List Message) → has_some_keep_alives ms ≡ true → keep_alive_comes ms ≡ true
some_keeps_come [] h = clash h
some_keeps_come (m ∷ ms) h = grind arith

begins_comes : (ms : List Message) → begins_with_keep_alive ms ≡ true → keep_alive_comes ms ≡ true
begins_comes [] h = clash h
begins_comes (m ∷ ms) h = grind arith

opens_comes : (ms : List Message) → opens_session ms ≡ true → initialization_comes ms ≡ true
opens_comes [] h = clash h
opens_comes (m ∷ ms) h = grind (arith, some_keeps_come ms)

empty_comes : (ms : List Message) → is_empty ms ≡ true → initialization_comes ms ≡ true
empty_comes [] h = refl
empty_comes (m ∷ ms) h = clash h

none_comes : (ms : List Message) → is_empty ms ≡ true → keep_alive_comes ms ≡ true
none_comes [] h = refl
none_comes (m ∷ ms) h = clash h

one_comes : (ms : List Message) → is_one_initialization ms ≡ true → initialization_comes ms ≡ true
one_comes [] h = clash h
one_comes (m ∷ []) h = grind arith
one_comes (m ∷ n ∷ ms) h = grind arith

pub comes_back : (a p : Phase) (out back : List Message) → is_row a p out back ≡ true → is_coming a back ≡ true
comes_back Initialized p out back h = clash h
comes_back OpenSent Initialized out back h = grind (arith, empty_comes back)
comes_back OpenSent OpenSent out back h = clash h
comes_back OpenSent OpenRec out back h = grind (arith, opens_comes back)
comes_back OpenSent Operational out back h = clash h
comes_back OpenRec Initialized out back h = clash h
comes_back OpenRec OpenSent out back h = clash h
comes_back OpenRec OpenRec out back h = grind (arith, some_keeps_come back)
comes_back OpenRec Operational out back h = grind (arith, begins_comes back)
comes_back Operational p out back h = refl

pub comes_out : (a p : Phase) (out back : List Message) → is_row a p out back ≡ true → is_coming p out ≡ true
comes_out Initialized p out back h = clash h
comes_out OpenSent Initialized out back h = grind (arith, one_comes out)
comes_out OpenSent OpenSent out back h = clash h
comes_out OpenSent OpenRec out back h = grind (arith, none_comes out)
comes_out OpenSent Operational out back h = clash h
comes_out OpenRec Initialized out back h = clash h
comes_out OpenRec OpenSent out back h = clash h
comes_out OpenRec OpenRec out back h = grind (arith, some_keeps_come out)
comes_out OpenRec Operational out back h = refl
comes_out Operational Initialized out back h = clash h
comes_out Operational OpenSent out back h = clash h
comes_out Operational OpenRec out back h = grind (arith, begins_comes out)
comes_out Operational Operational out back h = refl

-- a peer leaves with a fatal Notification
keep-append : (ms : List Message) (m : Message) → is_fatal m ≡ true → keep_alive_comes ms ≡ true → keep_alive_comes (ms ++ m ∷ []) ≡ true
keep-append [] m f h = grind arith
keep-append (x ∷ ms) m f h = grind arith

initialization-append : (ms : List Message) (m : Message) → is_fatal m ≡ true → initialization_comes ms ≡ true → initialization_comes (ms ++ m ∷ []) ≡ true
initialization-append [] m f h = grind arith
initialization-append (x ∷ ms) m f h = grind (arith, keep-append ms m)

pub leaves : (phase : Phase) (ms : List Message) (m : Message) → is_fatal m ≡ true → is_coming phase ms ≡ true → is_coming phase (ms ++ m ∷ []) ≡ true
leaves Initialized ms m f h = initialization-append ms m f h
leaves OpenSent ms m f h = initialization-append ms m f h
leaves OpenRec ms m f h = keep-append ms m f h
leaves Operational ms m f h = refl
