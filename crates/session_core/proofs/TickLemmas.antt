-- Counts of ticks.
use Rattle.std.proofs.Common.{◌≡◌, ◌≤◌, ◌<◌, ◌+◌, ◌-◌, ◌^◌, ◌∙◌, ℕ, zero, suc, min, false, nat_le, [], ap, refl, arith}
use Rattle.std.proofs.lemmas.Bool.Decides.{nat_tests}
use Rattle.session_core.specs.Phase.{Phase}
use Rattle.session_core.specs.Phase as phase
use Rattle.session_core.specs.State.{SessionState}
use Rattle.session_core.specs.Table.{Goes, Ticked, a_tick_later, is_keep_alive_due, one_more, outcome_of, third, ticked_session}
use Rattle.session_core.specs.Ticks.{quiet_ticks, ticks_later}

-- where a count stays does not matter to a hold time
pub quiet_by_count : (hold silence : ℕ) → hold < 2 ^ 16 → nat_le (third hold) (one_more silence) ≡ nat_le (third hold) (silence + 1)
unfolding one_more
quiet_by_count hold silence h = grind (arith)

-- a count that is one more, of one that stays at its limit
one_more_still : (silence n : ℕ) → one_more (min (silence + n) (2 ^ 64 - 1)) ≡ min (silence + suc n) (2 ^ 64 - 1)
unfolding one_more
one_more_still silence n = grind (arith)

stays : (silence : ℕ) → silence < 2 ^ 64 → silence ≡ min (silence + 0) (2 ^ 64 - 1)
stays silence few = grind (arith, few)

-- what so many ticks make of a session
pub later_is : (n : ℕ) (s : SessionState) → s.silence < 2 ^ 64 → ticks_later n s ≡ record s { wait = s.wait + n; silence = min (s.silence + n) (2 ^ 64 - 1) }
later_is zero s few =
    let wait : s.wait ≡ s.wait + 0 = omega arith in
    λ i. record s { wait = wait i; silence = stays s.silence few i }
later_is (suc n) s few =
    let wait : s.wait + n + 1 ≡ s.wait + suc n = omega arith in
    ap a_tick_later (later_is n s few) ∙ (λ i. record s { wait = wait i; silence = one_more_still s.silence n i })

-- they change its counts of ticks alone
pub later_phase : (n : ℕ) (s : SessionState) → (ticks_later n s).phase ≡ s.phase
later_phase zero s = refl
later_phase (suc n) s = later_phase n s

pub later_peers : (n : ℕ) (s : SessionState) → (ticks_later n s).peers ≡ s.peers
later_peers zero s = refl
later_peers (suc n) s = later_peers n s

pub later_longest : (n : ℕ) (s : SessionState) → (ticks_later n s).max_pdu ≡ s.max_pdu
later_longest zero s = refl
later_longest (suc n) s = later_longest n s

later_hold : (n : ℕ) (s : SessionState) → (ticks_later n s).hold ≡ s.hold
later_hold zero s = refl
later_hold (suc n) s = later_hold n s

later_wait : (n : ℕ) (s : SessionState) → (ticks_later n s).wait ≡ s.wait + n
later_wait zero s = omega arith
later_wait (suc n) s = omega (arith, later_wait n s)

one_more_most : (n : ℕ) → one_more n ≤ n + 1
unfolding one_more
one_more_most n = grind (arith)

later_silence : (n : ℕ) (s : SessionState) → (ticks_later n s).silence ≤ s.silence + n
later_silence zero s = omega arith
later_silence (suc n) s = omega (arith, later_silence n s, one_more_most (ticks_later n s).silence)

-- ---- a tick at which nothing is to be done

not_expired : (hold wait : ℕ) → 1 ≤ hold - (wait + 1) → nat_le hold (wait + 1) ≡ false
not_expired hold wait left = grind (arith, nat_tests, left)

not_due : (hold silence : ℕ) → 1 ≤ third hold - (silence + 1) → nat_le (third hold) (one_more silence) ≡ false
unfolding one_more
not_due hold silence left = grind (arith, nat_tests, left)

-- the session goes on, and nothing is put
pub goes_quietly : (s : SessionState) → 1 ≤ quiet_ticks s → outcome_of s Ticked ≡ Goes (a_tick_later s) []
goes_quietly s quiet = by s.phase quiet where
  ticked : (state : Phase) → 1 ≤ s.hold - (s.wait + 1) → is_keep_alive_due (a_tick_later (record s { phase = state })) ≡ false
      → ticked_session (a_tick_later (record s { phase = state })) ≡ Goes (a_tick_later (record s { phase = state })) []
  ticked state left none = rw (not_expired s.hold s.wait left, none) refl

  by : (state : Phase) → 1 ≤ quiet_ticks (record s { phase = state }) → outcome_of (record s { phase = state }) Ticked ≡ Goes (a_tick_later (record s { phase = state })) []
  by phase.Initialized less = ticked phase.Initialized less refl
  by phase.OpenSent less = ticked phase.OpenSent less refl
  by phase.OpenRec less = ticked phase.OpenRec (grind (arith, less)) (not_due s.hold s.silence (grind (arith, less)))
  by phase.Operational less = ticked phase.Operational (grind (arith, less)) (not_due s.hold s.silence (grind (arith, less)))

-- of the ticks that a session has nothing to do at some have passed
pub quiet_left : (n more : ℕ) (s : SessionState) → n + more ≤ quiet_ticks s → more ≤ quiet_ticks (ticks_later n s)
quiet_left n more s quiet = by s.phase (later_phase n s) quiet where
  t : SessionState
  t = ticks_later n s

  heard : n + more ≤ s.hold - (s.wait + 1) → more ≤ t.hold - (t.wait + 1)
  heard left = omega (arith, left, later_hold n s, later_wait n s)

  said : n + more ≤ third s.hold - (s.silence + 1) → more ≤ third t.hold - (t.silence + 1)
  said left = rw (later_hold n s) (omega (arith, left, later_silence n s))

  both : more ≤ t.hold - (t.wait + 1) → more ≤ third t.hold - (t.silence + 1) → more ≤ min (t.hold - (t.wait + 1)) (third t.hold - (t.silence + 1))
  both first second = grind (arith, first, second)

  by : (state : Phase) → t.phase ≡ state → n + more ≤ quiet_ticks (record s { phase = state }) → more ≤ quiet_ticks t
  by phase.Initialized at left = rw at (heard left)
  by phase.OpenSent at left = rw at (heard left)
  by phase.OpenRec at left = rw at (both (heard (grind (arith, left))) (said (grind (arith, left))))
  by phase.Operational at left = rw at (both (heard (grind (arith, left))) (said (grind (arith, left))))
