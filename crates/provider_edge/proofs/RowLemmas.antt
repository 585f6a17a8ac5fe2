-- The rows of the messages about pseudowires, and what an end puts, exit by exit.
use Rattle.std.proofs.Common.{◌≡◌, ◌==◌, ◌∙◌, ℕ, Bool, true, false, List, [], ◌∷◌, ◌++◌, Option, Some, None, cond, option_map, option_and_then, ap, rules, sym}
use Rattle.std.specs.Option.{option_eq}
use Rattle.net_base.specs.contracts.trace.down.DownPartialEq.TheImpl.{eq-value}
use Rattle.net_base.specs.declared.outside.link_call.LinkCall.{LinkCall}
use Rattle.net_base.specs.declared.plan.Plan.{Plan}
use Rattle.net_base.specs.declared.plan.places.EdgeId.{EdgeId}
use Rattle.net_base.specs.declared.plan.places.WireId.{WireId}
use Rattle.net_base.specs.declared.trace.down.Down.{Down}
use Rattle.ldp_grammar.specs.declared.status_code.StatusCode.{StatusCode}
use Rattle.pw_signalling.specs.declared.binding.Binding.{Binding}
use Rattle.pw_signalling.specs.declared.told.Told.{Told}
use Rattle.pw_signalling.specs.End.{EndState}
use Rattle.pw_signalling.specs.Rows.{bound, group_stated, group_unbound, released, stated, unbound}
use Rattle.pw_tlvs.specs.declared.point.Point.{Point}
use Rattle.pw_tlvs.specs.declared.pw_fec.PwFec.{PwFec}
use Rattle.pw_tlvs.specs.declared.pw_status.PwStatus.{PwStatus}
use Rattle.pw_messages.specs.Content.{binding_in, mapping, pw_status_code, status_notification, withdrawal}
use Rattle.pw_messages.specs.LinkAnswers.{Answers}
use Rattle.pw_ends.specs.Ends.{EndLists, place_of}
use Rattle.edge_model.specs.declared.effect.Effect.{Effect}
use Rattle.edge_model.specs.declared.effect.Effect.TheVariants.{Wire}
use Rattle.edge_model.specs.declared.end_place.EndPlace.{EndPlace}
use Rattle.edge_model.specs.EndPlaces.{end_named}
use Rattle.edge_model.specs.Labels.{label_to_give}
use Rattle.edge_model.specs.Mend.{advertises, advertises_under, advertises_wish, advertising, cause_number, offer_stands, telling_status, tells_down, tells_new_status, withdrawing, withdraws, withdraws_unless}
use Rattle.edge_model.specs.Put.{Spoken, stays}
use Rattle.edge_model.specs.Session.{says}
use Rattle.edge_model.specs.Signal.{end_of_fec, hears_mapping, hears_release, hears_status, hears_withdraw, maps_to, releases_label, takes_content, with_end_changed, with_named, with_released}
use Rattle.edge_model.specs.State.{EdgeState, with_told_down}
use Rattle.edge_model.specs.Work.{Work, changes, gives}
use Rattle.peer_dialogue.specs.Peering.{at_edge}
use Rattle.provider_edge.specs.Changes.{changing}
use Rattle.provider_edge.specs.Lists.{EdgeLists, seen}

pub changed_edge : (change : EdgeState → EdgeState) (edge now : EdgeState) (calls : List LinkCall) (out : List Effect) → now ≡ change edge → at_edge now calls out
    ≡ changes change (at_edge edge calls out)
unfolding at_edge changes
changed_edge change edge now calls out is = ap (λ (e : EdgeState). record { edge = e; calls = calls; effects = out; idle = false }) is

-- ---- an end that is found

pub named_some : (found : Option ℕ) (slot : ℕ) (lists : EndLists) (x : Option EndPlace) → option_map (place_of lists) found ≡ x → found ≡ Some slot → x ≡ Some (place_of lists slot)
named_some found slot lists x named some = sym named ∙ ap (option_map (place_of lists)) some

pub named_none : (found : Option ℕ) (lists : EndLists) (x : Option EndPlace) → option_map (place_of lists) found ≡ x → found ≡ None → x ≡ None
named_none found lists x named none = sym named ∙ ap (option_map (place_of lists)) none

pub one_some : (change : EndState → EndState) (x : Option EndPlace) (place : EndPlace) (edge now : EdgeState) → x ≡ Some place → now ≡ with_end_changed change (Some place) edge → now
    ≡ with_end_changed change x edge
one_some change x place edge now some is = is ∙ ap (λ (p : Option EndPlace). with_end_changed change p edge) (sym some)

pub released_some : (label : Option ℕ) (x : Option EndPlace) (place : EndPlace) (edge now : EdgeState) → x ≡ Some place → now ≡ changing (released label) place edge → now ≡ with_released label x edge
released_some label x place edge now some is = is ∙ ap (λ (p : Option EndPlace). with_released label p edge) (sym some)

pub one_none : (change : EndState → EndState) (x : Option EndPlace) (edge : EdgeState) → x ≡ None → edge ≡ with_end_changed change x edge
one_none change x edge none = sym (ap (λ (p : Option EndPlace). with_end_changed change p edge) none)

pub with_named_some : (plan : Plan) (peer : EdgeId) (fec : PwFec) (one all : EndState → EndState) (x : Option ℕ) (pw_id : ℕ) (c : EdgeLists) (now : EdgeState) → x ≡ Some pw_id
    → now ≡ with_end_changed one (end_named plan c.me peer pw_id) (seen c) → now ≡ with_named plan peer fec one all x (seen c)
unfolding seen
with_named_some plan peer fec one all x pw_id c now some is = is ∙ ap (λ (p : Option ℕ). with_named plan peer fec one all p (seen c)) (sym some)

pub fec_some : (plan : Plan) (c : EdgeLists) (peer : EdgeId) (fec : PwFec) (pw_id : ℕ) (found : Option EndPlace) → fec.pw_id ≡ Some pw_id → found ≡ end_named plan c.me peer pw_id
    → found ≡ end_of_fec plan (seen c) peer fec
unfolding seen
fec_some plan c peer fec pw_id found some is = is ∙ ap (option_and_then (end_named plan c.me peer)) (sym some)

-- ---- Label Mapping

pub bound_known : (c : EdgeLists) (told : Answers) (peer : EdgeId) (fec : PwFec) (binding : Binding) (x : Option EndPlace) (place : EndPlace) (taken : Bool) (now : EdgeState) (calls : List LinkCall) (out : List Effect) → x ≡ Some place
    → taken ≡ takes_content c.plan c.me place binding.told → taken ≡ true
    → now ≡ with_end_changed (bound binding) (Some place) (seen c) → at_edge now calls out ≡ maps_to c.plan told peer fec binding x (at_edge (seen c) calls out)
unfolding seen at_edge
bound_known c told peer fec binding x place taken now calls out some takes so is =
    let start : Work = record { edge = seen c; calls = calls; effects = out; idle = false } in
    changed_edge (with_end_changed (bound binding) (Some place)) (seen c) now calls out is
    ∙ (sym (ap (λ (b : Bool). cond b (changes (with_end_changed (bound binding) (Some place)) start)
    (releases_label told peer fec (Some binding.label) (changes (with_end_changed (unbound None) (Some place)) start))) (sym takes ∙ so))
    ∙ ap (λ (p : Option EndPlace). maps_to c.plan told peer fec binding p start) (sym some))

pub bound_not : (c : EdgeLists) (told : Answers) (peer : EdgeId) (fec : PwFec) (binding : Binding) (x : Option EndPlace) (place : EndPlace) (taken : Bool) (mid : EdgeState) (calls : List LinkCall) (out : List Effect) (work : Work) → x ≡ Some place
    → taken ≡ takes_content c.plan c.me place binding.told → taken ≡ false
    → mid ≡ with_end_changed (unbound None) (Some place) (seen c) → work ≡ releases_label told peer fec (Some binding.label) (at_edge mid calls out)
    → work ≡ maps_to c.plan told peer fec binding x (at_edge (seen c) calls out)
unfolding seen at_edge
bound_not c told peer fec binding x place taken mid calls out work some takes refused is put =
    let start : Work = record { edge = seen c; calls = calls; effects = out; idle = false } in
    put
    ∙ (ap (releases_label told peer fec (Some binding.label)) (changed_edge (with_end_changed (unbound None) (Some place)) (seen c) mid calls out is)
    ∙ (sym (ap (λ (b : Bool). cond b (changes (with_end_changed (bound binding) (Some place)) start)
    (releases_label told peer fec (Some binding.label) (changes (with_end_changed (unbound None) (Some place)) start))) (sym takes ∙ refused))
    ∙ ap (λ (p : Option EndPlace). maps_to c.plan told peer fec binding p start) (sym some)))

pub mapping_heard : (plan : Plan) (told : Answers) (peer : EdgeId) (fec : PwFec) (label : ℕ) (status : Option PwStatus) (points : List Point) (binding : Binding) (edge : EdgeState) (calls : List LinkCall) (out : List Effect) (work : Work)
    → binding ≡ binding_in fec label status points → work ≡ maps_to plan told peer fec binding (end_of_fec plan edge peer fec) (at_edge edge calls out)
    → work ≡ hears_mapping plan told peer fec label status points (at_edge edge calls out)
unfolding at_edge
mapping_heard plan told peer fec label status points binding edge calls out work made is =
    is ∙ ap (λ (b : Binding). maps_to plan told peer fec b (end_of_fec plan edge peer fec) (at_edge edge calls out)) made

-- ---- Label Withdraw and Label Release

pub withdraw_heard : (plan : Plan) (told : Answers) (peer : EdgeId) (fec : PwFec) (label : Option ℕ) (edge mid : EdgeState) (calls : List LinkCall) (out : List Effect) (work : Work)
    → mid ≡ with_named plan peer fec (unbound label) (group_unbound fec.group) fec.pw_id edge → work ≡ releases_label told peer fec label (at_edge mid calls out)
    → work ≡ hears_withdraw plan told peer fec label (at_edge edge calls out)
withdraw_heard plan told peer fec label edge mid calls out work unbinds is =
    is ∙ ap (releases_label told peer fec label) (changed_edge (with_named plan peer fec (unbound label) (group_unbound fec.group) fec.pw_id) edge mid calls out unbinds)

pub release_heard : (plan : Plan) (peer : EdgeId) (fec : PwFec) (label : Option ℕ) (edge now : EdgeState) (calls : List LinkCall) (out : List Effect)
    → now ≡ with_released label (end_of_fec plan edge peer fec) edge → at_edge now calls out ≡ hears_release plan peer fec label (at_edge edge calls out)
release_heard plan peer fec label edge now calls out is = changed_edge (λ (e : EdgeState). with_released label (end_of_fec plan e peer fec) e) edge now calls out is

-- ---- a status

both_there : (plan : Plan) (peer : EdgeId) (code : StatusCode) (status : Option PwStatus) (given : PwStatus) (fec : Option PwFec) (named : PwFec) (work : Work) → status ≡ Some given → fec ≡ Some named
    → hears_status plan peer code status fec work ≡ cond (code.code == pw_status_code) (changes (with_named plan peer named (stated given) (group_stated named.group given) named.pw_id) work) work
both_there plan peer code status given fec named work some there =
    ap (λ (s : Option PwStatus). hears_status plan peer code s fec work) some ∙ ap (λ (f : Option PwFec). hears_status plan peer code (Some given) f work) there

pub status_heard : (plan : Plan) (peer : EdgeId) (code : StatusCode) (status : Option PwStatus) (given : PwStatus) (fec : Option PwFec) (named : PwFec) (edge now : EdgeState) (calls : List LinkCall) (out : List Effect) → status ≡ Some given → fec ≡ Some named → (code.code == pw_status_code) ≡ true
    → now ≡ with_named plan peer named (stated given) (group_stated named.group given) named.pw_id edge
    → at_edge now calls out ≡ hears_status plan peer code status fec (at_edge edge calls out)
status_heard plan peer code status given fec named edge now calls out some there same is =
    changed_edge (with_named plan peer named (stated given) (group_stated named.group given) named.pw_id) edge now calls out is
    ∙ sym (both_there plan peer code status given fec named (at_edge edge calls out) some there
    ∙ ap (λ (b : Bool). cond b (changes (with_named plan peer named (stated given) (group_stated named.group given) named.pw_id) (at_edge edge calls out)) (at_edge edge calls out)) same)

-- ---- what an end puts

pub advertises_none : (told : Answers) (place : EndPlace) (content : Told) (edge now : EdgeState) (calls : List LinkCall) (out : List Effect) → label_to_give edge ≡ None → now ≡ edge
    → record { work = at_edge now calls out; failed = false } ≡ advertises told place content (at_edge edge calls out)
unfolding at_edge
advertises_none told place content edge now calls out none same =
    ap (λ (e : EdgeState). record { work = record { edge = e; calls = calls; effects = out; idle = false }; failed = false }) same
    ∙ sym (ap (λ (l : Option ℕ). advertises_under told place content l (record { edge = edge; calls = calls; effects = out; idle = false })) none)

pub advertises_some : (told : Answers) (place : EndPlace) (content : Told) (label : ℕ) (edge mid : EdgeState) (calls : List LinkCall) (out : List Effect) (put : Spoken)
    → label_to_give edge ≡ Some label
    → mid ≡ advertising place label content edge → put ≡ says told place.peer (mapping place.pw_id label content) (at_edge mid calls out)
    → put ≡ advertises told place content (at_edge edge calls out)
unfolding at_edge changes
advertises_some told place content label edge mid calls out put some advertised puts =
    puts
    ∙ (ap (λ (e : EdgeState). says told place.peer (mapping place.pw_id label content) (record { edge = e; calls = calls; effects = out; idle = false })) advertised
    ∙ sym (ap (λ (l : Option ℕ). advertises_under told place content l (record { edge = edge; calls = calls; effects = out; idle = false })) some))

pub wishes_none : (told : Answers) (place : EndPlace) (wished read : Option Told) (work : Work) → read ≡ wished → read ≡ None → record { work = work; failed = false }
    ≡ advertises_wish told place wished work
wishes_none told place wished read work is none = sym (ap (λ (w : Option Told). advertises_wish told place w work) (sym is ∙ none))

pub wishes_some : (told : Answers) (place : EndPlace) (wished read : Option Told) (content : Told) (work : Work) (put : Spoken) → read ≡ wished → read ≡ Some content
    → put ≡ advertises told place content work → put ≡ advertises_wish told place wished work
wishes_some told place wished read content work put is some puts = puts ∙ sym (ap (λ (w : Option Told). advertises_wish told place w work) (sym is ∙ some))

pub unless_stands : (told : Answers) (place at : EndPlace) (label : ℕ) (content : Told) (wished read : Option Told) (still : Bool) (work : Work) → at ≡ place → read ≡ wished → still
    ≡ offer_stands at content read → still ≡ true
    → stays work ≡ withdraws_unless told place label content wished work
unless_stands told place at label content wished read still work here is same so =
    sym (ap (λ (b : Bool). cond b (stays work) (withdraws told place label content work)) (sym (same ∙ (ap (λ (p : EndPlace). offer_stands p content read) here ∙ ap (offer_stands place content) is)) ∙ so))

pub unless_stands_not : (told : Answers) (place at : EndPlace) (label : ℕ) (content : Told) (wished read : Option Told) (still : Bool) (work : Work) (put : Spoken) → at ≡ place → read
    ≡ wished → still ≡ offer_stands at content read → still ≡ false
    → put ≡ withdraws told place label content work → put ≡ withdraws_unless told place label content wished work
unless_stands_not told place at label content wished read still work put here is same so puts =
    puts ∙ sym (ap (λ (b : Bool). cond b (stays work) (withdraws told place label content work)) (sym (same ∙ (ap (λ (p : EndPlace). offer_stands p content read) here ∙ ap (offer_stands place content) is)) ∙ so))

pub withdraws_at : (told : Answers) (place : EndPlace) (label : ℕ) (content : Told) (edge mid : EdgeState) (calls : List LinkCall) (out : List Effect) (put : Spoken)
    → mid ≡ withdrawing place edge → put ≡ says told place.peer (withdrawal place.pw_id label content) (at_edge mid calls out) → put ≡ withdraws told place label content (at_edge edge calls out)
withdraws_at told place label content edge mid calls out put withdrew puts =
    puts ∙ ap (says told place.peer (withdrawal place.pw_id label content)) (changed_edge (withdrawing place) edge mid calls out withdrew)

pub tells_at : (told : Answers) (place : EndPlace) (content : Told) (status : PwStatus) (edge mid : EdgeState) (calls : List LinkCall) (out : List Effect) (put : Spoken)
    → mid ≡ telling_status place status edge → put ≡ says told place.peer (status_notification place.pw_id status content) (at_edge mid calls out) → put
    ≡ tells_new_status told place content status (at_edge edge calls out)
tells_at told place content status edge mid calls out put telling puts =
    puts ∙ ap (says told place.peer (status_notification place.pw_id status content)) (changed_edge (telling_status place status) edge mid calls out telling)

-- ---- a wire that began to forward, or stopped

-- two causes are one exactly where they have one number
pub causes_alike : (one other : Option Down) → option_eq eq-value.it one other ≡ (cause_number one == cause_number other)
causes_alike one other = search rules

pub down_same : (place : EndPlace) (wire : WireId) (down : Option Down) (edge : EdgeState) (calls : List LinkCall) (out : List Effect) → place.wire ≡ wire
    → (cause_number (edge.told_down wire.0) == cause_number down) ≡ true
    → at_edge edge calls out ≡ tells_down place down (at_edge edge calls out)
unfolding at_edge
down_same place wire down edge calls out at same =
    sym (ap (λ (b : Bool). cond b (record { edge = edge; calls = calls; effects = out; idle = false })
    (gives (Wire place.wire down) (changes (with_told_down place.wire down) (record { edge = edge; calls = calls; effects = out; idle = false }))))
    (ap (λ (w : WireId). cause_number (edge.told_down w.0) == cause_number down) at ∙ same))

pub down_new : (place : EndPlace) (wire : WireId) (down : Option Down) (edge now : EdgeState) (calls : List LinkCall) (out given : List Effect) → place.wire ≡ wire
    → (cause_number (edge.told_down wire.0) == cause_number down) ≡ false
    → now ≡ with_told_down wire down edge → given ≡ out ++ Wire wire down ∷ []
    → at_edge now calls given ≡ tells_down place down (at_edge edge calls out)
unfolding at_edge gives changes
down_new place wire down edge now calls out given at other is gave =
    ap (λ (e : EdgeState). record { edge = e; calls = calls; effects = given; idle = false }) is
    ∙ (ap (λ (l : List Effect). record { edge = with_told_down wire down edge; calls = calls; effects = l; idle = false }) gave
    ∙ (ap (λ (w : WireId). record { edge = with_told_down w down edge; calls = calls; effects = out ++ Wire w down ∷ []; idle = false }) (sym at)
    ∙ sym (ap (λ (b : Bool). cond b (record { edge = edge; calls = calls; effects = out; idle = false })
    (record { edge = with_told_down place.wire down edge; calls = calls; effects = out ++ Wire place.wire down ∷ []; idle = false }))
    (ap (λ (w : WireId). cause_number (edge.told_down w.0) == cause_number down) at ∙ other))))
