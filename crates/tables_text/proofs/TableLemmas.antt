-- What is left of the tables begins with the next lines.
use Rattle.std.proofs.Common.{◌≡◌, ◌≢◌, ◌<◌, ◌≤◌, ◌+◌, ◌++◌, ◌∙◌, ◌⊎◌, inl, inr, if◌then◌else◌, ℕ, List, [], ◌∷◌, Option, None, Result, option_map, slice_get, length, drop, get_or, refl, sym, ap, subst, arith}
use Rattle.std.proofs.lemmas.List.{at_drop_all, at_drop_more}
use Rattle.std.proofs.lemmas.Option.{slice_get-get_or}
use Rattle.net_base.specs.declared.plan.Plan.{Plan}
use Rattle.net_base.specs.declared.plan.edge_plan.EdgePlan.{EdgePlan}
use Rattle.net_base.specs.declared.plan.service_plan.ServicePlan.{ServicePlan}
use Rattle.net_base.specs.declared.plan.places.EdgeId.{EdgeId}
use Rattle.net_base.specs.plan.Paths.{are_joined}
use Rattle.net_base.specs.plan.Places.{service_row}
use Rattle.mac_table.specs.declared.mac_entry.MacEntry.{MacEntry}
use Rattle.hvpls_spokes.specs.declared.port.Port.{Port}
use Rattle.hvpls_spokes.specs.Port.{ports_of}
use Rattle.pw_ends.specs.Ends.{end_in, no_place, place_of, seen_ends}
use Rattle.edge_model.specs.declared.end_place.EndPlace.{EndPlace}
use Rattle.edge_model.specs.State.{EdgeState, addresses_of, end_at}
use Rattle.network_model.specs.State.{NetworkState, edge_at}
use Rattle.provider_edge.specs.Lists.{EdgeLists, seen}
use Rattle.line_shapes.specs.Words.{name_or_empty}
use Rattle.text_lines.specs.Written.{Written, WritingGoesOn, Puts}
use Rattle.text_lines.proofs.WrittenLemmas.{goes_none}
use Rattle.tables_text.specs.Addresses.{by_address}
use Rattle.tables_text.specs.Tables.{address_line, address_lines, edge_text, edge_texts, end_line, end_lines, service_lines, service_name, service_text, session_line, session_lines}

-- the session with the edge of a place, and those behind it
pub sessions_at : (plan : Plan) (me : EdgeId) (edge : EdgeState) (rows : List EdgePlan) (place : ℕ) → place < length rows
    → session_lines plan me edge place (drop place rows)
    ≡ (if are_joined plan me.0 place then session_line plan edge (record { 0 = place }) else []) ++ session_lines plan me edge (place + 1) (drop (place + 1) rows)
sessions_at plan me edge [] place within = absurd (omega (arith, within))
sessions_at plan me edge (row ∷ rows) place within = at_drop_more (session_lines plan me edge place) (row ∷ rows) place row within

pub sessions_end : (plan : Plan) (me : EdgeId) (edge : EdgeState) (rows : List EdgePlan) (place : ℕ) → length rows ≤ place → session_lines plan me edge place (drop place rows) ≡ []
sessions_end plan me edge rows place end = at_drop_all (session_lines plan me edge place) rows place end

-- the end of a slot, as the edge's state has it
pub end_seen : (edge : EdgeLists) (slot : ℕ) (place : EndPlace) → place ≡ place_of edge.ends slot → end_in edge.ends slot ≡ end_at (seen edge) place
unfolding seen
end_seen edge slot place is = ap (λ (p : EndPlace). seen_ends edge.ends p.wire.0 p.peer.0) (sym is)

-- the end of a slot, and those behind it
pub ends_at : (plan : Plan) (edge : EdgeState) (places held : List EndPlace) (slot : ℕ) → held ≡ places → slot < length held
    → end_lines plan edge (drop slot places) ≡ end_line plan edge (get_or held slot no_place) ++ end_lines plan edge (drop (slot + 1) places)
ends_at plan edge places held slot same within =
    subst (λ (l : List EndPlace). end_lines plan edge (drop slot l) ≡ end_line plan edge (get_or held slot no_place) ++ end_lines plan edge (drop (slot + 1) l)) same
    (at_drop_more (end_lines plan edge) held slot no_place within)

pub ends_past : (plan : Plan) (edge : EdgeState) (places held : List EndPlace) (slot : ℕ) → held ≡ places → length held ≤ slot → end_lines plan edge (drop slot places) ≡ []
ends_past plan edge places held slot same end =
    ap (λ (l : List EndPlace). end_lines plan edge (drop slot l)) (sym same) ∙ at_drop_all (end_lines plan edge) held slot end

-- the addresses of the service of a place, and of those behind it
pub services_at : (plan : Plan) (me : EdgeId) (edge : EdgeState) (rows : List ServicePlan) (place : ℕ) → plan.services ≡ rows → place < length rows
    → service_lines plan me edge place (drop place rows)
    ≡ service_text plan (service_name plan place) (ports_of plan (record { 0 = place }) me) (addresses_of edge (record { 0 = place })) ++ service_lines plan me edge (place + 1) (drop (place + 1) rows)
services_at plan me edge [] place are within = absurd (omega (arith, within))
services_at plan me edge (row ∷ rows) place are within =
    let name : service_name plan place ≡ (get_or (row ∷ rows) place row).name =
    ap (λ (l : List ServicePlan). name_or_empty (option_map (λ row. row.name) (slice_get l place))) are
    ∙ ap (λ (o : Option ServicePlan). name_or_empty (option_map (λ row. row.name) o)) (slice_get-get_or (row ∷ rows) place row within) in
    at_drop_more (service_lines plan me edge place) (row ∷ rows) place row within
    ∙ ap (λ (l : List ℕ). service_text plan l (ports_of plan (record { 0 = place }) me) (addresses_of edge (record { 0 = place })) ++ service_lines plan me edge (place + 1)
    (drop (place + 1) (row ∷ rows))) (sym name)

pub services_end : (plan : Plan) (me : EdgeId) (edge : EdgeState) (rows : List ServicePlan) (place : ℕ) → length rows ≤ place → service_lines plan me edge place (drop place rows) ≡ []
services_end plan me edge rows place end = at_drop_all (service_lines plan me edge place) rows place end

-- the edge of a place, and those behind it
pub edges_at : (plan : Plan) (network : NetworkState) (rows : List EdgePlan) (place : ℕ) → place < length rows
    → edge_texts plan network place (drop place rows)
    ≡ edge_text plan (record { 0 = place }) (edge_at network (record { 0 = place })) ++ edge_texts plan network (place + 1) (drop (place + 1) rows)
edges_at plan network [] place within = absurd (omega (arith, within))
edges_at plan network (row ∷ rows) place within = at_drop_more (edge_texts plan network place) (row ∷ rows) place row within

pub edges_end : (plan : Plan) (network : NetworkState) (rows : List EdgePlan) (place : ℕ) → length rows ≤ place → edge_texts plan network place (drop place rows) ≡ []
edges_end plan network rows place end = at_drop_all (edge_texts plan network place) rows place end

-- a service without a port has no lines
service_none : (plan : Plan) (name : List ℕ) (ports : List Port) (entries : List MacEntry) → ports ≡ [] → service_text plan name ports entries ≡ []
service_none plan name ports entries none = ap (λ (l : List Port). service_text plan name l entries) none

-- one with a port has those of its addresses
service_told : (plan : Plan) (name : List ℕ) (ports : List Port) (entries : List MacEntry) → ports ≢ [] → address_lines plan name ports (by_address entries) ≡ service_text plan name ports entries
service_told plan name [] entries some = absurd (some refl)
service_told plan name (port ∷ ports) entries some = refl

-- a service of the plan without a bridge at the edge has no lines there
service_unbridged : (plan : Plan) (me : EdgeId) (rows : List ServicePlan) (place : ℕ) (name : List ℕ) (entries : List MacEntry) → plan.services ≡ rows → place < length rows
    → (service_row plan (record { 0 = place }) ≡ None) ⊎ (ports_of plan (record { 0 = place }) me ≡ []) → service_text plan name (ports_of plan (record { 0 = place }) me) entries ≡ []
service_unbridged plan me [] place name entries are within none = absurd (omega (arith, within))
service_unbridged plan me (row ∷ rows) place name entries are within (inl none) =
    absurd (cc (sym none ∙ (ap (λ (l : List ServicePlan). slice_get l place) are ∙ slice_get-get_or (row ∷ rows) place row within)))
service_unbridged plan me (row ∷ rows) place name entries are within (inr none) = service_none plan name _ entries none

-- the lines of a service by what its bridge has
pub service_put : {T E : Type 0} (result : Result T E) (old now : Written) (plan told : Plan) (name called : List ℕ) (ports held : List Port) (entries learned : List MacEntry)
    → told ≡ plan → called ≡ name → held ≡ ports → learned ≡ entries → ports ≢ []
    → Puts result old now (address_lines told called held (by_address learned)) → Puts result old now (service_text plan name ports entries)
service_put result old now plan told name called ports held entries learned a b c d some puts =
    subst (λ (l : List ℕ). Puts result old now l) ((λ i. address_lines (a i) (b i) (c i) (by_address (d i))) ∙ service_told plan name ports entries some) puts

-- nothing is put for a service without a bridge
pub service_left_out : (w : Written) (plan : Plan) (me : EdgeId) (place : ℕ) (name : List ℕ) (entries : List MacEntry) → place < length plan.services
    → (service_row plan (record { 0 = place }) ≡ None) ⊎ (ports_of plan (record { 0 = place }) me ≡ []) → WritingGoesOn w w (service_text plan name (ports_of plan (record { 0 = place }) me) entries)
service_left_out w plan me place name entries within none =
    subst (λ (l : List ℕ). WritingGoesOn w w l) (sym (service_unbridged plan me plan.services place name entries refl within none)) (goes_none w)

-- what is told of an edge of a network
pub edge_put : {T E : Type 0} (result : Result T E) (old now : Written) (plan held : Plan) (me own : EdgeId) (edge part : EdgeState) → held ≡ plan → own ≡ me → part ≡ edge
    → Puts result old now (edge_text held own part) → Puts result old now (edge_text plan me edge)
edge_put result old now plan held me own edge part a b c puts = subst (λ (l : List ℕ). Puts result old now l) (λ i. edge_text (a i) (b i) (c i)) puts

-- what is read of entries at no place of theirs
abbrev no_address : MacEntry
no_address = record { address = record { 0 = [] }; port = 0; tick = 0 }

-- the line of the next address, and those behind it
pub addresses_at : (plan : Plan) (name : List ℕ) (ports : List Port) (entries : List MacEntry) (index : ℕ) → index < length entries
    → address_lines plan name ports (drop index entries) ≡ address_line plan name ports (get_or entries index no_address) ++ address_lines plan name ports (drop (index + 1) entries)
addresses_at plan name ports entries index within = at_drop_more (address_lines plan name ports) entries index no_address within
