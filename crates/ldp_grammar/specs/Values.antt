-- What the values of TLVs stand for (RFC 5036 sections 3.4 and 3.5), beside those of pseudowire TLVs, which
-- `pw_tlvs` has. Each bit or octet that is not named is ignored.
use Rattle.std.specs.Prelude.{◌≡◌, ◌%◌, ◌^◌, ℕ, Bool, List, [], ◌∷◌, drop, take, slice_index}
use Rattle.net_values.specs.declared.addr.Addr.{Addr}
use Rattle.pw_tlvs.specs.declared.point.Point.{Point}
use Rattle.pw_tlvs.specs.Point.{IsPoint}
use Rattle.ldp_grammar.specs.declared.status_code.StatusCode.{StatusCode}
use Rattle.ldp_grammar.specs.declared.session_params.SessionParams.{SessionParams}
use Rattle.ldp_grammar.specs.declared.address_list.AddressList.{AddressList}
use Rattle.ldp_grammar.specs.Octets.{two_at, four_at, bit}

-- a Status TLV: E bit, F bit and 30 bits of data, the Message ID, and the message type (section 3.4.6)
pub record IsStatus (value : List ℕ) (s : StatusCode) : Type 0 where
  pub fatal : s.fatal ≡ bit 31 (four_at 0 value)
  pub forward : s.forward ≡ bit 30 (four_at 0 value)
  pub code : s.code ≡ four_at 0 value % 2 ^ 30
  pub message : s.message ≡ four_at 4 value
  pub kind : s.kind ≡ two_at 8 value

-- Common Hello Parameters: the hold time, T bit and R bit (section 3.5.2)
pub record IsHello (value : List ℕ) (hold : ℕ) (targeted request : Bool) : Type 0 where
  pub time : hold ≡ two_at 0 value
  pub t_bit : targeted ≡ bit 15 (two_at 2 value)
  pub r_bit : request ≡ bit 14 (two_at 2 value)

-- Common Session Parameters (section 3.5.3)
pub record IsSession (value : List ℕ) (p : SessionParams) : Type 0 where
  pub version : p.version ≡ two_at 0 value
  pub keepalive : p.keepalive ≡ two_at 2 value
  pub demand : p.demand ≡ bit 7 (slice_index value 4)
  pub loops : p.loops ≡ bit 6 (slice_index value 4)
  pub limit : p.limit ≡ slice_index value 5
  pub max_pdu : p.max_pdu ≡ two_at 6 value
  pub router : p.receiver.router.0 ≡ take 4 (drop 8 value)
  pub space : p.receiver.space ≡ two_at 12 value

-- an Address List: the address family, and the octets of the addresses (section 3.4.3)
pub record IsAddresses (value : List ℕ) (family : ℕ) (octets : List ℕ) : Type 0 where
  pub number : family ≡ two_at 0 value
  pub addresses : octets ≡ drop 2 value

-- the same as one value
abbrev pub IsAddressList : List ℕ → AddressList → Type 0
IsAddressList value a = IsAddresses value a.family a.octets

-- an IPv4 Transport Address (section 3.5.2)
abbrev pub IsTransportAddress : List ℕ → Addr → Type 0
IsTransportAddress value a = a.0 ≡ value

-- a Generic Label and a Label Request Message ID: a number in four octets (sections 3.4.2.1 and 3.5.9)
abbrev pub IsNumber : List ℕ → ℕ → Type 0
IsNumber value number = number ≡ four_at 0 value

-- switching points, one a value, in order (RFC 6073 section 7.4)
abbrev pub ArePoints : List (List ℕ) → List Point → Type 0
ArePoints [] [] = Unit {0}
ArePoints (value ∷ values) (point ∷ points) = IsPoint value point × ArePoints values points
ArePoints [] (point ∷ points) = ⊥
ArePoints (value ∷ values) [] = ⊥
