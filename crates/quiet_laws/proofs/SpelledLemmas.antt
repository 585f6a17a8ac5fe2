-- Octets that spell a message that an end says spell no message about another wire, nor one that says something else there.
use Rattle.std.proofs.Common.{◌≡◌, ◌≤◌, ◌<◌, ◌+◌, ◌++◌, ◌∙◌, ℕ, suc, true, false, nat_eq, is_some, List, [], ◌∷◌, Option, Some, None, length, drop, refl, sym, ap, subst, ⊎_elim, arith}
use Rattle.std.proofs.lemmas.List.{length-append}
use Rattle.std.proofs.lemmas.Bool.{eq-eqb}
use Rattle.byteorder.specs.Endian.{big_number}
use Rattle.std.specs.Prelude.{IfSome}
use Rattle.net_values.specs.declared.addr.Addr.{Addr}
use Rattle.net_values.specs.declared.mac.Mac.{Mac}
use Rattle.net_values.proofs.BoolLemmas.{clash}
use Rattle.pw_tlvs.specs.declared.pw_fec.PwFec.{PwFec}
use Rattle.pw_tlvs.specs.declared.pw_status.PwStatus.{PwStatus}
use Rattle.pw_tlvs.specs.Written.{information, written_fec, written_parameters}
use Rattle.ldp_grammar.specs.declared.address_list.AddressList.{AddressList}
use Rattle.ldp_grammar.specs.declared.message.Message.{Message}
use Rattle.ldp_grammar.specs.declared.message.Message.TheVariants.{Notification, Initialization, KeepAlive, AddressWithdraw, LabelMapping, LabelWithdraw, LabelRelease}
use Rattle.ldp_grammar.specs.declared.status_code.StatusCode.{StatusCode}
use Rattle.ldp_grammar.specs.Octets.{two, four}
use Rattle.ldp_grammar.specs.Octets as octets
use Rattle.ldp_grammar.specs.Rows.{fec}
use Rattle.ldp_grammar.specs.Rows as rows
use Rattle.ldp_grammar.specs.Tlvs.{spell_tlv}
use Rattle.ldp_grammar.specs.Written.{fec_tlvs, label_tlvs, mac_tlvs, message_octets, point_tlvs, status_octets, status_tlvs, tlv, withdrawn_tlvs, written, written_tlvs, written_type}
use Rattle.ldp_grammar.proofs.OctetLemmas.{read_four, read_two}
use Rattle.std.specs.Prelude.{flat_map}
use Rattle.pw_messages.specs.Sender.{platform_of}
use Rattle.session_core.specs.declared.peers.Peers.{Peers}
use Rattle.flight_laws.specs.Messages.{IsSaidAcross}
use Rattle.rest_laws.specs.Levels.{Saying, Binds, Withdraws, Releases, States, Clears, pw_id_of, saying_of}

-- ---- octets

head_same : {x y : ℕ} {xs ys : List ℕ} → x ∷ xs ≡ y ∷ ys → x ≡ y
head_same e = cc

tail_same : {x y : ℕ} {xs ys : List ℕ} → x ∷ xs ≡ y ∷ ys → xs ≡ ys
tail_same e = cc

-- what stands behind as many octets
behind_same : (a b x y : List ℕ) → length a ≡ length b → a ++ x ≡ b ++ y → x ≡ y
behind_same [] [] x y same e = e
behind_same [] (k ∷ b) x y same e = absurd (cc (same))
behind_same (n ∷ a) [] x y same e = absurd (cc (same))
behind_same (n ∷ a) (k ∷ b) x y same e = behind_same a b x y (less (length a) (length b) same) (tail_same e) where
  less : (p q : ℕ) → suc p ≡ suc q → p ≡ q
  less p q e = omega (arith, e)

-- two octets, and four
two_same : (m n : ℕ) (x y : List ℕ) → m < 65536 → n < 65536 → two m ++ x ≡ two n ++ y → (m ≡ n) × (x ≡ y)
two_same m n x y one other e = (sym (read_two m x one) ∙ (ap (big_number 2) e ∙ read_two n y other), ap (λ (l : List ℕ). drop 2 l) e)

four_same : (m n : ℕ) (x y : List ℕ) → m < 4294967296 → n < 4294967296 → four m ++ x ≡ four n ++ y → m ≡ n
four_same m n x y one other e = sym (read_four m x one) ∙ (ap (big_number 4) e ∙ read_four n y other)

-- ---- a FEC

-- the FEC of a TLV names the same pseudowire
names_same : (F G : PwFec) (pw : ℕ) (x y : List ℕ) → F.pw_id ≡ Some pw → pw < 4294967296 → IfSome G.pw_id (λ n. n < 4294967296) → written_fec F ++ x ≡ written_fec G ++ y → G.pw_id ≡ Some pw
names_same F G pw x y is small fits e = by G.pw_id refl where
  counts : length (information F.pw_id F.params) ≡ length (information G.pw_id G.params)
  counts = head_same (ap (λ (l : List ℕ). drop 3 l) e)

  infos : information F.pw_id F.params ++ x ≡ information G.pw_id G.params ++ y
  infos = ap (λ (l : List ℕ). drop 8 l) e

  some_less : (n : ℕ) → suc (suc (suc (suc n))) ≡ 0 → ⊥
  some_less n e = omega (arith, e)

  by : (o : Option ℕ) → G.pw_id ≡ o → G.pw_id ≡ Some pw
  by None at = absurd (some_less (length (written_parameters F.params)) (sym (ap (λ (o : Option ℕ). length (information o F.params)) is) ∙ (counts ∙ ap (λ (o : Option ℕ). length (information o G.params)) at)))
  by (Some other) at = at ∙ ap (λ (n : ℕ). Some n) (sym (four_same pw other (written_parameters F.params ++ x) (written_parameters G.params ++ y) small
      (subst (λ (o : Option ℕ). IfSome o (λ n. n < 4294967296)) at fits)
      (sym (ap (λ (o : Option ℕ). information o F.params ++ x) is) ∙ (infos ∙ ap (λ (o : Option ℕ). information o G.params ++ y) at))))

-- a FEC TLV stands first in both
fec_same : (F G : PwFec) (pw : ℕ) (x y : List ℕ) → F.pw_id ≡ Some pw → pw < 4294967296 → IfSome G.pw_id (λ n. n < 4294967296) → spell_tlv (tlv fec (written_fec F)) ++ x ≡ spell_tlv (tlv fec (written_fec G)) ++ y
    → G.pw_id ≡ Some pw
fec_same F G pw x y is small fits e = names_same F G pw x y is small fits (ap (λ (l : List ℕ). drop 4 l) e)

-- ---- a message

kind_apart : {A : Type 0} → (m n : ℕ) → nat_eq m n ≡ false → m ≡ n → A
kind_apart m n apart same = clash (sym apart ∙ eq-eqb m n same)

-- the octets of a message in a PDU, of a router whose address has any length
module _ (own : Addr) (four_long : length own.0 ≡ 4) (n : Message) (short : 6 + length (message_octets n) ≤ 256) (m : Message) (router : Addr) (e : written m (platform_of router) ≡ written n (platform_of own)) where
  behind : (router.0 ++ two 0) ++ message_octets m ≡ (own.0 ++ two 0) ++ message_octets n
  behind = ap (λ (l : List ℕ). drop 4 l) e

  ids : length (own.0 ++ two 0) ≡ 6
  ids = six (length (own.0 ++ two 0)) (length own.0) (length-append own.0 (two 0)) four_long where
    six : (a b : ℕ) → a ≡ b + 2 → b ≡ 4 → a ≡ 6
    six a b is four = omega (arith, is, four)

  counts : length (router.0 ++ two 0) + length (message_octets m) ≡ length (own.0 ++ two 0) + length (message_octets n)
  counts = sym (length-append (router.0 ++ two 0) (message_octets m)) ∙ (ap (λ (l : List ℕ). length l) behind ∙ length-append (own.0 ++ two 0) (message_octets n))

  small : (a b c d : ℕ) → a + b ≡ c + d → c ≡ 6 → 6 + d ≤ 256 → 6 + b < 65536
  small a b c d is six few = omega (arith, is, six, few)

  small_too : (d : ℕ) → 6 + d ≤ 256 → 6 + d < 65536
  small_too d few = omega (arith, few)

  sizes : 6 + length (message_octets m) ≡ 6 + length (message_octets n)
  sizes = (two_same (6 + length (message_octets m)) (6 + length (message_octets n)) ((router.0 ++ two 0) ++ message_octets m) ((own.0 ++ two 0) ++ message_octets n)
      (small (length (router.0 ++ two 0)) (length (message_octets m)) (length (own.0 ++ two 0)) (length (message_octets n)) counts ids short) (small_too (length (message_octets n)) short)
      (ap (λ (l : List ℕ). drop 2 l) e)).0

  as_long : (a b c d : ℕ) → a + b ≡ c + d → 6 + b ≡ 6 + d → a ≡ c
  as_long a b c d is same = omega (arith, is, same)

  messages : message_octets m ≡ message_octets n
  messages = behind_same (router.0 ++ two 0) (own.0 ++ two 0) (message_octets m) (message_octets n)
      (as_long (length (router.0 ++ two 0)) (length (message_octets m)) (length (own.0 ++ two 0)) (length (message_octets n)) counts sizes) behind

  bodies : flat_map spell_tlv (written_tlvs m) ≡ flat_map spell_tlv (written_tlvs n)
  bodies = ap (λ (l : List ℕ). drop 8 l) messages

  types : written_type m < 65536 → written_type n < 65536 → written_type m ≡ written_type n
  types one other = (two_same (written_type m) (written_type n) (drop 2 (message_octets m)) (drop 2 (message_octets n)) one other messages).0

-- a type that an end says
said_small : (ends : Peers) (n : Message) → IsSaidAcross ends n → written_type n < 65536
said_small ends (Initialization id params) said = omega arith
said_small ends (KeepAlive id) said = omega arith
said_small ends (Notification id code status pw) said = omega arith
said_small ends (AddressWithdraw id addresses pw macs) said = omega arith
said_small ends (LabelMapping id pw label status points) said = omega arith
said_small ends (LabelWithdraw id pw label) said = omega arith
said_small ends (LabelRelease id pw label) said = omega arith
said_small ends n said = absurd said

-- what a message says, and of which pseudowire
abbrev Says : Message → Saying → ℕ → Type 0
Says n saying pw = (saying_of n ≡ Some saying) × (pw_id_of n ≡ Some pw)

no_octets_more : {x : ℕ} {xs : List ℕ} → x ∷ xs ≡ [] → ⊥
no_octets_more e = cc

module _ (ends : Peers) (pw : ℕ) (low : pw < 4294967296) where
  mapping_says : (F : PwFec) (x : List ℕ) → F.pw_id ≡ Some pw → (n : Message) → IsSaidAcross ends n → 0x0400 ≡ written_type n → spell_tlv (tlv fec (written_fec F)) ++ x ≡ flat_map spell_tlv (written_tlvs n) → Says n Binds pw
  mapping_says F x is (LabelMapping id G label status points) said same e =
      (refl, fec_same F G pw x (flat_map spell_tlv (tlv rows.label (four label) ∷ (status_tlvs status ++ point_tlvs points))) is low said.0.1.pw_id e)
  mapping_says F x is (Initialization id params) said same e = kind_apart 0x0400 0x0200 refl same
  mapping_says F x is (KeepAlive id) said same e = kind_apart 0x0400 0x0201 refl same
  mapping_says F x is (Notification id code status G) said same e = kind_apart 0x0400 0x0001 refl same
  mapping_says F x is (AddressWithdraw id addresses G macs) said same e = kind_apart 0x0400 0x0301 refl same
  mapping_says F x is (LabelWithdraw id G label) said same e = kind_apart 0x0400 0x0402 refl same
  mapping_says F x is (LabelRelease id G label) said same e = kind_apart 0x0400 0x0403 refl same
  mapping_says F x is n said same e = absurd said

  withdraw_says : (F : PwFec) (x : List ℕ) → F.pw_id ≡ Some pw → (n : Message) → IsSaidAcross ends n → 0x0402 ≡ written_type n → spell_tlv (tlv fec (written_fec F)) ++ x ≡ flat_map spell_tlv (written_tlvs n) → Says n Withdraws pw
  withdraw_says F x is (LabelWithdraw id G label) said same e = (refl, fec_same F G pw x (flat_map spell_tlv (label_tlvs label)) is low said.0.1.pw_id e)
  withdraw_says F x is (Initialization id params) said same e = kind_apart 0x0402 0x0200 refl same
  withdraw_says F x is (KeepAlive id) said same e = kind_apart 0x0402 0x0201 refl same
  withdraw_says F x is (Notification id code status G) said same e = kind_apart 0x0402 0x0001 refl same
  withdraw_says F x is (AddressWithdraw id addresses G macs) said same e = kind_apart 0x0402 0x0301 refl same
  withdraw_says F x is (LabelMapping id G label status points) said same e = kind_apart 0x0402 0x0400 refl same
  withdraw_says F x is (LabelRelease id G label) said same e = kind_apart 0x0402 0x0403 refl same
  withdraw_says F x is n said same e = absurd said

  release_says : (F : PwFec) (x : List ℕ) → F.pw_id ≡ Some pw → (n : Message) → IsSaidAcross ends n → 0x0403 ≡ written_type n → spell_tlv (tlv fec (written_fec F)) ++ x ≡ flat_map spell_tlv (written_tlvs n) → Says n Releases pw
  release_says F x is (LabelRelease id G label) said same e = (refl, fec_same F G pw x (flat_map spell_tlv (label_tlvs label)) is low said.0.1.pw_id e)
  release_says F x is (Initialization id params) said same e = kind_apart 0x0403 0x0200 refl same
  release_says F x is (KeepAlive id) said same e = kind_apart 0x0403 0x0201 refl same
  release_says F x is (Notification id code status G) said same e = kind_apart 0x0403 0x0001 refl same
  release_says F x is (AddressWithdraw id addresses G macs) said same e = kind_apart 0x0403 0x0301 refl same
  release_says F x is (LabelMapping id G label status points) said same e = kind_apart 0x0403 0x0400 refl same
  release_says F x is (LabelWithdraw id G label) said same e = kind_apart 0x0403 0x0402 refl same
  release_says F x is n said same e = absurd said

  clear_says : (F : PwFec) (addresses : Option AddressList) (macs : Option (List Mac)) → F.pw_id ≡ Some pw → (n : Message) → IsSaidAcross ends n → 0x0301 ≡ written_type n
      → flat_map spell_tlv (withdrawn_tlvs addresses ++ (fec_tlvs (Some F) ++ mac_tlvs macs)) ≡ flat_map spell_tlv (written_tlvs n) → Says n Clears pw
  clear_says F None macs is (AddressWithdraw id None (Some G) (Some found)) said same e = (refl, fec_same F G pw (flat_map spell_tlv (mac_tlvs macs)) (flat_map spell_tlv (mac_tlvs (Some found))) is low said.0.0.2.pw_id e)
  clear_says F (Some list) macs is (AddressWithdraw id None (Some G) (Some found)) said same e = kind_apart 1 0 refl (head_same (ap (λ (l : List ℕ). drop 1 l) e))
  clear_says F addresses macs is (AddressWithdraw id other G found) said same e = absurd said.1
  clear_says F addresses macs is (Initialization id params) said same e = kind_apart 0x0301 0x0200 refl same
  clear_says F addresses macs is (KeepAlive id) said same e = kind_apart 0x0301 0x0201 refl same
  clear_says F addresses macs is (Notification id code status G) said same e = kind_apart 0x0301 0x0001 refl same
  clear_says F addresses macs is (LabelMapping id G label status points) said same e = kind_apart 0x0301 0x0400 refl same
  clear_says F addresses macs is (LabelWithdraw id G label) said same e = kind_apart 0x0301 0x0402 refl same
  clear_says F addresses macs is (LabelRelease id G label) said same e = kind_apart 0x0301 0x0403 refl same
  clear_says F addresses macs is n said same e = absurd said

  -- a status, behind the code of the message
  none_left : (F : PwFec) (state : Option PwStatus) → flat_map spell_tlv (status_tlvs state ++ fec_tlvs (Some F)) ≡ [] → ⊥
  none_left F None e = no_octets_more e
  none_left F (Some state) e = no_octets_more e

  status_by : (F : PwFec) → F.pw_id ≡ Some pw → (id : ℕ) (code : StatusCode) (state status : Option PwStatus) (G : Option PwFec) → IsSaidAcross ends (Notification id code status G) → is_some status ≡ true → is_some G ≡ true
      → flat_map spell_tlv (status_tlvs state ++ fec_tlvs (Some F)) ≡ flat_map spell_tlv (status_tlvs status ++ fec_tlvs G) → Says (Notification id code status G) States pw
  status_by F is id code state None G said one other e = clash one
  status_by F is id code state (Some status) None said one other e = clash other
  status_by F is id code None (Some status) (Some G) said one other e = kind_apart 1 137 refl (head_same e)
  status_by F is id code (Some state) (Some status) (Some G) said one other e = (refl, fec_same F G pw [] [] is low said.0.0.4.pw_id (ap (λ (l : List ℕ). drop 8 l) e))

  status_says : (F : PwFec) (state : Option PwStatus) (own : StatusCode) → F.pw_id ≡ Some pw → (n : Message) → IsSaidAcross ends n → 0x0001 ≡ written_type n
      → spell_tlv (tlv rows.status (status_octets own)) ++ flat_map spell_tlv (status_tlvs state ++ fec_tlvs (Some F)) ≡ flat_map spell_tlv (written_tlvs n) → Says n States pw
  status_says F state own is (Notification id code status G) said same e =
      let rest : flat_map spell_tlv (status_tlvs state ++ fec_tlvs (Some F)) ≡ flat_map spell_tlv (status_tlvs status ++ fec_tlvs G) = ap (λ (l : List ℕ). drop 14 l) e in
      ⊎_elim
      (λ left. absurd (none_left F state (rest ∙ (ap (λ (o : Option PwStatus). flat_map spell_tlv (status_tlvs o ++ fec_tlvs G)) left.1 ∙ ap (λ (o : Option PwFec). flat_map spell_tlv (fec_tlvs o)) left.2))))
      (λ told. status_by F is id code state status G said told.1 told.2 rest) said.1
  status_says F state own is (Initialization id params) said same e = kind_apart 0x0001 0x0200 refl same
  status_says F state own is (KeepAlive id) said same e = kind_apart 0x0001 0x0201 refl same
  status_says F state own is (AddressWithdraw id addresses G macs) said same e = kind_apart 0x0001 0x0301 refl same
  status_says F state own is (LabelMapping id G label status points) said same e = kind_apart 0x0001 0x0400 refl same
  status_says F state own is (LabelWithdraw id G label) said same e = kind_apart 0x0001 0x0402 refl same
  status_says F state own is (LabelRelease id G label) said same e = kind_apart 0x0001 0x0403 refl same
  status_says F state own is n said same e = absurd said

  no_saying : {A : Type 0} {s : Saying} → None ≡ Some s → A
  no_saying e = absurd (cc (e))

  same_one : {x y : Saying} → Some x ≡ Some y → x ≡ y
  same_one e = cc

  -- a message that an end says, spelled as another one about a wire, says the same of it
  pub same_saying : (own : Addr) → length own.0 ≡ 4 → (n : Message) → IsSaidAcross ends n → 6 + length (message_octets n) ≤ 256 → (m : Message) (router : Addr) (saying : Saying) → saying_of m ≡ Some saying
      → pw_id_of m ≡ Some pw → written m (platform_of router) ≡ written n (platform_of own) → Says n saying pw
  same_saying own four n said short (LabelMapping id F label status points) router saying says is e =
      subst (λ (s : Saying). Says n s pw) (same_one says)
      (mapping_says F (flat_map spell_tlv (tlv rows.label (octets.four label) ∷ (status_tlvs status ++ point_tlvs points))) is n said
      (types own four n short (LabelMapping id F label status points) router e (omega arith) (said_small ends n said)) (bodies own four n short (LabelMapping id F label status points) router e))
  same_saying own four n said short (LabelWithdraw id F label) router saying says is e =
      subst (λ (s : Saying). Says n s pw) (same_one says)
      (withdraw_says F (flat_map spell_tlv (label_tlvs label)) is n said
      (types own four n short (LabelWithdraw id F label) router e (omega arith) (said_small ends n said)) (bodies own four n short (LabelWithdraw id F label) router e))
  same_saying own four n said short (LabelRelease id F label) router saying says is e =
      subst (λ (s : Saying). Says n s pw) (same_one says)
      (release_says F (flat_map spell_tlv (label_tlvs label)) is n said
      (types own four n short (LabelRelease id F label) router e (omega arith) (said_small ends n said)) (bodies own four n short (LabelRelease id F label) router e))
  same_saying own four n said short (AddressWithdraw id addresses (Some F) macs) router saying says is e =
      subst (λ (s : Saying). Says n s pw) (same_one says)
      (clear_says F addresses macs is n said
      (types own four n short (AddressWithdraw id addresses (Some F) macs) router e (omega arith) (said_small ends n said)) (bodies own four n short (AddressWithdraw id addresses (Some F) macs) router e))
  same_saying own four n said short (Notification id code status (Some F)) router saying says is e =
      subst (λ (s : Saying). Says n s pw) (same_one says)
      (status_says F status code is n said
      (types own four n short (Notification id code status (Some F)) router e (omega arith) (said_small ends n said)) (bodies own four n short (Notification id code status (Some F)) router e))
  same_saying own four n said short m router saying says is e = no_saying says
