-- The ports, addresses and lines of what is carried.
use Rattle.std.proofs.Common.{◌≡◌, ◌⊎◌, inl, inr, ℕ, suc, ◌+◌, ◌<◌, Bool, true, false, cond, not, List, [], ◌∷◌, ◌++◌, length, map, codes, Option, Some, None, Ok, refl, sym, ap, ◌∙◌, subst, arith}
use Rattle.std.specs.Prelude.{filter, nat_eq}
use Rattle.std.specs.List.{AllByRecursion, flat_map, starts_with}
use Rattle.sg_psk.specs.Accepting.{Accepted}
use Rattle.sg_psk.specs.Sending.{initial_octets}
use Rattle.sg_sdp.specs.Addresses.{first_address, with_address}
use Rattle.sg_sdp.specs.Carrying.{carried, carried_line, carried_lines, carried_media, carried_medium, is_one_sided}
use Rattle.sg_sdp.specs.Descriptions.{IsKept, IsMedium, IsSdp, medium_line, medium_lines}
use Rattle.sg_sdp.specs.LineForm.{is_letter}
use Rattle.sg_sdp.specs.declared.medium.Medium as descriptions
use Rattle.sg_sdp.specs.declared.sdp.Sdp.{Sdp}
use Rattle.sg_agreement.proofs.FewMedia.{described_count, described_is}
use Rattle.sg_agreement.proofs.KeyedSound.{Sometimes}
use Rattle.sg_agreement.proofs.Sound.{each_kept_is}
use Rattle.sg_agreement.proofs.Texts.{Takes, whole}
use Rattle.sg_agreement.specs.Answers.{Answered, answered_by, AgreedAnswer, accepted_answer, agreed_answer, lines_of}
use Rattle.sg_agreement.specs.Attributes.{crypto_values, first_of, mikey_value}
use Rattle.sg_agreement.specs.CarriedTexts.{Added, carried_text, crypto_attribute, exchanged, mikey_attribute, ports_from, rtp_port, with_added, with_media_lines}
use Rattle.sg_agreement.specs.Described.{described}
use Rattle.sg_agreement.specs.Keying.{Keying, PeerLines, OwnLines, PeerMessage, PeerMessages, OwnMessage, Offer, added_by, attributes_of}
use Rattle.sg_agreement.specs.LineAnswers.{keyed_by_matched, keyed_by_own_lines, keyed_by_peer_line, lines_matched}
use Rattle.sg_agreement.specs.MessageAnswers.{keyed_as_initiator, keyed_as_responder, keyed_by_message, over_active, own_streams, streams_answered}
use Rattle.sg_agreement.specs.Offers.{AgreedOffer, agreed_offer, keying_of}
use Rattle.sg_agreement.specs.Sides.{active_count, actives, actives_after, other_side, side_of}
use Rattle.sg_agreement.proofs.OneLines.{one_append}
use Rattle.base64.specs.Engines.{standard}
use Rattle.base64.specs.GeneralPurpose.{encode_of}
use Rattle.sg_sdes.specs.CryptoText.{crypto_text}
use Rattle.sg_conduct.proofs.Printed.{AreAttributes, IsAttribute, Laws, base64_one, crypto_one, test_one, told_read}
use Rattle.sg_conduct.specs.OwnPorts.{port_towards}
use Rattle.sg_conduct.specs.ToldTexts.{HaveOwnPorts, IsOwnText, NamesGateway}
use Rattle.sg_gateway.proofs.Common.{AtHand, CryptoLine, Keyed, Plain, Profile, Secure, Side, StreamKeys, Way, after_ok_is, description_of, each_append}
use Rattle.sg_gateway.proofs.Common.{each_kept, each_weaker, of_sdes, ok_is}

-- ---- lines

-- no `m=` line
abbrev pub NoHead : List ℕ → Type 0
NoHead line = is_letter 109 line ≡ false

attribute_no_head : (line : List ℕ) → IsAttribute line → NoHead line
attribute_no_head line (rest, is, one) = ap (is_letter 109) is

attribute_names : (line : List ℕ) → IsAttribute line → NamesGateway line
attribute_names line (rest, is, one) starts = absurd (let e = sym (ap (λ l. starts_with nat_eq l (codes "c=")) is) ∙ starts in cc)

crypto_is : (l : CryptoLine) → IsAttribute (crypto_attribute l)
crypto_is l = (codes "crypto:" ++ crypto_text l, refl, one_append (codes "crypto:") (crypto_text l) (test_one (codes "crypto:") refl refl) (crypto_one l))

mikey_is : (octets : List ℕ) → IsAttribute (mikey_attribute octets)
mikey_is octets = (codes "key-mgmt:mikey " ++ encode_of standard octets, refl, one_append (codes "key-mgmt:mikey ") (encode_of standard octets) (test_one (codes "key-mgmt:mikey ") refl refl) (base64_one octets))

-- the lines that are added
abbrev pub AddsAttributes : Added → Type 0
AddsAttributes added = AreAttributes added.session × AllByRecursion AreAttributes added.media

-- a carried line
line_names : (l : List ℕ) → NamesGateway (carried_line l)
unfolding carried_line
line_names l = go (starts_with nat_eq l (codes "c=")) refl
  where
    go : (b : Bool) → starts_with nat_eq l (codes "c=") ≡ b → NamesGateway (cond b (codes "c=IN IP4 127.0.0.1") l)
    go true is starts = refl
    go false is starts = absurd (let e = sym is ∙ starts in cc)

line_no_head : (l : List ℕ) → NoHead l → NoHead (carried_line l)
unfolding carried_line
line_no_head l none = go (starts_with nat_eq l (codes "c="))
  where
    go : (b : Bool) → NoHead (cond b (codes "c=IN IP4 127.0.0.1") l)
    go true = refl
    go false = none

abbrev Carries : List ℕ → Type 0
Carries line = NamesGateway line × NoHead line

carried_carry : (ls : List (List ℕ)) → AllByRecursion IsKept ls → AllByRecursion Carries (carried_lines ls)
carried_carry [] kept = tt
carried_carry (l ∷ ls) kept = go (not (is_one_sided l)) (carried_carry ls kept.1)
  where
    go : (b : Bool) → AllByRecursion Carries (carried_lines ls)
        → AllByRecursion Carries (map carried_line (cond b (l ∷ filter (λ line. not (is_one_sided line)) ls) (filter (λ line. not (is_one_sided line)) ls)))
    go true rest = ((line_names l, line_no_head l kept.0.no_medium), rest)
    go false rest = rest

attributes_carry : (ls : List (List ℕ)) → AreAttributes ls → AllByRecursion Carries ls
attributes_carry ls are = each_weaker IsAttribute Carries (λ l is. (attribute_names l is, attribute_no_head l is)) ls are

head_names : (m : descriptions.Medium) → NamesGateway (medium_line m)
head_names m starts = absurd cc

-- ---- media

port_is : (side : Side) (slot k : ℕ) (active : Bool) → (cond active (rtp_port slot k side) 0 ≡ 0) ⊎ (cond active (rtp_port slot k side) 0 ≡ port_towards side slot k)
port_is Secure slot k true = inr refl
port_is Plain slot k true = inr refl
port_is side slot k false = inl refl

record Own (side : Side) (slot k count : ℕ) (ms : List descriptions.Medium) : Type 0 where
  ports : HaveOwnPorts side slot k ms
  names : AllByRecursion NamesGateway (flat_map medium_lines ms)
  long : length ms ≡ count

module _ (side : Side) (slot : ℕ) (f : Option (List ℕ)) where
  own_media : (k : ℕ) (active : List Bool) (ps : List Profile) (ms : List descriptions.Medium) (more : List (List (List ℕ))) → AllByRecursion IsMedium ms → AllByRecursion AreAttributes more
      → length active ≡ length ms → length ps ≡ length ms
      → Own side slot k (length ms) (with_media_lines (map (with_address f) (carried_media (ports_from slot k side active) ps ms)) more)
  unfolding carried_medium
  own_media k [] ps [] more are is a b = record { ports = tt; names = tt; long = refl }
  own_media k [] ps (m ∷ ms) more are is a b = absurd (omega (arith, a))
  own_media k (on ∷ active) ps [] more are is a b = absurd (omega (arith, a))
  own_media k (on ∷ active) [] (m ∷ ms) more are is a b = absurd (omega (arith, b))
  own_media k (on ∷ active) (p ∷ ps) (m ∷ ms) [] are is a b =
      let rest = own_media (k + 1) active ps ms [] are.1 is (omega (arith, a)) (omega (arith, b)) in
      let kept = carried_carry m.lines are.0.lines in
      record {
        ports = (port_is side slot k on, each_weaker Carries NoHead (λ l c. c.1) (carried_lines m.lines) kept, no_more_ports (k + 1) _ rest.ports);
        names = (head_names (with_address f (carried_medium (cond on (rtp_port slot k side) 0) p m)), each_append NamesGateway (carried_lines m.lines) _ (each_weaker Carries NamesGateway (λ l c. c.0) (carried_lines m.lines) kept) (no_more_names _ rest.names));
        long = ap suc (no_more_long _ rest.long);
      }
    where
      no_more_ports : (k : ℕ) (ms : List descriptions.Medium) → HaveOwnPorts side slot k (with_media_lines ms []) → HaveOwnPorts side slot k ms
      no_more_ports k [] own = own
      no_more_ports k (m ∷ ms) own = own

      no_more_names : (ms : List descriptions.Medium) → AllByRecursion NamesGateway (flat_map medium_lines (with_media_lines ms [])) → AllByRecursion NamesGateway (flat_map medium_lines ms)
      no_more_names [] own = own
      no_more_names (m ∷ ms) own = own

      no_more_long : {n : ℕ} (ms : List descriptions.Medium) → length (with_media_lines ms []) ≡ n → length ms ≡ n
      no_more_long [] own = own
      no_more_long (m ∷ ms) own = own
  own_media k (on ∷ active) (p ∷ ps) (m ∷ ms) (lines ∷ more) are is a b =
      let rest = own_media (k + 1) active ps ms more are.1 is.1 (omega (arith, a)) (omega (arith, b)) in
      let kept = each_append Carries (carried_lines m.lines) lines (carried_carry m.lines are.0.lines) (attributes_carry lines is.0) in
      record {
        ports = (port_is side slot k on, each_weaker Carries NoHead (λ l c. c.1) (carried_lines m.lines ++ lines) kept, rest.ports);
        names = (head_names (record (with_address f (carried_medium (cond on (rtp_port slot k side) 0) p m)) { lines = carried_lines m.lines ++ lines }), each_append NamesGateway (carried_lines m.lines ++ lines) _ (each_weaker Carries NamesGateway (λ l c. c.0) (carried_lines m.lines ++ lines) kept) rest.names);
        long = ap suc rest.long;
      }

-- ---- a text

abbrev pub IsRead : Sdp → Type 0
IsRead s = (text : List ℕ) × (description_of text ≡ Ok s)

own_text : Takes → Laws → (side : Side) (slot : ℕ) → slot < 256 → (active : List Bool) (ps : List Profile) (added : Added) (s : Sdp) → IsRead s → AddsAttributes added
    → length active ≡ length s.media → length ps ≡ length s.media → IsOwnText side slot (length s.media) (carried_text (ports_from slot 0 side active) ps added s)
unfolding carried_text
own_text takes laws side slot low active ps added s read are a b =
    let is : IsSdp s = (takes 2048 read.0 s (whole read.0 s read.1).1).0 in
    let media = own_media side slot (first_address (carried_lines s.session)) 0 active ps s.media added.media is.media are.1 a b in
    let session = each_append Carries (carried_lines s.session) added.session (carried_carry s.session is.session) (attributes_carry added.session are.0) in
    record {
      read = told_read laws side slot active ps added s is low a are.0 are.1;
      told = with_added added (carried (ports_from slot 0 side active) ps s);
      spells = refl;
      count = media.long;
      ports = media.ports;
      session = each_weaker Carries NoHead (λ l c. c.1) (carried_lines s.session ++ added.session) session;
      addresses = each_append NamesGateway (carried_lines s.session ++ added.session) _ (each_weaker Carries NamesGateway (λ l c. c.0) (carried_lines s.session ++ added.session) session) media.names;
    }

-- ---- of an offer

cryptos_are : (ls : List CryptoLine) → AreAttributes (map crypto_attribute ls)
cryptos_are [] = tt
cryptos_are (l ∷ ls) = (crypto_is l, cryptos_are ls)

all_cryptos : (ls : List (Option (List CryptoLine))) → AllByRecursion AreAttributes (map attributes_of ls)
all_cryptos [] = tt
all_cryptos (None ∷ ls) = (tt, all_cryptos ls)
all_cryptos (Some l ∷ ls) = (cryptos_are l, all_cryptos ls)

keying_adds : (k : Keying) → AddsAttributes (added_by k)
keying_adds (OwnLines lines) = (tt, all_cryptos lines)
keying_adds (OwnMessage sent) = ((mikey_is (initial_octets sent), tt), tt)
keying_adds other = (tt, tt)

map_long : {X Y : Type 0} (f : X → Y) (xs : List X) → length (map f xs) ≡ length xs
map_long f [] = refl
map_long f (x ∷ xs) = ap suc (map_long f xs)

pub offer_own : Takes → Laws → (h : AtHand) → h.slot < 256 → (way : Way) (text : List ℕ) (a : AgreedOffer) → agreed_offer h way text ≡ Ok a → IsOwnText (other_side (side_of way)) h.slot a.media a.text
unfolding agreed_offer
offer_own takes laws h low way text a e =
    let p = after_ok_is (described (side_of way) h.media text) _ a e in
    let q = after_ok_is (keying_of h p.0 way) _ a p.2 in
    subst (λ (a : AgreedOffer). IsOwnText (other_side (side_of way)) h.slot a.media a.text) (ok_is _ a q.2)
    (own_text takes laws (other_side (side_of way)) h.slot low (actives (side_of way) p.0.media) (map (λ (m : descriptions.Medium). exchanged m.profile) p.0.media) (added_by q.0) p.0
    (text, described_is (side_of way) h.media text p.0 p.1) (keying_adds q.0) (map_long _ p.0.media) (map_long _ p.0.media))

-- ---- of an answer

abbrev AddsLines : Keyed → Type 0
AddsLines k = AreAttributes k.lines

abbrev AnswerAdds : Answered → Type 0
AnswerAdds a = AreAttributes a.session × AllByRecursion (Sometimes AddsLines) a.media

any_of : {X : Type 0} (xs : List (Option X)) → AllByRecursion (Sometimes (λ (x : X). Unit {0})) xs
any_of [] = tt
any_of (None ∷ xs) = (tt, any_of xs)
any_of (Some x ∷ xs) = (tt, any_of xs)

own_lines_add : (k : ℕ) (offered : List CryptoLine) (n : descriptions.Medium) (y : Keyed) → keyed_by_own_lines k offered n ≡ Ok y → AddsLines y
own_lines_add k offered n y e =
    let a = after_ok_is (of_sdes k (lines_matched offered (first_of (crypto_values n.lines)))) _ y e in
    subst AddsLines (ok_is (keyed_by_matched a.0) y a.2) tt

peer_line_adds : (noise : List ℕ) (k : ℕ) (peer : CryptoLine) (n : descriptions.Medium) (y : Keyed) → keyed_by_peer_line noise k peer n ≡ Ok y → AddsLines y
peer_line_adds noise k peer n y e = subst AddsLines (ok_is _ y e) (crypto_is _, tt)

answer_adds : (o : Offer) (noise : List ℕ) (s : Sdp) (active : List Bool) (k : Keying) (a : Answered) → answered_by o noise s active k ≡ Ok a → AnswerAdds a
answer_adds o noise s active (PeerLines ls) a e =
    let p = after_ok_is (each_kept (keyed_by_peer_line noise) 0 active ls s.media) _ a e in
    subst AnswerAdds (ok_is _ a p.2)
    (tt, each_kept_is (λ (x : CryptoLine). Unit {0}) AddsLines (keyed_by_peer_line noise) (λ k x n y u v. peer_line_adds noise k x n y v) 0 active ls s.media p.0 (any_of ls) p.1)
answer_adds o noise s active (OwnLines ls) a e =
    let p = after_ok_is (each_kept keyed_by_own_lines 0 active ls s.media) _ a e in
    subst AnswerAdds (ok_is _ a p.2)
    (tt, each_kept_is (λ (x : List CryptoLine). Unit {0}) AddsLines keyed_by_own_lines (λ k x n y u v. own_lines_add k x n y v) 0 active ls s.media p.0 (any_of ls) p.1)
answer_adds o noise s active (PeerMessage b) a e =
    let over : List (Option (StreamKeys × StreamKeys)) = over_active o.side o.description.media b.streams in
    let p = after_ok_is (each_kept (λ k streams n. Ok (keyed_as_responder [] streams n)) 0 active over s.media) _ a e in
    subst AnswerAdds (ok_is _ a p.2) (
      (mikey_is _, tt),
      each_kept_is (λ (x : StreamKeys × StreamKeys). Unit {0}) AddsLines (λ k streams n. Ok (keyed_as_responder [] streams n))
          (λ k x n y u v. subst AddsLines (ok_is (keyed_as_responder [] x n) y v) tt) 0 active over s.media p.0 (any_of over) p.1,
    )
answer_adds o noise s active (PeerMessages bs) a e =
    let p = after_ok_is (each_kept (λ k x n. Ok (keyed_by_message x n)) 0 active (map own_streams bs) s.media) _ a e in
    subst AnswerAdds (ok_is _ a p.2) (
      tt,
      each_kept_is (λ (x : Accepted × (StreamKeys × StreamKeys)). Unit {0}) AddsLines (λ k x n. Ok (keyed_by_message x n))
          (λ k x n y u v. subst AddsLines (ok_is (keyed_by_message x n) y v) (mikey_is _, tt)) 0 active (map own_streams bs) s.media p.0 (any_of (map own_streams bs)) p.1,
    )
answer_adds o noise s active (OwnMessage w) a e =
    let count : ℕ = active_count o.side o.description.media in
    let p = after_ok_is (streams_answered w count (mikey_value s.session)) _ a e in
    let over : List (Option (StreamKeys × StreamKeys)) = over_active o.side o.description.media p.0 in
    let q = after_ok_is (each_kept (λ k streams n. Ok (keyed_as_initiator streams)) 0 active over s.media) _ a p.2 in
    subst AnswerAdds (ok_is _ a q.2) (
      tt,
      each_kept_is (λ (x : StreamKeys × StreamKeys). Unit {0}) AddsLines (λ k streams n. Ok (keyed_as_initiator streams))
          (λ k x n y u v. subst AddsLines (ok_is (keyed_as_initiator x) y v) tt) 0 active over s.media q.0 (any_of over) q.1,
    )

lines_are : (ks : List (Option Keyed)) → AllByRecursion (Sometimes AddsLines) ks → AllByRecursion AreAttributes (map lines_of ks)
lines_are [] p = tt
lines_are (None ∷ ks) p = (tt, lines_are ks p.1)
lines_are (Some k ∷ ks) p = (p.0, lines_are ks p.1)

after_long : (side : Side) (ms ns : List descriptions.Medium) → length ns ≡ length ms → length (actives_after side ms ns) ≡ length ns
after_long side [] [] a = refl
after_long side [] (n ∷ ns) a = absurd (omega (arith, a))
after_long side (m ∷ ms) [] a = refl
after_long side (m ∷ ms) (n ∷ ns) a = ap suc (after_long side ms ns (omega (arith, a)))

pub answer_own : Takes → Laws → (slot : ℕ) → slot < 256 → (o : Offer) (noise text : List ℕ) (g : AgreedAnswer) → agreed_answer slot o noise text ≡ Ok g → IsOwnText o.side slot (length o.description.media) g.text
unfolding agreed_answer
answer_own takes laws slot low o noise text g e =
    let p = after_ok_is (described (other_side o.side) (Some (length o.description.media)) text) _ g e in
    let active : List Bool = actives_after o.side o.description.media p.0.media in
    let q = after_ok_is (answered_by o noise p.0 active o.keying) _ g p.2 in
    let adds = answer_adds o noise p.0 active o.keying q.0 q.1 in
    let long : length p.0.media ≡ length o.description.media = described_count (other_side o.side) (length o.description.media) text p.0 p.1 in
    subst (λ (g : AgreedAnswer). IsOwnText o.side slot (length o.description.media) g.text) (ok_is (accepted_answer slot o p.0 active q.0) g q.2)
    (subst (λ n. IsOwnText o.side slot n (accepted_answer slot o p.0 active q.0).text) long
    (own_text takes laws o.side slot low active (map (λ (m : descriptions.Medium). m.profile) o.description.media) (record { session = q.0.session; media = map lines_of q.0.media }) p.0
    (text, described_is (other_side o.side) (Some (length o.description.media)) text p.0 p.1) (adds.0, lines_are q.0.media adds.1)
    (after_long o.side o.description.media p.0.media long) (map_long _ o.description.media ∙ sym long)))
