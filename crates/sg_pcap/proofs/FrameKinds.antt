-- Frames as they are written are read as what they are.
use Rattle.std.proofs.Common.{◌≡◌, ◌+◌, ◌-◌, ◌*◌, ◌<◌, ℕ, Bool, true, false, cond, not, eqb, ltb, List, [], ◌∷◌, ◌++◌, length, take, drop, slice_index, refl, sym, ap, ◌∙◌, subst, arith, length-append, append_assoc, get_or-append-add}
use Rattle.std.specs.Prelude.{◌/◌, ◌%◌, ◌||◌}
use Rattle.std.proofs.Math.Bool.{or-true}
use Rattle.std.proofs.Math.Seq.{take-append_seam, drop-append-add}
use Rattle.std.proofs.lemmas.Bool.{cond-true, cond-false, eq-eqb, le-ltb, lt-ltb, ne_eqb}
use Rattle.sg_pcap.specs.Fields.{u16_by_order}
use Rattle.sg_pcap.specs.Frames.{Framed, Passed, Skip, Datagram, datagram_in, frame_of, header_length_of, ip_version_of, is_fragment, is_ipv4, total_length_of}
use Rattle.sg_pcap.specs.Kinds.{Behind, Carried, Cut, CutHeader, Headless, IsCarried, IsFrame, IsPacket, IsSound, IsWhole, NoHeader, OfMore, OfPacket, OtherProtocol, OtherType, OtherVersion, ShortHeader, ShortPacket, TooLong, TooShort, Whole}
use Rattle.sg_pcap.specs.Written.{Ethernet, FitsEthernet, FitsIpv4, FitsUdp, Ipv4, Udp, ethernet_written, ipv4_written, two, udp_written}
use Rattle.sg_pcap.specs.declared.skips.SkipCause.TheVariants.{Fragment, CutShort, Malformed}

-- ---- octets behind others

at_behind : (xs ys : List ℕ) (n i : ℕ) → length xs ≡ n → slice_index (xs ++ ys) (n + i) ≡ slice_index ys i
at_behind xs ys n i size = subst (λ (m : ℕ). slice_index (xs ++ ys) (m + i) ≡ slice_index ys i) size (get_or-append-add xs ys i 0)

u16_behind : (xs ys : List ℕ) (n i : ℕ) → length xs ≡ n → u16_by_order true (xs ++ ys) (n + i) ≡ u16_by_order true ys i
u16_behind xs ys n i size =
    let a = at_behind xs ys n i size in
    let b : slice_index (xs ++ ys) (n + i + 1) ≡ slice_index ys (i + 1) = subst (λ (m : ℕ). slice_index (xs ++ ys) m ≡ slice_index ys (i + 1)) (omega arith) (at_behind xs ys n (i + 1) size) in
    λ j. a j * 256 + b j

-- ---- a datagram

udp_size : (u : Udp) (rest : List ℕ) → length (udp_written u ++ rest) ≡ 8 + length rest
udp_size u rest = omega arith

module _ (front padding source : List ℕ) where
  -- the fields of UDP's header, which stand behind the front
  udp_at : (u : Udp) (rest : List ℕ) (i value : ℕ) → u16_by_order true (udp_written u ++ rest) i ≡ value → u16_by_order true (front ++ (udp_written u ++ rest)) (length front + i) ≡ value
  udp_at u rest i value is = u16_behind front (udp_written u ++ rest) (length front) i refl ∙ is

  length_at : (u : Udp) (rest : List ℕ) → FitsUdp u → u16_by_order true (front ++ (udp_written u ++ rest)) (length front + 4) ≡ u.length
  length_at u rest fits = udp_at u rest 4 u.length (let small = fits.length in let e : u.length / 256 * 256 + u.length % 256 ≡ u.length = omega (arith, small) in e)

  abbrev Read : List ℕ → Framed → Type 0
  Read payload m = (frame : List ℕ) → frame ≡ front ++ (payload ++ padding)
      → slice_index frame 26 ∷ (slice_index frame 27 ∷ (slice_index frame 28 ∷ (slice_index frame 29 ∷ []))) ≡ source
      → datagram_in (length front) (length payload) frame ≡ m

  size_at : (u : Udp) (rest frame : List ℕ) → FitsUdp u → frame ≡ front ++ ((udp_written u ++ rest) ++ padding) → u16_by_order true frame (length front + 4) ≡ u.length
  size_at u rest frame fits is = ap (λ (f : List ℕ). u16_by_order true f (length front + 4)) is ∙ length_at u (rest ++ padding) fits

  held_at : (u : Udp) (held rest : List ℕ) → take (8 + length held - 8) (drop (length front + 8) (front ++ (udp_written u ++ (held ++ rest)))) ≡ held
  held_at u held rest =
      ap (take (8 + length held - 8)) (drop-append-add front (udp_written u ++ (held ++ rest)) 8)
      ∙ ap (λ (n : ℕ). take n (held ++ rest)) (omega arith) ∙ take-append_seam held rest

  carried : (u : Udp) (held behind : List ℕ) → FitsUdp u → u.length ≡ 8 + length held
      → Read (udp_written u ++ held ++ behind) (Datagram u.destination (record { ip = source; port = u.source }) held)
  carried u held behind fits sized frame is from =
      let size = size_at u (held ++ behind) frame fits is in
      let all = length-append held behind in
      let n = udp_size u (held ++ behind) in
      let source_small = fits.source in
      let destination_small = fits.destination in
      let to : u16_by_order true frame (length front + 2) ≡ u.destination =
      ap (λ (f : List ℕ). u16_by_order true f (length front + 2)) is
      ∙ udp_at u ((held ++ behind) ++ padding) 2 u.destination (let e : u.destination / 256 * 256 + u.destination % 256 ≡ u.destination = omega (arith, destination_small) in e) in
      let port : u16_by_order true frame (length front) ≡ u.source =
      ap (λ (f : List ℕ). u16_by_order true f (length front)) is
      ∙ subst (λ (n : ℕ). u16_by_order true (front ++ (udp_written u ++ ((held ++ behind) ++ padding))) n ≡ u.source) (omega arith)
      (udp_at u ((held ++ behind) ++ padding) 0 u.source (let e : u.source / 256 * 256 + u.source % 256 ≡ u.source = omega (arith, source_small) in e)) in
      let octets : take (u16_by_order true frame (length front + 4) - 8) (drop (length front + 8) frame) ≡ held =
      (λ i. take ((size ∙ sized) i - 8) (drop (length front + 8) ((is ∙ ap (λ (r : List ℕ). front ++ (udp_written u ++ r)) (append_assoc held behind padding)) i)))
      ∙ held_at u held (behind ++ padding) in
      cond-false (ltb (length (udp_written u ++ (held ++ behind))) 8) _ _ (le-ltb (length (udp_written u ++ (held ++ behind))) 8 (omega (arith, n)))
      ∙ cond-false (ltb (u16_by_order true frame (length front + 4)) 8) _ _ (ap (λ (n : ℕ). ltb n 8) size ∙ le-ltb u.length 8 (omega (arith, sized)))
      ∙ cond-false (ltb (length (udp_written u ++ (held ++ behind))) (u16_by_order true frame (length front + 4))) _ _
      (ap (λ (k : ℕ). ltb (length (udp_written u ++ (held ++ behind))) k) size ∙ le-ltb (length (udp_written u ++ (held ++ behind))) u.length (omega (arith, n, sized, all)))
      ∙ (λ i. Datagram (to i) (record { ip = from i; port = port i }) (octets i))

  carried_read : (payload : List ℕ) (m : Framed) → IsCarried source payload m → Read payload m
  carried_read payload m (Headless octets less) frame is from = rw (lt-ltb (length payload) 8 less) refl
  carried_read payload m (TooShort u rest fits less) frame is from =
      let n = udp_size u rest in
      rw (le-ltb (length (udp_written u ++ rest)) 8 (omega (arith, n)), size_at u rest frame fits is, lt-ltb u.length 8 less) refl
  carried_read payload m (TooLong u rest fits more) frame is from =
      let n = udp_size u rest in
      rw (
        le-ltb (length (udp_written u ++ rest)) 8 (omega (arith, n)),
        size_at u rest frame fits is,
        le-ltb u.length 8 (omega (arith, more)),
        lt-ltb (length (udp_written u ++ rest)) u.length (omega (arith, n, more)),
      ) refl
  carried_read payload m (Carried u held behind fits sized) frame is from = carried u held behind fits sized frame is from

-- ---- a packet

quad : (xs ys : List ℕ) → length xs ≡ 4 → slice_index (xs ++ ys) 0 ∷ (slice_index (xs ++ ys) 1 ∷ (slice_index (xs ++ ys) 2 ∷ (slice_index (xs ++ ys) 3 ∷ []))) ≡ xs
quad [] ys is = absurd (omega (arith, is))
quad (a ∷ []) ys is = absurd (omega (arith, is))
quad (a ∷ (b ∷ [])) ys is = absurd (omega (arith, is))
quad (a ∷ (b ∷ (c ∷ []))) ys is = absurd (omega (arith, is))
quad (a ∷ (b ∷ (c ∷ (d ∷ [])))) ys is = refl
quad (a ∷ (b ∷ (c ∷ (d ∷ (e ∷ xs))))) ys is = absurd (omega (arith, is))

-- the tests of a packet
abbrev judged : ℕ → ℕ → ℕ → ℕ → Bool → ℕ → Framed → Framed
judged version header total protocol part size m =
    cond (not (eqb version 4)) (Skip Malformed)
    (cond (ltb header 20) (Skip Malformed)
    (cond (ltb total header) (Skip Malformed)
    (cond (not (eqb protocol 17)) Passed (cond part (Skip Fragment) (cond (ltb size (14 + total)) (Skip CutShort) m)))))

ethernet_size : (e : Ethernet) → FitsEthernet e → length (ethernet_written e) ≡ 14
ethernet_size e fits =
    omega (arith, length-append (e.destination ++ e.source) (two true e.type), length-append e.destination e.source, fits.destination, fits.source)

type_read : (e : Ethernet) (rest : List ℕ) → FitsEthernet e → u16_by_order true (ethernet_written e ++ rest) 12 ≡ e.type
type_read e rest fits =
    let seam : ethernet_written e ++ rest ≡ (e.destination ++ e.source) ++ (two true e.type ++ rest) = append_assoc (e.destination ++ e.source) (two true e.type) rest in
    let size : length (e.destination ++ e.source) ≡ 12 = (let a = length-append e.destination e.source in let b = fits.destination in let c = fits.source in omega (arith, a, b, c)) in
    ap (λ (f : List ℕ). u16_by_order true f 12) seam ∙ u16_behind (e.destination ++ e.source) (two true e.type ++ rest) 12 0 size
    ∙ (let same : e.type / 256 * 256 + e.type % 256 ≡ e.type = omega (arith, fits.type) in same)

module _ (e : Ethernet) (h : Ipv4) (rest : List ℕ) (ethernet_fits : FitsEthernet e) (fits : FitsIpv4 h) where
  abbrev frame : List ℕ
  frame = ethernet_written e ++ (ipv4_written h ++ rest)

  abbrev flags : ℕ
  flags = h.reserved * 32768 + h.dont_fragment * 16384 + h.more_fragments * 8192 + h.offset

  flags_small : flags < 65536
  flags_small = let a = fits.reserved in let b = fits.dont_fragment in let c = fits.more_fragments in let d = fits.offset in omega (arith, a, b, c, d)

  version_is : ip_version_of frame ≡ h.version
  version_is =
      ap (λ (n : ℕ). n / 16) (at_behind (ethernet_written e) (ipv4_written h ++ rest) 14 0 (ethernet_size e ethernet_fits))
      ∙ (let same : (h.version * 16 + h.words) / 16 ≡ h.version = omega (arith, fits.version, fits.words) in same)

  header_is : header_length_of frame ≡ h.words * 4
  header_is =
      ap (λ (n : ℕ). n % 16 * 4) (at_behind (ethernet_written e) (ipv4_written h ++ rest) 14 0 (ethernet_size e ethernet_fits))
      ∙ (let same : (h.version * 16 + h.words) % 16 * 4 ≡ h.words * 4 = omega (arith, fits.words) in same)

  total_is : total_length_of frame ≡ h.total
  total_is =
      u16_behind (ethernet_written e) (ipv4_written h ++ rest) 14 2 (ethernet_size e ethernet_fits)
      ∙ (let same : h.total / 256 * 256 + h.total % 256 ≡ h.total = omega (arith, fits.total) in same)

  flags_are : u16_by_order true frame 20 ≡ flags
  flags_are =
      u16_behind (ethernet_written e) (ipv4_written h ++ rest) 14 6 (ethernet_size e ethernet_fits)
      ∙ (let same : flags / 256 * 256 + flags % 256 ≡ flags = omega (arith, flags_small) in same)

  more_is : flags / 8192 % 2 ≡ h.more_fragments
  more_is = let c = fits.more_fragments in let d = fits.offset in omega (arith, c, d)

  offset_is : flags % 8192 ≡ h.offset
  offset_is = let d = fits.offset in omega (arith, d)

  part_is : is_fragment frame ≡ (eqb h.more_fragments 1 || not (eqb h.offset 0))
  part_is = λ i. (eqb ((ap (λ (n : ℕ). n / 8192 % 2) flags_are ∙ more_is) i) 1 || not (eqb ((ap (λ (n : ℕ). n % 8192) flags_are ∙ offset_is) i) 0))

  protocol_is : slice_index frame 23 ≡ h.protocol
  protocol_is = at_behind (ethernet_written e) (ipv4_written h ++ rest) 14 9 (ethernet_size e ethernet_fits)

  ipv4_size : length (ipv4_written h) ≡ 20
  ipv4_size = let a = length-append h.source h.destination in let b = fits.source in let c = fits.destination in omega (arith, a, b, c)

  frame_size : length frame ≡ 34 + length rest
  frame_size =
      let c = ethernet_size e ethernet_fits in
      omega (arith, length-append (ethernet_written e) (ipv4_written h ++ rest), length-append (ipv4_written h) rest, c, ipv4_size)

  from_is : slice_index frame 26 ∷ (slice_index frame 27 ∷ (slice_index frame 28 ∷ (slice_index frame 29 ∷ []))) ≡ h.source
  from_is =
      let size = ethernet_size e ethernet_fits in
      let a = at_behind (ethernet_written e) (ipv4_written h ++ rest) 14 12 size in
      let b = at_behind (ethernet_written e) (ipv4_written h ++ rest) 14 13 size in
      let c = at_behind (ethernet_written e) (ipv4_written h ++ rest) 14 14 size in
      let d = at_behind (ethernet_written e) (ipv4_written h ++ rest) 14 15 size in
      (λ i. a i ∷ (b i ∷ (c i ∷ (d i ∷ []))))
      ∙ ap (λ (r : List ℕ). slice_index r 0 ∷ (slice_index r 1 ∷ (slice_index r 2 ∷ (slice_index r 3 ∷ [])))) (append_assoc h.source h.destination rest)
      ∙ quad h.source (h.destination ++ rest) fits.source

  -- what is read of a frame's packet, by the fields of its header
  read_is : e.type ≡ 2048 → frame_of frame ≡ judged h.version (h.words * 4) h.total h.protocol (eqb h.more_fragments 1 || not (eqb h.offset 0)) (34 + length rest) (datagram_in (14 + h.words * 4) (h.total - h.words * 4) frame)
  read_is type =
      cond-false (ltb (length frame) 14) _ _ (le-ltb (length frame) 14 (let n = frame_size in omega (arith, n)))
      ∙ cond-false (not (is_ipv4 frame)) _ _ (ap not (eq-eqb _ _ (type_read e (ipv4_written h ++ rest) ethernet_fits ∙ type)))
      ∙ cond-false (ltb (length frame) 34) _ _ (le-ltb (length frame) 34 (let n = frame_size in omega (arith, n)))
      ∙ (λ i. judged (version_is i) (header_is i) (total_is i) (protocol_is i) (part_is i) (frame_size i) (datagram_in (14 + header_is i) (total_is i - header_is i) frame))

  abbrev part : Bool
  part = eqb h.more_fragments 1 || not (eqb h.offset 0)

module _ (e : Ethernet) (h : Ipv4) (ethernet_fits : FitsEthernet e) (type : e.type ≡ 2048) (fits : FitsIpv4 h) where
  abbrev within : List ℕ → Framed
  within rest = datagram_in (14 + h.words * 4) (h.total - h.words * 4) (frame e h rest ethernet_fits fits)

  abbrev is_read : (rest : List ℕ) → frame_of (frame e h rest ethernet_fits fits) ≡ judged h.version (h.words * 4) h.total h.protocol (part e h rest ethernet_fits fits) (34 + length rest) (within rest)
  is_read rest = read_is e h rest ethernet_fits fits type

  is_sound : (rest : List ℕ) → IsSound h → frame_of (frame e h rest ethernet_fits fits)
      ≡ cond (not (eqb h.protocol 17)) Passed (cond (part e h rest ethernet_fits fits) (Skip Fragment) (cond (ltb (34 + length rest) (14 + h.total)) (Skip CutShort) (within rest)))
  is_sound rest s =
      is_read rest ∙ rw (eq-eqb h.version 4 s.version, le-ltb (h.words * 4) 20 (omega (arith, s.words)), le-ltb h.total (h.words * 4) s.inside) refl

  not_more : IsWhole h → eqb h.more_fragments 1 ≡ false
  not_more w = ap (λ (n : ℕ). eqb n 1) w.last

  pub whole : (options payload padding : List ℕ) (m : Framed) → IsSound h → IsWhole h → h.protocol ≡ 17 → 20 + length options ≡ h.words * 4 → h.words * 4 + length payload ≡ h.total
      → IsCarried h.source payload m → frame_of (frame e h (options ++ payload ++ padding) ethernet_fits fits) ≡ m
  whole options payload padding m s w udp words total is =
      let front : List ℕ = ethernet_written e ++ (ipv4_written h ++ options) in
      let a = length-append (options ++ payload) padding in
      let front_size : length front ≡ 14 + h.words * 4 =
      (let p = length-append (ethernet_written e) (ipv4_written h ++ options) in
      let r = ethernet_size e ethernet_fits in
      omega (arith, p, length-append (ipv4_written h) options, r, ipv4_size e h (options ++ payload ++ padding) ethernet_fits fits, words)) in
      let seam : ethernet_written e ++ (ipv4_written h ++ ((options ++ payload) ++ padding)) ≡ front ++ (payload ++ padding) =
      ap (λ (r : List ℕ). ethernet_written e ++ (ipv4_written h ++ r)) (append_assoc options payload padding)
      ∙ ap (λ (r : List ℕ). ethernet_written e ++ r) (sym (append_assoc (ipv4_written h) options (payload ++ padding)))
      ∙ sym (append_assoc (ethernet_written e) (ipv4_written h ++ options) (payload ++ padding)) in
      is_sound (options ++ payload ++ padding) s
      ∙ rw (
        eq-eqb h.protocol 17 udp,
        not_more w,
        eq-eqb h.offset 0 w.first,
        le-ltb (34 + length (options ++ payload ++ padding)) (14 + h.total) (omega (arith, a, length-append options payload, words, total)),
      )
      ((λ i. datagram_in (sym front_size i) ((let n : h.total - h.words * 4 ≡ length payload = omega (arith, total) in n) i) (ethernet_written e ++ (ipv4_written h ++ ((options ++ payload) ++ padding))))
      ∙ carried_read front padding h.source payload m is (ethernet_written e ++ (ipv4_written h ++ ((options ++ payload) ++ padding))) seam (from_is e h (options ++ payload ++ padding) ethernet_fits fits))

  by_packet : (rest : List ℕ) (m : Framed) → IsPacket h rest m → frame_of (frame e h rest ethernet_fits fits) ≡ m
  by_packet rest m (OtherVersion r isnt) = is_read rest ∙ rw (ne_eqb h.version 4 isnt) refl
  by_packet rest m (ShortHeader r is less) = is_read rest ∙ rw (eq-eqb h.version 4 is, lt-ltb (h.words * 4) 20 (omega (arith, less))) refl
  by_packet rest m (ShortPacket r is five less) =
      is_read rest ∙ rw (eq-eqb h.version 4 is, le-ltb (h.words * 4) 20 (omega (arith, five)), lt-ltb h.total (h.words * 4) less) refl
  by_packet rest m (OtherProtocol r s isnt) = is_sound rest s ∙ rw (ne_eqb h.protocol 17 isnt) refl
  by_packet rest m (OfMore r s is more) = is_sound rest s ∙ rw (eq-eqb h.protocol 17 is, eq-eqb h.more_fragments 1 more) refl
  by_packet rest m (Behind r s is isnt) =
      is_sound rest s ∙ rw (eq-eqb h.protocol 17 is, ne_eqb h.offset 0 isnt, or-true (eqb h.more_fragments 1)) refl
  by_packet rest m (Cut r s is w less) =
      is_sound rest s
      ∙ rw (eq-eqb h.protocol 17 is, not_more w, eq-eqb h.offset 0 w.first, lt-ltb (34 + length rest) (14 + h.total) (omega (arith, less))) refl
  by_packet rest m (Whole options payload padding n s is w words total held) = whole options payload padding m s w is words total held

pub frame_read : (frame : List ℕ) (m : Framed) → IsFrame frame m → frame_of frame ≡ m
frame_read frame m (NoHeader octets less) = cond-true (ltb (length frame) 14) _ _ (lt-ltb (length frame) 14 less)
frame_read frame m (OtherType e rest fits isnt) =
    let size = ethernet_size e fits in
    let all = length-append (ethernet_written e) rest in
    rw (le-ltb (length (ethernet_written e ++ rest)) 14 (omega (arith, size, all)), type_read e rest fits, ne_eqb e.type 2048 isnt) refl
frame_read frame m (CutHeader e rest fits is less) =
    let size = ethernet_size e fits in
    let all = length-append (ethernet_written e) rest in
    rw (
      le-ltb (length (ethernet_written e ++ rest)) 14 (omega (arith, size, all)),
      type_read e rest fits,
      eq-eqb e.type 2048 is,
      lt-ltb (length (ethernet_written e ++ rest)) 34 (omega (arith, size, all, less)),
    ) refl
frame_read frame m (OfPacket e h rest n ethernet_fits is fits held) =
    ap frame_of (append_assoc (ethernet_written e) (ipv4_written h) rest) ∙ by_packet e h ethernet_fits is fits rest m held
