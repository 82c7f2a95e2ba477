-- Each frame of octets is of one of the kinds.
use Rattle.std.proofs.Common.{◌≡◌, ◌+◌, ◌-◌, ◌*◌, ◌≤◌, ◌<◌, ◌^◌, ℕ, zero, suc, List, [], ◌∷◌, ◌++◌, length, take, drop, slice_index, refl, ap, ◌∙◌, subst, inl, inr, arith, append_assoc, length-drop, length-take}
use Rattle.std.specs.Prelude.{◌/◌, ◌%◌}
use Rattle.std.specs.List.{AllByRecursion}
use Rattle.std.proofs.lemmas.Bool.{cases_eq, cases_lt}
use Rattle.std.proofs.lemmas.List.{take-append-drop}
use Rattle.sg_pcap.specs.Frames.{Framed, Passed, Skip, Datagram}
use Rattle.sg_pcap.specs.Kinds.{Behind, Carried, Cut, CutHeader, Headless, IsCarried, IsFrame, IsPacket, IsSound, IsWhole, NoHeader, OfMore, OfPacket, OtherProtocol, OtherType, OtherVersion, ShortHeader, ShortPacket, TooLong, TooShort, Whole}
use Rattle.sg_pcap.specs.Written.{Ethernet, FitsEthernet, FitsIpv4, FitsUdp, Ipv4, Udp, ethernet_written, ipv4_written, udp_written}
use Rattle.sg_pcap.specs.declared.skips.SkipCause.TheVariants.{Fragment, CutShort, Malformed}

abbrev pub AreOctets : List ℕ → Type 0
AreOctets xs = AllByRecursion (λ o. o < 256) xs

small_at : (xs : List ℕ) (i : ℕ) → AreOctets xs → i < length xs → slice_index xs i < 256
small_at [] i all less = absurd (omega (arith, less))
small_at (x ∷ xs) zero all less = all.0
small_at (x ∷ xs) (suc i) all less = small_at xs i all.1 (omega (arith, less))

small_drop : (n : ℕ) (xs : List ℕ) → AreOctets xs → AreOctets (drop n xs)
small_drop zero xs all = all
small_drop (suc n) [] all = tt
small_drop (suc n) (x ∷ xs) all = small_drop n xs all.1

small_take : (n : ℕ) (xs : List ℕ) → AreOctets xs → AreOctets (take n xs)
small_take zero xs all = tt
small_take (suc n) [] all = tt
small_take (suc n) (x ∷ xs) all = (all.0, small_take n xs all.1)

highest : (x y : ℕ) → y < 256 → (x * 256 + y) / 256 ≡ x
highest x y small = omega (arith, small)

lowest : (x y : ℕ) → y < 256 → (x * 256 + y) % 256 ≡ y
lowest x y small = omega (arith, small)

sixteen : (x y : ℕ) → x < 256 → y < 256 → x * 256 + y < 2 ^ 16
sixteen x y a b = omega (arith, a, b)

abbrev at16 : List ℕ → ℕ → ℕ
at16 xs i = slice_index xs i * 256 + slice_index xs (i + 1)

at16_small : (xs : List ℕ) (i : ℕ) → AreOctets xs → i + 2 ≤ length xs → at16 xs i < 2 ^ 16
at16_small xs i all long = sixteen (slice_index xs i) (slice_index xs (i + 1)) (small_at xs i all (omega (arith, long))) (small_at xs (i + 1) all (omega (arith, long)))

-- ---- datagrams

abbrev udp_in : List ℕ → Udp
udp_in xs = record { source = at16 xs 0; destination = at16 xs 2; length = at16 xs 4; checksum = at16 xs 6 }

udp_fits : (xs : List ℕ) → AreOctets xs → 8 ≤ length xs → FitsUdp (udp_in xs)
udp_fits xs all long = record {
  source = at16_small xs 0 all (omega (arith, long));
  destination = at16_small xs 2 all (omega (arith, long));
  length = at16_small xs 4 all (omega (arith, long));
}

udp_there : (xs : List ℕ) → AreOctets xs → 8 ≤ length xs → udp_written (udp_in xs) ++ drop 8 xs ≡ xs
udp_there (a ∷ b ∷ c ∷ d ∷ e ∷ f ∷ g ∷ h ∷ r) all long =
    let p = all.1.0 in
    let q = all.1.1.1.0 in
    let s = all.1.1.1.1.1.0 in
    let t = all.1.1.1.1.1.1.1.0 in
    λ i. highest a b p i ∷ (lowest a b p i ∷ (highest c d q i ∷ (lowest c d q i ∷ (highest e f s i ∷ (lowest e f s i ∷ (highest g h t i ∷ (lowest g h t i ∷ r)))))))
udp_there xs all long = absurd (omega (arith, long))

module _ (source : List ℕ) where
  abbrev Some : List ℕ → Type 0
  Some payload = (m : Framed) × IsCarried source payload m

  with_header : (u : Udp) (rest : List ℕ) → FitsUdp u → Some (udp_written u ++ rest)
  with_header u rest fits = elim (cases_lt u.length 8) [
    | inl less ↦ (Skip Malformed, TooShort u rest fits less)
    | inr least ↦ elim (cases_lt (8 + length rest) u.length) [
      | inl more ↦ (Skip Malformed, TooLong u rest fits more)
      | inr most ↦
          (let sized : u.length ≡ 8 + length (take (u.length - 8) rest) = omega (arith, least, most, length-take (u.length - 8) rest) in
          subst (λ (r : List ℕ). Some (udp_written u ++ r)) (take-append-drop (u.length - 8) rest)
          (Datagram u.destination (record { ip = source; port = u.source }) (take (u.length - 8) rest), Carried u (take (u.length - 8) rest) (drop (u.length - 8) rest) fits sized))
    ]
  ]

  carried : (payload : List ℕ) → AreOctets payload → Some payload
  carried payload all = elim (cases_lt (length payload) 8) [
    | inl less ↦ (Skip Malformed, Headless payload less)
    | inr long ↦ subst Some (udp_there payload all long) (with_header (udp_in payload) (drop 8 payload) (udp_fits payload all long))
  ]

-- ---- packets

module _ (h : Ipv4) (fits : FitsIpv4 h) (rest : List ℕ) (all : AreOctets rest) where
  abbrev SomePacket : Type 0
  SomePacket = (m : Framed) × IsPacket h rest m

  whole : IsSound h → h.protocol ≡ 17 → IsWhole h → h.total ≤ 20 + length rest → SomePacket
  whole sound udp is long =
      let five = sound.words in
      let inside = sound.inside in
      let options : List ℕ = take (h.words * 4 - 20) rest in
      let behind : List ℕ = drop (h.words * 4 - 20) rest in
      let one = carried h.source (take (h.total - h.words * 4) (drop (h.words * 4 - 20) rest)) (small_take (h.total - h.words * 4) (drop (h.words * 4 - 20) rest) (small_drop (h.words * 4 - 20) rest all)) in
      let a = length-take (h.words * 4 - 20) rest in
      let b = length-drop (h.words * 4 - 20) rest in
      let c = length-take (h.total - h.words * 4) (drop (h.words * 4 - 20) rest) in
      let words : 20 + length (take (h.words * 4 - 20) rest) ≡ h.words * 4 = omega (arith, a, five, inside, long) in
      let total : h.words * 4 + length (take (h.total - h.words * 4) (drop (h.words * 4 - 20) rest)) ≡ h.total = omega (arith, b, c, five, inside, long) in
      let seam : take (h.words * 4 - 20) rest ++ take (h.total - h.words * 4) (drop (h.words * 4 - 20) rest) ++ drop (h.total - h.words * 4) (drop (h.words * 4 - 20) rest) ≡ rest =
      append_assoc (take (h.words * 4 - 20) rest) (take (h.total - h.words * 4) (drop (h.words * 4 - 20) rest)) (drop (h.total - h.words * 4) (drop (h.words * 4 - 20) rest))
      ∙ ap (λ (r : List ℕ). take (h.words * 4 - 20) rest ++ r) (take-append-drop (h.total - h.words * 4) (drop (h.words * 4 - 20) rest))
      ∙ take-append-drop (h.words * 4 - 20) rest in (
        one.0,
        subst (λ (r : List ℕ). IsPacket h r one.0) seam
            (Whole (take (h.words * 4 - 20) rest) (take (h.total - h.words * 4) (drop (h.words * 4 - 20) rest)) (drop (h.total - h.words * 4) (drop (h.words * 4 - 20) rest)) one.0 sound udp is words total one.1),
      )

  of_udp : IsSound h → h.protocol ≡ 17 → SomePacket
  of_udp sound udp = elim (cases_eq h.more_fragments 1) [
    | inl more ↦ (Skip Fragment, OfMore rest sound udp more)
    | inr last ↦ elim (cases_eq h.offset 0) [
      | inr behind ↦ (Skip Fragment, Behind rest sound udp behind)
      | inl first ↦
          (let bit = fits.more_fragments in
          let none : h.more_fragments ≡ 0 = below_two h.more_fragments bit last in
          elim (cases_lt (20 + length rest) h.total) [
            | inl less ↦ (Skip CutShort, Cut rest sound udp (record { last = none; first = first }) less)
            | inr long ↦ whole sound udp (record { last = none; first = first }) long
          ])
    ]
  ]
    where
      below_two : (n : ℕ) → n < 2 → ¬ (n ≡ 1) → n ≡ 0
      below_two zero less isnt = refl
      below_two (suc zero) less isnt = absurd (isnt refl)
      below_two (suc (suc n)) less isnt = absurd (omega (arith, less))

  packet : SomePacket
  packet = elim (cases_eq h.version 4) [
    | inr isnt ↦ (Skip Malformed, OtherVersion rest isnt)
    | inl version ↦ elim (cases_lt h.words 5) [
      | inl less ↦ (Skip Malformed, ShortHeader rest version less)
      | inr five ↦ elim (cases_lt h.total (h.words * 4)) [
        | inl less ↦ (Skip Malformed, ShortPacket rest version five less)
        | inr inside ↦ elim (cases_eq h.protocol 17) [
          | inr isnt ↦ (Passed, OtherProtocol rest (record { version = version; words = five; inside = inside }) isnt)
          | inl udp ↦ of_udp (record { version = version; words = five; inside = inside }) udp
        ]
      ]
    ]
  ]

abbrev flags_in : List ℕ → ℕ
flags_in xs = at16 xs 6

abbrev ipv4_in : List ℕ → Ipv4
ipv4_in xs = record {
  version = slice_index xs 0 / 16;
  words = slice_index xs 0 % 16;
  service = slice_index xs 1;
  total = at16 xs 2;
  identification = at16 xs 4;
  reserved = flags_in xs / 32768;
  dont_fragment = flags_in xs / 16384 % 2;
  more_fragments = flags_in xs / 8192 % 2;
  offset = flags_in xs % 8192;
  time_to_live = slice_index xs 8;
  protocol = slice_index xs 9;
  checksum = at16 xs 10;
  source = take 4 (drop 12 xs);
  destination = take 4 (drop 16 xs);
}

ipv4_fits : (xs : List ℕ) → AreOctets xs → 20 ≤ length xs → FitsIpv4 (ipv4_in xs)
ipv4_fits xs all long =
    record {
      version = omega (arith, small_at xs 0 all (omega (arith, long)));
      words = omega arith;
      total = at16_small xs 2 all (omega (arith, long));
      reserved = omega (arith, at16_small xs 6 all (omega (arith, long)));
      dont_fragment = omega arith;
      more_fragments = omega arith;
      offset = omega arith;
      source = (let b = length-take 4 (drop 12 xs) in let c = length-drop 12 xs in omega (arith, b, c, long));
      destination = (let b = length-take 4 (drop 16 xs) in let c = length-drop 16 xs in omega (arith, b, c, long));
    }

flags_again : (n : ℕ) → n / 32768 * 2 ^ 15 + n / 16384 % 2 * 2 ^ 14 + n / 8192 % 2 * 2 ^ 13 + n % 8192 ≡ n
flags_again n = omega arith

ipv4_there : (xs : List ℕ) → AreOctets xs → 20 ≤ length xs → ipv4_written (ipv4_in xs) ++ drop 20 xs ≡ xs
ipv4_there (a ∷ b ∷ c ∷ d ∷ e ∷ f ∷ g ∷ h ∷ j ∷ k ∷ l ∷ m ∷ n ∷ o ∷ p ∷ q ∷ s ∷ t ∷ u ∷ v ∷ r) all long =
    let first : a / 16 * 16 + a % 16 ≡ a = omega arith in
    let pd = all.1.1.1.0 in
    let pf = all.1.1.1.1.1.0 in
    let ph = all.1.1.1.1.1.1.1.0 in
    let pm = all.1.1.1.1.1.1.1.1.1.1.1.0 in
    let again = flags_again (g * 256 + h) in
    λ i. first i ∷ (b ∷ (highest c d pd i ∷ (lowest c d pd i ∷ (highest e f pf i ∷ (lowest e f pf i ∷ ((ap (λ (x : ℕ). x / 256) again ∙ highest g h ph) i ∷ ((ap (λ (x : ℕ). x % 256) again ∙ lowest g h ph) i
    ∷ (j ∷ (k ∷ (highest l m pm i ∷ (lowest l m pm i ∷ (n ∷ (o ∷ (p ∷ (q ∷ (s ∷ (t ∷ (u ∷ (v ∷ r)))))))))))))))))))
ipv4_there xs all long = absurd (omega (arith, long))

-- ---- frames

abbrev ethernet_in : List ℕ → Ethernet
ethernet_in xs = record { destination = take 6 xs; source = take 6 (drop 6 xs); type = at16 xs 12 }

ethernet_fits : (xs : List ℕ) → AreOctets xs → 14 ≤ length xs → FitsEthernet (ethernet_in xs)
ethernet_fits xs all long = record {
  destination = (let b = length-take 6 xs in omega (arith, b, long));
  source = (let b = length-take 6 (drop 6 xs) in let c = length-drop 6 xs in omega (arith, b, c, long));
  type = at16_small xs 12 all (omega (arith, long));
}

ethernet_there : (xs : List ℕ) → AreOctets xs → 14 ≤ length xs → ethernet_written (ethernet_in xs) ++ drop 14 xs ≡ xs
ethernet_there (a ∷ b ∷ c ∷ d ∷ e ∷ f ∷ g ∷ h ∷ j ∷ k ∷ l ∷ m ∷ n ∷ o ∷ r) all long =
    let small = all.1.1.1.1.1.1.1.1.1.1.1.1.1.0 in
    λ i. a ∷ (b ∷ (c ∷ (d ∷ (e ∷ (f ∷ (g ∷ (h ∷ (j ∷ (k ∷ (l ∷ (m ∷ (highest n o small i ∷ (lowest n o small i ∷ r)))))))))))))
ethernet_there xs all long = absurd (omega (arith, long))

abbrev SomeFrame : List ℕ → Type 0
SomeFrame frame = (m : Framed) × IsFrame frame m

in_ethernet : (e : Ethernet) → FitsEthernet e → (rest : List ℕ) → AreOctets rest → SomeFrame (ethernet_written e ++ rest)
in_ethernet e fits rest all = elim (cases_eq e.type 2048) [
  | inr isnt ↦ (Passed, OtherType e rest fits isnt)
  | inl type ↦ elim (cases_lt (length rest) 20) [
    | inl less ↦ (Skip CutShort, CutHeader e rest fits type less)
    | inr long ↦
        (let header = ipv4_fits rest all long in
        let one = packet (ipv4_in rest) header (drop 20 rest) (small_drop 20 rest all) in
        subst (λ (r : List ℕ). SomeFrame (ethernet_written e ++ r)) (ipv4_there rest all long)
        (one.0, subst (λ (f : List ℕ). IsFrame f one.0) (append_assoc (ethernet_written e) (ipv4_written (ipv4_in rest)) (drop 20 rest)) (OfPacket e (ipv4_in rest) (drop 20 rest) one.0 fits type header one.1)))
  ]
]

pub every_frame : (frame : List ℕ) → AreOctets frame → SomeFrame frame
every_frame frame all = elim (cases_lt (length frame) 14) [
  | inl less ↦ (Passed, NoHeader frame less)
  | inr long ↦ subst SomeFrame (ethernet_there frame all long) (in_ethernet (ethernet_in frame) (ethernet_fits frame all long) (drop 14 frame) (small_drop 14 frame all))
]
