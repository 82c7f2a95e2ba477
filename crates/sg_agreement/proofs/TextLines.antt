-- What is agreed by crypto lines stands in the texts.
use Rattle.std.proofs.Common.{◌≡◌, inl, inr, ℕ, ◌+◌, Bool, true, false, cond, eqb, List, [], ◌∷◌, ◌++◌, length, map, drop, codes, Option, Some, None, Result, Ok, Err, refl, sym, ap, ◌∙◌, subst, arith}
use Rattle.std.proofs.lemmas.Bool.{eqb-true}
use Rattle.std.proofs.lemmas.List.{take-append-drop}
use Rattle.std.proofs.lemmas.Slice.Eq.{bytes_eq-Decides}
use Rattle.std.specs.Prelude.{nat_eq, ◌||◌, ◌&&◌}
use Rattle.std.specs.List.{AllByRecursion, Any, cons_option, filter_map, find, list_any, starts_with}
use Rattle.std.specs.Option.{is_some, option_map}
use Rattle.sg_base.proofs.Cases.{and_then_some, guarded, some_is}
use Rattle.sg_base.specs.Mkis.{MkiValue}
use Rattle.sg_base.specs.declared.addresses.Side.TheVariants.{Secure, Plain}
use Rattle.sg_base.specs.declared.faults.Refusal.{Refusal}
use Rattle.sg_base.specs.declared.faults.SdesFault.{SdesFault}
use Rattle.sg_base.specs.declared.faults.SdesFault.TheVariants.{Tag, Suite}
use Rattle.sg_sdes.specs.Answers.{answer_by, chosen_of, matched, offered_by, or_next, same_suite}
use Rattle.sg_sdes.specs.CryptoOf.{crypto_of}
use Rattle.sg_sdes.specs.Keys as lines
use Rattle.sg_sdes.specs.declared.lines.CryptoLine.{CryptoLine}
use Rattle.sg_sdp.specs.Addresses.{with_address}
use Rattle.sg_sdp.specs.Carrying.{carried, carried_media, carried_medium}
use Rattle.sg_sdp.specs.Reading.{description_of}
use Rattle.sg_sdp.specs.declared.medium.Medium as descriptions
use Rattle.sg_sdp.specs.declared.sdp.Sdp.{Sdp}
use Rattle.sg_session.proofs.Inversions.{after_ok_is, ok_is}
use Rattle.sg_session.proofs.Lists.{any_here, any_there, any_weaker, each_weaker}
use Rattle.sg_session.specs.Stages.{after_ok}
use Rattle.sg_agreement.proofs.FewMedia.{described_is, described_count, of_answer, of_offer}
use Rattle.sg_agreement.proofs.Inversions.{find_all}
use Rattle.sg_agreement.proofs.KeyedSound.{sdes_is}
use Rattle.sg_agreement.specs.Answers.{Answered, AgreedAnswer, accepted_answer, agreed_answer, lines_of}
use Rattle.sg_agreement.specs.Attributes.{behind, crypto_values, ends_word, first_of, has_message, mikey_rest, mikey_value}
use Rattle.sg_agreement.specs.CarriedTexts.{Added, carried_text, crypto_attribute, exchanged, ports_from, with_added, with_media_lines}
use Rattle.sg_agreement.specs.Described.{described}
use Rattle.sg_agreement.specs.EachMedium.{each_active, each_kept, if_active, if_kept}
use Rattle.sg_agreement.specs.Keyed.{Keyed, media_agreed, medium_agreed}
use Rattle.sg_agreement.specs.Keying.{Keying, PeerLines, OwnLines, Offer, attributes_of}
use Rattle.sg_agreement.specs.LineAnswers.{keyed_by_answer, keyed_by_matched, keyed_by_own_lines, keyed_by_peer_line, lines_matched}
use Rattle.sg_agreement.specs.Media.{Medium}
use Rattle.sg_agreement.specs.Messages.{AtHand}
use Rattle.sg_agreement.specs.Offers.{AgreedOffer, accepted_offer, agreed_offer, chosen_in, keying_by_messages, keying_of, noise_of}
use Rattle.sg_agreement.specs.Refusals.{of_sdes}
use Rattle.sg_agreement.specs.Sides.{actives, actives_after, is_active}
use Rattle.sg_agreement.specs.Streams.{line_key, octets_of, stream_of_line, window_of}
use Rattle.sg_agreement.specs.TextLines.{IsMessageLine, HasNoMessage, HasLine, TellsLine, identifier, IsUnder, IsWindow, IsOfTexts, AreOfTexts, StandInTexts}
use Rattle.sg_agreement.specs.declared.ways.Way.TheVariants.{FromSecure, SdesFromPlain}

-- ---- attributes

pub behind_is : (prefix line value : List ℕ) → behind prefix line ≡ Some value → line ≡ prefix ++ value
behind_is prefix line value e =
    let g = guarded (starts_with nat_eq line prefix) (drop (length prefix) line) value e in
    sym (take-append-drop (length prefix) line)
    ∙ (ap (λ (l : List ℕ). l ++ drop (length prefix) line) (sym ((bytes_eq-Decides prefix _).0 g.0)) ∙ ap (λ (l : List ℕ). prefix ++ l) g.1)

-- what a filter keeps first, is of a line
pub first_is : (f : List ℕ → Option (List ℕ)) (ls : List (List ℕ)) (value : List ℕ) → first_of (filter_map f ls) ≡ Some value → Any (λ line. f line ≡ Some value) ls
first_is f [] value e = absurd cc
first_is f (l ∷ ls) value e = go (first_is f ls value) (f l) refl e
  where
    go : (first_of (filter_map f ls) ≡ Some value → Any (λ line. f line ≡ Some value) ls) → (o : Option (List ℕ)) → f l ≡ o → first_of (cons_option o (filter_map f ls)) ≡ Some value
        → Any (λ line. f line ≡ Some value) (l ∷ ls)
    go rest None is e = any_there _ l ls (rest e)
    go rest (Some v) is e = any_here _ l ls (is ∙ e)

-- ---- a message

pub mikey_is : (line value : List ℕ) → mikey_rest line ≡ Some value → IsMessageLine line
mikey_is line value e =
    let a = and_then_some (behind (codes "a=key-mgmt:mikey") line) _ value e in
    let b = guarded (ends_word a.0) a.0 value a.2 in
    go a.0 (behind_is (codes "a=key-mgmt:mikey") line a.0 a.1) b.0
  where
    go : (rest : List ℕ) → line ≡ codes "a=key-mgmt:mikey" ++ rest → ends_word rest ≡ true → IsMessageLine line
    go [] is ends = ([], inl is)
    go (x ∷ rest) is ends = (rest, inr (is ∙ ap (λ x. codes "a=key-mgmt:mikey" ++ (x ∷ rest)) (eqb-true x 32 ends)))

no_value : (ls : List (List ℕ)) → AllByRecursion (λ line. ¬ IsMessageLine line) ls → filter_map mikey_rest ls ≡ []
no_value [] none = refl
no_value (l ∷ ls) none = go (no_value ls none.1) (mikey_rest l) refl
  where
    go : filter_map mikey_rest ls ≡ [] → (o : Option (List ℕ)) → mikey_rest l ≡ o → cons_option o (filter_map mikey_rest ls) ≡ []
    go rest None is = rest
    go rest (Some v) is = absurd (none.0 (mikey_is l v is))

pub no_message : (ls : List (List ℕ)) → AllByRecursion (λ line. ¬ IsMessageLine line) ls → is_some (mikey_value ls) ≡ false
unfolding mikey_value
no_message ls none = ap (λ (values : List (List ℕ)). is_some (first_of values)) (no_value ls none)

none_of_media : (ms : List descriptions.Medium) → AllByRecursion (λ (m : descriptions.Medium). AllByRecursion (λ line. ¬ IsMessageLine line) m.lines) ms
    → list_any (λ (m : descriptions.Medium). is_some (mikey_value m.lines)) ms ≡ false
none_of_media [] none = refl
none_of_media (m ∷ ms) none =
    let this = no_message m.lines none.0 in
    let rest = none_of_media ms none.1 in
    λ i. this i || rest i

pub has_none : (s : Sdp) → HasNoMessage s → has_message s ≡ false
has_none s none =
    let session = no_message s.session none.session in
    let media = none_of_media s.media none.media in
    λ i. session i || media i

-- ---- crypto attributes

abbrev IsSaid : CryptoLine → List ℕ → Type 0
IsSaid l line = (value : List ℕ) × (line ≡ codes "a=crypto:" ++ value) × (crypto_of value ≡ Ok l)

chosen_is : (ls : List (List ℕ)) (l : CryptoLine) → chosen_of (filter_map (behind (codes "a=crypto:")) ls) ≡ Ok l → Any (IsSaid l) ls
unfolding chosen_of
chosen_is [] l e = absurd cc
chosen_is (line ∷ ls) l e = go (chosen_is ls l) (behind (codes "a=crypto:") line) refl e
  where
    Rest : Type 0
    Rest = chosen_of (filter_map (behind (codes "a=crypto:")) ls) ≡ Ok l → Any (IsSaid l) ls

    read : Rest → (value : List ℕ) → line ≡ codes "a=crypto:" ++ value → (r : Result CryptoLine SdesFault) → crypto_of value ≡ r → or_next r (chosen_of (filter_map (behind (codes "a=crypto:")) ls)) ≡ Ok l → Any (IsSaid l) (line ∷ ls)
    read rest value at (Ok x) is e = any_here (IsSaid l) line ls (value, at, is ∙ e)
    read rest value at (Err fault) is e = any_there (IsSaid l) line ls (rest e)

    go : Rest → (o : Option (List ℕ)) → behind (codes "a=crypto:") line ≡ o → chosen_of (cons_option o (filter_map (behind (codes "a=crypto:")) ls)) ≡ Ok l → Any (IsSaid l) (line ∷ ls)
    go rest None is e = any_there (IsSaid l) line ls (rest e)
    go rest (Some value) is e = read rest value (behind_is (codes "a=crypto:") line value is) (crypto_of value) refl e

chosen_said : (k : ℕ) (m : descriptions.Medium) (l : CryptoLine) → chosen_in k m ≡ Ok l → HasLine m l
unfolding crypto_values
chosen_said k m l e = chosen_is m.lines l (sdes_is k (chosen_of (crypto_values m.lines)) l e)

-- ---- what is agreed under two lines

mapped : {A B C : Type 0} (f : A → B) (g : B → C) (h : A → C) → ((x : A) → g (f x) ≡ h x) → (xs : List A) → map g (map f xs) ≡ map h xs
mapped f g h same [] = refl
mapped f g h same (x ∷ xs) =
    let this = same x in
    let rest = mapped f g h same xs in
    λ i. this i ∷ rest i

pub octets_are : (m : Option MkiValue) → octets_of m ≡ identifier m
octets_are None = refl
octets_are (Some m) = refl

under : (peer l : CryptoLine) → IsUnder (stream_of_line peer l) l
under peer l = record {
  masters = mapped line_key (λ k. k.master) (λ k. k.key) (λ k. refl) l.keys;
  mkis = mapped line_key (λ k. k.mki) (λ k. identifier k.mki) (λ k. octets_are k.mki) l.keys;
  lives = mapped line_key (λ k. k.life) (λ k. k.lifetime) (λ k. refl) l.keys;
  roc = refl;
  sources = refl;
  tags = refl;
}

window_is : (size : Option ℕ) → IsWindow size (window_of size)
window_is None = refl
window_is (Some size) = refl

-- ---- the offer is the peer's

pub kept_some : {X Y : Type 0} (b : Bool) (o : Option X) (value : X → Result Y Refusal) (y : Y) → if_kept b o value ≡ Ok (Some y) → (x : X) × (o ≡ Some x) × (value x ≡ Ok y)
kept_some false o value y e = absurd cc
kept_some true None value y e = absurd cc
kept_some true (Some x) value y e =
    let a = after_ok_is (value x) (λ y. Ok (Some y)) (Some y) e in
    (x, refl, a.1 ∙ ap Ok (some_is a.0 y (ok_is (Some a.0) (Some y) a.2)))

pub active_some : {X : Type 0} (b : Bool) (r : Result X Refusal) (x : X) → if_active b r ≡ Ok (Some x) → r ≡ Ok x
active_some false r x e = absurd cc
active_some true r x e =
    let a = after_ok_is r (λ x. Ok (Some x)) (Some x) e in
    a.1 ∙ ap Ok (some_is a.0 x (ok_is (Some a.0) (Some x) a.2))

pub any_behind : {X : Type 0} (P : X → Type 0) (xs ys : List X) → Any P ys → Any P (xs ++ ys)
any_behind P [] ys a = a
any_behind P (x ∷ xs) ys a = any_there P x (xs ++ ys) (any_behind P xs ys a)

-- the medium with these lines behind its own
abbrev with_lines : descriptions.Medium → List (List ℕ) → descriptions.Medium
with_lines m lines = record m { lines = m.lines ++ lines }

by_peers_line : (noise : List ℕ) (k : ℕ) (m n t : descriptions.Medium) (active on : Bool) (o : Option CryptoLine) (y : Option Keyed)
    → if_active active (chosen_in k m) ≡ Ok o → if_kept on o (λ x. keyed_by_peer_line noise k x n) ≡ Ok y
    → IsOfTexts m (with_lines t (lines_of y)) (option_map (λ k. medium_agreed Secure k m n) y)
by_peers_line noise k m n t active on o None e f = tt
by_peers_line noise k m n t active on o (Some y) e f =
    let x = kept_some on o (λ x. keyed_by_peer_line noise k x n) y f in
    let own : CryptoLine = answer_by x.0 (noise_of k noise) in
    subst (λ (y : Keyed). IsOfTexts m (with_lines t y.lines) (Some (medium_agreed Secure y m n))) (ok_is (keyed_by_answer x.0 own) y x.2) (
      x.0,
      own,
      chosen_said k m x.0 (active_some active (chosen_in k m) x.0 (e ∙ ap Ok x.1)),
      any_behind _ t.lines (crypto_attribute own ∷ []) (any_here _ (crypto_attribute own) [] refl),
      refl,
      record {
        opens = under x.0 x.0;
        seals = under x.0 own;
        window = window_is x.0.window;
        opens_rtp = refl;
        seals_rtp = refl;
        opens_rtcp = refl;
        seals_rtcp = refl;
      },
    )

module _ (noise : List ℕ) (slot : ℕ) (f : Option (List ℕ)) where
  -- the media of the text for the peer
  abbrev told_media : ℕ → List descriptions.Medium → List descriptions.Medium → List (Option Keyed) → List descriptions.Medium
  told_media k ms ns ys =
      with_media_lines (map (with_address f) (carried_media (ports_from slot k Secure (actives_after Secure ms ns)) (map (λ (m : descriptions.Medium). m.profile) ms) ns)) (map lines_of ys)

  by_peers_lines : (k : ℕ) (ms ns : List descriptions.Medium) (ls : List (Option CryptoLine)) (ys : List (Option Keyed)) → length ns ≡ length ms → each_active Secure chosen_in k ms ≡ Ok ls
      → each_kept (keyed_by_peer_line noise) k (actives_after Secure ms ns) ls ns ≡ Ok ys → AreOfTexts ms (told_media k ms ns ys) (media_agreed Secure ms ns ys)
  by_peers_lines k [] [] ls ys long e g = tt
  by_peers_lines k [] (n ∷ ns) ls ys long e g = absurd (omega (arith, long))
  by_peers_lines k (m ∷ ms) [] ls ys long e g = absurd (omega (arith, long))
  by_peers_lines k (m ∷ ms) (n ∷ ns) ls ys long e g =
      let active : Bool = is_active Secure m in
      let on : Bool = active && is_active Plain n in
      let a = after_ok_is (if_active active (chosen_in k m)) _ ls e in
      let b = after_ok_is (each_active Secure chosen_in (k + 1) ms) _ ls a.2 in
      let same : a.0 ∷ b.0 ≡ ls = ok_is (a.0 ∷ b.0) ls b.2 in
      let h = ap (λ ls. each_kept (keyed_by_peer_line noise) k (on ∷ actives_after Secure ms ns) ls (n ∷ ns)) same ∙ g in
      let c = after_ok_is (if_kept on a.0 (λ x. keyed_by_peer_line noise k x n)) _ ys h in
      let d = after_ok_is (each_kept (keyed_by_peer_line noise) (k + 1) (actives_after Secure ms ns) b.0 ns) _ ys c.2 in
      subst (λ ys. AreOfTexts (m ∷ ms) (told_media k (m ∷ ms) (n ∷ ns) ys) (media_agreed Secure (m ∷ ms) (n ∷ ns) ys)) (ok_is (c.0 ∷ d.0) ys d.2) (
        by_peers_line noise k m n (with_address f (carried_medium _ m.profile n)) active on a.0 c.0 a.1 c.1,
        by_peers_lines (k + 1) ms ns b.0 d.0 (omega (arith, long)) b.1 d.1,
      )

-- ---- the offer is the gateway's

find_true : {X : Type 0} (test : X → Bool) (xs : List X) (x : X) → find test xs ≡ Some x → test x ≡ true
find_true test [] x e = absurd cc
find_true test (y ∷ ys) x e = go (find_true test ys x) (test y) refl e
  where
    go : (find test ys ≡ Some x → test x ≡ true) → (b : Bool) → test y ≡ b → cond b (Some y) (find test ys) ≡ Some x → test x ≡ true
    go rest true is e = subst (λ z. test z ≡ true) (some_is y x e) is
    go rest false is e = rest e

pub bind_is : {A B : Type 0} (r : Result A SdesFault) (f : A → Result B SdesFault) (y : B) → lines.◌>>=◌ r f ≡ Ok y → (x : A) × (r ≡ Ok x) × (f x ≡ Ok y)
bind_is (Ok x) f y e = (x, refl, e)
bind_is (Err c) f y e = absurd cc

pub or_line_is : {A : Type 0} (fault : SdesFault) (o : Option A) (x : A) → lines.or_fault fault o ≡ Ok x → o ≡ Some x
or_line_is fault None x e = absurd cc
or_line_is fault (Some y) x e = ap Some (ok_is y x e)

pub if_same : {A : Type 0} (b : Bool) (x y : A) (f : SdesFault) → cond b (Ok x) (Err f) ≡ Ok y → x ≡ y
if_same true x y f e = ok_is x y e
if_same false x y f e = absurd cc

-- the peer's line is that of the value, and the other one of those that were offered, of the same tag
abbrev IsMatched : (CryptoLine → Type 0) → List ℕ → CryptoLine × CryptoLine → Type 0
IsMatched P value p = (crypto_of value ≡ Ok p.1) × (P p.0 × (p.0.tag ≡ p.1.tag))

pub matched_is : (P : CryptoLine → Type 0) (offered : List CryptoLine) (value : List ℕ) (p : CryptoLine × CryptoLine) → AllByRecursion P offered → matched offered value ≡ Ok p → IsMatched P value p
unfolding matched
matched_is P offered value p all e =
    let a = bind_is (crypto_of value) _ p e in
    let b = bind_is (lines.or_fault Tag (find (λ l. eqb l.tag a.0.tag) offered)) _ p a.2 in
    let at = or_line_is Tag _ b.0 b.1 in
    subst (IsMatched P value) (if_same (same_suite b.0.suite a.0.suite) (b.0, a.0) p Suite b.2)
    (a.1, (find_all P _ offered b.0 at all, eqb-true b.0.tag a.0.tag (find_true (λ l. eqb l.tag a.0.tag) offered b.0 at)))

-- the first crypto attribute is read as the peer's line
abbrev IsAnswered : (CryptoLine → Type 0) → descriptions.Medium → CryptoLine × CryptoLine → Type 0
IsAnswered P n p = HasLine n p.1 × (P p.0 × (p.0.tag ≡ p.1.tag))

answered_is : (P : CryptoLine → Type 0) (k : ℕ) (offered : List CryptoLine) (n : descriptions.Medium) (p : CryptoLine × CryptoLine) → AllByRecursion P offered
    → of_sdes k (lines_matched offered (first_of (crypto_values n.lines))) ≡ Ok p → IsAnswered P n p
unfolding crypto_values
answered_is P k offered n p all e = go (first_of (crypto_values n.lines)) refl (sdes_is k (lines_matched offered (first_of (crypto_values n.lines))) p e)
  where
    go : (o : Option (List ℕ)) → first_of (crypto_values n.lines) ≡ o → lines_matched offered o ≡ Ok p → IsAnswered P n p
    go None is e = absurd cc
    go (Some value) is e =
        let m = matched_is P offered value p all e in
        (any_weaker _ _ (λ line at. (value, behind_is (codes "a=crypto:") line value at, m.0)) n.lines (first_is (behind (codes "a=crypto:")) n.lines value is), m.1)

each_told : (ls : List CryptoLine) → AllByRecursion (λ l. Any (λ line. line ≡ crypto_attribute l) (map crypto_attribute ls)) ls
each_told [] = tt
each_told (l ∷ ls) = (
  any_here _ (crypto_attribute l) (map crypto_attribute ls) refl,
  each_weaker _ _ (λ x at. any_there _ (crypto_attribute l) (map crypto_attribute ls) at) ls (each_told ls),
)

pub all_told : (t : descriptions.Medium) (ls : List CryptoLine) → AllByRecursion (TellsLine (with_lines t (map crypto_attribute ls))) ls
all_told t ls = each_weaker _ (TellsLine (with_lines t (map crypto_attribute ls))) (λ x at. any_behind _ t.lines (map crypto_attribute ls) at) ls (each_told ls)

by_own_line : (k : ℕ) (m n t : descriptions.Medium) (on : Bool) (o : Option (List CryptoLine)) (y : Option Keyed) → if_kept on o (λ x. keyed_by_own_lines k x n) ≡ Ok y
    → IsOfTexts n (with_lines t (attributes_of o)) (option_map (λ k. medium_agreed Plain k m n) y)
by_own_line k m n t on o None f = tt
by_own_line k m n t on o (Some y) f =
    let x = kept_some on o (λ x. keyed_by_own_lines k x n) y f in
    let told : descriptions.Medium = with_lines t (map crypto_attribute x.0) in
    let a = after_ok_is (of_sdes k (lines_matched x.0 (first_of (crypto_values n.lines)))) _ y x.2 in
    let is = answered_is (TellsLine told) k x.0 n a.0 (all_told t x.0) a.1 in
    subst (λ (o : Option (List CryptoLine)). IsOfTexts n (with_lines t (attributes_of o)) (Some (medium_agreed Plain y m n))) (sym x.1)
    (subst (λ (y : Keyed). IsOfTexts n told (Some (medium_agreed Plain y m n))) (ok_is (keyed_by_matched a.0) y a.2) (
      a.0.1,
      a.0.0,
      is.0,
      is.1.0,
      is.1.1,
      record {
        opens = under a.0.1 a.0.1;
        seals = under a.0.1 a.0.0;
        window = window_is a.0.1.window;
        opens_rtp = refl;
        seals_rtp = refl;
        opens_rtcp = refl;
        seals_rtcp = refl;
      },
    ))

module _ (slot : ℕ) (f : Option (List ℕ)) where
  -- the media of the text for the peer
  abbrev offered_media : ℕ → List descriptions.Medium → List (Option (List CryptoLine)) → List descriptions.Medium
  offered_media k ms ls =
      with_media_lines (map (with_address f) (carried_media (ports_from slot k Secure (actives Plain ms)) (map (λ (m : descriptions.Medium). exchanged m.profile) ms) ms)) (map attributes_of ls)

  by_own_lines : (k : ℕ) (ms ns : List descriptions.Medium) (ls : List (Option (List CryptoLine))) (ys : List (Option Keyed)) → length ns ≡ length ms → length ls ≡ length ms
      → each_kept keyed_by_own_lines k (actives_after Plain ms ns) ls ns ≡ Ok ys → AreOfTexts ns (offered_media k ms ls) (media_agreed Plain ms ns ys)
  by_own_lines k [] [] [] ys long all g = tt
  by_own_lines k [] [] (l ∷ ls) ys long all g = absurd (omega (arith, all))
  by_own_lines k [] (n ∷ ns) ls ys long all g = absurd (omega (arith, long))
  by_own_lines k (m ∷ ms) [] ls ys long all g = absurd (omega (arith, long))
  by_own_lines k (m ∷ ms) (n ∷ ns) [] ys long all g = absurd (omega (arith, all))
  by_own_lines k (m ∷ ms) (n ∷ ns) (l ∷ ls) ys long all g =
      let on : Bool = is_active Plain m && is_active Secure n in
      let c = after_ok_is (if_kept on l (λ x. keyed_by_own_lines k x n)) _ ys g in
      let d = after_ok_is (each_kept keyed_by_own_lines (k + 1) (actives_after Plain ms ns) ls ns) _ ys c.2 in
      subst (λ ys. AreOfTexts (n ∷ ns) (offered_media k (m ∷ ms) (l ∷ ls)) (media_agreed Plain (m ∷ ms) (n ∷ ns) ys)) (ok_is (c.0 ∷ d.0) ys d.2) (
        by_own_line k m n (with_address f (carried_medium _ (exchanged m.profile) m)) on l c.0 c.1,
        by_own_lines (k + 1) ms ns ls d.0 (omega (arith, long)) (omega (arith, all)) d.1,
      )

each_long : {X : Type 0} (value : ℕ → descriptions.Medium → Result X Refusal) (k : ℕ) (ms : List descriptions.Medium) (os : List (Option X)) → each_active Plain value k ms ≡ Ok os → length os ≡ length ms
each_long value k [] os e = ap length (sym (ok_is [] os e))
each_long value k (m ∷ ms) os e =
    let a = after_ok_is (if_active (is_active Plain m) (value k m)) _ os e in
    let b = after_ok_is (each_active Plain value (k + 1) ms) _ os a.2 in
    let rest = each_long value (k + 1) ms b.0 b.1 in
    let all = ap length (ok_is (a.0 ∷ b.0) os b.2) in
    omega (arith, rest, all)

-- ---- the offer and the answer

abbrev IsLinesOffer : AgreedOffer → Type 0
IsLinesOffer a =
    (s : Sdp) × (ls : List (Option CryptoLine)) × (a.offer ≡ record { side = Secure; description = s; keying = PeerLines ls }) × (each_active Secure chosen_in 0 s.media ≡ Ok ls)

secure_keying : (h : AtHand) (s : Sdp) (k : Keying) → HasNoMessage s → keying_of h s FromSecure ≡ Ok k → (ls : List (Option CryptoLine)) × (PeerLines ls ≡ k) × (each_active Secure chosen_in 0 s.media ≡ Ok ls)
secure_keying h s k none e =
    let lines : Result Keying Refusal = after_ok (each_active Secure chosen_in 0 s.media) (λ ls. Ok (PeerLines ls)) in
    let a = after_ok_is (each_active Secure chosen_in 0 s.media) _ k (ap (λ b. cond b (keying_by_messages h s (mikey_value s.session)) lines) (sym (has_none s none)) ∙ e) in
    (a.0, ok_is (PeerLines a.0) k a.2, a.1)

secure_offer : (h : AtHand) (text : List ℕ) (a : AgreedOffer) → agreed_offer h FromSecure text ≡ Ok a → HasNoMessage a.offer.description → IsLinesOffer a
unfolding agreed_offer
secure_offer h text a e none =
    let p = after_ok_is (described Secure h.media text) _ a e in
    let q = after_ok_is (keying_of h p.0 FromSecure) _ a p.2 in
    let same = ok_is _ a q.2 in
    let k = secure_keying h p.0 q.0 (subst (λ (a : AgreedOffer). HasNoMessage a.offer.description) (sym same) none) q.1 in
    (p.0, k.0, ap (λ (a : AgreedOffer). a.offer) (sym same) ∙ ap (λ k. record { side = Secure; description = p.0; keying = k }) (sym k.1), k.2)

by_lines : (slot : ℕ) (s : Sdp) (ls : List (Option CryptoLine)) (noise answer : List ℕ) (g : AgreedAnswer) → each_active Secure chosen_in 0 s.media ≡ Ok ls
    → agreed_answer slot (record { side = Secure; description = s; keying = PeerLines ls }) noise answer ≡ Ok g → StandInTexts s.media g.text g.media
unfolding carried_text
by_lines slot s ls noise answer g chosen e =
    let o : Offer = record { side = Secure; description = s; keying = PeerLines ls } in
    of_answer (λ g. StandInTexts s.media g.text g.media) slot o noise answer g e (λ n b was by.
    let active : List Bool = actives_after Secure s.media n.media in
    let r = after_ok_is (each_kept (keyed_by_peer_line noise) 0 active ls n.media) _ b by in
    let text : Sdp = carried (ports_from slot 0 Secure active) (map (λ (m : descriptions.Medium). m.profile) s.media) n in
    let added : Added = record { session = []; media = map lines_of r.0 } in
    subst (λ (b : Answered). let g : AgreedAnswer = accepted_answer slot o n active b in StandInTexts s.media g.text g.media) (ok_is _ b r.2)
    (with_added added text, refl, by_peers_lines noise slot _ 0 s.media n.media ls r.0 (described_count Plain (length s.media) answer n was) chosen r.1))

pub from_secure : (h : AtHand) (offered noise answer : List ℕ) (slot : ℕ) (a : AgreedOffer) (g : AgreedAnswer) → agreed_offer h FromSecure offered ≡ Ok a → HasNoMessage a.offer.description
    → agreed_answer slot a.offer noise answer ≡ Ok g → StandInTexts a.offer.description.media g.text g.media
from_secure h offered noise answer slot a g made none e =
    let o = secure_offer h offered a made none in
    subst (λ (o : Offer). StandInTexts o.description.media g.text g.media) (sym o.2)
    (by_lines slot o.0 o.1 noise answer g o.3 (ap (λ o. agreed_answer slot o noise answer) (sym o.2) ∙ e))

abbrev IsAnswerOf : List ℕ → List ℕ → List (Option Medium) → Type 0
IsAnswerOf text answer media = (s : Sdp) × (description_of answer ≡ Ok s) × StandInTexts s.media text media

by_offered : (h : AtHand) (s : Sdp) (ls : List (Option (List CryptoLine))) (slot : ℕ) (noise answer : List ℕ) (g : AgreedAnswer)
    → each_active Plain (λ k m. Ok (offered_by (noise_of k h.noise))) 0 s.media ≡ Ok ls
    → agreed_answer slot (record { side = Plain; description = s; keying = OwnLines ls }) noise answer ≡ Ok g
    → IsAnswerOf (accepted_offer h.slot (record { side = Plain; description = s; keying = OwnLines ls })).text answer g.media
unfolding carried_text
by_offered h s ls slot noise answer g offered e =
    let o : Offer = record { side = Plain; description = s; keying = OwnLines ls } in
    of_answer (λ g. IsAnswerOf (accepted_offer h.slot o).text answer g.media) slot o noise answer g e (λ n b was by.
    let active : List Bool = actives_after Plain s.media n.media in
    let r = after_ok_is (each_kept keyed_by_own_lines 0 active ls n.media) _ b by in
    let text : Sdp = carried (ports_from h.slot 0 Secure (actives Plain s.media)) (map (λ (m : descriptions.Medium). exchanged m.profile) s.media) s in
    let added : Added = record { session = []; media = map attributes_of ls } in
    subst (λ (b : Answered). IsAnswerOf (accepted_offer h.slot o).text answer (accepted_answer slot o n active b).media) (ok_is _ b r.2) (
      n,
      described_is Secure (Some (length s.media)) answer n was,
      (with_added added text, refl, by_own_lines h.slot _ 0 s.media n.media ls r.0 (described_count Secure (length s.media) answer n was) (each_long _ 0 s.media ls offered) r.1),
    ))

pub from_plain : (h : AtHand) (offered noise answer : List ℕ) (slot : ℕ) (a : AgreedOffer) (g : AgreedAnswer) → agreed_offer h SdesFromPlain offered ≡ Ok a
    → agreed_answer slot a.offer noise answer ≡ Ok g → IsAnswerOf a.text answer g.media
from_plain h offered noise answer slot a g made = of_offer (λ a. agreed_answer slot a.offer noise answer ≡ Ok g → IsAnswerOf a.text answer g.media) h SdesFromPlain offered a made (λ s k was is.
    let r = after_ok_is (each_active Plain (λ k m. Ok (offered_by (noise_of k h.noise))) 0 s.media) _ k is in
    subst (λ k. let o : Offer = record { side = Plain; description = s; keying = k } in agreed_answer slot o noise answer ≡ Ok g → IsAnswerOf (accepted_offer h.slot o).text answer g.media)
    (ok_is (OwnLines r.0) k r.2) (by_offered h s r.0 slot noise answer g r.1))
