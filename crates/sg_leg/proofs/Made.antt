-- A session's spec, by its parts.
use Rattle.std.proofs.Common.{◌≡◌, ℕ, ◌≤◌, true, Bool, List, refl, sym, ap, ◌∙◌, subst}
use Rattle.std.specs.List.{All}
use Rattle.sg_base.specs.Suites.{tag_len_of}
use Rattle.sg_base.specs.declared.addresses.Kind.{Kind}
use Rattle.sg_base.specs.declared.addresses.Kind.TheVariants.{Rtp, Rtcp}
use Rattle.sg_base.specs.declared.suites.Suite.{Suite}
use Rattle.sg_agreement.specs.Generations.{numbered, stream_session}
use Rattle.sg_agreement.specs.Media.{Stream, Medium}
use Rattle.sg_keys.specs.Live.{Live}
use Rattle.sg_keys.specs.declared.spec.SessionSpec.{SessionSpec}
use Rattle.sg_media.proofs.TagLengths.{suite_tag}
use Rattle.sg_media.specs.Accepting.{IsMadeOf}
use Rattle.sg_media.specs.Ciphers.{may_encrypt, EachEncrypts}
use Rattle.sg_media.specs.Sides.{CanBeMade}
use Rattle.sg_session.specs.declared.names.Owner.{Owner}
use Rattle.sg_base.specs.declared.sources.Admit.{Admit}
use Rattle.sg_states.specs.Parts.{is_tag_len}
use Rattle.sg_leg.proofs.Fresh.{HaveOctets, live_fresh, fresh_none_served, fresh_encrypt}
use Rattle.sg_leg.specs.FreshKeys.{fresh_keys, encrypts_for, tag_for}
use Rattle.sg_leg.specs.Served.{IsServed}

pub octets_of : (kind : Kind) → HaveOctets Rtp → HaveOctets Rtcp → HaveOctets kind
octets_of Rtp a b = a
octets_of Rtcp a b = b

tag_of : (kind : Kind) (s : Stream) (suite : Suite) → tag_len_of suite ≡ s.tag_len → is_tag_len kind (tag_for kind s) ≡ true
tag_of Rtp s suite e = ap (is_tag_len Rtp) (sym e) ∙ suite_tag suite
tag_of Rtcp s suite e = refl

may_of : (kind : Kind) (s : Stream) → may_encrypt kind s.encrypts_rtp ≡ may_encrypt kind (encrypts_for kind s)
may_of Rtp s = refl
may_of Rtcp s = refl

module _ (s : Stream) (suite : Suite) (kind : Kind) (n roc window : ℕ) (admit : Admit) (keys : List Live) (encrypt : Bool) (tag_len : ℕ)
    (keys_are : keys ≡ fresh_keys kind n s.keys) (encrypt_is : encrypt ≡ encrypts_for kind s) (tag_is : tag_len ≡ tag_for kind s) (suite_is : tag_len_of suite ≡ s.tag_len) where
  abbrev spec : SessionSpec
  spec = record { kind = kind; keys = keys; roc = roc; window = window; admit = admit; encrypt = encrypt; tag_len = tag_len }

  pub can : HaveOctets kind → IsServed kind s → 64 ≤ window → window ≤ 1024 → CanBeMade spec
  can octets served least most = record {
    at_least = least;
    at_most = most;
    tag = ap (is_tag_len kind) tag_is ∙ tag_of kind s suite suite_is;
    fresh = subst (All (λ (k : Live). k.count ≡ 0)) (sym keys_are) (fresh_none_served kind n s.keys);
    ciphers = subst (λ ks. EachEncrypts ks (may_encrypt kind encrypt)) (sym keys_are)
        (fresh_encrypt kind octets (may_encrypt kind encrypt) n s.keys (λ is. served.secret (may_of kind s ∙ ap (may_encrypt kind) (sym encrypt_is) ∙ is)));
  }

  pub made : roc ≡ s.roc → admit ≡ s.admit → (owner : Owner) (x : Medium)
      → IsMadeOf (stream_session owner (numbered n s.keys) s window x kind (encrypts_for kind s) (tag_for kind s)) spec
  made roc_is admit_is owner x = record {
    same_kind = refl;
    same_keys = keys_are ∙ sym (live_fresh owner n s window x kind (encrypts_for kind s) (tag_for kind s));
    same_roc = roc_is;
    same_window = refl;
    same_admit = admit_is;
    same_encrypts = encrypt_is;
    same_tag_len = tag_is;
    none_done = refl;
  }
