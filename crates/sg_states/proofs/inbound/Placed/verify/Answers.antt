use Rattle.std.proofs.Common.{◌≡◌, ◌↔◌, ℕ, Bool, List, length, Option, Some, slice_get, refl, arith, ap, subst, sym, ◌∙◌}
use Rattle.std.specs.Prelude.{IfSome, IsTrue}
use Rattle.sg_hmac.specs.Hmac.{hmac_sha1}
use Rattle.sg_hmac.specs.States.{IsMacKey, IsTagOf}
use Rattle.sg_hmac.specs.declared.hmac.MacKey.{MacKey}
use Rattle.sg_keys.specs.Live.{Live}
use Rattle.sg_states.specs.Inbound.{Heading, Keying, Placing, fits_under}
use Rattle.sg_states.specs.Parts.{IsWhole, covered_by, prefix_of, tag_fits_at, tag_of}
use Rattle.sg_states.proofs.Tags.{tag_says}
use Rattle.sg_states.proofs.inbound.Placed.verify.Goals as goal

-- the code over what stands before the MKI, under every key whose state this is
abbrev IsCode : Heading → ℕ → List ℕ → MacKey → List ℕ → Type 0
IsCode h index octets mac whole =
    (auth : List ℕ) → IsMacKey auth mac → whole ≡ hmac_sha1 auth (covered_by h.kind index (prefix_of h.mki_len h.tag_len octets))

-- the test of the tag is that of the definition
module _ (h same_h : Heading) (at number index : ℕ) (k : Keying) (q : Placing) (keys : List Live) (key : Live) where
  abbrev keying : Heading → Keying
  keying it = record { headed = it; key = at; number = number }

  abbrev placing : Keying → Placing
  placing it = record { keyed = it; index = index }

  fits : (octets tag whole : List ℕ) (mac : MacKey) (r : Bool) → h ≡ same_h → keying same_h ≡ k → placing k ≡ q → slice_get keys q.keyed.key ≡ Some key
      → IfSome (slice_get keys at) (λ l. IsMacKey l.half.auth mac) → octets ≡ h.pad → IsWhole h.kind h.mki_len h.tag_len h.pad h.head → tag ≡ tag_of h.tag_len octets
      → IsCode h index octets mac whole → IsTrue r ↔ IsTagOf tag whole → fits_under q key ≡ r
  fits octets tag whole mac r h_is k_is q_is here known same inside back code says =
      let is : placing (keying h) ≡ q = ap (λ x. placing (keying x)) h_is ∙ ap placing k_is ∙ q_is in
      let at_key : slice_get keys at ≡ Some key = subst (λ (p : Placing). slice_get keys p.keyed.key ≡ Some key) (sym is) here in
      let of_key : IsMacKey key.half.auth mac = subst (λ (o : Option Live). IfSome o (λ l. IsMacKey l.half.auth mac)) at_key known in
      sym (ap (λ (p : Placing). fits_under p key) is) ∙ sym (ap (λ d. tag_fits_at h.kind h.mki_len h.tag_len index d key.half.auth) same)
      ∙ sym (tag_says h.kind h.mki_len h.tag_len index octets key.half.auth tag whole r (omega (arith, ap length same, inside.inside)) back (code key.half.auth of_key) says)

pub returns-then-tag_fits : goal.returns-then-tag_fits
returns-then-tag_fits c = λ key here. record {
  same = refl;
  fits = fits _ _ _ _ _ _ c.args.self _ key _ _ _ _ _ c.headed.view_is c.keyed.view_is c.self.view_is here c.mac.ensures c.octets-octets.ensures.same c.headed.invariant.whole
      c.split_at.ensures.back c.mac_over-whole.ensures c.tag_fits.ensures ∙ c.if-tag_fits.true;
}

pub returns-else-tag_fits : goal.returns-else-tag_fits
returns-else-tag_fits c = λ key here. record {
  same = c.refuse.ensures ∙ ap (λ (q : Placing). q.keyed.headed.pad) c.self.view_is;
  unfit = fits _ _ _ _ _ _ c.args.self _ key _ _ _ _ _ c.headed.view_is c.keyed.view_is c.self.view_is here c.mac.ensures c.octets-octets.ensures.same c.headed.invariant.whole
      c.split_at.ensures.back c.mac_over-whole.ensures c.tag_fits.ensures ∙ c.if-tag_fits.false;
}
