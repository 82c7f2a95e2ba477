use Rattle.std.proofs.Common.{◌∙◌, ap, sym, subst, refl, length, ℕ}
use Rattle.sg_aes.specs.Schedule.{IsKeyLength}
use Rattle.sg_kdf.specs.SessionKeys.{raw_half}
use Rattle.sg_kdf.proofs.KdfLemmas.{ciphers_key, no_ciphers_key, session_keys_derived, session_keys_raw}
use Rattle.sg_kdf.proofs.derive.Goals as goal

pub returns-in-Some : goal.returns-in-Some
returns-in-Some c =
    let long = ap length c.key-key.ensures.value ∙ c.key-key.ensures.sized in
    let cipher = ciphers_key c.args.master.now.suite (subst (λ (n : ℕ). IsKeyLength n) long (c.in-Some.ensures.some.0 refl)) in
    (λ p. record { rtp = c.derived_half.ensures p; rtcp = c.derived_half-in-Some.ensures p }) ∙ sym (session_keys_derived c.args.master.now cipher.0)

pub returns-in-None : goal.returns-in-None
returns-in-None c =
    let long = ap length c.key-key.ensures.value ∙ c.key-key.ensures.sized in
    let raw = no_ciphers_key c.args.master.now.suite (λ h. let e = c.in-None.ensures.some.1 (subst (λ (n : ℕ). IsKeyLength n) (sym long) h) in cc) in
    let first = c.raw_half.ensures ∙ ap raw_half c.key-key.ensures.value in
    let second = c.raw_half-in-None.ensures ∙ ap raw_half c.key-key.ensures.value in
    (λ p. record { rtp = first p; rtcp = second p }) ∙ sym (session_keys_raw c.args.master.now raw.0)
