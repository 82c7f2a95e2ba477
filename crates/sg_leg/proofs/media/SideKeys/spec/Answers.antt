use Rattle.std.proofs.Common.{◌∙◌, ap, map}
use Rattle.sg_agreement.specs.Media as agreed
use Rattle.sg_agreement.specs.Streams.{line_key}
use Rattle.sg_leg.specs.FreshKeys.{fresh_keys}
use Rattle.sg_leg.proofs.Made.{can, made, octets_of}
use Rattle.sg_leg.proofs.media.SideKeys.spec.Goals as goal

pub returns-clause-can : goal.returns-clause-can
returns-clause-can c =
    can c.args.self.now c.self.inside.suite c.args.kind c.args.first c.self.inside.roc c.args.window c.self.inside.admit c.key_set-keys.result c.encrypts.result c.tag_len.result
    (c.key_set-keys.ensures ∙ ap (λ ks. fresh_keys c.args.kind c.args.first (map line_key ks)) c.as_slice.ensures.value ∙ ap (λ (s : agreed.Stream). fresh_keys c.args.kind c.args.first s.keys) c.self.view_is)
    c.encrypts.ensures c.tag_len.ensures (ap (λ (s : agreed.Stream). s.tag_len) c.self.view_is)
    (octets_of c.args.kind c.encryption_keys_are_not_empty.ensures.rtp c.encryption_keys_are_not_empty.ensures.rtcp) c.requires.served c.requires.least c.requires.most

pub returns-clause-made : goal.returns-clause-made
returns-clause-made c = λ owner x.
    made c.args.self.now c.self.inside.suite c.args.kind c.args.first c.self.inside.roc c.args.window c.self.inside.admit c.key_set-keys.result c.encrypts.result c.tag_len.result
    (c.key_set-keys.ensures ∙ ap (λ ks. fresh_keys c.args.kind c.args.first (map line_key ks)) c.as_slice.ensures.value ∙ ap (λ (s : agreed.Stream). fresh_keys c.args.kind c.args.first s.keys) c.self.view_is)
    c.encrypts.ensures c.tag_len.ensures (ap (λ (s : agreed.Stream). s.tag_len) c.self.view_is)
    (ap (λ (s : agreed.Stream). s.roc) c.self.view_is) (ap (λ (s : agreed.Stream). s.admit) c.self.view_is) owner x
