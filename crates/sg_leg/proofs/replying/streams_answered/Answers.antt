use Rattle.std.proofs.Common.{◌≡◌, ◌∙◌, ◌∷◌, [], List, Ok, Err, sym, ap, subst}
use Rattle.std.specs.Global.{Vec}
use Rattle.sg_agreement.specs.Attributes.{mikey_value}
use Rattle.sg_agreement.specs.MessageAnswers.{responded, streams_answered}
use Rattle.sg_csmap.specs.CryptoSessions as cs
use Rattle.sg_csmap.specs.CryptoSessions.{streams_of}
use Rattle.sg_csmap.specs.declared.sessions.StreamKeys.{StreamKeys}
use Rattle.sg_mikey.specs.declared.message.CsEntry.{CsEntry}
use Rattle.sg_psk.specs.Sending.{Sent, response_of}
use Rattle.sg_psk.specs.StandsFor as psk
use Rattle.sg_psk.specs.StandsFor.{sent_as}
use Rattle.sg_leg.specs.Answering.{Tells}
use Rattle.sg_leg.specs.Messages.{psk_fault, cs_fault}
use Rattle.sg_leg.proofs.Replied.{all_answered, map_of, no_response, none_served, not_ours, there_at}
use Rattle.sg_leg.proofs.replying.streams_answered.Goals as goal

pub returns-in-Err : goal.returns-in-Err
returns-in-Err c = λ s is. no_response s c.args.count (mikey_value c.args.lines.now) c.in-Err.fault c.in-Err.ensures.message

pub read_response-requires : goal.read_response-requires
read_response-requires c = there_at c.args.psks.now c.args.waiting.now.pair c.requires.known.0.pair c.requires.known.1.pair

pub returns-in-Err-read_response : goal.returns-in-Err-read_response
returns-in-Err-read_response c = λ s is.
    subst (λ f. Tells {X = List (StreamKeys × StreamKeys)} (Err f) (streams_answered s c.args.count (mikey_value c.args.lines.now))) (sym c.psk_fault.ensures)
    (subst (λ (s : Sent). Tells {X = List (StreamKeys × StreamKeys)} (Err (psk_fault 255 c.in-Err-read_response.fault)) (streams_answered s c.args.count (mikey_value c.args.lines.now))) is.same
    (not_ours (sent_as c.args.waiting.now s.pair) c.args.count (mikey_value c.args.lines.now) c.in-Ok.read.0 c.in-Ok.read.1 c.in-Ok.ensures.message c.in-Err-read_response.fault
    (subst (λ o. psk.Gives {X = Vec CsEntry} {A = List CsEntry} (λ map entries. map.items ≡ entries) (Err c.in-Err-read_response.fault) (response_of o c.in-Ok.read.1 (sent_as c.args.waiting.now s.pair))) c.as_slice.ensures
    (c.in-Err-read_response.ensures.value s.pair is.pair))))

pub returns-in-Err-streams : goal.returns-in-Err-streams
returns-in-Err-streams c = λ s is.
    subst (λ f. Tells {X = List (StreamKeys × StreamKeys)} (Err f) (streams_answered s c.args.count (mikey_value c.args.lines.now))) (sym c.cs_fault.ensures)
    (subst (λ (s : Sent). Tells {X = List (StreamKeys × StreamKeys)} (Err (cs_fault 255 c.in-Err-streams.fault)) (streams_answered s c.args.count (mikey_value c.args.lines.now))) is.same
    (none_served (sent_as c.args.waiting.now s.pair) c.args.count (mikey_value c.args.lines.now) c.in-Ok.read.0 c.in-Ok.read.1 c.in-Ok.ensures.message c.in-Ok-read_response.map.items
    (map_of c.in-Ok-read_response.map (response_of c.in-Ok.read.0 c.in-Ok.read.1 (sent_as c.args.waiting.now s.pair))
    (subst (λ o. psk.Gives {X = Vec CsEntry} {A = List CsEntry} (λ map entries. map.items ≡ entries) (Ok c.in-Ok-read_response.map) (response_of o c.in-Ok.read.1 (sent_as c.args.waiting.now s.pair))) c.as_slice.ensures
    (c.in-Ok-read_response.ensures.value s.pair is.pair)))
    c.in-Err-streams.fault
    (subst (λ r. cs.GivesList {X = StreamKeys × StreamKeys} (Err c.in-Err-streams.fault) r)
    (λ i. streams_of c.args.waiting.now.csb c.args.waiting.now.random (c.as_slice-sent.ensures i) (c.in-Ok-default_policy.ensures i ∷ []) c.args.waiting.now.tgks.keys c.args.count) c.in-Err-streams.ensures.value)))

pub returns-in-Ok-responded : goal.returns-in-Ok-responded
returns-in-Ok-responded c = λ s is.
    subst (λ (s : Sent). streams_answered s c.args.count (mikey_value c.args.lines.now) ≡ Ok c.in-Ok-responded.streams) is.same
    (all_answered (sent_as c.args.waiting.now s.pair) c.args.count (mikey_value c.args.lines.now) c.in-Ok.read.0 c.in-Ok.read.1 c.in-Ok.ensures.message c.in-Ok-read_response.map.items
    (map_of c.in-Ok-read_response.map (response_of c.in-Ok.read.0 c.in-Ok.read.1 (sent_as c.args.waiting.now s.pair))
    (subst (λ o. psk.Gives {X = Vec CsEntry} {A = List CsEntry} (λ map entries. map.items ≡ entries) (Ok c.in-Ok-read_response.map) (response_of o c.in-Ok.read.1 (sent_as c.args.waiting.now s.pair))) c.as_slice.ensures
    (c.in-Ok-read_response.ensures.value s.pair is.pair)))
    c.in-Ok-streams.streams.items
    ((λ i. streams_of c.args.waiting.now.csb c.args.waiting.now.random (sym c.as_slice-sent.ensures i) (sym c.in-Ok-default_policy.ensures i ∷ []) c.args.waiting.now.tgks.keys c.args.count) ∙ c.in-Ok-streams.ensures.value)
    ∙ ap Ok (sym (c.in-Ok-responded.ensures ∙ ap (responded c.in-Ok-streams.streams.items) c.as_slice-2.ensures.value)))
