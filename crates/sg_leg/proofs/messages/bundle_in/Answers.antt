use Rattle.std.proofs.Common.{ap, sym, subst, ◌∙◌, Err, Ok}
use Rattle.sg_agreement.specs.Attributes.{mikey_value}
use Rattle.sg_agreement.specs.Messages.{bundle_in}
use Rattle.sg_csmap.specs.CryptoSessions as cs
use Rattle.sg_csmap.specs.CryptoSessions.{streams_of}
use Rattle.sg_psk.specs.Accepting.{initial_of}
use Rattle.sg_psk.specs.StandsFor as psk
use Rattle.sg_psk.specs.StandsFor.{IsAccepted}
use Rattle.sg_leg.specs.Answering.{Gives}
use Rattle.sg_leg.specs.Open.{IsBundleOf}
use Rattle.sg_leg.proofs.Read.{no_message, not_accepted, bundled, not_served, has_room}
use Rattle.sg_leg.proofs.messages.bundle_in.Goals as goal

pub returns-in-Err-clause-bundle : goal.returns-in-Err-clause-bundle
returns-in-Err-clause-bundle c = λ h at. no_message h c.args.now c.args.psks.now c.args.seen.now at c.args.medium c.args.count (mikey_value c.args.lines.now) c.in-Err.fault c.in-Err.ensures.message

pub returns-in-Err-read_initial-clause-bundle : goal.returns-in-Err-read_initial-clause-bundle
returns-in-Err-read_initial-clause-bundle c = λ h at.
    subst (λ f. Gives (IsBundleOf c.args.psks.now) (Err f) (bundle_in h c.args.medium c.args.count (mikey_value c.args.lines.now))) (sym c.psk_fault.ensures)
    (not_accepted h c.args.now c.args.psks.now c.args.seen.now at c.args.medium c.args.count (mikey_value c.args.lines.now) c.in-Ok.read.0 c.in-Ok.read.1 c.in-Ok.ensures.message c.in-Err-read_initial.fault
    (subst (λ o. psk.Gives (IsAccepted c.args.psks.now) (Err c.in-Err-read_initial.fault) (initial_of o c.in-Ok.read.1 c.args.psks.now c.args.seen.now c.args.now)) c.as_slice.ensures c.in-Err-read_initial.ensures.value))

pub returns-in-Ok-streams-clause-bundle : goal.returns-in-Ok-streams-clause-bundle
returns-in-Ok-streams-clause-bundle c = λ h at.
    bundled h c.args.now c.args.psks.now c.args.seen.now at c.args.medium c.args.count (mikey_value c.args.lines.now) c.in-Ok.read.0 c.in-Ok.read.1 c.in-Ok.ensures.message c.in-Ok-read_initial.initial
    (subst (λ o. psk.Gives (IsAccepted c.args.psks.now) (Ok c.in-Ok-read_initial.initial) (initial_of o c.in-Ok.read.1 c.args.psks.now c.args.seen.now c.args.now)) c.as_slice.ensures c.in-Ok-read_initial.ensures.value)
    c.from_vec.result
    ((λ i. streams_of c.in-Ok-read_initial.initial.csb (sym c.as_slice-random.ensures i) (sym c.as_slice-map.ensures i) (sym c.as_slice-policies.ensures i) c.in-Ok-read_initial.initial.tgks.keys c.args.count) ∙ c.in-Ok-streams.ensures.value ∙ ap Ok (sym c.from_vec.ensures))

pub returns-in-Err-streams-clause-bundle : goal.returns-in-Err-streams-clause-bundle
returns-in-Err-streams-clause-bundle c = λ h at.
    subst (λ f. Gives (IsBundleOf c.args.psks.now) (Err f) (bundle_in h c.args.medium c.args.count (mikey_value c.args.lines.now))) (sym c.cs_fault.ensures)
    (not_served h c.args.now c.args.psks.now c.args.seen.now at c.args.medium c.args.count (mikey_value c.args.lines.now) c.in-Ok.read.0 c.in-Ok.read.1 c.in-Ok.ensures.message c.in-Ok-read_initial.initial
    (subst (λ o. psk.Gives (IsAccepted c.args.psks.now) (Ok c.in-Ok-read_initial.initial) (initial_of o c.in-Ok.read.1 c.args.psks.now c.args.seen.now c.args.now)) c.as_slice.ensures c.in-Ok-read_initial.ensures.value)
    c.in-Err-streams.fault
    (subst (λ r. cs.GivesList (Err c.in-Err-streams.fault) r)
    (λ i. streams_of c.in-Ok-read_initial.initial.csb (c.as_slice-random.ensures i) (c.as_slice-map.ensures i) (c.as_slice-policies.ensures i) c.in-Ok-read_initial.initial.tgks.keys c.args.count) c.in-Err-streams.ensures.value))

pub returns-in-Ok-streams-clause-room : goal.returns-in-Ok-streams-clause-room
returns-in-Ok-streams-clause-room c =
    has_room c.args.psks.now c.args.seen.now c.as_slice.result.now c.in-Ok.read.1 c.args.now c.in-Ok-read_initial.initial c.in-Ok-read_initial.ensures.value
