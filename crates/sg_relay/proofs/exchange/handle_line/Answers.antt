use Rattle.std.proofs.Common.{List, ℕ, [], Ok, Err, sym, ap, refl, subst, ◌∙◌}
use Rattle.sg_lines.specs.declared.lines.Line.TheVariants as lines
use Rattle.sg_relay.specs.Plain.{arrives, gives_by}
use Rattle.sg_relay.proofs.Common.{AreHandled, added_none, called_none, events_of_signal, wrote_none}
use Rattle.sg_relay.proofs.Deeds.{done_none}
use Rattle.sg_relay.proofs.Gives.{given_so, gives_datagram, gives_header, gives_signal, unsupplied}
use Rattle.sg_relay.proofs.Waits.{done_nothing}
use Rattle.sg_relay.proofs.exchange.handle_line.Goals as goal

pub returns-in-Header-clause-handled : goal.returns-in-Header-clause-handled
returns-in-Header-clause-handled g c = λ state stands.
    let law = c.are_in_order.ensures in
    let acting = g.H.Handling.acting in (
      [],
      [],
      [],
      called_none _,
      added_none _,
      wrote_none _,
      (
        [],
        gives_header g.H.Handling.gives_of c.args.line g.met.H.Handling.silent c.in-Header.is,
        done_nothing acting law state [] [] done_none,
        tt,
        refl,
        subst (g.H.Handling.stands c.args.handling.now) (sym (law.none_after state)) stands,
      ),
    )

pub returns-in-Err-clause-handled : goal.returns-in-Err-clause-handled
returns-in-Err-clause-handled g c = λ state stands.
    let drew = c.in-Err.ensures.drew in (
      [],
      drew.0,
      [],
      called_none _,
      drew.1,
      wrote_none _,
      unsupplied g.H.Handling.gives_of c.args.line g.H.Handling.acting (List ℕ) c.into_signal.result drew.0 c.in-Err.status state (g.H.Handling.stands c.args.handling.now)
          (c.in-Signal.is ∙ ap lines.Signal (sym c.into_signal.ensures)) drew.2,
    )

pub returns-in-Err-obey-clause-handled : goal.returns-in-Err-obey-clause-handled
returns-in-Err-obey-clause-handled g c = λ state stands.
    let deeds = g.H.Handling.gives_of in
    let drew = c.in-Ok.ensures.drew in
    let handled = c.in-Err-obey.ensures.obeyed state stands in (
      handled.0,
      drew.0,
      handled.1,
      handled.2,
      drew.1,
      handled.3,
      given_so {T = List ℕ} (Err c.in-Err-obey.status) (gives_by deeds c.args.line) g.H.Handling.acting state (deeds (events_of_signal c.in-Ok.signal)) (g.H.Handling.stands c.obey.new.self) handled.0 drew.0 handled.1
          c.in-Err-obey.ensures.only (gives_signal deeds c.args.line c.into_signal.result c.in-Ok.signal drew.0 (c.in-Signal.is ∙ ap lines.Signal (sym c.into_signal.ensures)) drew.2) handled.4,
    )

pub returns-in-Ok-obey-clause-handled : goal.returns-in-Ok-obey-clause-handled
returns-in-Ok-obey-clause-handled g c = λ state stands.
    let deeds = g.H.Handling.gives_of in
    let drew = c.in-Ok.ensures.drew in
    let handled = c.in-Ok-obey.ensures.obeyed state stands in (
      handled.0,
      drew.0,
      handled.1,
      handled.2,
      drew.1,
      handled.3,
      given_so (Ok c.args.pad) (gives_by deeds c.args.line) g.H.Handling.acting state (deeds (events_of_signal c.in-Ok.signal)) (g.H.Handling.stands c.obey.new.self) handled.0 drew.0 handled.1
          tt (gives_signal deeds c.args.line c.into_signal.result c.in-Ok.signal drew.0 (c.in-Signal.is ∙ ap lines.Signal (sym c.into_signal.ensures)) drew.2) handled.4,
    )

pub returns-in-Datagram-clause-handled : goal.returns-in-Datagram-clause-handled
returns-in-Datagram-clause-handled g c = λ state stands.
    let deeds = g.H.Handling.gives_of in
    let port = c.in-Datagram.port in
    let from = c.in-Datagram.from in
    let pad = c.filled-pad.result in
    let stood = g.H.Handling.stands c.arrive.new.self in
    let handled = c.arrive.ensures.arrived state stands in (
      handled.0,
      [],
      handled.1,
      handled.2,
      added_none _,
      handled.3,
      given_so c.arrive.result (gives_by deeds c.args.line) g.H.Handling.acting state (deeds (arrives port from pad)) stood handled.0 [] handled.1 c.arrive.ensures.only
          (gives_datagram deeds c.args.line port from c.in-Datagram.octets pad c.in-Datagram.is (c.filled-pad.ensures ∙ c.as_slice.ensures))
          (subst (λ ds. AreHandled c.arrive.result g.H.Handling.acting state ds stood handled.0 handled.1) (g.met.H.Handling.datagrams port from pad) handled.4),
    )
