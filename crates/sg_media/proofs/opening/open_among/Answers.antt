use Rattle.std.proofs.Common.{◌≡◌, false, not, List, [], ◌∷◌, ◌++◌, map, ap, subst, sym, ◌∙◌}
use Rattle.sg_replay.specs.Freshness.{is_in}
use Rattle.sg_session.specs.Session.{indices_of}
use Rattle.sg_states.specs.Placing.{placed}
use Rattle.sg_states.specs.Streams.{IsStreamOf, StreamStands}
use Rattle.sg_states.specs.StreamValues.{StreamValue}
use Rattle.sg_media.specs.Answers.{entry_of}
use Rattle.sg_media.specs.Standing.{source_of, AreOfKind, IsAt, StreamsStand}
use Rattle.sg_media.proofs.OpeningSteps.{keyed_answer}
use Rattle.sg_media.proofs.Standing.{fresh_stands, given_back, kinds_given_back, known_at, known_room, lent_of, lent_stands, new_room, new_source, new_stands, of_kind-push, row_given_back}
use Rattle.sg_media.proofs.opening.open_among.Goals as goal

pub open_in-requires-clause-source : goal.open_in-requires-clause-source
open_in-requires-clause-source c =
    let at = known_at c.args.streams.now.list.items c.ssrc.result c.args.keyed.headed.head.ssrc c.in-Some.at c.ssrc.ensures c.in-Some.ensures in
    lent_of c.as_mut_slice-known.result.now c.args.streams.now.list.items c.args.keyed.headed.kind c.args.keyed.headed.head.ssrc c.in-Some.at c.index-known-at.result c.as_mut_slice-known.ensures.value c.requires.kinds at

pub returns-in-Ok-clause-answer : goal.returns-in-Ok-clause-answer
returns-in-Ok-clause-answer c = λ done key s e.
    let at = known_at c.args.streams.now.list.items c.ssrc.result c.args.keyed.headed.head.ssrc c.in-Some.at c.ssrc.ensures c.in-Some.ensures in
    c.in-Ok.ensures.answer c.args.keyed.headed.head.ssrc c.args.roc c.args.window (indices_of done c.args.keyed.headed.head.ssrc) key
    (lent_stands c.as_mut_slice-known.result.now c.args.streams.now.list.items c.args.roc c.args.window done c.args.keyed.headed.head.ssrc c.in-Some.at c.index-known-at.result c.as_mut_slice-known.ensures.value s at) e
    ∙ ap (λ b. keyed_answer c.args.keyed key b (placed c.args.keyed.headed.kind c.args.roc c.args.window (indices_of done c.args.keyed.headed.head.ssrc) c.args.keyed.headed.head.number))
    (known_room c.args.streams.now.list.items c.args.roc c.args.window done c.args.keyed.headed.head.ssrc c.in-Some.at s at)

pub returns-in-Err-clause-answer : goal.returns-in-Err-clause-answer
returns-in-Err-clause-answer c = λ done key s e.
    let at = known_at c.args.streams.now.list.items c.ssrc.result c.args.keyed.headed.head.ssrc c.in-Some.at c.ssrc.ensures c.in-Some.ensures in
    c.in-Err.ensures.answer c.args.keyed.headed.head.ssrc c.args.roc c.args.window (indices_of done c.args.keyed.headed.head.ssrc) key
    (lent_stands c.as_mut_slice-known.result.now c.args.streams.now.list.items c.args.roc c.args.window done c.args.keyed.headed.head.ssrc c.in-Some.at c.index-known-at.result c.as_mut_slice-known.ensures.value s at) e
    ∙ ap (λ b. keyed_answer c.args.keyed key b (placed c.args.keyed.headed.kind c.args.roc c.args.window (indices_of done c.args.keyed.headed.head.ssrc) c.args.keyed.headed.head.number))
    (known_room c.args.streams.now.list.items c.args.roc c.args.window done c.args.keyed.headed.head.ssrc c.in-Some.at s at)

pub returns-in-Ok-clause-streams : goal.returns-in-Ok-clause-streams
returns-in-Ok-clause-streams c = λ done s.
    let at = known_at c.args.streams.now.list.items c.ssrc.result c.args.keyed.headed.head.ssrc c.in-Some.at c.ssrc.ensures c.in-Some.ensures in
    let source = c.in-Ok.ensures.source in
    given_back c.as_mut_slice-known.result.now c.args.streams.now.list.items c.args.roc c.args.window done c.in-Some.at c.open_in.new.stream (entry_of c.in-Ok.opened) c.as_mut_slice-known.ensures.value s
    (subst (λ n. IsAt c.args.streams.now.list.items n c.in-Some.at) (sym source) at)
    (subst (λ n. StreamStands c.open_in.new.stream n c.args.roc c.args.window (indices_of done n ++ c.in-Ok.opened.index ∷ [])) (sym source)
    (c.in-Ok.ensures.stream c.args.keyed.headed.head.ssrc c.args.roc c.args.window (indices_of done c.args.keyed.headed.head.ssrc) (lent_stands c.as_mut_slice-known.result.now c.args.streams.now.list.items c.args.roc c.args.window done c.args.keyed.headed.head.ssrc c.in-Some.at c.index-known-at.result c.as_mut_slice-known.ensures.value s at)))

pub returns-in-Ok-clause-kinds : goal.returns-in-Ok-clause-kinds
returns-in-Ok-clause-kinds c =
    let at = known_at c.args.streams.now.list.items c.ssrc.result c.args.keyed.headed.head.ssrc c.in-Some.at c.ssrc.ensures c.in-Some.ensures in
    kinds_given_back c.as_mut_slice-known.result.now c.args.streams.now.list.items c.args.keyed.headed.kind c.args.keyed.headed.head.ssrc c.in-Some.at c.open_in.new.stream c.index-known-at.result c.as_mut_slice-known.ensures.value c.requires.kinds at c.in-Ok.ensures.of.0

pub returns-in-Err-clause-kinds : goal.returns-in-Err-clause-kinds
returns-in-Err-clause-kinds c =
    let at = known_at c.args.streams.now.list.items c.ssrc.result c.args.keyed.headed.head.ssrc c.in-Some.at c.ssrc.ensures c.in-Some.ensures in
    kinds_given_back c.as_mut_slice-known.result.now c.args.streams.now.list.items c.args.keyed.headed.kind c.args.keyed.headed.head.ssrc c.in-Some.at c.open_in.new.stream c.index-known-at.result c.as_mut_slice-known.ensures.value c.requires.kinds at c.in-Err.ensures.of.0

pub returns-in-Ok-open_in-clause-answer : goal.returns-in-Ok-open_in-clause-answer
returns-in-Ok-open_in-clause-answer c = λ done key s e.
    let new = new_source c.args.streams.now.list.items c.ssrc.result c.args.keyed.headed.head.ssrc c.ssrc.ensures c.in-None.ensures in
    c.in-Ok-open_in.ensures.answer c.args.keyed.headed.head.ssrc c.args.roc c.args.window (indices_of done c.args.keyed.headed.head.ssrc) key
    (fresh_stands c.fresh-stream.result c.args.streams.now.list.items c.args.roc c.args.window done c.ssrc-in-None.result c.args.keyed.headed.head.ssrc c.ssrc-in-None.ensures c.fresh-stream.ensures.stands s new) e
    ∙ ap (λ b. keyed_answer c.args.keyed key b (placed c.args.keyed.headed.kind c.args.roc c.args.window (indices_of done c.args.keyed.headed.head.ssrc) c.args.keyed.headed.head.number))
    (ap not c.is_full-room.ensures.value ∙ sym (new_room c.args.streams.now.list.items c.args.roc c.args.window done c.args.keyed.headed.head.ssrc s new c.is_full-room.ensures.fits))

pub returns-in-Err-open_in-clause-answer : goal.returns-in-Err-open_in-clause-answer
returns-in-Err-open_in-clause-answer c = λ done key s e.
    let new = new_source c.args.streams.now.list.items c.ssrc.result c.args.keyed.headed.head.ssrc c.ssrc.ensures c.in-None.ensures in
    c.in-Err-open_in.ensures.answer c.args.keyed.headed.head.ssrc c.args.roc c.args.window (indices_of done c.args.keyed.headed.head.ssrc) key
    (fresh_stands c.fresh-stream.result c.args.streams.now.list.items c.args.roc c.args.window done c.ssrc-in-None.result c.args.keyed.headed.head.ssrc c.ssrc-in-None.ensures c.fresh-stream.ensures.stands s new) e
    ∙ ap (λ b. keyed_answer c.args.keyed key b (placed c.args.keyed.headed.kind c.args.roc c.args.window (indices_of done c.args.keyed.headed.head.ssrc) c.args.keyed.headed.head.number))
    (ap not c.is_full-room.ensures.value ∙ sym (new_room c.args.streams.now.list.items c.args.roc c.args.window done c.args.keyed.headed.head.ssrc s new c.is_full-room.ensures.fits))

pub returns-in-Ok-open_in-clause-streams : goal.returns-in-Ok-open_in-clause-streams
returns-in-Ok-open_in-clause-streams c = λ done s.
    let new = new_source c.args.streams.now.list.items c.ssrc.result c.args.keyed.headed.head.ssrc c.ssrc.ensures c.in-None.ensures in
    let source = c.in-Ok-open_in.ensures.source in
    subst (λ ts. StreamsStand ts c.args.roc c.args.window (done ++ entry_of c.in-Ok-open_in.opened ∷ [])) (sym (c.push.ensures.list))
    (new_stands c.args.streams.now.list.items c.args.roc c.args.window done c.open_in-in-None.new.stream (entry_of c.in-Ok-open_in.opened) s
    (subst (λ n. is_in (map source_of c.args.streams.now.list.items) n ≡ false) (sym source) new)
    (subst (λ n. StreamStands c.open_in-in-None.new.stream n c.args.roc c.args.window (indices_of done n ++ c.in-Ok-open_in.opened.index ∷ [])) (sym source)
    (c.in-Ok-open_in.ensures.stream c.args.keyed.headed.head.ssrc c.args.roc c.args.window (indices_of done c.args.keyed.headed.head.ssrc) (fresh_stands c.fresh-stream.result c.args.streams.now.list.items c.args.roc c.args.window done c.ssrc-in-None.result c.args.keyed.headed.head.ssrc c.ssrc-in-None.ensures c.fresh-stream.ensures.stands s new))))

pub open_in-requires-in-None-clause-source : goal.open_in-requires-in-None-clause-source
open_in-requires-in-None-clause-source c =
    subst (λ n. IsStreamOf c.fresh-stream.result c.args.keyed.headed.kind n) c.ssrc-in-None.ensures (subst (λ k. IsStreamOf c.fresh-stream.result k c.ssrc-in-None.result) c.kind.ensures c.fresh-stream.ensures.of)

pub returns-in-Ok-open_in-clause-kinds : goal.returns-in-Ok-open_in-clause-kinds
returns-in-Ok-open_in-clause-kinds c =
    subst (λ (ts : List StreamValue). AreOfKind ts c.args.keyed.headed.kind) (sym (c.push.ensures.list))
    (of_kind-push c.args.streams.now.list.items c.args.keyed.headed.kind c.open_in-in-None.new.stream c.requires.kinds (c.in-Ok-open_in.ensures.of.0 ∙ c.fresh-stream.ensures.of.same_kind ∙ c.kind.ensures))

pub returns-in-Ok-clause-row : goal.returns-in-Ok-clause-row
returns-in-Ok-clause-row c =
    row_given_back c.as_mut_slice-known.result.now c.args.streams.now.list.items c.args.streams.now.row.items c.in-Some.at c.open_in.new.stream c.index-known-at.result c.as_mut_slice-known.ensures.value c.requires.row c.in-Ok.ensures.of.1

pub returns-in-Err-clause-row : goal.returns-in-Err-clause-row
returns-in-Err-clause-row c =
    row_given_back c.as_mut_slice-known.result.now c.args.streams.now.list.items c.args.streams.now.row.items c.in-Some.at c.open_in.new.stream c.index-known-at.result c.as_mut_slice-known.ensures.value c.requires.row c.in-Err.ensures.of.1
