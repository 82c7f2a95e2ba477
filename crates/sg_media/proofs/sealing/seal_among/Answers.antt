use Rattle.std.proofs.Common.{◌≡◌, false, not, List, [], ◌∷◌, ◌++◌, map, ap, subst, sym, ◌∙◌}
use Rattle.sg_replay.specs.Freshness.{is_in}
use Rattle.sg_session.specs.Session.{indices_of}
use Rattle.sg_states.specs.Streams.{IsStreamOf, StreamStands}
use Rattle.sg_states.specs.StreamValues.{StreamValue}
use Rattle.sg_media.specs.Answers.{closed_among, entry_out, roomed, told_of}
use Rattle.sg_media.specs.Standing.{source_of, AreOfKind, IsAt, StreamsStand}
use Rattle.sg_media.proofs.Standing.{fresh_stands, given_back, kinds_given_back, known_at, known_room, lent_of, lent_stands, new_room, new_source, new_stands, of_kind-push, row_given_back}
use Rattle.sg_media.proofs.sealing.seal_among.Goals as goal

pub seal_in-requires-clause-source : goal.seal_in-requires-clause-source
seal_in-requires-clause-source c =
    let at = known_at c.args.streams.now.list.items c.ssrc.result c.args.headed.head.ssrc c.in-Some.at c.ssrc.ensures c.in-Some.ensures in
    lent_of c.as_mut_slice-known.result.now c.args.streams.now.list.items c.args.headed.kind c.args.headed.head.ssrc c.in-Some.at c.index-known-at.result c.as_mut_slice-known.ensures.value c.requires.kinds at

pub returns-in-Ok-clause-answer : goal.returns-in-Ok-clause-answer
returns-in-Ok-clause-answer c = λ done s.
    let at = known_at c.args.streams.now.list.items c.ssrc.result c.args.headed.head.ssrc c.in-Some.at c.ssrc.ensures c.in-Some.ensures in
    c.in-Ok.ensures.answer c.args.headed.head.ssrc c.args.roc c.args.window (indices_of done c.args.headed.head.ssrc)
    (lent_stands c.as_mut_slice-known.result.now c.args.streams.now.list.items c.args.roc c.args.window done c.args.headed.head.ssrc c.in-Some.at c.index-known-at.result c.as_mut_slice-known.ensures.value s at)
    ∙ ap (λ b. told_of c.args.headed.kind c.args.headed.pad (roomed b (closed_among c.args.headed c.args.keys.now c.args.tag_len c.args.roc c.args.window done)))
    (known_room c.args.streams.now.list.items c.args.roc c.args.window done c.args.headed.head.ssrc c.in-Some.at s at)

pub returns-in-Err-clause-answer : goal.returns-in-Err-clause-answer
returns-in-Err-clause-answer c = λ done s.
    let at = known_at c.args.streams.now.list.items c.ssrc.result c.args.headed.head.ssrc c.in-Some.at c.ssrc.ensures c.in-Some.ensures in
    c.in-Err.ensures.answer c.args.headed.head.ssrc c.args.roc c.args.window (indices_of done c.args.headed.head.ssrc)
    (lent_stands c.as_mut_slice-known.result.now c.args.streams.now.list.items c.args.roc c.args.window done c.args.headed.head.ssrc c.in-Some.at c.index-known-at.result c.as_mut_slice-known.ensures.value s at)
    ∙ ap (λ b. told_of c.args.headed.kind c.args.headed.pad (roomed b (closed_among c.args.headed c.args.keys.now c.args.tag_len c.args.roc c.args.window done)))
    (known_room c.args.streams.now.list.items c.args.roc c.args.window done c.args.headed.head.ssrc c.in-Some.at s at)

pub returns-in-Ok-clause-streams : goal.returns-in-Ok-clause-streams
returns-in-Ok-clause-streams c = λ done s.
    let at = known_at c.args.streams.now.list.items c.ssrc.result c.args.headed.head.ssrc c.in-Some.at c.ssrc.ensures c.in-Some.ensures in
    let source = c.in-Ok.ensures.source in
    given_back c.as_mut_slice-known.result.now c.args.streams.now.list.items c.args.roc c.args.window done c.in-Some.at c.seal_in.new.stream (entry_out c.args.headed.pad c.in-Ok.sealed) c.as_mut_slice-known.ensures.value s
    (subst (λ n. IsAt c.args.streams.now.list.items n c.in-Some.at) (sym source) at)
    (subst (λ n. StreamStands c.seal_in.new.stream n c.args.roc c.args.window (indices_of done n ++ c.in-Ok.sealed.index ∷ [])) (sym source)
    (c.in-Ok.ensures.stream c.args.headed.head.ssrc c.args.roc c.args.window (indices_of done c.args.headed.head.ssrc) (lent_stands c.as_mut_slice-known.result.now c.args.streams.now.list.items c.args.roc c.args.window done c.args.headed.head.ssrc c.in-Some.at c.index-known-at.result c.as_mut_slice-known.ensures.value s at)))

pub returns-in-Ok-clause-kinds : goal.returns-in-Ok-clause-kinds
returns-in-Ok-clause-kinds c =
    let at = known_at c.args.streams.now.list.items c.ssrc.result c.args.headed.head.ssrc c.in-Some.at c.ssrc.ensures c.in-Some.ensures in
    kinds_given_back c.as_mut_slice-known.result.now c.args.streams.now.list.items c.args.headed.kind c.args.headed.head.ssrc c.in-Some.at c.seal_in.new.stream c.index-known-at.result c.as_mut_slice-known.ensures.value c.requires.kinds at c.in-Ok.ensures.of.0

pub returns-in-Err-clause-kinds : goal.returns-in-Err-clause-kinds
returns-in-Err-clause-kinds c =
    let at = known_at c.args.streams.now.list.items c.ssrc.result c.args.headed.head.ssrc c.in-Some.at c.ssrc.ensures c.in-Some.ensures in
    kinds_given_back c.as_mut_slice-known.result.now c.args.streams.now.list.items c.args.headed.kind c.args.headed.head.ssrc c.in-Some.at c.seal_in.new.stream c.index-known-at.result c.as_mut_slice-known.ensures.value c.requires.kinds at c.in-Err.ensures.of.0

pub returns-in-Ok-seal_in-clause-answer : goal.returns-in-Ok-seal_in-clause-answer
returns-in-Ok-seal_in-clause-answer c = λ done s.
    let new = new_source c.args.streams.now.list.items c.ssrc.result c.args.headed.head.ssrc c.ssrc.ensures c.in-None.ensures in
    c.in-Ok-seal_in.ensures.answer c.args.headed.head.ssrc c.args.roc c.args.window (indices_of done c.args.headed.head.ssrc)
    (fresh_stands c.fresh-stream.result c.args.streams.now.list.items c.args.roc c.args.window done c.ssrc-in-None.result c.args.headed.head.ssrc c.ssrc-in-None.ensures c.fresh-stream.ensures.stands s new)
    ∙ ap (λ b. told_of c.args.headed.kind c.args.headed.pad (roomed b (closed_among c.args.headed c.args.keys.now c.args.tag_len c.args.roc c.args.window done)))
    (ap not (sym c.if-is_full.false ∙ c.is_full.ensures.value) ∙ sym (new_room c.args.streams.now.list.items c.args.roc c.args.window done c.args.headed.head.ssrc s new c.is_full.ensures.fits))

pub returns-in-Err-seal_in-clause-answer : goal.returns-in-Err-seal_in-clause-answer
returns-in-Err-seal_in-clause-answer c = λ done s.
    let new = new_source c.args.streams.now.list.items c.ssrc.result c.args.headed.head.ssrc c.ssrc.ensures c.in-None.ensures in
    c.in-Err-seal_in.ensures.answer c.args.headed.head.ssrc c.args.roc c.args.window (indices_of done c.args.headed.head.ssrc)
    (fresh_stands c.fresh-stream.result c.args.streams.now.list.items c.args.roc c.args.window done c.ssrc-in-None.result c.args.headed.head.ssrc c.ssrc-in-None.ensures c.fresh-stream.ensures.stands s new)
    ∙ ap (λ b. told_of c.args.headed.kind c.args.headed.pad (roomed b (closed_among c.args.headed c.args.keys.now c.args.tag_len c.args.roc c.args.window done)))
    (ap not (sym c.if-is_full.false ∙ c.is_full.ensures.value) ∙ sym (new_room c.args.streams.now.list.items c.args.roc c.args.window done c.args.headed.head.ssrc s new c.is_full.ensures.fits))

pub returns-in-Ok-seal_in-clause-streams : goal.returns-in-Ok-seal_in-clause-streams
returns-in-Ok-seal_in-clause-streams c = λ done s.
    let new = new_source c.args.streams.now.list.items c.ssrc.result c.args.headed.head.ssrc c.ssrc.ensures c.in-None.ensures in
    let source = c.in-Ok-seal_in.ensures.source in
    subst (λ ts. StreamsStand ts c.args.roc c.args.window (done ++ entry_out c.args.headed.pad c.in-Ok-seal_in.sealed ∷ [])) (sym (c.push.ensures.list))
    (new_stands c.args.streams.now.list.items c.args.roc c.args.window done c.seal_in-in-None.new.stream (entry_out c.args.headed.pad c.in-Ok-seal_in.sealed) s
    (subst (λ n. is_in (map source_of c.args.streams.now.list.items) n ≡ false) (sym source) new)
    (subst (λ n. StreamStands c.seal_in-in-None.new.stream n c.args.roc c.args.window (indices_of done n ++ c.in-Ok-seal_in.sealed.index ∷ [])) (sym source)
    (c.in-Ok-seal_in.ensures.stream c.args.headed.head.ssrc c.args.roc c.args.window (indices_of done c.args.headed.head.ssrc) (fresh_stands c.fresh-stream.result c.args.streams.now.list.items c.args.roc c.args.window done c.ssrc-in-None.result c.args.headed.head.ssrc c.ssrc-in-None.ensures c.fresh-stream.ensures.stands s new))))

pub seal_in-requires-in-None-clause-source : goal.seal_in-requires-in-None-clause-source
seal_in-requires-in-None-clause-source c =
    subst (λ n. IsStreamOf c.fresh-stream.result c.args.headed.kind n) c.ssrc-in-None.ensures (subst (λ k. IsStreamOf c.fresh-stream.result k c.ssrc-in-None.result) c.kind.ensures c.fresh-stream.ensures.of)

pub returns-in-Ok-seal_in-clause-kinds : goal.returns-in-Ok-seal_in-clause-kinds
returns-in-Ok-seal_in-clause-kinds c =
    subst (λ (ts : List StreamValue). AreOfKind ts c.args.headed.kind) (sym (c.push.ensures.list))
    (of_kind-push c.args.streams.now.list.items c.args.headed.kind c.seal_in-in-None.new.stream c.requires.kinds (c.in-Ok-seal_in.ensures.of.0 ∙ c.fresh-stream.ensures.of.same_kind ∙ c.kind.ensures))

pub returns-in-Ok-clause-row : goal.returns-in-Ok-clause-row
returns-in-Ok-clause-row c =
    row_given_back c.as_mut_slice-known.result.now c.args.streams.now.list.items c.args.streams.now.row.items c.in-Some.at c.seal_in.new.stream c.index-known-at.result c.as_mut_slice-known.ensures.value c.requires.row c.in-Ok.ensures.of.1

pub returns-in-Err-clause-row : goal.returns-in-Err-clause-row
returns-in-Err-clause-row c =
    row_given_back c.as_mut_slice-known.result.now c.args.streams.now.list.items c.args.streams.now.row.items c.in-Some.at c.seal_in.new.stream c.index-known-at.result c.as_mut_slice-known.ensures.value c.requires.row c.in-Err.ensures.of.1
