use Rattle.std.proofs.Common.{rules, arith, ◌≡◌, ◌≤◌, ◌∙◌, ℕ, List, [], ◌++◌, length, map, take, drop, sym, ap, subst, Err}
use Rattle.std.proofs.Math.Seq.{take-append_seam}
use Rattle.sg_playback.proofs.Common.{Arrival, Event, FrontStandsFor, Playing, arrived, nil_from_length, state_after, text, text_from, told_of, waiting}
use Rattle.sg_playback.proofs.Common.{wrote_none}
use Rattle.sg_playback.proofs.Lines.{few_waiting}
use Rattle.sg_playback.proofs.Plays.{stepped, written_only}
use Rattle.sg_playback.proofs.player.Player.settle.Goals as goal

pub returns-then-is_empty-clause-settled : goal.returns-then-is_empty-clause-settled
returns-then-is_empty-clause-settled g c = λ state stands.
    let items : c.self.inside.arrivals.items ≡ [] = nil_from_length c.self.inside.arrivals.items (search rules) in
    let nothing : c.args.self.now.waits ≡ [] = ap (λ (v : Playing). v.waits) (sym c.self.view_is) ∙ items in
    let none : waiting c.args.self.now ≡ [] = ap (map arrived) nothing in
    ([], wrote_none _, (sym (ap (text_from state) none), none, subst (λ (es : List Event). FrontStandsFor c.args.self.now.front (state_after state es)) (sym none) stands))

pub returns-clause-settled : goal.returns-clause-settled
returns-clause-settled g c = λ state stands.
    let batched = c.batch.ensures state (subst (λ (v : Playing). FrontStandsFor v.front state) (sym c.self.view_is) stands) in
    let came : c.as_mut_slice.result.now ≡ c.args.self.now.waits = search rules in
    let size : length c.batch.new.arrivals ≡ c.replace-arrivals.result.len = search rules in
    let back : c.deref.result.now ≡ c.batch.new.arrivals = c.deref.ensures.value ∙ ap (λ (n : ℕ). take n (c.batch.new.arrivals ++ drop (length c.batch.new.arrivals) c.replace-arrivals.result.items)) (sym size) ∙ take-append_seam c.batch.new.arrivals _ in
    let none : map arrived c.keep_pads.new.told.items ≡ [] = ap (map arrived) c.keep_pads.ensures in
    let told : text (told_of c.deref.result.now) ≡ text_from state (waiting c.args.self.now) =
    ap (λ (ds : List Arrival). text (told_of ds)) back ∙ ap text batched.told ∙ ap (λ (ds : List Arrival). text_from state (map arrived ds)) came in (
      text (told_of c.deref.result.now),
      c.in-Ok.ensures.told,
      (told, none, subst (λ (ds : List Arrival). FrontStandsFor c.batch.new.self (state_after state (map arrived ds))) came batched.stands),
    )

pub returns-in-Err-clause-settled : goal.returns-in-Err-clause-settled
returns-in-Err-clause-settled g c = λ state stands.
    let batched = c.batch.ensures state (subst (λ (v : Playing). FrontStandsFor v.front state) (sym c.self.view_is) stands) in
    let came : c.as_mut_slice.result.now ≡ c.args.self.now.waits = search rules in
    let size : length c.batch.new.arrivals ≡ c.replace-arrivals.result.len = search rules in
    let back : c.deref.result.now ≡ c.batch.new.arrivals = c.deref.ensures.value ∙ ap (λ (n : ℕ). take n (c.batch.new.arrivals ++ drop (length c.batch.new.arrivals) c.replace-arrivals.result.items)) (sym size) ∙ take-append_seam c.batch.new.arrivals _ in
    let told : text (told_of c.deref.result.now) ≡ text_from state (waiting c.args.self.now) =
    ap (λ (ds : List Arrival). text (told_of ds)) back ∙ ap text batched.told ∙ ap (λ (ds : List Arrival). text_from state (map arrived ds)) came in
    let few : length c.args.self.now.waits ≤ 256 = search rules in
    let s = stepped (Err c.in-Err.status) state (waiting c.args.self.now) (FrontStandsFor c.batch.new.self) _ _ (text (told_of c.deref.result.now)) c.in-Err.ensures.told told (subst (λ (ds : List Arrival). FrontStandsFor c.batch.new.self (state_after state (map arrived ds))) came batched.stands) in
    (s.0, s.1, (s.2.0, s.2.1, omega (arith, few_waiting c.args.self.now few)))

pub returns-in-Err-clause-only : goal.returns-in-Err-clause-only
returns-in-Err-clause-only g c = written_only (Err c.in-Err.status) _ _ _ c.in-Err.ensures.told
