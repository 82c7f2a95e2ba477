use Rattle.std.proofs.Common.{◌≡◌, ℕ, List, [], ◌∷◌, ◌++◌, Some, None, arith, ap, subst, sym, ◌∙◌}
use Rattle.sg_replay.specs.Freshness.{highest_of, highest_with}
use Rattle.sg_replay.proofs.DoneLists.{highest_of-push}
use Rattle.sg_states.specs.StreamValues.{StreamValue}
use Rattle.sg_states.specs.Streams.{StreamStands}
use Rattle.sg_states.proofs.stream.Stream.take.Goals as goal

pub invariant_of-self : goal.invariant_of-self
invariant_of-self c =
    let indices : List ℕ = c.self.invariant.indices in
    let empty : highest_of indices ≡ None = sym (c.self.invariant.same_highest) ∙ c.in-None.is in
    let here : c.start.result ≡ c.args.index = omega arith in
    record {
      window = c.self.invariant.window;
      indices = indices ++ c.args.index ∷ [];
      same_highest = ap Some here ∙ sym (highest_of-push indices c.args.index ∙ ap (λ o. Some (highest_with o c.args.index)) empty);
      same_seen = c.mark.ensures c.self.invariant.window indices c.self.invariant.same_seen;
    }

pub invariant_of-self-in-Some : goal.invariant_of-self-in-Some
invariant_of-self-in-Some c =
    let indices : List ℕ = c.self.invariant.indices in
    let some : highest_of indices ≡ Some c.in-Some.place = sym (c.self.invariant.same_highest) ∙ c.in-Some.is in
    record {
      window = c.self.invariant.window;
      indices = indices ++ c.args.index ∷ [];
      same_highest = ap Some c.note.ensures ∙ sym (highest_of-push indices c.args.index ∙ ap (λ o. Some (highest_with o c.args.index)) some);
      same_seen = c.mark.ensures c.self.invariant.window indices c.self.invariant.same_seen;
    }

pub returns-in-None-clause-stands : goal.returns-in-None-clause-stands
returns-in-None-clause-stands c = λ ssrc roc window indices st.
    let s = subst (λ (v : StreamValue). StreamStands v ssrc roc window indices) (sym (c.self.view_is)) st in
    let empty : highest_of indices ≡ None = sym (s.top) ∙ c.in-None.is in
    let here : c.start.result ≡ c.args.index = omega arith in
    record {
      source = s.source;
      start = s.start;
      top = ap Some here ∙ sym (highest_of-push indices c.args.index ∙ ap (λ o. Some (highest_with o c.args.index)) empty);
      seen = c.mark.ensures window indices s.seen;
    }

pub returns-in-Some-clause-stands : goal.returns-in-Some-clause-stands
returns-in-Some-clause-stands c = λ ssrc roc window indices st.
    let s = subst (λ (v : StreamValue). StreamStands v ssrc roc window indices) (sym (c.self.view_is)) st in
    let some : highest_of indices ≡ Some c.in-Some.place = sym (s.top) ∙ c.in-Some.is in
    record {
      source = s.source;
      start = s.start;
      top = ap Some c.note.ensures ∙ sym (highest_of-push indices c.args.index ∙ ap (λ o. Some (highest_with o c.args.index)) some);
      seen = c.mark.ensures window indices s.seen;
    }
