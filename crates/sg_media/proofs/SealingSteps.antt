-- What the states of sealing say of the answer.
use Rattle.std.proofs.Common.{◌≡◌, ℕ, zero, suc, ◌<◌, Bool, List, [], ◌∷◌, length, slice_get, Some, Result, Ok, Err, ap, sym, subst, ◌∙◌}
use Rattle.sg_base.specs.declared.addresses.Kind.{Kind}
use Rattle.sg_base.specs.declared.faults.DropCause.{DropCause}
use Rattle.sg_base.specs.declared.keys.HalfKeys.{HalfKeys}
use Rattle.sg_keys.specs.Live.{Live, spent, spent_if}
use Rattle.sg_keys.proofs.Spending.{same_half, same_mki, same_number}
use Rattle.sg_session.specs.Stages.{after_ok}
use Rattle.sg_states.specs.Choosing.{chosen_to_seal}
use Rattle.sg_states.specs.Outbound.{Outgoing, Numbering, CanSeal, IsNumbered, IsSealedOf, closed, datagram_at, encrypted_at, numbered}
use Rattle.sg_states.specs.declared.outbound.Sealed.{Sealed as StateSealed}
use Rattle.sg_media.specs.declared.outbound.Sealed.{Sealed}
use Rattle.sg_media.specs.Answers.{closed_at, sealed_at, told_of}
use Rattle.sg_media.specs.Ciphers.{EachEncrypts}

get_spent : (n : ℕ) (keys : List Live) (i : ℕ) (k : Live) → slice_get keys i ≡ Some k → slice_get (spent n keys) i ≡ Some (spent_if n k)
get_spent n [] i k e = cc
get_spent n (x ∷ xs) zero k e = let same : x ≡ k = cc in ap (λ (y : Live). Some (spent_if n y)) same
get_spent n (x ∷ xs) (suc i) k e = get_spent n xs i k e

pub at_spent : (keys new : List Live) (place : ℕ) (k : Live) → slice_get keys place ≡ Some k → new ≡ spent k.number keys → slice_get new place ≡ Some (spent_if k.number k)
at_spent keys new place k e s = subst (λ (ks : List Live). slice_get ks place ≡ Some (spent_if k.number k)) (sym s) (get_spent k.number keys place k e)

pub can_seal : (keys new : List Live) (at number : ℕ) (k : Live) (encrypted : Bool) → EachEncrypts keys encrypted → slice_get keys at ≡ Some k → k.number ≡ number → new ≡ spent k.number keys → CanSeal new at number encrypted
can_seal keys new at number k encrypted c e n s = record {
  key = spent_if k.number k;
  here = at_spent keys new at k e s;
  same = same_number k.number k ∙ n;
  cipher = λ on. subst (λ (h : HalfKeys). 0 < length h.encrypt) (sym (same_half k.number k)) (c at k e on);
}

abbrev text_under : Outgoing → ℕ → ℕ → HalfKeys → List ℕ → List ℕ
text_under h tag_len index half mki = closed h.kind half h.head.encrypted tag_len index mki (encrypted_at h h.head.encrypted half index)

-- the datagram of the served key is that of the key
served_text : (h : Outgoing) (tag_len index : ℕ) (k : Live) → text_under h tag_len index (spent_if k.number k).half (spent_if k.number k).mki ≡ text_under h tag_len index k.half k.mki
served_text h tag_len index k = λ i. text_under h tag_len index (same_half k.number k i) (same_mki k.number k i)

pub seal_says : (h : Outgoing) (keys : List Live) (tag_len : ℕ) (r : Result ℕ DropCause) (n : Numbering) (x : IsNumbered h keys n) (kind : Kind) (o : StateSealed) → r ≡ Ok n.index
    → kind ≡ h.kind → IsSealedOf n (spent_if x.key.number x.key) h.head.encrypted tag_len o
    → Ok (record { pad = o.pad; kind = kind; ssrc = o.ssrc; index = o.index; key = o.key }) ≡ told_of h.kind h.pad (sealed_at h keys tag_len r)
seal_says h keys tag_len r n x kind o e k s =
    let text : o.pad ≡ text_under h tag_len n.index x.key.half x.key.mki =
    s.text ∙ ap (λ (g : Outgoing). datagram_at (record n { headed = g }) (spent_if x.key.number x.key) h.head.encrypted tag_len) x.same ∙ served_text h tag_len n.index x.key in
    let ssrc : o.ssrc ≡ h.head.ssrc = s.ssrc ∙ ap (λ (g : Outgoing). g.head.ssrc) x.same in
    let number : o.key ≡ x.key.number = s.number ∙ same_number x.key.number x.key in
    (λ i. let y : Result Sealed (List ℕ × DropCause) = Ok (record { pad = text i; kind = k i; ssrc = ssrc i; index = s.index i; key = number i }) in y)
    ∙ sym (λ i. told_of h.kind h.pad (after_ok (x.choice i) (λ key. after_ok (e i) (λ j. Ok (closed_at h tag_len key j)))))

told_err : (h : Outgoing) (tag_len : ℕ) (k : Result Live DropCause) (r : Result ℕ DropCause) (c : DropCause) → after_ok k (λ key. r) ≡ Err c
    → after_ok k (λ key. after_ok r (λ j. Ok (closed_at h tag_len key j))) ≡ Err c
told_err h tag_len (Err b) r c e = let same : b ≡ c = cc in ap (λ x. Err x) same
told_err h tag_len (Ok k) (Err b) c e = let same : b ≡ c = cc in ap (λ x. Err x) same
told_err h tag_len (Ok k) (Ok j) c e = cc

pub unsealed : (h : Outgoing) (keys : List Live) (tag_len : ℕ) (r : Result ℕ DropCause) (x : List ℕ × DropCause) → x.0 ≡ h.pad → numbered keys r ≡ Err (x.1)
    → Err x ≡ told_of h.kind h.pad (sealed_at h keys tag_len r)
unsealed h keys tag_len r x pad e =
    (λ i. let y : Result Sealed (List ℕ × DropCause) = Err (pad i, x.1) in y) ∙ sym (ap (told_of h.kind h.pad) (told_err h tag_len (chosen_to_seal keys) r (x.1) e))
