-- What the states of opening say of the answer.
use Rattle.std.proofs.Common.{◌≡◌, ℕ, Bool, true, false, not, List, slice_get, Some, Result, Ok, Err, refl, ap, subst, sym, ◌∙◌}
use Rattle.sg_base.specs.declared.addresses.Kind.{Kind}
use Rattle.sg_base.specs.declared.faults.DropCause.{DropCause}
use Rattle.sg_base.specs.declared.faults.DropCause.TheVariants.{BadTag, StreamsFull}
use Rattle.sg_keys.specs.Live.{Live}
use Rattle.sg_session.specs.Stages.{stop_if}
use Rattle.sg_states.specs.Inbound.{Keying, Placing, IsOpened, IsUnverified, IsVerified, fits_under}
use Rattle.sg_states.specs.declared.inbound.Opened.{Opened as StateOpened}
use Rattle.sg_media.specs.declared.inbound.Opened.{Opened}
use Rattle.sg_media.specs.Answers.{answer_at, entry_at, opened_at}

-- the answer to a keyed datagram whose number has this place
abbrev pub keyed_answer : Keying → Live → Bool → Result ℕ DropCause → Result Opened (List ℕ × DropCause)
keyed_answer k key room r = answer_at k.headed.kind k.headed.pad (opened_at k.headed key room r)

refused_is : (x : List ℕ × DropCause) (pad : List ℕ) (cause : DropCause) → x.0 ≡ pad → x.1 ≡ cause
    → (let r : Result Opened (List ℕ × DropCause) = Err x in r ≡ Err (pad, cause))
refused_is x pad cause a b = λ i. Err (a i, b i)

pub unplaced : (k : Keying) (key : Live) (room : Bool) (r : Result ℕ DropCause) (x : List ℕ × DropCause) → x.0 ≡ k.headed.pad → r ≡ Err (x.1) → Err x ≡ keyed_answer k key room r
unplaced k key room r x pad e = refused_is x k.headed.pad (x.1) pad refl ∙ sym (ap (keyed_answer k key room) e)

abbrev after_tag : Placing → Live → Bool → Bool → Result Opened (List ℕ × DropCause)
after_tag p key room fits = answer_at p.keyed.headed.kind p.keyed.headed.pad (stop_if (not fits) BadTag (stop_if (not room) StreamsFull (Ok (entry_at p.keyed.headed key p.index))))

placed_is : (p : Placing) (key : Live) (room : Bool) (r : Result ℕ DropCause) → r ≡ Ok p.index → keyed_answer p.keyed key room r ≡ after_tag p key room (fits_under p key)
placed_is p key room r e = ap (keyed_answer p.keyed key room) e

pub untagged : (p : Placing) (key : Live) (room : Bool) (r : Result ℕ DropCause) (pad : List ℕ) → r ≡ Ok p.index → IsUnverified p key pad → Err (pad, BadTag) ≡ keyed_answer p.keyed key room r
untagged p key room r pad e u =
    refused_is (pad, BadTag) p.keyed.headed.pad BadTag u.same refl ∙ sym (placed_is p key room r e ∙ ap (after_tag p key room) u.unfit)

pub unroomed : (p : Placing) (key : Live) (room : Bool) (r : Result ℕ DropCause) → r ≡ Ok p.index → fits_under p key ≡ true → room ≡ false
    → Err (p.keyed.headed.pad, StreamsFull) ≡ keyed_answer p.keyed key room r
unroomed p key room r e fits full = sym (placed_is p key room r e ∙ (λ i. after_tag p key (full i) (fits i)))

-- a datagram whose tag fits is the keyed one at the index that was found
pub verified_is : (k : Keying) (keys : List Live) (key : Live) (p v : Placing) → p.keyed ≡ k → slice_get keys k.key ≡ Some key
    → ((x : Live) → slice_get keys p.keyed.key ≡ Some x → IsVerified p x v) → IsVerified (record { keyed = k; index = p.index }) key v
verified_is k keys key p v same here says = subst (λ (q : Placing). IsVerified q key v) (λ i. record { keyed = same i; index = p.index }) (says key (subst (λ (x : Keying). slice_get keys x.key ≡ Some key) (sym same) here))

pub unverified_is : (k : Keying) (keys : List Live) (key : Live) (p : Placing) (pad : List ℕ) → p.keyed ≡ k → slice_get keys k.key ≡ Some key
    → ((x : Live) → slice_get keys p.keyed.key ≡ Some x → IsUnverified p x pad) → IsUnverified (record { keyed = k; index = p.index }) key pad
unverified_is k keys key p pad same here says = subst (λ (q : Placing). IsUnverified q key pad) (λ i. record { keyed = same i; index = p.index }) (says key (subst (λ (x : Keying). slice_get keys x.key ≡ Some key) (sym same) here))

pub opened_by : (p v : Placing) (key : Live) (encrypted : Bool) (o : StateOpened) → v ≡ p → encrypted ≡ v.keyed.headed.head.encrypted → IsOpened v key encrypted o
    → IsOpened p key p.keyed.headed.head.encrypted o
opened_by p v key encrypted o e says is = subst (λ (q : Placing). IsOpened q key q.keyed.headed.head.encrypted o) e (subst (λ b. IsOpened v key b o) says is)

pub opened_says : (p : Placing) (key : Live) (room : Bool) (r : Result ℕ DropCause) (kind : Kind) (o : StateOpened) → r ≡ Ok p.index → fits_under p key ≡ true → room ≡ true
    → kind ≡ p.keyed.headed.kind → IsOpened p key p.keyed.headed.head.encrypted o
    → Ok (record { pad = o.pad; kind = kind; ssrc = o.ssrc; index = o.index; key = o.key }) ≡ keyed_answer p.keyed key room r
opened_says p key room r kind o e fits has k s =
    (λ i. let x : Result Opened (List ℕ × DropCause) = Ok (record { pad = s.packet i; kind = k i; ssrc = s.ssrc i; index = s.index i; key = s.number i }) in x)
    ∙ sym (placed_is p key room r e ∙ (λ i. after_tag p key (has i) (fits i)))
