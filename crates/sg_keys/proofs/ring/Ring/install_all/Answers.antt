use Rattle.std.proofs.Common.{◌≡◌, ℕ, List, Option, Some, None, map, length, arith, sym, ap, ◌∙◌}
use Rattle.std.proofs.lemmas.List.{length-map, map-id}
use Rattle.sg_session.specs.Ring.{RingKey, key_of}
use Rattle.sg_keys.specs.Reused.{given, reused}
use Rattle.sg_keys.proofs.Reusing.{reused_says, full_says, fits_says}
use Rattle.sg_keys.proofs.ring.Ring.install_all.Goals as goal

told : (held ring news : List RingKey) (o : Option ℕ) → held ≡ ring → o ≡ reused held news → reused ring news ≡ o
told held ring news o is e = ap (λ ring. reused ring news) (sym is) ∙ sym e

pub returns-in-Some-clause-answer : goal.returns-in-Some-clause-answer
returns-in-Some-clause-answer c =
    let news : List RingKey = map given c.args.keys.now in
    reused_says (λ k. k) c.args.self.now news c.args.self.now news (map-id c.args.self.now) (map-id news) c.in-Some.number
    (told c.deref.result.now c.args.self.now news (Some c.in-Some.number) (c.deref.ensures.value ∙ c.self.view_is) c.in-Some.ensures.reused)

pub returns-in-Some-clause-installs : goal.returns-in-Some-clause-installs
returns-in-Some-clause-installs c = λ ring new a b.
    let news : List RingKey = map given c.args.keys.now in
    reused_says key_of ring new c.args.self.now news a b c.in-Some.number
    (told c.deref.result.now c.args.self.now news (Some c.in-Some.number) (c.deref.ensures.value ∙ c.self.view_is) c.in-Some.ensures.reused)

pub returns-then-first-keys-gt-RING_KEYS_MOST-clause-answer : goal.returns-then-first-keys-gt-RING_KEYS_MOST-clause-answer
returns-then-first-keys-gt-RING_KEYS_MOST-clause-answer c =
    let news : List RingKey = map given c.args.keys.now in
    let held : c.deref.result.now ≡ c.args.self.now = c.deref.ensures.value ∙ c.self.view_is in
    full_says (λ k. k) c.args.self.now news c.args.self.now news (map-id c.args.self.now) (map-id news) (told c.deref.result.now c.args.self.now news None held c.in_default.ensures.reused)
    (omega (arith, c.deref.ensures.len, c.len-first.ensures, ap length held, length-map c.args.keys.now given, c.if-first-keys-gt-RING_KEYS_MOST.true))

pub returns-then-first-keys-gt-RING_KEYS_MOST-clause-installs : goal.returns-then-first-keys-gt-RING_KEYS_MOST-clause-installs
returns-then-first-keys-gt-RING_KEYS_MOST-clause-installs c = λ ring new a b.
    let news : List RingKey = map given c.args.keys.now in
    let held : c.deref.result.now ≡ c.args.self.now = c.deref.ensures.value ∙ c.self.view_is in
    full_says key_of ring new c.args.self.now news a b (told c.deref.result.now c.args.self.now news None held c.in_default.ensures.reused)
    (omega (arith, c.deref.ensures.len, c.len-first.ensures, ap length held, length-map c.args.keys.now given, c.if-first-keys-gt-RING_KEYS_MOST.true))

pub returns-in-Ok-clause-answer : goal.returns-in-Ok-clause-answer
returns-in-Ok-clause-answer c =
    let news : List RingKey = map given c.args.keys.now in
    let held : c.deref.result.now ≡ c.args.self.now = c.deref.ensures.value ∙ c.self.view_is in
    fits_says (λ k. k) c.args.self.now news c.args.self.now news (map-id c.args.self.now) (map-id news) (told c.deref.result.now c.args.self.now news None held c.in_default.ensures.reused)
    (omega (arith, c.deref.ensures.len, c.len-first.ensures, ap length held, length-map c.args.keys.now given, c.if-first-keys-gt-RING_KEYS_MOST.false))

pub returns-in-Ok-clause-installs : goal.returns-in-Ok-clause-installs
returns-in-Ok-clause-installs c = λ ring new a b.
    let news : List RingKey = map given c.args.keys.now in
    let held : c.deref.result.now ≡ c.args.self.now = c.deref.ensures.value ∙ c.self.view_is in
    fits_says key_of ring new c.args.self.now news a b (told c.deref.result.now c.args.self.now news None held c.in_default.ensures.reused)
    (omega (arith, c.deref.ensures.len, c.len-first.ensures, ap length held, length-map c.args.keys.now given, c.if-first-keys-gt-RING_KEYS_MOST.false))

pub returns-in-Err-clause-answer : goal.returns-in-Err-clause-answer
returns-in-Err-clause-answer c =
    let news : List RingKey = map given c.args.keys.now in
    let held : c.deref.result.now ≡ c.args.self.now = c.deref.ensures.value ∙ c.self.view_is in
    fits_says (λ k. k) c.args.self.now news c.args.self.now news (map-id c.args.self.now) (map-id news) (told c.deref.result.now c.args.self.now news None held c.in_default.ensures.reused)
    (omega (arith, c.deref.ensures.len, c.len-first.ensures, ap length held, length-map c.args.keys.now given, c.if-first-keys-gt-RING_KEYS_MOST.false))

pub returns-in-Err-clause-installs : goal.returns-in-Err-clause-installs
returns-in-Err-clause-installs c = λ ring new a b.
    let news : List RingKey = map given c.args.keys.now in
    let held : c.deref.result.now ≡ c.args.self.now = c.deref.ensures.value ∙ c.self.view_is in
    fits_says key_of ring new c.args.self.now news a b (told c.deref.result.now c.args.self.now news None held c.in_default.ensures.reused)
    (omega (arith, c.deref.ensures.len, c.len-first.ensures, ap length held, length-map c.args.keys.now given, c.if-first-keys-gt-RING_KEYS_MOST.false))
