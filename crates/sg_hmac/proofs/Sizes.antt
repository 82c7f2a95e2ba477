-- A digest has 20 octets, and so has a code.
use Rattle.std.proofs.Common.{◌≡◌, ℕ, zero, suc, ◌*◌, ◌<◌, ◌/◌, ◌^◌, List, [], ◌∷◌, length, slice_index, refl, ◌∙◌, arith, length-append}
use Rattle.std.specs.Prelude.{All}
use Rattle.std.specs.Int.{w32, to_be_bytes, byte_at}
use Rattle.std.proofs.lemmas.List.Elements.{All-append, All-cons, All-nil}
use Rattle.std.proofs.Math.Nat.{mod-lt}
use Rattle.sha1.specs.Sha1.{sha1, digest_bytes}
use Rattle.sg_hmac.specs.Hmac.{hmac_sha1}

length-digest_bytes : (h : List ℕ) (n : ℕ) → length (digest_bytes h n) ≡ 4 * n
unfolding digest_bytes
length-digest_bytes h zero = refl
length-digest_bytes h (suc n) =
    length-append (digest_bytes h n) _ ∙ (let so_far : length (digest_bytes h n) ≡ 4 * n = length-digest_bytes h n in omega (arith, so_far))

below : (n k : ℕ) → byte_at k n < 256
below n zero = mod-lt n (omega arith)
below n (suc k) = mod-lt (n / 256 ^ suc k) (omega arith)

four : (a b c d : ℕ) → a < 256 → b < 256 → c < 256 → d < 256 → All (λ x. x < 256) (a ∷ b ∷ c ∷ d ∷ [])
four a b c d la lb lc ld =
    let P = λ (x : ℕ). x < 256 in
    All-cons P a (b ∷ c ∷ d ∷ []) la (All-cons P b (c ∷ d ∷ []) lb (All-cons P c (d ∷ []) lc (All-cons P d [] ld (All-nil P))))

word : (n : ℕ) → All (λ x. x < 256) (to_be_bytes w32 n)
word n = four (byte_at 3 n) (byte_at 2 n) (byte_at 1 n) (byte_at 0 n) (below n 3) (below n 2) (below n 1) (below n 0)

All-digest_bytes : (h : List ℕ) (n : ℕ) → All (λ x. x < 256) (digest_bytes h n)
unfolding digest_bytes
All-digest_bytes h zero = All-nil (λ x. x < 256)
All-digest_bytes h (suc n) = All-append (λ x. x < 256) _ _ (All-digest_bytes h n) (word (slice_index h n))

pub length-hmac_sha1 : (key text : List ℕ) → length (hmac_sha1 key text) ≡ 20
unfolding hmac_sha1 sha1
length-hmac_sha1 key text = length-digest_bytes _ 5

pub All-hmac_sha1 : (key text : List ℕ) → All (λ x. x < 256) (hmac_sha1 key text)
unfolding hmac_sha1 sha1
All-hmac_sha1 key text = All-digest_bytes _ 5
