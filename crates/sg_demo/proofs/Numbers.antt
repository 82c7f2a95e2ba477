-- Numbers of packets, of which the code keeps the lowest 32 bits.
use Rattle.std.proofs.Common.{◌≡◌, ℕ, ◌+◌, ◌*◌, ◌%◌, ◌^◌, ap, ◌∙◌, arith}
use Rattle.sg_demo.specs.Packets.{packet, packet_of}

pub same_packet : (ssrc n m : ℕ) → m ≡ n % 2 ^ 32 → packet ssrc m ≡ packet ssrc n
same_packet ssrc n m is =
    let seq : m % 2 ^ 16 ≡ n % 2 ^ 16 = omega (arith, is) in
    let time : 160 * m % 2 ^ 32 ≡ 160 * n % 2 ^ 32 = omega (arith, is) in
    let octet : m % 256 ≡ n % 256 = omega (arith, is) in
    ap (λ (x : ℕ). packet_of x (160 * m % 2 ^ 32) ssrc (m % 256)) seq ∙ ap (λ (x : ℕ). packet_of (n % 2 ^ 16) x ssrc (m % 256)) time ∙ ap (λ (x : ℕ). packet_of (n % 2 ^ 16) (160 * n % 2 ^ 32) ssrc x) octet

pub one_more : (n m : ℕ) → m ≡ n % 2 ^ 32 → (m + 1) % 2 ^ 32 ≡ (n + 1) % 2 ^ 32
one_more n m is = omega (arith, is)
