-- Numbers in a few bytes, written out.
--   below                               n bytes are below 256 ^ n
--   two_is, four_is                     high byte first
--   service-is, start_is                the fields of the key
--   in-short, in_field, part-number     the number in a field, and in a part of the bytes
--   made-on, room                       one byte more, and room for it
use mathlib.Core.Path.{◌≡◌, refl, sym, ap, ◌∙◌}
use mathlib.Core.List.{List}
use Prim.Native.Nat.{ℕ, zero, suc, ◌+◌, ◌-◌, ◌*◌, ◌^◌, ◌<◌, ◌≤◌, min}
use native.Mathlib.Omega.{arith}
use native.Mathlib.Nat.{pow-suc, pow-le-pow_right}
use native.Mathlib.Numerals.{add-one}
use lib.ListN.{length, take, drop, length-take, length-drop}
use lib.Seq.{get_or-take, get_or-drop}
use borrow.Author.Tests.{lt-ltb, le-ltb}
use Rattle.base.specs.Bytes.{byte}
use Rattle.base.specs.Octets.{Octets}
use Rattle.programme.specs.Field.{number, number_in}
use Rattle.programme.specs.Table.{service_id, time_span_start}

-- numbers in bytes fit so many
pub below : (s : List ℕ) (at : ℕ) → Octets s → (n : ℕ) → number s at n < 256 ^ n
unfolding number
below s at b zero = omega arith
below s at b (suc n) = let h : number s at n < 256 ^ n = below s at b n in rw (pow-suc 256 n) (omega (arith, b (at + n)))

module _ (s : List ℕ) (at : ℕ) where
  pub two_is : number s at 2 ≡ byte s at * 256 + byte s (at + 1)
  unfolding number
  two_is = let e : at + 0 ≡ at = omega arith in rw e (omega arith)

  pub four_is : number s at 4 ≡ number s at 2 * 65536 + byte s (at + 2) * 256 + byte s (at + 3)
  unfolding number
  four_is = omega arith

module _ (s : List ℕ) where
  pub service-is : number s 8 2 ≡ service_id s
  service-is = two_is s 8

  pub start_is : number s 10 4 ≡ time_span_start s
  start_is = rw (four_is s 10, two_is s 10) (omega arith)

module _ (n : ℕ) (f : List ℕ) where
  pub in-short : length f < n → 0 ≡ number_in n f
  unfolding number_in
  in-short l = rw (lt-ltb (length f) n l)

  pub in_field : n ≤ length f → number f 0 n ≡ number_in n f
  unfolding number_in
  in_field l = rw (le-ltb (length f) n l)

-- one byte more
pub made-on : (f : List ℕ) (n : ℕ) {a b : ℕ} → a ≡ number f 0 n → b ≡ byte f n → a * 256 + b ≡ number f 0 (n + 1)
unfolding number
made-on f n p q = let z : 0 + n ≡ n = omega arith in rw (p, q, add-one, z)

-- so many bytes before the eighth leave room for one more
pub room : (f : List ℕ) → Octets f → (n : ℕ) → n < 8 → number f 0 n * 256 + 255 < 2 ^ 64
room f b n l =
    let h : number f 0 n < 256 ^ n = below f 0 b n in
    let few : n ≤ 7 = omega arith in
    let most : 256 ^ n ≤ 256 ^ 7 = pow-le-pow_right (omega arith) few in
    omega arith

-- a byte of a part
byte-part : (s : List ℕ) (at m k : ℕ) → k < m → byte (take m (drop at s)) k ≡ byte s (at + k)
byte-part s at m k l = get_or-take m (drop at s) k 0 l ∙ get_or-drop at s k 0

number-part : (s : List ℕ) (at m n : ℕ) → n ≤ m → number (take m (drop at s)) 0 n ≡ number s at n
unfolding number
number-part s at m zero l = refl
number-part s at m (suc n) l =
    let ih = number-part s at m n (omega arith) in
    let z : 0 + n ≡ n = omega arith in
    rw (ih, z, byte-part s at m n (omega arith))

-- so many bytes from a place
pub part-number : (s : List ℕ) (at m n : ℕ) → m ≡ n → at + n ≤ length s → number_in n (take m (drop at s)) ≡ number s at n
part-number s at m n e l =
    let h : length (take m (drop at s)) ≡ min m (length s - at) = length-take m (drop at s) ∙ ap (min m) (length-drop at s) in
    let fits : n ≤ length (take m (drop at s)) = omega arith in sym (in_field n (take m (drop at s)) fits) ∙ number-part s at m n (omega arith)
